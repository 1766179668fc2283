-- What each of the two readers leaves in the list, over the definitions alone.
use mathlib.Core.Path.{◌≡◌, refl, sym, ap, ◌∙◌}
use mathlib.Core.Bool.{true, not}
use mathlib.Core.List.{List, [], ◌∷◌}
use Prim.Native.Nat.{ℕ, suc, ◌+◌, ◌-◌, ◌*◌, ◌<◌, ◌≤◌}
use native.Mathlib.Omega.{arith}
use lib.ListN.{length, take, drop, get_or, set, length-drop, length-set}
use lib.Seq.{sets, take_all, drop-drop, get_or-drop}
use Rattle.std.specs.List.{take_while}
use Rattle.page_messages.specs.Messages.{is_message_page, code_of, Message, unformatted_ahead, messages_in}
use Rattle.page_messages.specs.Telling.{told_from, cells_of}
use Rattle.page_messages.specs.Readers.{cells_after}
use Rattle.page_messages.proofs.Looking.{ahead_by_test, skipped, ends, no_message_left, message_here}

-- Three cells a message.
pub three_each : (place : ℕ) (messages : List Message) → length (cells_of (told_from place messages)) ≡ 3 * length messages
unfolding cells_of told_from
three_each place [] = refl
three_each place (m ∷ later) = let h = three_each (place + suc (length m.unformatted)) later in omega arith

-- The reader of a message, at a message page.
module _ (l : List ℕ) (at : ℕ) (inside : at < length l) (message : is_message_page (get_or l at 0) ≡ true) where
  pub one_more : length (messages_in (drop at l)) ≡ 1 + length (messages_in (drop (at + 1) l))
  one_more = let e = ap length (message_here l at inside message) in omega arith

  cells_here : cells_of (told_from at (messages_in (drop at l))) ≡ code_of (get_or l at 0) ∷ (at ∷ cells_after at l)
  unfolding cells_of told_from cells_after
  cells_here =
      ap (λ (messages : List Message). cells_of (told_from at messages)) (message_here l at inside message)
      ∙ ap (λ (n : ℕ). code_of (get_or l at 0) ∷ (at ∷ (length (unformatted_ahead (drop (at + 1) l)) ∷ cells_of (told_from n (messages_in (drop (at + 1) l))))))
      (let e : at + suc (length (unformatted_ahead (drop (at + 1) l))) ≡ at + 1 + length (unformatted_ahead (drop (at + 1) l)) = omega arith in e)

  -- It has told the code and the place, and the reader of the unformatted pages all that comes after these.
  pub over : (list out : List ℕ) (told code : ℕ) → code ≡ code_of (get_or l at 0)
      → out ≡ sets (set (set list told code) (told + 1) at) (told + 2) (cells_after at l)
      → out ≡ sets list told (cells_of (told_from at (messages_in (drop at l))))
  over list out told code c e =
      e
      ∙ ap (λ (k : ℕ). sets (set (set list told k) (told + 1) at) (told + 2) (cells_after at l)) c
      ∙ ap (λ (k : ℕ). sets (set (set list told (code_of (get_or l at 0))) k at) (told + 2) (cells_after at l)) (let f : told + 1 ≡ suc told = omega arith in f)
      ∙ ap (λ (k : ℕ). sets (set (set list told (code_of (get_or l at 0))) (suc told) at) k (cells_after at l)) (let f : told + 2 ≡ suc (suc told) = omega arith in f)
      ∙ ap (sets list told) (sym cells_here)

-- The reader of the unformatted pages, which has counted them in the rest of the run.
module _ (l : List ℕ) (first count : ℕ) (counted : count ≡ length (take_while (λ page. not (is_message_page page)) (take (length l - (first + 1)) (drop (first + 1) l)))) where
  number : count ≡ length (unformatted_ahead (drop (first + 1) l))
  number =
      counted
      ∙ ap (λ (later : List ℕ). length (take_while (λ page. not (is_message_page page)) later)) (take_all (length l - (first + 1)) (drop (first + 1) l) (let d = length-drop (first + 1) l in omega arith))
      ∙ ap length (sym (ahead_by_test (drop (first + 1) l)))

  same_messages : messages_in (drop (first + 1 + count) l) ≡ messages_in (drop (first + 1) l)
  same_messages =
      ap (λ (n : ℕ). messages_in (drop (first + 1 + n) l)) number
      ∙ ap messages_in (sym (drop-drop (length (unformatted_ahead (drop (first + 1) l))) (first + 1) l))
      ∙ skipped (drop (first + 1) l)

  pub message_next : first + 1 + count < length l → is_message_page (get_or l (first + 1 + count) 0) ≡ true
  message_next h =
      ap (λ (n : ℕ). is_message_page (get_or l (first + 1 + n) 0)) number
      ∙ ap is_message_page (sym (get_or-drop (first + 1) l (length (unformatted_ahead (drop (first + 1) l))) 0))
      ∙ ends (drop (first + 1) l) (let d = length-drop (first + 1) l in let n = number in omega arith)

  cells_after_law : cells_after first l ≡ count ∷ cells_of (told_from (first + 1 + count) (messages_in (drop (first + 1 + count) l)))
  unfolding cells_after
  cells_after_law =
      ap (λ (n : ℕ). n ∷ cells_of (told_from (first + 1 + n) (messages_in (drop (first + 1) l)))) (sym number)
      ∙ ap (λ (messages : List Message). count ∷ cells_of (told_from (first + 1 + count) messages)) (sym same_messages)

  -- The list has room for the next message, as it had for all that were left.
  pub room_left : (list : List ℕ) (i a told : ℕ) → first + 1 + count < length l → told + 3 + 3 * length (messages_in (drop (first + 1) l)) ≤ length list
      → told + 3 + 3 + 3 * length (messages_in (drop (first + 1 + count + 1) l)) ≤ length (set list i a)
  room_left list i a told h room =
      let more = one_more l (first + 1 + count) h (message_next h) in
      let same = ap length same_messages in
      let long = length-set list i a in omega arith

  -- Where it hands back, the reader of the next message tells the rest;
  pub back : (list out : List ℕ) (told : ℕ)
      → out ≡ sets (set list (told + 2) count) (told + 3) (cells_of (told_from (first + 1 + count) (messages_in (drop (first + 1 + count) l))))
      → out ≡ sets list (told + 2) (cells_after first l)
  back list out told e =
      e
      ∙ ap (λ (k : ℕ). sets (set list (told + 2) count) k (cells_of (told_from (first + 1 + count) (messages_in (drop (first + 1 + count) l))))) (let f : told + 3 ≡ suc (told + 2) = omega arith in f)
      ∙ ap (sets list (told + 2)) (sym cells_after_law)

  -- at the end there is none.
  pub last : (list : List ℕ) (told : ℕ) → length l ≤ first + 1 + count → set list (told + 2) count ≡ sets list (told + 2) (cells_after first l)
  unfolding cells_of told_from
  last list told h =
      ap (λ (messages : List Message). sets list (told + 2) (count ∷ cells_of (told_from (first + 1 + count) messages))) (sym (no_message_left l (first + 1 + count) h))
      ∙ ap (sets list (told + 2)) (sym cells_after_law)
