-- What is said tells what was heard: where an edge or a read call says a page, that page was heard or answered, and no other case says the same.
use Rattle.std.specs.Prelude.{Some, None, Ok, Err}
use mathlib.Core.Path.{◌≡◌, refl, ap}
use Prim.Native.Nat.{ℕ}
use native.Mathlib.Omega.{arith}
use Rattle.answers.specs.declared.Refusal.{Refusal}
use Rattle.answers.specs.declared.Answer.{Answer}
use Rattle.answers.specs.declared.Answer.TheVariants.{Refused, Page}
use Rattle.answers.specs.Answers.{Said, refused, nothing, page_read}
use Rattle.answers.proofs.OneAnswer.{one_answer}
use Rattle.line_reader.specs.Endings.{refusal_of, said_of_ending, said_of_heard, Ending, Heard}
use Rattle.line_captures.specs.declared.captures.Attempt.{Attempt}
use Rattle.line_captures.specs.Captures.{said_of_read, ReadOutcome, attempt}

-- No page is said where nothing is, or something is refused.
silent_page : {A : Type 0} (w : ℕ) → nothing ≡ page_read w → A
silent_page w h = absurd (let k = ap (λ (s : Said). s.kind) h in omega arith)

refused_page : {A : Type 0} (r : Refusal) (w : ℕ) → refused r ≡ page_read w → A
refused_page r w h = let one : ◌≡◌ {A = Answer} (Refused r) (Page w) = one_answer (Refused r) (Page w) refl refl h in absurd (cc one)

good_ending : (e : Ending) (w : ℕ) → said_of_ending e ≡ page_read w → e ≡ Ok w
good_ending (Ok v) w h = ap Ok (ap (λ (s : Said). s.value) h)
good_ending (Err broken) w h = refused_page (refusal_of broken) w h

pub heard_page : (heard : Heard) (w : ℕ) → said_of_heard heard ≡ page_read w → heard ≡ Some (Ok w)
heard_page None w h = silent_page w h
heard_page (Some e) w h = ap Some (good_ending e w h)

pub record AnswersPage (outcome : ReadOutcome) (w : ℕ) : Type 0 where
  pub next : ℕ
  pub told : outcome ≡ attempt (Ok w) next

pub read_page : (outcome : ReadOutcome) (w : ℕ) → said_of_read outcome ≡ page_read w → AnswersPage outcome w
read_page (Err refusal) w h = refused_page refusal w h
read_page (Ok None) w h = silent_page w h
read_page (Ok (Some a)) w h = record { next = a.next; told = ap (λ (x : Ending). attempt x a.next) (good_ending a.ending w h) }

-- An attempt is told by its ending and its next place.
module _ {e f : Ending} {n k : ℕ} (h : attempt e n ≡ attempt f k) where
  same : ◌≡◌ {A = Attempt} (record { ending = e; next = n }) (record { ending = f; next = k })
  same = cc h

  pub same_ending : e ≡ f
  same_ending = ap (λ (a : Attempt). a.ending) same

  pub same_next : n ≡ k
  same_next = ap (λ (a : Attempt). a.next) same
