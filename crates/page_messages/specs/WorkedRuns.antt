-- Runs worked out, and the list that is left: 7 stands in it where nothing is told.
use Rattle.std.specs.Prelude.{ℕ, ◌+◌, ◌-◌, ◌^◌, ◌≡◌, List, [], ◌∷◌, ◌++◌, drop, replicate}
use Rattle.answers.specs.declared.Refusal.{Refusal}
use Rattle.answers.specs.declared.Refusal.TheVariants.{Room, Wide, Run, Length}
use Rattle.answers.specs.Answers.{number, leaving, kept}
use Rattle.page_messages.specs.Telling.{messages_of}

-- A list in which nothing is told yet.
abbrev pub cells : (n : ℕ) → List ℕ
cells n = replicate n 7

-- A call with so many cells: it has this refusal, and the cells are kept.
abbrev pub CellsKept : (pages : List ℕ) (n : ℕ) (refusal : Refusal) → Type 0
CellsKept pages n refusal = messages_of pages (cells n) ≡ kept refusal (cells n)

pub record WorkedRuns : Type 0 where
  -- For example a head's model, the nine letters EMB-40 17, as they are heard with Ack one: a message page with code 6, in whose upper bits the 9 stands, and two
  -- unformatted pages with the letters. (No paper says how a model is told.) The last three cells are past the message.
  pub model : messages_of (0x9E806 ∷ 0x342D424DC045 ∷ 0x3731204830 ∷ []) (cells 6) ≡ leaving (number 1) (6 ∷ 0 ∷ 2 ∷ cells 3)
  -- Three messages, with two unformatted pages, with none and with one. Only D13 tells the kind of a page: in the last two pages all other bits are one; and the code
  -- is D0-10 of the message page, also if it is 0.
  pub several : messages_of (0x2006 ∷ 0 ∷ 6 ∷ 0x2000 ∷ (2 ^ 48 - 1) ∷ 0xFFFFFFFFDFFF ∷ []) (cells 9)
      ≡ leaving (number 3) (6 ∷ 0 ∷ 2 ∷ 0 ∷ 3 ∷ 0 ∷ 2047 ∷ 4 ∷ 1 ∷ [])
  -- "An empty run gives an empty list."
  pub empty : (list : List ℕ) → messages_of [] list ≡ leaving (number 0) list
  -- The longest runs: one message, and as many messages as pages, of which the last is told too.
  pub one_message : messages_of (0x2001 ∷ replicate 63 0) (cells 3) ≡ leaving (number 1) (1 ∷ 0 ∷ 63 ∷ [])
  pub all_messages : (messages_of (replicate 64 0x2001) (cells 192)).says ≡ number 64
  pub last_of_all : drop 189 (messages_of (replicate 64 0x2001) (cells 192)).list ≡ 1 ∷ 63 ∷ 0 ∷ []
  -- "25 Length, over 64; 13 Wide, any page of 2^48 or more; 24 Run, an unformatted page first"; 12, Room: two messages take six cells, and 64 take 192.
  pub too_long : CellsKept (replicate 65 0x2001) 195 Length
  pub wide_alone : CellsKept ((2 ^ 49 + 0x2001) ∷ []) 3 Wide
  pub wide_last : CellsKept (replicate 63 0x2001 ++ (2 ^ 48 ∷ [])) 0 Wide
  pub run : CellsKept (0 ∷ 0x2001 ∷ []) 3 Run
  pub room : CellsKept (0x2001 ∷ 0x2001 ∷ []) 5 Room
  pub room_for_all : CellsKept (replicate 64 0x2001) 191 Room
  -- "in order": all four at once, then without Length, then without Wide.
  pub length_first : CellsKept (0 ∷ 2 ^ 48 ∷ replicate 63 0x2001) 0 Length
  pub wide_next : CellsKept (0 ∷ 2 ^ 48 ∷ 0x2001 ∷ []) 0 Wide
  pub run_next : CellsKept (0 ∷ 0x2001 ∷ []) 0 Run
