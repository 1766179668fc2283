-- 01, "The line": how an attempt ends, and what is said of it.
use Rattle.std.specs.Prelude.{ℕ, Option, Some, None, Result, Ok, Err}
use Rattle.answers.specs.Answers.{Said, nothing, refused, page_read}
use Rattle.answers.specs.declared.Refusal.{Refusal}
use Rattle.answers.specs.declared.Refusal.TheVariants as refusal
use Rattle.line_reader.specs.declared.endings.Broken.{Broken}
use Rattle.line_reader.specs.declared.endings.Broken.TheVariants.{Gap, Cut, Check}

-- How an attempt ends: with a good page's word, or broken.
abbrev pub Ending : Type 0
Ending = Result ℕ Broken

-- What an edge says: nothing, or how the attempt ended.
abbrev pub Heard : Type 0
Heard = Option Ending

-- Rows 1 to 3 of the refusals, Gap, Cut and Check: "attempt ended".
abbrev pub refusal_of : Broken → Refusal
refusal_of Gap = refusal.Gap
refusal_of Cut = refusal.Cut
refusal_of Check = refusal.Check

-- "A good page not refused answers itself", and a broken attempt its refusal.
abbrev pub said_of_ending : Ending → Said
said_of_ending (Ok word) = page_read word
said_of_ending (Err broken) = refused (refusal_of broken)

-- Of an edge that ends no attempt nothing is said.
abbrev pub said_of_heard : Heard → Said
said_of_heard None = nothing
said_of_heard (Some ending) = said_of_ending ending
