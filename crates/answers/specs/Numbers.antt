-- 01, "Refusal numbers": the table's first two columns; and what 01's amendments and requests of 02 add to them.
use Rattle.std.specs.Prelude.{ℕ, List, [], ◌∷◌, if◌then◌else◌}
use Rattle.answers.specs.Choices.{◌=?◌}
use Rattle.answers.specs.declared.Refusal.{Refusal}
use Rattle.answers.specs.declared.Refusal.TheVariants.{Gap, Cut, Check, Selector, Tie, Changed, Echo, None, Roles, Register, Turn, Room, Wide, Mode, Odd, Toggle, Symbol, Count, Run, Length}

-- Each refusal's number.
abbrev pub number_of : Refusal → ℕ
number_of Gap = 1
number_of Cut = 2
number_of Check = 3
number_of Selector = 4
number_of Tie = 5
number_of Changed = 6
number_of Echo = 7
number_of None = 8
number_of Roles = 9
number_of Register = 10
number_of Turn = 11
number_of Room = 12
number_of Wide = 13
number_of Mode = 14
number_of Odd = 15
-- 01's amendments, request 7: "Refusals: 17 Toggle (Break)".
number_of Toggle = 17
-- 02, request 10: "20 Symbol, 512 or more in the burst or in the lent state", "21 Count, a burst that takes the count past 406, or a finish at a count other than 406".
number_of Symbol = 20
number_of Count = 21
-- 02, request 8: "25 Length, over 64", "24 Run, an unformatted page first".
number_of Run = 24
number_of Length = 25

-- The first of these refusals that has this number; Gap, if none has.
abbrev pub first_numbered : (number : ℕ) → List Refusal → Refusal
first_numbered number [] = Gap
first_numbered number (refusal ∷ rest) = if number =? number_of refusal then refusal else first_numbered number rest

-- The refusal that a number names; Gap, if it names none of these. (Gap itself needs no place in the list.)
unfoldable pub refusal_of : (number : ℕ) → Refusal
refusal_of number =
    first_numbered number
    (Cut ∷ Check ∷ Selector ∷ Tie ∷ Changed ∷ Echo ∷ None ∷ Roles ∷ Register ∷ Turn ∷ Room ∷ Wide ∷ Mode ∷ Odd ∷ Toggle ∷ Symbol ∷ Count ∷ Run ∷ Length ∷ [])
