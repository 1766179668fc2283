-- 01's amendments, request 7: the rounds, and which pages are the own and the held one at each.
use Rattle.std.specs.Prelude.{ℕ, Bool, true, false}
use Rattle.port_state.specs.declared.rounds.Round.{Round}
use Rattle.port_state.specs.declared.rounds.Round.TheVariants.{Base, First, Later}
use Rattle.port_state.specs.declared.Link.{Link}

-- "the round (base, first or later)": a choice by it, in this order.
abbrev pub by_round : {A : Type 0} → Round → (base first later : A) → A
by_round Base base first later = base
by_round First base first later = first
by_round Later base first later = later

abbrev pub is_base : Round → Bool
is_base round = by_round round true false false

abbrev pub is_first : Round → Bool
is_first round = by_round round false true false

-- "The own page is the own base page at round base, else the own Next Page."
abbrev pub own_in_round : Link → ℕ
own_in_round link = by_round link.next.round link.talk.own link.next.own link.next.own

-- "The held page is the held base page at rounds base and first, else the held Next Page."
abbrev pub held_in_round : Link → ℕ
held_in_round link = by_round link.next.round link.talk.held link.talk.held link.next.held
