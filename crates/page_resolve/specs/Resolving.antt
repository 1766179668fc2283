-- 01, "Rate and role": "Resolving is also a public call on any two words: Wide, Selector of either, Tie, None, Roles, in that order."
use Rattle.std.specs.Prelude.{ℕ, Bool, true, false, ◌||◌, List, if◌then◌else◌, Option, Some, None, Result, Ok, Err}
use Rattle.answers.specs.declared.Refusal.{Refusal}
use Rattle.answers.specs.declared.Refusal.TheVariants as refusal
use Rattle.answers.specs.Answers.{Said, refused, settled_on}
use Rattle.page_word.specs.Word.{is_wide}
use Rattle.page_word.specs.Fields.{has_other_selector, is_tie}
use Rattle.page_resolve.specs.declared.roles.Role.{Role}
use Rattle.page_resolve.specs.declared.roles.Role.TheVariants.{Master, Slave}
use Rattle.page_resolve.specs.declared.resolving.Settled.{Settled}
use Rattle.page_resolve.specs.Rates.{rate_order, common_of, first_of}
use Rattle.page_resolve.specs.Roles.{role_of}

-- What two words come to: the ability and whether the own side is master, or a refusal.
abbrev pub Resolution : Type 0
Resolution = Result Settled Refusal

abbrev pub rate_and_role : (ability : ℕ) (master : Bool) → Resolution
rate_and_role ability master = Ok (record { ability = ability; master = master })

-- "None, Roles, in that order", else the ability and whether the own side is master.
abbrev pub settled_by : Option ℕ → Option Role → Resolution
settled_by None role = Err refusal.None
settled_by (Some n) None = Err refusal.Roles
settled_by (Some n) (Some Master) = rate_and_role n true
settled_by (Some n) (Some Slave) = rate_and_role n false

-- What two words come to, with the abilities of any ordered list: "Wide, Selector of either, Tie, None, Roles, in that order".
unfoldable pub resolution_of : (order : List ℕ) (own partner : ℕ) → Resolution
resolution_of order own partner =
    if is_wide own || is_wide partner then Err refusal.Wide
    else if has_other_selector own || has_other_selector partner then Err refusal.Selector
    else if is_tie own partner then Err refusal.Tie
    else settled_by (first_of (common_of order own partner)) (role_of own partner)

-- The number and value of each.
abbrev pub said_of : Resolution → Said
said_of (Err refusal) = refused refusal
said_of (Ok settled) = settled_on settled.ability settled.master

-- What the resolve call says, with 01's order. It "keeps no state: 4, 5, 8, 9 are then bare answers".
unfoldable pub resolve_says : (own partner : ℕ) → Said
resolve_says own partner = said_of (resolution_of rate_order own partner)
