-- 01, "The line": "Each mode owns its numbers: spacing, tolerance, quiet limit."
use Rattle.std.specs.Prelude.{ℕ, true, false, if◌then◌else◌, Option, Some, None}
use Rattle.answers.specs.Choices.{◌=?◌}
use Rattle.line_mode.specs.declared.modes.LineMode.{LineMode}

-- "Mode 0 is HSM: 30, 9, 130 ns." `slow` says which of the two delimiters the mode has: the low-speed one or not.
abbrev pub hsm_mode : LineMode
hsm_mode = record { spacing = 30; tolerance = 9; quiet = 130; slow = false }

-- "Mode 1 is LSM: 800, 240, 3441 ns."
abbrev pub lsm_mode : LineMode
lsm_mode = record { spacing = 800; tolerance = 240; quiet = 3441; slow = true }

-- The mode that a number names, if it does. Row 14 of the refusals, Mode: "not 0 or 1".
unfoldable pub mode_of : (number : ℕ) → Option LineMode
mode_of number = if number =? 0 then Some hsm_mode else if number =? 1 then Some lsm_mode else None

-- What a call gives in the mode that its number names, and what it gives where the number names none.
abbrev pub by_mode : {A : Type 0} → (found : Option LineMode) (known : LineMode → A) (unknown : A) → A
by_mode (Some mode) known unknown = known mode
by_mode None known unknown = unknown
