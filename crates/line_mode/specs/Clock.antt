-- 01, "The line": "Clock readings are 32 bits, in ns."
use Rattle.std.specs.Prelude.{ℕ, ◌+◌, ◌-◌, ◌%◌, ◌^◌}

-- "The time between two is the later less the earlier modulo 2^32, also where the counter rolled over or went back."
-- (2^32 is added before the earlier is taken away, so that the difference is never below zero.)
abbrev pub time_between : (later earlier : ℕ) → ℕ
time_between later earlier = (later + (2 ^ 32 - earlier % 2 ^ 32)) % 2 ^ 32
