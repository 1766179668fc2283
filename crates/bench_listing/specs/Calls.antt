-- The call that lists: what it says, and its two lent lists afterwards; and bytes put into a lent list.
use Rattle.std.specs.Prelude.{ℕ, ◌+◌, ◌≤◌, ◌≡◌, ◌&&◌, List, length, if◌then◌else◌}
use Rattle.answers.specs.Choices.{◌≤?◌}
use Rattle.answers.specs.Answers.{Said, refused, number, put_at}
use Rattle.answers.specs.declared.Refusal.TheVariants.{Room}
use Rattle.bench_listing.specs.Listing.{listing, listed_readings}

pub record Listed : Type 0 where
  pub says : Said
  pub readings : List ℕ
  pub output : List ℕ

-- The number of bytes of the listing; the readings that are listed and the listing, each at the head of its list. If there is no room for 8 000 readings in the one
-- list, or in the other for a first and a last line of 20 bytes each and 8 000 lines of 23 bytes (no listing is longer), 12, Room, whatever the input, and
-- both are left as they were. (14, 12 and 15 for the input are text, and this call does not answer them.)
unfoldable pub listed : (input readings output : List ℕ) → Listed
listed input readings output =
    if 8000 ≤? length readings && 184040 ≤? length output
    then record { says = number (length (listing input)); readings = put_at 0 (listed_readings input) readings; output = put_at 0 (listing input) output }
    else record { says = refused Room; readings = readings; output = output }

-- That a function has put just these bytes into a list from an index on: they fit, this is the list afterwards, and this is the index behind them.
pub record Puts (before : List ℕ) (at : ℕ) (bytes after : List ℕ) (next : ℕ) : Type 0 where
  pub fits : at + length bytes ≤ length before
  pub contents : after ≡ put_at at bytes before
  pub behind : next ≡ at + length bytes
