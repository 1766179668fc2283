-- A byte that std makes of yes or no is the one that a record has for it.
use Rattle.std.proofs.Common.{◌≡◌, Bool, true, false, refl}
use Rattle.std.specs.Int.{from_bool}
use Rattle.port_state.specs.PlainRecords.{one_if}

pub from_bool_one_if : (test : Bool) → from_bool test ≡ one_if test
from_bool_one_if true = refl
from_bool_one_if false = refl
