use Rattle.std.proofs.Common.{sym}
use Rattle.line_captures.proofs.CaptureLaws.{first_opens}
use Rattle.line_captures.proofs.captures.next_opens.Goals as goal

pub returns-in-Fresh : goal.returns-in-Fresh
returns-in-Fresh c = rw c.in-Fresh.is (sym (first_opens _ _ _ _))
