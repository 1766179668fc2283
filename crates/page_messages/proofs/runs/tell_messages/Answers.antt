use Rattle.std.proofs.Common.{arith}
use Rattle.page_messages.proofs.Handing.{one_more}
use Rattle.page_messages.proofs.runs.tell_messages.Goals as goal

pub read_message-requires : goal.read_message-requires
read_message-requires c =
    let more = one_more c.args.pages.now 0 c.requires.0 c.requires.2 in
    (c.requires.0, c.requires.2, omega arith)
