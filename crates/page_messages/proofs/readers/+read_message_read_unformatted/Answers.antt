use Rattle.std.proofs.Common.{arith}
use Rattle.page_messages.proofs.Handing.{room_left, over, message_next, back, last}
use Rattle.page_messages.proofs.readers.+read_message_read_unformatted.Goals as goal

pub read_message-returns : goal.read_message-returns
read_message-returns t c =
    over _ _ c.requires.0 c.requires.1 _ _ _ _ c.code_of.ensures c.read_unformatted.ensures

pub read_unformatted-read_message-requires : goal.read_unformatted-read_message-requires
read_unformatted-read_message-requires t c =
    let counted = c.unformatted_ahead-count.ensures in
    let inside = c.if-next-pages.true in
    (omega arith, (inside, message_next _ _ _ counted inside, room_left _ _ _ counted _ _ _ _ inside c.requires.1))

pub read_unformatted-returns-then-next-pages : goal.read_unformatted-returns-then-next-pages
read_unformatted-returns-then-next-pages t c = back _ _ _ c.unformatted_ahead-count.ensures _ _ _ c.read_message.ensures

pub read_unformatted-returns-else-next-pages : goal.read_unformatted-returns-else-next-pages
read_unformatted-returns-else-next-pages t c = last _ _ _ c.unformatted_ahead-count.ensures _ _ c.if-next-pages.false
