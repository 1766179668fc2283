-- Twice the number of unread pages, and one more for the reader of the unformatted pages, falls at each call.
use Rattle.std.proofs.Common.{length, ◌-◌, ◌+◌, ◌*◌}
use Rattle.page_messages.proofs.readers.+read_message_read_unformatted.Given as goal

abbrev pub decreases-read_message : goal.decreases-read_message
decreases-read_message l = 2 * (length l.pages.now - l.at)

abbrev pub decreases-read_unformatted : goal.decreases-read_unformatted
decreases-read_unformatted l = 2 * (length l.pages.now - l.first - 1) + 1
