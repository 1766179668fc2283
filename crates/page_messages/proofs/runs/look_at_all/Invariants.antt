-- The pages looked at so far and those still to come are all.
use Rattle.std.proofs.Common.{◌≡◌, ◌+◌, ◌||◌, length, drop}
use Rattle.page_messages.specs.Messages.{messages_in}
use Rattle.page_messages.specs.Telling.{any_wide}
use Rattle.page_messages.proofs.runs.look_at_all.Given as goal

abbrev pub invariant-loop-page : goal.invariant-loop-page
invariant-loop-page l =
    record {
      count : l.count + length (messages_in (drop l.page-index l.pages)) ≡ length (messages_in l.pages);
      found : (l.wide || any_wide (drop l.page-index l.pages)) ≡ any_wide l.pages;
    }
