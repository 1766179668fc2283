-- The worked runs, computed from the definitions.
use mathlib.Core.Path.{refl}
use Rattle.page_word.specs.Fields.{part}
use Rattle.page_messages.specs.Messages.{unformatted_ahead, messages_in}
use Rattle.page_messages.specs.Telling.{told_from, cells_of, any_wide, telling_of, messages_of}
use Rattle.page_messages.specs.WorkedRuns.{WorkedRuns}
use Rattle.page_messages.proofs.Answering.{empty_run}

pub worked_runs : WorkedRuns
unfolding part unformatted_ahead messages_in told_from cells_of any_wide telling_of messages_of
worked_runs =
    record {
      model = refl;
      several = refl;
      empty = λ list. empty_run list;
      one_message = refl;
      all_messages = refl;
      last_of_all = refl;
      too_long = refl;
      wide_alone = refl;
      wide_last = refl;
      run = refl;
      room = refl;
      room_for_all = refl;
      length_first = refl;
      wide_next = refl;
      run_next = refl;
    }
