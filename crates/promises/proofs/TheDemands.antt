-- The customer's demands hold.
use Rattle.promises.specs.Demands.{Demands}
use Rattle.line_captures.proofs.ReadingProved.{high_speed_back, low_speed_back}
use Rattle.page_messages.proofs.Covered.{message_runs}
use Rattle.page_messages.proofs.Worked.{worked_runs}
use Rattle.frame_field.proofs.FieldProved.{field_laws}
use Rattle.frame_polynomial.proofs.FramesProved.{frame_facts}
use Rattle.frame_parity.proofs.Cutting.{any_cutting}
use Rattle.frame_parity.proofs.Worked.{worked_frames}
use Rattle.port_lent.proofs.LentProved.{lent_device}
use Rattle.promises.proofs.Single.{no_second_answer}
use Rattle.promises.proofs.Unmade.{not_made}
use Rattle.promises.proofs.MadeFacts.{made_by_calls}
use Rattle.promises.proofs.DeviceReads.{at_the_device}
use Rattle.promises.proofs.PagesApart.{small_damage}
use Rattle.promises.proofs.EndsAgree.{both_ends}
use Rattle.promises.proofs.NoPageOutlives.{no_page_outlives_its_link}
use Rattle.promises.proofs.GoodAsNew.{as_if_new}
use Rattle.promises.proofs.TheTable.{table}
use Rattle.promises.proofs.Links.{first_link, worked_pasts}
use Rattle.promises.proofs.Refused.{each_refusal}
use Rattle.promises.proofs.NextPagesWorked.{next_page_links}
use Rattle.promises.proofs.NextPagesProved.{next_page_facts}

pub demands : Demands
demands =
    record {
      no_second_answer = no_second_answer;
      made_by_calls = made_by_calls;
      not_made = not_made;
      high_speed = high_speed_back;
      low_speed_law = low_speed_back;
      at_the_device = at_the_device;
      small_damage = small_damage;
      both_ends = both_ends;
      no_page_outlives_its_link = no_page_outlives_its_link;
      as_if_new = as_if_new;
      worked_pasts = worked_pasts;
      table = table;
      first_link = first_link;
      each_refusal = each_refusal;
      next_page_links = next_page_links;
      next_page_facts = next_page_facts;
      message_runs = message_runs;
      worked_runs = worked_runs;
      field_laws = field_laws;
      frame_facts = frame_facts;
      any_cutting = any_cutting;
      worked_frames = worked_frames;
      lent_device = lent_device;
    }
