-- P1-P14, from the examples that the crates compute.
use mathlib.Core.Path.{ap}
use Rattle.page_check_bits.proofs.CheckTheorem.{check_examples}
use Rattle.line_writer.proofs.LineExamples.{line_table}
use Rattle.page_resolve.proofs.ResolveExamples.{resolve_table}
use Rattle.port_state.specs.Memory.{Due}
use Rattle.port_step.specs.Steps.{step_over}
use Rattle.port_step.proofs.DeviceExamples as device-examples
use Rattle.promises.specs.Table.{Table}

pub table : Table
unfolding step_over
table =
    record {
      p1 = check_examples.p1;
      p2 = check_examples.p2;
      p3 = check_examples.p3;
      p4 = check_examples.p4;
      p5 = line_table.p5;
      p6 = (line_table.p6_edges, line_table.p6_last);
      p7 = (line_table.p7_edges, line_table.p7_last);
      p8 = line_table.p8;
      p9 = resolve_table.p9;
      p10 = resolve_table.p10;
      p11 = resolve_table.p11;
      p12 = resolve_table.p12;
      p13 = resolve_table.p13;
      p14 = ap (λ (x : Due). x.says) device-examples.p14;
    }
