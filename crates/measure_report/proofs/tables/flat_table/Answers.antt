use Rattle.std.proofs.Common.{ap, ◌∙◌}
use Rattle.measure_report.specs.BorderColumns.{tells_lengths}
use Rattle.measure_report.proofs.tables.flat_table.Goals as goal

pub returns : goal.returns
returns c = λ lines e. c.outlined_table.ensures lines (c.tells_lengths.ensures ∙ ap tells_lengths e.number) e.seen e.contours
