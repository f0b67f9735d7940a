use Rattle.std.proofs.Common.{ap, ◌∙◌}
use Rattle.bordering.specs.Told.{all_borders}
use Rattle.measure_report.proofs.tables.outlined_table.Goals as goal

pub returns : goal.returns
returns c = λ lines tells told contours. c.bordered_table.ensures lines tells told
    (ap all_borders c.as_slice.ensures.value ∙ c.in_ok-borders.ensures lines contours)
