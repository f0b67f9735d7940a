use Rattle.drawing.proofs.LayerLaws.{four}
use Rattle.draw_report.proofs.measure_lines.put_title.Goals as goal

pub returns : goal.returns
returns c = four _ _ _ _ _ _ _ _ _ c.in_ok-put.ensures c.in_ok-count.ensures c.in_ok-put_name.ensures c.in_ok-put_length.ensures
