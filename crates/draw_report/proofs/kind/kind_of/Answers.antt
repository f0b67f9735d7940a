use Rattle.drawing.specs.Seen.{flat}
use Rattle.draw_report.proofs.HeadingLaws.{none_found, not_so}
use Rattle.draw_report.proofs.kind.kind_of.Goals as goal

pub returns : goal.returns
returns c = none_found (flat c.args.sides) c.args.bytes.now (not_so c.is_heading.result c.if-is_heading.false c.is_heading.ensures)
    (not_so c.is_heading-2.result c.if-is_heading-2.false c.is_heading-2.ensures) (not_so c.is_heading-3.result c.if-is_heading-3.false c.is_heading-3.ensures)
