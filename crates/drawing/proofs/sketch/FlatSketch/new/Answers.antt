use Rattle.std.proofs.Common.{[], refl, ap, sym, subst}
use Rattle.shape_terms.specs.Points.{sides_of}
use Rattle.report_lines.specs.Seen.{flat_line}
use Rattle.drawing.specs.Seen.{flat, all_pixels}
use Rattle.drawing.specs.Standing.{HasDeleted}
use Rattle.drawing.proofs.Deleting.{none_deleted}
use Rattle.drawing.proofs.FirstLine.{with_heading}
use Rattle.drawing.proofs.sketch.FlatSketch.new.Goals as goal

pub returns : goal.returns
returns c =
    let h = c.args.heading.now in
    let sides = sides_of (flat h.sides.lengths) in
    with_heading (flat_line h.line) _ h.given (ap all_pixels c.new-2.ensures.items) (c.new-3.ensures sides)
    (subst (HasDeleted sides []) (sym c.in_ok-deleted.ensures) (none_deleted sides refl))
