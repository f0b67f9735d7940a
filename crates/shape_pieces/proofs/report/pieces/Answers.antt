use Rattle.std.proofs.Common.{◌≡◌, ◌++◌, rules, map, pos, ap, subst, sym, ◌∙◌}
use Rattle.text_terms.specs.Spellings.{line_text}
use Rattle.text_terms.specs.Reports.{Holds}
use Rattle.shape_terms.proofs.ContourLists.{contour_starts}
use Rattle.piece_terms.specs.Lines.{Line, spelled}
use Rattle.piece_terms.specs.PieceReports.{piece_report}
use Rattle.shape_grid.proofs.SideLists.{sides_back}
use Rattle.shape_crack.specs.Terms.{point_of}
use Rattle.shape_pieces.specs.Growing.{HasSplits}
use Rattle.shape_pieces.proofs.Growth.{heading_put, end_put}
use Rattle.shape_pieces.proofs.report.pieces.Goals as goal

pub add_splits-requires : goal.add_splits-requires
add_splits-requires c = contour_starts c.args.grid.now c.in_ok-contours.contours c.in_ok-contours.ensures

pub returns : goal.returns
returns c =
    let X = c.args.grid.now in
    let are = c.in_ok-contours.ensures in
    let sides = point_of c.sides.result.lengths in
    let given : sides ≡ map pos X.sides = sym (sides_back _ sides c.sides.result.in_range) ∙ ap (map pos) c.sides.ensures.value in
    let fields : spelled.IsLine (Line.Pieces sides) = search rules in
    let new = c.in_ok-add.ensures.ok ∙ ap (λ t. t ++ line_text spelled (Line.Pieces sides)) c.new-report.ensures in
    let begun = subst (HasSplits X 0) (sym new) (heading_put X sides given fields) in
    subst (Holds (piece_report X)) (sym c.in_ok-add-2.ensures.ok)
    (end_put X c.in_ok-contours.contours c.add_splits.new.report are (c.in_ok-add_splits.ensures X are begun))
