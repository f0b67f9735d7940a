use Rattle.std.proofs.Common.{◌≡◌, length, arith, subst}
use Rattle.shape_pieces.specs.Growing.{HasPieces}
use Rattle.shape_pieces.proofs.report.add_pieces.Goals as goal

pub loop-j-preserved : goal.loop-j-preserved
loop-j-preserved c = λ X k contour at are h. c.in_ok-add_piece.ensures X k contour at are (c.loop-j.invariant X k contour at are h)

pub returns : goal.returns
returns c =
    let all : c.loop-j.j ≡ length c.args.split.now = omega (arith, c.loop-j.auto.j-end, c.len-j-end.ensures, c.loop-j-test.false) in
    λ X k contour at are h. subst (λ j. HasPieces X k c.args.split.now j c.loop-j.report) all (c.loop-j.invariant X k contour at are h)
