use Rattle.std.proofs.Common.{rules, subst, sym}
use Rattle.piece_terms.specs.SplitLines.{SplitLine}
use Rattle.piece_terms.specs.Lines.{Line, spelled}
use Rattle.shape_crack.specs.Terms.{crack_of}
use Rattle.shape_pieces.specs.Growing.{HasPieces}
use Rattle.shape_pieces.proofs.Growth.{chain_put, split_put}
use Rattle.shape_pieces.proofs.report.add_split.Goals as goal

pub returns : goal.returns
returns c =
    let pieces = c.in_ok-split.split in
    let are = c.in_ok-split.ensures.pieces in
    let start = crack_of c.start.result in
    let n = c.len.result in
    let m = c.len-2.result in
    let fields : spelled.IsLine (Line.Listed (SplitLine.Chain start n m)) = search rules in
    λ X k at h.
    let contour = c.args.contour.now in
    let begun = chain_put X k contour at pieces are start n m c.args.report.now c.start.ensures c.len.ensures.value c.len-2.ensures h fields in
    split_put X k contour at pieces are c.add_pieces.new.report
    (c.in_ok-add_pieces.ensures X k contour at are (subst (HasPieces X k pieces 0) (sym c.in_ok-add.ensures.ok) begun))
