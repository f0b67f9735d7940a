use Rattle.std.proofs.Common.{ℕ}
use Rattle.shape_terms.specs.Pictures.{Picture}
use Rattle.shape_terms.specs.Traces.{Contour}
use Rattle.piece_terms.specs.Pieces.{ArePieces}
use Rattle.shape_pieces.specs.Growing.{HasPieces, IsContourAt}
use Rattle.shape_pieces.proofs.report.add_pieces.Given as goal

abbrev pub invariant-loop-j : goal.invariant-loop-j
invariant-loop-j l = (X : Picture) (k : ℕ) (contour : Contour) → IsContourAt X k contour → ArePieces contour.points l.split
    → HasPieces X k l.split 0 l.fn.report → HasPieces X k l.split l.j l.report
