use Rattle.shape_terms.specs.Pictures.{Picture}
use Rattle.shape_terms.specs.Traces.{AreContours}
use Rattle.shape_pieces.specs.Growing.{HasSplits}
use Rattle.shape_pieces.proofs.report.add_splits.Given as goal

abbrev pub invariant-loop-k : goal.invariant-loop-k
invariant-loop-k l = (X : Picture) → AreContours X l.contours → HasSplits X 0 l.fn.report → HasSplits X l.k l.report
