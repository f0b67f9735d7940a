use Rattle.std.proofs.Common.{refl}
use Rattle.shape_refute.specs.Terms.{naive_of}
use Rattle.shape_refute.specs.PairTerms.{pairs_of}
use Rattle.shape_line.specs.SegmentTerms.{points_of}
use Rattle.shape_line.proofs.GrownRuns.{bounds_same}
use Rattle.shape_line.proofs.list.shown_by.Goals as goal

pub returns : goal.returns
returns c =
    let e = c.args.entry.now in
    bounds_same e.stretch.line.axis (points_of e.grown) e.grown (pairs_of c.bounds.result) (naive_of 2 e.stretch.line) e.same_axis refl e.least c.bounds.ensures
