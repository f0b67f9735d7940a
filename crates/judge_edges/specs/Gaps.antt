-- The program's evidence as that of the terms.
-- A further kind of evidence is one more clause.
use Rattle.edge_terms.specs.EdgeEvidence.{EdgeEvidence}
use Rattle.shape_refute.specs.Weights.{refutation_of}
use Rattle.judge_edges.specs.declared.gap.EdgeGap.{EdgeGap}
use Rattle.judge_edges.specs.declared.gap.EdgeGap.TheVariants.{Bend, Fold}

abbrev pub gap_of : EdgeGap → EdgeEvidence
gap_of (Bend i j) = EdgeEvidence.Bend i j
gap_of (Fold why) = EdgeEvidence.Fold (refutation_of why)
