-- The program's reasons as the evidence of the terms.
-- A further kind of reason is one more clause.
use Rattle.shape_terms.specs.Covers.{Evidence}
use Rattle.shape_refute.specs.Weights.{refutation_of}
use Rattle.shape_refute.specs.declared.refusal.Refusal.{Refusal}
use Rattle.shape_refute.specs.declared.refusal.Refusal.TheVariants.{Turned, Cut}

abbrev pub evidence_of : Refusal → Evidence
evidence_of (Turned turn) = Evidence.Turned turn.i turn.j
evidence_of (Cut why) = Evidence.Cut (refutation_of why)
