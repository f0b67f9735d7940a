use Rattle.std.proofs.Common.{subst, sym, [], ◌∷◌, ◌++◌}
use Rattle.shape_terms.specs.Points.{Point}
use Rattle.shape_terms.specs.Steps.{AreClose}
use Rattle.shape_line.specs.Frames.{end_point}
use Rattle.shape_line.specs.SegmentTerms.{points_of}
use Rattle.shape_line.proofs.ContourGrowing.{stepped_to}
use Rattle.shape_line.proofs.grow.take_place.Goals as goal

pub step-requires-clause-near : goal.step-requires-clause-near
step-requires-clause-near c = subst (λ (x : Point). AreClose (end_point (points_of c.args.segment.now)) x) (sym c.point_on.ensures.value) c.requires

pub returns : goal.returns
returns c = stepped_to c.args.segment.now c.step.new.self c.point_on.result _ c.step.result
    (λ i. points_of c.args.segment.now ++ c.point_on.ensures.value i ∷ []) c.step.ensures
