use Rattle.std.proofs.Common.{sym, subst, ap}
use Rattle.shape_plane.specs.Pairs.{AreSmallWeights}
use Rattle.shape_refute.specs.Weights.{refutation_of}
use Rattle.shape_plane.specs.Found.{AxisPatch}
use Rattle.shape_plane.specs.Trials.{Refusal, refusal_of}
use Rattle.shape_plane.proofs.Refusing.{all_at, told_read, told_small}
use Rattle.shape_plane.proofs.patch.Patch.refusal.Goals as goal

pub returns-clause-refused : goal.returns-clause-refused
returns-clause-refused g c =
    told_read g.P.Point.DIM c.self.inside.growing.points c.self.inside.plane c.self.inside.refused c.args.self.now.found c.args.i c.len.result
    (refusal_of g.P.Point.coords c.get-r.result.now) (refutation_of c.told_anew.result)
    (ap (λ (x : AxisPatch). x.found) c.self.view_is) c.get-r.ensures c.len.ensures c.told_anew.ensures

pub returns-clause-small : goal.returns-clause-small
returns-clause-small g c =
    subst AreSmallWeights (sym c.told_anew.ensures)
    (told_small c.get-r.result.now.count c.len.result (refutation_of c.get-r.result.now.why)
    (all_at (λ (r : Refusal). AreSmallWeights r.why) c.self.inside.refused c.args.i (refusal_of g.P.Point.coords c.get-r.result.now) c.self.invariant.small
    c.get-r.ensures))
