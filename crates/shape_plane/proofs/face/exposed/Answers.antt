use Rattle.std.proofs.Common.{◌≡◌, ap, subst, ◌∙◌}
use Rattle.shape_terms.specs.Pictures.{Picture, at}
use Rattle.shape_terms.specs.Points.{Point}
use Rattle.shape_terms.specs.Patches.{Sense}
use Rattle.shape_adj.specs.FacePoints.{exposed_at}
use Rattle.shape_plane.proofs.face.exposed.Goals as goal

pub expose-requires-clause-box_ : goal.expose-requires-clause-box_
expose-requires-clause-box_ g c = ap (λ (Y : Picture). Y.sides) c.in_ok-left.ensures ∙ c.sides.ensures.value

pub returns : goal.returns
returns g c = record {
  each = λ q. c.expose.ensures.points q ∙ ap (λ (s : Sense). exposed_at c.args.grid.now c.args.axis s q) c.is_up.ensures;
}
