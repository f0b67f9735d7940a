use Rattle.std.proofs.Common.{◌-◌, ◌*◌, ◌%◌, ◌^◌, ℕ, List, Bool, length, sym, subst, ap, ◌∙◌}
use Rattle.std.specs.Prelude.{IsTrue}
use Rattle.shape_terms.specs.Points.{Point, sides_of, in_box, box_count, raster_point}
use Rattle.shape_terms.specs.Adjacency.{near_point}
use Rattle.shape_adj.specs.NearMasks.{near_total, IsNearMask}
use Rattle.shape_adj.proofs.MaskBits.{few_neighbours}
use Rattle.shape_plane.specs.Surroundings.{AreCandidates}
use Rattle.shape_plane.proofs.Neighbours.{masked, all_candidates}
use Rattle.shape_plane.proofs.around.Around.candidates.Goals as goal

pub mask-requires-clause-known : goal.mask-requires-clause-known
mask-requires-clause-known g c = (c.args.self.now.fit c.if-self.true).known

pub mask-requires-clause-filled : goal.mask-requires-clause-filled
mask-requires-clause-filled g c = ap length c.values.ensures ∙ c.is_picture.ensures.picture.filled ∙ ap box_count (sym c.requires)

pub mask-requires-clause-point : goal.mask-requires-clause-point
mask-requires-clause-point g c = c.args.self.now.place.bounded

pub mask-requires-clause-inner : goal.mask-requires-clause-inner
mask-requires-clause-inner g c k l =
    let w = c.args.self.now.fit c.if-self.true in
    let sides = sides_of (g.P.Point.coords c.args.self.now.near.now.sides.lengths) in
    subst (λ (z : Point). IsTrue (in_box sides (near_point z k))) (sym c.args.self.now.place.is) (w.inside k l)

pub returns-then-self : goal.returns-then-self
returns-then-self g c =
    let p = g.P.Point.coords c.args.self.now.point in
    let sides = sides_of (g.P.Point.coords c.args.self.now.near.now.sides.lengths) in
    masked g.P.Pairing.NEAR_COUNT c.args.left.now sides p c.args.self.now.number c.mask.result c.requires c.args.self.now.place.is
    (g.met.P.Pairing.near_total ∙ ap near_total (sym (g.met.P.Point.axes c.args.self.now.point)))
    (subst (λ (v : List Bool). IsNearMask (record { sides = sides; values = v }) (raster_point sides c.args.self.now.number) c.mask.result) c.values.ensures
    c.mask.ensures)

pub returns-else-all_known : goal.returns-else-all_known
returns-else-all_known g c =
    let L = c.args.left.now in
    let p = g.P.Point.coords c.args.self.now.point in
    subst (λ (n : ℕ). AreCandidates g.P.Pairing.NEAR_COUNT L p (1 * 2 ^ n % 2 ^ 32 - 1)) (sym c.NEAR_COUNT.ensures)
    (all_candidates g.P.Pairing.NEAR_COUNT L p (few_neighbours g.P.Point.DIM g.P.Pairing.NEAR_COUNT g.met.P.Point.two_or_three g.met.P.Pairing.near_total))
