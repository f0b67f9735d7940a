use Rattle.std.proofs.Common.{◌≡◌, inl, inr, ℕ, ◌+◌, ◌-◌, ◌^◌, ◌<◌, ◌↔◌, length, get_or, arith, rules, sym, ◌∙◌, subst}
use Rattle.std.specs.Prelude.{nat_abs}
use Rattle.std.proofs.lemmas.List.{length-map}
use Rattle.shape_terms.specs.Points.{sides_of, raster_point}
use Rattle.shape_terms.specs.Adjacency.{near_point}
use Rattle.shape_adj.specs.NearMasks.{In, near_total}
use Rattle.measure_terms.specs.Seen.{IsSeen}
use Rattle.measuring.specs.MinkowskiSoFar.{IsSoFar}
use Rattle.measuring.proofs.Counting.{so_far_more, point_added, point_passed}
use Rattle.measuring.proofs.numbers_of_objects.add_point.Goals as goal
use Rattle.measuring.proofs.numbers_of_objects.add_point.Goals.{then-label-eq0-via-then-label-eq0, then-label-eq0-via-else-label-eq0+then-label-len}

pub returns-then-label-eq0 : goal.returns-then-label-eq0
returns-then-label-eq0 g c =
    let labels = g.L.Labelling.labels c.args.labels.now in
    let ms = c.args.all.now.items in
    let label = c.label_at-label.ensures in
    let passed = point_passed (sides_of (g.P.Point.coords c.args.near.now.sides.lengths)) labels (length ms) c.args.i ms c.requires.so_far in
    elim c.then-label-eq0.branch [
      | then-label-eq0-via-then-label-eq0 w ↦ passed (inl (omega (arith, label, w.if-label-eq0.true)))
      | then-label-eq0-via-else-label-eq0+then-label-len w ↦ passed (inr (omega (arith, label, w.if-label-len.true, w.len.ensures)))
    ]

pub returns : goal.returns
returns g c =
    let lengths = g.P.Point.coords c.args.near.now.sides.lengths in
    let sides = sides_of lengths in
    let labels = g.L.Labelling.labels c.args.labels.now in
    let i = c.args.i in
    let p = raster_point sides i in
    let ms = c.args.all.now.items in
    let seen = c.seen_before.result in
    let j = c.label_at-label.result - 1 in
    let old = c.index.result.now in
    let some = c.if-label-eq0.false in
    let label : get_or labels i 0 ≡ j + 1 = omega (arith, c.label_at-label.ensures, some) in
    let low : j < length ms = omega (arith, some, c.if-label-len.false, c.len.ensures) in
    let axes = length-map lengths nat_abs ∙ g.met.P.Point.axes c.args.near.now.sides.lengths in
    let few : seen < 2 ^ 32 = search rules in
    let were = subst (λ k. (q : ℕ) → In seen q ↔ ((q < near_total g.P.Point.DIM) × IsSeen sides labels k i (near_point p q))) label
    (subst (λ n. (q : ℕ) → In seen q ↔ ((q < n) × IsSeen sides labels (get_or labels i 0) i (near_point p q))) g.met.P.Pairing.near_total c.seen_before.ensures)
    in
    let before = subst (IsSoFar sides labels (j + 1) i) (sym c.index.ensures) (c.requires.so_far.each j old low) in
    let after = so_far_more sides labels g.P.Point.DIM (j + 1) i seen c.args.cells.now c.args.directions c.gain_of-gain.result old
    g.met.P.Point.two_or_three axes c.requires.below c.requires.cells c.requires.directions few label were c.gain_of-gain.ensures before in
    point_added sides labels (length ms) i j ms c.with_gain.result c.requires.so_far low label
    (subst (IsSoFar sides labels (j + 1) (i + 1)) (sym c.with_gain.ensures) after)
