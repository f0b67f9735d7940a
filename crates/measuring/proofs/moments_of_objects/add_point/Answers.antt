use Rattle.std.proofs.Common.{◌≡◌, ◌⊎◌, inl, inr, ◌+◌, ◌-◌, ◌<◌, length, get_or, arith, ap, ◌∙◌}
use Rattle.shape_terms.specs.Points.{sides_of}
use Rattle.measuring.specs.declared.moments.Moments.{Moments}
use Rattle.measuring.specs.MomentsSoFar.{moments_with}
use Rattle.measuring.specs.MomentsTold.{moments_told, all_told}
use Rattle.measuring.proofs.PointsRead.{point_passed}
use Rattle.measuring.proofs.RowsTold.{row_few, row_added}
use Rattle.measuring.proofs.moments_of_objects.add_point.Goals as goal
use Rattle.measuring.proofs.moments_of_objects.add_point.Goals.{then-label-eq0-via-then-label-eq0, then-label-eq0-via-else-label-eq0+then-label-len}

pub returns-then-label-eq0 : goal.returns-then-label-eq0
returns-then-label-eq0 g c =
    let items = c.args.all.now.items in
    let label = get_or c.args.labels.now c.args.i 0 in
    let none : (label ≡ 0) ⊎ (length items < label) = elim c.then-label-eq0.branch [
      | then-label-eq0-via-then-label-eq0 w ↦ inl (omega (arith, c.label-label.ensures, w.if-label-eq0.true))
      | then-label-eq0-via-else-label-eq0+then-label-len w ↦ inr (omega (arith, c.label-label.ensures, w.if-label-len.true, w.len.ensures))
    ] in
    point_passed (sides_of (g.P.Point.coords c.args.sides.lengths)) c.args.labels.now (length items) c.args.i (all_told items) c.requires.so_far
    c.requires.below none

pub with-requires-clause-few : goal.with-requires-clause-few
with-requires-clause-few g c =
    let items = c.args.all.now.items in
    let j = c.label-label.result - 1 in
    let low : j < length items = omega (arith, c.if-label-eq0.false, c.if-label-len.false, c.len.ensures) in
    let few = row_few moments_told (sides_of (g.P.Point.coords c.args.sides.lengths)) c.args.labels.now items (length items) c.args.i j c.index.result.now
    c.requires.so_far low in
    let is = ap (λ (m : Moments). m.count) c.index.ensures in
    let box = c.args.sides.few in
    omega (arith, few, is, box, c.requires.below)

pub returns : goal.returns
returns g c =
    let items = c.args.all.now.items in
    let j = c.label-label.result - 1 in
    let some = c.if-label-eq0.false in
    let low : j < length items = omega (arith, some, c.if-label-len.false, c.len.ensures) in
    let label : get_or c.args.labels.now c.args.i 0 ≡ j + 1 = omega (arith, c.label-label.ensures, some) in
    let p = g.P.Point.coords c.unraster.result in
    let more = c.with.ensures ∙ ap (λ (m : Moments). moments_with (moments_told m) p) c.index.ensures
    ∙ ap (moments_with (moments_told (get_or items j c.index.result.now))) c.unraster.ensures.value in
    row_added moments_told (sides_of (g.P.Point.coords c.args.sides.lengths)) c.args.labels.now items (length items) c.args.i j c.index.result.now c.with.result
    c.requires.so_far c.requires.below low label more
