use Rattle.std.proofs.Common.{◌≡◌, ◌+◌, ◌≤◌, get_or, length, sym, subst, arith}
use Rattle.shape_terms.specs.Points.{sides_of, box_count}
use Rattle.measuring.specs.Spaced.{spacing_told}
use Rattle.measuring.specs.declared.stretch.Stretches.{Stretches}
use Rattle.measuring.specs.Stretches.{AreStretches}
use Rattle.measuring.specs.Farthest.{AreBelow, HaveFarthest}
use Rattle.measuring.proofs.FeretsFound.{one_found}
use Rattle.measuring.proofs.diameters.farthest_of_all.Goals as goal

pub feret_of-requires-clause-order : goal.feret_of-requires-clause-order
feret_of-requires-clause-order g c =
    let w = get_or (sides_of (g.P.Point.coords c.args.sides.lengths)) 0 0 in
    subst (λ (o : Stretches). AreStretches w o.all.items) (sym c.object-item.is)
    (c.requires.objects.order c.loop-object.object-index c.object-item.result c.loop-object-test.true)

pub feret_of-requires-clause-below : goal.feret_of-requires-clause-below
feret_of-requires-clause-below g c =
    let n = box_count (sides_of (g.P.Point.coords c.args.sides.lengths)) in
    subst (λ (o : Stretches). AreBelow n o.all.items) (sym c.object-item.is)
    (c.requires.objects.below c.loop-object.object-index c.object-item.result c.loop-object-test.true)

pub loop-object-preserved : goal.loop-object-preserved
loop-object-preserved g c =
    let s = spacing_told c.args.spacing in
    let sides = sides_of (g.P.Point.coords c.args.sides.lengths) in
    let i = c.loop-object.object-index in
    let o = c.object-item.result in
    let found = λ (some : 1 ≤ length o.all.items). c.in_ok-feret_of.ensures some in
    subst (HaveFarthest s sides c.args.objects.now (i + 1)) (sym c.in_ok-push.ensures.items)
    (one_found s sides c.args.objects.now i c.loop-object.all.items o c.in_ok-feret_of.field-0 c.loop-object-test.true c.object-item.is found
    c.loop-object.invariant)

pub returns : goal.returns
returns g c =
    let s = spacing_told c.args.spacing in
    let sides = sides_of (g.P.Point.coords c.args.sides.lengths) in
    let e : c.loop-object.object-index ≡ length c.args.objects.now = omega arith in
    subst (λ n. HaveFarthest s sides c.args.objects.now n c.loop-object.all.items) e c.loop-object.invariant
