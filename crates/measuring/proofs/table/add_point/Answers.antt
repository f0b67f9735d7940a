use Rattle.std.proofs.Common.{arith, length, ◌≡◌, ◌<◌, ap, get_or, ℕ, List, ◌+◌, ◌-◌, subst}
use Rattle.shape_terms.specs.Points.{box_count}
use Rattle.measure_terms.specs.Facts.{facts_below}
use Rattle.measure_terms.specs.OneMore.{measures_with}
use Rattle.measure_terms.proofs.OneMore.{below_greatest}
use Rattle.measure_terms.proofs.TableRows.{length-facts}
use Rattle.measuring.specs.Told.{measures_told, fact_told}
use Rattle.measuring.proofs.TableSteps.{few_points, one_passed, one_added}
use Rattle.measuring.proofs.table.add_point.Goals as goal

pub bounds-all-row : goal.bounds-all-row
bounds-all-row g c = omega (arith, below_greatest c.args.labels.now c.args.i, c.label-part.ensures, c.requires.enough, c.if-part-ne0.true)

pub bounds-all-row-then-part-ne0 : goal.bounds-all-row-then-part-ne0
bounds-all-row-then-part-ne0 g c = omega (arith, below_greatest c.args.labels.now c.args.i, c.label-part.ensures, c.requires.enough, c.if-part-ne0.true)

pub with-requires-clause-few : goal.with-requires-clause-few
with-requires-clause-few g c =
    let object = c.args.object.now in
    let squares = c.args.squares.now in
    let left = c.args.left.now in
    let labels = c.args.labels.now in
    let all = c.args.all.now in
    let k = c.label-part.result - 1 in
    let l : k < length all = omega (arith, below_greatest labels c.args.i, c.label-part.ensures, c.requires.enough, c.if-part-ne0.true) in
    let few = few_points (measures_told left.sides) all (facts_below object squares left labels c.args.i) k c.index-all-row.result c.requires.so_far l in
    let box = ap box_count c.sides.ensures.value in
    let small = c.sides.result.few in
    omega (arith, few, length-facts object squares left labels c.args.i, c.requires.below, box, small)

pub returns-then-part-ne0 : goal.returns-then-part-ne0
returns-then-part-ne0 g c =
    let object = c.args.object.now in
    let squares = c.args.squares.now in
    let left = c.args.left.now in
    let labels = c.args.labels.now in
    let all = c.args.all.now in
    let k = c.label-part.result - 1 in
    let d = c.index-all-row.result in
    let f = fact_told g.P.Point.coords c.fact_of-fact.result in
    let l : k < length all = omega (arith, below_greatest labels c.args.i, c.label-part.ensures, c.requires.enough, c.if-part-ne0.true) in
    let p : get_or labels c.args.i 0 ≡ k + 1 = omega (arith, c.label-part.ensures, c.if-part-ne0.true) in
    let same = c.fact_of-fact.ensures.told squares labels c.label-part.ensures c.get.ensures in
    let h = subst (λ (s : List ℕ). measures_told s c.with.result ≡ measures_with (measures_told s (get_or all k d)) f) c.sides.ensures.value c.with.ensures in
    one_added (measures_told left.sides) all object squares left labels c.args.i k d c.with.result f c.requires.so_far p l same h

pub returns-else-part-ne0 : goal.returns-else-part-ne0
returns-else-part-ne0 g c =
    let p = c.label-part.ensures in
    let left = c.args.left.now in
    one_passed (measures_told left.sides) c.args.all.now c.args.object.now c.args.squares.now left c.args.labels.now c.args.i c.requires.so_far
    (omega (arith, p, c.if-part-ne0.false))
