use Rattle.std.proofs.Common.{◌≡◌, ◌-◌, ◌+◌, ◌<◌, ◌∙◌, ℕ, List, ap, sym, subst, arith, length, replicate}
use Rattle.std.specs.Prelude.{slice_index}
use Rattle.std.proofs.lemmas.List.{get_or_read, length-replicate, get_or-replicate}
use Rattle.shape_terms.specs.Points.{box_count}
use Rattle.shape_thickness.specs.Painting.{IsKnown}
use Rattle.shape_thickness.proofs.CentreSteps.{centre_of, centre_below}
use Rattle.shape_thickness.proofs.GreatestBalls.{ArePaintedFrom, painted_start, painted_more, greatest_are}
use Rattle.shape_thickness.proofs.thickness.greatest.Goals as goal

pub of-requires : goal.of-requires
of-requires g c = record { filled = ap length c.in_ok-canvas.ensures ∙ (length-replicate c.count.result 0 ∙ c.count.ensures.value) }

pub paint_centre-requires-clause-place : goal.paint_centre-requires-clause-place
paint_centre-requires-clause-place g c =
    let X = c.args.grid.now in
    let ds = c.args.squares.now in
    let centres = c.in_ok-centres.centres.items in
    let rising = c.in_ok-centres.ensures in
    let n = c.len-k.ensures in
    let k = c.loop-k.k - 1 in
    let l : k < length centres = omega arith in
    let is : c.index-centre.result.now ≡ centre_of centres k = get_or_read centres k c.index-centre.result.now l c.index-centre.ensures
    (record { s = 0; place = 0 }) in
    rw (c.sides-sides.ensures.value, is) (centre_below X ds centres rising k l)

pub paint_centre-requires-clause-filled : goal.paint_centre-requires-clause-filled
paint_centre-requires-clause-filled g c = c.loop-k.invariant.painted.filled ∙ ap box_count (sym c.sides-sides.ensures.value)

pub paint_centre-requires-clause-known : goal.paint_centre-requires-clause-known
paint_centre-requires-clause-known g c = rw c.sides-sides.ensures.value c.loop-k.invariant.known

pub loop-k-init : goal.loop-k-init
loop-k-init g c =
    let X = c.args.grid.now in
    let centres = c.in_ok-centres.centres.items in
    let n = c.len-k.ensures in
    let canvas : c.in_ok-canvas.canvas ≡ replicate c.count.result 0 = c.in_ok-canvas.ensures in
    let long : length c.in_ok-canvas.canvas ≡ c.count.result = ap length canvas ∙ length-replicate c.count.result 0 in
    record {
      painted = painted_start X.sides centres c.len-k.result c.in_ok-canvas.canvas (omega (arith, n))
          (long ∙ (c.count.ensures.value ∙ ap box_count c.sides-sides.ensures.value))
          (λ j b. ap (λ (xs : List ℕ). slice_index xs j) canvas ∙ get_or-replicate c.count.result j 0 0 (omega (arith, b, long)));
      known = rw c.sides-sides.ensures.value at c.in_ok-depths.ensures;
    }

pub loop-k-preserved : goal.loop-k-preserved
loop-k-preserved g c =
    let X = c.args.grid.now in
    let ds = c.args.squares.now in
    let centres = c.in_ok-centres.centres.items in
    let rising = c.in_ok-centres.ensures in
    let n = c.len-k.ensures in
    let k = c.loop-k.k - 1 in
    let l : k < length centres = omega arith in
    let is : c.index-centre.result.now ≡ centre_of centres k = get_or_read centres k c.index-centre.result.now l c.index-centre.ensures
    (record { s = 0; place = 0 }) in
    let next : c.loop-k.k ≡ k + 1 = omega arith in
    let before = subst (λ k. ArePaintedFrom X.sides centres k c.loop-k.canvas) next c.loop-k.invariant.painted in
    let painted = rw (c.sides-sides.ensures.value, is) at c.in_ok-paint_centre.ensures.painted in
    record {
      painted = painted_more X ds centres rising k c.loop-k.canvas c.paint_centre.new.canvas l before painted;
      known = rw c.sides-sides.ensures.value at c.in_ok-paint_centre.ensures.known;
    }

pub returns : goal.returns
returns g c =
    let X = c.args.grid.now in
    let ds = c.args.squares.now in
    let centres = c.in_ok-centres.centres.items in
    let rising = c.in_ok-centres.ensures in
    let none : c.loop-k.k ≡ 0 = omega arith in
    rw c.into_values.ensures
    (greatest_are X ds centres rising c.loop-k.canvas (subst (λ k. ArePaintedFrom X.sides centres k c.loop-k.canvas) none c.loop-k.invariant.painted))
