use Rattle.std.proofs.Common.{refl, ◌≡◌, ◌<◌, ◌^◌, length, sym, ap, ◌∙◌, subst, arith}
use Rattle.std.specs.Prelude.{IsTrue, vec_capacity}
use Rattle.std.specs.Int.Count.{count_trailing_zeros}
use Rattle.std.proofs.lemmas.Nat.Bits.{bit_at-zero}
use Rattle.shape_terms.specs.Points.{sides_of, in_box, box_count, raster_point}
use Rattle.shape_terms.specs.Adjacency.{near_point}
use Rattle.shape_terms.specs.Pictures.{at}
use Rattle.shape_terms.proofs.NeighbourNumbers.{near_listed_once}
use Rattle.shape_adj.specs.NearMasks.{In}
use Rattle.judge_outline.specs.Terms.{point_of}
use Rattle.judge_outline.proofs.LeastBits.{less_bit, least_in, less_in, less_other, less_falls}
use Rattle.judge_outline.proofs.Numbering.{room_more, numbered_with}
use Rattle.judge_outline.proofs.Rounds.{number_of_near, mask_here, gather_none, gather_yes, gather_all}
use Rattle.judge_outline.proofs.patch_round.gather_inside.Goals as goal

pub mask-rest-requires-clause-filled : goal.mask-rest-requires-clause-filled
mask-rest-requires-clause-filled c = omega (arith, ap length c.values.ensures, c.is_picture.ensures.picture.filled, ap box_count c.requires.near_box)

pub mask-rest-requires-clause-inner : goal.mask-rest-requires-clause-inner
mask-rest-requires-clause-inner c =
    let sides = sides_of (point_of c.args.near.now.sides.lengths) in
    λ k l. subst (λ p. IsTrue (in_box sides (near_point p k))) (sym c.raster-i.ensures.back) (c.requires.inner k l)

pub loop-rest-init : goal.loop-rest-init
loop-rest-init c =
    let sides = sides_of (point_of c.args.near.now.sides.lengths) in
    let left = c.args.left.now in
    let p = point_of c.args.p in
    let mask = mask_here sides left c.values.result.now (raster_point sides c.raster-i.result) p c.mask-rest.result c.requires.near_box c.values.ensures
    c.raster-i.ensures.back c.mask-rest.ensures in
    record {
      sides = c.requires.box_;
      numbered = c.requires.numbered;
      capacity = refl;
      there = λ j. (mask j).0;
      points = gather_none left p (In c.mask-rest.result) c.args.marks.now (λ j l h. (mask j).1 (l, h));
    }

pub known-requires-clause-known : goal.known-requires-clause-known
known-requires-clause-known c =
    let t = c.loop-rest.invariant.there (count_trailing_zeros 32 c.loop-rest.rest) (least_in c.loop-rest.rest (omega arith) (omega arith)) in
    let l : count_trailing_zeros 32 c.loop-rest.rest < 26 = t.0 in
    omega (arith, l, c.requires.known)

pub known-requires-clause-inside : goal.known-requires-clause-inside
known-requires-clause-inside c =
    let sides = sides_of (point_of c.args.near.now.sides.lengths) in
    let k = count_trailing_zeros 32 c.loop-rest.rest in
    let t = c.loop-rest.invariant.there k (least_in c.loop-rest.rest (omega arith) (omega arith)) in
    subst (λ p. IsTrue (in_box sides (near_point p k))) (sym c.raster-i.ensures.back) (c.requires.inner k t.0)

pub put-requires-clause-place : goal.put-requires-clause-place
put-requires-clause-place c =
    let sides = sides_of (point_of c.args.near.now.sides.lengths) in
    let p = point_of c.args.p in
    let k = count_trailing_zeros 32 c.loop-rest.rest in
    let t = c.loop-rest.invariant.there k (least_in c.loop-rest.rest (omega arith) (omega arith)) in
    (number_of_near sides c.loop-rest.marks.sides p (raster_point sides c.raster-i.result) k c.known.result
    (c.requires.near_box ∙ sym c.loop-rest.invariant.sides) c.raster-i.ensures.back c.known.ensures (c.requires.inner k t.0)).0

pub put-requires-clause-numbered : goal.put-requires-clause-numbered
put-requires-clause-numbered c = c.loop-rest.invariant.numbered.numbered

pub put-requires-clause-room : goal.put-requires-clause-room
put-requires-clause-room c =
    let sides = sides_of (point_of c.args.near.now.sides.lengths) in
    let p = point_of c.args.p in
    let left = c.args.left.now in
    let k = count_trailing_zeros 32 c.loop-rest.rest in
    let t = c.loop-rest.invariant.there k (least_in c.loop-rest.rest (omega arith) (omega arith)) in
    let n = number_of_near sides c.loop-rest.marks.sides p (raster_point sides c.raster-i.result) k c.known.result
    (c.requires.near_box ∙ sym c.loop-rest.invariant.sides) c.raster-i.ensures.back c.known.ensures (c.requires.inner k t.0) in
    room_more left c.loop-rest.marks c.loop-rest.numbers.items (vec_capacity c.loop-rest.numbers) c.loop-rest.invariant.numbered c.known.result n.0
    (subst (λ z. IsTrue (at left z)) (sym n.1) t.1)

pub loop-rest-smaller : goal.loop-rest-smaller
loop-rest-smaller c = less_falls c.loop-rest.rest (omega arith) (omega arith)

pub loop-rest-preserved : goal.loop-rest-preserved
loop-rest-preserved c =
    let sides = sides_of (point_of c.args.near.now.sides.lengths) in
    let p = point_of c.args.p in
    let left = c.args.left.now in
    let rest = c.loop-rest.rest in
    let k = count_trailing_zeros 32 rest in
    let marks = c.loop-rest.marks in
    let small : rest < 2 ^ 32 = omega arith in
    let more : 0 < rest = omega arith in
    let t = c.loop-rest.invariant.there k (least_in rest small more) in
    let q = raster_point marks.sides c.known.result in
    let new : q ≡ near_point p k =
    (number_of_near sides marks.sides p (raster_point sides c.raster-i.result) k c.known.result (c.requires.near_box ∙ sym c.loop-rest.invariant.sides)
    c.raster-i.ensures.back c.known.ensures (c.requires.inner k t.0)).1 in
    record {
      sides = c.put.ensures.box_ ∙ c.loop-rest.invariant.sides;
      numbered = numbered_with left marks c.loop-rest.numbers.items (vec_capacity c.loop-rest.numbers) c.loop-rest.invariant.numbered c.known.result
          c.put.new.marks c.put.new.numbers.items (vec_capacity c.put.new.numbers) (subst (λ z. IsTrue (at left z)) (sym new) t.1) c.put.ensures.numbered
          c.put.ensures.points c.put.ensures.capacity;
      capacity = c.put.ensures.capacity ∙ c.loop-rest.invariant.capacity;
      there = λ j i. c.loop-rest.invariant.there j (less_in rest small more j i);
      points = gather_yes left p (In rest) (In (less_bit rest k)) k c.args.marks.now marks c.loop-rest.invariant.points (less_other rest small more) q
          c.put.new.marks (near_listed_once p) t.0 new (subst (λ z. IsTrue (at left z)) (sym new) t.1) c.put.ensures.points;
    }

pub returns-clause-box_ : goal.returns-clause-box_
returns-clause-box_ c = c.loop-rest.invariant.sides

pub returns-clause-points : goal.returns-clause-points
returns-clause-points c =
    let p = point_of c.args.p in
    let z : c.loop-rest.rest ≡ 0 = omega arith in
    gather_all c.args.left.now p (In c.loop-rest.rest) c.args.marks.now c.loop-rest.marks (near_listed_once p)
    (λ j l i. (let b = bit_at-zero j in let s : In 0 j = subst (λ n. In n j) z i in omega arith)) c.loop-rest.invariant.points
