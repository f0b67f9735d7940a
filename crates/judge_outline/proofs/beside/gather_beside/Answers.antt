use Rattle.std.proofs.Common.{refl, ◌≡◌, ◌⊎◌, inl, inr, ◌<◌, ◌^◌, ℕ, length, sym, ap, ◌∙◌, subst, arith}
use Rattle.std.specs.Prelude.{IsTrue}
use Rattle.std.specs.Int.Count.{count_trailing_zeros}
use Rattle.shape_terms.specs.Points.{sides_of, in_box, box_count, raster_point}
use Rattle.shape_terms.specs.Adjacency.{near_point}
use Rattle.shape_terms.proofs.NeighbourNumbers.{near_listed_once}
use Rattle.judge_outline.specs.Terms.{point_of}
use Rattle.judge_outline.proofs.Exposing.{box_within}
use Rattle.judge_outline.proofs.LeastBits.{less_bit, least_in, less_in, less_falls}
use Rattle.judge_outline.proofs.NearBeside.{Awaits, awaits_all, awaits_less, awaits_one, gather_near}
use Rattle.judge_outline.proofs.Rounds.{number_of_near, mask_here, gather_none, gather_all}
use Rattle.judge_outline.proofs.beside.gather_beside.Goals as goal

pub mask-rest-requires-clause-filled : goal.mask-rest-requires-clause-filled
mask-rest-requires-clause-filled c = omega (arith, ap length c.values.ensures, c.is_picture.ensures.picture.filled, ap box_count c.requires.near_box)

pub mask-rest-requires-clause-inner : goal.mask-rest-requires-clause-inner
mask-rest-requires-clause-inner c =
    let sides = sides_of (point_of c.args.near.now.sides.lengths) in
    λ k l. subst (λ p. IsTrue (in_box sides (near_point p k))) (sym c.raster-i.ensures.back) (c.requires.inner k l)

pub loop-rest-init : goal.loop-rest-init
loop-rest-init c =
    let sides = sides_of (point_of c.args.near.now.sides.lengths) in
    let left = c.args.left.now in
    let p = point_of c.args.p in
    let q = point_of c.args.q in
    let mask = mask_here sides left c.values.result.now (raster_point sides c.raster-i.result) q c.mask-rest.result c.requires.near_box c.values.ensures
    c.raster-i.ensures.back c.mask-rest.ensures in
    record {
      sides = c.requires.box_;
      numbered = c.requires.numbered;
      capacity = refl;
      there = λ j. (mask j).0;
      points = gather_none left p (Awaits p q c.mask-rest.result) c.args.marks.now
          (awaits_all left p q c.mask-rest.result (near_listed_once p) (near_listed_once q) mask
          (λ r i n. c.requires.beside r (subst (λ s. IsTrue (in_box s r)) (sym c.requires.near_box) i) n));
    }

pub near-requires-clause-below : goal.near-requires-clause-below
near-requires-clause-below c =
    let t = c.loop-rest.invariant.there (count_trailing_zeros 32 c.loop-rest.rest) (least_in c.loop-rest.rest (omega arith) (omega arith)) in
    t.0

pub near-requires-clause-within : goal.near-requires-clause-within
near-requires-clause-within c = box_within (point_of c.args.near.now.sides.lengths) (point_of c.args.q) c.args.near.now.sides.in_range c.requires.inside

pub known-requires-clause-known : goal.known-requires-clause-known
known-requires-clause-known c =
    let t = c.loop-rest.invariant.there (count_trailing_zeros 32 c.loop-rest.rest) (least_in c.loop-rest.rest (omega arith) (omega arith)) in
    let l : count_trailing_zeros 32 c.loop-rest.rest < 26 = t.0 in
    omega (arith, l, c.requires.known)

pub known-requires-clause-inside : goal.known-requires-clause-inside
known-requires-clause-inside c =
    let sides = sides_of (point_of c.args.near.now.sides.lengths) in
    let k = count_trailing_zeros 32 c.loop-rest.rest in
    let t = c.loop-rest.invariant.there k (least_in c.loop-rest.rest (omega arith) (omega arith)) in
    subst (λ p. IsTrue (in_box sides (near_point p k))) (sym c.raster-i.ensures.back) (c.requires.inner k t.0)

pub put_near-requires-clause-place : goal.put_near-requires-clause-place
put_near-requires-clause-place c =
    let sides = sides_of (point_of c.args.near.now.sides.lengths) in
    let k = count_trailing_zeros 32 c.loop-rest.rest in
    let t = c.loop-rest.invariant.there k (least_in c.loop-rest.rest (omega arith) (omega arith)) in
    (number_of_near sides c.args.left.now.sides (point_of c.args.q) (raster_point sides c.raster-i.result) k c.known.result c.requires.near_box
    c.raster-i.ensures.back c.known.ensures (c.requires.inner k t.0)).0

pub put_near-requires-clause-number : goal.put_near-requires-clause-number
put_near-requires-clause-number c =
    let sides = sides_of (point_of c.args.near.now.sides.lengths) in
    let k = count_trailing_zeros 32 c.loop-rest.rest in
    let t = c.loop-rest.invariant.there k (least_in c.loop-rest.rest (omega arith) (omega arith)) in
    (number_of_near sides c.args.left.now.sides (point_of c.args.q) (raster_point sides c.raster-i.result) k c.known.result c.requires.near_box
    c.raster-i.ensures.back c.known.ensures (c.requires.inner k t.0)).1 ∙ sym c.near.ensures

pub loop-rest-smaller : goal.loop-rest-smaller
loop-rest-smaller c = less_falls c.loop-rest.rest (omega arith) (omega arith)

pub loop-rest-preserved : goal.loop-rest-preserved
loop-rest-preserved c =
    let left = c.args.left.now in
    let p = point_of c.args.p in
    let q = point_of c.args.q in
    let rest = c.loop-rest.rest in
    let k = count_trailing_zeros 32 rest in
    let small : rest < 2 ^ 32 = omega arith in
    let more : 0 < rest = omega arith in
    let moves : (j : ℕ) → Awaits p q rest j → (point_of c.near.result ≡ near_point p j) ⊎ Awaits p q (less_bit rest k) j =
    λ j a. elim (awaits_less left p q rest small more j a) [ inl e ↦ inl (c.near.ensures ∙ e) | inr n ↦ inr n ] in
    record {
      sides = c.put_near.ensures.box_;
      numbered = c.put_near.ensures.numbered;
      capacity = c.put_near.ensures.capacity ∙ c.loop-rest.invariant.capacity;
      there = λ j i. c.loop-rest.invariant.there j (less_in rest small more j i);
      points = gather_near left p (point_of c.near.result) (Awaits p q rest) (Awaits p q (less_bit rest k)) c.args.marks.now c.loop-rest.marks
          c.put_near.new.marks (near_listed_once p) c.loop-rest.invariant.points c.put_near.ensures.points moves;
    }

pub put_near-requires-2-clause-place : goal.put_near-requires-2-clause-place
put_near-requires-2-clause-place c = omega (arith, c.raster-i.ensures.below, ap box_count c.requires.near_box)

pub put_near-requires-2-clause-number : goal.put_near-requires-2-clause-number
put_near-requires-2-clause-number c = ap (λ s. raster_point s c.raster-i.result) (sym c.requires.near_box) ∙ c.raster-i.ensures.back

pub returns-clause-capacity : goal.returns-clause-capacity
returns-clause-capacity c = c.put_near-2.ensures.capacity ∙ c.loop-rest.invariant.capacity

pub returns-clause-points : goal.returns-clause-points
returns-clause-points c =
    let left = c.args.left.now in
    let p = point_of c.args.p in
    let q = point_of c.args.q in
    let z : c.loop-rest.rest ≡ 0 = omega arith in
    gather_all left p (λ j. ⊥) c.args.marks.now c.put_near-2.new.marks (near_listed_once p) (λ j l t. t)
    (gather_near left p q (Awaits p q c.loop-rest.rest) (λ j. ⊥) c.args.marks.now c.loop-rest.marks c.put_near-2.new.marks (near_listed_once p)
    c.loop-rest.invariant.points c.put_near-2.ensures.points (awaits_one left p q c.loop-rest.rest z))
