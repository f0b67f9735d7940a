use Rattle.std.proofs.Common.{◌≡◌, ◌+◌, ◌≤◌, ◌<◌, ℕ, refl, true, false, sym, ap, ◌∙◌, subst, arith, inl, inr}
use Rattle.std.specs.Prelude.{IsTrue, vec_capacity, ◌⊎◌, ◌↔◌}
use native.Mathlib.Decide.{ℕ_discrete}
use Rattle.shape_terms.specs.Points.{Point, in_box, box_count, raster_point}
use Rattle.shape_terms.specs.Adjacency.{near_point}
use Rattle.shape_terms.specs.Pictures.{Picture, at}
use Rattle.shape_terms.proofs.NeighbourNumbers.{near_listed_once}
use Rattle.judge_outline.specs.Terms.{point_of}
use Rattle.judge_outline.proofs.Exposing.{in_of_at, near_within}
use Rattle.judge_outline.proofs.Numbering.{room_more, numbered_with}
use Rattle.judge_outline.proofs.Rounds.{Gathering, gather_none, gather_yes, gather_no, gather_all}
use Rattle.judge_outline.proofs.patch_round.gather_around.Goals as goal
use Rattle.judge_outline.proofs.patch_round.gather_around.Goals.{then-has, else-has}

moves : (k j : ℕ) → k ≤ j → (j ≡ k) ⊎ (k + 1 ≤ j)
moves k j l = elim (ℕ_discrete j k) [ yes e ↦ inl e | no n ↦ inr (omega arith) ]

pub near-q-requires-clause-within : goal.near-q-requires-clause-within
near-q-requires-clause-within c = near_within c.args.left.now (point_of c.args.p) c.is_picture.ensures.in_range c.requires.inside

pub loop-k-init : goal.loop-k-init
loop-k-init c = record {
  sides = c.requires.box_;
  numbered = c.requires.numbered;
  capacity = refl;
  points = gather_none c.args.left.now (point_of c.args.p) (λ j. 0 ≤ j) c.args.marks.now (λ j l h. omega arith);
}

pub raster-requires : goal.raster-requires
raster-requires c = subst (λ s. IsTrue (in_box s (point_of c.near-q.result))) (sym c.sides-sides.ensures.value)
    (in_of_at c.args.left.now (point_of c.near-q.result) (sym c.has.ensures ∙ c.if-has.true))

pub put-requires-clause-place : goal.put-requires-clause-place
put-requires-clause-place c = omega (arith, c.raster.ensures.below, ap box_count c.sides-sides.ensures.value, ap box_count c.loop-k.invariant.sides)

pub put-requires-clause-numbered : goal.put-requires-clause-numbered
put-requires-clause-numbered c = c.loop-k.invariant.numbered.numbered

pub put-requires-clause-room : goal.put-requires-clause-room
put-requires-clause-room c =
    let left = c.args.left.now in
    let marks = c.loop-k.marks in
    let below : c.raster.result < box_count marks.sides =
    omega (arith, c.raster.ensures.below, ap box_count c.sides-sides.ensures.value, ap box_count c.loop-k.invariant.sides) in
    let back : raster_point marks.sides c.raster.result ≡ point_of c.near-q.result =
    ap (λ s. raster_point s c.raster.result) (c.loop-k.invariant.sides ∙ sym c.sides-sides.ensures.value) ∙ c.raster.ensures.back in
    let object : IsTrue (at left (raster_point marks.sides c.raster.result)) = ap (at left) back ∙ sym c.has.ensures ∙ c.if-has.true in
    room_more left marks c.loop-k.numbers.items (vec_capacity c.loop-k.numbers) c.loop-k.invariant.numbered c.raster.result below object

pub loop-k-preserved : goal.loop-k-preserved
loop-k-preserved c =
    let left = c.args.left.now in
    let p = point_of c.args.p in
    let q = point_of c.near-q.result in
    let marks = c.loop-k.marks in
    let g = c.loop-k.invariant.points in
    let k = c.loop-k.k in
    elim c.if-has.branch [
      | then-has w ↦
          let object : at left q ≡ true = sym c.has.ensures ∙ w.if-has.true in
          let back : raster_point marks.sides w.raster.result ≡ q =
          ap (λ s. raster_point s w.raster.result) (c.loop-k.invariant.sides ∙ sym c.sides-sides.ensures.value) ∙ w.raster.ensures.back in
          let put = subst (λ z. (r : Point) → IsTrue (at w.put.new.marks r) ↔ (IsTrue (at marks r) ⊎ (z ≡ r))) back w.put.ensures.points in
          record {
            sides = ap (λ (Y : Picture). Y.sides) w.marks-is ∙ w.put.ensures.box_ ∙ c.loop-k.invariant.sides;
            numbered = rw (w.marks-is, w.numbers-is)
                (numbered_with left marks c.loop-k.numbers.items (vec_capacity c.loop-k.numbers) c.loop-k.invariant.numbered w.raster.result w.put.new.marks
                w.put.new.numbers.items (vec_capacity w.put.new.numbers) (subst (λ z. IsTrue (at left z)) (sym back) object) w.put.ensures.numbered
                w.put.ensures.points w.put.ensures.capacity);
            capacity = ap vec_capacity w.numbers-is ∙ w.put.ensures.capacity ∙ c.loop-k.invariant.capacity;
            points = subst (Gathering left p (λ j. k + 1 ≤ j) c.args.marks.now) (sym w.marks-is)
                (gather_yes left p (λ j. k ≤ j) (λ j. k + 1 ≤ j) k c.args.marks.now marks g (moves k) q w.put.new.marks (near_listed_once p) c.loop-k-test.true
                c.near-q.ensures object put);
          }
      | else-has w ↦
          let none : IsTrue (at left (near_point p k))
          → ⊥ = λ h. (let f : true ≡ false = sym h ∙ ap (at left) (sym c.near-q.ensures) ∙ sym c.has.ensures ∙ w.if-has.false in cc) in
          record {
            sides = ap (λ (Y : Picture). Y.sides) w.marks-is ∙ c.loop-k.invariant.sides;
            numbered = rw (w.marks-is, w.numbers-is) c.loop-k.invariant.numbered;
            capacity = ap vec_capacity w.numbers-is ∙ c.loop-k.invariant.capacity;
            points = subst (Gathering left p (λ j. k + 1 ≤ j) c.args.marks.now) (sym w.marks-is)
                (gather_no left p (λ j. k ≤ j) (λ j. k + 1 ≤ j) k c.args.marks.now marks g (moves k) none);
          }
    ]

pub returns-clause-points : goal.returns-clause-points
returns-clause-points c =
    let p = point_of c.args.p in
    gather_all c.args.left.now p (λ j. c.loop-k.k ≤ j) c.args.marks.now c.loop-k.marks (near_listed_once p)
    (λ j l m. (let n : j < 26 = l in omega (arith, n, m, c.loop-k-test.false))) c.loop-k.invariant.points
