-- Arcs of a contour: a part of an arc is one, a part of a straight run is straight, and an arc one round on is the same arc.
-- What follows from these alone stands in `Gaps`.
use Rattle.std.proofs.Common.{◌≡◌, ℕ, zero, suc, ◌+◌, ◌-◌, ◌<◌, ◌≤◌, ◌%◌, List, [], ◌∷◌, length, map, refl, ap, sym, subst, ◌∙◌, arith, inl, inr}
use Rattle.std.specs.Prelude.{◌-ℤ◌}
use Rattle.std.specs.List.{range_with_len}
use Rattle.std.proofs.lemmas.List.{length-map}
use Rattle.std.proofs.lemmas.List.FromFn.{length-range_with_len, get_or-map-range_with_len}
use Rattle.std.proofs.lemmas.List.Elements.{All-from_get_or}
use Rattle.std.proofs.Math.Nat.{add-mod_right}
use Rattle.shape_terms.specs.Points.{Point, coordinate}
use Rattle.shape_terms.specs.Naive.{Naive, HoldsPoint, IsNaiveFor}
use Rattle.shape_terms.specs.Refutations.{point_at}
use Rattle.shape_terms.specs.Turns.{change_at, other_axis, IsTurn}
use Rattle.shape_terms.specs.Straight.{IsStraightFor, IsStraight}
use Rattle.shape_terms.specs.Covers.{arc}

-- ys are the points of xs from place s on
pub record IsPart (xs ys : List Point) (s : ℕ) : Type 0 where
  pub len : s + length ys ≤ length xs
  pub same : (i : ℕ) → i < length ys → point_at ys i ≡ point_at xs (s + i)

same_change : (xs ys : List Point) (s : ℕ) → IsPart xs ys s → (t i : ℕ) → i + 1 < length ys → change_at ys t i ≡ change_at xs t (s + i)
same_change xs ys s p t i l =
    let a : point_at ys i ≡ point_at xs (s + i) = p.same i (omega arith) in
    let b : point_at ys (i + 1) ≡ point_at xs (s + i + 1) = p.same (i + 1) l ∙ ap (point_at xs) (let q : s + (i + 1) ≡ s + i + 1 = omega arith in q) in
    λ k. coordinate (b k) (other_axis t) -ℤ coordinate (a k) (other_axis t)

pub part_turn : (xs ys : List Point) (s : ℕ) → IsPart xs ys s → (t i j : ℕ) → IsTurn t ys i j → IsTurn t xs (s + i) (s + j)
part_turn xs ys s p t i j u =
    let a = same_change xs ys s p t i u.first in
    let b = same_change xs ys s p t j u.second in
    record {
      first = omega (arith, p.len, u.first);
      second = omega (arith, p.len, u.second);
      not_forward = λ e. u.not_forward (a ∙ e.0, b ∙ e.1);
      not_backward = λ e. u.not_backward (a ∙ e.0, b ∙ e.1);
    }

pub part_naive : (xs ys : List Point) (s : ℕ) → IsPart xs ys s → (t : ℕ) (n : Naive) → IsNaiveFor t xs n → IsNaiveFor t ys n
part_naive xs ys s p t n h = record {
  proper = h.proper;
  holds = All-from_get_or (HoldsPoint t n) ys [] (λ i l. subst (HoldsPoint t n) (sym (p.same i l)) (h.holds (s + i) [] (omega (arith, p.len))));
}

pub part_straight_for : (xs ys : List Point) (s : ℕ) → IsPart xs ys s → 0 < length ys → (t : ℕ) → IsStraightFor t xs → IsStraightFor t ys
part_straight_for xs ys s p l t h = record {
  some = l;
  no_turn = λ i j u. h.no_turn (s + i) (s + j) (part_turn xs ys s p t i j u);
  line = (h.line.0, part_naive xs ys s p t h.line.0 h.line.1);
}

pub part_straight : (xs ys : List Point) (s : ℕ) → IsPart xs ys s → 0 < length ys → IsStraight xs → IsStraight ys
part_straight xs ys s p l (inl h) = inl (part_straight_for xs ys s p l 0 h)
part_straight xs ys s p l (inr h) = inr (part_straight_for xs ys s p l 1 h)

module _ (contour : List Point) where
  pub length-arc : (b e : ℕ) → length (arc contour b e) ≡ e + 1 - b
  length-arc b e = length-map (range_with_len b (e + 1 - b)) (λ i. point_at contour (i % length contour)) ∙ length-range_with_len b (e + 1 - b)

  pub arc-get : (b e i : ℕ) → i < e + 1 - b → point_at (arc contour b e) i ≡ point_at contour ((b + i) % length contour)
  arc-get b e i l = get_or-map-range_with_len (λ i. point_at contour (i % length contour)) b (e + 1 - b) i (b + i) [] l refl

  pub arc_part : (a b c d : ℕ) → a ≤ c → c ≤ d → d ≤ b → IsPart (arc contour a b) (arc contour c d) (c - a)
  arc_part a b c d h k l = record {
    len = omega (arith, length-arc a b, length-arc c d);
    same = λ i m.
        let m' : i < d + 1 - c = omega (arith, length-arc c d) in
        arc-get c d i m' ∙ (ap (λ v. point_at contour (v % length contour)) (let q : c + i ≡ a + (c - a + i) = omega arith in q)
        ∙ sym (arc-get a b (c - a + i) (omega arith)));
  }

  round : (k b : ℕ) → map (λ i. point_at contour (i % length contour)) (range_with_len (b + length contour) k)
      ≡ map (λ i. point_at contour (i % length contour)) (range_with_len b k)
  round zero b = refl
  round (suc k) b =
      let h : point_at contour ((b + length contour) % length contour) ≡ point_at contour (b % length contour) =
      ap (point_at contour) (add-mod_right b (length contour)) in
      let q : b + length contour + 1 ≡ b + 1 + length contour = omega arith in
      let t = ap (λ v. map (λ i. point_at contour (i % length contour)) (range_with_len v k)) q ∙ round k (b + 1) in
      λ j. h j ∷ t j

  pub arc-round : (b e : ℕ) → arc contour (b + length contour) (e + length contour) ≡ arc contour b e
  arc-round b e = ap (λ k. map (λ i. point_at contour (i % length contour)) (range_with_len (b + length contour) k))
      (let q : e + length contour + 1 - (b + length contour) ≡ e + 1 - b = omega arith in q) ∙ round (e + 1 - b) b
