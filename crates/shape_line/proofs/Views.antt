-- The points of the line between the first and the last place are the run of the segment.
-- That a segment has one run alone stands in `Frames`.
use Rattle.std.proofs.Common.{◌≡◌, ℕ, zero, suc, ◌+◌, ◌<◌, [], length, refl, ap, sym, subst, ◌∙◌, arith, ◌⊎◌, inl, inr}
use Rattle.std.specs.Prelude.{ℤ, pos, negsuc, ◌+ℤ◌, ◌-ℤ◌, ◌*ℤ◌, neg_ℤ, ◌≤ℤ◌, ◌<ℤ◌, nat_abs}
use Rattle.std.proofs.lemmas.Int.{ints}
use Rattle.std.proofs.lemmas.List.FromFn.{length-map-range_with_len, get_or-map-range_with_len}
use Rattle.std.proofs.Math.IntN.{neg_ℤ-neg_ℤ}
use Rattle.shape_terms.specs.Points.{Point, coordinate}
use Rattle.shape_terms.specs.Refutations.{point_at}
use Rattle.shape_terms.specs.Turns.{other_axis}
use Rattle.shape_terms.proofs.Products.{rings}
use Rattle.shape_line.specs.Segments.{Seg, IsTaken}
use Rattle.shape_line.specs.Frames.{row, IsSense, along, height, IsRunOf, floor_div, line_point, line_points}
use Rattle.shape_line.proofs.Frames.{which}

floor_div_is : (z b : ℤ) → pos 0 <ℤ b → (pos 0 ≤ℤ (z -ℤ b *ℤ floor_div z b)) × ((z -ℤ b *ℤ floor_div z b) <ℤ b)
floor_div_is (pos n) (pos b) h = let l : 0 < b = omega (arith, ints) in (omega (arith, ints), omega (arith, ints))
floor_div_is (negsuc n) (pos b) h = let l : 0 < b = omega (arith, ints) in (omega (arith, ints), omega (arith, ints))
floor_div_is z (negsuc b) h = absurd (omega (arith, ints))

between : (p mu q b : ℤ) → pos 0 ≤ℤ (p -ℤ mu -ℤ q) → (p -ℤ mu -ℤ q) <ℤ b → (mu ≤ℤ (p -ℤ q)) × ((p -ℤ q) <ℤ (mu +ℤ b))
between p mu q b h k = (omega (arith, ints), omega (arith, ints))

row_two : (t : ℕ) (r q : ℤ) → length (row t r q) ≡ 2
row_two zero r q = refl
row_two (suc t) r q = refl

row_other : (t : ℕ) (r q : ℤ) → t < 2 → coordinate (row t r q) (other_axis t) ≡ r
row_other zero r q l = refl
row_other (suc zero) r q l = refl
row_other (suc (suc t)) r q l = absurd (omega arith)

row_main : (t : ℕ) (r q : ℤ) → t < 2 → coordinate (row t r q) t ≡ q
row_main zero r q l = refl
row_main (suc zero) r q l = refl
row_main (suc (suc t)) r q l = absurd (omega arith)

back : (s x : ℤ) → (s ≡ pos 1) ⊎ (s ≡ negsuc 0) → s *ℤ (s *ℤ x) ≡ x
back s x (inl e) = subst (λ (s : ℤ). s *ℤ (s *ℤ x) ≡ x) (sym e) (omega (arith, ints, rings))
back s x (inr e) = subst (λ (s : ℤ). s *ℤ (s *ℤ x) ≡ x) (sym e) (omega (arith, ints, rings))

module _ (t : ℕ) (s : ℤ) (l : t < 2) (sense : IsSense s) (seg : Seg) (some : pos 0 <ℤ seg.b) (order : seg.x0 ≤ℤ seg.x1) where
  point_along : (i : ℕ) → along t s (line_point t s seg i) ≡ seg.x0 +ℤ pos i
  point_along i = ap (λ (z : ℤ). s *ℤ z) (row_other t _ _ l) ∙ back s (seg.x0 +ℤ pos i) (which s sense)

  point_height : (i : ℕ) → height t (line_point t s seg i) ≡ floor_div (seg.a *ℤ (seg.x0 +ℤ pos i) -ℤ seg.mu) seg.b
  point_height i = ap neg_ℤ (row_main t (s *ℤ (seg.x0 +ℤ pos i)) _ l) ∙ neg_ℤ-neg_ℤ (floor_div (seg.a *ℤ (seg.x0 +ℤ pos i) -ℤ seg.mu) seg.b)

  point_taken : (i : ℕ) → i < nat_abs (seg.x1 -ℤ seg.x0) + 1 → IsTaken seg (along t s (line_point t s seg i)) (height t (line_point t s seg i))
  point_taken i m =
      let x = seg.x0 +ℤ pos i in
      let y = floor_div (seg.a *ℤ x -ℤ seg.mu) seg.b in
      let f = floor_div_is (seg.a *ℤ x -ℤ seg.mu) seg.b some in
      let g = between (seg.a *ℤ x) seg.mu (seg.b *ℤ y) seg.b f.0 f.1 in
      let h : IsTaken seg x y = record { from = omega (arith, ints); to = last seg.x0 seg.x1 i order m; low = g.0; high = g.1 } in
      subst (λ (z : ℤ). IsTaken seg z (height t (line_point t s seg i))) (sym (point_along i)) (subst (λ (z : ℤ). IsTaken seg x z) (sym (point_height i)) h)
    where
      last : (x0 x1 : ℤ) (i : ℕ) → x0 ≤ℤ x1 → i < nat_abs (x1 -ℤ x0) + 1 → (x0 +ℤ pos i) ≤ℤ x1
      last x0 x1 i h m = omega (arith, ints)

  at_place : (i : ℕ) → i < nat_abs (seg.x1 -ℤ seg.x0) + 1 → point_at (line_points t s seg) i ≡ line_point t s seg i
  at_place i m = get_or-map-range_with_len (line_point t s seg) 0 (nat_abs (seg.x1 -ℤ seg.x0) + 1) i i [] m (omega arith)

  pub line_points_are : IsRunOf t s seg (line_points t s seg)
  line_points_are =
      let n : length (line_points t s seg) ≡ nat_abs (seg.x1 -ℤ seg.x0) + 1 = length-map-range_with_len (line_point t s seg) 0 (nat_abs (seg.x1 -ℤ seg.x0) + 1)
      in
      record {
        count = counted (length (line_points t s seg)) seg.x0 seg.x1 order n;
        flat = λ i m. ap length (at_place i (less _ _ _ n m)) ∙ row_two t _ _;
        place = λ i m. ap (along t s) (at_place i (less _ _ _ n m)) ∙ point_along i;
        taken = λ i m. subst (λ (p : Point). IsTaken seg (along t s p) (height t p)) (sym (at_place i (less _ _ _ n m))) (point_taken i (less _ _ _ n m));
      }
    where
      counted : (n : ℕ) (x0 x1 : ℤ) → x0 ≤ℤ x1 → n ≡ nat_abs (x1 -ℤ x0) + 1 → pos n ≡ x1 -ℤ x0 +ℤ pos 1
      counted n x0 x1 h e = omega (arith, ints)

      less : (n m i : ℕ) → n ≡ m → i < n → i < m
      less n m i e h = omega arith
