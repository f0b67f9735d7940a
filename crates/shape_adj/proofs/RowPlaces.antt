-- Points of a box by numbers as a net of places in rows, where an adjacency is told by the first coordinates and the others.
-- Laws for any number of axes.
use Rattle.std.proofs.Common.{◌≡◌, ℕ, suc, ◌+◌, ◌-◌, ◌*◌, ◌/◌, ◌%◌, ◌^◌, ◌<◌, ◌≤◌, Bool, true, ◌∷◌, arith, sym, ◌∙◌, ap, subst, ◌⊎◌, inl, inr}
use Rattle.std.specs.Prelude.{ℤ, pos, ◌-ℤ◌, nat_abs, ◌&&◌, Option, Some}
use Rattle.std.proofs.lemmas.Int.{ints}
use Rattle.std.proofs.lemmas.Bool.{and_parts, and_from}
use Rattle.std.proofs.lemmas.Bool.Decides.{Decides-int_eq}
use Rattle.std.proofs.Math.Nat.{div-add-mod, mod-lt, div-lt_iff_lt-mul, mul-le-mul_left}
use native.Mathlib.Decide.{dec_lt}
use Rattle.shape_terms.specs.Points.{Point, coordinate}
use Rattle.shape_terms.specs.Places.{place_if}
use Rattle.shape_terms.proofs.Boxes.{mod_of, div_of}
use Rattle.shape_terms.proofs.ObjectPlaces.{place_there, place_named}
use Rattle.shape_adj.specs.RowNets.{IsRowNet}
use Rattle.shape_adj.specs.Beside.{same_first}
use Rattle.shape_adj.proofs.RunLines.{in_row}

-- points of one row are adjacent where they are side by side, and points of two rows where the rows are, and the first coordinates are close enough
pub record IsRowed (R : Point → Point → Type 0) (reach : ℕ) : Type 0 where
  pub along : (x y : ℤ) (p : Point) → nat_abs (x -ℤ y) ≡ 1 → R (x ∷ p) (y ∷ p)
  pub across : (x y z : ℤ) (p q : Point) → R (z ∷ p) (z ∷ q) → nat_abs (x -ℤ y) ≤ reach → R (x ∷ p) (y ∷ q)
  pub split : (x y z : ℤ) (p q : Point) → R (x ∷ p) (y ∷ q) → ((p ≡ q) × (nat_abs (x -ℤ y) ≡ 1)) ⊎ (R (z ∷ p) (z ∷ q) × (nat_abs (x -ℤ y) ≤ reach))

module _ (R : Point → Point → Type 0) (reach : ℕ) (law : IsRowed R reach) (flip : (p q : Point) → R p q → R q p) (n rows : ℕ) (some : 1 ≤ n) (h : ℕ → ℤ)
    (tail : ℕ → Point) (gap : (x y : ℕ) → h x -ℤ h y ≡ pos x -ℤ pos y) (point : ℕ → Point) (is : (i : ℕ) → point i ≡ h (i % n) ∷ tail (i / n))
    (neighbour : Point → ℕ → Point) (d : ℕ) (each : (i j : ℕ) → R (point i) (point j) → (k : ℕ) × (k < d) × (neighbour (point i) k ≡ point j))
    (only : (i k : ℕ) → k < d → R (point i) (neighbour (point i) k)) (inside : Point → Bool) (number : Point → ℕ)
    (within : (i : ℕ) → i < n * rows → inside (point i) ≡ true) (back : (i : ℕ) → i < n * rows → number (point i) ≡ i)
    (there : (q : Point) → inside q ≡ true → (number q < n * rows) × (point (number q) ≡ q)) (O : ℕ → Type 0) (bounded : (i : ℕ) → O i → i < n * rows) where
  -- the first place of the row that a step leads to
  abbrev pub beside : ℕ → ℕ → Option ℕ
  beside start k = place_if (same_first (point start) (neighbour (point start) k) && inside (neighbour (point start) k)) (number (neighbour (point start) k))

  -- a place of a row, told by the row's first place
  at_row : (start x : ℕ) → start % n ≡ 0 → x < n → point (start + x) ≡ h x ∷ tail (start / n)
  at_row start x e l =
      let u = in_row n start (start + x) e (omega arith) (omega arith) in
      let m : (start + x) % n ≡ x = omega (arith, u.1) in
      is (start + x) ∙ (λ i. h (m i) ∷ tail (u.0 i))

  first_of : (i : ℕ) → ((i - i % n) % n ≡ 0) × ((i - i % n) / n ≡ i / n)
  first_of i =
      let e = div-add-mod i n in
      let p : 0 + n * (i / n) ≡ i - i % n = omega arith in
      (ap (λ v. v % n) (sym p) ∙ mod_of n 0 (i / n) some, ap (λ v. v / n) (sym p) ∙ div_of n 0 (i / n) some)

  at_first : (i : ℕ) → point (i - i % n) ≡ h 0 ∷ tail (i / n)
  at_first i = let f = first_of i in is (i - i % n) ∙ (λ j. h (f.0 j) ∷ tail (f.1 j))

  row_along : (i : ℕ) → suc i / n ≡ i / n → R (point i) (point (suc i))
  row_along i e =
      let a = div-add-mod i n in
      let b = div-add-mod (suc i) n in
      let c : n * (suc i / n) ≡ n * (i / n) = ap (λ v. n * v) e in
      let m : suc i % n ≡ suc (i % n) = omega arith in
      let p : point (suc i) ≡ h (suc (i % n)) ∷ tail (i / n) = is (suc i) ∙ (λ j. h (m j) ∷ tail (e j)) in
      let g = gap (i % n) (suc (i % n)) in
      let one : nat_abs (h (i % n) -ℤ h (suc (i % n))) ≡ 1 = ap nat_abs g ∙ one_less (i % n) in
      subst (λ q. R (point i) q) (sym p) (subst (λ q. R q (h (suc (i % n)) ∷ tail (i / n))) (sym (is i))
      (law.along (h (i % n)) (h (suc (i % n))) (tail (i / n)) one))
    where
      one_less : (x : ℕ) → nat_abs (pos x -ℤ pos (suc x)) ≡ 1
      one_less x = omega (arith, ints)

  row_sound : (start k other : ℕ) → start < n * rows → start % n ≡ 0 → k < d → beside start k ≡ Some other
      → (other % n ≡ 0) × (other < n * rows) × ((x y : ℕ) → x < n → y < n → x ≤ y + reach → y ≤ x + reach → R (point (start + x)) (point (other + y)))
  row_sound start k other l e m b =
      let q = neighbour (point start) k in
      let t = place_there (same_first (point start) q && inside q) (number q) other b in
      let u = and_parts (same_first (point start) q) (inside q) t.0 in
      let v = there q u.1 in
      let eq : point other ≡ q = ap point (sym t.1) ∙ v.1 in
      let same : coordinate q 0 ≡ coordinate (point start) 0 = (Decides-int_eq (coordinate q 0) (coordinate (point start) 0)).0 u.0 in
      let s : point start ≡ h 0 ∷ tail (start / n) = is start ∙ ap (λ x. h x ∷ tail (start / n)) e in
      let o : h (other % n) ≡ h 0 = sym (ap (λ p. coordinate p 0) (is other)) ∙ ap (λ p. coordinate p 0) eq ∙ same ∙ ap (λ p. coordinate p 0) s in
      let z : other % n ≡ 0 = no_gap (other % n) (sym (gap (other % n) 0) ∙ ap (λ x. x -ℤ h 0) o ∙ gap 0 0) in
      let r : R (h 0 ∷ tail (start / n)) (h 0 ∷ tail (other / n)) = subst (λ p. R p (h 0 ∷ tail (other / n))) s (subst (λ p. R (point start) p)
      (sym eq ∙ is other ∙ ap (λ x. h x ∷ tail (other / n)) z) (only start k m)) in (
        z,
        (let a = v.0 in let c = t.1 in omega arith),
        λ x y a c f g. subst (λ p. R p (point (other + y))) (sym (at_row start x e a)) (subst (λ p. R (h x ∷ tail (start / n)) p) (sym (at_row other y z c))
            (law.across (h x) (h y) (h 0) (tail (start / n)) (tail (other / n)) r (let w = ap nat_abs (gap x y) in let i = close x y f g in omega arith))),
      )
    where
      no_gap : (a : ℕ) → pos a -ℤ pos 0 ≡ pos 0 -ℤ pos 0 → a ≡ 0
      no_gap a e = omega (arith, ints)

      close : (x y : ℕ) → x ≤ y + reach → y ≤ x + reach → nat_abs (pos x -ℤ pos y) ≤ reach
      close x y f g = omega (arith, ints)

  row_complete : (i j : ℕ) → i < n * rows → j < n * rows → R (point i) (point j)
      → ((j / n ≡ i / n) × ((j ≡ suc i) ⊎ (i ≡ suc j)))
      ⊎ ((k : ℕ) × (k < d) × (beside (i - i % n) k ≡ Some (j - j % n)) × (i % n ≤ j % n + reach) × (j % n ≤ i % n + reach))
  row_complete i j l m r =
      elim (law.split (h (i % n)) (h (j % n)) (h 0) (tail (i / n)) (tail (j / n))
      (subst (λ p. R p (h (j % n) ∷ tail (j / n))) (is i) (subst (λ p. R (point i) p) (is j) r))) [
        | inl b ↦ inl (same_row b.0, beside_it (same_row b.0) (sym (ap nat_abs (gap (i % n) (j % n))) ∙ b.1))
        | inr b ↦ inr (
            let near : R (point (i - i % n)) (point (j - j % n)) =
            subst (λ p. R p (point (j - j % n))) (sym (at_first i)) (subst (λ p. R (h 0 ∷ tail (i / n)) p) (sym (at_first j)) b.0) in
            let k = each (i - i % n) (j - j % n) near in
            let a = div-add-mod j n in
            let low : j - j % n < n * rows = omega arith in
            let first : same_first (point (i - i % n)) (point (j - j % n)) ≡ true =
            (Decides-int_eq (coordinate (point (j - j % n)) 0) (coordinate (point (i - i % n)) 0)).1
            (ap (λ p. coordinate p 0) (at_first j) ∙ sym (ap (λ p. coordinate p 0) (at_first i))) in
            let close = far (i % n) (j % n) (let w = ap nat_abs (gap (i % n) (j % n)) in let c = b.1 in omega arith) in (
              k.0,
              k.1,
              ap (λ q. place_if (same_first (point (i - i % n)) q && inside q) (number q)) k.2
                  ∙ place_named (same_first (point (i - i % n)) (point (j - j % n)) && inside (point (j - j % n))) (number (point (j - j % n)))
                  (and_from (same_first (point (i - i % n)) (point (j - j % n))) (inside (point (j - j % n))) first (within (j - j % n) low))
                  ∙ ap (λ v. Some v) (back (j - j % n) low),
              close.0,
              close.1,
            ))
      ]
    where
      far : (x y : ℕ) → nat_abs (pos x -ℤ pos y) ≤ reach → (x ≤ y + reach) × (y ≤ x + reach)
      far x y c = (omega (arith, ints), omega (arith, ints))

      beside_one : (x y : ℕ) → nat_abs (pos x -ℤ pos y) ≡ 1 → (y ≡ suc x) ⊎ (x ≡ suc y)
      beside_one x y e = elim (dec_lt x y) [ yes l ↦ inl (omega (arith, ints)) | no l ↦ inr (omega (arith, ints)) ]

      -- the other point is that of a place of the row
      same_row : tail (i / n) ≡ tail (j / n) → j / n ≡ i / n
      same_row e =
          let low : j % n < n = mod-lt j some in
          let p : j % n + n * (i / n) < n * rows = row_end in
          let q : (j % n + n * (i / n)) % n ≡ j % n = mod_of n (j % n) (i / n) low in
          let s : (j % n + n * (i / n)) / n ≡ i / n = div_of n (j % n) (i / n) low in
          let a : point (j % n + n * (i / n)) ≡ point j = is (j % n + n * (i / n)) ∙ (λ v. h (q v) ∷ tail (s v)) ∙ ap (λ t. h (j % n) ∷ t) e ∙ sym (is j) in
          let b : j % n + n * (i / n) ≡ j = sym (back (j % n + n * (i / n)) p) ∙ ap number a ∙ back j m in
          sym (ap (λ v. v / n) b) ∙ s
        where
          row_end : j % n + n * (i / n) < n * rows
          row_end =
              let low : j % n < n = mod-lt j some in
              let a = div-add-mod i n in
              let c : i / n < rows = (div-lt_iff_lt-mul {k = n} {x = i} {y = rows} (omega arith)).1 (let t : i < rows * n = omega arith in t) in
              let p = mul-le-mul_left n (let t : suc (i / n) ≤ rows = omega arith in t) in
              let s : n * suc (i / n) ≡ n * (i / n) + n = grind arith in
              omega arith

      beside_it : j / n ≡ i / n → nat_abs (pos (i % n) -ℤ pos (j % n)) ≡ 1 → (j ≡ suc i) ⊎ (i ≡ suc j)
      beside_it e one =
          let a = div-add-mod i n in
          let b = div-add-mod j n in
          let c : n * (j / n) ≡ n * (i / n) = ap (λ v. n * v) e in
          elim (beside_one (i % n) (j % n) one) [ inl s ↦ inl (omega arith) | inr s ↦ inr (omega arith) ]

  pub rows_net : n * rows < 2 ^ 32 → IsRowNet (n * rows) n reach O (λ i j. R (point i) (point j)) d beside
  rows_net few = record {
    some = some;
    few = few;
    whole = (let e : 0 + n * rows ≡ n * rows = omega arith in ap (λ v. v % n) (sym e) ∙ mod_of n 0 rows some);
    bounded = bounded;
    symmetric = λ i j. flip (point i) (point j);
    along = λ i l e. row_along i e;
    sound = row_sound;
    complete = λ i j a b r. row_complete i j (bounded i a) (bounded j b) r;
  }
