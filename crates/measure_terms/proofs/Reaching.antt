-- From each pixel outside a component a straight walk towards a pixel of it comes over a crack of the component.
-- The walk goes on while it is outside, so the pixel before the crack is joined to the first one.
use Rattle.std.proofs.Common.{◌≡◌, inl, inr, ℕ, zero, suc, ◌+◌, ◌<◌, ◌%◌, Bool, true, false, refl, sym, subst, arith}
use Rattle.std.specs.Prelude.{ℤ, pos, negsuc, ◌-ℤ◌, nat_abs}
use Rattle.std.proofs.lemmas.Int.{ints}
use Rattle.std.proofs.lemmas.Bool.{cases_Bool, both_ways}
use Rattle.shape_terms.specs.Parts.{Connected}
use Rattle.shape_terms.proofs.Turning.{IsEdge}
use Rattle.shape_terms.proofs.Successor.{Place, step, moves, IsSide, move_laws}
use Rattle.measure_terms.proofs.OverSteps.{Close, place_is}
use Rattle.measure_terms.proofs.Parted.{Beside, Outside}

-- the number of steps over sides from the one pixel to the other
abbrev pub way : Place → Place → ℕ
way p q = nat_abs (p.0 -ℤ q.0) + nat_abs (p.1 -ℤ q.1)

-- a step towards another pixel is in the set F with both
abbrev pub IsWide : (Place → Type 0) → Type 0
IsWide F = (q k : Place) (d : ℕ) → d < 4 → F q → F k → way (step d q) k < way q k → F (step d q)

-- a step that leads one nearer
nearer : (q k : Place) (n : ℕ) → way q k ≡ suc n → (d : ℕ) × (d < 4) × (way (step d q) k ≡ n)
nearer q k n h = by (q.0 -ℤ k.0) (q.1 -ℤ k.1) refl refl
  where
    by : (x y : ℤ) → x ≡ q.0 -ℤ k.0 → y ≡ q.1 -ℤ k.1 → (d : ℕ) × (d < 4) × (way (step d q) k ≡ n)
    by (pos (suc x)) y e f = (3, omega arith, omega (arith, ints))
    by (negsuc x) y e f = (1, omega arith, omega (arith, ints))
    by (pos zero) (pos zero) e f = absurd (omega (arith, ints))
    by (pos zero) (pos (suc y)) e f = (0, omega arith, omega (arith, ints))
    by (pos zero) (negsuc y) e f = (2, omega arith, omega (arith, ints))

no_way : (q k : Place) → way q k ≡ 0 → q ≡ k
no_way q k h = place_is q.0 q.1 k.0 k.1 (omega (arith, ints)) (omega (arith, ints))

step_is_close : (d : ℕ) (q : Place) → Close (step d q) q
step_is_close zero q = (omega (arith, ints), omega (arith, ints))
step_is_close (suc zero) q = (omega (arith, ints), omega (arith, ints))
step_is_close (suc (suc zero)) q = (omega (arith, ints), omega (arith, ints))
step_is_close (suc (suc (suc d))) q = (omega (arith, ints), omega (arith, ints))

-- a component of the object, as a truth value at each place
pub record IsWhole (X K : Place → Bool) : Type 0 where
  pub object : (p : Place) → K p ≡ true → X p ≡ true
  pub whole : (p q : Place) → K p ≡ true → X q ≡ true → Close p q → K q ≡ true

-- a crack of the component, over which a pixel lies that is joined to q
pub record Reached (F : Place → Type 0) (X K : Place → Bool) (q : Place) : Type 0 where
  pub pixel : Place
  pub side : ℕ
  pub edge : IsEdge moves X IsSide pixel side
  pub own : K pixel ≡ true
  pub joined : Connected Beside (Outside F K) q (step side pixel)

module _ (F : Place → Type 0) (X K : Place → Bool) (wide : IsWide F) (w : IsWhole X K) where
  bare_beside : (q r : Place) → K q ≡ false → K r ≡ true → Close r q → X q ≡ false
  bare_beside q r h k c = elim (cases_Bool (X q)) [
    | inl t ↦ absurd (both_ways (K q) h (w.whole r q k t c))
    | inr f ↦ f
  ]

  pub reached : (n : ℕ) (q k : Place) → way q k ≡ n → F q → F k → K q ≡ false → K k ≡ true → Reached F X K q
  reached zero q k e f g h t = absurd (both_ways (K q) h (subst (λ (p : Place). K p ≡ true) (sym (no_way q k e)) t))
  reached (suc n) q k e f g h t =
      let (d, l, m) = nearer q k n e in
      let r = step d q in
      let b : step (((d + 1) % 4 + 1) % 4) r ≡ q = move_laws.there_and_back d q l in
      let a : way (step d q) k < way q k = omega arith in
      elim (cases_Bool (K r)) [
        | inl y ↦ record {
          pixel = r;
          side = ((d + 1) % 4 + 1) % 4;
          edge = (omega arith, w.object r y, subst (λ (p : Place). X p ≡ false) (sym b) (bare_beside q r h y (step_is_close d q)));
          own = y;
          joined = subst (λ (p : Place). Connected Beside (Outside F K) q p) (sym b) (Connected.here (f, h));
        }
        | inr o ↦ (let c = reached n r k m (wide q k d l f g a) g o t in record {
          pixel = c.pixel;
          side = c.side;
          edge = c.edge;
          own = c.own;
          joined = Connected.onward (f, h) (d, l, refl) c.joined;
        })
      ]
