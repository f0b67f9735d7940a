-- A set of cracks that has a crack exactly where it has the next one keeps the rule of each corner of the grid.
-- The next crack is the edge ahead; its four directions at a corner are looked at here.
use Rattle.std.proofs.Common.{◌≡◌, ℕ, ◌+◌, ◌<◌, ◌%◌, Bool, true, false, cond, refl, sym, ◌∙◌, ap, subst, arith}
use Rattle.std.specs.Prelude.{ℤ, pos, negsuc, ◌+ℤ◌}
use Rattle.std.proofs.lemmas.Int.{ints}
use Rattle.shape_terms.proofs.Turning.{IsEdge, ahead_by, edge_ahead}
use Rattle.shape_terms.proofs.Successor.{Place, step, moves, IsSide}
use Rattle.measure_terms.proofs.Parities.{TurnedAt}
use Rattle.measure_terms.proofs.OverSteps.{place_is}

-- the set has an edge exactly where it has the one ahead
abbrev pub IsClosed : (Place → Bool) → (Place → ℕ → Bool) → Type 0
IsClosed X M = (p : Place) (d : ℕ) → IsEdge moves X IsSide p d → let n = edge_ahead moves X p d in M p d ≡ M n.0 n.1

value_ahead : (M : Place → ℕ → Bool) (b a : Bool) (p A B : Place) (d : ℕ) → let n = ahead_by moves (λ (q : Place). true) b a p A B d in
    M n.0 n.1 ≡ cond b (M B ((d + 3) % 4)) (cond a (M A d) (M p ((d + 1) % 4)))
value_ahead M true a p A B d = refl
value_ahead M false true p A B d = refl
value_ahead M false false p A B d = refl

same_ahead : (X : Place → Bool) (M : Place → ℕ → Bool) (b a : Bool) (p A B : Place) (d : ℕ) → let n = ahead_by moves X b a p A B d in
    M n.0 n.1 ≡ cond b (M B ((d + 3) % 4)) (cond a (M A d) (M p ((d + 1) % 4)))
same_ahead X M true a p A B d = refl
same_ahead X M false true p A B d = refl
same_ahead X M false false p A B d = refl

module _ (X : Place → Bool) (M : Place → ℕ → Bool) (closed : IsClosed X M) where
  -- the rule for a pixel p, the one over the side o, the one ahead a and the one ahead over the side b
  rule : (p o a b : Place) (d : ℕ) → d < 4 → step d p ≡ o → step ((d + 1) % 4) p ≡ a → step ((d + 1) % 4) (step d p) ≡ b → X p ≡ true → X o ≡ false →
      M p d ≡ cond (X b) (M b ((d + 3) % 4)) (cond (X a) (M a d) (M p ((d + 1) % 4)))
  rule p o a b d l e f g h k =
      let A = step ((d + 1) % 4) p in
      let B = step ((d + 1) % 4) (step d p) in
      closed p d (l, h, subst (λ (q : Place). X q ≡ false) (sym e) k) ∙ (same_ahead X M (X B) (X A) p A B d
      ∙ (ap (λ (q : Place). cond (X q) (M q ((d + 3) % 4)) (cond (X A) (M A d) (M p ((d + 1) % 4)))) g
      ∙ ap (λ (q : Place). cond (X b) (M b ((d + 3) % 4)) (cond (X q) (M q d) (M p ((d + 1) % 4)))) f))

  module _ (x y : ℤ) where
    on_x : x +ℤ pos 0 ≡ x
    on_x = omega (arith, ints)

    on_y : y +ℤ pos 0 ≡ y
    on_y = omega (arith, ints)

    right_x : x +ℤ pos 1 +ℤ pos 0 ≡ x +ℤ pos 1
    right_x = omega (arith, ints)

    low_y : y +ℤ pos 1 +ℤ pos 0 ≡ y +ℤ pos 1
    low_y = omega (arith, ints)

    still_y : y +ℤ pos 0 +ℤ pos 1 ≡ y +ℤ pos 1
    still_y = omega (arith, ints)

    still_x : x +ℤ pos 0 +ℤ pos 1 ≡ x +ℤ pos 1
    still_x = omega (arith, ints)

    back_x : x +ℤ pos 1 +ℤ negsuc 0 ≡ x
    back_x = omega (arith, ints)

    back_y : y +ℤ pos 1 +ℤ negsuc 0 ≡ y
    back_y = omega (arith, ints)

    lower_back_x : x +ℤ pos 1 +ℤ pos 0 +ℤ negsuc 0 ≡ x
    lower_back_x = omega (arith, ints)

    back_on_x : x +ℤ pos 1 +ℤ negsuc 0 +ℤ pos 0 ≡ x
    back_on_x = omega (arith, ints)

    low_on_back_y : y +ℤ pos 1 +ℤ pos 0 +ℤ negsuc 0 ≡ y
    low_on_back_y = omega (arith, ints)

    back_on_y : y +ℤ pos 1 +ℤ negsuc 0 +ℤ pos 0 ≡ y
    back_on_y = omega (arith, ints)

    pub turned_at : TurnedAt X M x y
    turned_at = record {
      down = rule (x, y) (x +ℤ pos 1, y) (x, y +ℤ pos 1) (x +ℤ pos 1, y +ℤ pos 1) 1 (omega arith)
          (place_is _ _ _ _ refl on_y) (place_is _ _ _ _ on_x refl) (place_is _ _ _ _ right_x still_y);
      left = rule (x +ℤ pos 1, y) (x +ℤ pos 1, y +ℤ pos 1) (x, y) (x, y +ℤ pos 1) 2 (omega arith)
          (place_is _ _ _ _ right_x refl) (place_is _ _ _ _ back_x on_y) (place_is _ _ _ _ lower_back_x low_y);
      up = rule (x +ℤ pos 1, y +ℤ pos 1) (x, y +ℤ pos 1) (x +ℤ pos 1, y) (x, y) 3 (omega arith)
          (place_is _ _ _ _ back_x low_y) (place_is _ _ _ _ right_x back_y) (place_is _ _ _ _ back_on_x low_on_back_y);
      right = rule (x, y +ℤ pos 1) (x, y) (x +ℤ pos 1, y +ℤ pos 1) (x +ℤ pos 1, y) 0 (omega arith)
          (place_is _ _ _ _ on_x back_y) (place_is _ _ _ _ refl low_y) (place_is _ _ _ _ still_x back_on_y);
    }
