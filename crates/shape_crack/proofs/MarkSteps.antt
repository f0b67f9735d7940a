-- One more mark: a bit is set, and no other changes.
-- Stated of the bits alone.
use Rattle.std.proofs.Common.{◌≡◌, ◌≢◌, ◌/◌, ◌%◌, ◌<◌, ℕ, zero, suc, Bool, true, false, List, length, get_or, set, refl, ap, ◌∙◌, arith}
use Rattle.std.proofs.lemmas.List.{get_or-set_same, get_or-set_other}
use native.Mathlib.Decide.{ℕ_discrete}
use Rattle.shape_terms.specs.CrackNumbers.{IsMarkedBesides}
use Rattle.shape_crack.specs.MarkBits.{side_bit, is_set}

-- the bit of another side than the upper one, or the lower one, does not depend on it
not_upper : (a b l : Bool) (s : ℕ) → s ≢ 0 → side_bit a l s ≡ side_bit b l s
not_upper a b l zero n = absurd (n refl)
not_upper a b l (suc zero) n = refl
not_upper a b l (suc (suc zero)) n = refl
not_upper a b l (suc (suc (suc s))) n = refl

not_lower : (u a b : Bool) (s : ℕ) → s ≢ 2 → side_bit u a s ≡ side_bit u b s
not_lower u a b zero n = refl
not_lower u a b (suc zero) n = refl
not_lower u a b (suc (suc zero)) n = absurd (n refl)
not_lower u a b (suc (suc (suc s))) n = refl

module _ (upper lower : List Bool) (n : ℕ) where
  pub upper_marked : n % 4 ≡ 0 → n / 4 < length upper → IsMarkedBesides n (is_set upper lower) (is_set (set upper (n / 4) true) lower)
  upper_marked e l = record {
    marked = ap (side_bit (get_or (set upper (n / 4) true) (n / 4) false) (get_or lower (n / 4) false)) e ∙ get_or-set_same upper (n / 4) true false l;
    others = λ j d. elim (ℕ_discrete (j / 4) (n / 4)) [
      | yes q ↦ not_upper (get_or (set upper (n / 4) true) (j / 4) false) (get_or upper (j / 4) false) (get_or lower (j / 4) false) (j % 4)
          (λ r. d (omega (arith, q, r, e)))
      | no q ↦ ap (λ u. side_bit u (get_or lower (j / 4) false) (j % 4)) (get_or-set_other upper (n / 4) (j / 4) true false q)
    ];
  }

  pub lower_marked : n % 4 ≡ 2 → n / 4 < length lower → IsMarkedBesides n (is_set upper lower) (is_set upper (set lower (n / 4) true))
  lower_marked e l = record {
    marked = ap (side_bit (get_or upper (n / 4) false) (get_or (set lower (n / 4) true) (n / 4) false)) e ∙ get_or-set_same lower (n / 4) true false l;
    others = λ j d. elim (ℕ_discrete (j / 4) (n / 4)) [
      | yes q ↦ not_lower (get_or upper (j / 4) false) (get_or (set lower (n / 4) true) (j / 4) false) (get_or lower (j / 4) false) (j % 4)
          (λ r. d (omega (arith, q, r, e)))
      | no q ↦ ap (λ u. side_bit (get_or upper (j / 4) false) u (j % 4)) (get_or-set_other lower (n / 4) (j / 4) true false q)
    ];
  }
