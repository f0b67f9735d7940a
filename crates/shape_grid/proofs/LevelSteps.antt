-- The levels above the words of a set, while a number is put in or taken out, and while the least is found.
-- Laws over lists alone.
use Rattle.std.proofs.Common.{◌≡◌, ℕ, ◌/◌, ◌%◌, ◌<◌, List, length, slice_index, sym, ◌∙◌, subst, arith}
use native.Mathlib.Decide.{ℕ_discrete}
use Rattle.shape_grid.specs.Sets.{In, IsPut, IsLeast, IsLeastFrom}
use Rattle.shape_grid.specs.Levels.{Sums, AreLevels, IsLeastOfWord}
use Rattle.shape_grid.proofs.WordSteps.{bit_filled}

module _ (upper lower lower' : List ℕ) (i b : ℕ) (s : Sums upper lower) (p : IsPut lower lower' i b) where
  -- the word was not empty, and is not now
  pub sums_kept : 0 < slice_index lower (i / 64) → 0 < slice_index lower' (i / 64) → Sums upper lower'
  sums_kept was is = record {
    enough = let e = p.room in let a = s.enough in omega arith;
    each = λ w. elim (ℕ_discrete w (i / 64)) [
      | yes e ↦ ((λ h. subst (λ w. 0 < slice_index lower' w) (sym e) is), λ h. (s.each w).1 (subst (λ w. 0 < slice_index lower w) (sym e) was))
      | no n ↦ (
          let t = p.words w n in
          ((λ h. let a = (s.each w).0 h in omega arith), λ h. (s.each w).1 (omega arith)))
    ];
  }

  module _ (upper' : List ℕ) where
    -- the number of the word is put in above, for the word is not empty now
    pub sums_in : IsPut upper upper' (i / 64) 1 → 0 < slice_index lower' (i / 64) → Sums upper' lower'
    sums_in u is = record {
      enough = let e = p.room in let f = u.room in let a = s.enough in omega arith;
      each = λ w. elim (ℕ_discrete w (i / 64)) [
        | yes e ↦ ((λ h. subst (λ w. 0 < slice_index lower' w) (sym e) is), λ h. subst (In upper') (sym e) u.here)
        | no n ↦ (
            let t = p.words w n in
            let o = u.others w n in
            ((λ h. let a = (s.each w).0 (sym o ∙ h) in omega arith), λ h. o ∙ (s.each w).1 (omega arith)))
      ];
    }

    -- the number of the word is taken out above, for the word is empty now
    pub sums_out : IsPut upper upper' (i / 64) 0 → slice_index lower' (i / 64) ≡ 0 → Sums upper' lower'
    sums_out u is = record {
      enough = let e = p.room in let f = u.room in let a = s.enough in omega arith;
      each = λ w. elim (ℕ_discrete w (i / 64)) [
        | yes e ↦ (
          (λ h. absurd (let a : In upper' (i / 64) = subst (In upper') e h in let f : 0 ≡ 1 = sym u.here ∙ a in cc)),
          λ h. absurd (let a : 0 < slice_index lower' (i / 64) = subst (λ w. 0 < slice_index lower' w) e h in omega arith),
        )
        | no n ↦ (
            let t = p.words w n in
            let o = u.others w n in
            ((λ h. let a = (s.each w).0 (sym o ∙ h) in omega arith), λ h. o ∙ (s.each w).1 (omega arith)))
      ];
    }

-- levels with as many words as before
pub levels_of : (base first second top base' first' second' top' : List ℕ) → AreLevels base first second top → length base' ≡ length base
    → length first' ≡ length first
    → length second' ≡ length second → length top' ≡ length top → Sums first' base' → Sums second' first' → Sums top' second'
    → AreLevels base' first' second' top'
levels_of base first second top base' first' second' top' l a b d e x y z =
    let m = l.few in
    let n = l.few_first in
    let o = l.few_second in
    let p = l.some in
    let q = l.few_top in
    record {
      few = omega arith;
      first_sums = x;
      second_sums = y;
      top_sums = z;
      some = omega arith;
      few_top = omega arith;
      few_first = omega arith;
      few_second =
          omega arith;
    }

-- ---- the least number

-- the least number above names the first word that is not empty
pub least_below : (upper lower : List ℕ) (w r : ℕ) → Sums upper lower → IsLeast upper w → IsLeastOfWord lower w r → IsLeast lower r
least_below upper lower w r s u l = record {
  there = l.there;
  least = λ j h. l.least j h (u.least (j / 64) ((s.each (j / 64)).1 (bit_filled (slice_index lower (j / 64)) (j % 64) h)));
}

-- the least number from 0 on
pub least_top : (top : List ℕ) (r : ℕ) → IsLeastFrom top 0 r → IsLeast top r
least_top top r l = record { there = l.there; least = λ j h. l.least j h (omega arith) }
