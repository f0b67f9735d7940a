-- The steps of a run of corners go by two signs, or two of them are opposite.
-- One step more at a time; sheared points belong elsewhere.
use Rattle.std.proofs.Common.{◌≡◌, ◌⊎◌, inl, inr, ℕ, zero, suc, ◌+◌, ◌<◌, refl, ap, sym, ◌∙◌, subst, arith, List, [], ◌∷◌, length}
use Rattle.std.specs.Prelude.{ℤ, pos, negsuc, ◌*ℤ◌}
use Rattle.std.proofs.lemmas.Int.{ints}
use native.Mathlib.Decide.{dec_lt}
use Rattle.shape_terms.specs.Points.{Point, coordinate}
use Rattle.shape_terms.specs.Vectors.{times}
use Rattle.shape_terms.specs.Refutations.{point_at}
use Rattle.edge_terms.specs.Corners.{IsSign, step_at, across_by, down_by, IsUnitStep}
use Rattle.edge_terms.specs.EdgeEvidence.{IsBend}
use Rattle.edge_terms.proofs.ShearedRuns.{GoneBy}

-- two signs are the same or opposite
signs_same : (z h : ℤ) → IsSign z → IsSign h → (z ≡ h) ⊎ (z ≡ negsuc 0 *ℤ h)
signs_same z h (inl a) (inl b) = inl (a ∙ sym b)
signs_same z h (inl a) (inr b) = inr (a ∙ ap (λ (x : ℤ). negsuc 0 *ℤ x) (sym b))
signs_same z h (inr a) (inl b) = inr (a ∙ ap (λ (x : ℤ). negsuc 0 *ℤ x) (sym b))
signs_same z h (inr a) (inr b) = inl (a ∙ sym b)

no_sign : (v : ℤ) → IsSign v → pos 0 ≡ v → ⊥
no_sign v (inl e) f = absurd (omega (arith, ints))
no_sign v (inr e) f = absurd (omega (arith, ints))

-- no step goes both across and down
not_both : (h v : ℤ) → IsSign v → across_by h ≡ down_by v → ⊥
not_both h v s e = no_sign v s (ap (λ (p : Point). coordinate p 1) e)

below_or_at : (n i : ℕ) → i < suc n → (i < n) ⊎ (i ≡ n)
below_or_at n i l = elim (dec_lt i n) [ yes m ↦ inl m | no m ↦ inr (omega arith) ]

times_none : (z : ℤ) → z *ℤ pos 0 ≡ pos 0
times_none (pos n) = omega (arith, ints)
times_none (negsuc n) = omega (arith, ints)

-- each of the first steps, and one more
each_more : (P : ℕ → Type 0) (n : ℕ) → ((i : ℕ) → i < n → P i) → P n → (i : ℕ) → i < suc n → P i
each_more P n h q i l = elim (below_or_at n i l) [ inl m ↦ h i m | inr e ↦ subst P (sym e) q ]

module _ (run : List Point) (n : ℕ) (within : n + 1 < length run) (h v z : ℤ) (g : GoneBy run n h v) (zs : IsSign z) where
  abbrev Goes : ℤ → ℤ → ℕ → Type 0
  Goes a b i = (step_at run i ≡ across_by a) ⊎ (step_at run i ≡ down_by b)

  abbrev Told : Type 0
  Told = ((a : ℤ) × (b : ℤ) × GoneBy run (suc n) a b) ⊎ ((i : ℕ) × (j : ℕ) × IsBend run i j)

  -- ---- a step across
  module _ (e : step_at run n ≡ across_by z) where
    first_across : ((i : ℕ) → i < n → step_at run i ≡ down_by v) → GoneBy run (suc n) z v
    first_across all = record {
      h_sign = zs;
      v_sign = g.v_sign;
      across = inl (n, omega arith, e);
      down = elim g.down [
        | inl d ↦ inl (d.0, omega (arith, d.1), d.2)
        | inr a ↦ inr (each_more (λ i. step_at run i ≡ across_by z) n (λ i l. absurd (not_both h v g.v_sign (sym (a i l) ∙ all i l))) e)
      ];
      steps = each_more (Goes z v) n (λ i l. inr (all i l)) (inl e);
    }

    same_across : z ≡ h → (i : ℕ) → i < n → step_at run i ≡ across_by h → GoneBy run (suc n) h v
    same_across q i l a =
        let here : step_at run n ≡ across_by h = e ∙ ap across_by q in
        record {
          h_sign = g.h_sign;
          v_sign = g.v_sign;
          across = inl (i, omega arith, a);
          down = elim g.down [
            | inl d ↦ inl (d.0, omega (arith, d.1), d.2)
            | inr b ↦ inr (each_more (λ j. step_at run j ≡ across_by h) n b here)
          ];
          steps = each_more (Goes h v) n g.steps (inl here);
        }

    bent_across : z ≡ negsuc 0 *ℤ h → (i : ℕ) → i < n → step_at run i ≡ across_by h → IsBend run n i
    bent_across q i l a = record {
      first = within;
      second = omega arith;
      opposite = e ∙ ((λ k. q k ∷ sym (times_none (negsuc 0)) k ∷ []) ∙ ap (times (negsuc 0)) (sym a));
    }

    pub across_told : Told
    across_told = elim g.across [
      | inr all ↦ inl (z, v, first_across all)
      | inl a ↦ elim (signs_same z h zs g.h_sign) [
        | inl q ↦ inl (h, v, same_across q a.0 a.1 a.2)
        | inr q ↦ inr (n, a.0, bent_across q a.0 a.1 a.2)
      ]
    ]

  -- ---- a step down
  module _ (e : step_at run n ≡ down_by z) where
    first_down : ((i : ℕ) → i < n → step_at run i ≡ across_by h) → GoneBy run (suc n) h z
    first_down all = record {
      h_sign = g.h_sign;
      v_sign = zs;
      across = elim g.across [
        | inl a ↦ inl (a.0, omega (arith, a.1), a.2)
        | inr d ↦ inr (each_more (λ i. step_at run i ≡ down_by z) n (λ i l. absurd (not_both h v g.v_sign (sym (all i l) ∙ d i l))) e)
      ];
      down = inl (n, omega arith, e);
      steps = each_more (Goes h z) n (λ i l. inl (all i l)) (inr e);
    }

    same_down : z ≡ v → (i : ℕ) → i < n → step_at run i ≡ down_by v → GoneBy run (suc n) h v
    same_down q i l d =
        let here : step_at run n ≡ down_by v = e ∙ ap down_by q in
        record {
          h_sign = g.h_sign;
          v_sign = g.v_sign;
          across = elim g.across [
            | inl a ↦ inl (a.0, omega (arith, a.1), a.2)
            | inr b ↦ inr (each_more (λ j. step_at run j ≡ down_by v) n b here)
          ];
          down = inl (i, omega arith, d);
          steps = each_more (Goes h v) n g.steps (inr here);
        }

    bent_down : z ≡ negsuc 0 *ℤ v → (i : ℕ) → i < n → step_at run i ≡ down_by v → IsBend run n i
    bent_down q i l d = record {
      first = within;
      second = omega arith;
      opposite = e ∙ ((λ k. sym (times_none (negsuc 0)) k ∷ q k ∷ []) ∙ ap (times (negsuc 0)) (sym d));
    }

    pub down_told : Told
    down_told = elim g.down [
      | inr all ↦ inl (h, z, first_down all)
      | inl d ↦ elim (signs_same z v zs g.v_sign) [
        | inl q ↦ inl (h, v, same_down q d.0 d.1 d.2)
        | inr q ↦ inr (n, d.0, bent_down q d.0 d.1 d.2)
      ]
    ]

-- ---- all steps

no_steps : (run : List Point) → GoneBy run 0 (pos 1) (pos 1)
no_steps run = record {
  h_sign = inl refl;
  v_sign = inl refl;
  across = inr (λ i l. absurd (omega arith));
  down = inr (λ i l. absurd (omega arith));
  steps = λ i l. absurd (omega arith);
}

pub signs_told : (run : List Point) → ((i : ℕ) → i + 1 < length run → IsUnitStep (point_at run i) (point_at run (i + 1))) → (n : ℕ) → n < length run
    → ((h : ℤ) × (v : ℤ) × GoneBy run n h v) ⊎ ((i : ℕ) × (j : ℕ) × IsBend run i j)
signs_told run units zero l = inl (pos 1, pos 1, no_steps run)
signs_told run units (suc n) l = elim (signs_told run units n (omega arith)) [
  | inr b ↦ inr b
  | inl (h, v, g) ↦
      (let within : n + 1 < length run = omega arith in
      let u = units n within in
      elim u.2 [
        | inl e ↦ across_told run n within h v u.0 g u.1 e
        | inr e ↦ down_told run n within h v u.0 g u.1 e
      ])
]
