-- A picture that gains object points: none, one, and those of several turns.
-- Laws over pictures and numbers alone.
use Rattle.std.proofs.Common.{refl, ◌≡◌, ℕ, ◌+◌, ◌-◌, ◌*◌, ◌/◌, ◌^◌, ◌<◌, ◌≤◌, ◌⊎◌, inl, inr, Bool, true, false, List, length, set, get_or, ap, sym, ◌∙◌, subst, arith}
use Rattle.std.specs.Prelude.{◌↔◌}
use Rattle.std.proofs.lemmas.List.{length-set, get_or-set_same, get_or-set_other, get_or_past}
use Rattle.std.specs.Int.{bit_at}
use Rattle.std.specs.Int.Count.{count_trailing_zeros}
use Rattle.std.proofs.lemmas.Nat.Bits.{bit_at-zero}
use native.Mathlib.Decide.{dec_lt, ℕ_discrete}
use Rattle.shape_terms.specs.Pictures.{Picture}
use Rattle.shape_adj.specs.FacePoints.{IsOpen, IsOpenBelow, IsTrueFrom, IsTrueInBlocks, Gains}
use Rattle.shape_adj.proofs.LowestBits.{less_bit, lowest_in, lowest_gone, less_same}

pub gains_none : (A : Picture) (Q : ℕ → Type 0) → ((i : ℕ) → Q i → ⊥) → Gains A A Q
gains_none A Q n = record { sides = refl; filled = refl; each = λ i. ((λ t. inl t), λ h. elim h [ inl t ↦ t | inr q ↦ absurd (n i q) ]) }

pub gains_one : (A B : Picture) (i : ℕ) → i < length A.values → B ≡ record { sides = A.sides; values = set A.values i true } → Gains A B (λ j. j ≡ i)
gains_one A B i l e = subst (λ (Z : Picture). Gains A Z (λ j. j ≡ i)) (sym e) (record {
  sides = refl;
  filled = length-set A.values i true;
  each = λ j. elim (ℕ_discrete j i) [
    | yes s ↦ ((λ t. inr s), λ h. ap (λ k. get_or (set A.values i true) k false) s ∙ get_or-set_same A.values i true false l)
    | no n ↦
        let o = get_or-set_other A.values i j true false n in
        ((λ t. inl (sym o ∙ t)), λ h. elim h [ inl t ↦ o ∙ t | inr s ↦ absurd (n s) ])
  ];
})

pub gains_same : (A B : Picture) (P Q : ℕ → Type 0) → Gains A B P → ((i : ℕ) → P i ↔ Q i) → Gains A B Q
gains_same A B P Q h s = record {
  sides = h.sides;
  filled = h.filled;
  each = λ i. (
    (λ t. elim ((h.each i).0 t) [ inl o ↦ inl o | inr p ↦ inr ((s i).0 p) ]),
    λ k. (h.each i).1 (elim k [ inl o ↦ inl o | inr q ↦ inr ((s i).1 q) ]),
  );
}

pub gains_more : (A B C : Picture) (P Q R : ℕ → Type 0) → Gains A B P → Gains B C Q → ((i : ℕ) → R i ↔ (P i ⊎ Q i)) → Gains A C R
gains_more A B C P Q R f g s = record {
  sides = g.sides ∙ f.sides;
  filled = g.filled ∙ f.filled;
  each = λ i. (
    (λ t. elim ((g.each i).0 t) [
      | inl m ↦ elim ((f.each i).0 m) [ inl o ↦ inl o | inr p ↦ inr ((s i).1 (inl p)) ]
      | inr q ↦ inr ((s i).1 (inr q))
    ]),
    λ k. (g.each i).1 (elim k [
      | inl o ↦ inl ((f.each i).1 (inl o))
      | inr r ↦ elim ((s i).0 r) [ inl p ↦ inl ((f.each i).1 (inr p)) | inr q ↦ inr q ]
    ]),
  );
}

-- ---- a word bit by bit

module _ (word first : ℕ) where
  -- the places of the bits that are not in the rest any more
  abbrev pub Done : ℕ → ℕ → Type 0
  Done rest i = (k : ℕ) × (i ≡ first + k) × (bit_at word k ≡ 1) × (bit_at rest k ≡ 0)

  pub done_none : (i : ℕ) → Done word i → ⊥
  done_none i h = let a = h.2 in let b = h.3 in omega (arith, a, b)

  pub done_all : (i : ℕ) → Done 0 i ↔ ((k : ℕ) × (i ≡ first + k) × (bit_at word k ≡ 1))
  done_all i = ((λ h. (h.0, h.1, h.2)), λ h. (h.0, h.1, h.2, bit_at-zero h.0))

  pub done_more : (rest : ℕ) → rest < 2 ^ 64 → 0 < rest → ((k : ℕ) → bit_at rest k ≡ 1 → bit_at word k ≡ 1) → (i : ℕ)
      → Done (less_bit rest (count_trailing_zeros 64 rest)) i ↔ (Done rest i ⊎ (i ≡ first + count_trailing_zeros 64 rest))
  done_more rest small more part i = (
    (λ h. elim (ℕ_discrete h.0 (count_trailing_zeros 64 rest)) [
      | yes e ↦ inr (h.1 ∙ ap (λ k. first + k) e)
      | no n ↦ inl (h.0, h.1, h.2, sym (less_same rest small more h.0 n) ∙ h.3)
    ]),
    λ h. elim h [
      | inl a ↦ (
        a.0,
        a.1,
        a.2,
        less_same rest small more a.0
            (λ e. (let t = lowest_in rest small more in let z = a.3 in let f = ap (bit_at rest) e in omega (arith, t, z, f))) ∙ a.3,
      )
      | inr e ↦ (count_trailing_zeros 64 rest, e, part (count_trailing_zeros 64 rest) (lowest_in rest small more), lowest_gone rest small more)
    ],
  )

  pub part_less : (rest : ℕ) → rest < 2 ^ 64 → 0 < rest → ((k : ℕ) → bit_at rest k ≡ 1 → bit_at word k ≡ 1) → (k : ℕ)
      → bit_at (less_bit rest (count_trailing_zeros 64 rest)) k ≡ 1 → bit_at word k ≡ 1
  part_less rest small more part k t = elim (ℕ_discrete k (count_trailing_zeros 64 rest)) [
    | yes e ↦ absurd (let z = lowest_gone rest small more in
        let f = ap (bit_at (less_bit rest (count_trailing_zeros 64 rest))) e in omega (arith, z, f, t))
    | no n ↦ part k (sym (less_same rest small more k n) ∙ t)
  ]

-- ---- a run in words of 64

module _ (values : List Bool) (first other : ℕ) where
  pub open_none : (i : ℕ) → IsOpenBelow values first other (64 * 0) i → ⊥
  open_none i h = let l = h.1 in omega (arith, l)

  pub open_more : (w i : ℕ) → IsOpenBelow values first other (64 * (w + 1)) i
      ↔ (IsOpenBelow values first other (64 * w) i ⊎ IsOpenBelow values (first + 64 * w) (other + 64 * w) 64 i)
  open_more w i = (
    (λ h. elim (dec_lt h.0 (64 * w)) [
      | yes l ↦ inl (h.0, l, h.2, h.3, h.4)
      | no l ↦
          let b = h.1 in
          let e : first + h.0 ≡ first + 64 * w + (h.0 - 64 * w) = omega (arith, l) in
          let f : other + h.0 ≡ other + 64 * w + (h.0 - 64 * w) = omega (arith, l) in
          inr (
            h.0 - 64 * w,
            omega (arith, b, l),
            h.2 ∙ e,
            subst (λ j. get_or values j false ≡ true) e h.3,
            subst (λ j. get_or values j false ≡ false) f h.4,
          )
    ]),
    λ h. elim h [
      | inl a ↦ (let b = a.1 in (a.0, omega (arith, b), a.2, a.3, a.4))
      | inr a ↦
          let b = a.1 in
          let e : first + 64 * w + a.0 ≡ first + (64 * w + a.0) = omega arith in
          let f : other + 64 * w + a.0 ≡ other + (64 * w + a.0) = omega arith in (
            64 * w + a.0,
            omega (arith, b),
            a.2 ∙ e,
            subst (λ j. get_or values j false ≡ true) e a.3,
            subst (λ j. get_or values j false ≡ false) f a.4,
          )
    ],
  )

  -- all words are the whole run
  pub open_all : (w : ℕ) → length values / 64 < w → (i : ℕ) → IsOpenBelow values first other (64 * w) i ↔ IsOpen values first other i
  open_all w l i = (
    (λ h. (h.0, h.2, h.3, h.4)),
    λ h. (
      h.0,
      elim (dec_lt h.0 (64 * w)) [
        | yes b ↦ b
        | no b ↦ absurd (let z : false ≡ true = sym (get_or_past values (first + h.0) false (omega (arith, b, l))) ∙ h.2 in cc)
      ],
      h.1,
      h.2,
      h.3,
    ),
  )

-- ---- a run point by point

module _ (values : List Bool) (first : ℕ) where
  pub true_none : (i : ℕ) → IsTrueFrom values first 0 i → ⊥
  true_none i h = let l = h.1 in omega (arith, l)

  pub true_more : (n i : ℕ) → IsTrueFrom values first (n + 1) i ↔ (IsTrueFrom values first n i ⊎ IsTrueFrom values (first + n) 1 i)
  true_more n i = (
    (λ h. elim (dec_lt h.0 n) [
      | yes l ↦ inl (h.0, l, h.2, h.3)
      | no l ↦
          let b = h.1 in
          let e : first + h.0 ≡ first + n + 0 = omega (arith, l, b) in
          let s : 0 < 1 = omega arith in
          inr (0, s, h.2 ∙ e, subst (λ j. get_or values j false ≡ true) e h.3)
    ]),
    λ h. elim h [
      | inl a ↦ (let b = a.1 in (a.0, omega (arith, b), a.2, a.3))
      | inr a ↦
          let b = a.1 in
          let e : first + n + a.0 ≡ first + n = omega (arith, b) in
          let s : n < n + 1 = omega arith in
          (n, s, a.2 ∙ e, subst (λ j. get_or values j false ≡ true) e a.3)
    ],
  )

  -- one point, by its value
  pub true_one : get_or values first false ≡ true → (i : ℕ) → (i ≡ first) ↔ IsTrueFrom values first 1 i
  true_one t i =
      let e : first ≡ first + 0 = omega arith in
      let s : 0 < 1 = omega arith in
      ((λ m. (0, s, m ∙ e, subst (λ j. get_or values j false ≡ true) e t)), λ h. let b = h.1 in let f = h.2 in omega (arith, b, f))

  pub false_one : get_or values first false ≡ false → (i : ℕ) → IsTrueFrom values first 1 i → ⊥
  false_one f i h =
      let b = h.1 in
      let e : first + h.0 ≡ first = omega (arith, b) in
      let z : true ≡ false = sym h.3 ∙ ap (λ j. get_or values j false) e ∙ f in cc

-- ---- block by block

module _ (values : List Bool) (b e g : ℕ) where
  pub blocks_none : (i : ℕ) → IsTrueInBlocks values b e g 0 i → ⊥
  blocks_none i h = let l = h.1 in omega (arith, l)

  pub blocks_more : (m i : ℕ) → IsTrueInBlocks values b e g (m + 1) i ↔ (IsTrueInBlocks values b e g m i ⊎ IsTrueFrom values (b * m + e) g i)
  blocks_more m i = (
    (λ h. elim (dec_lt h.0 m) [
      | yes l ↦ inl (h.0, l, h.2)
      | no l ↦ (let c = h.1 in let s : h.0 ≡ m = omega (arith, l, c) in inr (subst (λ o. IsTrueFrom values (b * o + e) g i) s h.2))
    ]),
    λ h. elim h [
      | inl a ↦ (let c = a.1 in (a.0, omega (arith, c), a.2))
      | inr a ↦ (m, omega arith, a)
    ],
  )

-- ---- background points

pub cleared_more : (values : List Bool) (from i : ℕ) → ((j : ℕ) → j < from → get_or values j false ≡ false)
    → ((j : ℕ) → from ≤ j → j < i → get_or values j false ≡ false) → i < length values → (j : ℕ) → j < i + 1 → get_or (set values i false) j false ≡ false
cleared_more values from i old first l j b = elim (ℕ_discrete j i) [
  | yes e ↦ ap (λ k. get_or (set values i false) k false) e ∙ get_or-set_same values i false false l
  | no n ↦ get_or-set_other values i j false false n ∙ elim (dec_lt j from) [ yes m ↦ old j m | no m ↦ first j (omega (arith, m)) (omega (arith, b, n)) ]
]

pub cleared_all : (values : List Bool) (from : ℕ) → ((j : ℕ) → j < from → get_or values j false ≡ false)
    → ((j : ℕ) → from ≤ j → get_or values j false ≡ false) → (j : ℕ) → get_or values j false ≡ false
cleared_all values from old rest j = elim (dec_lt j from) [ yes m ↦ old j m | no m ↦ rest j (omega (arith, m)) ]
