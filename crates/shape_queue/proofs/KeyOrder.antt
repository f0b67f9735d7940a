-- The order of keys: equal keys are one, and the least has the least distance, and then the least place.
-- Laws over keys alone.
use Rattle.std.proofs.Common.{◌≡◌, ◌⊎◌, inl, inr, ℕ, ◌<◌, ◌≤◌, Bool, true, false, refl, sym, ◌∙◌, arith}
use Rattle.std.specs.declared.cmp.Ordering.TheVariants.{Less, Equal, Greater}
use Rattle.std.specs.Ordering.{nat_cmp, is_gt}
use Rattle.std.specs.BTreeMap.{is_at}
use Rattle.std.proofs.lemmas.Bool.Decides.{nat_tests}
use Rattle.std.proofs.lemmas.Bool.{cases_lt}
use Rattle.shape_queue.specs.declared.key.Key.{Key}
use Rattle.shape_queue.specs.Keys.{key_cmp, IsLeastKey}

nat_less : (a b : ℕ) → a < b → nat_cmp a b ≡ Less
nat_less a b l = grind (arith, nat_tests)

nat_same : (a b : ℕ) → a ≡ b → nat_cmp a b ≡ Equal
nat_same a b l = grind (arith, nat_tests)

nat_more : (a b : ℕ) → b < a → nat_cmp a b ≡ Greater
nat_more a b l = grind (arith, nat_tests)

pub same_key : (a b : Key) → a.distance ≡ b.distance → a.place ≡ b.place → a ≡ b
same_key a b e f = λ i. record { distance = e i; place = f i }

pub at_itself : (a : Key) → is_at (key_cmp a) a ≡ true
at_itself a = rw (nat_same a.distance a.distance refl, nat_same a.place a.place refl) refl

-- what a key that is not greater than another one tells
pub not_above : (a b : Key) → is_gt (key_cmp a b) ≡ false → (a.distance < b.distance) ⊎ ((a.distance ≡ b.distance) × (a.place ≤ b.place))
not_above a b h = elim (cases_lt a.distance b.distance) [
  | inl l ↦ inl l
  | inr m ↦ elim (cases_lt b.distance a.distance) [
    | inl l ↦ absurd (let t : is_gt (key_cmp a b) ≡ true = rw (nat_more a.distance b.distance l) refl in let f : true ≡ false = sym t ∙ h in cc)
    | inr n ↦ (
        let e : a.distance ≡ b.distance = omega arith in
        elim (cases_lt b.place a.place) [
          | inl l ↦ absurd (let t : is_gt (key_cmp a b) ≡ true = rw (nat_same a.distance b.distance e, nat_more a.place b.place l) refl in
              let f : true ≡ false = sym t ∙ h in cc)
          | inr o ↦ inr (e, o)
        ])
  ]
]

pub at_only : (a b : Key) → is_at (key_cmp a) b ≡ true → a ≡ b
at_only a b h = elim (cases_lt a.distance b.distance) [
  | inl l ↦ absurd (let t : is_at (key_cmp a) b ≡ false = rw (nat_less a.distance b.distance l) refl in let f : false ≡ true = sym t ∙ h in cc)
  | inr m ↦ elim (cases_lt b.distance a.distance) [
    | inl l ↦ absurd (let t : is_at (key_cmp a) b ≡ false = rw (nat_more a.distance b.distance l) refl in let f : false ≡ true = sym t ∙ h in cc)
    | inr n ↦ (
        let e : a.distance ≡ b.distance = omega arith in
        elim (cases_lt a.place b.place) [
          | inl l ↦ absurd (let t : is_at (key_cmp a) b ≡ false = rw (nat_same a.distance b.distance e, nat_less a.place b.place l) refl in
              let f : false ≡ true = sym t ∙ h in cc)
          | inr o ↦ elim (cases_lt b.place a.place) [
            | inl l ↦ absurd (let t : is_at (key_cmp a) b ≡ false = rw (nat_same a.distance b.distance e, nat_more a.place b.place l) refl in
                let f : false ≡ true = sym t ∙ h in cc)
            | inr u ↦ same_key a b e (omega arith)
          ]
        ])
  ]
]

-- a key of which it is known whether it is the other one
pub by_key : (a b : Key) → (is_at (key_cmp a) b ≡ true) ⊎ (is_at (key_cmp a) b ≡ false)
by_key a b = of_test (is_at (key_cmp a) b)
  where
    of_test : (t : Bool) → (t ≡ true) ⊎ (t ≡ false)
    of_test true = inl refl
    of_test false = inr refl

-- a key that no other is to come before is not greater
pub not_greater : (a b : Key) → ((b.distance < a.distance) ⊎ ((b.distance ≡ a.distance) × (b.place < a.place)) → ⊥) → is_gt (key_cmp a b) ≡ false
not_greater a b n = elim (cases_lt a.distance b.distance) [
  | inl l ↦ rw (nat_less a.distance b.distance l) refl
  | inr m ↦ elim (cases_lt b.distance a.distance) [
    | inl l ↦ absurd (n (inl l))
    | inr o ↦ (
        let e : a.distance ≡ b.distance = omega arith in
        elim (cases_lt b.place a.place) [
          | inl l ↦ absurd (n (inr (sym e, l)))
          | inr p ↦ elim (cases_lt a.place b.place) [
            | inl l ↦ rw (nat_same a.distance b.distance e, nat_less a.place b.place l) refl
            | inr q ↦ rw (nat_same a.distance b.distance e, nat_same a.place b.place (omega arith)) refl
          ]
        ])
  ]
]

-- two least keys are one
pub one_least : (keys : Key → Bool) (a b : Key) → keys a ≡ true → keys b ≡ true → IsLeastKey keys a → IsLeastKey keys b → a ≡ b
one_least keys a b at bt al bl = elim (not_above a b (al b bt)) [
  | inl l ↦ elim (not_above b a (bl a at)) [
    | inl m ↦ absurd (omega (arith, l, m))
    | inr m ↦ absurd (omega (arith, l, m.0))
  ]
  | inr e ↦ elim (not_above b a (bl a at)) [
    | inl m ↦ absurd (omega (arith, e.0, m))
    | inr m ↦ same_key a b e.0 (omega (arith, e.1, m.1))
  ]
]
