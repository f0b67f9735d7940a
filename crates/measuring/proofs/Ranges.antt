-- Numbers in a row: tests of them and sums over them, with one number more.
-- Lists of numbers alone.
use Rattle.std.proofs.Common.{◌≡◌, ◌⊎◌, inl, inr, ℕ, zero, suc, ◌+◌, ◌<◌, ◌≤◌, Bool, true, false, [], ◌∷◌, ◌++◌, refl, sym, ap, ◌∙◌, subst, arith}
use Rattle.std.specs.Prelude.{◌||◌, cond, count_by, sum_by}
use Rattle.std.specs.List.{range_with_len, list_any}
use Rattle.std.proofs.lemmas.List.{map-id}
use Rattle.std.proofs.lemmas.List.FromFn.{map-range_with_len_more}
use Rattle.std.proofs.lemmas.List.Folds.{list_any-append}
use Rattle.std.proofs.lemmas.List.Sums.{sum_by-append}

pub range_more : (a n j : ℕ) → a + n ≡ j → range_with_len a (n + 1) ≡ range_with_len a n ++ (j ∷ [])
range_more a n j e =
    sym (map-id (range_with_len a (n + 1))) ∙ map-range_with_len_more (λ (x : ℕ). x) a n j e ∙ ap (λ xs. xs ++ (j ∷ [])) (map-id (range_with_len a n))

pub sum_more : (f : ℕ → ℕ) (a n j : ℕ) → a + n ≡ j → sum_by f (range_with_len a (n + 1)) ≡ sum_by f (range_with_len a n) + f j
sum_more f a n j e =
    let s = ap (sum_by f) (range_more a n j e) ∙ sum_by-append f (range_with_len a n) (j ∷ []) in
    omega (arith, s)

pub count_more : (p : ℕ → Bool) (a n j : ℕ) → a + n ≡ j → count_by p (range_with_len a (n + 1)) ≡ count_by p (range_with_len a n) + cond (p j) 1 0
count_more p a n j e = sum_more (λ x. cond (p x) 1 0) a n j e

none_of : (b c : Bool) → b ≡ false → c ≡ false → (b || (c || false)) ≡ false
none_of b c e f = λ i. e i || (f i || false)

pub none_more : (p : ℕ → Bool) (a n j : ℕ) → a + n ≡ j → list_any p (range_with_len a n) ≡ false → p j ≡ false → list_any p (range_with_len a (n + 1)) ≡ false
none_more p a n j e h f =
    ap (list_any p) (range_more a n j e) ∙ list_any-append p (range_with_len a n) (j ∷ []) ∙ none_of (list_any p (range_with_len a n)) (p j) h f

either_true : (b c : Bool) → (b ≡ true) ⊎ (c ≡ true) → (b || c) ≡ true
either_true true c h = refl
either_true false c (inl e) = cc
either_true false c (inr e) = e

pub any_here : (p : ℕ → Bool) (a n j : ℕ) → a ≤ j → j < a + n → p j ≡ true → list_any p (range_with_len a n) ≡ true
any_here p a zero j l m t = absurd (omega (arith, l, m))
any_here p a (suc n) j l m t =
    let split : (j ≡ a) ⊎ (a + 1 ≤ j) = grind (arith, l) in
    either_true (p a) (list_any p (range_with_len (a + 1) n)) (elim split [
      | inl e ↦ inl (subst (λ k. p k ≡ true) e t)
      | inr b ↦ inr (any_here p (a + 1) n j b (omega (arith, m)) t)
    ])
