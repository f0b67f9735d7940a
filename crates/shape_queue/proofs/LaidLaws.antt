-- Lists that are kept in cells: what is read from a cell is the item, and what is written into it changes this item alone.
-- Laws over lists of anything.
use Rattle.std.proofs.Common.{◌≡◌, ℕ, ◌<◌, Bool, true, false, List, length, set, get_or, refl, sym, ◌∙◌, ap, arith, inl, inr, ◌⊎◌}
use Rattle.std.specs.Prelude.{if◌then◌else◌}
use Rattle.std.proofs.lemmas.Bool.{cases_lt}
use Rattle.std.proofs.lemmas.List.{length-set, get_or-set_same, get_or-set_other, get_or_default, get_or_past, ext_get_or}
use Rattle.std.proofs.lemmas.List.FromFn.{length-map-range_with_len, get_or-map-range_with_len}
use native.Mathlib.Decide.{ℕ_discrete}
use Rattle.shape_queue.specs.Laid.{laid, AreApart}

-- a place whose value is true is one of the row
pub true_within : (kept : List Bool) (i : ℕ) → get_or kept i false ≡ true → i < length kept
true_within kept i t = elim (cases_lt i (length kept)) [
  | inl l ↦ l
  | inr m ↦ absurd (let f : false ≡ true = sym (get_or_past kept i false m) ∙ t in cc)
]

pub true_or_false : (b : Bool) → (b ≡ true) ⊎ (b ≡ false)
true_or_false true = inl refl
true_or_false false = inr refl

module _ {A : Type 0} (none : A) (cell : ℕ → ℕ) (kept : List Bool) where
  pub length-laid : (cells : List A) → length (laid none cell kept cells) ≡ length kept
  length-laid cells = length-map-range_with_len (λ i. if get_or kept i false then get_or cells (cell i) none else none) 0 (length kept)

  item_in : (i : ℕ) (cells : List A) → i < length kept
      → get_or (laid none cell kept cells) i none ≡ (if get_or kept i false then get_or cells (cell i) none else none)
  item_in i cells l = get_or-map-range_with_len (λ i. if get_or kept i false then get_or cells (cell i) none else none) 0 (length kept) i i none l (omega arith)

  item_at : (i : ℕ) (cells : List A) → get_or kept i false ≡ true → get_or (laid none cell kept cells) i none ≡ get_or cells (cell i) none
  item_at i cells t = item_in i cells (true_within kept i t) ∙ ap (λ b. if b then get_or cells (cell i) none else none) t

  item_none : (i : ℕ) (cells : List A) → i < length kept → get_or kept i false ≡ false → get_or (laid none cell kept cells) i none ≡ none
  item_none i cells l f = item_in i cells l ∙ ap (λ b. if b then get_or cells (cell i) none else none) f

  -- where all cells hold none, each item is none
  pub item_empty : (cells : List A) → ((k : ℕ) → get_or cells k none ≡ none) → (i : ℕ) → i < length kept → get_or (laid none cell kept cells) i none ≡ none
  item_empty cells empty i l = elim (true_or_false (get_or kept i false)) [
    | inl t ↦ item_at i cells t ∙ empty (cell i)
    | inr f ↦ item_none i cells l f
  ]

  -- item i of the list has a cell
  module _ (cells : List A) (i : ℕ) (t : get_or kept i false ≡ true) (h : AreApart cell kept (length cells)) where
    -- what is read from its cell is the item
    pub item_read : (r : A) → r ≡ get_or cells (cell i) r → r ≡ get_or (laid none cell kept cells) i none
    item_read r read = read ∙ get_or_default cells (cell i) r none (h.within i t) ∙ sym (item_at i cells t)

    -- what is written into its cell is the item then, and all others are as before
    pub item_put : (x : A) → laid none cell kept (set cells (cell i) x) ≡ set (laid none cell kept cells) i x
    item_put x =
        let n = length-laid cells in
        let n' = length-laid (set cells (cell i) x) in
        let w = true_within kept i t in
        ext_get_or none (laid none cell kept (set cells (cell i) x)) (set (laid none cell kept cells) i x)
        (n' ∙ sym (length-set (laid none cell kept cells) i x ∙ n)) (λ j m.
        let inside : j < length kept = omega (arith, m, n') in
        elim (ℕ_discrete j i) [
          | yes q ↦ (
              ap (λ j. get_or (laid none cell kept (set cells (cell i) x)) j none) q ∙ item_at i (set cells (cell i) x) t
              ∙ get_or-set_same cells (cell i) x none (h.within i t)
              ∙ sym (ap (λ j. get_or (set (laid none cell kept cells) i x) j none) q
              ∙ get_or-set_same (laid none cell kept cells) i x none (omega (arith, w, n))))
          | no d ↦ elim (true_or_false (get_or kept j false)) [
            | inl u ↦ (
                item_at j (set cells (cell i) x) u ∙ get_or-set_other cells (cell i) (cell j) x none (h.apart j i u t d)
                ∙ sym (get_or-set_other (laid none cell kept cells) i j x none d ∙ item_at j cells u))
            | inr f ↦ (
                item_none j (set cells (cell i) x) inside f
                ∙ sym (get_or-set_other (laid none cell kept cells) i j x none d ∙ item_none j cells inside f))
          ]
        ])
