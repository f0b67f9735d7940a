-- The two forms of cells: one for each place, or one for each true value of a row.
-- Laws over lists alone.
use Rattle.std.proofs.Common.{◌≡◌, ℕ, ◌<◌, ◌≤◌, Bool, true, false, List, [], ◌∷◌, length, map, set, replicate, get_or, refl}
use Rattle.std.proofs.Common.{sym, ap, ap₂, subst, ◌∙◌, arith, inl, inr}
use Rattle.std.specs.Prelude.{Option, Some, None, MatchOption, if◌then◌else◌, slice_get, nat_lt}
use Rattle.std.specs.Bool.{then_some}
use Rattle.std.proofs.lemmas.Bool.{cases_Bool, lt-ltb, ltb-true}
use Rattle.std.proofs.lemmas.List.{length-replicate, get_or-replicate, length-set}
use Rattle.std.proofs.lemmas.List.{get_or_past}
use Rattle.std.proofs.lemmas.Option.{slice_get-get_or}
use Rattle.std.specs.List.{range_with_len}
use Rattle.std.proofs.lemmas.List.FromFn.{length-map-range_with_len, get_or-map-range_with_len}
use native.Mathlib.Decide.{dec_lt}
use Rattle.shape_grid.specs.Truths.{IsFirstTrue}
use Rattle.shape_cells.specs.Held.{Held, HasCell, IsBareElsewhere, with_value, all_kept, trues_kept, value_at, held}
use Rattle.shape_cells.proofs.HeldLaws.{length-values, value_of, of_other}

-- ---- a cell for each place

module _ {A : Type 0} where
  marks : (cells : List A) → (all_kept cells).kept ≡ replicate (length cells) true
  marks [] = refl
  marks (x ∷ cells) = ap (λ ks. true ∷ ks) (marks cells)

  pub same_marks : (cells now : List A) → length now ≡ length cells → (all_kept now).kept ≡ (all_kept cells).kept
  same_marks cells now e = marks now ∙ ap (λ n. replicate n true) e ∙ sym (marks cells)

  pub marked : (cells : List A) (i : ℕ) → i < length cells → get_or (all_kept cells).kept i false ≡ true
  marked cells i l = ap (λ ks. get_or ks i false) (marks cells) ∙ get_or-replicate (length cells) i true false l

  pub all_first : (cells : List A) (from : ℕ) → MatchOption (then_some (nat_lt from (length cells)) from)
      ((k : ℕ) → from ≤ k → get_or (all_kept cells).kept k false ≡ false) (λ k. IsFirstTrue (all_kept cells).kept from k)
  all_first cells from =
      let kept = (all_kept cells).kept in
      let n : length kept ≡ length cells = ap length (marks cells) ∙ length-replicate (length cells) true in
      let none : (from < length cells → ⊥) → nat_lt from (length cells) ≡ false = λ m. elim (cases_Bool (nat_lt from (length cells))) [
        | inl t ↦ absurd (m (ltb-true from (length cells) t))
        | inr f ↦ f
      ] in
      elim (dec_lt from (length cells)) [
        | yes l ↦ subst (λ b. MatchOption (then_some b from) ((k : ℕ) → from ≤ k → get_or kept k false ≡ false) (λ k. IsFirstTrue kept from k))
            (sym (lt-ltb from (length cells) l)) (record {
              on = omega arith;
              within = omega (arith, l, n);
              there = marked cells from l;
              first = λ j m k. absurd (omega (arith, m, k));
            })
        | no m ↦ subst (λ b. MatchOption (then_some b from) ((k : ℕ) → from ≤ k → get_or kept k false ≡ false) (λ k. IsFirstTrue kept from k))
            (sym (none m))
            (λ k l. get_or_past kept k false (omega (arith, l, m, n)))
      ]

  pub all_put : (cells : List A) (i : ℕ) (v : A) → i < length cells → all_kept (set cells i v) ≡ with_value (all_kept cells) i v
  all_put cells i v l = ap₂ (λ (vs : List A) ks. record { values = vs; kept = ks })
      (sym (ap (λ b. if b then set cells i v else cells) (marked cells i l))) (same_marks cells (set cells i v) (length-set cells i v))

-- ---- either form

module _ {A : Type 0} (bare : ℕ → A) where
  pub bare_elsewhere : (o : Option (List Bool)) (cells : List A) → IsBareElsewhere bare (held bare o cells)
  bare_elsewhere None cells i l none = absurd (none (marked cells i l))
  bare_elsewhere (Some objects) cells i l none =
      let within : i < length objects = omega (arith, l, length-values bare objects cells) in
      let f : get_or objects i false ≡ false = elim (cases_Bool (get_or objects i false)) [ inl t ↦ absurd (none t) | inr f ↦ f ] in
      slice_get-get_or (trues_kept bare objects cells).values i (bare i) l
      ∙ ap Some (value_of bare objects cells i (bare i) within ∙ of_other bare objects cells i f)

-- ---- what is seen from outside, in either form

module _ {A : Type 0} (bare : ℕ → A) (o : Option (List Bool)) (cells : List A) {h : Held A} (view : held bare o cells ≡ h) where
  module _ {objects : List Bool} (form : o ≡ Some objects) where
    pub some_view : trues_kept bare objects cells ≡ h
    some_view = ap (λ (o : Option (List Bool)). held bare o cells) (sym form) ∙ view

    pub some_length : length h.values ≡ length objects
    some_length = ap (λ (h : Held A). length h.values) (sym some_view) ∙ length-values bare objects cells

    pub some_kept : (i : ℕ) → get_or h.kept i false ≡ get_or objects i false
    some_kept i = ap (λ (h : Held A). get_or h.kept i false) (sym some_view)

    pub some_read : (i : ℕ) (x : A) → i < length h.values → x ≡ value_at bare objects cells i → slice_get h.values i ≡ Some x
    some_read i x l read = slice_get-get_or h.values i x l ∙ ap Some (
        ap (λ (h : Held A). get_or h.values i x) (sym some_view) ∙ value_of bare objects cells i x (let n = some_length in omega (arith, l, n)) ∙ sym read)

    -- what the cells now hold, at a place where it is what they held
    pub some_same : (now : List A) (i : ℕ) (d : A) → get_or (trues_kept bare objects now).values i d ≡ get_or (trues_kept bare objects cells).values i d
        → get_or (held bare o now).values i d ≡ get_or h.values i d
    some_same now i d same = ap (λ (o : Option (List Bool)). get_or (held bare o now).values i d) form ∙ same
        ∙ ap (λ (h : Held A). get_or h.values i d) some_view

  module _ (form : o ≡ None) where
    pub none_view : all_kept cells ≡ h
    none_view = ap (λ (o : Option (List Bool)). held bare o cells) (sym form) ∙ view

    pub none_length : length h.values ≡ length cells
    none_length = ap (λ (h : Held A). length h.values) (sym none_view)

    pub none_has : (i : ℕ) → i < length h.values → HasCell h i
    none_has i l = ap (λ (h : Held A). get_or h.kept i false) (sym none_view) ∙ marked cells i (let n = none_length in omega (arith, l, n))

    pub none_read : (i : ℕ) (x : A) → i < length h.values → x ≡ get_or cells i x → slice_get h.values i ≡ Some x
    none_read i x l read = slice_get-get_or h.values i x l ∙ ap Some (ap (λ (h : Held A). get_or h.values i x) (sym none_view) ∙ sym read)

    pub none_put : (i : ℕ) (v : A) → i < length h.values → held bare o (set cells i v) ≡ with_value h i v
    none_put i v l = ap (λ (o : Option (List Bool)). held bare o (set cells i v)) form
        ∙ all_put cells i v (let n = none_length in omega (arith, l, n)) ∙ ap (λ (h : Held A). with_value h i v) none_view

    pub none_same : (now : List A) (i : ℕ) (d : A) → get_or now i d ≡ get_or cells i d → get_or (held bare o now).values i d ≡ get_or h.values i d
    none_same now i d same = ap (λ (o : Option (List Bool)). get_or (held bare o now).values i d) form ∙ same
        ∙ ap (λ (h : Held A). get_or h.values i d) none_view

    pub none_kept : (now : List A) → length now ≡ length cells → (held bare o now).kept ≡ h.kept
    none_kept now e = ap (λ (o : Option (List Bool)). (held bare o now).kept) form ∙ same_marks cells now e ∙ ap (λ (h : Held A). h.kept) none_view

    pub none_first : (from : ℕ) → MatchOption (then_some (nat_lt from (length cells)) from)
        ((k : ℕ) → from ≤ k → get_or h.kept k false ≡ false) (λ k. IsFirstTrue h.kept from k)
    none_first from = subst (λ (h : Held A). MatchOption (then_some (nat_lt from (length cells)) from)
        ((k : ℕ) → from ≤ k → get_or h.kept k false ≡ false) (λ k. IsFirstTrue h.kept from k)) none_view (all_first cells from)

-- ---- the cells of all places at the beginning

module _ {A : Type 0} (bare : ℕ → A) where
  pub all_begun : (n i : ℕ) → i < n → slice_get (map bare (range_with_len 0 n)) i ≡ Some (bare i)
  all_begun n i l = slice_get-get_or (map bare (range_with_len 0 n)) i (bare i) (omega (arith, l, length-map-range_with_len bare 0 n))
      ∙ ap Some (get_or-map-range_with_len bare 0 n i i (bare i) l (omega arith))
