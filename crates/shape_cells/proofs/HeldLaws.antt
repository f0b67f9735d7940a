-- What places hold by the cells of true values, and what it is once a cell is written.
-- Laws over lists alone.
use Rattle.std.proofs.Common.{◌≡◌, ◌≢◌, ℕ, ◌+◌, ◌-◌, ◌<◌, ◌≤◌, Bool, true, false, List, [], ◌∷◌, ◌++◌, length, set, get_or, sym, ap, ◌∙◌, arith, inl, inr}
use Rattle.std.proofs.Common.{get_or-set_same, get_or-set_other}
use Rattle.std.specs.Prelude.{if◌then◌else◌}
use Rattle.std.proofs.lemmas.Bool.{cases_Bool}
use Rattle.std.proofs.lemmas.List.{length-set, length-append, get_or_append_left, get_or_default, same_lists}
use Rattle.std.proofs.Math.Seq.{get_or-append_seam}
use Rattle.std.proofs.lemmas.List.FromFn.{length-map-range_with_len, get_or-map-range_with_len}
use native.Mathlib.Decide.{dec_lt, ℕ_discrete}
use Rattle.shape_grid.specs.Truths.{IsFirstTrue}
use Rattle.shape_cells.specs.Counting.{trues, trues_before}
use Rattle.shape_cells.specs.Held.{value_at, trues_kept, with_value}
use Rattle.shape_cells.proofs.BitCounts.{number_within, numbers_differ, more_true, none_true, all_true, true_within}

module _ {A : Type 0} (bare : ℕ → A) (objects : List Bool) where
  pub length-values : (cells : List A) → length (trues_kept bare objects cells).values ≡ length objects
  length-values cells = length-map-range_with_len (value_at bare objects cells) 0 (length objects)

  pub value_of : (cells : List A) (i : ℕ) (d : A) → i < length objects → get_or (trues_kept bare objects cells).values i d ≡ value_at bare objects cells i
  value_of cells i d l = get_or-map-range_with_len (value_at bare objects cells) 0 (length objects) i i d l (omega arith)

  -- the number of a true value has a cell
  pub cell_within : (cells : List A) (i : ℕ) → length cells ≡ trues objects → get_or objects i false ≡ true → trues_before objects i < length cells
  cell_within cells i e t = let n = number_within objects i t in omega (arith, n, e)

  pub of_object : (cells : List A) (i : ℕ) (d : A) → length cells ≡ trues objects → get_or objects i false ≡ true
      → value_at bare objects cells i ≡ get_or cells (trues_before objects i) d
  of_object cells i d e t = ap (λ b. if b then get_or cells (trues_before objects i) (bare i) else bare i) t
      ∙ get_or_default cells (trues_before objects i) (bare i) d (cell_within cells i e t)

  pub of_other : (cells : List A) (i : ℕ) → get_or objects i false ≡ false → value_at bare objects cells i ≡ bare i
  of_other cells i f = ap (λ b. if b then get_or cells (trues_before objects i) (bare i) else bare i) f

  -- what is read of a cell, or told by a place without one, is what the place holds
  pub read_object : (cells : List A) (i n : ℕ) (v : A) → length cells ≡ trues objects → get_or objects i false ≡ true → n ≡ trues_before objects i
      → v ≡ get_or cells n v → v ≡ get_or (trues_kept bare objects cells).values i v
  read_object cells i n v e t number read = read ∙ ap (λ k. get_or cells k v) number
      ∙ sym (value_of cells i v (true_within objects i t) ∙ of_object cells i v e t)

  pub read_other : (cells : List A) (i : ℕ) (v : A) → i < length objects → get_or objects i false ≡ false → v ≡ bare i
      → v ≡ get_or (trues_kept bare objects cells).values i v
  read_other cells i v l f read = read ∙ sym (value_of cells i v l ∙ of_other cells i f)

  module _ (cells : List A) (e : length cells ≡ trues objects) (i : ℕ) (v : A) (t : get_or objects i false ≡ true) where
    abbrev pub now : List A
    now = set cells (trues_before objects i) v

    now_long : length now ≡ trues objects
    now_long = length-set cells (trues_before objects i) v ∙ e

    -- another place holds what it held
    other_stays : (k : ℕ) → k ≢ i → value_at bare objects now k ≡ value_at bare objects cells k
    other_stays k n = elim (cases_Bool (get_or objects k false)) [
      | inl s ↦ (
          let apart : trues_before objects k ≢ trues_before objects i = λ q. elim (dec_lt k i) [
            | yes l ↦ (let d = numbers_differ objects k i s l in omega (arith, d, q))
            | no m ↦ (let l : i < k = omega arith in let d = numbers_differ objects i k t l in omega (arith, d, q))
          ] in
          of_object now k v now_long s ∙ get_or-set_other cells (trues_before objects i) (trues_before objects k) v v apart ∙ sym (of_object cells k v e s))
      | inr s ↦ of_other now k s ∙ sym (of_other cells k s)
    ]

    -- one place holds another value
    pub cell_set : (trues_kept bare objects now).values ≡ set (trues_kept bare objects cells).values i v
    cell_set =
        let was = (trues_kept bare objects cells).values in
        same_lists (trues_kept bare objects now).values (set was i v) (length-values now ∙ sym (length-set was i v ∙ length-values cells)) (λ k d l.
        let within : k < length objects = omega (arith, l, length-values now) in
        value_of now k d within ∙ elim (ℕ_discrete k i) [
          | yes q ↦ (rw q (
              of_object now i v now_long t ∙ get_or-set_same cells (trues_before objects i) v v (cell_within cells i e t)
              ∙ sym (get_or-set_same was i v d (let w = true_within objects i t in omega (arith, w, length-values cells)))))
          | no q ↦ other_stays k q ∙ sym (get_or-set_other was i k v d q ∙ value_of cells k d within)
        ])

    pub object_put : trues_kept bare objects now ≡ with_value (trues_kept bare objects cells) i v
    object_put = ap (λ (vs : List A). record { values = vs; kept = objects }) (
        cell_set ∙ sym (ap (λ b. if b then set (trues_kept bare objects cells).values i v else (trues_kept bare objects cells).values) t))

  pub other_put : (cells : List A) (i : ℕ) (v : A) → get_or objects i false ≡ false
      → trues_kept bare objects cells ≡ with_value (trues_kept bare objects cells) i v
  other_put cells i v f = ap (λ (vs : List A). record { values = vs; kept = objects }) (
      sym (ap (λ b. if b then set (trues_kept bare objects cells).values i v else (trues_kept bare objects cells).values) f))

  -- ---- cells that are made, one true value after another

  -- the true values before a place have their cells, each of which holds what its place tells
  pub record AreFilled (cells : List A) (from : ℕ) : Type 0 where
    pub on : from ≤ length objects
    pub long : length cells ≡ trues_before objects from
    pub each : (i : ℕ) (d : A) → i < from → get_or objects i false ≡ true → get_or cells (trues_before objects i) d ≡ bare i

  pub filled_more : (cells : List A) (from place : ℕ) → IsFirstTrue objects from place → AreFilled cells from → AreFilled (cells ++ bare place ∷ []) (place + 1)
  filled_more cells from place f a =
      let o = f.on in
      let w = f.within in
      let e : from + (place - from) ≡ place = omega (arith, o) in
      let between : trues_before objects place ≡ trues_before objects from =
      ap (trues_before objects) (sym e) ∙ none_true objects from (place - from) (λ k l m. f.first k l (omega (arith, o, m))) in
      let n : length cells ≡ trues_before objects place = a.long ∙ sym between in
      let m = more_true objects place f.there in
      record {
        on = omega (arith, w);
        long = (let l = length-append cells (bare place ∷ []) in omega (arith, l, n, m));
        each = λ i d l t. elim (ℕ_discrete i place) [
          | yes q ↦ (rw (q, ← n) (get_or-append_seam cells (bare place) [] d))
          | no q ↦ (
              let before : i < from = elim (dec_lt i from) [
                | yes h ↦ h
                | no h ↦ absurd (let z = f.first i (omega (arith, h)) (omega (arith, l, q)) in let x : true ≡ false = sym t ∙ z in cc)
              ] in
              let r = numbers_differ objects i place t (omega (arith, l, q)) in
              get_or_append_left cells (bare place ∷ []) d (trues_before objects i) (omega (arith, n, r)) ∙ a.each i d before t)
        ];
      }

  module _ (cells : List A) (from : ℕ) (a : AreFilled cells from) (none : (k : ℕ) → from ≤ k → get_or objects k false ≡ false) where
    pub filled_long : length cells ≡ trues objects
    filled_long =
        let o = a.on in
        let e : from + (length objects - from) ≡ length objects = omega (arith, o) in
        a.long ∙ sym (none_true objects from (length objects - from) (λ k l m. none k l)) ∙ ap (trues_before objects) e
        ∙ all_true objects (length objects) (omega arith)

    pub filled_all : (i : ℕ) → value_at bare objects cells i ≡ bare i
    filled_all i = elim (cases_Bool (get_or objects i false)) [
      | inl t ↦ (
          let l : i < from = elim (dec_lt i from) [
            | yes h ↦ h
            | no h ↦ absurd (let z = none i (omega (arith, h)) in let x : true ≡ false = sym t ∙ z in cc)
          ] in
          of_object cells i (bare i) filled_long t ∙ a.each i (bare i) l t)
      | inr f ↦ of_other cells i f
    ]
