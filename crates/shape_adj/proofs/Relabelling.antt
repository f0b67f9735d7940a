-- Labels that are put at the places of a run.
-- Lemmas over lists of labels and of truth values.
use Rattle.std.proofs.Common.{◌≡◌, ℕ, ◌<◌, ◌≤◌, Bool, true, false, cond, List, [], ◌∷◌, zero, suc, ◌+◌, length, slice_index, get_or, set, arith, refl, sym}
use Rattle.std.proofs.Common.{◌∙◌, ap}
use Rattle.std.specs.Prelude.{◌&&◌, nat_le, nat_lt}
use Rattle.std.proofs.lemmas.Bool.{cond-false, le-leb, lt-ltb, lt-leb, le-ltb, and_right, and_left}
use Rattle.std.proofs.lemmas.List.{get_or_past, get_or_default, same_lists, length-set, get_or-set_same, get_or-set_other}
use Rattle.std.proofs.lemmas.List.FromFn.{length-map-range_with_len, get_or-map-range_with_len}
use native.Mathlib.Decide.{dec_lt, dec_le, ℕ_discrete}
use Rattle.shape_grid.specs.Runs.{IsFilled}
use Rattle.shape_adj.specs.declared.run.Run.{Run}
use Rattle.shape_adj.specs.Flood.{Put}
use Rattle.shape_adj.specs.Labels.{InRun, relabelled}
use Rattle.shape_adj.specs.Todo.{Marked, IsTodo, trues}

-- whether a place is one of a run
pub dec_run : (r : Run) (x : ℕ) → Dec (InRun r x)
dec_run r x = elim (dec_le r.from x) [
  | yes l ↦ elim (dec_lt x r.until) [ yes m ↦ Dec.yes (l, m) | no m ↦ Dec.no (λ h. m h.1) ]
  | no l ↦ Dec.no (λ h. l h.0)
]

module _ (labels : List ℕ) (from until v : ℕ) where
  new : ℕ → ℕ
  new i = cond (nat_le from i && nat_lt i until) v (slice_index labels i)

  pub length-relabelled : length (relabelled labels from until v) ≡ length labels
  length-relabelled = length-map-range_with_len (λ i. cond (nat_le from i && nat_lt i until) v (slice_index labels i)) 0 (length labels)

  at_place : (i : ℕ) → i < length labels
      → slice_index (relabelled labels from until v) i ≡ cond (nat_le from i && nat_lt i until) v (slice_index labels i)
  at_place i l = get_or-map-range_with_len (λ i. cond (nat_le from i && nat_lt i until) v (slice_index labels i)) 0 (length labels) i i 0 l (omega arith)

  pub relabelled_in : (i : ℕ) → from ≤ i → i < until → i < length labels → slice_index (relabelled labels from until v) i ≡ v
  relabelled_in i a b l = at_place i l ∙ (rw (le-leb from i a, lt-ltb i until b) refl)

  pub relabelled_out : (i : ℕ) → (from ≤ i → i < until → ⊥) → slice_index (relabelled labels from until v) i ≡ slice_index labels i
  relabelled_out i h = elim (dec_lt i (length labels)) [
    | yes l ↦ at_place i l ∙ cond-false (nat_le from i && nat_lt i until) v (slice_index labels i) (elim (dec_lt i from) [
      | yes a ↦ and_left (nat_le from i) (nat_lt i until) (lt-leb from i a)
      | no a ↦ and_right (nat_le from i) (nat_lt i until) (le-ltb i until (elim (dec_lt i until) [ yes b ↦ absurd (h (omega arith) b) | no b ↦ omega arith ]))
    ])
    | no l ↦ get_or_past (relabelled labels from until v) i 0 (omega (arith, length-relabelled)) ∙ sym (get_or_past labels i 0 (omega arith))
  ]

  pub relabelled_put : (r : Run) → r.from ≡ from → r.until ≡ until → until ≤ length labels
      → Put (slice_index labels) (slice_index (relabelled labels from until v)) (InRun r) v
  relabelled_put r e f l = record {
    here = λ x h. let a = h.0 in let b = h.1 in relabelled_in x (omega arith) (omega arith) (omega arith);
    there = λ x n. relabelled_out x (λ a b. n (omega arith, omega arith));
  }

-- no label is put yet, and one more
pub relabelled_none : (labels : List ℕ) (i v : ℕ) → labels ≡ relabelled labels i i v
relabelled_none labels i v = same_lists labels (relabelled labels i i v) (sym (length-relabelled labels i i v)) (λ k d l.
    get_or_default labels k d 0 l ∙ sym (relabelled_out labels i i v k (λ a b. omega arith))
    ∙ sym (get_or_default (relabelled labels i i v) k d 0 (omega (arith, length-relabelled labels i i v))))

pub relabelled_more : (labels : List ℕ) (from i v : ℕ) → from ≤ i → i < length labels
    → set (relabelled labels from i v) i v ≡ relabelled labels from (i + 1) v
relabelled_more labels from i v on l =
    let long = length-relabelled labels from i v in
    same_lists (set (relabelled labels from i v) i v) (relabelled labels from (i + 1) v)
    (length-set (relabelled labels from i v) i v ∙ long ∙ sym (length-relabelled labels from (i + 1) v)) (λ k d m.
    let n : k < length labels = omega (arith, length-set (relabelled labels from i v) i v) in
    get_or_default (set (relabelled labels from i v) i v) k d 0 m ∙ elim (ℕ_discrete k i) [
      | yes e ↦ ap (λ k. get_or (set (relabelled labels from i v) i v) k 0) e ∙ get_or-set_same (relabelled labels from i v) i v 0 (omega arith)
          ∙ sym (relabelled_in labels from (i + 1) v k (omega arith) (omega arith) n)
      | no e ↦ get_or-set_other (relabelled labels from i v) i k v 0 e ∙ elim (dec_lt k from) [
        | yes a ↦ relabelled_out labels from i v k (λ b c. omega arith) ∙ sym (relabelled_out labels from (i + 1) v k (λ b c. omega arith))
        | no a ↦ elim (dec_lt k i) [
          | yes b ↦ relabelled_in labels from i v k (omega arith) b n ∙ sym (relabelled_in labels from (i + 1) v k (omega arith) (omega arith) n)
          | no b ↦ relabelled_out labels from i v k (λ c f. b f) ∙ sym (relabelled_out labels from (i + 1) v k (λ c f. omega arith))
        ]
      ]
    ] ∙ sym (get_or_default (relabelled labels from (i + 1) v) k d 0 (omega (arith, length-relabelled labels from (i + 1) v))))

-- ---- the places without a label

-- values that are true only where others are are no more
pub trues_less : (xs ys : List Bool) → length ys ≡ length xs → ((i : ℕ) → Marked ys i → Marked xs i) → trues ys ≤ trues xs
trues_less [] [] e h = omega arith
trues_less [] (y ∷ ys) e h = absurd (omega arith)
trues_less (x ∷ xs) [] e h = absurd (omega arith)
trues_less (true ∷ xs) (true ∷ ys) e h = let l = trues_less xs ys (omega arith) (λ i m. h (suc i) m) in omega arith
trues_less (true ∷ xs) (false ∷ ys) e h = let l = trues_less xs ys (omega arith) (λ i m. h (suc i) m) in omega arith
trues_less (false ∷ xs) (true ∷ ys) e h = absurd (let z : false ≡ true = h 0 refl in cc)
trues_less (false ∷ xs) (false ∷ ys) e h = let l = trues_less xs ys (omega arith) (λ i m. h (suc i) m) in omega arith

-- and one fewer, where one of the others is not true
pub trues_lost : (xs ys : List Bool) (q : ℕ) → length ys ≡ length xs → ((i : ℕ) → Marked ys i → Marked xs i) → Marked xs q → (Marked ys q → ⊥)
    → trues ys + 1 ≤ trues xs
trues_lost [] ys q e h m n = cc
trues_lost (x ∷ xs) [] q e h m n = absurd (omega arith)
trues_lost (x ∷ xs) (true ∷ ys) zero e h m n = absurd (n refl)
trues_lost (true ∷ xs) (false ∷ ys) zero e h m n = let l = trues_less xs ys (omega arith) (λ i m. h (suc i) m) in omega arith
trues_lost (false ∷ xs) (false ∷ ys) zero e h m n = cc
trues_lost (true ∷ xs) (true ∷ ys) (suc q) e h m n = let l = trues_lost xs ys q (omega arith) (λ i m. h (suc i) m) m n in omega arith
trues_lost (true ∷ xs) (false ∷ ys) (suc q) e h m n = let l = trues_lost xs ys q (omega arith) (λ i m. h (suc i) m) m n in omega arith
trues_lost (false ∷ xs) (true ∷ ys) (suc q) e h m n = absurd (let z : false ≡ true = h 0 refl in cc)
trues_lost (false ∷ xs) (false ∷ ys) (suc q) e h m n = let l = trues_lost xs ys q (omega arith) (λ i m. h (suc i) m) m n in omega arith

-- a stretch is false now
module _ (old now : List Bool) (from until : ℕ) (f : IsFilled old now from until false) where
  pub left_true : (i : ℕ) → Marked now i → Marked old i × (from ≤ i → i < until → ⊥)
  left_true i m = elim (dec_lt i from) [
    | yes a ↦ (sym (f.before i a) ∙ m, λ b. absurd (omega arith))
    | no a ↦ elim (dec_lt i until) [
      | yes b ↦ (let z : false ≡ true = sym (f.inside i (omega arith) b) ∙ m in cc)
      | no b ↦ (sym (f.behind i (omega arith)) ∙ m, λ c d. b d)
    ]
  ]

  pub still_true : (i : ℕ) → Marked old i → (from ≤ i → i < until → ⊥) → Marked now i
  still_true i m n = elim (dec_lt i from) [
    | yes a ↦ f.before i a ∙ m
    | no a ↦ elim (dec_lt i until) [ yes b ↦ absurd (n (omega arith) b) | no b ↦ f.behind i (omega arith) ∙ m ]
  ]

  pub fewer_trues : (q : ℕ) → from ≤ q → q < until → Marked old q → trues now + 1 ≤ trues old
  fewer_trues q a b m = trues_lost old now q f.room (λ i h. (left_true i h).0) m (λ h. (left_true q h).1 a b)

  -- and its places have a label
  pub todo_filled : (size : ℕ) (O : ℕ → Type 0) (labels : List ℕ) (v : ℕ) → 1 ≤ v → until ≤ length labels → IsTodo size O labels old
      → IsTodo size O (relabelled labels from until v) now
  todo_filled size O labels v some l t = record {
    filled = f.room ∙ t.filled;
    exactly = λ i. (
      (λ m.
          let u = left_true i m in
          let w = (t.exactly i).0 u.0 in
          (w.0, relabelled_out labels from until v i u.1 ∙ w.1)),
      λ h. elim (dec_le from i) [
        | yes a ↦ elim (dec_lt i until) [
          | yes b ↦ absurd (let z = sym (relabelled_in labels from until v i a b (omega arith)) ∙ h.1 in omega arith)
          | no b ↦ still_true i ((t.exactly i).1 (h.0, sym (relabelled_out labels from until v i (λ c d. b d)) ∙ h.1)) (λ c d. b d)
        ]
        | no a ↦ still_true i ((t.exactly i).1 (h.0, sym (relabelled_out labels from until v i (λ c d. a c)) ∙ h.1)) (λ c d. a c)
      ],
    );
  }
