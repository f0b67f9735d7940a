-- One row more of a table's text, and the digits of a raster number one after the other.
-- Lists and numbers alone stand here.
use Rattle.std.proofs.Common.{◌≡◌, ◌+◌, ◌-◌, ◌<◌, ◌≤◌, ◌/◌, ◌%◌, Bool, ℕ, suc, pos, List, [], ◌∷◌, ◌++◌, length, map, get_or, drop, refl, sym, ap, ◌∙◌, arith}
use Rattle.std.proofs.Common.{append_assoc}
use Rattle.std.proofs.lemmas.List.{drop_more, drop_all, append-nil, get_or_past}
use Rattle.shape_terms.specs.Points.{coordinate, raster_point}
use Rattle.measure_terms.specs.Measures.{Measures}
use Rattle.measure_terms.specs.Texts.{Columns, row_text, rows_text}

-- ---- rows

pub row_step : {M : Type 0} (told : M → Measures) (all : List M) (tells : Bool) (d : ℕ) (more : Columns) (i : ℕ) (e : M) (old new whole : List ℕ)
    → i < length all → e ≡ get_or all i e
    → new ≡ old ++ row_text tells d more i (told e) → old ++ rows_text tells d more i (map told (drop i all)) ≡ whole
    → new ++ rows_text tells d more (i + 1) (map told (drop (i + 1) all)) ≡ whole
row_step told all tells d more i e old new whole l is g w =
    let h = g ∙ ap (λ m. old ++ row_text tells d more i (told m)) is in
    let row = row_text tells d more i (told (get_or all i e)) in
    let rest = rows_text tells d more (i + 1) (map told (drop (i + 1) all)) in
    ap (λ t. t ++ rest) h ∙ append_assoc old row rest ∙ sym (ap (λ ms. old ++ rows_text tells d more i (map told ms)) (drop_more all i e l)) ∙ w

pub row_last : {M : Type 0} (told : M → Measures) (all : List M) (tells : Bool) (d : ℕ) (more : Columns) (i : ℕ) (old whole : List ℕ) → length all ≤ i
    → old ++ rows_text tells d more i (map told (drop i all)) ≡ whole → old ≡ whole
row_last told all tells d more i old whole l w =
    sym (ap (λ ms. old ++ rows_text tells d more i (map told ms)) (drop_all i all l) ∙ append-nil old) ∙ w

-- ---- digits

pub digit_step : (ns : List ℕ) (j k left : ℕ) → j < k → k < length ns
    → coordinate (raster_point (drop j ns) left) (k - j) ≡ coordinate (raster_point (drop (j + 1) ns) (left / get_or ns j 0)) (k - (j + 1))
digit_step ns j k left l m =
    let e : k - j ≡ suc (k - (j + 1)) = omega arith in
    let h : j < length ns = omega arith in
    ap (λ n. coordinate (raster_point (drop j ns) left) n) e ∙ ap (λ ms. coordinate (raster_point ms left) (suc (k - (j + 1)))) (drop_more ns j 0 h)

pub digit_last : (ns : List ℕ) (k left : ℕ) → k < length ns → coordinate (raster_point (drop k ns) left) (k - k) ≡ pos (left % get_or ns k 0)
digit_last ns k left m =
    let e : k - k ≡ 0 = omega arith in
    ap (λ n. coordinate (raster_point (drop k ns) left) n) e ∙ ap (λ ms. coordinate (raster_point ms left) 0) (drop_more ns k 0 m)

length-digits : (ns : List ℕ) (i : ℕ) → length (raster_point ns i) ≡ length ns
length-digits [] i = refl
length-digits (n ∷ ns) i = ap suc (length-digits ns (i / n))

pub no_digit : (ns : List ℕ) (k i : ℕ) → length ns ≤ k → coordinate (raster_point ns i) k ≡ pos 0
no_digit ns k i l = get_or_past (raster_point ns i) k (pos 0) (omega (arith, length-digits ns i))

-- ---- texts put one behind the other

pub two : (s₀ s₁ s₂ a b : List ℕ) → s₁ ≡ s₀ ++ a → s₂ ≡ s₁ ++ b → s₂ ≡ s₀ ++ (a ++ b)
two s₀ s₁ s₂ a b p q = q ∙ ap (λ t. t ++ b) p ∙ append_assoc s₀ a b

pub three : (s₀ s₁ s₂ s₃ a b c : List ℕ) → s₁ ≡ s₀ ++ a → s₂ ≡ s₁ ++ b → s₃ ≡ s₂ ++ c → s₃ ≡ s₀ ++ (a ++ (b ++ c))
three s₀ s₁ s₂ s₃ a b c p q r = two s₀ s₁ s₃ a (b ++ c) p (two s₁ s₂ s₃ b c q r)

pub four : (s₀ s₁ s₂ s₃ s₄ a b c d : List ℕ) → s₁ ≡ s₀ ++ a → s₂ ≡ s₁ ++ b → s₃ ≡ s₂ ++ c → s₄ ≡ s₃ ++ d → s₄ ≡ s₀ ++ (a ++ (b ++ (c ++ d)))
four s₀ s₁ s₂ s₃ s₄ a b c d p q r t = two s₀ s₁ s₄ a (b ++ (c ++ d)) p (three s₁ s₂ s₃ s₄ b c d q r t)

-- a text behind none
pub first : (rest none start text : List ℕ) → none ≡ [] → start ≡ none ++ text → start ++ rest ≡ text ++ rest
first rest none start text n s = ap (λ x. x ++ rest) (s ∙ ap (λ x. x ++ text) n)
