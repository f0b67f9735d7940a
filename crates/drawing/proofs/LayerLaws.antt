-- Text that is put together piece by piece: one more piece of a list.
-- Laws of lists alone.
use Rattle.std.proofs.Common.{◌≡◌, inl, inr, ℕ, ◌+◌, List, [], ◌∷◌, ◌++◌, map, refl, ap, sym, ◌∙◌, arith, append_assoc}
use Rattle.std.specs.Prelude.{◌==◌, filter, flat_map}
use Rattle.std.specs.List.{range_with_len}
use Rattle.std.proofs.lemmas.Bool.{cond-true, cond-false, cases_Bool}
use Rattle.std.proofs.lemmas.List.{append-nil, map-id}
use Rattle.std.proofs.lemmas.List.FromFn.{map-range_with_len_more}
use Rattle.std.proofs.lemmas.Grind.{flat_map-append}
use Rattle.drawing.specs.declared.pixels.Pixel.{Pixel}
use Rattle.drawing.specs.Object as Object
use Rattle.drawing.specs.Object.{points_at}
use Rattle.drawing.specs.Seen.{flat, flats, pixel, all_pixels}

-- ---- texts put one behind the other

pub three : (s₀ s₁ s₂ s₃ a b c : List ℕ) → s₁ ≡ s₀ ++ a → s₂ ≡ s₁ ++ b → s₃ ≡ s₂ ++ c → s₃ ≡ s₀ ++ (a ++ (b ++ c))
three s₀ s₁ s₂ s₃ a b c p q r =
    r ∙ ap (λ t. t ++ c) (q ∙ ap (λ t. t ++ b) p) ∙ append_assoc (s₀ ++ a) b c ∙ append_assoc s₀ a (b ++ c)

pub four : (s₀ s₁ s₂ s₃ s₄ a b c d : List ℕ) → s₁ ≡ s₀ ++ a → s₂ ≡ s₁ ++ b → s₃ ≡ s₂ ++ c → s₄ ≡ s₃ ++ d → s₄ ≡ s₀ ++ (a ++ (b ++ (c ++ d)))
four s₀ s₁ s₂ s₃ s₄ a b c d p q r t =
    three s₀ s₁ s₂ s₄ a b (c ++ d) p q (t ∙ ap (λ u. u ++ d) r ∙ append_assoc s₂ c d)

pub five : (s₀ s₁ s₂ s₃ s₄ s₅ a b c d e : List ℕ) → s₁ ≡ s₀ ++ a → s₂ ≡ s₁ ++ b → s₃ ≡ s₂ ++ c → s₄ ≡ s₃ ++ d → s₅ ≡ s₄ ++ e
    → s₅ ≡ s₀ ++ (a ++ (b ++ (c ++ (d ++ e))))
five s₀ s₁ s₂ s₃ s₄ s₅ a b c d e p q r t u =
    four s₀ s₁ s₂ s₃ s₅ a b c (d ++ e) p q r (u ∙ ap (λ v. v ++ e) t ∙ append_assoc s₃ d e)

pub one_more : (s₀ s₁ s₂ all more : List ℕ) (a : List ℕ) → s₁ ≡ s₀ ++ all → s₂ ≡ s₁ ++ a → more ≡ all ++ a → s₂ ≡ s₀ ++ more
one_more s₀ s₁ s₂ all more a p q m = q ∙ ap (λ t. t ++ a) p ∙ append_assoc s₀ all a ∙ ap (λ t. s₀ ++ t) (sym m)

-- ---- pieces

-- the pieces of the numbers below n, with one number more
pub more_numbers : (f : ℕ → List ℕ) (n : ℕ) → flat_map f (range_with_len 0 (n + 1)) ≡ flat_map f (range_with_len 0 n) ++ f n
more_numbers f n =
    let z : 0 + n ≡ n = omega arith in
    ap (flat_map f) (sym (map-id (range_with_len 0 (n + 1))) ∙ map-range_with_len_more (λ x. x) 0 n n z ∙ ap (λ t. t ++ n ∷ []) (map-id (range_with_len 0 n)))
    ∙ flat_map-append f (range_with_len 0 n) (n ∷ []) ∙ ap (λ t. flat_map f (range_with_len 0 n) ++ t) (append-nil (f n))

-- the program's points of a depth are those of its pixels
pub points_seen : (d : ℕ) (xs : List Pixel) → flats (map (λ (x : Pixel). x.point) (filter (λ (x : Pixel). x.depth == d) xs)) ≡ points_at d (all_pixels xs)
points_seen d [] = refl
points_seen d (x ∷ xs) = elim (cases_Bool (x.depth == d)) [
  | inl y ↦
      ap (λ t. flats (map (λ (x : Pixel). x.point) t))
      (cond-true (x.depth == d) (x ∷ filter (λ (x : Pixel). x.depth == d) xs) (filter (λ (x : Pixel). x.depth == d) xs) y)
      ∙ ap (λ t. flat x.point ∷ t) (points_seen d xs)
      ∙ ap (λ t. map (λ (x : Object.Pixel). x.point) t)
      (sym (cond-true (x.depth == d) (pixel x ∷ filter (λ (x : Object.Pixel). x.depth == d) (all_pixels xs))
      (filter (λ (x : Object.Pixel). x.depth == d) (all_pixels xs)) y))
  | inr n ↦
      ap (λ t. flats (map (λ (x : Pixel). x.point) t))
      (cond-false (x.depth == d) (x ∷ filter (λ (x : Pixel). x.depth == d) xs) (filter (λ (x : Pixel). x.depth == d) xs) n)
      ∙ points_seen d xs
      ∙ ap (λ t. map (λ (x : Object.Pixel). x.point) t)
      (sym (cond-false (x.depth == d) (pixel x ∷ filter (λ (x : Object.Pixel). x.depth == d) (all_pixels xs))
      (filter (λ (x : Object.Pixel). x.depth == d) (all_pixels xs)) n))
]
