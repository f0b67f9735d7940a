-- Whether two points are one, and whether a point is in a list.
-- Laws of points alone.
use Rattle.std.proofs.Common.{◌≡◌, ◌≢◌, inl, inr, Bool, true, false, List, [], ◌∷◌, ◌++◌, refl, ap, ◌∙◌}
use Rattle.std.specs.Prelude.{◌||◌}
use Rattle.std.specs.List.{list_any}
use Rattle.std.specs.Ordering.{int_eq}
use Rattle.std.proofs.lemmas.Bool.{and_parts, and_from, cases_Bool}
use Rattle.std.proofs.lemmas.Bool.Decides.{Decides-int_eq}
use Rattle.std.proofs.lemmas.List.Folds.{list_any-append}
use Rattle.shape_terms.specs.Points.{Point}
use Rattle.report_lines.specs.Said.{is_same_point}

pub same_yes : (p q : Point) → p ≡ q → is_same_point p q ≡ true
same_yes [] [] e = refl
same_yes [] (y ∷ q) e = cc
same_yes (x ∷ p) [] e = cc
same_yes (x ∷ p) (y ∷ q) e =
    let f : x ≡ y = cc in
    let g : p ≡ q = cc in
    and_from (int_eq x y) (is_same_point p q) ((Decides-int_eq x y).1 f) (same_yes p q g)

pub same_only : (p q : Point) → is_same_point p q ≡ true → p ≡ q
same_only [] [] e = refl
same_only [] (y ∷ q) e = cc
same_only (x ∷ p) [] e = cc
same_only (x ∷ p) (y ∷ q) e =
    let both = and_parts (int_eq x y) (is_same_point p q) e in
    let f = (Decides-int_eq x y).0 both.0 in
    let g = same_only p q both.1 in
    λ i. f i ∷ g i

pub same_not : (p q : Point) → p ≢ q → is_same_point p q ≡ false
same_not p q n = elim (cases_Bool (is_same_point p q)) [ inl y ↦ absurd (n (same_only p q y)) | inr f ↦ f ]

-- ---- in a list with one more point

or_true : (a : Bool) → (a || true) ≡ true
or_true true = refl
or_true false = refl

or_false : (a : Bool) → (a || false) ≡ a
or_false true = refl
or_false false = refl

any_push : (qs : List Point) (q p : Point) → list_any (is_same_point p) (qs ++ q ∷ []) ≡ (list_any (is_same_point p) qs || is_same_point p q)
any_push qs q p = list_any-append (is_same_point p) qs (q ∷ []) ∙ ap (λ b. list_any (is_same_point p) qs || b) (or_false (is_same_point p q))

pub any_there : (qs : List Point) (q p : Point) → p ≡ q → list_any (is_same_point p) (qs ++ q ∷ []) ≡ true
any_there qs q p e = any_push qs q p ∙ ap (λ b. list_any (is_same_point p) qs || b) (same_yes p q e) ∙ or_true (list_any (is_same_point p) qs)

pub any_other : (qs : List Point) (q p : Point) → p ≢ q → list_any (is_same_point p) (qs ++ q ∷ []) ≡ list_any (is_same_point p) qs
any_other qs q p n = any_push qs q p ∙ ap (λ b. list_any (is_same_point p) qs || b) (same_not p q n) ∙ or_false (list_any (is_same_point p) qs)
