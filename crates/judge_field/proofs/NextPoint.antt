-- The next object point of a judge, and the lines that it stands for.
-- Laws over pictures, lines and what a judge is seen as.
use Rattle.std.proofs.Common.{◌≡◌, ◌+◌, ◌<◌, ℕ, zero, suc, List, [], ◌∷◌, ◌++◌, length, take, drop, inl, inr, Some, sym, ap, ◌∙◌, subst, arith}
use Rattle.std.specs.Prelude.{slice_get, Bool, IsTrue, All, filter}
use Rattle.std.proofs.lemmas.Bool.{cond_both}
use Rattle.std.proofs.lemmas.List.Elements.{All-nil, All-cons, All-head}
use Rattle.std.proofs.lemmas.List.{length-drop, length-append}
use Rattle.std.proofs.lemmas.Option.{slice_get_within}
use Rattle.shape_terms.specs.Points.{Point, raster_point, box_points}
use Rattle.shape_terms.specs.Pictures.{Picture, at, object_points, objects_from}
use Rattle.report_terms.specs.Lines.{Line}
use Rattle.report_terms.specs.Sections.{NearClaim}
use Rattle.text_terms.proofs.ListPushes.{get_push}
use Rattle.judge_field.specs.FieldState.{FieldState, StandsFor, IsInStep}

first_behind : (xs : List Point) (n : ℕ) (y : Point) (ys : List Point) → drop n xs ≡ y ∷ ys → (slice_get xs n ≡ Some y) × (drop (suc n) xs ≡ ys)
    × (n < length xs)
first_behind [] zero y ys e = cc
first_behind [] (suc n) y ys e = cc
first_behind (x ∷ xs) zero y ys e =
    let f : x ≡ y = cc in
    let g : xs ≡ ys = cc in
    (ap Some f, g, omega arith)
first_behind (x ∷ xs) (suc n) y ys e = let h = first_behind xs n y ys e in (h.0, h.1, omega (arith, h.2))

-- a place of a list has one point
pub some_same : (x y : Point) → Some x ≡ Some y → x ≡ y
some_same x y e = cc

-- no object point is left, so no line names the next one
pub none_left : (X : Picture) (objects next taken n : ℕ) (p : Point) → IsInStep X objects next taken → objects_from X next ≡ [] → n ≡ taken
    → slice_get (object_points X) n ≡ Some p → ⊥
none_left X objects next taken n p s e is claim =
    let l = slice_get_within (object_points X) n p claim in
    let z : length (drop taken (object_points X)) ≡ 0 = ap length (sym s.rest ∙ e) in
    omega (arith, length-drop taken (object_points X))

-- the next object point, and what is behind it
pub next_left : (X : Picture) (objects next taken i : ℕ) → IsInStep X objects next taken → objects_from X next ≡ raster_point X.sides i ∷ objects_from X (i + 1)
    → (slice_get (object_points X) taken ≡ Some (raster_point X.sides i)) × IsInStep X objects (i + 1) (taken + 1) × (taken < objects)
next_left X objects next taken i s e =
    let h = first_behind (object_points X) taken (raster_point X.sides i) (objects_from X (i + 1)) (sym s.rest ∙ e) in
    let less : taken < objects = omega (arith, s.all, h.2) in
    let more : taken + 1 ≡ suc taken = omega arith in (
      h.0,
      record {
        all = s.all;
        few = omega arith;
        rest = sym h.1 ∙ ap (λ n. drop n (object_points X)) (sym more);
      },
      less,
    )

-- the point that the next line has to name
pub next_is : (s : FieldState) (X : Picture) (objects next taken i : ℕ) → record { picture = X; taken = taken } ≡ s → IsInStep X objects next taken
    → objects_from X next ≡ raster_point X.sides i ∷ objects_from X (i + 1) → (lines : List Line) → StandsFor s lines
    → slice_get (object_points s.picture) (length lines) ≡ Some (raster_point X.sides i)
next_is s X objects next taken i v st e lines f =
    let x : s.picture ≡ X = ap (λ (t : FieldState). t.picture) (sym v) in
    let n : length lines ≡ taken = f.count ∙ ap (λ (t : FieldState). t.taken) (sym v) in
    rw (x, n) (next_left X objects next taken i st e).0

-- and where there is none, no line names it
pub none_is : (s : FieldState) (X : Picture) (objects next taken : ℕ) → record { picture = X; taken = taken } ≡ s → IsInStep X objects next taken
    → objects_from X next ≡ [] → (lines : List Line) → StandsFor s lines → (p : Point) → slice_get (object_points s.picture) (length lines) ≡ Some p → ⊥
none_is s X objects next taken v st e lines f p claim =
    let x : s.picture ≡ X = ap (λ (t : FieldState). t.picture) (sym v) in
    let n : length lines ≡ taken = f.count ∙ ap (λ (t : FieldState). t.taken) (sym v) in
    none_left X objects next taken (length lines) p st e n (rw x at claim)

-- one more good line
pub stands_push : (old new : FieldState) (lines : List Line) (l : Line) → new.picture ≡ old.picture → new.taken ≡ old.taken + 1 → StandsFor old lines
    → NearClaim old.picture lines l → StandsFor new (lines ++ l ∷ [])
stands_push old new lines l same more s claim = record {
  count = omega (arith, length-append lines (l ∷ []), s.count);
  good = λ k m e. subst (λ X. NearClaim X (take k (lines ++ l ∷ [])) m) (sym same) (elim (get_push lines l k m e) [
    | inl h ↦ subst (λ ls. NearClaim old.picture ls m) (sym h.1) (s.good k m h.0)
    | inr h ↦ subst (λ ls. NearClaim old.picture ls m) (sym h.1) (subst (NearClaim old.picture lines) h.0 claim)
  ]);
}

-- the next object point is one
all_pass : (p : Point → Bool) (xs : List Point) → All (λ x. IsTrue (p x)) (filter p xs)
all_pass p [] = All-nil (λ x. IsTrue (p x))
all_pass p (x ∷ xs) = cond_both (p x) (x ∷ filter p xs) (filter p xs) (All (λ y. IsTrue (p y)))
    (λ t. All-cons (λ y. IsTrue (p y)) x (filter p xs) t (all_pass p xs))
    (λ f. all_pass p xs)

pub next_is_object : (X : Picture) (next : ℕ) (p : Point) (rest : List Point) → objects_from X next ≡ p ∷ rest → IsTrue (at X p)
next_is_object X next p rest e =
    All-head (λ p. IsTrue (at X p)) p rest (subst (All (λ p. IsTrue (at X p))) e (all_pass (at X) (drop next (box_points X.sides))))
