-- The lines of one section of a report, as a list of their own.
-- A line of a section stands after the same lines of its section in the report and in that list.
use Rattle.std.proofs.Common.{◌≡◌, ℕ, zero, suc, Bool, false, List, [], ◌∷◌, take, ap, sym, ◌∙◌, inl, inr, refl, Some}
use Rattle.std.specs.Prelude.{filter, slice_get, IsTrue}
use Rattle.std.proofs.lemmas.Bool.{cond-true, cond-false, cases_Bool}

-- where an element of a filtered list stood before
pub record Stood {A : Type 0} (test : A → Bool) (xs : List A) (j : ℕ) (x : A) : Type 0 where
  pub place : ℕ
  pub there : slice_get xs place ≡ Some x
  pub before : filter test (take place xs) ≡ take j (filter test xs)
  pub passes : IsTrue (test x)

kept : {A : Type 0} (test : A → Bool) (y : A) (xs : List A) → IsTrue (test y) → filter test (y ∷ xs) ≡ y ∷ filter test xs
kept test y xs t = cond-true (test y) (y ∷ filter test xs) (filter test xs) t

left_out : {A : Type 0} (test : A → Bool) (y : A) (xs : List A) → test y ≡ false → filter test (y ∷ xs) ≡ filter test xs
left_out test y xs f = cond-false (test y) (y ∷ filter test xs) (filter test xs) f

stood_kept : {A : Type 0} (test : A → Bool) (y : A) (xs : List A) (j : ℕ) (x : A) → IsTrue (test y)
    → ((i : ℕ) → slice_get (filter test xs) i ≡ Some x → Stood test xs i x) → slice_get (y ∷ filter test xs) j ≡ Some x → Stood test (y ∷ xs) j x
stood_kept test y xs zero x t h e =
    let same : y ≡ x = cc in
    record { place = 0; there = e; before = refl; passes = ap test (sym same) ∙ t }
stood_kept test y xs (suc j) x t h e =
    let r = h j e in
    record {
      place = suc r.place;
      there = r.there;
      before = kept test y (take r.place xs) t ∙ ap (λ l. y ∷ l) r.before ∙ ap (take (suc j)) (sym (kept test y xs t));
      passes = r.passes;
    }

pub stood : {A : Type 0} (test : A → Bool) (xs : List A) (j : ℕ) (x : A) → slice_get (filter test xs) j ≡ Some x → Stood test xs j x
stood test [] j x e = cc
stood test (y ∷ xs) j x e = elim (cases_Bool (test y)) [
  | inl t ↦ stood_kept test y xs j x t (λ i f. stood test xs i x f) (ap (λ l. slice_get l j) (sym (kept test y xs t)) ∙ e)
  | inr f ↦
      let r = stood test xs j x (ap (λ l. slice_get l j) (sym (left_out test y xs f)) ∙ e) in
      record {
        place = suc r.place;
        there = r.there;
        before = left_out test y (take r.place xs) f ∙ r.before ∙ ap (take j) (sym (left_out test y xs f));
        passes = r.passes;
      }
]
