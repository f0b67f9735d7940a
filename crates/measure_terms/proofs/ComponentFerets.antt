-- Feret diameters by the labels of points are those of components: the same sets of points.
-- Lists of points, labels and sets alone stand here.
use Rattle.std.proofs.Common.{◌≡◌, inl, inr, ℕ, suc, Bool, true, List, [], ◌∷◌, subst, arith}
use Rattle.std.specs.Prelude.{filter}
use Rattle.std.specs.List.{Contains}
use Rattle.std.proofs.lemmas.Bool.{cond-true, cond-false, cases_Bool}
use Rattle.shape_terms.specs.Points.{Point}
use Rattle.shape_terms.proofs.SameCycles.{in_cases}
use Rattle.measure_terms.specs.Feret.{Feret, IsFeret}

-- what comes through a filter is of the list, and passes
pub filtered : {X : Type 0} (p : X → Bool) (xs : List X) (x : X) → Contains (filter p xs) x → Contains xs x × (p x ≡ true)
filtered p [] x c = absurd (let h = c.1 in omega (arith, h))
filtered p (y ∷ xs) x c = elim (cases_Bool (p y)) [
  | inl t ↦ elim (in_cases y (filter p xs) x (subst (λ l. Contains l x) (cond-true (p y) (y ∷ filter p xs) (filter p xs) t) c)) [
    | inl e ↦ ((0, omega arith, e), subst (λ z. p z ≡ true) e t)
    | inr d ↦ (let r = filtered p xs x d in let i = r.0 in let h = i.1 in ((suc i.0, omega (arith, h), i.2), r.1))
  ]
  | inr f ↦ (
      let r = filtered p xs x (subst (λ l. Contains l x) (cond-false (p y) (y ∷ filter p xs) (filter p xs) f) c) in
      let i = r.0 in let h = i.1 in ((suc i.0, omega (arith, h), i.2), r.1))
]

-- the same set has the same diameter
pub same_feret : (square : Point → Point → ℕ) (sides : List ℕ) (S T : Point → Type 0) (f : Feret) → ((p : Point) → S p → T p) → ((p : Point) → T p → S p)
    → IsFeret square sides S f → IsFeret square sides T f
same_feret square sides S T f to back h = record {
  from_in = to f.from h.from_in;
  to_in = to f.to h.to_in;
  distance = h.distance;
  greatest = λ p q a b. h.greatest p q (back p a) (back q b);
  first = λ p q a b. h.first p q (back p a) (back q b);
  last = λ q b. h.last q (back q b);
}
