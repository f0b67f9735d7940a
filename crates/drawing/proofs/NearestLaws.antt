-- What is shown of several cells laid on one place: one of them, and none lies nearer.
-- Laws of lists of cells alone.
use Rattle.std.proofs.Common.{◌≡◌, ◌≤◌, ◌<◌, inl, inr, zero, suc, List, [], ◌∷◌, Some, None, refl, ap, sym, subst, ◌∙◌, arith}
use Rattle.std.specs.Prelude.{◌⊎◌, nat_lt, Contains, All, fold}
use Rattle.std.proofs.lemmas.Bool.{cases_Bool, cond-true, cond-false, ltb-true, ltb-false}
use Rattle.std.proofs.lemmas.List.Elements.{All-nil, All-cons}
use Rattle.drawing.specs.declared.cell.Cell.{Cell}
use Rattle.drawing.specs.Canvas.{nearer}

contains_first : (x : Cell) (xs : List Cell) → Contains (x ∷ xs) x
contains_first x xs = (zero, omega arith, refl)

contains_later : (x y : Cell) (xs : List Cell) → Contains xs y → Contains (x ∷ xs) y
contains_later x y xs h = (suc h.0, omega (arith, h.1), h.2)

-- what is shown where cells are laid on another one
pub record Nearest (b : Cell) (cs : List Cell) : Type 0 where
  pub cell : Cell
  pub shown : fold nearer (Some b) cs ≡ Some cell
  pub below : cell.depth ≤ b.depth
  pub nearest : All (λ (x : Cell). cell.depth ≤ x.depth) cs
  pub one : (cell ≡ b) ⊎ Contains cs cell

pub nearest_of : (b : Cell) (cs : List Cell) → Nearest b cs
nearest_of b [] = record { cell = b; shown = refl; below = omega arith; nearest = All-nil (λ (x : Cell). b.depth ≤ x.depth); one = inl refl }
nearest_of b (x ∷ cs) = elim (cases_Bool (nat_lt x.depth b.depth)) [
  | inl y ↦
      let n = nearest_of x cs in
      let lt : x.depth < b.depth = ltb-true x.depth b.depth y in
      let le = n.below in
      record {
        cell = n.cell;
        shown = ap (λ o. fold nearer o cs) (cond-true (nat_lt x.depth b.depth) (Some x) (Some b) y) ∙ n.shown;
        below = omega (arith, lt, le);
        nearest = All-cons (λ (z : Cell). n.cell.depth ≤ z.depth) x cs n.below n.nearest;
        one = inr (elim n.one [
          | inl e ↦ subst (Contains (x ∷ cs)) (sym e) (contains_first x cs)
          | inr h ↦ contains_later x n.cell cs h
        ]);
      }
  | inr f ↦
      let n = nearest_of b cs in
      let ge : b.depth ≤ x.depth = ltb-false x.depth b.depth f in
      let le = n.below in
      record {
        cell = n.cell;
        shown = ap (λ o. fold nearer o cs) (cond-false (nat_lt x.depth b.depth) (Some x) (Some b) f) ∙ n.shown;
        below = n.below;
        nearest = All-cons (λ (z : Cell). n.cell.depth ≤ z.depth) x cs (omega (arith, ge, le)) n.nearest;
        one = elim n.one [
          | inl e ↦ inl e
          | inr h ↦ inr (contains_later x n.cell cs h)
        ];
      }
]

-- of cells laid on an empty place
pub shows_one : (cs : List Cell) (c : Cell) → fold nearer None cs ≡ Some c → Contains cs c
shows_one [] c e = cc
shows_one (b ∷ cs) c e =
    let n = nearest_of b cs in
    let same : n.cell ≡ c = let f = sym n.shown ∙ e in cc in
    subst (Contains (b ∷ cs)) same (elim n.one [
      | inl e ↦ subst (Contains (b ∷ cs)) (sym e) (contains_first b cs)
      | inr h ↦ contains_later b n.cell cs h
    ])

pub shows_nearest : (cs : List Cell) (c : Cell) → fold nearer None cs ≡ Some c → All (λ (x : Cell). c.depth ≤ x.depth) cs
shows_nearest [] c e = All-nil (λ (x : Cell). c.depth ≤ x.depth)
shows_nearest (b ∷ cs) c e =
    let n = nearest_of b cs in
    let same : n.cell ≡ c = let f = sym n.shown ∙ e in cc in
    let P : Cell → Type 0 = λ d. All (λ (x : Cell). d.depth ≤ x.depth) (b ∷ cs) in
    subst P same (All-cons (λ (x : Cell). n.cell.depth ≤ x.depth) b cs n.below n.nearest)

pub shows_none : (cs : List Cell) → fold nearer None cs ≡ None → cs ≡ []
shows_none [] e = refl
shows_none (b ∷ cs) e = let f = sym (nearest_of b cs).shown ∙ e in cc
