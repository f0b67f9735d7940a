-- A name is that of one rule: the names on a shelf are distinct.
-- Laws of shelves and headings; no line but the heading stands here.
use Rattle.std.proofs.Common.{◌≡◌, inl, inr, ℕ, ◌<◌, List, [], ◌∷◌, length, refl, ap, sym, subst, ◌∙◌, arith}
use Rattle.std.proofs.lemmas.Bool.{cases_lt}
use Rattle.std.proofs.lemmas.List.{get_or-map, get_or_default, length-map}
use Rattle.std.specs.Prelude.{slice_index_or}
use Rattle.shape_terms.specs.Thinning.{Rule}
use Rattle.shape_terms.specs.Shelves.{Named, AreNames, names_of}
use Rattle.report_terms.specs.Subjects.{IsOnShelf}
use Rattle.report_terms.specs.Lines.{Line, Heading}
use Rattle.report_terms.specs.Sections.{NamesRule}

-- the name of the entry at a place
name_at : (shelf : List (Named Rule)) (k : ℕ) (x : Named Rule) → k < length shelf → slice_index_or shelf k x ≡ x → slice_index_or (names_of shelf) k [] ≡ x.name
name_at shelf k x l e = get_or-map (λ (n : Named Rule). n.name) shelf k x [] l ∙ ap (λ (n : Named Rule). n.name) e

-- two entries of one name stand at one place
not_before : (shelf : List (Named Rule)) → AreNames (names_of shelf) → (x y : Named Rule) (j k : ℕ) → x.name ≡ y.name → j < k → k < length shelf
    → slice_index_or shelf j x ≡ x → slice_index_or shelf k y ≡ y → ⊥
not_before shelf a x y j k same b l e f =
    a.distinct j k [] b (omega (arith, l, length-map shelf (λ (n : Named Rule). n.name)))
    (name_at shelf j x (omega (arith, b, l)) e ∙ same ∙ sym (name_at shelf k y l f))

at_one_place : (shelf : List (Named Rule)) (j k : ℕ) (x y : Named Rule) → j ≡ k → k < length shelf → slice_index_or shelf j x ≡ x → slice_index_or shelf k y ≡ y
    → x.rule ≡ y.rule
at_one_place shelf j k x y same l e f =
    ap (λ (n : Named Rule). n.rule) (sym e ∙ ap (λ i. slice_index_or shelf i x) same ∙ get_or_default shelf k x y l ∙ f)

-- a shelf has one rule under a name
pub one_on_shelf : (shelf : List (Named Rule)) → AreNames (names_of shelf) → (name : List ℕ) (r s : Rule) → IsOnShelf shelf name r → IsOnShelf shelf name s
    → r ≡ s
one_on_shelf shelf a name r s (j, l, e) (k, m, f) = elim (cases_lt j k) [
  | inl b ↦ absurd (not_before shelf a _ _ j k refl b m e f)
  | inr b ↦ elim (cases_lt k j) [
    | inl c ↦ absurd (not_before shelf a _ _ k j refl c l f e)
    | inr c ↦ at_one_place shelf j k _ _ (omega (arith, b, c)) m e f
  ]
]

-- a heading names one rule
pub one_named : (shelf : List (Named Rule)) → AreNames (names_of shelf) → (first : List Line) (r s : Rule) → NamesRule shelf first r → NamesRule shelf first s
    → r ≡ s
one_named shelf a first r s n m =
    let same : n.heading ≡ m.heading = heading_of (sym n.first_is ∙ m.first_is) in
    one_on_shelf shelf a m.heading.rule r s (subst (λ (h : Heading). IsOnShelf shelf h.rule r) same n.on_shelf) m.on_shelf
  where
    heading_of : {h k : Heading} → Line.Shape h ∷ [] ≡ Line.Shape k ∷ [] → h ≡ k
    heading_of e = cc
