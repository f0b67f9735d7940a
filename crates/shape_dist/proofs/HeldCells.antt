-- Cells of the object's places alone: any other place is bare, holds itself with the square 0, and stays as it is.
-- Laws over pictures, cells and numbers alone.
use Rattle.std.proofs.Common.{◌≡◌, ◌⊎◌, inl, inr, ℕ, ◌<◌, false, length, get_or, refl, sym, ap, ◌∙◌, subst, arith}
use Rattle.std.proofs.lemmas.Bool.{cases_Bool}
use Rattle.std.proofs.lemmas.Option.{get_or_from_slice_get}
use Rattle.shape_terms.specs.Pictures.{Picture}
use Rattle.shape_terms.specs.FramedBox.{framed_point}
use Rattle.shape_terms.specs.AxisLines.{apart, IsBare}
use Rattle.shape_terms.proofs.FramedLines.{distance_same}
use Rattle.shape_cells.specs.Held.{Held, HasCell, IsBareElsewhere}
use Rattle.shape_dist.specs.Keepings.{Keeping}
use Rattle.shape_dist.specs.Spreads.{found, square_at, nothing, IsNearestOn, IsSpreadAt}
use Rattle.shape_dist.proofs.LineParts.{bare_spreads}

-- a place has a cell or has none
cell_or_none : {A : Type 0} (cells : Held A) (i : ℕ) → (HasCell cells i) ⊎ (HasCell cells i → ⊥)
cell_or_none cells i = elim (cases_Bool (get_or cells.kept i false)) [
  | inl t ↦ inl t
  | inr f ↦ inr (λ t. cc)
]

module _ {A : Type 0} (k : Keeping A) (bare : ℕ → A) (itself : (i : ℕ) → bare i ≡ k.of i 0) where
  -- ---- the first axis

  -- a bare point that has found itself
  pub bare_nearest : (X : Picture) (w i : ℕ) (f : A) → IsBare X i → f ≡ bare i → IsNearestOn k X w i f
  bare_nearest X w i f b e = record {
    q = i;
    is = e ∙ itself i ∙ ap (k.of i) (sym (distance_same (framed_point X.sides i)));
    bare = b;
    level = refl;
    least = λ r c l. let z : apart X.sides i i ≡ 0 = distance_same (framed_point X.sides i) in omega (arith, z);
  }

  -- ---- one axis more

  -- a place without a cell has the square 0
  pub bare_square : (cells : Held A) (i : ℕ) → IsBareElsewhere bare cells → i < length cells.values → (HasCell cells i → ⊥)
      → square_at k cells.values i ≡ 0
  bare_square cells i elsewhere l none =
      ap k.square (get_or_from_slice_get cells.values i (bare i) (nothing k) (elsewhere i l none) ∙ itself i) ∙ k.square_of i 0

  -- what has spread to a place is put into its cell, if it has one
  pub put_spreads : (old new : Held A) (line : ℕ → A) (w x i : ℕ) (g : A) → x < w → i < length old.values → IsBareElsewhere bare old
      → line x ≡ found k old.values i → IsSpreadAt k line w x g → (HasCell old i → found k new.values i ≡ g)
      → ((HasCell old i → ⊥) → found k new.values i ≡ found k old.values i) → IsSpreadAt k line w x (found k new.values i)
  put_spreads old new line w x i g l inside elsewhere is spread put stays = elim (cell_or_none old i) [
    | inl cell ↦ subst (IsSpreadAt k line w x) (sym (put cell)) spread
    | inr none ↦
        let zero : k.square (line x) ≡ 0 = ap k.square is ∙ bare_square old i elsewhere inside none in
        subst (IsSpreadAt k line w x) (is ∙ sym (stays none)) (bare_spreads k line w x l zero)
  ]
