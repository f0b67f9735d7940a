-- The first object point from a raster number on: all points before it are background.
-- Stated of pictures of any number of axes.
use Rattle.std.proofs.Common.{◌≡◌, ℕ, zero, suc, ◌+◌, ◌-◌, ◌<◌, ◌≤◌, Bool, true, false, refl, ap, sym, ◌∙◌, subst, arith, List, [], ◌∷◌, get_or}
use Rattle.std.proofs.lemmas.List.{drop_all}
use Rattle.std.specs.Prelude.{filter}
use native.Mathlib.Decide.{ℕ_discrete}
use Rattle.shape_terms.specs.Points.{Point, box_count, box_points, raster_number, raster_point}
use Rattle.shape_terms.specs.Pictures.{Picture, at, objects_from}
use Rattle.shape_terms.proofs.Boxes.{raster_number-raster_point}
use Rattle.shape_terms.proofs.BoxLists.{at_raster_point, objects_next, objects_skip, length-box_points}

-- all points with numbers from the one to below the other are background
abbrev pub AreBlank : Picture → ℕ → ℕ → Type 0
AreBlank X n m = (j : ℕ) → n ≤ j → j < m → at X (raster_point X.sides j) ≡ false

pub record IsNext (X : Picture) (n i : ℕ) : Type 0 where
  pub low : n ≤ i
  pub object : at X (raster_point X.sides i) ≡ true
  pub blank : AreBlank X n i

none_left : (X : Picture) (i : ℕ) → box_count X.sides ≤ i → objects_from X i ≡ []
none_left X i l = ap (filter (at X)) (drop_all i (box_points X.sides) (omega (arith, length-box_points X.sides)))

none_some : {A : Type 0} (x : A) (xs : List A) → [] ≡ x ∷ xs → ⊥
none_some x xs e = cc

one_more : (X : Picture) (n m : ℕ) → at X (raster_point X.sides n) ≡ false → AreBlank X (n + 1) m → AreBlank X n m
one_more X n m e h j a b = elim (ℕ_discrete n j) [ yes q ↦ subst (λ k. at X (raster_point X.sides k) ≡ false) q e | no q ↦ h j (omega arith) b ]

module _ (X : Picture) where
  next_by : (k n i : ℕ) → n + k ≡ box_count X.sides → i < box_count X.sides → objects_from X n ≡ raster_point X.sides i ∷ objects_from X (i + 1) → IsNext X n i
  next_by zero n i e l h = absurd (none_some _ _ (sym (none_left X n (omega arith)) ∙ h))
  next_by (suc k) n i e l h = go (λ f. next_by k (n + 1) i (omega arith) l f) (get_or X.values n false) refl
    where
      go : (objects_from X (n + 1) ≡ raster_point X.sides i ∷ objects_from X (i + 1) → IsNext X (n + 1) i) → (b : Bool) → get_or X.values n false ≡ b
          → IsNext X n i
      go later true v =
          let m : n < box_count X.sides = omega arith in
          let p : raster_point X.sides n ≡ raster_point X.sides i = ap (λ (s : List Point). get_or s 0 []) (sym (objects_next X n m v) ∙ h) in
          let q : n ≡ i = sym (raster_number-raster_point X.sides n m) ∙ (ap (raster_number X.sides) p ∙ raster_number-raster_point X.sides i l) in
          record {
            low = omega arith;
            object = subst (λ j. at X (raster_point X.sides j) ≡ true) q (at_raster_point X n m ∙ v);
            blank =
                λ j a b. absurd (omega arith);
          }
      go later false v =
          let m : n < box_count X.sides = omega arith in
          let r = later (sym (objects_skip X n m v) ∙ h) in
          record { low = (let a = r.low in omega arith); object = r.object; blank = one_more X n i (at_raster_point X n m ∙ v) r.blank }

  pub next_object : (n i : ℕ) → n ≤ box_count X.sides → i < box_count X.sides → objects_from X n ≡ raster_point X.sides i ∷ objects_from X (i + 1)
      → IsNext X n i
  next_object n i a l h = next_by (box_count X.sides - n) n i (omega arith) l h

  blank_by : (k n : ℕ) → n + k ≡ box_count X.sides → objects_from X n ≡ [] → AreBlank X n (box_count X.sides)
  blank_by zero n e h = λ j a b. absurd (omega arith)
  blank_by (suc k) n e h = go (λ f. blank_by k (n + 1) (omega arith) f) (get_or X.values n false) refl
    where
      go : (objects_from X (n + 1) ≡ [] → AreBlank X (n + 1) (box_count X.sides)) → (b : Bool) → get_or X.values n false ≡ b → AreBlank X n (box_count X.sides)
      go later true v = absurd (none_some _ _ (sym h ∙ objects_next X n (omega arith) v))
      go later false v =
          let m : n < box_count X.sides = omega arith in
          one_more X n (box_count X.sides) (at_raster_point X n m ∙ v) (later (sym (objects_skip X n m v) ∙ h))

  pub blank_to_end : (n : ℕ) → n ≤ box_count X.sides → objects_from X n ≡ [] → AreBlank X n (box_count X.sides)
  blank_to_end n a h = blank_by (box_count X.sides - n) n (omega arith) h
