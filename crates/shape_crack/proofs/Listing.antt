-- The contours found so far, one for each cycle of the cracks that were passed by number.
-- Stated of the values alone; how contours and marks are kept belongs elsewhere.
use Rattle.std.proofs.Common.{ℕ, zero, suc, ◌+◌, ◌-◌, ◌*◌, ◌/◌, ◌%◌, ◌<◌, ◌≤◌, ◌≡◌, Bool, true, false, refl, ap, sym, ◌∙◌, subst, arith, List, [], ◌∷◌, ◌++◌}
use Rattle.std.proofs.Common.{length, length-append, map, ◌⊎◌, inl, inr}
use Rattle.std.specs.Prelude.{Contains, flat_map}
use Rattle.std.proofs.lemmas.List.{map-append}
use Rattle.shape_terms.specs.Points.{box_count, raster_point}
use Rattle.shape_terms.specs.Pictures.{Picture}
use Rattle.shape_terms.specs.Contours.{Crack, IsCrack, IsCycle, first_of_cycle}
use Rattle.shape_terms.specs.Traces.{Contour, contour_of, IsContourFrom, AreContours}
use Rattle.shape_terms.specs.CrackNumbers.{crack_number, numbered, IsLevel, MarksCycle}
use Rattle.shape_terms.proofs.SameCycles.{cycle_same}
use Rattle.shape_terms.proofs.Found.{Found, found_none, found_skip, found_more, found_all}
use Rattle.shape_terms.proofs.Numbered.{numbered_back}
use Rattle.shape_crack.specs.Marked.{IsCycleMarked, IsTaken}
use Rattle.shape_crack.specs.Terms.{side_of}
use Rattle.shape_crack.proofs.Rows.{crack_or_not}
use Rattle.shape_terms.proofs.NextObjects.{AreBlank}
use Rattle.shape_crack.proofs.Beginnings.{right_found, left_found}
use Rattle.shape_terms.proofs.Boxes.{raster_number-raster_point}

-- the contours of the cycles of all cracks with numbers below i, and the marks of these
pub record Listing (X : Picture) (i : ℕ) (marks : ℕ → Bool) (list : List Contour) : Type 0 where
  pub cycles : List (List Crack)
  pub found : Found X i marks cycles
  pub contours_are : list ≡ map (contour_of X) cycles
  pub few : length list ≤ i

-- a traced cycle and a marked one from one crack are one
same_cracks : (X : Picture) (c : Crack) (a b : List Crack) → IsCycle X a → first_of_cycle a ≡ c → IsCycle X b → first_of_cycle b ≡ c → a ≡ b
same_cracks X c [] b h e k f = absurd h
same_cracks X c (x ∷ a) [] h e k f = absurd k
same_cracks X c (x ∷ a) (y ∷ b) h e k f =
    let q : x ≡ y = e ∙ sym f in
    let t : a ≡ b = cycle_same X x a b h (subst (λ z. IsCycle X (z ∷ b)) (sym q) k) in
    cc

module _ (X : Picture) (axes : length X.sides ≡ 2) where
  pub listing_none : (marks : ℕ → Bool) → ((j : ℕ) → marks j ≡ false) → Listing X 0 marks []
  listing_none marks h = record { cycles = []; found = found_none X axes marks h; contours_are = refl; few = omega arith }

  listing_skip : (i : ℕ) (marks : ℕ → Bool) (list : List Contour) (l : Listing X i marks list)
      → (IsCrack X (numbered X.sides i) → Contains (flat_map (λ c. c) l.cycles) (numbered X.sides i)) → Listing X (i + 1) marks list
  listing_skip i marks list l s =
      record { cycles = l.cycles; found = found_skip X axes i marks l.cycles l.found s; contours_are = l.contours_are; few = (let f = l.few in omega arith) }

  listing_more : (i : ℕ) (marks marks' : ℕ → Bool) (list : List Contour) (k : Contour) → i < box_count X.sides * 4 → Listing X i marks list
      → IsCrack X (numbered X.sides i) → IsLevel (numbered X.sides i) → marks i ≡ false
      → IsContourFrom X (numbered X.sides i) k → IsCycleMarked X (numbered X.sides i) marks marks' → Listing X (i + 1) marks' (list ++ k ∷ [])
  listing_more i marks marks' list k b l is level new p m =
      go m.cracks m.cycle m.first m.marks (same_cracks X (numbered X.sides i) p.cracks m.cracks p.cycle p.first m.cycle m.first)
    where
      go : (cracks : List Crack) → IsCycle X cracks → first_of_cycle cracks ≡ numbered X.sides i → MarksCycle X.sides cracks marks marks' → p.cracks ≡ cracks
          → Listing X (i + 1) marks' (list ++ k ∷ [])
      go [] c f n e = absurd c
      go (s ∷ xs) c f n e = record {
        cycles = l.cycles ++ (s ∷ xs) ∷ [];
        found = found_more X axes i marks marks' l.cycles l.found s (subst (IsCrack X) (sym f) is) (ap (crack_number X.sides) f ∙ numbered_back X.sides i b)
            (subst IsLevel (sym f) level) new xs c n;
        contours_are = (λ j. l.contours_are j ++ (p.contour ∙ ap (contour_of X) e) j ∷ []) ∙ sym (map-append (contour_of X) l.cycles ((s ∷ xs) ∷ []));
        few = (let f = l.few in let a = length-append list (k ∷ []) in omega arith);
      }

  pub listing_all : (i : ℕ) (marks : ℕ → Bool) (list : List Contour) → Listing X i marks list → box_count X.sides * 4 ≤ i → AreContours X list
  listing_all i marks list l e = record { cycles = l.cycles; are = found_all X axes i marks l.cycles l.found e; contours_are = l.contours_are }

  -- ---- background pixels

  listing_gap : (d n m : ℕ) (marks : ℕ → Bool) (list : List Contour) → n + d ≡ m → ((j : ℕ) → n ≤ j → j < m → IsCrack X (numbered X.sides j) → ⊥)
      → Listing X n marks list → Listing X m marks list
  listing_gap zero n m marks list e none l = subst (λ k. Listing X k marks list) (let q : n ≡ m = omega arith in q) l
  listing_gap (suc d) n m marks list e none l = listing_gap d (n + 1) m marks list (omega arith) (λ j a b. none j (omega arith) b)
      (listing_skip n marks list l (λ k. absurd (none n (omega arith) (omega arith) k)))

  pub listing_blank : (n i : ℕ) (marks : ℕ → Bool) (list : List Contour) → n ≤ i → AreBlank X n i → Listing X (n * 4) marks list → Listing X (i * 4) marks list
  listing_blank n i marks list a blank l = listing_gap (i * 4 - n * 4) (n * 4) (i * 4) marks list (omega arith)
      (λ j b c k. let f = blank (j / 4) (omega arith) (omega arith) in let p = k.pixel in cc) l

  -- ---- one side of a pixel after the other

  module _ (i s n : ℕ) (l : i < box_count X.sides) (side : s < 4) (at_side : n ≡ i * 4 + s) (marks : ℕ → Bool) (list : List Contour)
      (found : Listing X n marks list) where
    numbered_is : numbered X.sides n ≡ side_of X.sides i s
    numbered_is =
        let p : n / 4 ≡ i = omega arith in
        let q : n % 4 ≡ s = omega arith in
        λ k. record { pixel = raster_point X.sides (p k); side = q k }

    number_is : crack_number X.sides (side_of X.sides i s) ≡ n
    number_is = let e = raster_number-raster_point X.sides i l in omega arith

    pub listing_no_crack : (IsCrack X (side_of X.sides i s) → ⊥) → Listing X (n + 1) marks list
    listing_no_crack none = listing_skip n marks list found (λ k. absurd (none (subst (IsCrack X) numbered_is k)))

    pub listing_taken : (marks' : ℕ → Bool) (list' : List Contour) → s % 2 ≡ 0 → IsCrack X (side_of X.sides i s)
        → IsTaken X (side_of X.sides i s) marks marks' list list' → Listing X (n + 1) marks' list'
    listing_taken marks' list' level k (inl (m, e, f)) =
        subst (λ (l : List Contour). Listing X (n + 1) marks' l) (sym f)
        (subst (λ (v : ℕ → Bool). Listing X (n + 1) v list) (sym e) (listing_skip n marks list found (λ q. found.found.marked (numbered X.sides n) q
        (subst (λ d. marks (crack_number X.sides d) ≡ true) (sym numbered_is) m))))
    listing_taken marks' list' level k (inr a) =
        let c = sym numbered_is in
        subst (λ (l : List Contour). Listing X (n + 1) marks' l) (sym a.last)
        (listing_more n marks marks' list a.contour (omega arith) found (subst (IsCrack X) c k) (subst IsLevel c level)
        (subst (λ j. marks j ≡ false) number_is a.unmarked) (subst (λ (d : Crack). IsContourFrom X d a.contour) c a.from)
        (subst (λ (d : Crack). IsCycleMarked X d marks marks') c a.marked))

    -- a right or a left side, whose crack is on a cycle that was found where it is one
    pub listing_passed : (s ≡ 1) ⊎ (s ≡ 3) → Listing X (n + 1) marks list
    listing_passed o = go (crack_or_not X (side_of X.sides i s) side)
      where
        go : IsCrack X (side_of X.sides i s) ⊎ (IsCrack X (side_of X.sides i s) → ⊥) → Listing X (n + 1) marks list
        go (inr none) = listing_no_crack none
        go (inl k) = listing_skip n marks list found (λ _. subst (Contains (flat_map (λ c. c) found.cycles)) (sym numbered_is) (elim o [
          | inl e ↦ right_found X axes n marks found.cycles found.found (side_of X.sides i s) k e number_is
          | inr e ↦ left_found X axes n marks found.cycles found.found (side_of X.sides i s) k e number_is
        ]))
