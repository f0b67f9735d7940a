-- Where the lines of faces stand when one more line comes.
-- Laws of lists of lines; which faces a picture has does not matter here.
use Rattle.std.proofs.Common.{◌≡◌, ℕ, ◌+◌, ◌-◌, ◌<◌, false, List, [], ◌∷◌, ◌++◌, length, refl, ap, sym, ◌∙◌, arith, inl, inr}
use Rattle.std.specs.Prelude.{ℤ, filter_map, slice_index_or}
use Rattle.std.proofs.lemmas.Bool.{cases_lt}
use Rattle.std.proofs.lemmas.List.{length-append, nil_from_length}
use Rattle.std.proofs.Math.Seq.{get_or-append_seam}
use Rattle.shape_terms.specs.Points.{Point}
use Rattle.shape_terms.specs.Refutations.{Refutation}
use Rattle.shape_terms.specs.Patches.{Sense}
use Rattle.report_terms.specs.Lines.{Line}
use Rattle.report_terms.specs.FaceLines.{is_face, is_patch, face_groups, patch_groups, last_group, open_face, on_point, off_point, count_of, plane_of}
use Rattle.report_terms.specs.FaceLines.{given_patch, face_standing_with, face_standing}
use Rattle.text_terms.proofs.ListPushes.{filter_map-same, filter_map-push, with_last}
use Rattle.report_terms.proofs.ContourGroups.{group_begun, group_more}

-- the last of some groups
pub last_is : (gs front : List (List Line)) (g : List Line) → gs ≡ front ++ g ∷ [] → last_group gs ≡ g
last_is gs front g e =
    let n : length (front ++ g ∷ []) - 1 ≡ length front = omega (arith, length-append front (g ∷ [])) in
    rw e (ap (λ k. slice_index_or (front ++ g ∷ []) k []) n ∙ get_or-append_seam front g [] [])

-- where points are declared, a patch was begun
pub declared_some : (face : List Line) → 0 < count_of (last_group (patch_groups face)) → 0 < length (patch_groups face)
declared_some face h = elim (cases_lt 0 (length (patch_groups face))) [
  | inl l ↦ l
  | inr e ↦ absurd (let d : count_of (last_group (patch_groups face)) ≡ 0 =
      ap (λ gs. count_of (last_group gs)) (nil_from_length (patch_groups face) (omega arith)) in omega arith)
]

-- and so was a face
pub declared_begun : (lines : List Line) → 0 < (face_standing lines).patch.declared → 0 < (face_standing lines).begun
declared_begun lines h = elim (cases_lt 0 (length (face_groups lines))) [
  | inl l ↦ l
  | inr e ↦ absurd (let d : (face_standing lines).patch.declared ≡ 0 = ap (λ gs. count_of (last_group (patch_groups (last_group gs))))
      (nil_from_length (face_groups lines) (omega arith)) in omega arith)
]

-- what the first line of a patch gives stays as it is
pub count_stays : (p : List Line) (l : Line) → 0 < count_of p → count_of (p ++ l ∷ []) ≡ count_of p
count_stays [] l h = absurd (omega arith)
count_stays (Line.Patch k a mu ∷ p) l h = refl
count_stays (x ∷ p) l h = refl

pub plane_stays : (p : List Line) (l : Line) → 0 < count_of p → plane_of (p ++ l ∷ []) ≡ plane_of p
plane_stays [] l h = absurd (omega arith)
plane_stays (Line.Patch k a mu ∷ p) l h = refl
plane_stays (x ∷ p) l h = refl

-- ---- one more line of a face

pub patch_begun : (face : List Line) (k : ℕ) (a : List ℤ) (mu : ℤ) → last_group (patch_groups (face ++ Line.Patch k a mu ∷ [])) ≡ Line.Patch k a mu ∷ []
patch_begun face k a mu =
    let l = Line.Patch k a mu in
    last_is (patch_groups (face ++ l ∷ [])) (patch_groups face) (l ∷ []) (group_begun is_patch face l refl)

pub patch_more : (face : List Line) (l : Line) → is_patch l ≡ false → 0 < count_of (last_group (patch_groups face))
    → last_group (patch_groups (face ++ l ∷ [])) ≡ last_group (patch_groups face) ++ l ∷ []
patch_more face l t h =
    let r = with_last (patch_groups face) (declared_some face h) in
    last_is (patch_groups (face ++ l ∷ [])) r.0 (r.1 ++ l ∷ []) (group_more is_patch face l r.0 r.1 t r.2)
    ∙ ap (λ g. g ++ l ∷ []) (sym (last_is (patch_groups face) r.0 r.1 r.2))

-- a `patch` line begins a patch
pub given_begun : (face : List Line) (k : ℕ) (a : List ℤ) (mu : ℤ)
    → given_patch (last_group (patch_groups (face ++ Line.Patch k a mu ∷ [])))
    ≡ record { declared = k; plane = record { a = a; mu = mu }; points = []; refused = [] }
given_begun face k a mu = ap given_patch (patch_begun face k a mu)

-- an `on` line gives it one more point
pub given_point : (face : List Line) (p : Point) → 0 < count_of (last_group (patch_groups face))
    → given_patch (last_group (patch_groups (face ++ Line.On p ∷ []))) ≡ record (given_patch (last_group (patch_groups face)))
    { points = filter_map on_point (last_group (patch_groups face)) ++ p ∷ [] }
given_point face p h =
    let l = Line.On p in
    let g = last_group (patch_groups face) in
    let n = count_stays g l h in
    let e = plane_stays g l h in
    let a = filter_map-push on_point g l p refl in
    let b = filter_map-same off_point g l refl in
    ap given_patch (patch_more face l refl h) ∙ (λ i. record { declared = n i; plane = e i; points = a i; refused = b i })

-- an `off` line gives it one more refused point
pub given_refused : (face : List Line) (p : Point) (why : Refutation) → 0 < count_of (last_group (patch_groups face))
    → given_patch (last_group (patch_groups (face ++ Line.Off p why ∷ []))) ≡ record (given_patch (last_group (patch_groups face)))
    { refused = filter_map off_point (last_group (patch_groups face)) ++ p ∷ [] }
given_refused face p why h =
    let l = Line.Off p why in
    let g = last_group (patch_groups face) in
    let n = count_stays g l h in
    let e = plane_stays g l h in
    let a = filter_map-same on_point g l refl in
    let b = filter_map-push off_point g l p refl in
    ap given_patch (patch_more face l refl h) ∙ (λ i. record { declared = n i; plane = e i; points = a i; refused = b i })

-- ---- one more line

-- a `face` line begins the next face
pub standing_face : (lines : List Line) (t : ℕ) (sense : Sense) (n : ℕ)
    → face_standing (lines ++ Line.Face t sense n ∷ []) ≡ record { begun = (face_standing lines).begun + 1; taken = []; patch = given_patch [] }
standing_face lines t sense n =
    let l = Line.Face t sense n in
    let e = group_begun is_face lines l refl in
    let a : length (face_groups (lines ++ l ∷ [])) ≡ length (face_groups lines) + 1 = ap length e ∙ length-append (face_groups lines) ((l ∷ []) ∷ []) in
    let b : open_face (lines ++ l ∷ []) ≡ l ∷ [] = last_is (face_groups (lines ++ l ∷ [])) (face_groups lines) (l ∷ []) e in
    λ i. face_standing_with (a i) (b i)

-- any other line belongs to the face that was begun last
grown : (lines : List Line) (l : Line) → is_face l ≡ false → 0 < (face_standing lines).begun
    → face_standing (lines ++ l ∷ []) ≡ face_standing_with (face_standing lines).begun (open_face lines ++ l ∷ [])
grown lines l t h =
    let r = with_last (face_groups lines) h in
    let e = group_more is_face lines l r.0 r.1 t r.2 in
    let a : length (face_groups (lines ++ l ∷ [])) ≡ length (face_groups lines) = ap length e ∙ length-append r.0 ((r.1 ++ l ∷ []) ∷ [])
    ∙ sym (ap length r.2 ∙ length-append r.0 (r.1 ∷ [])) in
    let b : open_face (lines ++ l ∷ []) ≡ open_face lines ++ l ∷ [] = last_is (face_groups (lines ++ l ∷ [])) r.0 (r.1 ++ l ∷ []) e
    ∙ ap (λ g. g ++ l ∷ []) (sym (last_is (face_groups lines) r.0 r.1 r.2)) in
    λ i. face_standing_with (a i) (b i)

pub standing_patch : (lines : List Line) (k : ℕ) (a : List ℤ) (mu : ℤ) → 0 < (face_standing lines).begun
    → face_standing (lines ++ Line.Patch k a mu ∷ []) ≡ record (face_standing lines)
    { patch = record { declared = k; plane = record { a = a; mu = mu }; points = []; refused = [] } }
standing_patch lines k a mu h =
    let l = Line.Patch k a mu in
    let e = filter_map-same on_point (open_face lines) l refl in
    let g = given_begun (open_face lines) k a mu in
    grown lines l refl h ∙ (λ i. record { begun = (face_standing lines).begun; taken = e i; patch = g i })

pub standing_on : (lines : List Line) (p : Point) → 0 < (face_standing lines).patch.declared
    → face_standing (lines ++ Line.On p ∷ [])
    ≡ record {
      begun = (face_standing lines).begun;
      taken = (face_standing lines).taken ++ p ∷ [];
      patch =
          record (face_standing lines).patch { points = (face_standing lines).patch.points ++ p ∷ [] };
    }
standing_on lines p h =
    let l = Line.On p in
    let e = filter_map-push on_point (open_face lines) l p refl in
    let g = given_point (open_face lines) p h in
    grown lines l refl (declared_begun lines h) ∙ (λ i. record { begun = (face_standing lines).begun; taken = e i; patch = g i })

pub standing_off : (lines : List Line) (p : Point) (why : Refutation) → 0 < (face_standing lines).patch.declared
    → face_standing (lines ++ Line.Off p why ∷ []) ≡ record (face_standing lines)
    { patch = record (face_standing lines).patch { refused = (face_standing lines).patch.refused ++ p ∷ [] } }
standing_off lines p why h =
    let l = Line.Off p why in
    let e = filter_map-same on_point (open_face lines) l refl in
    let g = given_refused (open_face lines) p why h in
    grown lines l refl (declared_begun lines h) ∙ (λ i. record { begun = (face_standing lines).begun; taken = e i; patch = g i })
