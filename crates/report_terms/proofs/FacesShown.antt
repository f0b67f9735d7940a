-- What good lines of faces say, one after another: the first faces of the volume with their partitions, and what was given of the last one.
-- Laws of the lines of this section alone; what the lines of one face say stands in `FaceSaid`.
use Rattle.std.proofs.Common.{◌≡◌, ℕ, suc, ◌+◌, ◌-◌, ◌<◌, false, List, [], ◌∷◌, ◌++◌, length, take, get_or, map, Some, refl, ap, sym, ◌∙◌, subst, arith, inl}
use Rattle.std.proofs.Common.{inr}
use Rattle.std.specs.Prelude.{slice_get}
use Rattle.std.specs.List.{range_with_len}
use Rattle.std.proofs.lemmas.List.{length-append}
use Rattle.std.proofs.lemmas.List.Elements.{All-map, All-from_get_or}
use Rattle.std.proofs.lemmas.Option.{slice_get-get_or}
use Rattle.shape_terms.specs.Pictures.{Picture}
use Rattle.shape_terms.specs.Patches.{Sense}
use Rattle.report_terms.specs.Lines.{Line}
use Rattle.report_terms.specs.FaceFacts.{face_axis, face_sense, FaceFact, FaceShows, FacesShow}
use Rattle.report_terms.specs.FaceLines.{is_face, face_groups, face_standing_with, face_standing, FaceIsFull, FacesAreFull, IsFaceHead, SurfaceClaim, FaceClaim}
use Rattle.report_terms.specs.FaceLines.{FacesComplete}
use Rattle.report_terms.specs.Shows.{face_fact}
use Rattle.text_terms.proofs.ListPushes.{get_push, by_fronts}
use Rattle.report_terms.proofs.ContourGroups.{group_begun, group_more}
use Rattle.report_terms.proofs.FaceGroups.{last_is, declared_begun}
use Rattle.report_terms.proofs.FaceSaid.{SaysFace, said_face, said_more, said_full}

-- the lines of the face with the number k say it, and show its partition
record IsShown (X : Picture) (k : ℕ) (face : List Line) : Type 0 where
  axis : (face_fact face).axis ≡ face_axis k
  sense : (face_fact face).sense ≡ face_sense k
  shows : FaceShows X (face_fact face)

abbrev AreShown : Picture → List (List Line) → Type 0
AreShown X front = (k : ℕ) (h : List Line) → slice_get front k ≡ Some h → IsShown X k h

-- the lines show the faces before the last one that was begun, and say something of that one
record SaysLast (X : Picture) (lines : List Line) (front : List (List Line)) (g : List Line) : Type 0 where
  groups_are : face_groups lines ≡ front ++ g ∷ []
  shown : AreShown X front
  said : SaysFace X (length front) g

-- no face was begun, or one was begun last
data Says (X : Picture) (lines : List Line) : Type 0 where
  SaysNone : face_groups lines ≡ [] → Says X lines
  SaysSome : (front : List (List Line)) (g : List Line) → SaysLast X lines front g → Says X lines

push_shown : (X : Picture) (front : List (List Line)) (g : List Line) → AreShown X front → IsShown X (length front) g → AreShown X (front ++ g ∷ [])
push_shown X front g shown s k h e = elim (get_push front g k h e) [
  | inl o ↦ shown k h o.0
  | inr n ↦ subst (λ j. IsShown X j h) (sym n.2) (subst (IsShown X (length front)) n.0 s)
]

-- the number of the face that was begun last
number_is : (X : Picture) (lines : List Line) (front : List (List Line)) (g : List Line) → SaysLast X lines front g
    → length (face_groups lines) - 1 ≡ length front
number_is X lines front g w = let n : length (face_groups lines) ≡ length front + 1 = ap length w.groups_are ∙ length-append front (g ∷ []) in omega (arith, n)

-- a face that is full is shown
whole : (X : Picture) (lines : List Line) (front : List (List Line)) (g : List Line) → SaysLast X lines front g → FaceIsFull X (face_standing lines)
    → IsShown X (length front) g
whole X lines front g w full =
    let n = length (face_groups lines) in
    let e = number_is X lines front g w in
    let mine = subst (λ h. FaceIsFull X (face_standing_with n h)) (last_is (face_groups lines) front g w.groups_are) full in
    let r = said_full X n g (subst (λ i. SaysFace X i g) (sym e) w.said) mine in
    subst (λ i. IsShown X i g) e (record { axis = r.0; sense = r.1; shows = r.2 })

begun_some : (X : Picture) (lines : List Line) (front : List (List Line)) (g : List Line) → SaysLast X lines front g → 0 < (face_standing lines).begun
begun_some X lines front g w = let n : length (face_groups lines) ≡ length front + 1 = ap length w.groups_are ∙ length-append front (g ∷ []) in omega (arith, n)

-- a `face` line
next_face : (X : Picture) (lines : List Line) (t : ℕ) (sense : Sense) (n : ℕ) (front : List (List Line)) → face_groups lines ≡ front → AreShown X front
    → IsFaceHead X (face_standing lines) t sense n → Says X (lines ++ Line.Face t sense n ∷ [])
next_face X lines t sense n front e shown c =
    let l = Line.Face t sense n in
    let k = ap length e in
    let a : t ≡ face_axis (length front) = c.axis ∙ ap face_axis k in
    let s : sense ≡ face_sense (length front) = c.sense_is ∙ ap face_sense k in
    let said : SaysFace X (length front) (l ∷ []) = subst (λ x. SaysFace X (length front) (Line.Face x sense n ∷ [])) (sym a)
    (subst (λ y. SaysFace X (length front) (Line.Face (face_axis (length front)) y n ∷ [])) (sym s) (said_face X (length front) n)) in
    SaysSome front (l ∷ []) (record { groups_are = group_begun is_face lines l refl ∙ ap (λ g. g ++ (l ∷ []) ∷ []) e; shown = shown; said = said })

-- any other line
same_face : (X : Picture) (lines : List Line) (l : Line) → is_face l ≡ false → Says X lines → (0 < (face_standing lines).begun)
    → SurfaceClaim X (face_standing lines) l → Says X (lines ++ l ∷ [])
same_face X lines l t (SaysNone e) some c = absurd (let n : length (face_groups lines) ≡ 0 = ap length e in omega (arith, n, some))
same_face X lines l t (SaysSome front g w) some c =
    let n = length (face_groups lines) in
    let e = number_is X lines front g w in
    let mine = subst (λ h. SurfaceClaim X (face_standing_with n h) l) (last_is (face_groups lines) front g w.groups_are) c in
    let said = said_more X n g l t (subst (λ i. SaysFace X i g) (sym e) w.said) mine in
    SaysSome front (g ++ l ∷ [])
    (record { groups_are = group_more is_face lines l front g t w.groups_are; shown = w.shown; said = subst (λ i. SaysFace X i (g ++ l ∷ [])) e said })

-- one more good line
says_more : (X : Picture) (lines : List Line) (l : Line) → Says X lines → SurfaceClaim X (face_standing lines) l → Says X (lines ++ l ∷ [])
says_more X lines (Line.Face t sense n) (SaysNone e) c = next_face X lines t sense n [] e (λ k h e. cc) c
says_more X lines (Line.Face t sense n) (SaysSome front g w) c =
    next_face X lines t sense n (front ++ g ∷ []) w.groups_are (push_shown X front g w.shown (whole X lines front g w (c.full (begun_some X lines front g w))))
    c
says_more X lines (Line.Patch k a mu) s c = same_face X lines (Line.Patch k a mu) refl s c.face c
says_more X lines (Line.On p) s c = same_face X lines (Line.On p) refl s (declared_begun lines (let m = c.more in omega (arith, m))) c
says_more X lines (Line.Off p why) s c =
    let m = c.next.touching.near.1.1 in
    let n = c.points in
    same_face X lines (Line.Off p why) refl s (declared_begun lines (omega (arith, m, n))) c
says_more X lines l s c = absurd c

-- good lines of faces, each good after those before it
says : (X : Picture) (lines : List Line) → ((k : ℕ) (l : Line) → slice_get lines k ≡ Some l → FaceClaim X (take k lines) l) → Says X lines
says X lines good = by_fronts (Says X) lines (SaysNone refl) (λ k l e s. says_more X (take k lines) l s (good k l e))

-- where the section is complete, all faces are shown
says_all : (X : Picture) (lines : List Line) → Says X lines → FacesAreFull X (face_standing lines) → AreShown X (face_groups lines)
says_all X lines (SaysNone e) full = subst (AreShown X) (sym e) (λ k h e. cc)
says_all X lines (SaysSome front g w) full =
    subst (AreShown X) (sym w.groups_are) (push_shown X front g w.shown (whole X lines front g w (full (begun_some X lines front g w))))

-- elements that are told by their places
by_places : {A B : Type 0} (f : A → B) (F : ℕ → B) (xs : List A) (b : ℕ) → ((k : ℕ) (x : A) → slice_get xs k ≡ Some x → f x ≡ F (b + k))
    → map f xs ≡ map F (range_with_len b (length xs))
by_places f F [] b h = refl
by_places f F (x ∷ xs) b h =
    let z : b + 0 ≡ b = omega arith in
    let here : f x ≡ F b = h 0 x refl ∙ ap F z in
    let rest = by_places f F xs (b + 1) (λ k y e. h (suc k) y e ∙ ap F (let q : b + suc k ≡ b + 1 + k = omega arith in q)) in
    λ i. here i ∷ rest i

-- good lines of faces that are complete show the six faces and their partitions
pub lines_faces : (X : Picture) (lines : List Line) → ((k : ℕ) (l : Line) → slice_get lines k ≡ Some l → FaceClaim X (take k lines) l) → FacesComplete X lines
    → FacesShow X (map face_fact (face_groups lines))
lines_faces X lines good (full, six) =
    let gs = face_groups lines in
    let all = says_all X lines (says X lines good) full in
    record {
      axes = joined (λ (f : FaceFact). f.axis) face_axis gs (λ k g e. (all k g e).axis) ∙ ap (λ n. map face_axis (range_with_len 0 n)) six;
      senses = joined (λ (f : FaceFact). f.sense) face_sense gs (λ k g e. (all k g e).sense) ∙ ap (λ n. map face_sense (range_with_len 0 n)) six;
      each = All-map (FaceShows X) face_fact gs
          (All-from_get_or (λ g. FaceShows X (face_fact g)) gs [] (λ k h. (all k (get_or gs k []) (slice_get-get_or gs k [] h)).shows));
    }
  where
    composed : {B : Type 0} (f : FaceFact → B) (gs : List (List Line)) → map f (map face_fact gs) ≡ map (λ g. f (face_fact g)) gs
    composed f [] = refl
    composed f (g ∷ gs) = ap (λ l. f (face_fact g) ∷ l) (composed f gs)

    joined : {B : Type 0} (f : FaceFact → B) (F : ℕ → B) (gs : List (List Line)) → ((k : ℕ) (g : List Line) → slice_get gs k ≡ Some g → f (face_fact g) ≡ F k)
        → map f (map face_fact gs) ≡ map F (range_with_len 0 (length gs))
    joined f F gs h = composed f gs ∙ by_places (λ g. f (face_fact g)) F gs 0 (λ k g e. h k g e ∙ ap F (let q : k ≡ 0 + k = omega arith in q))
