-- What a judge finds of a line, as the claim of the line after those that the judge stands for, and how many may follow.
-- Laws over pictures, lines and what a judge is seen as.
use Rattle.std.proofs.Common.{◌≡◌, ℕ, suc, ◌+◌, ◌-◌, ◌*◌, ◌<◌, ◌≤◌, Bool, true, false, List, [], ◌∷◌, ◌++◌, length, ap, sym, ◌∙◌, subst, refl, arith}
use Rattle.std.specs.Prelude.{ℤ, ◌↔◌, IsTrue, ◌==◌, if◌then◌else◌}
use Rattle.std.specs.Bool.{OnTrue}
use Rattle.std.proofs.lemmas.Bool.{cond-true, cond-false, eq-eqb, ne_eqb}
use Rattle.std.proofs.lemmas.List.{length-append}
use Rattle.std.proofs.lemmas.Nat.{mul-le}
use Rattle.std.proofs.Math.Nat.{suc-mul}
use Rattle.shape_terms.specs.Limits.{most_points}
use Rattle.shape_terms.specs.Points.{Point, box_count}
use Rattle.shape_terms.specs.Pictures.{Picture}
use Rattle.shape_terms.specs.Refutations.{Refutation}
use Rattle.shape_terms.specs.Patches.{Sense}
use Rattle.report_terms.specs.Lines.{Line}
use Rattle.report_terms.specs.FaceLines.{FaceStanding, face_standing, open_exposed, IsFaceHead, IsPatchHead, IsOnLine, IsOffLine, SurfaceClaim}
use Rattle.report_terms.specs.Sections.{SolidClaim}
use Rattle.report_terms.proofs.FaceGroups.{standing_face, standing_patch, standing_on, standing_off}
use Rattle.judge_outline.specs.Exposure.{exposed_at}
use Rattle.judge_outline.specs.PlaneState.{PlaneState, StandsFor, room_of, with_face, with_patch, with_on, with_off}
use Rattle.judge_outline.proofs.PlaneSteps.{few_exposed}

-- a line is good where its claim is true of where the judge stands
pub claim_test : (X : Picture) (s : PlaneState) (lines : List Line) (l : Line) (b : Bool) → StandsFor X s lines
    → (IsTrue b ↔ SurfaceClaim s.picture s.standing l) → IsTrue b ↔ SolidClaim X lines l
claim_test X s lines l b f r = (
  λ t. (f.solid, subst (λ w. SurfaceClaim X w l) (sym f.stands) (subst (λ Y. SurfaceClaim Y s.standing l) f.picture (r.0 t))),
  λ (solid, claim). r.1 (subst (λ Y. SurfaceClaim Y s.standing l) (sym f.picture) (subst (λ w. SurfaceClaim X w l) f.stands claim)),
)

-- ---- one more line

pub face_stands : (X : Picture) (s s2 : PlaneState) (lines : List Line) (t : ℕ) (sense : Sense) (n : ℕ) (b : Bool) → StandsFor X s lines
    → s2.picture ≡ s.picture → OnTrue b (s2.standing ≡ with_face s.standing) → OnTrue b (StandsFor X s2 (lines ++ Line.Face t sense n ∷ []))
face_stands X s s2 lines t sense n false f e k = tt
face_stands X s s2 lines t sense n true f e k =
    record { solid = f.solid; picture = e ∙ f.picture; stands = standing_face lines t sense n ∙ ap with_face f.stands ∙ sym k }

pub patch_stands : (X : Picture) (s s2 : PlaneState) (lines : List Line) (n : ℕ) (a : List ℤ) (mu : ℤ) (b : Bool) → StandsFor X s lines → s2.picture ≡ s.picture
    → (IsTrue b ↔ IsPatchHead s.picture s.standing n (record { a = a; mu = mu }))
    → OnTrue b (s2.standing ≡ with_patch s.standing n (record { a = a; mu = mu })) → OnTrue b (StandsFor X s2 (lines ++ Line.Patch n a mu ∷ []))
patch_stands X s s2 lines n a mu false f e r k = tt
patch_stands X s s2 lines n a mu true f e r k =
    let begun : 0 < (face_standing lines).begun = subst (λ (w : FaceStanding). 0 < w.begun) (sym f.stands) (r.0 refl).face in
    record {
      solid = f.solid;
      picture = e ∙ f.picture;
      stands = standing_patch lines n a mu begun
          ∙ ap (λ w. with_patch w n (record { a = a; mu = mu })) f.stands ∙ sym k;
    }

pub on_stands : (X : Picture) (s s2 : PlaneState) (lines : List Line) (p : Point) (b : Bool) → StandsFor X s lines → s2.picture ≡ s.picture
    → (IsTrue b ↔ IsOnLine s.picture s.standing p) → OnTrue b (s2.standing ≡ with_on s.standing p) → OnTrue b (StandsFor X s2 (lines ++ Line.On p ∷ []))
on_stands X s s2 lines p false f e r k = tt
on_stands X s s2 lines p true f e r k =
    let more = (r.0 refl).more in
    let declared : 0 < (face_standing lines).patch.declared = subst (λ (w : FaceStanding). 0 < w.patch.declared) (sym f.stands) (omega (arith, more)) in
    record { solid = f.solid; picture = e ∙ f.picture; stands = standing_on lines p declared ∙ ap (λ w. with_on w p) f.stands ∙ sym k }

pub off_stands : (X : Picture) (s s2 : PlaneState) (lines : List Line) (p : Point) (why : Refutation) (b : Bool) → StandsFor X s lines → s2.picture ≡ s.picture
    → (IsTrue b ↔ IsOffLine s.picture s.standing p why) → OnTrue b (s2.standing ≡ with_off s.standing p)
    → OnTrue b (StandsFor X s2 (lines ++ Line.Off p why ∷ []))
off_stands X s s2 lines p why false f e r k = tt
off_stands X s s2 lines p why true f e r k =
    let h = r.0 refl in
    let l = h.next.touching.near.1.1 in
    let n = h.points in
    let declared : 0 < (face_standing lines).patch.declared = subst (λ (w : FaceStanding). 0 < w.patch.declared) (sym f.stands) (omega (arith, l, n)) in
    record { solid = f.solid; picture = e ∙ f.picture; stands = standing_off lines p why declared ∙ ap (λ w. with_off w p) f.stands ∙ sym k }

-- ---- how many lines are left

one_more_times : (a m : ℕ) → (a + 1) * m ≡ a * m + m
one_more_times a m = ap (λ k. k * m) (let q : a + 1 ≡ suc a = omega arith in q) ∙ suc-mul a m

-- a choice between a number and none is at most the number
choice_most : (b : Bool) (n : ℕ) → (if b then n else 0) ≤ n
choice_most true n = omega arith
choice_most false n = omega arith

-- the lines that are left of a face that begins now are fewer than those that are counted for it
face_fits : (n left : ℕ) → left ≤ n → left * (n + 2) + (1 + n) < (n + 1) * (n + 2)
face_fits n left l = omega (arith, mul-le left (n + 2) n (n + 2) l (omega arith), one_more_times n (n + 2))

pub face_less : (s s2 : PlaneState) (t : ℕ) (sense : Sense) (n : ℕ) (b : Bool) → s2.picture ≡ s.picture → (IsTrue b ↔ IsFaceHead s.picture s.standing t sense n)
    → OnTrue b (s2.standing ≡ with_face s.standing) → OnTrue b (room_of s2 < room_of s)
face_less s s2 t sense n false e r k = tt
face_less s s2 t sense n true e r k =
    let more = (r.0 refl).more in
    let count = box_count s.picture.sides in
    let begun = s.standing.begun in
    let each = (count + 1) * (count + 2) in
    let exposed = length (exposed_at s.picture (begun + 1 - 1)) in
    let few = few_exposed s.picture (begun + 1 - 1) in
    let fits = face_fits count (exposed - 0) (omega arith) in
    let one : (6 - begun) * each ≡ (6 - (begun + 1)) * each + each = ap (λ m. m * each) (let q : 6 - begun ≡ 6 - (begun + 1) + 1 = omega arith in q)
    ∙ one_more_times (6 - (begun + 1)) each in
    rw (e, k) (omega (arith, fits, one))

pub patch_less : (s s2 : PlaneState) (n : ℕ) (a : List ℤ) (mu : ℤ) (b : Bool) → s2.picture ≡ s.picture
    → (IsTrue b ↔ IsPatchHead s.picture s.standing n (record { a = a; mu = mu })) → OnTrue b (s2.standing ≡ with_patch s.standing n (record { a = a; mu = mu }))
    → OnTrue b (room_of s2 < room_of s)
patch_less s s2 n a mu false e r k = tt
patch_less s s2 n a mu true e r k =
    let h = r.0 refl in
    let some = h.some in
    let count = box_count s.picture.sides in
    let now : (if 0 == n then 1 + (count - 0) else 0) ≡ 0 = cond-false (0 == n) (1 + (count - 0)) 0 (ne_eqb 0 n (λ q. omega arith)) in
    let before = cond-true (length s.standing.patch.points == s.standing.patch.declared) (1 + (count - length s.standing.patch.refused)) 0
    (eq-eqb (length s.standing.patch.points) s.standing.patch.declared h.full.points) in
    rw (e, k) (omega (arith, now, before))

pub on_less : (s s2 : PlaneState) (p : Point) (b : Bool) → s2.picture ≡ s.picture
    → OnTrue b (length s.standing.taken < length (open_exposed s.picture s.standing)) → OnTrue b (s2.standing ≡ with_on s.standing p)
    → OnTrue b (room_of s2 < room_of s)
on_less s s2 p false e l k = tt
on_less s s2 p true e l k =
    let count = box_count s.picture.sides in
    let exposed = length (open_exposed s.picture s.standing) in
    let taken = length s.standing.taken in
    let more : length (s.standing.taken ++ p ∷ []) ≡ taken + 1 = length-append s.standing.taken (p ∷ []) in
    let most = choice_most (length (s.standing.patch.points ++ p ∷ []) == s.standing.patch.declared) (1 + (count - length s.standing.patch.refused)) in
    let one : (exposed - taken) * (count + 2) ≡ (exposed - (taken + 1)) * (count + 2) + (count + 2) =
    ap (λ m. m * (count + 2)) (let q : exposed - taken ≡ exposed - (taken + 1) + 1 = omega arith in q)
    ∙ one_more_times (exposed - (taken + 1)) (count + 2) in
    let same : (exposed - length (s.standing.taken ++ p ∷ [])) * (count + 2) ≡ (exposed - (taken + 1)) * (count + 2) =
    ap (λ m. (exposed - m) * (count + 2)) more in
    rw (e, k) (omega (arith, most, one, same))

pub off_less : (s s2 : PlaneState) (p : Point) (why : Refutation) (b : Bool) → s2.picture ≡ s.picture → (IsTrue b ↔ IsOffLine s.picture s.standing p why)
    → OnTrue b (length s.standing.patch.refused < box_count s.picture.sides) → OnTrue b (s2.standing ≡ with_off s.standing p)
    → OnTrue b (room_of s2 < room_of s)
off_less s s2 p why false e r l k = tt
off_less s s2 p why true e r l k =
    let all = eq-eqb (length s.standing.patch.points) s.standing.patch.declared (r.0 refl).points in
    let count = box_count s.picture.sides in
    let more : length (s.standing.patch.refused ++ p ∷ []) ≡ length s.standing.patch.refused + 1 = length-append s.standing.patch.refused (p ∷ []) in
    let now = cond-true (length s.standing.patch.points == s.standing.patch.declared) (1 + (count - length (s.standing.patch.refused ++ p ∷ []))) 0 all in
    let before = cond-true (length s.standing.patch.points == s.standing.patch.declared) (1 + (count - length s.standing.patch.refused)) 0 all in
    rw (e, k) (omega (arith, now, before, more))

-- all lines are few
pub few_lines : (X : Picture) → box_count X.sides ≤ most_points
    → 6 * ((box_count X.sides + 1) * (box_count X.sides + 2)) + ((length (exposed_at X 0) - 0) * (box_count X.sides + 2) + (1 + (box_count X.sides - 0))) < 7
    * ((most_points + 1) * (most_points + 2))
few_lines X few =
    let count = box_count X.sides in
    let fits = face_fits count (length (exposed_at X 0) - 0) (let f = few_exposed X 0 in omega arith) in
    let each = mul-le (count + 1) (count + 2) (most_points + 1) (most_points + 2) (omega arith) (omega arith) in
    omega (arith, fits, each)
