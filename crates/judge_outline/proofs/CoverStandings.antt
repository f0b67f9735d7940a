-- What a judge finds of a line, as the claim of the line after those that the judge stands for.
-- Laws over pictures, lines and what a judge is seen as.
use Rattle.std.proofs.Common.{◌≡◌, ℕ, ◌+◌, ◌-◌, ◌*◌, ◌<◌, ◌≤◌, Bool, true, false, List, [], ◌∷◌, ◌++◌, length, drop, refl, ap, sym, ◌∙◌, subst, arith}
use Rattle.std.proofs.lemmas.Bool.{eqb-true}
use Rattle.std.proofs.lemmas.Bool.Decides.{nat_tests}
use Rattle.std.specs.Prelude.{ℤ, nat_eq, ◌↔◌, IsTrue, Some, slice_get, slice_index_or}
use Rattle.std.specs.Bool.{OnTrue}
use Rattle.std.proofs.lemmas.Option.{get_or_from_slice_get, slice_get_within}
use Rattle.shape_terms.specs.Points.{Point}
use Rattle.shape_terms.specs.Pictures.{Picture}
use Rattle.shape_terms.specs.Contours.{Crack}
use Rattle.shape_terms.specs.Naive.{Naive}
use Rattle.shape_terms.specs.Covers.{Evidence}
use Rattle.shape_terms.specs.Least.{Pairs}
use Rattle.std.proofs.lemmas.List.{length-append}
use Rattle.shape_terms.specs.Traces.{Contour, AreContours, points_in}
use Rattle.report_terms.specs.Lines.{Line}
use Rattle.report_terms.specs.ContourLines.{Standing, standing, no_contour, open_contour, IsFull, IsContourHead, IsNextPoint, IsNextSegment, IsNextLeast}
use Rattle.report_terms.specs.ContourLines.{IsNextGap, OutlineClaim}
use Rattle.report_terms.specs.Sections.{FlatClaim, AllContours}
use Rattle.report_terms.proofs.ContourGroups.{declared_begun, standing_begun, standing_point, standing_segment, standing_least, standing_gap}
use Rattle.shape_terms.proofs.ContourLists.{contours_same}
use Rattle.shape_terms.proofs.ContourRoom.{points_from}
use Rattle.judge_outline.specs.CoverState.{CoverState, StandsFor, IsTaken, LastIsTaken, owed, room_of, with_contour, with_point, with_segment, with_least}
use Rattle.judge_outline.specs.CoverState.{with_gap}

-- a line is good where its claim is true of the judge's contours
pub claim_test : (X : Picture) (s : CoverState) (lines : List Line) (l : Line) (b : Bool) → StandsFor X s lines
    → (IsTrue b ↔ OutlineClaim s.number s.contours s.standing l) → (IsTrue b ↔ FlatClaim s.number X lines l)
claim_test X s lines l b f r = (
  λ t. (f.flat, (s.contours, f.are, subst (λ w. OutlineClaim s.number s.contours w l) (sym f.stands) (r.0 t))),
  λ (flat, (contours, are, claim)).
      let mine = subst (λ cs. OutlineClaim s.number cs (standing lines) l) (contours_same X contours s.contours are f.are) claim in
      r.1 (subst (λ w. OutlineClaim s.number s.contours w l) f.stands mine),
)

-- and all lines stand there where the judge went through its contours
pub done_test : (X : Picture) (s : CoverState) (lines : List Line) (b : Bool) → StandsFor X s lines
    → (IsTrue b ↔ (IsFull s.contours s.standing × (s.standing.begun ≡ length s.contours))) → (IsTrue b ↔ AllContours X lines)
done_test X s lines b f r = (
  λ t.
      let h = r.0 t in
      record {
        flat = λ flat. (s.contours, f.are, subst (IsFull s.contours) (sym f.stands) h.0, ap (λ (w : Standing). w.begun) f.stands ∙ h.1);
        other = λ other. absurd (other f.flat);
      },
  λ c. let all = c.flat f.flat in back all.0 all.1 all.2 all.3,
)
  where
    back : (contours : List Contour) → AreContours X contours → IsFull contours (standing lines) → (standing lines).begun ≡ length contours → IsTrue b
    back contours are full all =
        let same = contours_same X contours s.contours are f.are in
        let mine = subst (λ cs. IsFull cs (standing lines)) same full in
        r.1 (subst (IsFull s.contours) f.stands mine, ap (λ (w : Standing). w.begun) (sym f.stands) ∙ all ∙ ap length same)

-- one contour more
pub begun_stands : (X : Picture) (s s2 : CoverState) (lines : List Line) (p : Point) (side n m : ℕ) (b : Bool) → StandsFor X s lines → s2.contours ≡ s.contours
    → OnTrue b (s2.standing ≡ with_contour s.standing m) → OnTrue b (StandsFor X s2 (lines ++ Line.Contour p side n m ∷ []))
begun_stands X s s2 lines p side n m false f e k = tt
begun_stands X s s2 lines p side n m true f e k = record {
  flat = f.flat;
  are = subst (AreContours X) (sym e) f.are;
  stands = standing_begun lines p side n m ∙ ap (λ (w : Standing). with_contour w m) f.stands ∙ sym k;
}

-- one point more
pub point_stands : (X : Picture) (s s2 : CoverState) (lines : List Line) (p : Point) (b : Bool) → StandsFor X s lines → s2.contours ≡ s.contours
    → (IsTrue b ↔ IsNextPoint s.contours s.standing p) → OnTrue b (s2.standing ≡ with_point s.standing) → OnTrue b (StandsFor X s2 (lines ++ Line.At p ∷ []))
point_stands X s s2 lines p false f e r k = tt
point_stands X s s2 lines p true f e r k =
    let some : 0 < (standing lines).begun = subst (λ (w : Standing). 0 < w.begun) (sym f.stands) (r.0 refl).some in
    record {
      flat = f.flat;
      are = subst (AreContours X) (sym e) f.are;
      stands = standing_point lines p some ∙ ap with_point f.stands ∙ sym k;
    }

-- one segment more
pub segment_stands : (X : Picture) (s s2 : CoverState) (lines : List Line) (first last t : ℕ) (row : List ℤ) (mu : ℤ) (b : Bool) → StandsFor X s lines
    → s2.contours ≡ s.contours → (IsTrue b ↔ IsNextSegment s.number s.contours s.standing first last t (record { a = row; mu = mu }))
    → OnTrue b (s2.standing ≡ with_segment s.standing
    (record { stretch = record { first = first; last = last }; axis = t; line = record { a = row; mu = mu } }))
    → OnTrue b (StandsFor X s2 (lines ++ Line.Seg first last t row mu ∷ []))
segment_stands X s s2 lines first last t row mu false f e r k = tt
segment_stands X s s2 lines first last t row mu true f e r k =
    let more = (r.0 refl).more in
    let declared : 0 < (standing lines).declared = subst (λ (w : Standing). 0 < w.declared) (sym f.stands) (omega (arith, more)) in
    record {
      flat = f.flat;
      are = subst (AreContours X) (sym e) f.are;
      stands = standing_segment lines first last t row mu (declared_begun lines declared)
          ∙ ap (λ (w : Standing). with_segment w (record { stretch = record { first = first; last = last }; axis = t; line = record { a = row; mu = mu } }))
          f.stands ∙ sym k;
    }

-- one `least` line more
pub least_stands : (X : Picture) (s s2 : CoverState) (lines : List Line) (p : Pairs) (b : Bool) → StandsFor X s lines
    → LastIsTaken s.contours s.standing s.standing.last → s2.contours ≡ s.contours → (IsTrue b ↔ IsNextLeast s.number s.contours s.standing p)
    → OnTrue b (s2.standing ≡ with_least s.standing) → OnTrue b (StandsFor X s2 (lines ++ Line.Least p ∷ []))
least_stands X s s2 lines p false f w e r k = tt
least_stands X s s2 lines p true f w e r k =
    let h = r.0 refl in
    let taken : IsTaken s.contours s.standing h.segment = subst (LastIsTaken s.contours s.standing) h.before w in
    let begun : 0 < (standing lines).begun = subst (λ (w : Standing). 0 < w.begun) (sym f.stands) taken.begun in
    record {
      flat = f.flat;
      are = subst (AreContours X) (sym e) f.are;
      stands = standing_least lines p begun ∙ ap with_least f.stands ∙ sym k;
    }

-- one gap line more
gap_begun : (X : Picture) (s : CoverState) (lines : List Line) (t : ℕ) (v : Evidence) → StandsFor X s lines → IsNextGap s.number s.contours s.standing t v
    → 0 < (standing lines).begun
gap_begun X s lines t v f g =
    let more = g.more in
    declared_begun lines (subst (λ (w : Standing). 0 < w.declared) (sym f.stands) (omega (arith, more)))

pub gap_stands : (X : Picture) (s s2 : CoverState) (lines : List Line) (t : ℕ) (v : Evidence) (b : Bool) → StandsFor X s lines → s2.contours ≡ s.contours
    → (IsTrue b ↔ IsNextGap s.number s.contours s.standing t v) → OnTrue b (s2.standing ≡ with_gap s.standing)
    → OnTrue b (StandsFor X s2 (lines ++ Line.Gap t v ∷ []))
gap_stands X s s2 lines t v false f e r k = tt
gap_stands X s s2 lines t v true f e r k = record {
  flat = f.flat;
  are = subst (AreContours X) (sym e) f.are;
  stands = standing_gap lines t v (gap_begun X s lines t v f (r.0 refl)) ∙ ap with_gap f.stands ∙ sym k;
}

-- all contours were begun, and b says whether the last has all its lines
pub done_all : (X : Picture) (s : CoverState) (lines : List Line) (begun n : ℕ) (b : Bool) → StandsFor X s lines → begun ≡ s.standing.begun
    → n ≡ length s.contours → begun ≡ n → (IsTrue b ↔ IsFull s.contours s.standing) → (IsTrue b ↔ AllContours X lines)
done_all X s lines begun n b f here len e r = done_test X s lines b f (λ t. (r.0 t, sym here ∙ e ∙ len), λ h. r.1 h.0)

-- some contour is to come
pub done_short : (X : Picture) (s : CoverState) (lines : List Line) (begun n : ℕ) → StandsFor X s lines → begun ≡ s.standing.begun → n ≡ length s.contours
    → (begun ≡ n → ⊥) → (IsTrue (nat_eq begun n) ↔ AllContours X lines)
done_short X s lines begun n f here len other =
    done_test X s lines (nat_eq begun n) f (
      λ t. absurd (other (eqb-true begun n t)),
      λ h. ap (nat_eq begun) (sym (here ∙ h.1 ∙ sym len)) ∙ nat_eq_self begun,
    )
  where
    nat_eq_self : (k : ℕ) → nat_eq k k ≡ true
    nat_eq_self k = grind (arith, nat_tests)

-- ---- how many lines are left

-- the next contour is one of those to come no more
less_to_come : (contours : List Contour) (n m : ℕ) (k : Contour) (left : ℕ) → slice_get contours n ≡ Some k → m ≤ length k.points
    → (length k.points - 0) + 2 * (m - 0) + 0 + (2 * m - 0) + (length contours - (n + 1)) + 5 * points_in (drop (n + 1) contours) < left + (length contours - n)
    + 5 * points_in (drop n contours)
less_to_come contours n m k left e few =
    let l = slice_get_within contours n k e in
    let s = points_from contours n k e in
    omega (arith, l, s, few)

pub begun_room : (s s2 : CoverState) (c : Crack) (n m : ℕ) (b : Bool) → s2.contours ≡ s.contours → (IsTrue b ↔ IsContourHead s.contours s.standing c n m)
    → OnTrue b (s2.standing ≡ with_contour s.standing m) → OnTrue b (room_of s2 < room_of s)
begun_room s s2 c n m false e r k = tt
begun_room s s2 c n m true e r k =
    let h = r.0 refl in
    let i = s.standing.begun in
    let j : i + 1 - 1 ≡ i = omega arith in
    let few : m ≤ length h.points = omega (arith, h.segments.1, h.count) in
    let next : open_contour s.contours (with_contour s.standing m) ≡ record { start = c; points = h.points } = ap (λ q. slice_index_or s.contours q no_contour)
    j ∙ get_or_from_slice_get s.contours i (record { start = c; points = h.points }) no_contour h.next in
    rw (e, k, next) (less_to_come s.contours i m (record { start = c; points = h.points })
    ((length (open_contour s.contours s.standing).points - s.standing.points) + 2 * (s.standing.declared - length s.standing.stretches)
    + owed s.standing.last + (2 * s.standing.declared - s.standing.gaps)) h.next few)

pub point_room : (s s2 : CoverState) (p : Point) (b : Bool) → s2.contours ≡ s.contours → (IsTrue b ↔ IsNextPoint s.contours s.standing p)
    → OnTrue b (s2.standing ≡ with_point s.standing) → OnTrue b (room_of s2 < room_of s)
point_room s s2 p false e r k = tt
point_room s s2 p true e r k =
    let h = r.0 refl in
    let l = slice_get_within (open_contour s.contours s.standing).points s.standing.points p h.next in
    rw (e, k) (omega (arith, l))

pub segment_room : (s s2 : CoverState) (first last t : ℕ) (line : Naive) (b : Bool) → s2.contours ≡ s.contours
    → (IsTrue b ↔ IsNextSegment s.number s.contours s.standing first last t line)
    → OnTrue b (s2.standing ≡ with_segment s.standing (record { stretch = record { first = first; last = last }; axis = t; line = line }))
    → OnTrue b (room_of s2 < room_of s)
segment_room s s2 first last t line false e r k = tt
segment_room s s2 first last t line true e r k =
    let more = (r.0 refl).more in
    rw (e, k) (omega (arith, more, length-append s.standing.stretches (record { first = first; last = last } ∷ [])))

pub least_room : (s s2 : CoverState) (p : Pairs) (b : Bool) → s2.contours ≡ s.contours → (IsTrue b ↔ IsNextLeast s.number s.contours s.standing p)
    → OnTrue b (s2.standing ≡ with_least s.standing) → OnTrue b (room_of s2 < room_of s)
least_room s s2 p false e r k = tt
least_room s s2 p true e r k =
    let one : owed s.standing.last ≡ 1 = ap owed (r.0 refl).before in
    rw (e, k) (omega (arith, one))

pub gap_room : (s s2 : CoverState) (t : ℕ) (v : Evidence) (b : Bool) → s2.contours ≡ s.contours → (IsTrue b ↔ IsNextGap s.number s.contours s.standing t v)
    → OnTrue b (s2.standing ≡ with_gap s.standing) → OnTrue b (room_of s2 < room_of s)
gap_room s s2 t v false e r k = tt
gap_room s s2 t v true e r k =
    let more = (r.0 refl).more in
    rw (e, k) (omega (arith, more))

-- ---- the contour that begins

-- it has no fewer points than segments
pub head_within : (mine contours : List Contour) (begun : ℕ) (s : Standing) (c : Crack) (n m : ℕ) (k : Contour) → mine ≡ contours → begun ≡ s.begun
    → slice_get mine begun ≡ Some k → IsContourHead contours s c n m → m ≤ length k.points
head_within mine contours begun s c n m k e b g h =
    let same : Some k ≡ Some (record { start = c; points = h.points }) = sym g ∙ (λ i. slice_get (e i) (b i)) ∙ h.next in
    let is : k ≡ record { start = c; points = h.points } = cc in
    omega (arith, h.segments.1, h.count, ap (λ (k : Contour). length k.points) is)

-- it is the one that was begun last then
pub head_open : (contours : List Contour) (begun : ℕ) (k : Contour) → slice_get contours begun ≡ Some k → slice_index_or contours (begun + 1 - 1) no_contour ≡ k
head_open contours begun k e = let b : begun + 1 - 1 ≡ begun = omega arith in rw b (get_or_from_slice_get contours begun k no_contour e)
