-- The groups of lines of contours, when one more line comes: it begins a group, or belongs to the last.
-- Laws of lists of lines; which contours a picture has does not matter here.
use Rattle.std.proofs.Common.{◌≡◌, ℕ, ◌+◌, ◌-◌, ◌<◌, Bool, true, false, List, [], ◌∷◌, ◌++◌, length, refl, ap, sym, ◌∙◌, arith, inl, inr}
use Rattle.std.specs.Prelude.{ℤ, not, filter_map, take_while, slice_index_or, Some, None}
use Rattle.shape_terms.specs.Least.{Pairs}
use Rattle.std.proofs.lemmas.Bool.{cond-true, cond-false, cases_Bool, cases_lt}
use Rattle.std.proofs.lemmas.List.{length-append, map-append, nil_from_length}
use Rattle.std.proofs.lemmas.List.Sums.{take_while-cons}
use Rattle.std.proofs.Math.Seq.{get_or-append_seam}
use Rattle.shape_terms.specs.Points.{Point}
use Rattle.report_terms.specs.Lines.{Line}
use Rattle.shape_terms.specs.Covers.{Evidence}
use Rattle.report_terms.specs.ContourFacts.{Segment, stretches_of, GapFact, kind_of}
use Rattle.report_terms.specs.ContourLines.{groups, is_contour, contour_groups, open_group, point_of, segment_of, gap_of, declared_of, last_segment, standing}
use Rattle.report_terms.specs.ContourLines.{standing_with}
use Rattle.text_terms.proofs.ListPushes.{filter_map-same, filter_map-push, with_last}

module _ (test : Line → Bool) where
  rest : List Line → List Line
  rest lines = take_while (λ x. not (test x)) lines

  begins : (x : Line) (lines : List Line) → test x ≡ true → groups test (x ∷ lines) ≡ (x ∷ rest lines) ∷ groups test lines
  unfolding rest
  begins x lines t = cond-true (test x) ((x ∷ take_while (λ x. not (test x)) lines) ∷ groups test lines) (groups test lines) t

  passes : (x : Line) (lines : List Line) → test x ≡ false → groups test (x ∷ lines) ≡ groups test lines
  passes x lines t = cond-false (test x) ((x ∷ take_while (λ x. not (test x)) lines) ∷ groups test lines) (groups test lines) t

  rest-stops : (x : Line) (lines : List Line) → test x ≡ true → rest (x ∷ lines) ≡ []
  unfolding rest
  rest-stops x lines t = take_while-cons (λ x. not (test x)) x lines ∙ cond-false (not (test x)) (x ∷ take_while (λ x. not (test x)) lines) [] (ap not t)

  rest-goes : (x : Line) (lines : List Line) → test x ≡ false → rest (x ∷ lines) ≡ x ∷ rest lines
  unfolding rest
  rest-goes x lines t = take_while-cons (λ x. not (test x)) x lines ∙ cond-true (not (test x)) (x ∷ take_while (λ x. not (test x)) lines) [] (ap not t)

  -- a line that begins a group ends the one before
  rest_begun : (lines : List Line) (l : Line) → test l ≡ true → rest (lines ++ l ∷ []) ≡ rest lines
  unfolding rest
  rest_begun [] l t = rest-stops l [] t
  rest_begun (x ∷ lines) l t = elim (cases_Bool (test x)) [
    | inl y ↦ rest-stops x (lines ++ l ∷ []) y ∙ sym (rest-stops x lines y)
    | inr n ↦ rest-goes x (lines ++ l ∷ []) n ∙ ap (λ r. x ∷ r) (rest_begun lines l t) ∙ sym (rest-goes x lines n)
  ]

  pub group_begun : (lines : List Line) (l : Line) → test l ≡ true → groups test (lines ++ l ∷ []) ≡ groups test lines ++ (l ∷ []) ∷ []
  unfolding rest
  group_begun [] l t = begins l [] t
  group_begun (x ∷ lines) l t = elim (cases_Bool (test x)) [
    | inl y ↦
        let h = rest_begun lines l t in
        let r = group_begun lines l t in
        begins x (lines ++ l ∷ []) y ∙ (λ i. (x ∷ h i) ∷ r i) ∙ ap (λ g. g ++ (l ∷ []) ∷ []) (sym (begins x lines y))
    | inr n ↦ passes x (lines ++ l ∷ []) n ∙ group_begun lines l t ∙ ap (λ g. g ++ (l ∷ []) ∷ []) (sym (passes x lines n))
  ]

  -- where no group begins, all lines belong to the one before
  rest_none : (lines : List Line) (l : Line) → test l ≡ false → groups test lines ≡ []
      → (groups test (lines ++ l ∷ []) ≡ []) × (rest (lines ++ l ∷ []) ≡ rest lines ++ l ∷ [])
  unfolding rest
  rest_none [] l t e = (passes l [] t, rest-goes l [] t)
  rest_none (x ∷ lines) l t e = elim (cases_Bool (test x)) [
    | inl y ↦ absurd (let f = sym (begins x lines y) ∙ e in cc)
    | inr n ↦
        let r = rest_none lines l t (sym (passes x lines n) ∙ e) in
        (passes x (lines ++ l ∷ []) n ∙ r.0, rest-goes x (lines ++ l ∷ []) n ∙ ap (λ s. x ∷ s) r.1 ∙ ap (λ s. s ++ l ∷ []) (sym (rest-goes x lines n)))
  ]

  -- and where one begins, what comes later does not belong to the one before
  rest_some : (lines more : List Line) (front : List (List Line)) (g : List Line) → groups test lines ≡ front ++ g ∷ [] → rest (lines ++ more) ≡ rest lines
  unfolding rest
  rest_some [] more [] g e = cc
  rest_some [] more (f ∷ front) g e = cc
  rest_some (x ∷ lines) more front g e = elim (cases_Bool (test x)) [
    | inl y ↦ rest-stops x (lines ++ more) y ∙ sym (rest-stops x lines y)
    | inr n ↦ rest-goes x (lines ++ more) n ∙ ap (λ r. x ∷ r) (rest_some lines more front g (sym (passes x lines n) ∙ e)) ∙ sym (rest-goes x lines n)
  ]

  -- the same behind a line that begins a group, where it is known of the lines behind
  more_behind : (x : Line) (lines : List Line) (l : Line) (front : List (List Line)) (g : List Line) → test l ≡ false → test x ≡ true
      → ((f : List (List Line)) → groups test lines ≡ f ++ g ∷ [] → groups test (lines ++ l ∷ []) ≡ f ++ (g ++ l ∷ []) ∷ [])
      → (x ∷ rest lines) ∷ groups test lines ≡ front ++ g ∷ [] → groups test (x ∷ (lines ++ l ∷ [])) ≡ front ++ (g ++ l ∷ []) ∷ []
  unfolding rest
  more_behind x lines l [] g t y h e =
      let a : x ∷ rest lines ≡ g = cc in
      let b : groups test lines ≡ [] = cc in
      let r = rest_none lines l t b in
      begins x (lines ++ l ∷ []) y ∙ (λ i. (x ∷ r.1 i) ∷ r.0 i) ∙ ap (λ s. (s ++ l ∷ []) ∷ []) a
  more_behind x lines l (f ∷ front) g t y h e =
      let a : x ∷ rest lines ≡ f = cc in
      let b : groups test lines ≡ front ++ g ∷ [] = cc in
      let r = rest_some lines (l ∷ []) front g b in
      let s = h front b in
      begins x (lines ++ l ∷ []) y ∙ (λ i. (x ∷ r i) ∷ s i) ∙ ap (λ h. h ∷ (front ++ (g ++ l ∷ []) ∷ [])) a

  -- any other line belongs to the last group
  pub group_more : (lines : List Line) (l : Line) (front : List (List Line)) (g : List Line) → test l ≡ false → groups test lines ≡ front ++ g ∷ []
      → groups test (lines ++ l ∷ []) ≡ front ++ (g ++ l ∷ []) ∷ []
  group_more [] l [] g t e = cc
  group_more [] l (f ∷ front) g t e = cc
  group_more (x ∷ lines) l front g t e = elim (cases_Bool (test x)) [
    | inl y ↦ more_behind x lines l front g t y (λ f b. group_more lines l f g t b) (sym (begins x lines y) ∙ e)
    | inr n ↦ passes x (lines ++ l ∷ []) n ∙ group_more lines l front g t (sym (passes x lines n) ∙ e)
  ]

-- ---- where the lines stand

-- the group that was begun last
pub open_is : (lines : List Line) (front : List (List Line)) (g : List Line) → contour_groups lines ≡ front ++ g ∷ [] → open_group lines ≡ g
open_is lines front g e =
    let n : length (front ++ g ∷ []) - 1 ≡ length front = omega (arith, length-append front (g ∷ [])) in
    rw e (ap (λ k. slice_index_or (front ++ g ∷ []) k []) n ∙ get_or-append_seam front g [] [])

-- where segments are declared, a contour was begun
pub declared_begun : (lines : List Line) → 0 < (standing lines).declared → 0 < (standing lines).begun
declared_begun lines h = elim (cases_lt 0 (length (contour_groups lines))) [
  | inr e ↦ absurd (let g : open_group lines ≡ [] = (let n = nil_from_length (contour_groups lines) (omega arith) in rw n refl) in
      let d : declared_of (open_group lines) ≡ 0 = ap declared_of g in omega arith)
  | inl p ↦ p
]

-- a `contour` line begins the next contour
pub standing_begun : (lines : List Line) (p : Point) (side n m : ℕ)
    → standing (lines ++ Line.Contour p side n m ∷ [])
    ≡ record { begun = (standing lines).begun + 1; points = 0; declared = m; stretches = []; last = None; gaps = 0 }
standing_begun lines p side n m =
    let l = Line.Contour p side n m in
    let e = group_begun is_contour lines l refl in
    let a : length (contour_groups (lines ++ l ∷ [])) ≡ length (contour_groups lines) + 1 = ap length e
    ∙ length-append (contour_groups lines) ((l ∷ []) ∷ []) in
    let b : open_group (lines ++ l ∷ []) ≡ l ∷ [] = open_is (lines ++ l ∷ []) (contour_groups lines) (l ∷ []) e in
    λ i. standing_with (a i) (b i)

-- the number of segments that a group's first line gives stays as it is
pub declared_stays : (g : List Line) (l : Line) → declared_of (l ∷ []) ≡ 0 → declared_of (g ++ l ∷ []) ≡ declared_of g
declared_stays [] l h = h
declared_stays (Line.Contour p s n m ∷ g) l h = refl
declared_stays (x ∷ g) l h = refl

-- the last line gives its segment
pub last_push : (g : List Line) (l : Line) → last_segment (g ++ l ∷ []) ≡ segment_of l
last_push [] l = refl
last_push (x ∷ []) l = refl
last_push (x ∷ y ∷ g) l = last_push (y ∷ g) l

-- any other line belongs to the contour that was begun last
grown : (lines : List Line) (l : Line) → is_contour l ≡ false → 0 < (standing lines).begun
    → standing (lines ++ l ∷ []) ≡ standing_with (standing lines).begun (open_group lines ++ l ∷ [])
grown lines l t h =
    let r = with_last (contour_groups lines) h in
    let e = group_more is_contour lines l r.0 r.1 t r.2 in
    let a : length (contour_groups (lines ++ l ∷ [])) ≡ length (contour_groups lines) = ap length e ∙ length-append r.0 ((r.1 ++ l ∷ []) ∷ [])
    ∙ sym (ap length r.2 ∙ length-append r.0 (r.1 ∷ [])) in
    let b : open_group (lines ++ l ∷ []) ≡ open_group lines ++ l ∷ [] = open_is (lines ++ l ∷ []) r.0 (r.1 ++ l ∷ []) e
    ∙ ap (λ g. g ++ l ∷ []) (sym (open_is lines r.0 r.1 r.2)) in
    λ i. standing_with (a i) (b i)

-- an `at` line gives one more point
pub standing_point : (lines : List Line) (p : Point) → 0 < (standing lines).begun
    → standing (lines ++ Line.At p ∷ []) ≡ record (standing lines) { points = (standing lines).points + 1; last = None }
standing_point lines p h =
    let l = Line.At p in
    let g = open_group lines in
    let a : length (filter_map point_of (g ++ l ∷ [])) ≡ length (filter_map point_of g) + 1 = ap length (filter_map-push point_of g l p refl)
    ∙ length-append (filter_map point_of g) (p ∷ []) in
    let d = declared_stays g l refl in
    let b = filter_map-same segment_of g l refl in
    let c = filter_map-same gap_of g l refl in
    let o = last_push g l in
    grown lines l refl h ∙
    (λ i. record { begun = (standing lines).begun; points = a i; declared = d i; stretches = stretches_of (b i); last = o i; gaps = length (c i) })

-- a `seg` line gives one more segment
pub standing_segment : (lines : List Line) (b e t : ℕ) (row : List ℤ) (mu : ℤ) → 0 < (standing lines).begun
    → standing (lines ++ Line.Seg b e t row mu ∷ []) ≡ record (standing lines) {
      stretches = (standing lines).stretches ++ record { first = b; last = e } ∷ [];
      last =
          Some (record { stretch = record { first = b; last = e }; axis = t; line = record { a = row; mu = mu } });
    }
standing_segment lines b e t row mu h =
    let l = Line.Seg b e t row mu in
    let g = open_group lines in
    let s : Segment = record { stretch = record { first = b; last = e }; axis = t; line = record { a = row; mu = mu } } in
    let a = filter_map-same point_of g l refl in
    let d = declared_stays g l refl in
    let c : stretches_of (filter_map segment_of (g ++ l ∷ [])) ≡ stretches_of (filter_map segment_of g) ++ s.stretch ∷ [] =
    ap stretches_of (filter_map-push segment_of g l s refl) ∙ map-append (λ (x : Segment). x.stretch) (filter_map segment_of g) (s ∷ []) in
    let f = filter_map-same gap_of g l refl in
    let o = last_push g l in
    grown lines l refl h ∙
    (λ i. record { begun = (standing lines).begun; points = length (a i); declared = d i; stretches = c i; last = o i; gaps = length (f i) })

-- a `least` line gives none of these
pub standing_least : (lines : List Line) (pairs : Pairs) → 0 < (standing lines).begun
    → standing (lines ++ Line.Least pairs ∷ []) ≡ record (standing lines) { last = None }
standing_least lines pairs h =
    let l = Line.Least pairs in
    let g = open_group lines in
    let a = filter_map-same point_of g l refl in
    let d = declared_stays g l refl in
    let b = filter_map-same segment_of g l refl in
    let c = filter_map-same gap_of g l refl in
    let o = last_push g l in
    grown lines l refl h ∙
    (λ i. record { begun = (standing lines).begun; points = length (a i); declared = d i; stretches = stretches_of (b i); last = o i; gaps = length (c i) })

-- a gap line gives one more refusal
pub standing_gap : (lines : List Line) (t : ℕ) (evidence : Evidence) → 0 < (standing lines).begun
    → standing (lines ++ Line.Gap t evidence ∷ []) ≡ record (standing lines) { last = None; gaps = (standing lines).gaps + 1 }
standing_gap lines t evidence h =
    let l = Line.Gap t evidence in
    let f : GapFact = record { axis = t; kind = kind_of evidence } in
    let g = open_group lines in
    let a = filter_map-same point_of g l refl in
    let d = declared_stays g l refl in
    let b = filter_map-same segment_of g l refl in
    let c : length (filter_map gap_of (g ++ l ∷ [])) ≡ length (filter_map gap_of g) + 1 = ap length (filter_map-push gap_of g l f refl)
    ∙ length-append (filter_map gap_of g) (f ∷ []) in
    let o = last_push g l in
    grown lines l refl h ∙
    (λ i. record { begun = (standing lines).begun; points = length (a i); declared = d i; stretches = stretches_of (b i); last = o i; gaps = c i })
