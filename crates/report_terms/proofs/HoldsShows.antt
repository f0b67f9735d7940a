-- A report that holds shows what it says: the claims of its lines, one after another, are facts about the whole picture.
-- One lemma for each section, which speaks of the section's own list of lines.
use Rattle.std.proofs.Common.{◌≡◌, ℕ, zero, suc, ◌<◌, List, [], ◌∷◌, ◌++◌, length, map, take, ap, sym, ◌∙◌, refl, subst, arith, Some, None, false}
use Rattle.std.specs.Prelude.{filter_map, slice_get, All, ◌==◌}
use Rattle.std.specs.List.{cons_option}
use Rattle.std.proofs.lemmas.List.{append-nil}
use Rattle.std.proofs.lemmas.List.Elements.{All-nil, All-cons}
use Rattle.std.proofs.lemmas.Option.{get_or_from_slice_get, slice_get_within}
use Rattle.shape_terms.specs.Points.{Point}
use Rattle.shape_terms.specs.Pictures.{Picture, object_points, Least}
use Rattle.shape_terms.specs.Parts.{Counts}
use Rattle.shape_terms.specs.Distances.{NearFact, IsField}
use Rattle.shape_terms.specs.Thinning.{Rule}
use Rattle.report_terms.specs.Subjects.{Subject}
use Rattle.report_terms.specs.Lines.{Line, text_of, IsLineOf}
use Rattle.report_terms.specs.ThinningLines.{PartsFact, event_of, events_of, kept_fact, kept_facts}
use Rattle.report_terms.specs.Sections.{Section, rank, section_of, lines_of, number_of, CountsClaim, NearClaim, NamesRule, IsComplete, HasCome, GoodSoFar}
use Rattle.report_terms.specs.ContourLines.{ContourClaim}
use Rattle.report_terms.specs.FaceLines.{FaceClaim}
use Rattle.report_terms.specs.Holds.{Holds}
use Rattle.report_terms.specs.Shows.{parts_fact, ShowsParts, near_fact, ThinningShows, BeginsWithHeading, TextShows}
use Rattle.report_terms.proofs.SectionLines.{stood}
use Rattle.report_terms.proofs.ContoursShown.{lines_contours}
use Rattle.report_terms.proofs.FacesShown.{lines_faces}
use Rattle.text_terms.proofs.ListPushes.{get_last, take_front}
use Rattle.report_terms.proofs.ThinningShown.{thinning_shown, left_tells_parts}
use Rattle.report_terms.proofs.HeadingFirst.{heading_first}
use Rattle.report_terms.proofs.SectionLaws.{complete_kept, facts_of_section, claims_of_section}

-- ---- the heading

-- good lines in which the heading names a rule begin with it, and it gives the sides of the picture
lines_begin : (X : Subject) (lines : List Line) (rule : Rule) → GoodSoFar X lines → NamesRule X.shelf (lines_of Section.Heading lines) rule
    → BeginsWithHeading X.picture lines (number_of (lines_of Section.Heading lines))
lines_begin X lines rule good names =
    let h = names.heading in
    let first = heading_first X lines (Line.Shape h) good names.first_is in
    let claim = (good 0 (Line.Shape h) (ap (λ ls. slice_get ls 0) first.1)).claim in
    record {
      heading = h;
      rest = first.0;
      first = first.1;
      sides = claim.1.0;
      number_is = ap number_of (sym names.first_is);
    }

-- ---- counts

-- the counts that a line says
record SaysCounts (X : Picture) (l : Line) : Type 0 where
  fact : PartsFact
  says : parts_fact l ≡ Some fact
  counts : Counts X fact.points fact.object fact.background

says_counts : (X : Picture) (l : Line) → CountsClaim X l → SaysCounts X l
says_counts X (Line.Parts n o b) c = record { fact = record { points = n; object = o; background = b }; says = refl; counts = c }
says_counts X _ c = absurd c

-- other lines say none
no_counts : (l : Line) → (rank (section_of l) == 1) ≡ false → parts_fact l ≡ None
no_counts (Line.Parts n o b) e = cc
no_counts _ e = refl

-- good lines with one line of counts say the counts of the picture once
lines_parts : (X : Subject) (lines : List Line) → GoodSoFar X lines → IsComplete X Section.Heading lines → IsComplete X Section.Counted lines
    → ShowsParts X.picture (filter_map parts_fact lines)
lines_parts X lines good one e =
    subst (ShowsParts X.picture) (sym (facts_of_section Section.Counted parts_fact no_counts lines))
    (shown (lines_of Section.Counted lines) e (λ l h. says_counts X.picture l (claims_of_section X Section.Counted lines (omega arith) good one 0 l h).1))
  where
    shown : (ls : List Line) → length ls ≡ 1 → ((l : Line) → slice_get ls 0 ≡ Some l → SaysCounts X.picture l) → ShowsParts X.picture (filter_map parts_fact ls)
    shown [] e h = absurd (omega arith)
    shown (l ∷ m ∷ ls) e h = absurd (omega arith)
    shown (l ∷ []) e h =
        let s = h l refl in
        record { fact = s.fact; once = ap (λ o. cons_option o []) s.says; counts = s.counts }

-- ---- nearest background points

-- what a line says of the j-th of the points
record SaysNear (X : Picture) (points : List Point) (j : ℕ) (l : Line) : Type 0 where
  fact : NearFact
  says : near_fact l ≡ Some fact
  point : slice_get points j ≡ Some fact.p
  least : Least X fact.p fact.q fact.s

says_near : (X : Picture) (before : List Line) (l : Line) → NearClaim X before l → SaysNear X (object_points X) (length before) l
says_near X before (Line.Near p q s) c = record { fact = record { p = p; q = q; s = s }; says = refl; point = c.0; least = c.1 }
says_near X before _ c = absurd c

-- other lines say nothing of a point
no_near : (l : Line) → (rank (section_of l) == 2) ≡ false → near_fact l ≡ None
no_near (Line.Near p q s) e = cc
no_near _ e = refl

abbrev AreFacts : Picture → List Point → List NearFact → Type 0
AreFacts X points facts = (map (λ f. f.p) facts ≡ points) × All (λ f. Least X f.p f.q f.s) facts

near_facts : (X : Picture) (lines : List Line) (points : List Point) → length lines ≡ length points
    → ((j : ℕ) (l : Line) → slice_get lines j ≡ Some l → SaysNear X points j l) → AreFacts X points (filter_map near_fact lines)
near_facts X [] [] e h = (refl, All-nil (λ f. Least X f.p f.q f.s))
near_facts X [] (p ∷ points) e h = absurd (omega arith)
near_facts X (l ∷ lines) [] e h = absurd (omega arith)
near_facts X (l ∷ lines) (p ∷ points) e h =
    let s = h 0 l refl in
    let same : s.fact.p ≡ p = let k = s.point in cc in
    let rest = near_facts X lines points (omega arith)
    (λ j m k. let n = h (suc j) m k in record { fact = n.fact; says = n.says; point = n.point; least = n.least }) in
    subst (λ o. AreFacts X (p ∷ points) (cons_option o (filter_map near_fact lines))) (sym s.says)
    ((λ i. same i ∷ rest.0 i), All-cons (λ f. Least X f.p f.q f.s) s.fact (filter_map near_fact lines) s.least rest.1)

length_below : (lines : List Line) (j : ℕ) (l : Line) → slice_get lines j ≡ Some l → length (take j lines) ≡ j
length_below [] j l e = cc
length_below (m ∷ lines) zero l e = refl
length_below (m ∷ lines) (suc j) l e = ap suc (length_below lines j l e)

-- good lines in which each object point has its `near` line make the field
lines_field : (X : Subject) (lines : List Line) → GoodSoFar X lines → IsComplete X Section.Heading lines → IsComplete X Section.Nearest lines
    → IsField X.picture (filter_map near_fact lines)
lines_field X lines good one e =
    let nears = lines_of Section.Nearest lines in
    let points = object_points X.picture in
    let facts = near_facts X.picture nears points e
    (λ j l m. subst (λ k. SaysNear X.picture points k l) (length_below nears j l m)
    (says_near X.picture (take j nears) l (claims_of_section X Section.Nearest lines (omega arith) good one j l m))) in
    subst (IsField X.picture) (sym (facts_of_section Section.Nearest near_fact no_near lines)) (record { points = facts.0; least = facts.1 })

-- ---- contours

-- each line of a contour is good after the lines of contours before it
contours_good : (X : Subject) (lines : List Line) → All (IsLineOf (length X.picture.sides)) lines → GoodSoFar X lines → IsComplete X Section.Heading lines
    → (j : ℕ) (l : Line) → slice_get (lines_of Section.Contours lines) j ≡ Some l
    → IsLineOf (length X.picture.sides) l × ContourClaim (number_of (lines_of Section.Heading lines)) X.picture (take j (lines_of Section.Contours lines)) l
contours_good X lines fields good one j l e =
    let s = stood (λ m. rank (section_of m) == 3) lines j l e in (
      subst (IsLineOf (length X.picture.sides)) (get_or_from_slice_get lines s.place l l s.there) (fields s.place l (slice_get_within lines s.place l s.there)),
      (claims_of_section X Section.Contours lines (omega arith) good one j l e).1,
    )

-- ---- faces

-- each line of a face is good after the lines of faces before it
faces_good : (X : Subject) (lines : List Line) → GoodSoFar X lines → IsComplete X Section.Heading lines → (j : ℕ) (l : Line)
    → slice_get (lines_of Section.Faces lines) j ≡ Some l → FaceClaim X.picture (take j (lines_of Section.Faces lines)) l
faces_good X lines good one j l e = (claims_of_section X Section.Faces lines (omega arith) good one j l e).1

-- ---- the thinning

-- other lines give no event and no counts of points left
no_event : (l : Line) → (rank (section_of l) == 5) ≡ false → event_of l ≡ None
no_event (Line.Del p) e = cc
no_event (Line.Tip p) e = cc
no_event _ e = refl

no_kept : (l : Line) → (rank (section_of l) == 5) ≡ false → kept_fact l ≡ None
no_kept (Line.Kept n o b) e = cc
no_kept _ e = refl

-- good lines with one `kept` line show the thinning by the rule that the heading names
lines_thinned : (X : Subject) (lines : List Line) → GoodSoFar X lines → IsComplete X Section.Heading lines → IsComplete X Section.Thinned lines
    → (rule : Rule) × NamesRule X.shelf (lines_of Section.Heading lines) rule × ThinningShows X.picture rule (events_of lines) (kept_facts lines)
lines_thinned X lines good one e =
    let t = thinning_shown X (lines_of Section.Heading lines) (lines_of Section.Thinned lines)
    (claims_of_section X Section.Thinned lines (omega arith) good one) e in
    let events = facts_of_section Section.Thinned event_of no_event lines in
    let kept = facts_of_section Section.Thinned kept_fact no_kept lines in (
      t.0,
      t.1,
      subst (λ es. ThinningShows X.picture t.0 es (kept_facts lines)) (sym events)
          (subst (ThinningShows X.picture t.0 (events_of (lines_of Section.Thinned lines))) (sym kept) t.2),
    )

-- ---- the whole report

pub holds_shows : (X : Subject) (text : List ℕ) → Holds X text → TextShows X text
holds_shows X text (lines, b) =
    let all = lines ++ Line.End ∷ [] in
    let come : HasCome X Section.End lines = subst (HasCome X Section.End) (take_front lines (Line.End ∷ []))
    (b.good (length lines) Line.End (get_last lines Line.End)).come in
    let complete : (s : Section) → rank s < rank Section.End → IsComplete X s all = λ s h. complete_kept X lines Line.End s h (come.complete s h) in
    let one = complete Section.Heading (omega arith) in
    let parts = lines_parts X all b.good one (complete Section.Counted (omega arith)) in
    let thinned = lines_thinned X all b.good one (complete Section.Thinned (omega arith)) in
    record {
      lines = all;
      fields = b.fields;
      text_is = b.split ∙ append-nil (text_of all);
      begins = lines_begin X all thinned.0 b.good thinned.1;
      rule = thinned.0;
      names = thinned.1;
      shows = record {
        parts = parts;
        nears = lines_field X all b.good one (complete Section.Nearest (omega arith));
        contours = λ flat. lines_contours (number_of (lines_of Section.Heading all)) X.picture (length X.picture.sides) (lines_of Section.Contours all)
            (contours_good X all b.fields b.good one) ((complete Section.Contours (omega arith)).flat flat);
        faces = λ solid. lines_faces X.picture (lines_of Section.Faces all) (faces_good X all b.good one) ((complete Section.Faces (omega arith)).solid solid);
        thinning = thinned.2;
        same = left_tells_parts thinned.0 X.picture _ _ _ thinned.2 parts;
      };
    }
