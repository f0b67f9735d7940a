-- Good lines of a thinning show it: each deleted point was simple, none is left to delete, and both numbers of components are kept.
-- Laws of the lines of this section; the thinning itself is the matter of `Thinning`.
use Rattle.std.proofs.Common.{◌≡◌, ℕ, zero, suc, ◌<◌, Bool, true, false, cond, Some, List, [], ◌∷◌, ◌++◌, length, take, refl, ap, sym, ◌∙◌, subst, arith}
use Rattle.std.specs.Prelude.{slice_get}
use Rattle.std.specs.List.{FoldsTo}
use Rattle.shape_terms.specs.Points.{Point}
use Rattle.shape_terms.specs.Pictures.{Picture}
use Rattle.shape_terms.specs.Adjacency.{Near, Side}
use Rattle.shape_terms.specs.Parts.{Object, FramedBackground, Counts}
use Rattle.shape_terms.proofs.PartCount.{one_count}
use Rattle.shape_terms.specs.Simple.{IsSimple}
use Rattle.shape_terms.specs.Thinning.{Rule, Event, Stage, ThinStep, ThinsTo, opening_stage}
use Rattle.shape_terms.proofs.ThinningKept.{thinning_keeps}
use Rattle.report_terms.specs.Subjects.{Subject}
use Rattle.report_terms.specs.Lines.{Line}
use Rattle.report_terms.specs.ThinningLines.{PartsFact, event_of, events_of, kept_fact, kept_facts, IsKeptLine, ThinningClaim, ThinningComplete}
use Rattle.report_terms.specs.Sections.{Section, NamesRule, SectionClaim}
use Rattle.report_terms.specs.Shows.{IsSimpleThen, ShowsParts, ThinningShows, TellSameParts}
use Rattle.text_terms.proofs.ListPushes.{get_last, take_front, with_last, filter_map-same, filter_map-push}

-- ---- deleted points

same_event : (m : Bool) (p q : Point) → Event.Del p ≡ cond m (Event.Tip q) (Event.Del q) → q ≡ p
same_event true p q e = cc
same_event false p q e = cc

-- a point that is deleted is simple
deleted_simple : (rule : Rule) (X : Picture) (s u : Stage) (p : Point) → ThinStep rule X s (Event.Del p) u → IsSimple s.left p
deleted_simple rule X s u p (q, facts, next, e, a) = subst (IsSimple s.left) (same_event (rule.marks s.state facts) p q e) next.candidate.simple

-- the step of the event at place k
pub step_at : (rule : Rule) (X : Picture) (s u : Stage) (events : List Event) (k : ℕ) (e : Event) → FoldsTo (ThinStep rule X) s events u
    → slice_get events k ≡ Some e
    → (v : Stage) × (w : Stage) × FoldsTo (ThinStep rule X) s (take k events) v × ThinStep rule X v e w
step_at rule X s u [] k e f g = cc
step_at rule X s u (d ∷ events) zero e (j, step, rest) g = (s, j, refl, let same : d ≡ e = cc in subst (λ x. ThinStep rule X s x j) same step)
step_at rule X s u (d ∷ events) (suc k) e (j, step, rest) g =
    let r = step_at rule X j u events k e rest g in
    (r.0, r.1, (j, step, r.2), r.3)

simple_then : (rule : Rule) (X : Picture) (events : List Event) (u : Stage) → ThinsTo rule X events u → (k : ℕ) (p : Point)
    → slice_get events k ≡ Some (Event.Del p) → IsSimpleThen rule X (take k events) p
simple_then rule X events u t k p e =
    let r = step_at rule X (opening_stage rule X) u events k (Event.Del p) t e in
    (r.0, r.2, deleted_simple rule X r.0 r.1 p r.3)

-- ---- the components

same_parts : (Y : Picture) {n o b m p r : ℕ} → Counts Y n o b → Counts Y m p r → (o ≡ p) × (b ≡ r)
same_parts Y {n} {o} {b} {m} {p} {r} a c = (one_count Near (Object Y) o p a.object c.object, one_count Side (FramedBackground Y) b r a.background c.background)

-- the counts of what is left tell the numbers of components of the picture
pub left_tells_parts : (rule : Rule) (X : Picture) (events : List Event) (kept parts : List PartsFact) → (t : ThinningShows X rule events kept)
    → (s : ShowsParts X parts) → TellSameParts t.left s.fact
left_tells_parts rule X events kept parts t s =
    same_parts t.stage.left t.counts (thinning_keeps rule X events t.stage s.fact.points s.fact.object s.fact.background t.thinning.0 s.counts)

-- ---- the lines

-- lines whose last is the `kept` line
kept_shows : (rule : Rule) (X : Picture) (before : List Line) (n o b : ℕ) → IsKeptLine rule X before n o b
    → ThinningShows X rule (events_of (before ++ Line.Kept n o b ∷ [])) (kept_facts (before ++ Line.Kept n o b ∷ []))
kept_shows rule X before n o b c =
    let l = Line.Kept n o b in
    let left : PartsFact = record { points = n; object = o; background = b } in
    let same : events_of (before ++ l ∷ []) ≡ events_of before = filter_map-same event_of before l refl in
    subst (λ es. ThinningShows X rule es (kept_facts (before ++ l ∷ []))) (sym same) (record {
      stage = c.stage;
      thinning = (c.thins, c.all);
      simple = simple_then rule X (events_of before) c.stage c.thins;
      left = left;
      once = filter_map-push kept_fact before l left refl ∙ ap (λ fs. fs ++ left ∷ []) c.early;
      counts = c.counts;
    })

by_last : (rule : Rule) (X : Picture) (before : List Line) (l : Line) → ThinningClaim rule X before l → ThinningComplete (before ++ l ∷ [])
    → ThinningShows X rule (events_of (before ++ l ∷ [])) (kept_facts (before ++ l ∷ []))
by_last rule X before (Line.Del p) c e = absurd (let n = ap length (filter_map-same kept_fact before (Line.Del p) refl ∙ c.early) in omega (arith, n, e))
by_last rule X before (Line.Tip p) c e = absurd (let n = ap length (filter_map-same kept_fact before (Line.Tip p) refl ∙ c.early) in omega (arith, n, e))
by_last rule X before (Line.Kept n o b) c e = kept_shows rule X before n o b c
by_last rule X before _ c e = absurd c

-- the lines show the thinning by the rule that the heading names
pub thinning_shown : (X : Subject) (heading lines : List Line)
    → ((j : ℕ) (l : Line) → slice_get lines j ≡ Some l → SectionClaim X heading Section.Thinned (take j lines) l) → ThinningComplete lines
    → (rule : Rule) × NamesRule X.shelf heading rule × ThinningShows X.picture rule (events_of lines) (kept_facts lines)
thinning_shown X heading lines good e =
    let r = with_last lines (some lines e) in
    let claim = good (length r.0) r.1 (ap (λ ls. slice_get ls (length r.0)) r.2 ∙ get_last r.0 r.1) in
    let before : take (length r.0) lines ≡ r.0 = ap (take (length r.0)) r.2 ∙ take_front r.0 (r.1 ∷ []) in
    let shown = by_last claim.0 X.picture r.0 r.1 (subst (λ ls. ThinningClaim claim.0 X.picture ls r.1) before claim.2) (subst ThinningComplete r.2 e) in
    (claim.0, claim.1, subst (λ ls. ThinningShows X.picture claim.0 (events_of ls) (kept_facts ls)) (sym r.2) shown)
  where
    some : (ls : List Line) → ThinningComplete ls → 0 < length ls
    some [] e = absurd (omega arith)
    some (l ∷ ls) e = omega arith
