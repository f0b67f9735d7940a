-- A report grows by the events of a thinning and by the counts of the points left, and at its end it holds.
-- One law for each kind of line that is added.
use Rattle.std.proofs.Common.{◌≡◌, ◌+◌, ℕ, suc, List, [], ◌∷◌, ◌++◌, length, take, refl, sym, ap, ◌∙◌, subst, arith, Some}
use Rattle.std.specs.Prelude.{slice_get, pos, negsuc}
use Rattle.std.proofs.lemmas.List.{append-nil, take_all, length-append}
use Rattle.shape_terms.specs.Limits.{most_coordinate}
use Rattle.shape_terms.specs.FramedBox.{IsWithin}
use Rattle.shape_terms.specs.Parts.{Counts}
use Rattle.shape_terms.specs.Thinning.{Event, Stage, ThinsTo, IsThinning, opening_stage}
use Rattle.shape_terms.specs.Following.{IsNextEvent}
use Rattle.report_terms.specs.Subjects.{Subject}
use Rattle.report_terms.specs.Lines.{Line, Heading, line_text, text_of, IsLineOf}
use Rattle.report_terms.specs.ThinningLines.{PartsFact, event_of, events_of, kept_fact, kept_facts, ThinningClaim}
use Rattle.report_terms.specs.Sections.{Section, section_of, lines_of, GoodAfter, GoodSoFar}
use Rattle.text_terms.proofs.ListPushes.{take_next, filter_map-same, filter_map-push}
use Rattle.report_terms.proofs.SectionLaws.{none_past, come_more, come_past, good_at, lines_push}
use Rattle.report_terms.proofs.HeadingFirst.{heading_first, gives_rule}
use Rattle.report_terms.proofs.ThinningShown.{step_at}
use Rattle.text_terms.proofs.FramedFields.{within_short}
use Rattle.shape_thin.specs.Runs.{event_point}
use Rattle.shape_analyse.specs.Analyses.{GivesNumber, IsReportBy}
use Rattle.shape_analyse.specs.Growing.{Aim, heading_of, IsSurveyed, HasEvents, HasKept, event_line}
use Rattle.shape_analyse.proofs.Growth.{names_rule, text_push, good_more}

-- no event came yet
pub events_none : (d : ℕ) (X : Aim) (events : List Event) (lines : List Line) → IsSurveyed d X lines → HasEvents d X events 0 lines
events_none d X events lines h =
    record { axes = h.axes; few = h.few; lines_good = h.lines_good; come = h.come; early = ap kept_facts h.none; so_far = ap events_of h.none }

-- the next event of a thinning
next_event : (X : Aim) (events : List Event) (stage : Stage) (k : ℕ) (e : Event) (so_far : List Event) → ThinsTo X.rule X.subject.picture events stage
    → slice_get events k ≡ Some e → so_far ≡ take k events → IsNextEvent X.rule X.subject.picture so_far e
next_event X events stage k e so_far t there same =
    let r = step_at X.rule X.subject.picture (opening_stage X.rule X.subject.picture) stage events k e t there in
    (r.0, r.1, subst (λ es. ThinsTo X.rule X.subject.picture es r.0) (sym same) r.2, r.3)

take_more : (events : List Event) (k : ℕ) (e : Event) → slice_get events k ≡ Some e → take k events ++ e ∷ [] ≡ take (k + 1) events
take_more events k e there = take_next events k e there ∙ ap (λ n. take n events) (let q : suc k ≡ k + 1 = omega arith in q)

-- a good line of an event was added
event_added : (d : ℕ) (X : Aim) (events : List Event) (k : ℕ) (lines : List Line) (l : Line) (e : Event) → HasEvents d X events k lines
    → section_of l ≡ Section.Thinned → events_of (l ∷ []) ≡ e ∷ [] → kept_facts (l ∷ []) ≡ [] → slice_get events k ≡ Some e → IsLineOf d l
    → GoodAfter X.subject lines l → HasEvents d X events (k + 1) (lines ++ l ∷ [])
event_added d X events k lines l e h s gives none there fields good =
    let push = lines_push Section.Thinned lines l s in
    let before = lines_of Section.Thinned lines in
    record {
      axes = h.axes;
      few = h.few;
      lines_good = good_more X lines l h.lines_good (omega (arith, h.axes, h.few)) (subst (λ n. IsLineOf n l) (sym h.axes) fields) good;
      come = come_more X.subject Section.Thinned lines l h.come s;
      early = ap kept_facts push ∙ filter_map-same kept_fact before l none ∙ h.early;
      so_far = ap events_of push ∙ filter_map-push event_of before l e gives ∙ ap (λ es. es ++ e ∷ []) h.so_far ∙ take_more events k e there;
    }

pub events_more : (d : ℕ) (X : Aim) (events : List Event) (stage : Stage) (k : ℕ) (lines : List Line) (e : Event) → HasEvents d X events k lines
    → IsThinning X.rule X.subject.picture events stage → slice_get events k ≡ Some e → IsLineOf d (event_line e)
    → HasEvents d X events (k + 1) (lines ++ event_line e ∷ [])
events_more d X events stage k lines (Event.Del p) h t there fields =
    let l = Line.Del p in
    let before = lines_of Section.Thinned lines in
    let next = next_event X events stage k (Event.Del p) (events_of before) t.0 there h.so_far in
    let good = good_at X.subject Section.Thinned lines l h.come refl (X.rule, names_rule X lines h.lines_good.named, record { early = h.early; next = next }) in
    event_added d X events k lines l (Event.Del p) h refl refl refl there fields good
events_more d X events stage k lines (Event.Tip p) h t there fields =
    let l = Line.Tip p in
    let before = lines_of Section.Thinned lines in
    let next = next_event X events stage k (Event.Tip p) (events_of before) t.0 there h.so_far in
    let good = good_at X.subject Section.Thinned lines l h.come refl (X.rule, names_rule X lines h.lines_good.named, record { early = h.early; next = next }) in
    event_added d X events k lines l (Event.Tip p) h refl refl refl there fields good

-- the counts of the points left come behind all events
pub events_kept : (d : ℕ) (X : Aim) (events : List Event) (stage : Stage) (lines : List Line) (n o b : ℕ) → HasEvents d X events (length events) lines
    → IsThinning X.rule X.subject.picture events stage → Counts stage.left n o b → IsLineOf d (Line.Kept n o b)
    → HasKept X (lines ++ Line.Kept n o b ∷ [])
events_kept d X events stage lines n o b h t counts fields =
    let l = Line.Kept n o b in
    let before = lines_of Section.Thinned lines in
    let all : events_of before ≡ events = h.so_far ∙ take_all (length events) events (omega arith) in
    let claim : ThinningClaim X.rule X.subject.picture before l =
    record { early = h.early; stage = stage; thins = subst (λ es. ThinsTo X.rule X.subject.picture es stage) (sym all) t.0; all = t.1; counts = counts } in
    let good = good_at X.subject Section.Thinned lines l h.come refl (X.rule, names_rule X lines h.lines_good.named, claim) in
    let left : PartsFact = record { points = n; object = o; background = b } in
    let facts = ap kept_facts (lines_push Section.Thinned lines l refl) ∙ filter_map-push kept_fact before l left refl in
    record {
      few = omega (arith, h.axes, h.few);
      lines_good = good_more X lines l h.lines_good (omega (arith, h.axes, h.few)) (subst (λ n. IsLineOf n l) (sym h.axes) fields) good;
      come = come_more X.subject Section.Thinned lines l h.come refl;
      all = ap length facts ∙ length-append (kept_facts before) (left ∷ []) ∙ ap (λ fs. length fs + 1) h.early;
    }

-- the text of good lines begins with their heading, which gives its number
gives_number : (X : Subject) (lines : List Line) (text : List ℕ) (h : Heading) → GoodSoFar X lines → lines_of Section.Heading lines ≡ Line.Shape h ∷ []
    → text ≡ text_of lines → GivesNumber text h.number
gives_number X lines text h good e is =
    let r = heading_first X lines (Line.Shape h) good e in
    record { heading = h; rest = text_of r.0; is = is ∙ ap text_of r.1; numbered = refl }

-- and then the report holds
pub kept_done : (X : Aim) (lines : List Line) (old new : List ℕ) → old ≡ text_of lines → new ≡ old ++ line_text Line.End → HasKept X lines
    → IsReportBy X.subject X.name new
kept_done X lines old new e f h =
    let come = come_past X.subject Section.Thinned Section.End lines refl h.come h.all in
    let good : GoodAfter X.subject lines Line.End = good_at X.subject Section.End lines Line.End come refl
    (none_past Section.Thinned Section.End lines (omega arith) h.come.order) in
    let all = good_more X lines Line.End h.lines_good h.few tt good in
    let is = text_push old new lines Line.End e f in
    record {
      by = record {
        holds = (lines, record { split = is ∙ sym (append-nil (text_of (lines ++ Line.End ∷ []))); fields = all.fields; short = all.short; good = all.good });
        named = gives_rule X.subject (lines ++ Line.End ∷ []) new (heading_of X all.named.sides) X.name all.good all.named.first refl is;
      };
      newest = gives_number X.subject (lines ++ Line.End ∷ []) new (heading_of X all.named.sides) all.good all.named.first is;
    }

-- the line of an event in the framed box
pub event_fits : (d : ℕ) (e : Event) → length (event_point e) ≡ d → IsWithin (negsuc 0) (pos most_coordinate) (event_point e) → IsLineOf d (event_line e)
event_fits d (Event.Del p) axes within = within_short d p axes within
event_fits d (Event.Tip p) axes within = within_short d p axes within

-- a report by a rule, where the name is known otherwise
pub renamed : (X : Subject) (v w text : List ℕ) → Some v ≡ Some w → IsReportBy X v text → IsReportBy X w text
renamed X v w text e h = let same : v ≡ w = cc in subst (λ n. IsReportBy X n text) same h
