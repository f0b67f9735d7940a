-- When a line of a thinning is good, by the rule that the heading names.
-- Laws over pictures, rules and lines; how events are followed is handed in.
use Rattle.std.proofs.Common.{◌≡◌, ℕ, Bool, true, false, sym, ap, ◌∙◌, subst, List, [], ◌∷◌, ◌++◌, length, Result}
use Rattle.std.specs.Prelude.{◌↔◌, IsTrue, IfOk}
use Rattle.std.specs.Bool.{OnTrue}
use Rattle.std.proofs.lemmas.Bool.{OnTrue_at, OnTrue_from}
use Rattle.std.proofs.lemmas.Result.{IfOk-weaker}
use Rattle.std.proofs.lemmas.List.{append-nil}
use Rattle.std.proofs.lemmas.List.Elements.{filter_map-append}
use Rattle.shape_terms.specs.Pictures.{Picture, object_points}
use Rattle.shape_terms.specs.Parts.{Counts}
use Rattle.shape_terms.specs.Thinning.{Rule, Event, Stage, ThinsTo}
use Rattle.shape_terms.specs.Following.{IsNextEvent, AreAllEvents}
use Rattle.shape_terms.proofs.ThinningKept.{thinning_keeps}
use Rattle.report_terms.specs.Subjects.{Subject}
use Rattle.report_terms.specs.Lines.{Line}
use Rattle.report_terms.specs.Sections.{Section, SectionClaim}
use Rattle.report_terms.specs.ThinningLines.{event_of, kept_fact, events_of, kept_facts, ThinningClaim, IsEventLine, IsKeptLine}
use Rattle.shape_check.specs.Rows.{IsRuledBy, HasTaken}
use Rattle.shape_check.specs.Followed.{Thins, HasFollowed}
use Rattle.shape_check.proofs.OneLine.{same_counts}

-- the claim of a line of the thinning is that by the rule of the heading
claim_is : (X : Subject) (heading : List Line) {n : ℕ} {by : Rule} → IsRuledBy X heading n by → (before : List Line) (l : Line)
    → ThinningClaim by X.picture before l ↔ SectionClaim X heading Section.Thinned before l
claim_is X heading {by} ruled before l = (
  λ c. (by, ruled.names, c),
  λ c. subst (λ r. ThinningClaim r X.picture before l) (ruled.alone c.0 c.1) c.2,
)

-- ---- the parts of what a judge stands for

module _ {X : Picture} {by : Rule} {F : List Event → List ℕ → Type 0} {b k : Bool} {o d : ℕ} {now : List ℕ} {lines : List Line}
    (t : Thins X by F b k o d now lines) where
  -- the rule has begun: the events were followed to its state now
  pub restarted : (F2 : List Event → List ℕ → Type 0) (b2 k2 : Bool) (o2 d2 : ℕ) (now2 : List ℕ) → b2 ≡ true → k2 ≡ k → o2 ≡ o → d2 ≡ d
      → F2 (events_of lines) now2 → Thins X by F2 b2 k2 o2 d2 now2 lines
  restarted F2 b2 k2 o2 d2 now2 begun kept object background f = record {
    filled = t.filled;
    points = t.points;
    counts = rw (object, background) t.counts;
    followed = subst (λ z. HasFollowed z F2 by.opening now2 (events_of lines)) (sym begun) f;
    taken = subst (λ z. HasTaken z (kept_facts lines)) (sym kept) t.taken;
  }

  pub early : k ≡ false → kept_facts lines ≡ []
  early e = subst (λ z. HasTaken z (kept_facts lines)) e t.taken

  module _ (begun : b ≡ true) (untaken : k ≡ false) where
    pub followed : F (events_of lines) now
    followed = subst (λ z. HasFollowed z F by.opening now (events_of lines)) begun t.followed

    -- some unmarked simple point is left, so the counts of the points left come too early
    pub not_kept : (finished : Bool) → finished ≡ false → (IsTrue finished ↔ AreAllEvents by X (events_of lines)) → (p q r : ℕ)
        → IsTrue false ↔ IsKeptLine by X lines p q r
    not_kept finished f e p q r = (λ z. cc, λ kept. let z = e.1 (kept.stage, kept.thins, kept.all) in cc)

    -- none is left, so the counts decide
    pub kept_is : (finished : Bool) → finished ≡ true → (IsTrue finished ↔ AreAllEvents by X (events_of lines)) → (left : ℕ)
        → ((s : Stage) → ThinsTo by X (events_of lines) s → left ≡ length (object_points s.left))
        → (result : Bool) (p q r : ℕ) → (IsTrue result ↔ ((p ≡ left) × (q ≡ o) × (r ≡ d))) → IsTrue result ↔ IsKeptLine by X lines p q r
    kept_is finished f e left n result p q r h = (
      λ yes.
          (let all = e.0 f in
          record { early = early untaken; stage = all.0; thins = all.1; all = all.2; counts = (counted all.0 all.1).0 yes }),
      λ kept. (counted kept.stage kept.thins).1 kept.counts,
    )
      where
        counted : (s : Stage) → ThinsTo by X (events_of lines) s → IsTrue result ↔ Counts s.left p q r
        counted s thins = same_counts s.left left o d p q r result (rw (n s thins) (thinning_keeps by X (events_of lines) s t.points o d thins t.counts)) h

  -- the `kept` line was taken
  pub kept_stands : (b2 : Bool) (p q r : ℕ) → k ≡ false → b2 ≡ b → Thins X by F b2 true o d now (lines ++ Line.Kept p q r ∷ [])
  kept_stands b2 p q r untaken same = record {
    filled = t.filled;
    points = t.points;
    counts = t.counts;
    followed = subst (λ z. HasFollowed z F by.opening now (events_of (lines ++ Line.Kept p q r ∷ []))) (sym same)
        (subst (HasFollowed b F by.opening now) (sym (filter_map-append event_of lines (Line.Kept p q r ∷ []) ∙ append-nil (events_of lines))) t.followed);
    taken = ap length (filter_map-append kept_fact lines (Line.Kept p q r ∷ []) ∙ ap (λ ks. ks ++ kept_facts (Line.Kept p q r ∷ [])) (early untaken));
  }

  -- an event was taken
  pub event_stands : {E : Type 0} (G : List Event → List ℕ → Type 0) (now2 : List ℕ) (r : Result Bool E) (e : Event) (l : Line) → b ≡ true → k ≡ false
      → events_of (l ∷ []) ≡ e ∷ [] → kept_facts (l ∷ []) ≡ []
      → IfOk r (λ z. OnTrue z (G (events_of lines ++ e ∷ []) now2)) → IfOk r (λ z. OnTrue z (Thins X by G b k o d now2 (lines ++ l ∷ [])))
  event_stands G now2 r e l begun untaken one none h = IfOk-weaker r _ _ (λ z w. OnTrue_from z _ (λ yes. record {
    filled = t.filled;
    points = t.points;
    counts = t.counts;
    followed = subst (λ z. HasFollowed z G by.opening now2 (events_of (lines ++ l ∷ []))) (sym begun)
        (subst (λ es. G es now2) (sym (filter_map-append event_of lines (l ∷ []) ∙ ap (λ es. events_of lines ++ es) one)) (OnTrue_at yes w));
    taken = subst (λ z. HasTaken z (kept_facts (lines ++ l ∷ []))) (sym untaken)
        (filter_map-append kept_fact lines (l ∷ []) ∙ ap (λ ks. kept_facts lines ++ ks) none ∙ append-nil (kept_facts lines) ∙ early untaken);
  })) h

-- ---- answers

-- an event line is good where it gives the next event
pub event_answer : {E : Type 0} (X : Subject) (heading : List Line) {n : ℕ} {by : Rule} → IsRuledBy X heading n by → (other : Rule) → other ≡ by
    → (lines : List Line) → kept_facts lines ≡ [] → (r : Result Bool E) (e : Event) (l : Line)
    → (ThinningClaim by X.picture lines l ↔ IsEventLine by X.picture lines e) → IfOk r (λ z. IsTrue z ↔ IsNextEvent other X.picture (events_of lines) e)
    → IfOk r (λ z. IsTrue z ↔ SectionClaim X heading Section.Thinned lines l)
event_answer X heading {by} ruled other same lines none r e l is h = IfOk-weaker r _ _ (λ z w. (
  λ yes. (claim_is X heading ruled lines l).0 (is.1 (record { early = none; next = subst (λ q. IsNextEvent q X.picture (events_of lines) e) same (w.0 yes) })),
  λ claim. w.1 (subst (λ q. IsNextEvent q X.picture (events_of lines) e) (sym same) (is.0 ((claim_is X heading ruled lines l).1 claim)).next),
)) h

-- the `kept` line is good where it gives the counts of the points left
pub kept_answer : (X : Subject) (heading : List Line) {n : ℕ} {by : Rule} → IsRuledBy X heading n by → (lines : List Line) (z : Bool) (p q r : ℕ)
    → (IsTrue z ↔ IsKeptLine by X.picture lines p q r) → IsTrue z ↔ SectionClaim X heading Section.Thinned lines (Line.Kept p q r)
kept_answer X heading ruled lines z p q r h = (
  λ yes. (claim_is X heading ruled lines (Line.Kept p q r)).0 (h.0 yes),
  λ claim. h.1 ((claim_is X heading ruled lines (Line.Kept p q r)).1 claim),
)
