-- The next event of a thinning is one: it is that of the least key.
-- Laws over pictures, stages and keys alone.
use Rattle.std.proofs.Common.{◌≡◌, ℕ, ◌↔◌, Bool, true, false, List, refl, sym, subst, not}
use mathlib.Core.Bool.{beq}
use Rattle.std.specs.Ordering.{is_gt}
use Rattle.shape_terms.specs.Points.{Point, raster_point}
use Rattle.shape_terms.specs.Pictures.{Picture}
use Rattle.shape_terms.specs.Thinning.{Rule, Event, Facts, Stage, ThinStep, ThinsTo, IsCandidate, near_count, opening_stage}
use Rattle.shape_terms.specs.Following.{IsNextEvent, AreAllEvents}
use Rattle.shape_terms.proofs.ThinningOnce.{one_stage, one_step}
use Rattle.shape_queue.specs.declared.key.Key.{Key}
use Rattle.shape_queue.specs.Keys.{key_cmp}
use Rattle.shape_queue.specs.Events.{event_by}
use Rattle.shape_queue.specs.Going.{stage_of, Reach, IsGoing}
use Rattle.shape_queue.proofs.GoingSteps.{going_end, one_event}

same_event : (m t : Bool) (q p : Point) → event_by m q ≡ event_by t p → (m ≡ t) × (q ≡ p)
same_event true true q p e = (refl, let f : Event.Tip q ≡ Event.Tip p = e in cc)
same_event true false q p e = absurd (let f : Event.Tip q ≡ Event.Del p = e in cc)
same_event false true q p e = absurd (let f : Event.Del q ≡ Event.Tip p = e in cc)
same_event false false q p e = (refl, let f : Event.Del q ≡ Event.Del p = e in cc)

module _ (rule : Rule) (X : Picture) (events : List Event) (state : List ℕ) (left : Picture) (f : Reach)
    (c : IsGoing rule X events state left f) where
  -- another stage after the same events is the same
  pub same_stage : (s : Stage) → ThinsTo rule X events s → s ≡ stage_of left c.marked state
  same_stage s t = one_stage rule X events (opening_stage rule X) s (stage_of left c.marked state) t c.thins

  -- no key, and nothing ahead: no event is next, and they are complete
  pub none_next : ((k : Key) → f.keys k ≡ false) → f.ahead ≡ 0 → (e : Event) → IsNextEvent rule X events e → ⊥
  none_next none z e (s, s', t, (p, facts, n, d, a)) =
      going_end rule X events state left f c none z p (subst (λ u. IsCandidate u p) (same_stage s t) n.candidate)

  pub all_of_none : ((k : Key) → f.keys k ≡ false) → f.ahead ≡ 0 → AreAllEvents rule X events
  all_of_none none z = (stage_of left c.marked state, c.thins, going_end rule X events state left f c none z)

  -- k is the least key, and q its point, which has n object near neighbours
  module _ (k : Key) (there : f.keys k ≡ true) (q : Point) (e : q ≡ raster_point left.sides k.place)
      (least : (j : Key) → f.keys j ≡ true → is_gt (key_cmp k j) ≡ false) (n : ℕ) (near : n ≡ near_count left q) where
    facts : Facts
    facts = record { neighbours = n; distance = k.distance }

    -- the next event is that of the least key, marked or not as the rule says
    pub next_is : (m : Bool) → rule.marks state (record { neighbours = n; distance = k.distance }) ≡ m → (t : Bool) (p : Point)
        → IsNextEvent rule X events (event_by t p) ↔ ((m ≡ t) × (q ≡ p))
    next_is m h t p = (to, of)
      where
        to : IsNextEvent rule X events (event_by t p) → (m ≡ t) × (q ≡ p)
        to (s, s', r, d) =
            let here = one_event rule X events state left f c k there q e least n near m h in
            let there = subst (λ u. ThinStep rule X u (event_by t p) s') (same_stage s r) d in
            same_event m t q p (one_step rule X (stage_of left c.marked state) _ s' (event_by m q) (event_by t p) here there).0

        of : (m ≡ t) × (q ≡ p) → IsNextEvent rule X events (event_by t p)
        of w =
            let here = one_event rule X events state left f c k there q e least n near m h in
            let next : IsNextEvent rule X events (event_by m q) = (stage_of left c.marked state, _, c.thins, here) in
            subst (λ b. IsNextEvent rule X events (event_by b p)) w.0 (subst (λ r. IsNextEvent rule X events (event_by m r)) w.1 next)

    -- some key: the events are not complete
    pub not_all : AreAllEvents rule X events → ⊥
    not_all (s, t, none) =
        let m = rule.marks state (record { neighbours = n; distance = k.distance }) in
        let d = one_event rule X events state left f c k there q e least n near m refl in
        none d.0 (subst (λ u. IsCandidate u d.0) (sym (same_stage s t)) d.2.candidate)

-- ---- truth values

pub not_false : (b : Bool) → false ≡ not b → b ≡ true
not_false true e = refl
not_false false e = cc

pub same_truth : (a b : Bool) → not (beq a b) ≡ false → a ≡ b
same_truth true true e = refl
same_truth true false e = absurd (let f : true ≡ false = e in cc)
same_truth false true e = absurd (let f : true ≡ false = e in cc)
same_truth false false e = refl

pub other_truth : (a b : Bool) → not (beq a b) ≡ true → a ≡ b → ⊥
other_truth true true e h = let f : false ≡ true = e in cc
other_truth true false e h = cc
other_truth false true e h = cc
other_truth false false e h = let f : false ≡ true = e in cc
