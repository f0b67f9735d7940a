-- The steps of a thinning: it begins, its least key is marked or deleted, and it ends.
-- Laws over pictures, stages and keys alone.
use Rattle.std.proofs.Common.{◌≡◌, ◌⊎◌, ℕ, ◌+◌, ◌<◌, ◌≤◌, Bool, true, false, cond, List, [], ◌∷◌, ◌++◌, length, slice_index, refl, sym, ◌∙◌, ap, subst, arith}
use Rattle.std.proofs.Common.{mul_comm, ◌*◌}
use Rattle.std.specs.Ordering.{is_gt}
use Rattle.std.proofs.lemmas.Bool.{and_parts}
use Rattle.std.proofs.lemmas.Fn.{FoldsTo-push}
use Rattle.std.proofs.lemmas.List.{get_or-replicate, length-replicate}
use Rattle.std.proofs.lemmas.List.Folds.{sum_by-replicate}
use Rattle.shape_terms.specs.Points.{Point, in_box, box_count, raster_number, raster_point}
use Rattle.shape_terms.specs.Pictures.{Picture, IsPicture, blank, object_points}
use Rattle.shape_terms.specs.Adjacency.{Near}
use Rattle.shape_terms.specs.Parts.{Object}
use Rattle.shape_terms.specs.Thinning.{Rule, Event, ThinStep, ThinsTo, IsThinned, IsNext, opening_stage, stage_after, near_count, without}
use Rattle.shape_terms.proofs.BoxLists.{object_count}
use Rattle.shape_terms.proofs.Boxes.{raster_below}
use Rattle.shape_terms.proofs.OneValue.{one_object_less}
use Rattle.shape_queue.specs.declared.key.Key.{Key}
use Rattle.shape_queue.specs.Keys.{key_cmp}
use Rattle.shape_queue.specs.Ranks.{background, key_at}
use Rattle.shape_queue.specs.Waiting.{Waits, IsQueue, IsQueueBut, Put}
use Rattle.shape_queue.specs.Standing.{IsAhead, Stands}
use Rattle.shape_terms.specs.Distances.{AreDistances}
use Rattle.shape_queue.specs.Events.{event_by}
use Rattle.shape_queue.specs.Going.{stage_of, Reach, IsFrontOf, IsGoing}
use Rattle.shape_queue.proofs.RankLaws.{rank_behind}
use Rattle.shape_queue.proofs.SomeDistance.{some_distance}
use Rattle.shape_queue.proofs.StageSteps.{none_waits, taken_place, taken_reached, taken_next, deleted_stands, deleted_ahead, marked_stands, marked_waits}
use Rattle.shape_queue.proofs.StageSteps.{deleted_waits}

-- no point is one of the blank picture
none_blank : (sides : List ℕ) (q : Point) → Object (blank sides) q → ⊥
none_blank sides q o =
    let both = and_parts (in_box sides q) _ o in
    let f : false ≡ true = sym (get_or-replicate (box_count sides) (raster_number sides q) false false (raster_below sides q both.0)) ∙ both.1 in
    cc

pub none_counted : (sides : List ℕ) → length (object_points (blank sides)) ≡ 0
none_counted sides =
    let a = object_count (blank sides) (length-replicate (box_count sides) false) in
    let b = sum_by-replicate (λ b. cond b 1 0) (box_count sides) false in
    omega (arith, a, b)

-- before any object point's place is passed
pub front_start : (d : ℕ) (X : Picture) (ds : List ℕ) (keys : Key → Bool) (state : List ℕ) → IsPicture d X → AreDistances X ds → ((k : Key) → keys k ≡ false)
    → (reached : Picture) → reached ≡ blank X.sides → (ds' : List ℕ) → ds' ≡ ds → (n : ℕ) → n ≡ length (object_points X)
    → (first : ℕ) → first ≡ background ds'
    → IsFrontOf X (stage_of X [] state) (record { reached = reached; distances = ds'; keys = keys; passed = first; ahead = n })
front_start d X ds keys state w h none reached r ds' e n c first b = rw (r, b, e, c) (record {
  stands = record {
    sides = refl;
    filled = w.filled;
    listed = h.filled;
    reached_sides = refl;
    reached_filled = length-replicate (box_count X.sides) false;
    reached_is = λ q. ((λ o. absurd (none_blank X.sides q o)), λ o. absurd (let a = ahead q o.0 in omega (arith, a, o.2)));
    unmarked = λ q a c. absurd (omega (arith, c.1));
    distance = h.least;
    some = some;
  };
  waits = record {
    proper = λ k t. absurd (let f : false ≡ true = sym (none k) ∙ t in cc);
    settled = λ i l n. (
      (λ t. absurd (let f : false ≡ true = sym (none (key_at ds i)) ∙ t in cc)),
      λ m. absurd (none_blank X.sides (raster_point X.sides i) m.0),
    );
  };
  rest = record { points = X; sides = refl; filled = w.filled; points_are = λ q. ((λ o. (o, ahead q o)), λ o. o.0); counted = refl };
  begun = omega arith;
})
  where
    some : (q : Point) → Object X q → 0 < slice_index ds (raster_number X.sides q)
    some q o = some_distance X q (slice_index ds (raster_number X.sides q)) o (h.least q o)

    ahead : (q : Point) → Object X q → IsAhead ds (background ds) (raster_number X.sides q)
    ahead q o = rank_behind ds (raster_number X.sides q) (some q o)

-- ---- the front of whatever rule's thinning

-- k is a key, and q its point, which is taken out of those reached
module _ (X : Picture) (marked : List Point) (state : List ℕ) (left : Picture) (f : Reach) (h : IsFrontOf X (stage_of left marked state) f) (k : Key)
    (there : f.keys k ≡ true) where
  pub key_place : k.place < box_count left.sides
  key_place = subst (λ n. k.place < box_count n) (sym h.stands.sides) (taken_place X (stage_of left marked state) f h k there)

  module _ (q : Point) (e : q ≡ raster_point left.sides k.place) where
    pub in_opening : q ≡ raster_point X.sides k.place
    in_opening = e ∙ ap (λ n. raster_point n k.place) h.stands.sides

    pub at_reached : Object f.reached q
    at_reached = subst (Object f.reached) (sym in_opening) (taken_reached X (stage_of left marked state) f h k there)

    module _ (reached' : Picture) (g : reached' ≡ without f.reached q) where
      pub one_reached_less : length (object_points reached') + 1 ≡ length (object_points f.reached)
      one_reached_less = rw g (one_object_less f.reached q h.stands.reached_filled at_reached)

      module _ (new : Key → Bool) (put : Put f.keys new k false) (state' : List ℕ) where
        pub front_marked : IsFrontOf X (stage_of left (q ∷ marked) state')
            (record { reached = reached'; distances = f.distances; keys = new; passed = f.passed; ahead = f.ahead })
        front_marked = rw (g, in_opening) (record {
          stands = marked_stands X (stage_of left marked state) f h k there state';
          waits = marked_waits X (stage_of left marked state) f h k there new put;
          rest = h.rest;
          begun = h.begun;
        })

        module _ (left' : Picture) (d : left' ≡ without left q) where
          -- the queue while the near points of a deleted one are to be looked at
          pub near_first : IsQueueBut q f.passed left' reached' f.distances new
          near_first = subst (λ n. Waits n left' reached' f.distances (λ i. IsAhead f.distances f.passed i ⊎ Near q (raster_point n i)) new)
              (sym (ap (λ (Y : Picture). Y.sides) d ∙ h.stands.sides))
              (rw (d, g, in_opening) (deleted_waits X (stage_of left marked state) f h k there new put))

          pub deleted_stands_at : Stands X (stage_of left' marked state') reached' f.distances f.passed
          deleted_stands_at = rw (d, g, in_opening) (deleted_stands X (stage_of left marked state) f h k there state')

          -- and when they were looked at
          pub front_deleted : (last : Key → Bool) → (IsQueueBut q f.passed left' reached' f.distances new → IsQueue f.passed left' reached' f.distances last)
              → IsFrontOf X (stage_of left' marked state')
              (record { reached = reached'; distances = f.distances; keys = last; passed = f.passed; ahead = f.ahead })
          front_deleted last looked = record {
            stands = deleted_stands_at;
            waits = subst (λ z. Waits z left' reached' f.distances (IsAhead f.distances f.passed) last) (ap (λ (Y : Picture). Y.sides) d ∙ h.stands.sides)
                (looked near_first);
            rest = rw (d, in_opening) (deleted_ahead X (stage_of left marked state) f h k there);
            begun = h.begun;
          }

-- ---- a thinning

module _ (rule : Rule) (X : Picture) (events : List Event) (state : List ℕ) (left : Picture) (f : Reach) (c : IsGoing rule X events state left f) where
  -- no key, and nothing ahead: the thinning is at its end
  pub going_end : ((k : Key) → f.keys k ≡ false) → f.ahead ≡ 0 → IsThinned (stage_of left c.marked state)
  going_end none e = none_waits X (stage_of left c.marked state) f c.front none e

  -- k is the least key, and its point q has n object near neighbours
  module _ (k : Key) (there : f.keys k ≡ true) (q : Point) (e : q ≡ raster_point left.sides k.place)
      (least : (j : Key) → f.keys j ≡ true → is_gt (key_cmp k j) ≡ false) (n : ℕ) (near : n ≡ near_count left q) where
    at_place : q ≡ raster_point X.sides k.place
    at_place = in_opening X c.marked state left f c.front k there q e

    next : IsNext X (stage_of left c.marked state) q (record { neighbours = n; distance = k.distance })
    next = rw at_place (taken_next X (stage_of left c.marked state) f c.front k there least n (near ∙ ap (near_count left) at_place))

    pub one_event : (m : Bool) → rule.marks state (record { neighbours = n; distance = k.distance }) ≡ m
        → ThinStep rule X (stage_of left c.marked state) (event_by m q)
        (stage_after rule (stage_of left c.marked state) (event_by m q) (record { neighbours = n; distance = k.distance }))
    one_event m h = (q, record { neighbours = n; distance = k.distance }, next, ap (λ b. event_by b q) (sym h), refl)

    -- the front after the event is told by whoever made it
    pub going_marked : (f' : Reach) → rule.marks state (record { neighbours = n; distance = k.distance }) ≡ true
        → IsFrontOf X (stage_of left (q ∷ c.marked) (rule.next state (record { neighbours = n; distance = k.distance }))) f'
        → IsGoing rule X (events ++ event_by true q ∷ []) (rule.next state (record { neighbours = n; distance = k.distance })) left f'
    going_marked f' m h = record {
      marked = q ∷ c.marked;
      front = h;
      thins = FoldsTo-push (ThinStep rule X) (opening_stage rule X) events (stage_of left c.marked state) (event_by true q) _ c.thins (one_event true m);
    }

    pub going_deleted : (f' : Reach) (left' : Picture) → left' ≡ without left q → rule.marks state (record { neighbours = n; distance = k.distance }) ≡ false
        → IsFrontOf X (stage_of left' c.marked (rule.next state (record { neighbours = n; distance = k.distance }))) f'
        → IsGoing rule X (events ++ event_by false q ∷ []) (rule.next state (record { neighbours = n; distance = k.distance })) left' f'
    going_deleted f' left' d m h = record {
      marked = c.marked;
      front = h;
      thins = subst (λ Y. ThinsTo rule X (events ++ event_by false q ∷ [])
          (stage_of Y c.marked (rule.next state (record { neighbours = n; distance = k.distance })))) (sym d)
          (FoldsTo-push (ThinStep rule X) (opening_stage rule X) events (stage_of left c.marked state) (event_by false q) _ c.thins (one_event false m));
    }

-- ---- the steps made

-- one more event, and at most n more steps
pub few_more : (n base s t l m : ℕ) → m ≡ l + 1 → s ≤ base + n * l → t ≤ s + n → t ≤ base + n * m
few_more n base s t l m e h k = let f : n * m ≡ n * l + n = ap (λ x. n * x) e ∙ omega (arith, mul_comm n (l + 1), mul_comm n l) in omega arith
