-- What the front of a thinning tells of its next place and of a key, and that its parts still fit together after an event.
-- Laws over pictures and keys alone, and over the next point of a thinning.
use Rattle.std.proofs.Common.{◌≡◌, ◌≢◌, ℕ, ◌+◌, ◌<◌, ◌≤◌, ◌↔◌, Bool, true, false, List, [], ◌∷◌, ◌++◌, length, set, slice_index, refl, sym, ◌∙◌, ap, subst}
use Rattle.std.proofs.Common.{arith}
use Rattle.std.proofs.Math.Logic.{∥∥₁_elim}
use Rattle.std.proofs.Props.{props}
use Rattle.std.proofs.lemmas.Grind.{merely}
use Rattle.std.specs.Prelude.{IsTrue}
use Rattle.shape_terms.specs.Points.{Point, in_box, box_count, raster_number, raster_point}
use Rattle.shape_terms.specs.Pictures.{Picture, at, object_points, with_value}
use Rattle.shape_terms.specs.Adjacency.{near_point}
use Rattle.shape_terms.specs.Parts.{Object}
use Rattle.shape_terms.specs.Simple.{IsSimple}
use Rattle.shape_terms.proofs.ObjectPlaces.{object_in_box}
use Rattle.shape_terms.proofs.Boxes.{raster_number-raster_point}
use Rattle.shape_terms.specs.Thinning.{Rule, Event, ThinsTo, without}
use Rattle.shape_terms.proofs.OneValue.{value_there, value_elsewhere}
use Rattle.shape_adj.specs.NearMasks.{In, near_total}
use Rattle.shape_rules.specs.FactsOf.{facts_of}
use Rattle.shape_queue.specs.declared.key.Key.{Key}
use Rattle.shape_queue.specs.Ranks.{background, key_at, rank_in}
use Rattle.shape_queue.specs.Waiting.{IsQueue, IsQueueBut, Put}
use Rattle.shape_queue.specs.Standing.{IsSubset}
use Rattle.shape_queue.specs.Events.{event_by}
use Rattle.shape_queue.specs.Going.{Reach, stage_of, IsFrontOf, IsGoing}
use Rattle.shape_queue.proofs.StageSteps.{still_ahead}
use Rattle.shape_queue.proofs.PassSteps.{front_skipped, front_met, one_reached}
use Rattle.shape_queue.proofs.GoingSteps.{key_place, at_reached, one_reached_less, front_marked, deleted_stands_at, front_deleted, going_marked, going_deleted}
use Rattle.shape_thin.specs.declared.next.Next.{Next}
use Rattle.shape_thin.specs.Fitting.{IsSomeFront, AreFitting}
use Rattle.shape_thin.specs.Fronts.{IsTakenOut}
use Rattle.shape_thin.specs.Standing.{key_of, IsNextIn}

-- an object point of the picture without q is one of the picture
was_object : (Y : Picture) (q r : Point) → length Y.values ≡ box_count Y.sides → IsTrue (in_box Y.sides q) → Object (without Y q) r → Object Y r
was_object Y q r filled b o =
    let other : r ≢ q = λ e. (let t : true ≡ false = sym o ∙ ap (at (without Y q)) e ∙ value_there Y q false filled b in cc) in
    sym (value_elsewhere Y q r false b other) ∙ o

-- ---- of a front

-- at each stage with these points left where f is a front, g is one too
abbrev pub StaysFront : Picture → Reach → Reach → Type 0
StaysFront left f g = (X : Picture) (marked : List Point) (state : List ℕ) → IsFrontOf X (stage_of left marked state) f
    → IsFrontOf X (stage_of left marked state) g

-- before the first event the picture is left
pub started : {X left : Picture} {f : Reach} → left ≡ X → ((state : List ℕ) → IsFrontOf X (stage_of X [] state) f) → (state : List ℕ)
    → IsFrontOf X (stage_of left [] state) f
started {X} {f = f} e front state = subst (λ (Y : Picture). IsFrontOf X (stage_of Y [] state) f) (sym e) (front state)

pub started_thins : {X left : Picture} (by : Rule) → left ≡ X → ThinsTo by X [] (stage_of left [] by.opening)
started_thins {X} by e = subst (λ (Y : Picture). ThinsTo by X [] (stage_of Y [] by.opening)) (sym e) refl

-- the next place is passed, and its point, which is left, is asked whether it is simple
pub front_reached : {left : Picture} {f : Reach} (i : ℕ) → i < length f.distances → rank_in f.distances i ≡ f.passed → Object left (raster_point left.sides i)
    → (new : Key → Bool) (b : Bool) → (b ≡ true) ↔ IsSimple left (raster_point left.sides i) → Put f.keys new (key_at f.distances i) b
    → (reached' : Picture) → reached' ≡ record { sides = f.reached.sides; values = set f.reached.values i true }
    → (ds' : List ℕ) → ds' ≡ f.distances → (n : ℕ) → n + 1 ≡ f.ahead
    → StaysFront left f (record { reached = reached'; distances = ds'; keys = new; passed = f.passed + 1; ahead = n })
front_reached {left} {f} i l rank there new b is put reached' r ds' d n c X marked state h =
    let m : i < box_count X.sides = omega (arith, l, h.stands.listed) in
    let q : raster_point left.sides i ≡ raster_point X.sides i = ap (λ z. raster_point z i) h.stands.sides in
    let e : record { sides = f.reached.sides; values = set f.reached.values i true } ≡ with_value f.reached (raster_point X.sides i) true =
    ap (λ z. record { sides = f.reached.sides; values = set f.reached.values z true })
    (sym (ap (λ z. raster_number z (raster_point X.sides i)) (h.stands.reached_sides ∙ h.stands.sides) ∙ raster_number-raster_point X.sides i m)) in
    subst (λ ds. IsFrontOf X (stage_of left marked state) (record { reached = reached'; distances = ds; keys = new; passed = f.passed + 1; ahead = n })) (sym d)
    (front_met X (stage_of left marked state) f h i m rank (subst (Object left) q there) reached' (r ∙ e) new b (subst (λ r. (b ≡ true) ↔ IsSimple left r) q is)
    put n c)

-- the next place is passed, whose point is not left
pub front_gone : {left : Picture} {f : Reach} (i : ℕ) → i < length f.distances → rank_in f.distances i ≡ f.passed → at left (raster_point left.sides i) ≡ false
    → StaysFront left f (record { reached = f.reached; distances = f.distances; keys = f.keys; passed = f.passed + 1; ahead = f.ahead })
front_gone {left} {f} i l rank gone X marked state h =
    front_skipped X (stage_of left marked state) f h i (omega (arith, l, h.stands.listed)) rank
    (λ o. let t : false ≡ true = sym gone ∙ subst (Object left) (sym (ap (λ z. raster_point z i) h.stands.sides)) o in cc)

-- a front that goes on is one still
pub fits_on : {left : Picture} {f g : Reach} → StaysFront left f g → ∥ IsSomeFront left f ∥₁ → ∥ IsSomeFront left g ∥₁
fits_on on fits = ∥∥₁_elim fits (Prim.hlevel props)
    (λ a. merely (record { opening = a.opening; marked = a.marked; state = a.state; front = on a.opening a.marked a.state a.front }))

-- ---- of the parts of some thinning

pub some_fits : {left : Picture} {f : Reach} → ∥ AreFitting left f ∥₁ → ∥ IsSomeFront left f ∥₁
some_fits fits = ∥∥₁_elim fits (Prim.hlevel props) (λ a. merely a.some)

pub all_fits : {left : Picture} {f : Reach} → ∥ IsSomeFront left f ∥₁ → (((k : Key) → f.keys k ≡ false) → f.ahead ≡ 0) → ∥ AreFitting left f ∥₁
all_fits fits done = ∥∥₁_elim fits (Prim.hlevel props) (λ a. merely (record { some = a; done = done }))

pub none_ahead : {left : Picture} {f : Reach} → ∥ AreFitting left f ∥₁ → ((k : Key) → f.keys k ≡ false) → f.ahead ≡ 0
none_ahead fits none = ∥∥₁_elim fits (Prim.hlevel props) (λ a. a.done none)

module _ {left : Picture} {f : Reach} (fits : ∥ IsSomeFront left f ∥₁) where
  pub fits_filled : length f.distances ≡ box_count left.sides
  fits_filled = ∥∥₁_elim fits (Prim.hlevel props) (λ a. a.front.stands.listed ∙ sym (ap box_count a.front.stands.sides))

  pub fits_sides : f.reached.sides ≡ left.sides
  fits_sides = ∥∥₁_elim fits (Prim.hlevel props) (λ a. a.front.stands.reached_sides)

  pub fits_passed : 0 < f.ahead → f.passed < length f.distances
  fits_passed l = ∥∥₁_elim fits (Prim.hlevel props) (λ a. still_ahead a.opening (stage_of left a.marked a.state) f a.front l)

  pub fits_begun : background f.distances ≤ f.passed
  fits_begun = ∥∥₁_elim fits (Prim.hlevel props) (λ a. a.front.begun)

  -- the place of the next rank
  module _ (i : ℕ) (l : i < length f.distances) (rank : rank_in f.distances i ≡ f.passed) (there : Object left (raster_point left.sides i)) where
    pub fits_reached : length (object_points (record { sides = f.reached.sides; values = set f.reached.values i true })) ≡ length (object_points f.reached) + 1
    fits_reached = ∥∥₁_elim fits (Prim.hlevel props) (λ a.
        let m : i < box_count a.opening.sides = omega (arith, l, a.front.stands.listed) in
        let o = subst (λ n. Object left (raster_point n i)) a.front.stands.sides there in
        ap (λ (Y : Picture). length (object_points Y)) (reached_at a m) ∙ one_reached a.opening (stage_of left a.marked a.state) f a.front i m rank o)
      where
        reached_at : (a : IsSomeFront left f) → i < box_count a.opening.sides
            → record { sides = f.reached.sides; values = set f.reached.values i true } ≡ with_value f.reached (raster_point a.opening.sides i) true
        reached_at a m = ap (λ n. record { sides = f.reached.sides; values = set f.reached.values n true })
            (sym (ap (λ s. raster_number s (raster_point a.opening.sides i)) (a.front.stands.reached_sides ∙ a.front.stands.sides)
            ∙ raster_number-raster_point a.opening.sides i m))

  module _ (k : Key) (there : f.keys k ≡ true) where
    pub fits_place : k.place < box_count left.sides
    fits_place = ∥∥₁_elim fits (Prim.hlevel props) (λ a. key_place a.opening a.marked a.state left f a.front k there)

-- ---- an event

-- n is the next point, q, and f' the front when its key was taken out
module _ {P : Type 0} {left : Picture} {f f' : Reach} {n : Next P} {q : Point} (next : IsNextIn left f.keys n q) (taken : IsTakenOut (key_of n) f f') where
  same_reach : f' ≡ record { reached = f'.reached; distances = f.distances; keys = f'.keys; passed = f.passed; ahead = f.ahead }
  same_reach = λ i. record { reached = f'.reached; distances = taken.distances i; keys = f'.keys; passed = taken.passed i; ahead = taken.ahead i }

  -- what is reached then is without q
  reached_without : f.reached.sides ≡ left.sides → f'.reached ≡ without f.reached q
  reached_without s = taken.reached ∙ ap (without f.reached) (ap (λ z. raster_point z n.place) s ∙ sym next.place)

  module _ (a : IsSomeFront left f) where
    less : f'.reached ≡ without f.reached q
    less = reached_without a.front.stands.reached_sides

    was_left : (r : Point) → Object f'.reached r → Object left r
    was_left r o =
        let b = object_in_box f.reached q (at_reached a.opening a.marked a.state left f a.front (key_of n) next.there q next.place) in
        ((a.front.stands.reached_is r).0 (was_object f.reached q r a.front.stands.reached_filled b (subst (λ (Y : Picture). Object Y r) less o))).0

  pub one_less : ∥ IsSomeFront left f ∥₁ → length (object_points f'.reached) + 1 ≡ length (object_points f.reached)
  one_less fits = ∥∥₁_elim fits (Prim.hlevel props)
      (λ a. one_reached_less a.opening a.marked a.state left f a.front (key_of n) next.there q next.place f'.reached (less a))

  -- q is marked
  marked_front : (X : Picture) (marked : List Point) (state state' : List ℕ) → IsFrontOf X (stage_of left marked state) f
      → IsFrontOf X (stage_of left (q ∷ marked) state') f'
  marked_front X marked state state' h = subst (λ (g : Reach). IsFrontOf X (stage_of left (q ∷ marked) state') g) (sym same_reach)
      (front_marked X marked state left f h (key_of n) next.there q next.place f'.reached (reached_without h.stands.reached_sides) f'.keys taken.put state')

  pub marked_fits : ∥ IsSomeFront left f ∥₁ → ∥ IsSomeFront left f' ∥₁
  marked_fits fits = ∥∥₁_elim fits (Prim.hlevel props)
      (λ a. merely (record { opening = a.opening; marked = q ∷ a.marked; state = a.state; front = marked_front a.opening a.marked a.state a.state a.front }))

  pub marked_goes : {g : Reach} → StaysFront left f' g
      → (rule : Rule) (X : Picture) (events : List Event) (state : List ℕ) → IsGoing rule X events state left f → rule.marks state (facts_of n.facts) ≡ true
      → IsGoing rule X (events ++ event_by true q ∷ []) (rule.next state (facts_of n.facts)) left g
  marked_goes {g} on rule X events state h m = going_marked rule X events state left f h (key_of n) next.there q next.place next.least n.facts.neighbours
      next.near g m
      (on X (q ∷ h.marked) (rule.next state (facts_of n.facts)) (marked_front X h.marked state (rule.next state (facts_of n.facts)) h.front))

  -- q is deleted
  module _ {left' : Picture} (gone : left' ≡ without left (raster_point left.sides n.place)) where
    left_without : left' ≡ without left q
    left_without = gone ∙ ap (without left) (sym next.place)

    q_there : raster_point left'.sides n.place ≡ q
    q_there = ap (λ (Y : Picture). raster_point Y.sides n.place) gone ∙ sym next.place

    -- the parts before the near points are looked at
    module _ (fits : ∥ IsSomeFront left f ∥₁) where
      pub deleted_filled : length f'.distances ≡ box_count left'.sides
      deleted_filled = ap length taken.distances ∙ fits_filled fits ∙ sym (ap (λ (Y : Picture). box_count Y.sides) gone)

      pub deleted_sides : f'.reached.sides ≡ left'.sides
      deleted_sides = ap (λ (Y : Picture). Y.sides) taken.reached ∙ fits_sides fits ∙ sym (ap (λ (Y : Picture). Y.sides) gone)

      pub deleted_some : IsSubset f'.reached left'
      deleted_some r o = ∥∥₁_elim fits (Prim.hlevel props) (λ a.
          let s = deleted_stands_at a.opening a.marked a.state left f a.front (key_of n) next.there q next.place f'.reached
          (less a) f'.keys taken.put a.state left' left_without in
          ((s.reached_is r).0 o).0)

      -- each point that is reached has a distance of 1 or more
      pub deleted_far : (i : ℕ) → i < box_count left'.sides → Object f'.reached (raster_point left'.sides i) → 0 < slice_index f'.distances i
      deleted_far i l o = ∥∥₁_elim fits (Prim.hlevel props) (λ a.
          let s = deleted_stands_at a.opening a.marked a.state left f a.front (key_of n) next.there q next.place f'.reached
          (less a) f'.keys taken.put a.state left' left_without in
          let d = s.some (raster_point left'.sides i) ((s.reached_is (raster_point left'.sides i)).0 o).0 in
          let e = ap (λ z. raster_number z (raster_point left'.sides i)) (sym s.sides) ∙ raster_number-raster_point left'.sides i l in
          let h = ap (slice_index f'.distances) e in
          let k = ap (λ ds. slice_index ds (raster_number a.opening.sides (raster_point left'.sides i))) taken.distances in
          omega (arith, d, h, k))

      -- the mask of q has each near neighbour that is reached
      pub deleted_masked : (j : ℕ) → j < near_total (length q) → Object f'.reached (near_point (raster_point left'.sides n.place) j) → In n.mask j
      deleted_masked j l o = (next.mask j).1 (
        l,
        ∥∥₁_elim fits (Prim.hlevel props)
            (λ a. was_left a (near_point q j) (subst (λ (r : Point). Object f'.reached (near_point r j)) q_there o)),
      )

    -- and after that
    module _ {last : Key → Bool} {ds : List ℕ} (same : ds ≡ f'.distances)
        (looked : (passed : ℕ) → IsQueueBut (raster_point left'.sides n.place) passed left' f'.reached f'.distances f'.keys
        → IsQueue passed left' f'.reached f'.distances last) where
      abbrev after : Reach
      after = record { reached = f'.reached; distances = ds; keys = last; passed = f'.passed; ahead = f'.ahead }

      looked_there : IsQueueBut q f.passed left' f'.reached f.distances f'.keys → IsQueue f.passed left' f'.reached f.distances last
      looked_there = subst (λ (xs : List ℕ). IsQueueBut q f.passed left' f'.reached xs f'.keys → IsQueue f.passed left' f'.reached xs last) taken.distances
          (subst (λ (p : Point). IsQueueBut p f.passed left' f'.reached f'.distances f'.keys → IsQueue f.passed left' f'.reached f'.distances last) q_there
          (looked f.passed))

      deleted_front : (X : Picture) (marked : List Point) (state state' : List ℕ) → IsFrontOf X (stage_of left marked state) f
          → IsFrontOf X (stage_of left' marked state') after
      deleted_front X marked state state' h = subst (λ (g : Reach). IsFrontOf X (stage_of left' marked state') g)
          (λ i. record {
            reached = f'.reached;
            distances = sym (same ∙ taken.distances) i;
            keys = last;
            passed = sym taken.passed i;
            ahead =
                sym taken.ahead i;
          })
          (front_deleted X marked state left f h (key_of n) next.there q next.place f'.reached (reached_without h.stands.reached_sides) f'.keys taken.put state'
          left' left_without last looked_there)

      pub deleted_fits : ∥ IsSomeFront left f ∥₁ → ∥ IsSomeFront left' after ∥₁
      deleted_fits fits = ∥∥₁_elim fits (Prim.hlevel props)
          (λ a. merely (record { opening = a.opening; marked = a.marked; state = a.state; front = deleted_front a.opening a.marked a.state a.state a.front }))

      pub deleted_goes : {g : Reach} → StaysFront left' after g
          → (rule : Rule) (X : Picture) (events : List Event) (state : List ℕ) → IsGoing rule X events state left f
          → rule.marks state (facts_of n.facts) ≡ false
          → IsGoing rule X (events ++ event_by false q ∷ []) (rule.next state (facts_of n.facts)) left' g
      deleted_goes {g} on rule X events state h m = going_deleted rule X events state left f h (key_of n) next.there q next.place next.least n.facts.neighbours
          next.near
          g left' left_without m
          (on X h.marked (rule.next state (facts_of n.facts)) (deleted_front X h.marked state (rule.next state (facts_of n.facts)) h.front))
