-- The queue and the stage of a thinning: its least key is the next point, and how both go on when that is deleted or marked.
-- Laws over pictures, stages and keys alone.
use Rattle.std.proofs.Common.{◌≡◌, ◌≢◌, ◌⊎◌, inl, inr, ℕ, zero, suc, ◌<◌, ◌≤◌, Bool, true, false, List, [], ◌∷◌, length, get_or, slice_index, refl, sym, ◌∙◌}
use Rattle.std.proofs.Common.{ap, subst, arith}
use Rattle.std.specs.Prelude.{IsTrue, Contains}
use Rattle.std.specs.Ordering.{is_gt, nat_cmp}
use Rattle.std.specs.declared.cmp.Ordering.TheVariants.{Less}
use Rattle.std.proofs.lemmas.List.{length-set}
use Rattle.std.proofs.lemmas.Bool.{cases_lt}
use Rattle.std.proofs.lemmas.Bool.Decides.{nat_tests}
use native.Mathlib.Decide.{ℕ_discrete}
use Rattle.shape_terms.specs.Points.{Point, in_box, box_count, raster_number, raster_point}
use Rattle.shape_terms.specs.Steps.{Before}
use Rattle.shape_terms.specs.Pictures.{Picture, at, object_points}
use Rattle.shape_terms.specs.Adjacency.{Near}
use Rattle.shape_terms.specs.Parts.{Object}
use Rattle.shape_terms.specs.Simple.{IsSimple}
use Rattle.shape_terms.specs.Thinning.{Stage, IsCandidate, IsNext, IsThinned, HasDistance, near_count, without}
use Rattle.shape_terms.proofs.Boxes.{raster_below, raster_point_in, raster_number-raster_point, raster_point-raster_number}
use Rattle.shape_terms.proofs.BoxLists.{objects_are}
use Rattle.shape_terms.proofs.RasterOrder.{raster_rises}
use Rattle.shape_terms.proofs.ObjectPlaces.{object_in_box}
use Rattle.shape_terms.proofs.AdjacencySymmetric.{near_sym}
use Rattle.shape_terms.proofs.OneValue.{value_there, value_elsewhere}
use Rattle.shape_terms.proofs.SimpleNear.{simple_alike}
use Rattle.shape_terms.proofs.ThinningOnce.{one_distance}
use Rattle.shape_queue.specs.declared.key.Key.{Key}
use Rattle.shape_queue.specs.Keys.{key_cmp}
use Rattle.shape_queue.specs.Waiting.{MayBeTaken, Waits, Put}
use Rattle.shape_queue.specs.Ranks.{key_at, rank_in, Precedes}
use Rattle.shape_queue.specs.Standing.{IsPassed, IsAhead, Stands, AreAhead}
use Rattle.shape_queue.specs.Going.{Reach, IsFrontOf}
use Rattle.shape_queue.proofs.RankLaws.{rank_small}
use Rattle.shape_queue.proofs.RankPlaces.{rank_orders}
use Rattle.shape_terms.proofs.ObjectLists.{object_listed}
use Rattle.shape_queue.proofs.WaitingSteps.{taken_is, taken_least, taken_out}

nat_less : (a b : ℕ) → a < b → nat_cmp a b ≡ Less
nat_less a b l = grind (arith, nat_tests)

-- the point of the lower place stands before that of the higher
in_order : (sides : List ℕ) (i j : ℕ) → i < box_count sides → j < box_count sides → i ≤ j → Before (raster_point sides i) (raster_point sides j)
    ⊎ (raster_point sides i ≡ raster_point sides j)
in_order sides i j a b l = elim (ℕ_discrete i j) [
  | yes e ↦ inr (ap (raster_point sides) e)
  | no n ↦ inl (
      raster_rises sides (raster_point sides i) (raster_point sides j) (raster_point_in sides i a) (raster_point_in sides j b)
      ∙ (rw (raster_number-raster_point sides i a, raster_number-raster_point sides j b) (nat_less i j (omega arith))))
]

module _ (X : Picture) (s : Stage) (f : Reach) (h : IsFrontOf X s f) where
  st : Stands X s f.reached f.distances f.passed
  st = h.stands

  -- an object point and its place
  pub of_object : (q : Point) → Object s.left q → (raster_number X.sides q < box_count X.sides) × (raster_point X.sides (raster_number X.sides q) ≡ q)
  of_object q o =
      let b : IsTrue (in_box X.sides q) = subst (λ n. IsTrue (in_box n q)) st.sides (object_in_box s.left q o) in
      (raster_below X.sides q b, raster_point-raster_number X.sides q b)

  -- a candidate is ahead, or waits
  candidate_of : (q : Point) → IsCandidate s q → (IsAhead f.distances f.passed (raster_number X.sides q) → ⊥)
      → MayBeTaken X.sides s.left f.reached (raster_number X.sides q)
  candidate_of q c n =
      let e = sym (of_object q c.object).1 in
      (subst (Object f.reached) e ((st.reached_is q).1 (c.object, c.unmarked, omega (arith, n))), subst (IsSimple s.left) e c.simple)

  of_candidate : (i : ℕ) → MayBeTaken X.sides s.left f.reached i → IsCandidate s (raster_point X.sides i)
  of_candidate i m = let o = (st.reached_is (raster_point X.sides i)).0 m.0 in record { object = o.0; unmarked = o.1; simple = m.1 }

  -- what is reached is not ahead
  reached_passed : (i : ℕ) → i < box_count X.sides → Object f.reached (raster_point X.sides i) → IsAhead f.distances f.passed i → ⊥
  reached_passed i l o a =
      let p : IsPassed f.distances f.passed (raster_number X.sides (raster_point X.sides i)) = ((st.reached_is (raster_point X.sides i)).0 o).2 in
      let e = raster_number-raster_point X.sides i l in
      let q : IsPassed f.distances f.passed i = subst (IsPassed f.distances f.passed) e p in omega arith

  -- a point of those left that is ahead is counted
  some_ahead : (q : Point) → Object s.left q → IsAhead f.distances f.passed (raster_number X.sides q) → 0 < f.ahead
  some_ahead q o a =
      let r = h.rest in
      let c = object_listed r.points q ((r.points_are q).1 (o, subst (λ n. IsAhead f.distances f.passed (raster_number n q)) (sym st.sides) a)) in
      omega (arith, r.counted, c.1)

  -- one that is counted: there is a place ahead
  pub still_ahead : 0 < f.ahead → f.passed < length f.distances
  still_ahead l =
      let r = h.rest in
      let q = get_or (object_points r.points) 0 [] in
      let o : Object r.points q = objects_are r.points 0 [] (omega (arith, r.counted)) in
      let t = (r.points_are q).0 o in
      let p = of_object q t.0 in
      let a : IsAhead f.distances f.passed (raster_number X.sides q) = subst (λ n. IsAhead f.distances f.passed (raster_number n q)) st.sides t.1 in
      let k = rank_small f.distances (raster_number X.sides q) (omega (arith, p.0, st.listed)) in
      omega (arith, a, k)

  -- no key, and nothing ahead: no candidate
  pub none_waits : ((k : Key) → f.keys k ≡ false) → f.ahead ≡ 0 → IsThinned s
  none_waits none e q c =
      let o = of_object q c.object in
      let n : IsAhead f.distances f.passed (raster_number X.sides q) → ⊥ = λ a. let l = some_ahead q c.object a in omega arith in
      let t = (h.waits.settled (raster_number X.sides q) o.0 n).1 (candidate_of q c n) in
      let g : false ≡ true = sym (none (key_at f.distances (raster_number X.sides q))) ∙ t in cc

  module _ (k : Key) (there : f.keys k ≡ true) where
    here : IsAhead f.distances f.passed k.place → ⊥
    here = let p = h.waits.proper k there in reached_passed k.place p.0 p.1

    taken : (k.place < box_count X.sides) × MayBeTaken X.sides s.left f.reached k.place × (k.distance ≡ slice_index f.distances k.place)
    taken = taken_is X.sides s.left f.reached f.distances (IsAhead f.distances f.passed) f.keys h.waits k there here

    pub taken_place : k.place < box_count X.sides
    taken_place = taken.0

    taken_object : Object s.left (raster_point X.sides k.place)
    taken_object = ((st.reached_is (raster_point X.sides k.place)).0 taken.1.0).0

    pub taken_reached : Object f.reached (raster_point X.sides k.place)
    taken_reached = taken.1.0

    -- the least key comes before each place that is ahead, and before each that may be taken
    key_first : ((q : Key) → f.keys q ≡ true → is_gt (key_cmp k q) ≡ false) → (q : Point) → IsCandidate s q
        → (k.distance < slice_index f.distances (raster_number X.sides q))
        ⊎ ((k.distance ≡ slice_index f.distances (raster_number X.sides q)) × (k.place ≤ raster_number X.sides q))
    key_first least q c =
        let i = raster_number X.sides q in
        let o = of_object q c.object in
        elim (cases_lt (rank_in f.distances i) f.passed) [
          | inl l ↦ taken_least X.sides s.left f.reached f.distances (IsAhead f.distances f.passed) f.keys h.waits k there here least i o.0 (λ a. omega arith)
              (candidate_of q c (λ a. omega arith))
          | inr m ↦ ahead_later i o.0 m
        ]
      where
        ahead_later : (i : ℕ) → i < box_count X.sides → IsAhead f.distances f.passed i → (k.distance < slice_index f.distances i)
            ⊎ ((k.distance ≡ slice_index f.distances i) × (k.place ≤ i))
        ahead_later i l a =
            let r : rank_in f.distances k.place < rank_in f.distances i = (let g = here in omega (arith, g, a)) in
            later (rank_orders f.distances k.place i (omega (arith, taken.0, st.listed)) (omega (arith, st.listed)) r)
          where
            later : Precedes f.distances k.place i → (k.distance < slice_index f.distances i) ⊎ ((k.distance ≡ slice_index f.distances i) × (k.place ≤ i))
            later (inl b) = inl (omega (arith, taken.2, b))
            later (inr b) = inr (taken.2 ∙ b.0, omega (arith, b.1))

    -- the least key is that of the next point
    pub taken_next : ((q : Key) → f.keys q ≡ true → is_gt (key_cmp k q) ≡ false) → (n : ℕ) → n ≡ near_count s.left (raster_point X.sides k.place)
        → IsNext X s (raster_point X.sides k.place) (record { neighbours = n; distance = k.distance })
    taken_next least n e = record {
      candidate = of_candidate k.place taken.1;
      distance = subst (HasDistance X (raster_point X.sides k.place)) (ap (slice_index f.distances) (raster_number-raster_point X.sides k.place taken.0) ∙
          sym taken.2) (st.distance (raster_point X.sides k.place) taken_object);
      neighbours = e;
      least = λ q d c g.
          let o = of_object q c.object in
          let same : slice_index f.distances (raster_number X.sides q) ≡ d = one_distance X q (slice_index f.distances (raster_number X.sides q)) d
          (st.distance q c.object) g in
          by_order q d o.0 o.1 same (key_first least q c);
    }
      where
        by_order : (q : Point) (d : ℕ) → raster_number X.sides q < box_count X.sides → raster_point X.sides (raster_number X.sides q) ≡ q
            → slice_index f.distances (raster_number X.sides q) ≡ d
            → (k.distance < slice_index f.distances (raster_number X.sides q))
            ⊎ ((k.distance ≡ slice_index f.distances (raster_number X.sides q)) × (k.place ≤ raster_number X.sides q))
            → (k.distance < d) ⊎ ((k.distance ≡ d) × (Before (raster_point X.sides k.place) q ⊎ (raster_point X.sides k.place ≡ q)))
        by_order q d l same e (inl g) = inl (omega arith)
        by_order q d l same e (inr g) = inr (
          g.0 ∙ e,
          subst (λ r. Before (raster_point X.sides k.place) r ⊎ (raster_point X.sides k.place ≡ r)) same
              (in_order X.sides k.place (raster_number X.sides q) taken_place l g.1),
        )

    in_left : IsTrue (in_box s.left.sides (raster_point X.sides k.place))
    in_left = object_in_box s.left (raster_point X.sides k.place) taken_object

    in_reached : IsTrue (in_box f.reached.sides (raster_point X.sides k.place))
    in_reached = object_in_box f.reached (raster_point X.sides k.place) taken_reached

    not_that : (q : Point) → Object (without f.reached (raster_point X.sides k.place)) q → q ≢ raster_point X.sides k.place
    not_that q o e =
        let z = value_there f.reached (raster_point X.sides k.place) false st.reached_filled in_reached in
        let t : true ≡ false = sym o ∙ ap (at (without f.reached (raster_point X.sides k.place))) e ∙ z in cc

    was_reached : (q : Point) → Object (without f.reached (raster_point X.sides k.place)) q → Object f.reached q
    was_reached q o = sym (value_elsewhere f.reached (raster_point X.sides k.place) q false in_reached (not_that q o)) ∙ o

    still_reached : (q : Point) → q ≢ raster_point X.sides k.place → Object f.reached q → Object (without f.reached (raster_point X.sides k.place)) q
    still_reached q n o = value_elsewhere f.reached (raster_point X.sides k.place) q false in_reached n ∙ o

    -- the point is no more ahead
    here_passed : IsPassed f.distances f.passed (raster_number X.sides (raster_point X.sides k.place))
    here_passed = ((st.reached_is (raster_point X.sides k.place)).0 taken_reached).2

    left_stays : (q : Point) → q ≢ raster_point X.sides k.place → at (without s.left (raster_point X.sides k.place)) q ≡ at s.left q
    left_stays q n = value_elsewhere s.left (raster_point X.sides k.place) q false in_left n

    other : (q : Point) → Object (without s.left (raster_point X.sides k.place)) q → q ≢ raster_point X.sides k.place
    other q o e =
        let z = value_there s.left (raster_point X.sides k.place) false st.filled in_left in
        let t : true ≡ false = sym o ∙ ap (at (without s.left (raster_point X.sides k.place))) e ∙ z in cc

    -- the point is deleted
    pub deleted_stands : (state : List ℕ) → Stands X (record { left = without s.left (raster_point X.sides k.place); marked = s.marked; state = state })
        (without f.reached (raster_point X.sides k.place)) f.distances f.passed
    deleted_stands state = record {
      sides = st.sides;
      filled = length-set s.left.values (raster_number s.left.sides (raster_point X.sides k.place)) false ∙ st.filled;
      listed = st.listed;
      reached_sides = st.reached_sides;
      reached_filled = length-set f.reached.values (raster_number f.reached.sides (raster_point X.sides k.place)) false ∙ st.reached_filled;
      reached_is = λ q. (
        (λ o. let g = (st.reached_is q).0 (was_reached q o) in (left_stays q (not_that q o) ∙ g.0, g.1, g.2)),
        λ o. let n = other q o.0 in still_reached q n ((st.reached_is q).1 (sym (left_stays q n) ∙ o.0, o.1, o.2)),
      );
      unmarked = st.unmarked;
      distance = λ q o. st.distance q (sym (left_stays q (other q o)) ∙ o);
      some = λ q o. st.some q (sym (left_stays q (other q o)) ∙ o);
    }

    -- as many points are ahead
    pub deleted_ahead : AreAhead (without s.left (raster_point X.sides k.place)) f.distances f.passed f.ahead
    deleted_ahead = record {
      points = h.rest.points;
      sides = h.rest.sides;
      filled = h.rest.filled;
      points_are = λ q. (
        (λ o. let g = (h.rest.points_are q).0 o in
            (left_stays q (away_ahead q (subst (λ n. IsAhead f.distances f.passed (raster_number n q)) st.sides g.1)) ∙ g.0, g.1)),
        λ o. (h.rest.points_are q).1 (sym (left_stays q (other q o.0)) ∙ o.0, o.1),
      );
      counted = h.rest.counted;
    }
      where
        away_ahead : (q : Point) → IsAhead f.distances f.passed (raster_number X.sides q) → q ≢ raster_point X.sides k.place
        away_ahead q a e = let p = subst (λ r. IsPassed f.distances f.passed (raster_number X.sides r)) (sym e) here_passed in omega (arith, p, a)

    -- the point is marked
    pub marked_stands : (state : List ℕ) → Stands X (record { left = s.left; marked = raster_point X.sides k.place ∷ s.marked; state = state })
        (without f.reached (raster_point X.sides k.place)) f.distances f.passed
    marked_stands state = record {
      sides = st.sides;
      filled = st.filled;
      listed = st.listed;
      reached_sides = st.reached_sides;
      reached_filled = length-set f.reached.values (raster_number f.reached.sides (raster_point X.sides k.place)) false ∙ st.reached_filled;
      reached_is = λ q. (
        (λ o. let g = (st.reached_is q).0 (was_reached q o) in (g.0, not_now q (not_that q o) g.1, g.2)),
        λ o. still_reached q (λ e. o.1 (0, omega arith, sym e)) ((st.reached_is q).1 (o.0, (λ c. o.1 (later c)), o.2)),
      );
      unmarked = λ q a. not_now q (λ e. let p = subst (λ r. IsPassed f.distances f.passed (raster_number X.sides r)) (sym e) here_passed in omega (arith, p, a))
          (st.unmarked q a);
      distance = st.distance;
      some = st.some;
    }
      where
        later : {q : Point} → Contains s.marked q → Contains (raster_point X.sides k.place ∷ s.marked) q
        later (i, l, e) = (suc i, omega arith, e)

        not_now : (q : Point) → q ≢ raster_point X.sides k.place → (Contains s.marked q → ⊥) → Contains (raster_point X.sides k.place ∷ s.marked) q → ⊥
        not_now q n g (zero, l, e) = n (sym e)
        not_now q n g (suc i, l, e) = g (i, omega arith, e)

    away : (i : ℕ) → i ≢ k.place → i < box_count X.sides → raster_point X.sides i ≢ raster_point X.sides k.place
    away i n l e = n (sym (raster_number-raster_point X.sides i l) ∙ ap (raster_number X.sides) e ∙ raster_number-raster_point X.sides k.place taken_place)

    gone : Object (without f.reached (raster_point X.sides k.place)) (raster_point X.sides k.place) → ⊥
    gone o = not_that (raster_point X.sides k.place) o refl

    -- the queue after a mark
    pub marked_waits : (new : Key → Bool) → Put f.keys new k false
        → Waits X.sides s.left (without f.reached (raster_point X.sides k.place)) f.distances (IsAhead f.distances f.passed) new
    marked_waits new put = taken_out X.sides s.left f.reached f.distances (IsAhead f.distances f.passed) f.keys h.waits k there here
        s.left (without f.reached (raster_point X.sides k.place)) (IsAhead f.distances f.passed) new put (λ i a. a)
        (λ i n l o. still_reached (raster_point X.sides i) (away i n l) o) gone
        (λ i n l g. ((λ m. (still_reached (raster_point X.sides i) (away i n l) m.0, m.1)), λ m. (was_reached (raster_point X.sides i) m.0, m.1)))

    -- the queue after a deletion: the near neighbours are to be asked anew
    pub deleted_waits : (new : Key → Bool) → Put f.keys new k false → Waits X.sides (without s.left (raster_point X.sides k.place))
        (without f.reached (raster_point X.sides k.place)) f.distances
        (λ i. IsAhead f.distances f.passed i ⊎ Near (raster_point X.sides k.place) (raster_point X.sides i)) new
    deleted_waits new put = taken_out X.sides s.left f.reached f.distances (IsAhead f.distances f.passed) f.keys h.waits k there here
        (without s.left (raster_point X.sides k.place))
        (without f.reached (raster_point X.sides k.place)) (λ i. IsAhead f.distances f.passed i ⊎ Near (raster_point X.sides k.place) (raster_point X.sides i))
        new put (λ i a. inl a)
        (λ i n l o. still_reached (raster_point X.sides i) (away i n l) o) gone
        (λ i n l g. (
          (λ m. (
            still_reached (raster_point X.sides i) (away i n l) m.0,
            simple_alike s.left (without s.left (raster_point X.sides k.place))
                (raster_point X.sides i) refl (λ q o. sym (same i (λ z. g (inr z)) q o)) m.1,
          )),
          λ m. (
            was_reached (raster_point X.sides i) m.0,
            simple_alike (without s.left (raster_point X.sides k.place)) s.left (raster_point X.sides i) refl
                (same i (λ z. g (inr z))) m.1,
          ),
        ))
      where
        same : (i : ℕ) → (Near (raster_point X.sides k.place) (raster_point X.sides i) → ⊥) → (q : Point) → Near (raster_point X.sides i) q
            → at (without s.left (raster_point X.sides k.place)) q ≡ at s.left q
        same i g q o = value_elsewhere s.left (raster_point X.sides k.place) q false in_left
            (λ e. g (near_sym (raster_point X.sides i) (raster_point X.sides k.place) (subst (Near (raster_point X.sides i)) e o)))
