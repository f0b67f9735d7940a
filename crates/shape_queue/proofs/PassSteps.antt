-- The front of a thinning while one more place is passed, in the order of the keys.
-- Laws over pictures, stages and keys alone.
use Rattle.std.proofs.Common.{◌≡◌, ◌≢◌, ◌⊎◌, inl, inr, ℕ, ◌+◌, ◌<◌, ◌↔◌, Bool, true, false, cond, length, get_or, refl, sym, ◌∙◌, ap, subst, arith}
use Rattle.std.specs.Prelude.{IsTrue, Contains}
use Rattle.std.proofs.lemmas.Bool.{cases_lt}
use Rattle.std.proofs.lemmas.List.{length-set}
use Rattle.std.proofs.lemmas.List.Sums.{sum_by-set}
use Rattle.shape_terms.specs.Points.{Point, in_box, box_count, raster_number, raster_point}
use Rattle.shape_terms.specs.Pictures.{Picture, at, object_points, with_value}
use Rattle.shape_terms.specs.Parts.{Object}
use Rattle.shape_terms.specs.Simple.{IsSimple}
use Rattle.shape_terms.specs.Thinning.{Stage, without}
use Rattle.shape_terms.proofs.PointTests.{same_point}
use Rattle.shape_terms.proofs.Boxes.{raster_below, raster_number-raster_point}
use Rattle.shape_terms.proofs.BoxLists.{object_count}
use Rattle.shape_terms.proofs.ObjectPlaces.{object_in_box}
use Rattle.shape_terms.proofs.OneValue.{value_there, value_gone, value_elsewhere, one_object_less}
use Rattle.shape_queue.specs.declared.key.Key.{Key}
use Rattle.shape_queue.specs.Ranks.{key_at, rank_in}
use Rattle.shape_queue.specs.Waiting.{Waits, Put}
use Rattle.shape_queue.specs.Standing.{IsPassed, IsAhead, Stands, AreAhead}
use Rattle.shape_queue.specs.Going.{Reach, IsFrontOf}
use Rattle.shape_queue.proofs.RankPlaces.{rank_one}
use Rattle.shape_queue.proofs.StageSteps.{of_object}
use Rattle.shape_queue.proofs.WaitingSteps.{settled_more, passed_more, reached_more}

-- one object point more
pub one_object_more : (X : Picture) (p : Point) → length X.values ≡ box_count X.sides → IsTrue (in_box X.sides p) → (IsTrue (at X p) → ⊥)
    → length (object_points (with_value X p true)) ≡ length (object_points X) + 1
one_object_more X p filled inside n =
    let l = raster_below X.sides p inside in
    let a = object_count X filled in
    let b = object_count (with_value X p true) (length-set X.values (raster_number X.sides p) true ∙ filled) in
    let s = sum_by-set (λ b. cond b 1 0) X.values (raster_number X.sides p) true false (omega arith) in
    let t : ◌≡◌ {A = ℕ} (cond (get_or X.values (raster_number X.sides p) false) 1 0) 0 = none (get_or X.values (raster_number X.sides p) false)
    (λ e. n (rw inside e)) in
    omega arith
  where
    none : (b : Bool) → (b ≡ true → ⊥) → ◌≡◌ {A = ℕ} (cond b 1 0) 0
    none false n = refl
    none true n = absurd (n refl)

-- the place is the next one in the order of the keys
module _ (X : Picture) (s : Stage) (f : Reach) (h : IsFrontOf X s f) (i : ℕ) (l : i < box_count X.sides) (rank : rank_in f.distances i ≡ f.passed) where
  st : Stands X s f.reached f.distances f.passed
  st = h.stands

  -- what is passed now was passed before, or is that place
  passed_now : (j : ℕ) → j < box_count X.sides → IsPassed f.distances (f.passed + 1) j → IsPassed f.distances f.passed j ⊎ (j ≡ i)
  passed_now j m p = elim (cases_lt (rank_in f.distances j) f.passed) [
    | inl a ↦ inl a
    | inr a ↦ inr (rank_one f.distances j i (omega (arith, st.listed)) (omega (arith, st.listed)) (omega (arith, a, p, rank)))
  ]

  -- what was ahead is ahead still, but for that place
  ahead_still : (j : ℕ) → j < box_count X.sides → j ≢ i → IsAhead f.distances f.passed j → IsAhead f.distances (f.passed + 1) j
  ahead_still j m n a = elim (cases_lt f.passed (rank_in f.distances j)) [
    | inl b ↦ omega (arith, b)
    | inr b ↦ absurd (n (rank_one f.distances j i (omega (arith, st.listed)) (omega (arith, st.listed)) (omega (arith, a, b, rank))))
  ]

  apart : (q : Point) → Object s.left q → q ≢ raster_point X.sides i → raster_number X.sides q ≢ i
  apart q o n e = n (sym (of_object X s f h q o).1 ∙ ap (raster_point X.sides) e)

  elsewhere : (j : ℕ) → j < box_count X.sides → j ≢ i → raster_point X.sides j ≢ raster_point X.sides i
  elsewhere j m n e = n (sym (raster_number-raster_point X.sides j m) ∙ ap (raster_number X.sides) e ∙ raster_number-raster_point X.sides i l)

  here_ahead : IsAhead f.distances f.passed (raster_number X.sides (raster_point X.sides i))
  here_ahead = let e = ap (rank_in f.distances) (raster_number-raster_point X.sides i l) in omega (arith, e, rank)

  not_reached : Object f.reached (raster_point X.sides i) → ⊥
  not_reached o = let p = ((st.reached_is (raster_point X.sides i)).0 o).2 in let a = here_ahead in omega (arith, p, a)

  -- the point of the place is not left
  module _ (gone : Object s.left (raster_point X.sides i) → ⊥) where
    other : (q : Point) → Object s.left q → q ≢ raster_point X.sides i
    other q o e = gone (subst (Object s.left) e o)

    pub front_skipped : IsFrontOf X s (record { reached = f.reached; distances = f.distances; keys = f.keys; passed = f.passed + 1; ahead = f.ahead })
    front_skipped = record {
      stands = record {
        sides = st.sides;
        filled = st.filled;
        listed = st.listed;
        reached_sides = st.reached_sides;
        reached_filled = st.reached_filled;
        reached_is = λ q. (
          (λ o. let g = (st.reached_is q).0 o in (g.0, g.1, omega (arith, g.2))),
          λ o. elim (passed_now (raster_number X.sides q) (of_object X s f h q o.0).0 o.2) [
            | inl p ↦ (st.reached_is q).1 (o.0, o.1, p)
            | inr e ↦ absurd (apart q o.0 (other q o.0) e)
          ],
        );
        unmarked = λ q a. st.unmarked q (omega (arith, a));
        distance = st.distance;
        some = st.some;
      };
      waits = passed_more X.sides s.left f.reached f.distances (IsAhead f.distances f.passed) (IsAhead f.distances (f.passed + 1)) f.keys f.keys h.waits
          (raster_point X.sides i) not_reached
          (λ j m n a. ahead_still j m (λ e. n (ap (raster_point X.sides) e)) a);
      rest = record {
        points = h.rest.points;
        sides = h.rest.sides;
        filled = h.rest.filled;
        points_are = λ q. (
          (λ o. let g = (h.rest.points_are q).0 o in (
            g.0,
            subst (λ n. IsAhead f.distances (f.passed + 1) (raster_number n q)) (sym st.sides)
                (ahead_still (raster_number X.sides q) (of_object X s f h q g.0).0 (apart q g.0 (other q g.0))
                (subst (λ n. IsAhead f.distances f.passed (raster_number n q)) st.sides g.1)),
          )),
          λ o. (h.rest.points_are q).1 (o.0, omega (arith, o.1)),
        );
        counted = h.rest.counted;
      };
      begun = let b = h.begun in omega arith;
    }

  -- the point of the place is left: it is reached, and looked at
  module _ (there : Object s.left (raster_point X.sides i)) where
    in_reached : IsTrue (in_box f.reached.sides (raster_point X.sides i))
    in_reached = subst (λ n. IsTrue (in_box n (raster_point X.sides i))) (sym st.reached_sides) (object_in_box s.left (raster_point X.sides i) there)

    now_there : at (with_value f.reached (raster_point X.sides i) true) (raster_point X.sides i) ≡ true
    now_there = value_there f.reached (raster_point X.sides i) true st.reached_filled in_reached

    as_before : (q : Point) → q ≢ raster_point X.sides i → at (with_value f.reached (raster_point X.sides i) true) q ≡ at f.reached q
    as_before q n = value_elsewhere f.reached (raster_point X.sides i) q true in_reached n

    was_there : (q : Point) → Object f.reached q → Object (with_value f.reached (raster_point X.sides i) true) q
    was_there q o = as_before q (λ e. not_reached (subst (Object f.reached) e o)) ∙ o

    pub one_reached : length (object_points (with_value f.reached (raster_point X.sides i) true)) ≡ length (object_points f.reached) + 1
    one_reached = one_object_more f.reached (raster_point X.sides i) st.reached_filled in_reached not_reached

    in_points : Object h.rest.points (raster_point X.sides i)
    in_points = (h.rest.points_are (raster_point X.sides i)).1
        (there, subst (λ n. IsAhead f.distances f.passed (raster_number n (raster_point X.sides i))) (sym st.sides) here_ahead)

    stands_met : Stands X s (with_value f.reached (raster_point X.sides i) true) f.distances (f.passed + 1)
    stands_met = record {
      sides = st.sides;
      filled = st.filled;
      listed = st.listed;
      reached_sides = st.reached_sides;
      reached_filled = length-set f.reached.values (raster_number f.reached.sides (raster_point X.sides i)) true ∙ st.reached_filled;
      reached_is = λ q. elim (same_point q (raster_point X.sides i)) [
        | yes e ↦ (
          (λ o. (
            subst (Object s.left) (sym e) there,
            subst (λ r. Contains s.marked r → ⊥) (sym e) (st.unmarked (raster_point X.sides i) here_ahead),
            subst (λ r. IsPassed f.distances (f.passed + 1) (raster_number X.sides r)) (sym e)
                (let g = ap (rank_in f.distances) (raster_number-raster_point X.sides i l) in omega (arith, g, rank)),
          )),
          λ o. subst (Object (with_value f.reached (raster_point X.sides i) true)) (sym e) now_there,
        )
        | no n ↦ (
          (λ o. let g = (st.reached_is q).0 (sym (as_before q n) ∙ o) in (g.0, g.1, omega (arith, g.2))),
          λ o. elim (passed_now (raster_number X.sides q) (of_object X s f h q o.0).0 o.2) [
            | inl p ↦ as_before q n ∙ (st.reached_is q).1 (o.0, o.1, p)
            | inr e ↦ absurd (apart q o.0 n e)
          ],
        )
      ];
      unmarked = λ q a. st.unmarked q (omega (arith, a));
      distance = st.distance;
      some = st.some;
    }

    waits_met : (new : Key → Bool) (b : Bool) → (b ≡ true) ↔ IsSimple s.left (raster_point X.sides i) → Put f.keys new (key_at f.distances i) b
        → Waits X.sides s.left (with_value f.reached (raster_point X.sides i) true) f.distances (IsAhead f.distances (f.passed + 1)) new
    waits_met new b is put =
        let w = reached_more X.sides s.left f.reached f.distances (IsAhead f.distances f.passed) (IsAhead f.distances f.passed) f.keys f.keys h.waits i
        (with_value f.reached (raster_point X.sides i) true) (omega (arith, rank)) was_there
        (λ j n m o. sym (as_before (raster_point X.sides j) (elsewhere j m n)) ∙ o) in
        settled_more X.sides s.left (with_value f.reached (raster_point X.sides i) true) f.distances (IsAhead f.distances f.passed)
        (IsAhead f.distances (f.passed + 1)) f.keys new w i b l now_there
        ((λ t. (now_there, is.0 t)), λ m. is.1 m.1) put (λ j m n a. ahead_still j m n a)

    rest_met : (n : ℕ) → n + 1 ≡ f.ahead → AreAhead s.left f.distances (f.passed + 1) n
    rest_met n e = record {
      points = without h.rest.points (raster_point X.sides i);
      sides = h.rest.sides;
      filled = length-set h.rest.points.values (raster_number h.rest.points.sides (raster_point X.sides i)) false ∙ h.rest.filled;
      points_are = λ q. elim (same_point q (raster_point X.sides i)) [
        | yes e ↦ (
          (λ o. absurd (let z : false ≡ true = sym (value_gone h.rest.points (raster_point X.sides i))
              ∙ ap (at (without h.rest.points (raster_point X.sides i))) (sym e) ∙ o in cc)),
          λ o. absurd (let a : IsAhead f.distances (f.passed + 1) (raster_number X.sides (raster_point X.sides i)) =
              subst (λ r. IsAhead f.distances (f.passed + 1) (raster_number X.sides r)) e
              (subst (λ n. IsAhead f.distances (f.passed + 1) (raster_number n q)) st.sides o.1) in
              let g = ap (rank_in f.distances) (raster_number-raster_point X.sides i l) in omega (arith, a, g, rank)),
        )
        | no n ↦ (
          (λ o. let g = (h.rest.points_are q).0 (sym (less_before q n) ∙ o) in (
            g.0,
            subst (λ n. IsAhead f.distances (f.passed + 1) (raster_number n q)) (sym st.sides)
                (ahead_still (raster_number X.sides q) (of_object X s f h q g.0).0 (apart q g.0 n)
                (subst (λ n. IsAhead f.distances f.passed (raster_number n q)) st.sides g.1)),
          )),
          λ o. less_before q n ∙ (h.rest.points_are q).1 (o.0, omega (arith, o.1)),
        )
      ];
      counted = let c = one_object_less h.rest.points (raster_point X.sides i) h.rest.filled in_points in omega (arith, c, h.rest.counted, e);
    }
      where
        less_before : (q : Point) → q ≢ raster_point X.sides i → at (without h.rest.points (raster_point X.sides i)) q ≡ at h.rest.points q
        less_before q n = value_elsewhere h.rest.points (raster_point X.sides i) q false (object_in_box h.rest.points (raster_point X.sides i) in_points) n

    pub front_met : (reached' : Picture) → reached' ≡ with_value f.reached (raster_point X.sides i) true → (new : Key → Bool) (b : Bool)
        → (b ≡ true) ↔ IsSimple s.left (raster_point X.sides i)
        → Put f.keys new (key_at f.distances i) b → (n : ℕ) → n + 1 ≡ f.ahead
        → IsFrontOf X s (record { reached = reached'; distances = f.distances; keys = new; passed = f.passed + 1; ahead = n })
    front_met reached' e new b is put n c = rw e
        (record { stands = stands_met; waits = waits_met new b is put; rest = rest_met n c; begun = let b = h.begun in omega arith })
