-- What a judge stands for in the beginning, and after one good ball more.
-- Stated of pictures, balls and marks; how the marks are kept belongs elsewhere.
use Rattle.std.proofs.Common.{◌≡◌, ◌⊎◌, ◌↔◌, inl, inr, ℕ, ◌+◌, ◌<◌, ◌≤◌, Bool, true, false, ap, sym, ◌∙◌, subst, arith, List, [], ◌∷◌, ◌++◌, length, set}
use Rattle.std.proofs.Common.{replicate, Some}
use Rattle.std.specs.Prelude.{slice_get, IsTrue}
use Rattle.std.proofs.lemmas.Bool.{ltb-true, lt-ltb}
use Rattle.std.proofs.lemmas.List.{get_or-set_same, get_or-set_other, get_or-replicate, get_or_past, length-replicate}
use native.Mathlib.Decide.{dec_lt, ℕ_discrete}
use Rattle.shape_terms.specs.Points.{Point, box_count, raster_number, raster_point, squared_distance}
use Rattle.shape_terms.specs.Pictures.{Picture, at}
use Rattle.shape_window.specs.Windows.{is_nearer}
use Rattle.ball_terms.specs.Balls.{Ball, InBall, BallClaim, InUnion}
use Rattle.text_terms.proofs.ListPushes.{get_push, get_last}
use Rattle.ball_terms.proofs.BallLists.{get_kept}
use Rattle.ball_terms.proofs.BallUnion.{in_object, good_push}
use Rattle.shape_window.specs.Marks.{is_marked}
use Rattle.judge_balls.specs.Tests.{PassesTests}
use Rattle.judge_balls.specs.Standing.{IsOwnOf, IsStanding}
use Rattle.judge_balls.proofs.Deciding.{place_back, place_below, in_ball, tests_decide}

no_marks : (n i : ℕ) → is_marked (replicate n false) i ≡ false
no_marks n i = elim (dec_lt i n) [
  | yes l ↦ get_or-replicate n i false false l
  | no l ↦ get_or_past (replicate n false) i false (let e = length-replicate n false in omega arith)
]

pub nothing_taken : (X : Picture) (n m : ℕ) → IsStanding X [] (replicate n false) (replicate m false) 0
nothing_taken X n m = record {
  good = λ k b e. cc;
  covers = λ p h. ((λ e. absurd (let f : false ≡ true = sym (no_marks n (raster_number X.sides p)) ∙ e in cc)), λ u. absurd (let e = u.2 in cc));
  owns = λ p h. ((λ e. absurd (let f : false ≡ true = sym (no_marks m (raster_number X.sides p)) ∙ e in cc)), λ u. absurd (let e = u.2 in cc));
  before = λ i. ((λ l k b e. cc), λ h. omega arith);
}

module _ (X : Picture) (balls : List Ball) (covered own : List Bool) (next : ℕ) (st : IsStanding X balls covered own next) (b : Ball)
    (claim : BallClaim X balls b) where
  tests : PassesTests X covered own next b
  tests = (tests_decide X balls covered own next st b).1 claim

  -- the balls with one more
  more : (P : Ball → Type 0) → ((k : ℕ) × (e : Ball) × (slice_get (balls ++ b ∷ []) k ≡ Some e) × P e)
      → ((k : ℕ) × (e : Ball) × (slice_get balls k ≡ Some e) × P e) ⊎ P b
  more P (k, e, h, i) = elim (get_push balls b k e h) [
    | inl g ↦ inl (k, e, g.0, i)
    | inr g ↦ inr (subst P (sym g.0) i)
  ]

  less : (P : Ball → Type 0) → ((k : ℕ) × (e : Ball) × (slice_get balls k ≡ Some e) × P e) ⊎ P b
      → (k : ℕ) × (e : Ball) × (slice_get (balls ++ b ∷ []) k ≡ Some e) × P e
  less P (inl (k, e, h, i)) = (k, e, get_kept balls (b ∷ []) k e h, i)
  less P (inr i) = (length balls, b, get_last balls b, i)

  -- the points of the ball are covered
  now_covered : (covered2 : List Bool) → length covered ≡ box_count X.sides
      → ((j : ℕ) → j < length covered
      → (is_marked covered2 j ≡ true) ↔ ((is_marked covered j ≡ true) ⊎ (is_nearer b.centre b.s (raster_point X.sides j) ≡ true)))
      → (p : Point) → IsTrue (at X p) → (is_marked covered2 (raster_number X.sides p) ≡ true) ↔ InUnion X (balls ++ b ∷ []) p
  now_covered covered2 filled marked p o = (down, up)
    where
      at_p : (is_marked covered2 (raster_number X.sides p) ≡ true)
          ↔ ((is_marked covered (raster_number X.sides p) ≡ true) ⊎ (is_nearer b.centre b.s (raster_point X.sides (raster_number X.sides p)) ≡ true))
      at_p = marked (raster_number X.sides p) (let l = place_below X p o in omega arith)

      down : is_marked covered2 (raster_number X.sides p) ≡ true → InUnion X (balls ++ b ∷ []) p
      down t = elim (at_p.0 t) [
        | inl u ↦ less (λ e. InBall X e p) (inl ((st.covers p o).0 u))
        | inr u ↦ less (λ e. InBall X e p)
            (inr (in_ball X b p o (ltb-true (squared_distance b.centre p) b.s (ap (is_nearer b.centre b.s) (sym (place_back X p o)) ∙ u))))
      ]

      up : InUnion X (balls ++ b ∷ []) p → is_marked covered2 (raster_number X.sides p) ≡ true
      up u = elim (more (λ e. InBall X e p) u) [
        | inl v ↦ at_p.1 (inl ((st.covers p o).1 v))
        | inr v ↦ at_p.1 (inr (ap (is_nearer b.centre b.s) (place_back X p o) ∙ lt-ltb (squared_distance b.centre p) b.s v.nearer))
      ]

  own_object : IsTrue (at X b.own)
  own_object = in_object X b claim.least b.own claim.own

  -- its own point is marked
  now_own : length own ≡ box_count X.sides → (p : Point) → IsTrue (at X p)
      → (is_marked (set own (raster_number X.sides b.own) true) (raster_number X.sides p) ≡ true) ↔ IsOwnOf (balls ++ b ∷ []) p
  now_own filled p o = (down, up)
    where
      i : ℕ
      i = raster_number X.sides b.own

      here : is_marked (set own (raster_number X.sides b.own) true) (raster_number X.sides b.own) ≡ true
      here = get_or-set_same own (raster_number X.sides b.own) true false (let l = place_below X b.own own_object in omega arith)

      down : is_marked (set own (raster_number X.sides b.own) true) (raster_number X.sides p) ≡ true → IsOwnOf (balls ++ b ∷ []) p
      down t = elim (ℕ_discrete (raster_number X.sides p) (raster_number X.sides b.own)) [
        | yes e ↦ less (λ e. e.own ≡ p) (inr (sym (place_back X b.own own_object) ∙ (ap (raster_point X.sides) (sym e) ∙ place_back X p o)))
        | no d ↦ less (λ e. e.own ≡ p)
            (inl ((st.owns p o).0 (sym (get_or-set_other own (raster_number X.sides b.own) (raster_number X.sides p) true false d) ∙ t)))
      ]

      up : IsOwnOf (balls ++ b ∷ []) p → is_marked (set own (raster_number X.sides b.own) true) (raster_number X.sides p) ≡ true
      up u = elim (more (λ e. e.own ≡ p) u) [
        | inl v ↦ elim (ℕ_discrete (raster_number X.sides p) (raster_number X.sides b.own)) [
          | yes e ↦ ap (is_marked (set own (raster_number X.sides b.own) true)) e ∙ here
          | no d ↦ get_or-set_other own (raster_number X.sides b.own) (raster_number X.sides p) true false d ∙ (st.owns p o).1 v
        ]
        | inr v ↦ ap (λ (q : Point). is_marked (set own (raster_number X.sides b.own) true) (raster_number X.sides q)) (sym v) ∙ here
      ]

  -- centres come after its centre
  now_next : (i : ℕ) → (raster_number X.sides b.centre + 1 ≤ i)
      ↔ ((k : ℕ) (e : Ball) → slice_get (balls ++ b ∷ []) k ≡ Some e → raster_number X.sides e.centre < i)
  now_next i = (down, up)
    where
      down : raster_number X.sides b.centre + 1 ≤ i → (k : ℕ) (e : Ball) → slice_get (balls ++ b ∷ []) k ≡ Some e → raster_number X.sides e.centre < i
      down l k e h = elim (get_push balls b k e h) [
        | inl g ↦ (let u = (st.before (raster_number X.sides b.centre)).0 tests.late k e g.0 in omega arith)
        | inr g ↦ (let u = ap (λ (x : Ball). raster_number X.sides x.centre) g.0 in omega arith)
      ]

      up : ((k : ℕ) (e : Ball) → slice_get (balls ++ b ∷ []) k ≡ Some e → raster_number X.sides e.centre < i) → raster_number X.sides b.centre + 1 ≤ i
      up h = let u = h (length balls) b (get_last balls b) in omega arith

  pub ball_taken : (covered2 : List Bool) → length covered ≡ box_count X.sides → length own ≡ box_count X.sides
      → ((j : ℕ) → j < length covered
      → (is_marked covered2 j ≡ true) ↔ ((is_marked covered j ≡ true) ⊎ (is_nearer b.centre b.s (raster_point X.sides j) ≡ true)))
      → IsStanding X (balls ++ b ∷ []) covered2 (set own (raster_number X.sides b.own) true) (raster_number X.sides b.centre + 1)
  ball_taken covered2 filled own_filled marked = record {
    good = good_push X balls b st.good claim;
    covers = now_covered covered2 filled marked;
    owns = now_own own_filled;
    before = now_next;
  }
