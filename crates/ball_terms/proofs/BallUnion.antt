-- A list of balls that a report may hold makes up the object, and none of its balls is needless.
-- Stated of pictures and lists alone; how balls are found or judged belongs elsewhere.
use Rattle.std.proofs.Common.{◌≡◌, inl, inr, ℕ, ◌<◌, sym, ◌∙◌, subst, arith, List, [], ◌∷◌, ◌++◌, length, take, get_or, Some}
use Rattle.std.specs.Prelude.{slice_get, IsTrue}
use Rattle.std.proofs.lemmas.Option.{slice_get-get_or}
use Rattle.std.proofs.lemmas.Bool.{cases_Bool}
use native.Mathlib.Decide.{dec_lt}
use Rattle.shape_terms.specs.Points.{Point}
use Rattle.shape_terms.specs.Pictures.{Picture, at, Least}
use Rattle.ball_terms.specs.Balls.{Ball, InBall, BallClaim, AreGood, InUnion, InOthers, CoverObject, AreUnion}
use Rattle.text_terms.proofs.ListPushes.{get_push}
use Rattle.ball_terms.proofs.BallLists.{all_get, taken_get}

-- a ball holds no background point
pub in_object : (X : Picture) (b : Ball) → Least X b.centre b.near b.s → (p : Point) → InBall X b p → IsTrue (at X p)
in_object X b c p i = elim (cases_Bool (at X p)) [
  | inl t ↦ t
  | inr f ↦ (let l = c.least p (record { point = i.point; value = f }) in let n = i.nearer in absurd (omega arith))
]

-- one good ball more
pub good_push : (X : Picture) (balls : List Ball) (b : Ball) → AreGood X balls → BallClaim X balls b → AreGood X (balls ++ b ∷ [])
good_push X balls b g c k m e = elim (get_push balls b k m e) [
  | inl h ↦ subst (λ (z : List Ball). BallClaim X z m) (sym h.1) (g k m h.0)
  | inr h ↦ subst (λ (z : List Ball). BallClaim X z m) (sym h.1) (subst (BallClaim X balls) h.0 c)
]

module _ (X : Picture) (balls : List Ball) (good : AreGood X balls) where
  union_in : (p : Point) → InUnion X balls p → IsTrue (at X p)
  union_in p (k, b, e, i) = in_object X b (good k b e).least p i

  -- the own point of a ball is in no other ball
  pub own_alone : (k : ℕ) (b : Ball) → slice_get balls k ≡ Some b → InOthers X balls k b.own → ⊥
  own_alone k b e (j, c, n, f, i) = elim (dec_lt j k) [
    | yes l ↦ all_get (λ e. InBall X e b.own → ⊥) (take k balls) j c (taken_get balls k j l ∙ f) (good k b e).in_no_earlier i
    | no l ↦ elim (dec_lt k j) [
      | yes m ↦ all_get (λ e. InBall X c e.own → ⊥) (take j balls) k b (taken_get balls j k m ∙ e) (good j c f).no_earlier_in i
      | no m ↦ n (omega arith)
    ]
  ]

  nth : (k : ℕ) → k < length balls → (b : Ball) × (slice_get balls k ≡ Some b)
  nth k l = let d : Ball = record { centre = []; near = []; s = 0; own = [] } in (get_or balls k d, slice_get-get_or balls k d l)

  pub are_union : CoverObject X balls → AreUnion X balls
  are_union all = record {
    union = λ p. (all p, union_in p);
    needed = λ k l.
        let b = nth k l in
        let c = good k b.0 b.1 in
        (b.0.own, in_object X b.0 c.least b.0.own c.own, own_alone k b.0 b.1);
  }
