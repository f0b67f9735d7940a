-- Balls round all object points make up the object; of them those are dropped, one after another, that the others do without.
-- Laws of pictures, balls and lists alone; nearest background points stand in `BallsNearest`.
use Rattle.std.proofs.Common.{◌≡◌, ◌⊎◌, inl, inr, ℕ, zero, suc, ◌+◌, ◌<◌, ◌≤◌, Bool, true, false, refl, ap, sym, ◌∙◌, subst, arith, List, [], ◌∷◌, ◌++◌, length}
use Rattle.std.proofs.Common.{length-append, get_or, pos, negsuc}
use Rattle.std.specs.Prelude.{IsTrue, All, AllPairs, Contains, nat_lt, ◌&&◌, ◌||◌, not}
use Rattle.std.specs.List.{list_any}
use Rattle.std.proofs.lemmas.Bool.{cases_Bool, and_parts, or_parts, or_cases, not-true, ltb-true, lt-ltb}
use Rattle.std.proofs.lemmas.List.{get_or-map, length-map}
use Rattle.std.proofs.lemmas.List.Elements.{All-nil, All-head, All-tail, All-push, All-weaker}
use Rattle.std.proofs.lemmas.List.Folds.{list_any-append}
use Rattle.shape_terms.specs.Limits.{most_coordinate}
use Rattle.shape_terms.specs.Points.{Point, raster_number, raster_point, box_count, box_points, squared_distance}
use Rattle.shape_terms.specs.Pictures.{Picture, at, object_points}
use Rattle.shape_terms.specs.Steps.{Before}
use Rattle.shape_terms.specs.FramedBox.{IsWithin}
use Rattle.shape_terms.specs.Distances.{NearFact}
use Rattle.shape_terms.proofs.Boxes.{in_box_length, raster_below, raster_point-raster_number}
use Rattle.shape_terms.proofs.BoxLists.{length-box_points, get_or-box_points}
use Rattle.shape_terms.proofs.FramedLines.{distance_same}
use Rattle.shape_terms.proofs.Members.{Contains-filter}
use Rattle.shape_terms.proofs.Numbered.{object_in_box}
use Rattle.shape_terms.proofs.SameCycles.{pairs-head, pairs-tail}
use Rattle.ball_terms.specs.Balls.{Ball, ball_by, InBall, BallClaim, AreGood, InUnion, CoverObject}
use Rattle.ball_terms.proofs.BallUnion.{good_push}
use Rattle.ball_terms.proofs.RasterRise.{objects_rise}
use Rattle.reports_exist.proofs.BallsNearest.{IsFound, points_of, below_suc, some_distance}

-- ---- tests

-- the ball of a fact holds the point, and a ball does
abbrev pub fact_holds : Point → NearFact → Bool
fact_holds p f = nat_lt (squared_distance f.p p) f.s

abbrev pub ball_holds : Point → Ball → Bool
ball_holds p b = nat_lt (squared_distance b.centre p) b.s

-- one of the balls that are kept holds the point, or that of a fact
abbrev pub is_held : List Ball → List NearFact → Point → Bool
is_held kept rest p = list_any (ball_holds p) kept || list_any (fact_holds p) rest

none_holds : (X : Picture) (p : Point) (balls : List Ball) → list_any (ball_holds p) balls ≡ false → All (λ b. InBall X b p → ⊥) balls
none_holds X p [] e = All-nil (λ b. InBall X b p → ⊥)
none_holds X p (b ∷ balls) e = let h = or_parts (ball_holds p b) (list_any (ball_holds p) balls) e in λ k d l. at_place k d l h.0 (none_holds X p balls h.1)
  where
    at_place : (k : ℕ) (d : Ball) → k < length (b ∷ balls) → ball_holds p b ≡ false → All (λ b. InBall X b p → ⊥) balls → InBall X (get_or (b ∷ balls) k d) p
        → ⊥
    at_place zero d l f h i = let t : true ≡ false = sym (lt-ltb (squared_distance b.centre p) b.s i.nearer) ∙ f in cc
    at_place (suc k) d l f h i = h k d (omega arith) i

in_union : (X : Picture) (p : Point) → length p ≡ length X.sides → (balls : List Ball) → list_any (ball_holds p) balls ≡ true → InUnion X balls p
in_union X p axes [] e = absurd (let t : false ≡ true = e in cc)
in_union X p axes (b ∷ balls) e = elim (or_cases (ball_holds p b) (list_any (ball_holds p) balls) e) [
  | inl t ↦ (0, b, refl, record { point = axes; nearer = ltb-true (squared_distance b.centre p) b.s t })
  | inr t ↦ (let u = in_union X p axes balls t in (suc u.0, u.1, u.2, u.3))
]

or_left : (a b : Bool) → (a || b) ≡ true → b ≡ false → a ≡ true
or_left true b e f = refl
or_left false b e f = absurd (let t : true ≡ false = sym e ∙ f in cc)

or_right : (a b : Bool) → b ≡ true → (a || b) ≡ true
or_right true b e = refl
or_right false b e = e

or_first : (a b : Bool) → a ≡ true → (a || b) ≡ true
or_first true b e = refl
or_first false b e = absurd (let t : false ≡ true = e in cc)

-- what one of three tests passes, one of them passes in any case
regrouped : (k f r : Bool) → (k || (f || r)) ≡ true → ((k || (f || false)) || r) ≡ true
regrouped true f r e = refl
regrouped false true r e = refl
regrouped false false r e = e

unmet : (a b : Bool) → a ≡ true → (a && not b) ≡ false → b ≡ true
unmet true true t e = refl
unmet true false t e = absurd (let c : true ≡ false = e in cc)
unmet false b t e = absurd (let c : false ≡ true = t in cc)

-- ---- a point that no other ball holds, if there is one

some_or_none : (test : ℕ → Bool) (n : ℕ) → ((i : ℕ) × (i < n) × (test i ≡ true)) ⊎ ((i : ℕ) → i < n → test i ≡ false)
some_or_none test zero = inr (λ i l. absurd (omega arith))
some_or_none test (suc n) = elim (some_or_none test n) [
  | inl h ↦ inl (h.0, (let l = h.1 in omega arith), h.2)
  | inr none ↦ elim (cases_Bool (test n)) [
    | inl t ↦ inl (n, omega arith, t)
    | inr f ↦ inr (below_suc (λ i. test i ≡ false) n none f)
  ]
]

-- an object point that none of these balls holds
record IsLeftOut (X : Picture) (kept : List Ball) (rest : List NearFact) (w : Point) : Type 0 where
  object : IsTrue (at X w)
  not_kept : list_any (ball_holds w) kept ≡ false
  not_later : list_any (fact_holds w) rest ≡ false

-- whether the point is one
abbrev is_left_out : Picture → List Ball → List NearFact → Point → Bool
is_left_out X kept rest p = at X p && not (is_held kept rest p)

left_out_is : (X : Picture) (kept : List Ball) (rest : List NearFact) (w : Point) → is_left_out X kept rest w ≡ true → IsLeftOut X kept rest w
left_out_is X kept rest w t =
    let both = and_parts (at X w) (not (is_held kept rest w)) t in
    let none = or_parts (list_any (ball_holds w) kept) (list_any (fact_holds w) rest) (not-true (is_held kept rest w) both.1) in
    record { object = both.0; not_kept = none.0; not_later = none.1 }

-- the balls hold the object
abbrev pub HoldObject : Picture → List Ball → List NearFact → Type 0
HoldObject X kept rest = (p : Point) → IsTrue (at X p) → is_held kept rest p ≡ true

left_out_or_none : (X : Picture) (kept : List Ball) (rest : List NearFact) → ((w : Point) × IsLeftOut X kept rest w) ⊎ HoldObject X kept rest
left_out_or_none X kept rest = elim (some_or_none (λ i. is_left_out X kept rest (raster_point X.sides i)) (box_count X.sides)) [
  | inl h ↦ (let w = raster_point X.sides h.0 in inl (w, left_out_is X kept rest w h.2))
  | inr none ↦ inr (λ p o.
      let b = object_in_box X p o in
      let i = raster_number X.sides p in
      let out = none i (raster_below X.sides p b) in
      let here : is_left_out X kept rest p ≡ false = subst (λ (q : Point). is_left_out X kept rest q ≡ false) (raster_point-raster_number X.sides p b) out in
      unmet (at X p) (is_held kept rest p) o here)
]

-- ---- balls are kept one after another

-- the nearest background point of the ball lies in a framed box
abbrev pub IsNear : Ball → Type 0
IsNear b = IsWithin (negsuc 0) (pos most_coordinate) b.near

-- the first point stands before the second one, and the centre of the ball before the points of the facts
abbrev pub Rises : NearFact → NearFact → Type 0
Rises f g = Before f.p g.p

abbrev pub IsBefore : List NearFact → Ball → Type 0
IsBefore rest b = All (λ f. Before b.centre f.p) rest

-- no ball of the facts holds the ball's own point
abbrev pub IsApart : List NearFact → Ball → Type 0
IsApart rest b = list_any (fact_holds b.own) rest ≡ false

-- balls that are kept, each with an own point that no ball of the other facts holds, and facts behind them; with the balls of these they hold the object
pub record Stands (X : Picture) (kept : List Ball) (rest : List NearFact) : Type 0 where
  pub good : AreGood X kept
  pub near : All IsNear kept
  pub after : All (IsBefore rest) kept
  pub apart : All (IsApart rest) kept
  pub rising : AllPairs Rises rest
  pub found : All (IsFound X) rest
  pub cover : HoldObject X kept rest

-- at most n balls that cover the object, each with a point of its own
pub record AreKept (X : Picture) (n : ℕ) : Type 0 where
  pub balls : List Ball
  pub few : length balls ≤ n
  pub good : AreGood X balls
  pub near : All IsNear balls
  pub cover : CoverObject X balls

module _ (X : Picture) (kept : List Ball) (f : NearFact) (rest : List NearFact) (s : Stands X kept (f ∷ rest)) where
  after_rest : All (IsBefore rest) kept
  after_rest = All-weaker (IsBefore (f ∷ rest)) (IsBefore rest) (λ b h. All-tail (λ g. Before b.centre g.p) f rest h) kept s.after

  apart_both : (b : Ball) → IsApart (f ∷ rest) b → (fact_holds b.own f ≡ false) × IsApart rest b
  apart_both b h = or_parts (fact_holds b.own f) (list_any (fact_holds b.own) rest) h

  apart_rest : All (IsApart rest) kept
  apart_rest = All-weaker (IsApart (f ∷ rest)) (IsApart rest) (λ b h. (apart_both b h).1) kept s.apart

  -- the others do without the ball of the first fact
  dropped : HoldObject X kept rest → Stands X kept rest
  dropped all = record {
    good = s.good;
    near = s.near;
    after = after_rest;
    apart = apart_rest;
    rising = pairs-tail Rises f rest s.rising;
    found = All-tail (IsFound X) f rest s.found;
    cover = all;
  }

  module _ (w : Point) (out : IsLeftOut X kept rest w) where
    abbrev new : Ball
    new = ball_by f.p f.q f.s w

    first : IsFound X f
    first = All-head (IsFound X) f rest s.found

    holds_it : fact_holds w f ≡ true
    holds_it = elim (or_cases (list_any (ball_holds w) kept) (list_any (fact_holds w) (f ∷ rest)) (s.cover w out.object)) [
      | inl t ↦ absurd (let c : true ≡ false = sym t ∙ out.not_kept in cc)
      | inr t ↦ or_left (fact_holds w f) (list_any (fact_holds w) rest) t out.not_later
    ]

    claim : BallClaim X kept new
    claim = record {
      object = first.object;
      after = All-weaker (IsBefore (f ∷ rest)) (λ b. Before b.centre f.p) (λ b h. All-head (λ g. Before b.centre g.p) f rest h) kept s.after;
      least = first.least;
      own = record { point = in_box_length X.sides w (object_in_box X w out.object); nearer = ltb-true (squared_distance f.p w) f.s holds_it };
      in_no_earlier = none_holds X w kept out.not_kept;
      no_earlier_in = All-weaker (IsApart (f ∷ rest)) (λ b. InBall X new b.own → ⊥) not_in kept s.apart;
    }
      where
        not_in : (b : Ball) → IsApart (f ∷ rest) b → InBall X new b.own → ⊥
        not_in b h i = let c : true ≡ false = sym (lt-ltb (squared_distance f.p b.own) f.s i.nearer) ∙ (apart_both b h).0 in cc

    still_held : HoldObject X (kept ++ new ∷ []) rest
    still_held p o =
        let k = list_any (ball_holds p) kept in
        let r = list_any (fact_holds p) rest in
        ap (λ b. b || r) (list_any-append (ball_holds p) kept (new ∷ [])) ∙ regrouped k (fact_holds p f) r (s.cover p o)

    -- it is kept, with the point that no other ball holds for its own
    one_more : Stands X (kept ++ new ∷ []) rest
    one_more = record {
      good = good_push X kept new s.good claim;
      near = All-push IsNear kept new s.near first.near;
      after = All-push (IsBefore rest) kept new after_rest (pairs-head Rises f rest s.rising);
      apart = All-push (IsApart rest) kept new apart_rest out.not_later;
      rising = pairs-tail Rises f rest s.rising;
      found = All-tail (IsFound X) f rest s.found;
      cover = still_held;
    }

few_as : (X : Picture) (n m : ℕ) → n ≤ m → AreKept X n → AreKept X m
few_as X n m l k = record { balls = k.balls; few = (let f = k.few in omega arith); good = k.good; near = k.near; cover = k.cover }

pub keep : (X : Picture) (kept : List Ball) (rest : List NearFact) → Stands X kept rest → AreKept X (length kept + length rest)
keep X kept [] s = record {
  balls = kept;
  few = omega arith;
  good = s.good;
  near = s.near;
  cover = λ p o. in_union X p (in_box_length X.sides p (object_in_box X p o)) kept (or_left (list_any (ball_holds p) kept) false (s.cover p o) refl);
}
keep X kept (f ∷ rest) s = elim (left_out_or_none X kept rest) [
  | inl w ↦ (
      let longer = kept ++ ball_by f.p f.q f.s w.0 ∷ [] in
      let l = length-append kept (ball_by f.p f.q f.s w.0 ∷ []) in
      few_as X (length longer + length rest) (length kept + length (f ∷ rest)) (omega arith) (keep X longer rest (one_more X kept f rest s w.0 w.1)))
  | inr all ↦ few_as X (length kept + length rest) (length kept + length (f ∷ rest)) (omega arith) (keep X kept rest (dropped X kept f rest s all))
]

-- ---- the balls of all object points

module _ (X : Picture) (facts : List NearFact) (points : points_of facts ≡ object_points X) (found : All (IsFound X) facts) where
  facts_rise : AllPairs Rises facts
  facts_rise i j d l m =
      let all : AllPairs Before (points_of facts) = subst (AllPairs Before) (sym points) (objects_rise X) in
      let h = all i j d.p l (omega (arith, length-map facts (λ (f : NearFact). f.p))) in
      let a = get_or-map (λ (f : NearFact). f.p) facts i d d.p (omega arith) in
      let b = get_or-map (λ (f : NearFact). f.p) facts j d d.p m in
      subst (λ (q : Point). Before (get_or facts i d).p q) b (subst (λ (p : Point). Before p (get_or (points_of facts) j d.p)) a h)

  own_held : (fs : List NearFact) (k : ℕ) (p : Point) → All (IsFound X) fs → k < length (points_of fs) → get_or (points_of fs) k p ≡ p
      → list_any (fact_holds p) fs ≡ true
  own_held [] k p h l e = absurd (omega arith)
  own_held (f ∷ fs) zero p h l e = or_first (fact_holds p f) (list_any (fact_holds p) fs) (subst (λ (q : Point). fact_holds q f ≡ true) e centre)
    where
      centre : fact_holds f.p f ≡ true
      centre =
          let z = distance_same f.p in
          let n = some_distance X f (All-head (IsFound X) f fs h) in
          lt-ltb (squared_distance f.p f.p) f.s (omega arith)
  own_held (f ∷ fs) (suc k) p h l e = or_right (fact_holds p f) (list_any (fact_holds p) fs) (own_held fs k p (All-tail (IsFound X) f fs h) (omega arith) e)

  all_held : HoldObject X [] facts
  all_held p o =
      let b = object_in_box X p o in
      let i = raster_number X.sides p in
      let l = raster_below X.sides p b in
      let is = get_or-box_points X.sides i p l ∙ raster_point-raster_number X.sides p b in
      let there : Contains (box_points X.sides) p = (i, omega (arith, length-box_points X.sides), is) in
      let c : Contains (points_of facts) p = subst (λ (ps : List Point). Contains ps p) (sym points) (Contains-filter (at X) (box_points X.sides) p there o) in
      own_held facts c.0 p found c.1 c.2

  pub all_stand : Stands X [] facts
  all_stand = record {
    good = λ k b e. cc;
    near = All-nil IsNear;
    after = All-nil (IsBefore facts);
    apart = All-nil (IsApart facts);
    rising = facts_rise;
    found = found;
    cover = all_held;
  }
