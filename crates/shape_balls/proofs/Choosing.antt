-- From balls that are kept to a list of balls that a report may hold.
-- Stated of pictures, facts and marks; how the balls are kept belongs elsewhere.
use Rattle.std.proofs.Common.{◌≡◌, ◌≢◌, ◌⊎◌, inl, inr, ℕ, ◌+◌, ◌<◌, Bool, true, false, ap, sym, ◌∙◌, subst, arith, List, [], ◌∷◌, ◌++◌, length, length-append}
use Rattle.std.proofs.Common.{map}
use Rattle.std.specs.Prelude.{IsTrue}
use Rattle.std.proofs.lemmas.Bool.{ltb-true, lt-ltb}
use Rattle.std.proofs.lemmas.List.{get_or_past, map-append}
use native.Mathlib.Decide.{dec_lt}
use Rattle.shape_terms.specs.Points.{Point, squared_distance}
use Rattle.shape_terms.specs.Pictures.{Picture, at}
use Rattle.shape_terms.specs.Steps.{Before}
use Rattle.shape_terms.specs.Distances.{NearFact, IsField}
use Rattle.shape_terms.proofs.Boxes.{in_box_length}
use Rattle.shape_terms.proofs.Numbered.{object_in_box}
use Rattle.shape_window.specs.Marks.{is_marked}
use Rattle.ball_terms.specs.Balls.{Ball, ball_by, InBall, BallClaim, AreBalls}
use Rattle.text_terms.proofs.ListPushes.{get_push, get_last}
use Rattle.ball_terms.proofs.BallLists.{each_of, get_kept}
use Rattle.ball_terms.proofs.BallUnion.{good_push}
use Rattle.shape_balls.specs.Keeping.{fact_at, ball_holds, InKept, IsKeeping}
use Rattle.shape_balls.specs.Chosen.{ball_at, IsChosen}
use Rattle.shape_balls.proofs.Facts.{length-facts, fact_object, fact_least, fact_named, facts_rise, centre_held}

below_more : (i j : ℕ) → j < i + 1 → (j < i) ⊎ (j ≡ i)
below_more i j l = elim (dec_lt j i) [ yes m ↦ inl m | no m ↦ inr (omega arith) ]

-- an entry that is not kept
pub chosen_skip : (X : Picture) (facts : List NearFact) (kept : List Bool) (i : ℕ) (balls : List Ball) → is_marked kept i ≡ false
    → IsChosen X facts kept i balls → IsChosen X facts kept (i + 1) balls
chosen_skip X facts kept i balls n c = record {
  few = (let f = c.few in omega arith);
  good = c.good;
  from = λ k b e. (let h = c.from k b e in (h.0, omega (arith, h.1), h.2, h.3));
  all = λ j l t. elim (below_more i j l) [ inl m ↦ c.all j m t | inr e ↦ absurd (let f : true ≡ false = sym t ∙ (ap (is_marked kept) e ∙ n) in cc) ];
}

module _ (X : Picture) (facts : List NearFact) (field : IsField X facts) (kept covered : List Bool) (k : IsKeeping X facts kept covered) where
  -- a kept ball does not hold the centre of another one
  holds_not : (i j : ℕ) → is_marked kept i ≡ true → is_marked kept j ≡ true → i ≢ j → InBall X (ball_at (fact_at facts j)) (fact_at facts i).p → ⊥
  holds_not i j t u d h =
      let e : true ≡ false = sym (lt-ltb (squared_distance (fact_at facts j).p (fact_at facts i).p) (fact_at facts j).s h.nearer) ∙ k.apart i j t u d in
      cc

  -- a point of the ball of a fact
  in_ball : (i : ℕ) (p : Point) → IsTrue (at X p) → ball_holds (fact_at facts i) p ≡ true → InBall X (ball_at (fact_at facts i)) p
  in_ball i p o h = record {
    point = in_box_length X.sides p (object_in_box X p o);
    nearer = ltb-true (squared_distance (fact_at facts i).p p)
        (fact_at facts i).s h;
  }

  -- a kept entry
  pub chosen_more : (i : ℕ) (balls : List Ball) → i < length facts → is_marked kept i ≡ true → IsChosen X facts kept i balls
      → IsChosen X facts kept (i + 1) (balls ++ ball_at (fact_at facts i) ∷ [])
  chosen_more i balls l t c = record {
    few = (let f = c.few in omega (arith, length-append balls (b ∷ [])));
    good = good_push X balls b c.good claim;
    from = λ n x e. elim (get_push balls b n x e) [
      | inl h ↦ (let f = c.from n x h.0 in (f.0, omega (arith, f.1), f.2, f.3))
      | inr h ↦ (i, omega arith, t, sym h.0)
    ];
    all = λ j m u. elim (below_more i j m) [
      | inl n ↦ (let h = c.all j n u in (h.0, h.1, get_kept balls (b ∷ []) h.0 h.1 h.2, h.3))
      | inr n ↦ (length balls, b, get_last balls b, ap (λ i. ball_at (fact_at facts i)) (sym n))
    ];
  }
    where
      b : Ball
      b = ball_at (fact_at facts i)

      claim : BallClaim X balls b
      claim = record {
        object = fact_object X facts field i l;
        after = each_of balls (λ e. Before e.centre b.centre)
            (λ n x e. (let f = c.from n x e in subst (λ (y : Ball). Before y.centre b.centre) (sym f.3) (facts_rise X facts field f.0 i f.1 l)));
        least = fact_least X facts field i l;
        own = in_ball i (fact_at facts i).p (fact_object X facts field i l) (centre_held X facts field i l);
        in_no_earlier = each_of balls (λ e. InBall X e b.own → ⊥) (λ n x e h. (
            let f = c.from n x e in
            holds_not i f.0 t f.2 (λ z. (let m = f.1 in omega arith)) (subst (λ (y : Ball). InBall X y b.own) f.3 h)));
        no_earlier_in = each_of balls (λ e. InBall X b e.own → ⊥) (λ n x e h. (
            let f = c.from n x e in
            holds_not f.0 i f.2 t (λ z. (let m = f.1 in omega arith)) (subst (λ (y : Ball). InBall X b y.own) f.3 h)));
      }

  pub chosen_push : {A : Type 0} (v : A → Ball) (i : ℕ) (xs : List A) (x : A) (p q : Point) (s : ℕ) → i < length facts → is_marked kept i ≡ true
      → fact_at facts i ≡ record { p = p; q = q; s = s } → v x ≡ ball_by p q s p → IsChosen X facts kept i (map v xs)
      → IsChosen X facts kept (i + 1) (map v (xs ++ x ∷ []))
  chosen_push v i xs x p q s l t f e c =
      subst (IsChosen X facts kept (i + 1)) (ap (λ b. map v xs ++ b ∷ []) (ap ball_at f ∙ sym e) ∙ sym (map-append v xs (x ∷ [])))
      (chosen_more i (map v xs) l t c)

  -- all entries passed, and each centre in a kept ball: the list is one that a report may hold
  pub chosen_all : (i : ℕ) (balls : List Ball) → i ≡ length facts → ((i : ℕ) → i < length facts → InKept facts kept (fact_at facts i).p)
      → IsChosen X facts kept i balls → AreBalls X balls
  chosen_all i balls n all c = record {
    few = (let e = length-facts X facts field in let f = c.few in omega arith);
    each = c.good;
    all = λ p o.
        let r = fact_named X facts field p o in
        let h = subst (InKept facts kept) r.2 (all r.0 r.1) in
        let m = c.all h.number (let a = marked_below h.number h.is_kept in omega (arith, k.long)) h.is_kept in
        (m.0, m.1, m.2, subst (λ (y : Ball). InBall X y p) (sym m.3) (in_ball h.number p o h.holds));
  }
    where
      marked_below : (j : ℕ) → is_marked kept j ≡ true → j < length kept
      marked_below j t = elim (dec_lt j (length kept)) [
        | yes l ↦ l
        | no l ↦ absurd (let e : false ≡ true = sym (get_or_past kept j false (omega arith)) ∙ t in cc)
      ]
