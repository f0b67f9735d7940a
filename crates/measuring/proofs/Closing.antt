-- The corner where a chain ends and the chain back begins: the way turns left there, unless both are one step.
-- Both chains go over the same set.
use Rattle.std.proofs.Common.{◌≡◌, ◌⊎◌, inl, inr, ℕ, ◌+◌, ◌-◌, ◌≤◌, Bool, true, false, not, ap, sym, subst, ◌∙◌, arith}
use Rattle.std.proofs.Math.IntN.{ℤ, pos, ◌-ℤ◌}
use lib.Signed.{◌<ℤ◌, ◌≤ℤ◌}
use Rattle.std.proofs.lemmas.Int.{ints, by_lt_z}
use Rattle.measure_terms.specs.Hulls.{Corner, turn}
use Rattle.measuring.specs.Chains.{Reaches, Leads, IsChain}
use Rattle.measure_terms.proofs.Turns.{det, swap, around, toward, apart, round}
use Rattle.measuring.proofs.Turning.{left_of_left_either}
use Rattle.measuring.proofs.Pointing.{forth_either, on_either, leads_reaches}

-- ---- where the corner does not turn, all lies on its line

module _ (up : Bool) (l m u p : Corner) (a : Leads up l m) (b : Leads up u m) (c : Reaches up p m) (flat : turn l m u ≤ℤ pos 0) where
  turned_back : pos 0 ≤ℤ det (m.x -ℤ l.x) (m.y -ℤ l.y) (m.x -ℤ u.x) (m.y -ℤ u.y)
  turned_back = let e = toward l m u in omega (arith, ints, e, flat)

  pub on_first : pos 0 ≤ℤ turn m u p → turn l m p ≤ℤ pos 0
  on_first h =
      let e = toward l m p in
      let f = apart m u p in
      let r = left_of_left_either up (m.x -ℤ l.x) (m.y -ℤ l.y) (m.x -ℤ u.x) (m.y -ℤ u.y) (m.x -ℤ p.x) (m.y -ℤ p.y)
      (forth_either up l m (leads_reaches up l m a)) (on_either up u m b) (forth_either up p m c) turned_back (omega (arith, ints, f, h)) in
      omega (arith, ints, e, r)

  pub on_second : pos 0 ≤ℤ turn l m p → turn m u p ≤ℤ pos 0
  on_second h =
      let e = around l m p in
      let f = apart m u p in
      let g = swap (m.x -ℤ u.x) (m.y -ℤ u.y) (m.x -ℤ p.x) (m.y -ℤ p.y) in
      let r = left_of_left_either up (m.x -ℤ p.x) (m.y -ℤ p.y) (m.x -ℤ l.x) (m.y -ℤ l.y) (m.x -ℤ u.x) (m.y -ℤ u.y)
      (forth_either up p m c) (on_either up l m a) (forth_either up u m (leads_reaches up u m b)) (omega (arith, ints, e, h)) turned_back in
      omega (arith, ints, f, g, r)

-- ---- the corner

flip_leads : (up : Bool) (p q : Corner) → Leads (not up) p q → Leads up q p
flip_leads true p q h = h
flip_leads false p q h = h

flip_reaches : (up : Bool) (p q : Corner) → Reaches (not up) p q → Reaches up q p
flip_reaches true p q h = h
flip_reaches false p q h = h

at_most_and_more : (z : ℤ) → z ≤ℤ pos 0 → pos 0 <ℤ z → ⊥
at_most_and_more z h k = absurd (omega (arith, ints, h, k))

module _ (up : Bool) (S : Corner → Type 0) (v w : ℕ → Corner) (a b : ℕ) (along : IsChain up S v (a + 1)) (back : IsChain (not up) S w (b + 1))
    (joined : w 0 ≡ v a) where
  -- seen from the last step, and from the first step back
  before : (i : ℕ) → i + 1 ≡ a → Leads up (v i) (w 0)
  before i e = subst (λ z. Leads up (v i) z) (sym joined) (subst (λ n. Leads up (v i) (v n)) e (along.arch.order i (omega (arith, e))))

  behind : 1 ≤ b → Leads up (w 1) (w 0)
  behind l = flip_leads up (w 0) (w 1) (back.arch.order 0 (omega (arith, l)))

  last : (p : Corner) → S p → Reaches up p (w 0)
  last p s = flip_reaches up (w 0) p (back.arch.first p s)

  left_of_last : (i : ℕ) (p : Corner) → i + 1 ≡ a → S p → pos 0 ≤ℤ turn (v i) (w 0) p
  left_of_last i p e s = subst (λ z. pos 0 ≤ℤ turn (v i) z p) (sym joined)
      (subst (λ n. pos 0 ≤ℤ turn (v i) (v n) p) e (along.arch.left i p (omega (arith, e)) s))

  -- a second last step does not lie on the line
  first_bend : (i j : ℕ) → j + 1 ≡ i → i + 1 ≡ a → 1 ≤ b → turn (v i) (w 0) (w 1) ≤ℤ pos 0 → ⊥
  first_bend i j f e l flat =
      let x = v j in
      let s = along.arch.of j (omega (arith, e, f)) in
      let on = on_first up (v i) (w 0) (w 1) x (before i e) (behind l) (last x s) flat (back.arch.left 0 x (omega (arith, l)) s) in
      let g : j + 2 ≡ a = omega (arith, e, f) in
      let t = along.arch.turns j (omega (arith, g)) in
      let t' = subst (λ n. pos 0 <ℤ turn x (v n) (v (j + 2))) f t in
      let t'' = subst (λ z. pos 0 <ℤ turn x (v i) z) (ap v g ∙ sym joined) t' in
      at_most_and_more (turn x (v i) (w 0)) (subst (λ z. z ≤ℤ pos 0) (sym (round x (v i) (w 0))) on) t''

  -- nor does a second step back
  second_bend : (i : ℕ) → i + 1 ≡ a → 2 ≤ b → turn (v i) (w 0) (w 1) ≤ℤ pos 0 → ⊥
  second_bend i e l flat =
      let y = w 2 in
      let s = back.arch.of 2 (omega (arith, l)) in
      let on = on_second up (v i) (w 0) (w 1) y (before i e) (behind (omega (arith, l))) (last y s) flat (left_of_last i y e s) in
      at_most_and_more (turn (w 0) (w 1) y) on (back.arch.turns 0 (omega (arith, l)))

  pub corner : (i : ℕ) → i + 1 ≡ a → 1 ≤ b → 3 ≤ a + b → pos 0 <ℤ turn (v i) (w 0) (w 1)
  corner i e l many =
      by_lt_z (pos 0) (turn (v i) (w 0) (w 1)) (λ (h : pos 0 <ℤ turn (v i) (w 0) (w 1)). h)
      (λ (flat : turn (v i) (w 0) (w 1) ≤ℤ pos 0). (
      let c : ((i - 1) + 1 ≡ i) ⊎ (2 ≤ b) = grind arith in
      elim c [
        | inl f ↦ absurd (first_bend i (i - 1) f e l flat)
        | inr g ↦ absurd (second_bend i e g flat)
      ]))
