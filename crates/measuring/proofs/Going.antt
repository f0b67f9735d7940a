-- A round of a chain and the chain back is the hull of their set.
-- Chains are seen as their places; the lists come last.
use Rattle.std.proofs.Common.{◌≡◌, ◌⊎◌, inl, inr, ℕ, ◌+◌, ◌-◌, ◌<◌, ◌≤◌, Bool, true, false, List, length, ap, refl, sym, subst, ◌∙◌, arith}
use Rattle.std.proofs.Math.IntN.{pos}
use lib.Signed.{◌<ℤ◌, ◌≤ℤ◌}
use Rattle.std.proofs.lemmas.Int.{ints}
use Rattle.std.proofs.lemmas.Bool.Decides.{nat_tests}
use Rattle.shape_terms.proofs.Products.{rings}
use Rattle.measure_terms.specs.Hulls.{Corner, IsBefore, IsHull, IsUpTo, next, turn, vertex}
use Rattle.measuring.specs.Chains.{Leads, IsChain}
use Rattle.measuring.proofs.Pointing.{reaches_both}
use Rattle.measuring.proofs.Closing.{corner}

next_within : (n i : ℕ) → i + 1 < n → next n i ≡ i + 1
next_within n i l = grind (arith, nat_tests)

next_end : (n i : ℕ) → i + 1 ≡ n → next n i ≡ 0
next_end n i e = grind (arith, nat_tests)

left_at : (p p' q q' r : Corner) → p ≡ p' → q ≡ q' → pos 0 ≤ℤ turn p' q' r → pos 0 ≤ℤ turn p q r
left_at p p' q q' r e f h = subst (λ z. pos 0 ≤ℤ turn z q r) (sym e) (subst (λ z. pos 0 ≤ℤ turn p' z r) (sym f) h)

turns_at : (p p' q q' r r' : Corner) → p ≡ p' → q ≡ q' → r ≡ r' → pos 0 <ℤ turn p' q' r' → pos 0 <ℤ turn p q r
turns_at p p' q q' r r' e f g h =
    subst (λ z. pos 0 <ℤ turn z q r) (sym e) (subst (λ z. pos 0 <ℤ turn p' z r) (sym f) (subst (λ z. pos 0 <ℤ turn p' q' z) (sym g) h))

before_at : (p p' q q' : Corner) → p ≡ p' → q ≡ q' → IsBefore p' q' → IsBefore p q
before_at p p' q q' e f h = subst (λ z. IsBefore z q) (sym e) (subst (λ z. IsBefore p' z) (sym f) h)

nothing_over : (a b p : Corner) → a ≡ b → pos 0 ≤ℤ turn a b p
nothing_over a b p e = subst (λ z. pos 0 ≤ℤ turn a z p) e (stay a p)
  where
    stay : (q r : Corner) → pos 0 ≤ℤ turn q q r
    stay q r = omega (arith, ints, rings)

out_or_home : (a b n i : ℕ) → n ≡ a + b → i < n → (i < a) ⊎ ((j : ℕ) × (j < b) × (a + j ≡ i))
out_or_home a b n i e l =
    let c : (i < a) ⊎ (a ≤ i) = grind arith in
    elim c [
      | inl m ↦ inl m
      | inr m ↦ inr (i - a, omega (arith, m, e, l), omega (arith, m))
    ]

more_or_end : (i n : ℕ) → i < n → (i + 1 < n) ⊎ (i + 1 ≡ n)
more_or_end i n l = grind arith

-- ---- the round of two chains

module _ (S : Corner → Type 0) (h : List Corner) (v w : ℕ → Corner) (a b : ℕ) (along : IsChain true S v (a + 1)) (back : IsChain false S w (b + 1))
    (joined : w 0 ≡ v a) (closed : v 0 ≡ w b)
    (count : length h ≡ a + b) (some_out : 1 ≤ a) (some_home : 1 ≤ b) (out : (i : ℕ) → i < a + 1 → vertex h i ≡ v i)
    (home : (j : ℕ) → j < b → vertex h (a + j) ≡ w j) where
  out_next : (i : ℕ) → i < a → next (length h) i ≡ i + 1
  out_next i l = next_within (length h) i (omega (arith, l, count, some_home))

  out_end : (i : ℕ) → i < a → vertex h (next (length h) i) ≡ v (i + 1)
  out_end i l = ap (vertex h) (out_next i l) ∙ out (i + 1) (omega (arith, l))

  home_next : (j : ℕ) → j + 1 < b → next (length h) (a + j) ≡ a + (j + 1)
  home_next j l = (let e = next_within (length h) (a + j) (omega (arith, l, count)) in omega (arith, e))

  home_end : (j : ℕ) → j < b → vertex h (next (length h) (a + j)) ≡ w (j + 1)
  home_end j l = elim (more_or_end j b l) [
    | inl m ↦ ap (vertex h) (home_next j m) ∙ home (j + 1) m
    | inr e ↦ ap (vertex h) (next_end (length h) (a + j) (omega (arith, e, count))) ∙ out 0 (omega arith) ∙ closed ∙ ap w (sym e)
  ]

  left : (i : ℕ) (p : Corner) → i < length h → S p → pos 0 ≤ℤ turn (vertex h i) (vertex h (next (length h) i)) p
  left i p l s = elim (out_or_home a b (length h) i count l) [
    | inl m ↦ left_at (vertex h i) (v i) (vertex h (next (length h) i)) (v (i + 1)) p (out i (omega (arith, m))) (out_end i m)
        (along.arch.left i p (omega (arith, m)) s)
    | inr (j, m, e) ↦ subst (λ k. pos 0 ≤ℤ turn (vertex h k) (vertex h (next (length h) k)) p) e
        (left_at (vertex h (a + j)) (w j) (vertex h (next (length h) (a + j))) (w (j + 1)) p (home j m) (home_end j m)
        (back.arch.left j p (omega (arith, m)) s))
  ]

  turns_out : (i : ℕ) → i < a → 3 ≤ length h → pos 0 <ℤ turn (vertex h i) (vertex h (next (length h) i)) (vertex h (next (length h) (next (length h) i)))
  turns_out i l many =
      let n = length h in
      let step = ap (λ k. vertex h (next n k)) (out_next i l) in
      elim (more_or_end i a l) [
        | inl m ↦ (
            let f : i + 1 + 1 ≡ i + 2 = omega arith in
            turns_at (vertex h i) (v i) (vertex h (next n i)) (v (i + 1)) (vertex h (next n (next n i))) (v (i + 2)) (out i (omega (arith, l))) (out_end i l)
            (step ∙ out_end (i + 1) m ∙ ap v f) (along.arch.turns i (omega (arith, m))))
        | inr e ↦ (
            let f : i + 1 ≡ a + 0 = omega (arith, e) in
            turns_at (vertex h i) (v i) (vertex h (next n i)) (w 0) (vertex h (next n (next n i))) (w 1) (out i (omega (arith, l)))
            (out_end i l ∙ ap v e ∙ sym joined)
            (step ∙ ap (λ k. vertex h (next n k)) f ∙ home_end 0 some_home)
            (corner true S v w a b along back joined i e some_home (omega (arith, many, count))))
      ]

  turns_home : (j : ℕ) → j < b → 3 ≤ length h
      → pos 0 <ℤ turn (vertex h (a + j)) (vertex h (next (length h) (a + j))) (vertex h (next (length h) (next (length h) (a + j))))
  turns_home j l many =
      let n = length h in
      elim (more_or_end j b l) [
        | inl m ↦ (
            let f : j + 1 + 1 ≡ j + 2 = omega arith in
            turns_at (vertex h (a + j)) (w j) (vertex h (next n (a + j))) (w (j + 1)) (vertex h (next n (next n (a + j)))) (w (j + 2)) (home j l) (home_end j l)
            (ap (λ k. vertex h (next n k)) (home_next j m) ∙ home_end (j + 1) m ∙ ap w f) (back.arch.turns j (omega (arith, m))))
        | inr e ↦ (
            let f = next_end n (a + j) (omega (arith, e, count)) in
            turns_at (vertex h (a + j)) (w j) (vertex h (next n (a + j))) (v 0) (vertex h (next n (next n (a + j)))) (v 1) (home j l)
            (home_end j l ∙ ap w e ∙ sym closed)
            (ap (λ k. vertex h (next n k)) f ∙ out_end 0 some_out) (corner false S w v b a back along closed j e some_out (omega (arith, many, count))))
      ]

  turns : (i : ℕ) → i < length h → 3 ≤ length h → pos 0 <ℤ turn (vertex h i) (vertex h (next (length h) i)) (vertex h (next (length h) (next (length h) i)))
  turns i l many = elim (out_or_home a b (length h) i count l) [
    | inl m ↦ turns_out i m many
    | inr (j, m, e) ↦ subst (λ k. pos 0 <ℤ turn (vertex h k) (vertex h (next (length h) k)) (vertex h (next (length h) (next (length h) k)))) e
        (turns_home j m many)
  ]

  of : (i : ℕ) → i < length h → S (vertex h i)
  of i l = elim (out_or_home a b (length h) i count l) [
    | inl m ↦ subst S (sym (out i (omega (arith, m)))) (along.arch.of i (omega (arith, m)))
    | inr (j, m, e) ↦ subst (λ k. S (vertex h k)) e (subst S (sym (home j m)) (back.arch.of j (omega (arith, m))))
  ]

  down : (i : ℕ) → a ≤ i → i < length h → IsBefore (vertex h (next (length h) i)) (vertex h i)
  down i g l =
      let j = i - a in
      let m : j < b = omega (arith, g, l, count) in
      let e : a + j ≡ i = omega (arith, g) in
      subst (λ k. IsBefore (vertex h (next (length h) k)) (vertex h k)) e
      (before_at (vertex h (next (length h) (a + j))) (w (j + 1)) (vertex h (a + j)) (w j) (home_end j m) (home j m) (back.arch.order j (omega (arith, m))))

  pub round_hull : IsHull S h
  round_hull = record {
    of = of;
    left = left;
    turns = turns;
    far = a;
    once = record {
      within = omega (arith, count, some_home);
      up = λ i l. before_at (vertex h i) (v i) (vertex h (i + 1)) (v (i + 1)) (out i (omega (arith, l))) (out (i + 1) (omega (arith, l)))
          (along.arch.order i (omega (arith, l)));
      down = λ i g l many. down i g l;
    };
    first = λ p s. subst (λ z. IsUpTo z p) (sym (out 0 (omega arith))) (along.arch.first p s);
    last = λ p s. subst (λ z. IsUpTo p z) (sym (out a (omega arith))) (along.last a p refl s);
  }

-- ---- one point alone

pub single_hull : (S : Corner → Type 0) (h : List Corner) → length h ≡ 1 → IsChain true S (vertex h) 1 → IsHull S h
single_hull S h one c =
    record {
      of = λ i l. c.arch.of i (omega (arith, l, one));
      left = λ i p l s. (
          let e : i ≡ 0 = omega (arith, l, one) in
          let f = next_end (length h) i (omega (arith, e, one)) in
          nothing_over (vertex h i) (vertex h (next (length h) i)) p (ap (vertex h) (e ∙ sym f)));
      turns = λ i l many. absurd (omega (arith, many, one));
      far = 0;
      once = record {
        within = omega (arith, one);
        up = λ i l. absurd (omega (arith, l));
        down = λ i g l many. absurd (omega (arith, many, one));
      };
      first = c.arch.first;
      last = λ p s. c.last 0 p refl s;
    }

not_before_itself : (p q : Corner) → p ≡ q → IsBefore p q → ⊥
not_before_itself p q e h =
    let f = ap (λ (z : Corner). z.x) e in
    let c = h.column (ap (λ (z : Corner). z.y) e) in
    absurd (omega (arith, ints, f, c))

leads_itself : (up : Bool) (p q : Corner) → p ≡ q → Leads up p q → ⊥
leads_itself true p q e h = not_before_itself p q e h
leads_itself false p q e h = not_before_itself q p (sym e) h

-- a chain of one place, and one of more, do not go over the same set
pub no_step : (up down : Bool) (S : Corner → Type 0) (v w : ℕ → Corner) (b : ℕ) → IsChain up S v 1 → IsChain down S w (b + 1) → 1 ≤ b → ⊥
no_step up down S v w b c d l =
    let is = λ (p : Corner) (s : S p). reaches_both up p (v 0) (c.last 0 p refl s) (c.arch.first p s) in
    leads_itself down (w 0) (w 1) (is (w 0) (d.arch.of 0 (omega arith)) ∙ sym (is (w 1) (d.arch.of 1 (omega (arith, l))))) (d.arch.order 0 (omega (arith, l)))
