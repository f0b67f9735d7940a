-- Left of left at points that come in raster order, one way or the other.
-- Three forms: a point gone back to, a point behind the last, and an older step.
use Rattle.std.proofs.Common.{◌≡◌, ◌⊎◌, inl, inr, Bool, true, false, sym, subst, arith}
use Rattle.std.proofs.Math.IntN.{ℤ, pos, ◌-ℤ◌}
use lib.Signed.{◌<ℤ◌, ◌≤ℤ◌}
use Rattle.std.proofs.lemmas.Int.{ints, by_lt_z}
use Rattle.shape_terms.proofs.Products.{rings}
use Rattle.measure_terms.specs.Hulls.{Corner, IsBefore, IsUpTo, turn}
use Rattle.measuring.specs.Chains.{Reaches, Leads}
use Rattle.measure_terms.proofs.Turns.{det, along, around, across}
use Rattle.measuring.proofs.Turning.{IsForth, IsOn, StepsForth, StepsOn, left_of_left_either}

-- ---- steps between points

forth : (p q : Corner) → IsUpTo p q → IsForth (q.x -ℤ p.x) (q.y -ℤ p.y)
forth p q h =
    let r = h.row in
    record { row = omega (arith, ints, r); column = λ e. (let c = h.column (omega (arith, ints, e)) in omega (arith, ints, c)) }

on : (p q : Corner) → IsBefore p q → IsOn (q.x -ℤ p.x) (q.y -ℤ p.y)
on p q h =
    let r = h.row in
    record { row = omega (arith, ints, r); column = λ e. (let c = h.column (omega (arith, ints, e)) in omega (arith, ints, c)) }

-- ---- the order

before_up_to : (p q : Corner) → IsBefore p q → IsUpTo p q
before_up_to p q h = record { row = h.row; column = λ e. (let c = h.column e in omega (arith, ints, c)) }

pub leads_reaches : (up : Bool) (p q : Corner) → Leads up p q → Reaches up p q
leads_reaches true p q h = before_up_to p q h
leads_reaches false p q h = before_up_to q p h

then_before : (p q r : Corner) → IsUpTo p q → IsBefore q r → IsBefore p r
then_before p q r h k =
    let a = h.row in
    let b = k.row in
    record {
      row = omega (arith, ints, a, b);
      column = λ e. (let c = h.column (omega (arith, ints, a, b, e)) in let d = k.column (omega (arith, ints, a, b, e)) in omega (arith, ints, c, d));
    }

before_then : (p q r : Corner) → IsBefore p q → IsUpTo q r → IsBefore p r
before_then p q r h k =
    let a = h.row in
    let b = k.row in
    record {
      row = omega (arith, ints, a, b);
      column = λ e. (let c = h.column (omega (arith, ints, a, b, e)) in let d = k.column (omega (arith, ints, a, b, e)) in omega (arith, ints, c, d));
    }

pub leads_then : (up : Bool) (p q r : Corner) → Leads up p q → Leads up q r → Leads up p r
leads_then true p q r h k = then_before p q r (before_up_to p q h) k
leads_then false p q r h k = then_before r q p (before_up_to r q k) h

pub reaches_leads : (up : Bool) (p q r : Corner) → Reaches up p q → Leads up q r → Leads up p r
reaches_leads true p q r h k = then_before p q r h k
reaches_leads false p q r h k = before_then r q p k h

same : (p q : Corner) → p.y ≡ q.y → p.x ≡ q.x → p ≡ q
same p q e f = λ i. record { y = e i; x = f i }

both_ways : (p q : Corner) → IsUpTo p q → IsUpTo q p → p ≡ q
both_ways p q h k =
    let a = h.row in
    let b = k.row in
    let e : p.y ≡ q.y = omega (arith, ints, a, b) in
    let c = h.column e in
    let d = k.column (sym e) in
    same p q e (omega (arith, ints, c, d))

pub reaches_both : (up : Bool) (p q : Corner) → Reaches up p q → Reaches up q p → p ≡ q
reaches_both true p q h k = both_ways p q h k
reaches_both false p q h k = both_ways p q k h

one_way : (p q : Corner) → IsUpTo p q ⊎ IsUpTo q p
one_way p q =
    by_lt_z p.y q.y
    (λ (l : p.y <ℤ q.y). inl (record { row = omega (arith, ints, l); column = λ e. absurd (omega (arith, ints, l, e)) }))
    (λ (l : q.y ≤ℤ p.y). by_lt_z q.y p.y
    (λ (m : q.y <ℤ p.y). inr (record { row = l; column = λ e. absurd (omega (arith, ints, m, e)) }))
    (λ (m : p.y ≤ℤ q.y). by_lt_z p.x q.x
    (λ (n : p.x <ℤ q.x). inl (record { row = m; column = λ e. omega (arith, ints, n) }))
    (λ (n : q.x ≤ℤ p.x). inr (record { row = l; column = λ e. n }))))

pub reaches_either : (up : Bool) (p q : Corner) → Reaches up p q ⊎ Reaches up q p
reaches_either true p q = one_way p q
reaches_either false p q = one_way q p

-- ---- steps one way or the other

abbrev forth_step : (up : Bool) (p q : Corner) → Type 0
forth_step up p q = StepsForth up (q.x -ℤ p.x) (q.y -ℤ p.y)

abbrev on_step : (up : Bool) (p q : Corner) → Type 0
on_step up p q = StepsOn up (q.x -ℤ p.x) (q.y -ℤ p.y)

pub forth_either : (up : Bool) (p q : Corner) → Reaches up p q → forth_step up p q
forth_either true p q h = forth p q h
forth_either false p q h =
    let r = h.row in
    record { row = omega (arith, ints, r); column = λ e. (let c = h.column (omega (arith, ints, e)) in omega (arith, ints, c)) }

pub on_either : (up : Bool) (p q : Corner) → Leads up p q → on_step up p q
on_either true p q h = on p q h
on_either false p q h =
    let r = h.row in
    record { row = omega (arith, ints, r); column = λ e. (let c = h.column (omega (arith, ints, e)) in omega (arith, ints, c)) }

-- ---- a point gone back to: s is left of the way from t to q, and p left of the way from t to s

pub gone_back : (up : Bool) (t s q p : Corner) → Reaches up t q → Leads up t s → Reaches up t p → turn t s q ≤ℤ pos 0 → pos 0 ≤ℤ turn t s p
    → pos 0 ≤ℤ turn t q p
gone_back up t s q p a b c h k =
    left_of_left_either up (q.x -ℤ t.x) (q.y -ℤ t.y) (s.x -ℤ t.x) (s.y -ℤ t.y) (p.x -ℤ t.x) (p.y -ℤ t.y) (forth_either up t q a) (on_either up t s b)
    (forth_either up t p c)
    (other_way (s.x -ℤ t.x) (s.y -ℤ t.y) (q.x -ℤ t.x) (q.y -ℤ t.y) h) k
  where
    other_way : (ax ay bx by : ℤ) → det ax ay bx by ≤ℤ pos 0 → pos 0 ≤ℤ det bx by ax ay
    other_way ax ay bx by l = omega (arith, ints, rings, l)

at_least : (a b : ℤ) → a ≡ b → pos 0 ≤ℤ a → pos 0 ≤ℤ b
at_least a b e h = subst (λ (z : ℤ). pos 0 ≤ℤ z) e h

-- ---- a point behind the last: p and q are left of the way from u to t

pub behind : (up : Bool) (u t q p : Corner) → Leads up u t → Reaches up t q → Reaches up p t → pos 0 ≤ℤ turn u t p → pos 0 ≤ℤ turn u t q → pos 0 ≤ℤ turn t q p
behind up u t q p a b c h k =
    at_least (det (t.x -ℤ p.x) (t.y -ℤ p.y) (q.x -ℤ t.x) (q.y -ℤ t.y)) (turn t q p) (across t q p)
    (left_of_left_either up (t.x -ℤ p.x) (t.y -ℤ p.y) (t.x -ℤ u.x) (t.y -ℤ u.y) (q.x -ℤ t.x) (q.y -ℤ t.y) (forth_either up p t c) (on_either up u t a)
    (forth_either up t q b)
    (at_least (turn u t p) (det (t.x -ℤ p.x) (t.y -ℤ p.y) (t.x -ℤ u.x) (t.y -ℤ u.y)) (sym (around u t p)) h)
    (at_least (turn u t q) (det (t.x -ℤ u.x) (t.y -ℤ u.y) (q.x -ℤ t.x) (q.y -ℤ t.y)) (sym (along u t q)) k))

-- ---- an older step: c is left of the way from a to b, and q left of the way from b to c

pub older : (up : Bool) (a b c q : Corner) → Reaches up a b → Leads up b c → Reaches up b q → pos 0 ≤ℤ turn a b c → pos 0 ≤ℤ turn b c q → pos 0 ≤ℤ turn a b q
older up a b c q h k l m n =
    at_least (det (b.x -ℤ a.x) (b.y -ℤ a.y) (q.x -ℤ b.x) (q.y -ℤ b.y)) (turn a b q) (along a b q)
    (left_of_left_either up (b.x -ℤ a.x) (b.y -ℤ a.y) (c.x -ℤ b.x) (c.y -ℤ b.y) (q.x -ℤ b.x) (q.y -ℤ b.y) (forth_either up a b h) (on_either up b c k)
    (forth_either up b q l)
    (at_least (turn a b c) (det (b.x -ℤ a.x) (b.y -ℤ a.y) (c.x -ℤ b.x) (c.y -ℤ b.y)) (sym (along a b c)) m)
    n)
