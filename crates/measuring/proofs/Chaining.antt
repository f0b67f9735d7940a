-- A chain with one point more: places are gone back over while the way does not turn left, and then the point is put.
-- A chain is seen as its places; lists come later.
use Rattle.std.proofs.Common.{◌≡◌, ◌⊎◌, inl, inr, ℕ, zero, suc, ◌+◌, ◌-◌, ◌<◌, Bool, true, false, refl, sym, subst, arith}
use Rattle.std.proofs.Math.IntN.{ℤ, pos}
use lib.Signed.{◌<ℤ◌, ◌≤ℤ◌}
use Rattle.std.proofs.lemmas.Int.{ints, by_lt_z}
use Rattle.shape_terms.proofs.Products.{rings}
use Rattle.measure_terms.specs.Hulls.{Corner, IsBefore, IsUpTo, turn}
use Rattle.measuring.specs.Chains.{Reaches, Leads, IsArch, IsChain, IsOpen, IsKept}
use Rattle.measuring.proofs.Pointing.{leads_reaches, leads_then, reaches_both, reaches_either, gone_back, behind, older}

-- ---- turns with a point twice

back_to_first : (a q : Corner) → turn a q a ≡ pos 0
back_to_first a q = omega (arith, ints, rings)

on_to_second : (a q : Corner) → turn a q q ≡ pos 0
on_to_second a q = omega (arith, ints, rings)

not_right : (z : ℤ) → z ≡ pos 0 → pos 0 ≤ℤ z
not_right z e = omega (arith, ints, e)

less : (z : ℤ) → pos 0 <ℤ z → pos 0 ≤ℤ z
less z l = omega (arith, ints, l)

-- ---- the same places

pub same_arch : (up : Bool) (S : Corner → Type 0) (v w : ℕ → Corner) (k : ℕ) → ((i : ℕ) → i < k → w i ≡ v i) → IsArch up S v k → IsArch up S w k
same_arch up S v w k same h =
    let some = h.some in
    record {
      some = some;
      of = λ i l. (let e = same i l in rw e (h.of i l));
      order = λ i l. (let e = same i (omega (arith, l)) in let f = same (i + 1) l in rw (e, f) (h.order i l));
      left = λ i p l s. (let e = same i (omega (arith, l)) in let f = same (i + 1) l in rw (e, f) (h.left i p l s));
      turns = λ i l. (let e = same i (omega (arith, l)) in let f = same (i + 1) (omega (arith, l)) in let g = same (i + 2) l in rw (e, f, g) (h.turns i l));
      first = λ p s. (let e = same 0 (omega (arith, some)) in rw e (h.first p s));
    }

pub same_kept : (up : Bool) (S : Corner → Type 0) (v w : ℕ → Corner) (q : Corner) (k : ℕ) → ((i : ℕ) → i < k → w i ≡ v i) → IsKept up S v q k
    → IsKept up S w q k
same_kept up S v w q k same h = record {
  until = record {
    arch = same_arch up S v w k same h.until.arch;
    next = λ i l. (let e = same i (omega (arith, l)) in rw e (h.until.next i l));
    rest = λ i p l s r. (
        let e = same i (omega (arith, l)) in
        let r' = subst (λ (z : Corner). Reaches up z p) e r in
        rw e (h.until.rest i p l s r'));
  };
  left = λ i l. (let e = same i (omega (arith, l)) in let f = same (i + 1) (omega (arith, l)) in rw (e, f) (h.left i l));
}

-- ---- places are gone back over

pub opened : (up : Bool) (S : Corner → Type 0) (v : ℕ → Corner) (q : Corner) (k : ℕ) → IsChain up S v k → ((i : ℕ) → i + 1 ≡ k → Leads up (v i) q)
    → IsOpen up S v q k
opened up S v q k h ahead = record {
  arch = h.arch;
  next = ahead;
  rest = λ i p l s r. (
      let e = reaches_both up (v i) p r (h.last i p l s) in
      subst (λ (z : Corner). pos 0 ≤ℤ turn (v i) q z) e (not_right (turn (v i) q (v i)) (back_to_first (v i) q)));
}

pub popped : (up : Bool) (S : Corner → Type 0) (v : ℕ → Corner) (q : Corner) (j k : ℕ) → j + 2 ≡ k → turn (v j) (v (j + 1)) q ≤ℤ pos 0 → IsOpen up S v q k
    → IsOpen up S v q (j + 1)
popped up S v q j k e t h =
    let a = h.arch in
    let step = a.order j (omega (arith, e)) in
    let go = leads_then up (v j) (v (j + 1)) q step (h.next (j + 1) (omega (arith, e))) in
    record {
      arch = record {
        some = omega arith;
        of = λ i l. a.of i (omega (arith, e, l));
        order = λ i l. a.order i (omega (arith, e, l));
        left = λ i p l s. a.left i p (omega (arith, e, l)) s;
        turns = λ i l. a.turns i (omega (arith, e, l));
        first = a.first;
      };
      next = λ i l. (let f : j ≡ i = omega (arith, l) in subst (λ n. Leads up (v n) q) f go);
      rest = λ i p l s r. (
          let f : j ≡ i = omega (arith, l) in
          let r' = subst (λ n. Reaches up (v n) p) (sym f) r in
          subst (λ n. pos 0 ≤ℤ turn (v n) q p) f
          (gone_back up (v j) (v (j + 1)) q p (leads_reaches up (v j) q go) step r' t (a.left j p (omega (arith, e)) s)));
    }

-- ---- the point is put

first_or_later : (i : ℕ) → (i ≡ 0) ⊎ ((j : ℕ) × (j + 1 ≡ i))
first_or_later zero = inl refl
first_or_later (suc j) = inr (j, omega arith)

module _ (up : Bool) (S : Corner → Type 0) (v : ℕ → Corner) (q : Corner) (k : ℕ) (h : IsKept up S v q k) (ahead : (p : Corner) → S p → Reaches up p q) where
  -- q lies left of each step
  step_left : (d i : ℕ) → i + 2 + d ≡ k → pos 0 ≤ℤ turn (v i) (v (i + 1)) q
  step_left zero i e = less (turn (v i) (v (i + 1)) q) (h.left i (omega (arith, e)))
  step_left (suc d) i e =
      let a = h.until.arch in
      let n = step_left d (i + 1) (omega (arith, e)) in
      let f : i + 1 + 1 ≡ i + 2 = omega arith in
      let step = subst (λ m. Leads up (v (i + 1)) (v m)) f (a.order (i + 1) (omega (arith, e))) in
      let n' = subst (λ m. pos 0 ≤ℤ turn (v (i + 1)) (v m) q) f n in
      older up (v i) (v (i + 1)) (v (i + 2)) q (leads_reaches up (v i) (v (i + 1)) (a.order i (omega (arith, e)))) step
      (ahead (v (i + 1)) (a.of (i + 1) (omega (arith, e)))) (less (turn (v i) (v (i + 1)) (v (i + 2))) (a.turns i (omega (arith, e)))) n'

  -- a point before the last place lies left of the way to q
  left_behind : (i : ℕ) (p : Corner) → i + 1 ≡ k → S p → Reaches up p (v i) → pos 0 ≤ℤ turn (v i) q p
  left_behind i p e s r =
      let a = h.until.arch in
      elim (first_or_later i) [
        | inl f ↦ h.until.rest i p e s (subst (λ n. Reaches up (v n) p) (sym f) (a.first p s))
        | inr (j, f) ↦ (
            let m = subst (λ n. n + 1 ≡ k) (sym f) e in
            let r' = subst (λ n. Reaches up p (v n)) (sym f) r in
            subst (λ n. pos 0 ≤ℤ turn (v n) q p) f
            (behind up (v j) (v (j + 1)) q p (a.order j (omega (arith, m))) (leads_reaches up (v (j + 1)) q (h.until.next (j + 1) m)) r'
            (a.left j p (omega (arith, m)) s) (less (turn (v j) (v (j + 1)) q) (h.left j (omega (arith, m))))))
      ]

  left_last : (i : ℕ) (p : Corner) → i + 1 ≡ k → S p → pos 0 ≤ℤ turn (v i) q p
  left_last i p e s = elim (reaches_either up (v i) p) [
    | inl r ↦ h.until.rest i p e s r
    | inr r ↦ left_behind i p e s r
  ]

at_or_before : (i k : ℕ) → i < k + 1 → (i < k) ⊎ (i ≡ k)
at_or_before i k l = grind arith

pub reaches_self : (up : Bool) (p : Corner) → Reaches up p p
reaches_self true p = record { row = omega (arith, ints); column = λ e. omega (arith, ints) }
reaches_self false p = record { row = omega (arith, ints); column = λ e. omega (arith, ints) }

pub pushed : (up : Bool) (S T : Corner → Type 0) (v : ℕ → Corner) (k : ℕ) → IsKept up S v (v k) k → ((p : Corner) → S p → Reaches up p (v k))
    → ((p : Corner) → T p → S p ⊎ (p ≡ v k)) → ((p : Corner) → S p → T p) → T (v k) → IsChain up T v (k + 1)
pushed up S T v k h ahead split to here =
    let a = h.until.arch in
    let q = v k in
    record {
      arch = record {
        some = omega arith;
        of = λ i l. elim (at_or_before i k l) [
          | inl m ↦ to (v i) (a.of i m)
          | inr e ↦ subst (λ n. T (v n)) (sym e) here
        ];
        order = λ i l. elim (at_or_before (i + 1) k l) [
          | inl m ↦ a.order i m
          | inr e ↦ subst (λ n. Leads up (v i) (v n)) (sym e) (h.until.next i e)
        ];
        left = λ i p l t. elim (at_or_before (i + 1) k l) [
          | inl m ↦ elim (split p t) [
            | inl s ↦ a.left i p m s
            | inr f ↦ subst (λ (z : Corner). pos 0 ≤ℤ turn (v i) (v (i + 1)) z) (sym f) (step_left up S v q k h ahead (k - (i + 2)) i (omega (arith, m)))
          ]
          | inr e ↦ subst (λ n. pos 0 ≤ℤ turn (v i) (v n) p) (sym e) (elim (split p t) [
            | inl s ↦ left_last up S v q k h ahead i p e s
            | inr f ↦ subst (λ (z : Corner). pos 0 ≤ℤ turn (v i) q z) (sym f) (not_right (turn (v i) q q) (on_to_second (v i) q))
          ])
        ];
        turns = λ i l. elim (at_or_before (i + 2) k l) [
          | inl m ↦ a.turns i m
          | inr e ↦ subst (λ n. pos 0 <ℤ turn (v i) (v (i + 1)) (v n)) (sym e) (h.left i e)
        ];
        first = λ p t. elim (split p t) [
          | inl s ↦ a.first p s
          | inr f ↦ subst (λ (z : Corner). Reaches up (v 0) z) (sym f) (ahead (v 0) (a.of 0 a.some))
        ];
      };
      last = λ i p e t. (
          let f : k ≡ i = omega (arith, e) in
          subst (λ n. Reaches up p (v n)) f (elim (split p t) [
            | inl s ↦ ahead p s
            | inr g ↦ subst (λ (z : Corner). Reaches up z q) (sym g) (reaches_self up q)
          ]));
    }

-- ---- the first point

pub begun : (up : Bool) (T : Corner → Type 0) (v : ℕ → Corner) → T (v 0) → ((p : Corner) → T p → p ≡ v 0) → IsChain up T v 1
begun up T v here same = record {
  arch = record {
    some = omega arith;
    of = λ i l. (let e : 0 ≡ i = omega (arith, l) in subst (λ n. T (v n)) e here);
    order = λ i l. absurd (omega (arith, l));
    left = λ i p l t. absurd (omega (arith, l));
    turns = λ i l. absurd (omega (arith, l));
    first = λ p t. subst (λ (z : Corner). Reaches up (v 0) z) (sym (same p t)) (reaches_self up (v 0));
  };
  last = λ i p e t. (
      let f : 0 ≡ i = omega (arith, e) in
      subst (λ n. Reaches up p (v n)) f (subst (λ (z : Corner). Reaches up z (v 0)) (sym (same p t)) (reaches_self up (v 0))));
}

-- ---- a point that is there already

pub same_set : (up : Bool) (S T : Corner → Type 0) (v : ℕ → Corner) (k : ℕ) → ((p : Corner) → T p → S p) → ((p : Corner) → S p → T p) → IsChain up S v k
    → IsChain up T v k
same_set up S T v k back to h =
    let a = h.arch in
    record {
      arch = record {
        some = a.some;
        of = λ i l. to (v i) (a.of i l);
        order = a.order;
        left = λ i p l t. a.left i p l (back p t);
        turns = a.turns;
        first = λ p t. a.first p (back p t);
      };
      last = λ i p l t. h.last i p l (back p t);
    }

-- ---- from one point to another

up_apart : (p q : Corner) → IsUpTo p q → (p ≡ q → ⊥) → IsBefore p q
up_apart p q h n = record {
  row = h.row;
  column = λ e. by_lt_z p.x q.x (λ (l : p.x <ℤ q.x). l)
      (λ (l : q.x ≤ℤ p.x). let c = h.column e in let f : p.x ≡ q.x = omega (arith, ints, c, l) in absurd (n (λ i. record { y = e i; x = f i })));
}

pub reaches_apart : (up : Bool) (p q : Corner) → Reaches up p q → (p ≡ q → ⊥) → Leads up p q
reaches_apart true p q h n = up_apart p q h n
reaches_apart false p q h n = up_apart q p h (λ e. n (sym e))
