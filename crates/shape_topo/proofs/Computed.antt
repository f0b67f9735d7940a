-- A count by computation that was not cut short is the number of components.
-- Laws over numbers alone.
use Rattle.std.proofs.Common.{◌≡◌, ℕ, zero, suc, ◌+◌, ◌-◌, ◌*◌, ◌^◌, ◌%◌, ◌<◌, ◌≤◌, List, slice_index, arith, refl, ap, subst, Bool, true, false, cond, eqb}
use Rattle.std.specs.Int.{bit_at}
use Rattle.std.specs.Int.Bits.{bit_and, bit_or}
use Rattle.std.specs.Int.Count.{count_trailing_zeros}
use Rattle.std.proofs.lemmas.Bool.Decides.{nat_tests}
use Rattle.std.proofs.lemmas.Nat.Bits.{bit_at-lt}
use Rattle.std.proofs.lemmas.Nat.{or_lt, and_le_l, and_le_r}
use Rattle.shape_adj.specs.NearMasks.{In}
use Rattle.shape_topo.specs.Bits.{AreSymmetric, IsComponent, CountsParts}
use Rattle.shape_topo.specs.Compute.{next_part, next_todo, grow, seed_part, count}
use Rattle.shape_topo.proofs.Growing.{Growing, grow_start, grow_end, step_keeps}
use Rattle.shape_topo.proofs.Counting.{Counting, count_start, count_skip, count_more, count_end}

module _ (links : List ℕ) (m s : ℕ) (mf : m < 2 ^ 32) where
  Right : ℕ × ℕ → Type 0
  Right r = r.1 ≡ 0 → IsComponent links m s r.0 × (r.0 < 2 ^ 32)

  grow_right : (n part todo : ℕ) → part < 2 ^ 32 → todo < 2 ^ 32 → Growing links m s part todo → Right (grow n links m part todo)
  unfolding Right
  grow_right zero part todo pf tf g = λ e. (grow_end links m s part (subst (Growing links m s part) e g), pf)
  grow_right (suc n) part todo pf tf g = go (eqb todo 0) refl (grow_right n)
    where
      go : (b : Bool) → eqb todo 0 ≡ b → ((part todo : ℕ) → part < 2 ^ 32 → todo < 2 ^ 32 → Growing links m s part todo → Right (grow n links m part todo))
          → Right (grow n links m (cond b part (next_part part todo)) (cond b 0 (next_todo links m part todo)))
      go true t ih =
          let z : todo ≡ 0 = grind (arith, nat_tests) in
          ih part 0 pf (omega arith) (subst (Growing links m s part) z g)
      go false t ih =
          let z : 0 < todo = grind (arith, nat_tests) in
          let p : next_part part todo < 2 ^ 32 = or_lt 32 part _ pf (omega arith) in
          let q : bit_or todo (bit_and (slice_index links (count_trailing_zeros 32 todo)) m) < 2 ^ 32 =
          or_lt 32 todo _ tf (let a = and_le_r (slice_index links (count_trailing_zeros 32 todo)) m in omega arith) in
          let r = and_le_l (bit_or todo (bit_and (slice_index links (count_trailing_zeros 32 todo)) m)) (2 ^ 32 - 1 - next_part part todo) in
          ih (next_part part todo) (next_todo links m part todo) p (omega arith) (step_keeps links m s part todo mf pf tf z g)

  pub seed_right : (n : ℕ) → s < 32 → In m s → (seed_part n links m s).1 ≡ 0 → IsComponent links m s (seed_part n links m s).0
      × ((seed_part n links m s).0 < 2 ^ 32)
  unfolding Right
  seed_right n h i e = grow_right n 0 (1 * 2 ^ s % 2 ^ 32) (omega arith) (omega arith) (grow_start links m s h i) e

module _ (w : ℕ) (links : List ℕ) (m seeds : ℕ) (mf : m < 2 ^ 32) (y : AreSymmetric links) (sub : (k : ℕ) → In seeds k → In m k) where
  count_bad : (k s rest n bad : ℕ) → bad ≤ (count k w links m s rest n bad).1
  count_bad zero s rest n bad = omega arith
  count_bad (suc k) s rest n bad = let h = count_bad k (s + 1) (cond (eqb (bit_at rest s) 1) (bit_and rest (2 ^ 32 - 1 - (seed_part w links m s).0)) rest)
      (n + bit_at rest s) (bad + bit_at rest s * (seed_part w links m s).1) in omega arith

  count_right : (k v s rest n bad : ℕ) → s + k ≡ v → v ≤ 32 → rest < 2 ^ 32 → Counting links m seeds rest s n → (count k w links m s rest n bad).1 ≡ 0 → (r : ℕ)
      × Counting links m seeds r v (count k w links m s rest n bad).0
  count_right zero v s rest n bad e u rf g z = (rest, subst (λ x. Counting links m seeds rest x n) (omega arith) g)
  count_right (suc k) v s rest n bad e u rf g z =
      let p = seed_part w links m s in
      let h = count_bad k (s + 1) (cond (eqb (bit_at rest s) 1) (bit_and rest (2 ^ 32 - 1 - p.0)) rest) (n + bit_at rest s) (bad + bit_at rest s * p.1) in
      count_right k v (s + 1) (cond (eqb (bit_at rest s) 1) (bit_and rest (2 ^ 32 - 1 - p.0)) rest) (n + bit_at rest s) (bad + bit_at rest s * p.1)
      (omega arith) u
      (fits (eqb (bit_at rest s) 1)) (next (bit_at rest s) refl (omega arith)) z
    where
      fits : (b : Bool) → cond b (bit_and rest (2 ^ 32 - 1 - (seed_part w links m s).0)) rest < 2 ^ 32
      fits true = let a = and_le_l rest (2 ^ 32 - 1 - (seed_part w links m s).0) in omega arith
      fits false = rf

      next : (b : ℕ) → bit_at rest s ≡ b → b * (seed_part w links m s).1 ≡ 0
          → Counting links m seeds (cond (eqb b 1) (bit_and rest (2 ^ 32 - 1 - (seed_part w links m s).0)) rest) (s + 1) (n + b)
      next zero i j = subst (λ x. Counting links m seeds rest (s + 1) x) (omega arith) (count_skip links m seeds rest s n (λ o. omega arith) g)
      next (suc zero) i j =
          let o = seed_right links m s mf w (omega arith) (sub s ((g.1).rest_new s i).0) (omega arith) in
          count_more links m seeds rest s n _ y mf rf o.1 i o.0 g
      next (suc (suc b)) i j = absurd (let a = bit_at-lt rest s in omega arith)

  -- a count in which no part was cut short is the number of parts
  pub count_is : (v n : ℕ) → v ≤ 32 → m < 2 ^ v → seeds < 2 ^ 32 → ◌≡◌ {A = ℕ × ℕ} (count v w links m 0 seeds 0 0) (n, 0) → CountsParts links m seeds n
  count_is v n u vf sf e =
      let r = count_right v v 0 seeds 0 0 (omega arith) u sf (count_start links m seeds) (ap (λ (x : ℕ × ℕ). x.1) e) in
      count_end links m seeds r.0 v n vf y sub (subst (λ (x : ℕ × ℕ). Counting links m seeds r.0 v x.0) e r.1)
