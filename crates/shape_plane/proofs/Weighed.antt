-- Weights to which a row is added: their number, their size, and what they leave on each axis.
-- Which rows are added belongs elsewhere.
use Rattle.std.proofs.Common.{◌≡◌, ℕ, zero, suc, ◌+◌, ◌<◌, ◌≤◌, inl, inr, List, [], ◌∷◌, ◌++◌, length, refl, ap, sym, ◌∙◌, arith}
use Rattle.std.specs.Prelude.{ℤ, pos, neg_ℤ, ◌+ℤ◌, ◌-ℤ◌, ◌*ℤ◌, slice_get, Some}
use Rattle.std.proofs.lemmas.Int.{ints}
use Rattle.std.proofs.lemmas.List.{length-append}
use Rattle.std.proofs.lemmas.List.Sums.{sum_by-append, sum_by-cons}
use Rattle.std.proofs.lemmas.List.Elements.{All-push}
use Rattle.shape_terms.specs.Limits.{plane_weight}
use Rattle.shape_terms.specs.Points.{Point, coordinate}
use Rattle.shape_terms.specs.Vectors.{unit}
use Rattle.shape_terms.specs.Refutations.{Share, Step, StepShare, Refutation, IsStepOf, step_of, point_at, total_weight}
use Rattle.shape_refute.specs.Shown.{shift_of}
use Rattle.shape_refute.specs.Sums.{shares_sum, steps_sum, axis_value}
use Rattle.shape_plane.specs.declared.pair.Pair.{Pair}
use Rattle.shape_plane.specs.declared.row.Cause.{Cause}
use Rattle.shape_plane.specs.declared.row.Cause.TheVariants.{Proper, Gap}
use Rattle.shape_plane.specs.Rows.{IsGap}
use Rattle.shape_plane.specs.Pairs.{IsPair, gap}
use Rattle.shape_plane.specs.Systems.{no_weights, with_step, with_pair, with_row, with_up, balance, coefficient}
use Rattle.shape_plane.specs.Weighing.{IsEntry, IsStepEntry, IsWeighed}
use Rattle.shape_terms.proofs.Products.{rings}

-- ---- sums of one entry more

shares_more : (f : ℕ → ℤ) (xs : List Share) (s : Share) → shares_sum f (xs ++ s ∷ []) ≡ shares_sum f xs +ℤ pos s.weight *ℤ f s.place
shares_more f [] s = omega (arith, ints)
shares_more f (x ∷ xs) s = let h = shares_more f xs s in omega (arith, ints, h)

steps_more : (t k : ℕ) (xs : List StepShare) (s : StepShare)
    → steps_sum t k (xs ++ s ∷ []) ≡ steps_sum t k xs +ℤ pos s.weight *ℤ coordinate (step_of t s.step) k
steps_more t k [] s = omega (arith, ints)
steps_more t k (x ∷ xs) s = let h = steps_more t k xs s in omega (arith, ints, h)

pub balance_step : (t : ℕ) (points : List Point) (r : Refutation) (w : ℕ) (s : Step) (k : ℕ)
    → balance t points (with_step r w s) k ≡ balance t points r k +ℤ pos w *ℤ neg_ℤ (coordinate (step_of t s) k)
balance_step t points r w s k =
    less (shares_sum (axis_value points k (coordinate (unit t) k)) r.high -ℤ shares_sum (axis_value points k (pos 0)) r.low) (steps_sum t k r.steps)
    (steps_sum t k (with_step r w s).steps) (pos w) (coordinate (step_of t s) k) (steps_more t k r.steps (record { weight = w; step = s }))
  where
    less : (a b c w v : ℤ) → c ≡ b +ℤ w *ℤ v → a -ℤ c ≡ (a -ℤ b) +ℤ w *ℤ neg_ℤ v
    less a b c w v e = omega (arith, ints, rings, e)

pub balance_pair : (t : ℕ) (points : List Point) (r : Refutation) (w : ℕ) (pair : Pair) (k : ℕ)
    → balance t points (with_pair r w pair) k ≡ balance t points r k +ℤ pos w *ℤ (gap points pair k -ℤ coordinate (unit t) k)
balance_pair t points r w pair k =
    more (shares_sum (axis_value points k (coordinate (unit t) k)) r.high) (shares_sum (axis_value points k (pos 0)) r.low) (steps_sum t k r.steps)
    (shares_sum (axis_value points k (coordinate (unit t) k)) (with_pair r w pair).high) (shares_sum (axis_value points k (pos 0)) (with_pair r w pair).low)
    (pos w) (coordinate (point_at points pair.high) k) (coordinate (point_at points pair.low) k) (coordinate (unit t) k)
    (shares_more (axis_value points k (coordinate (unit t) k)) r.high (record { weight = w; place = pair.high }))
    (shares_more (axis_value points k (pos 0)) r.low (record { weight = w; place = pair.low }))
  where
    more : (a b s c d w x y u : ℤ) → c ≡ a +ℤ w *ℤ (x -ℤ u) → d ≡ b +ℤ w *ℤ (y -ℤ pos 0) → (c -ℤ d) -ℤ s ≡ ((a -ℤ b) -ℤ s) +ℤ w *ℤ ((x -ℤ y) -ℤ u)
    more a b s c d w x y u e f = omega (arith, ints, rings, e, f)

pub balance_row : (t : ℕ) (points : List Point) (r : Refutation) (w : ℕ) (c : Cause) (k : ℕ)
    → balance t points (with_row r w c) k ≡ balance t points r k +ℤ pos w *ℤ coefficient t points c k
balance_row t points r zero c k = omega (arith, ints)
balance_row t points r (suc w) (Proper s) k = balance_step t points r (suc w) (shift_of s) k
balance_row t points r (suc w) (Gap pair) k = balance_pair t points r (suc w) pair k

pub balance_up : (t : ℕ) (points : List Point) (r : Refutation) (w k : ℕ)
    → balance t points (with_up r w) k ≡ balance t points r k +ℤ pos w *ℤ neg_ℤ (coordinate (unit t) k)
balance_up t points r zero k = omega (arith, ints)
balance_up t points r (suc w) k = balance_step t points r (suc w) Step.Up k

-- ---- entries

length_more : {X : Type 0} (xs : List X) (x : X) → length (xs ++ x ∷ []) ≡ length xs + 1
length_more xs x = length-append xs (x ∷ [])

total_more : (xs : List Share) (s : Share) → total_weight (xs ++ s ∷ []) ≡ total_weight xs + s.weight
total_more xs s = let h = sum_by-append (λ (x : Share). x.weight) xs (s ∷ []) in let c = sum_by-cons (λ (x : Share). x.weight) s [] in omega (arith, h, c)

pub weighed_none : (d t : ℕ) (points : List Point) (pairs : List Pair) → IsWeighed d t points pairs 0 0 no_weights
weighed_none d t points pairs = record {
  low = λ k e l. absurd (omega arith);
  high = λ k e l. absurd (omega arith);
  steps = λ k e l. absurd (omega arith);
  low_few = omega arith;
  high_few = omega arith;
  steps_few = omega arith;
  same = refl;
}

pub weaker : (d t : ℕ) (points : List Point) (pairs : List Pair) (n m n' m' : ℕ) (r : Refutation) → n ≤ n' → m ≤ m' → IsWeighed d t points pairs n m r
    → IsWeighed d t points pairs n' m' r
weaker d t points pairs n m n' m' r a b w = record {
  low = w.low;
  high = w.high;
  steps = w.steps;
  low_few = (let h = w.low_few in omega (arith, h));
  high_few = (let h = w.high_few in omega (arith, h));
  steps_few = (let h = w.steps_few in omega (arith, h));
  same = w.same;
}

pub weighed_step : (d t : ℕ) (points : List Point) (pairs : List Pair) (n m : ℕ) (r : Refutation) (w : ℕ) (s : Step) → IsWeighed d t points pairs n m r
    → w < plane_weight → IsStepOf d t s → IsWeighed d t points pairs n (m + 1) (with_step r w s)
weighed_step d t points pairs n m r w s h small step = record {
  low = h.low;
  high = h.high;
  steps = All-push (IsStepEntry d t) r.steps (record { weight = w; step = s }) h.steps (record { step = step; small = small });
  low_few = h.low_few;
  high_few = h.high_few;
  steps_few = (let a = h.steps_few in let e = length_more r.steps (record { weight = w; step = s }) in omega (arith, a, e));
  same = h.same;
}

pub weighed_pair : (d t : ℕ) (points : List Point) (pairs : List Pair) (n m : ℕ) (r : Refutation) (w j : ℕ) (pair : Pair) → IsWeighed d t points pairs n m r
    → w < plane_weight → IsPair (length points) pair → slice_get pairs j ≡ Some pair → IsWeighed d t points pairs (n + 1) m (with_pair r w pair)
weighed_pair d t points pairs n m r w j pair h small p g = record {
  low = All-push (IsEntry (length points) pairs) r.low (record { weight = w; place = pair.low }) h.low
      (record { place = p.0; from = (j, pair, g, inl refl); small = small });
  high = All-push (IsEntry (length points) pairs) r.high (record { weight = w; place = pair.high }) h.high
      (record { place = p.1; from = (j, pair, g, inr refl); small = small });
  steps = h.steps;
  low_few = (let a = h.low_few in let e = length_more r.low (record { weight = w; place = pair.low }) in omega (arith, a, e));
  high_few = (let a = h.high_few in let e = length_more r.high (record { weight = w; place = pair.high }) in omega (arith, a, e));
  steps_few = h.steps_few;
  same = total_more r.low (record { weight = w; place = pair.low }) ∙ ap (λ (x : ℕ). x + w) h.same
      ∙ sym (total_more r.high (record { weight = w; place = pair.high }));
}

-- a lawful step, or one of the pairs
abbrev pub IsLawful : ℕ → ℕ → ℕ → List Pair → Cause → Type 0
IsLawful d t n pairs (Proper s) = IsStepOf d t (shift_of s)
IsLawful d t n pairs (Gap pair) = IsPair n pair × ((j : ℕ) × (slice_get pairs j ≡ Some pair))

pub weighed_row : (d t : ℕ) (points : List Point) (pairs : List Pair) (n m : ℕ) (r : Refutation) (w : ℕ) (c : Cause) → IsWeighed d t points pairs n m r
    → w < plane_weight → (1 ≤ w → IsLawful d t (length points) pairs c) → IsWeighed d t points pairs (n + 1) (m + 1) (with_row r w c)
weighed_row d t points pairs n m r zero c h small law = weaker d t points pairs n m (n + 1) (m + 1) r (omega arith) (omega arith) h
weighed_row d t points pairs n m r (suc w) (Proper s) h small law = weaker d t points pairs n (m + 1) (n + 1) (m + 1) _ (omega arith) (omega arith)
    (weighed_step d t points pairs n m r (suc w) (shift_of s) h small (law (omega arith)))
weighed_row d t points pairs n m r (suc w) (Gap pair) h small law = let l = law (omega arith) in weaker d t points pairs (n + 1) m (n + 1) (m + 1) _
    (omega arith) (omega arith) (weighed_pair d t points pairs n m r (suc w) l.1.0 pair h small l.0 l.1.1)

-- a row of a pair brings no step
pub weighed_gap : (d t : ℕ) (points : List Point) (pairs : List Pair) (n m : ℕ) (r : Refutation) (w : ℕ) (c : Cause) → IsWeighed d t points pairs n m r
    → w < plane_weight → IsLawful d t (length points) pairs c → IsGap c → IsWeighed d t points pairs (n + 1) m (with_row r w c)
weighed_gap d t points pairs n m r zero c h small l g = weaker d t points pairs n m (n + 1) m r (omega arith) (omega arith) h
weighed_gap d t points pairs n m r (suc w) (Gap pair) h small l g = weighed_pair d t points pairs n m r (suc w) l.1.0 pair h small l.0 l.1.1
weighed_gap d t points pairs n m r (suc w) (Proper s) h small l g = absurd g

-- how many low points there are in all
pub total_row : (r : Refutation) (w : ℕ) (c : Cause) → total_weight r.low ≤ total_weight (with_row r w c).low
total_row r zero c = omega arith
total_row r (suc w) (Proper s) = omega arith
total_row r (suc w) (Gap pair) = omega (arith, total_more r.low (record { weight = suc w; place = pair.low }))

pub total_gap : (r : Refutation) (w : ℕ) (c : Cause) → IsGap c → w ≤ total_weight (with_row r w c).low
total_gap r zero c g = omega arith
total_gap r (suc w) (Gap pair) g = omega (arith, total_more r.low (record { weight = suc w; place = pair.low }))
total_gap r (suc w) (Proper s) g = absurd g
