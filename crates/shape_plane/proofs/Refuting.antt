-- An exclusion of all slopes by two combinations, as weights that refute the points.
-- How an exclusion is found belongs elsewhere.
use Rattle.std.proofs.Common.{◌≡◌, ℕ, zero, suc, ◌+◌, ◌<◌, ◌≤◌, ◌⊎◌, inl, inr, true, List, length, map, refl, ap, sym, subst, ◌∙◌, arith}
use Rattle.std.specs.Prelude.{ℤ, pos, negsuc, neg_ℤ, ◌+ℤ◌, ◌-ℤ◌, ◌*ℤ◌, ◌≤ℤ◌, All, unsigned_abs}
use Rattle.std.proofs.lemmas.Int.{ints, unsigned_abs-mul}
use Rattle.std.proofs.lemmas.Nat.{mul-le}
use Rattle.std.proofs.lemmas.List.{length-map}
use Rattle.shape_terms.specs.Limits.{plane_gap, plane_row, plane_weight}
use Rattle.shape_terms.specs.Points.{Point, coordinate}
use Rattle.shape_terms.specs.Vectors.{unit}
use Rattle.shape_terms.specs.Refutations.{Step, Refutation, total_weight, Refutes}
use Rattle.shape_refute.specs.Sums.{shares_sum, steps_sum, axis_value, low_side, high_side}
use Rattle.shape_refute.proofs.Meet.{unit_same, unit_other}
use Rattle.shape_refute.proofs.Steps.{low_is, high_is, refutes_is}
use Rattle.shape_plane.specs.declared.pair.Pair.{Pair}
use Rattle.shape_plane.specs.declared.row.Row.{Row}
use Rattle.shape_plane.specs.declared.combination.Combination.{Combination}
use Rattle.shape_plane.specs.declared.eliminate.Multiple.{Multiple}
use Rattle.shape_plane.specs.declared.eliminate.Excluded.{Excluded}
use Rattle.shape_plane.specs.Rows.{row_at, IsGap}
use Rattle.shape_plane.specs.Combinations.{IsCombination}
use Rattle.shape_plane.specs.Solutions.{IsMultiple, IsTaken, IsExcluded}
use Rattle.shape_plane.specs.Pairs.{IsPair, ArePairs, first_axis, second_axis}
use Rattle.shape_plane.specs.Systems.{rows_for, no_weights, with_row, with_up, with_multiple, weights_of, balance, coefficient}
use Rattle.shape_plane.specs.Weighing.{IsWeighed, AreWeights}
use Rattle.shape_terms.proofs.Products.{rings}
use Rattle.shape_terms.proofs.Order.{mul-le_ℤ, mul-lt_ℤ, mul-nonneg}
use Rattle.shape_plane.proofs.Gaps.{no_gap}
use Rattle.shape_plane.proofs.Weighed.{balance_row, balance_up, weighed_none, weaker, weighed_step, weighed_row, weighed_gap, IsLawful, total_row, total_gap}
use Rattle.shape_plane.proofs.Certified.{few_axes, low_axis, each_axis, first_other, second_other, IsSound, sound_rows}

-- ---- plain variables

-- how often a row is taken
times : (g v : ℤ) → pos 0 ≤ℤ g → pos 0 ≤ℤ v → pos (unsigned_abs (g *ℤ v)) ≡ g *ℤ v
times g v h k = let m = mul-nonneg g v h k in sized (g *ℤ v) m
  where
    sized : (z : ℤ) → pos 0 ≤ℤ z → pos (unsigned_abs z) ≡ z
    sized z h = omega (arith, ints, h)

times_small : (g v : ℤ) → unsigned_abs g ≤ plane_row → unsigned_abs v ≤ plane_gap → unsigned_abs (g *ℤ v) < plane_weight
times_small g v h k = let m = mul-le (unsigned_abs g) (unsigned_abs v) plane_row plane_gap h k in omega (arith, unsigned_abs-mul g v, m)

pub times_none : (g v : ℤ) → v ≡ pos 0 → unsigned_abs (g *ℤ v) ≡ 0
times_none g v e = rw e (none g)
  where
    none : (g : ℤ) → unsigned_abs (g *ℤ pos 0) ≡ 0
    none g = omega (arith, ints)

times_some : (g v : ℤ) → pos 0 ≤ℤ v → 1 ≤ unsigned_abs (g *ℤ v) → pos 1 ≤ℤ v
times_some g (pos zero) h l = absurd (let e = times_none g (pos 0) refl in omega (arith, e, l))
times_some g (pos (suc v)) h l = omega (arith, ints)
times_some g (negsuc v) h l = absurd (omega (arith, ints, h))

-- where one row stands alone it alone brings a step, and else the first does
pub few_steps : {Z A : Type 0} {a b c : ℕ} → Z ⊎ A → b ≤ a + 1 → (Z → b ≡ a) → c ≤ b + 1 → (A → c ≡ b) → c ≤ a + 1
few_steps (inl z) h f l g = let k = f z in omega (arith, k, l)
few_steps (inr x) h f l g = let k = g x in omega (arith, k, h)

factor_zero : (w y : ℤ) → pos 1 ≤ℤ w → w *ℤ y ≡ pos 0 → y ≡ pos 0
factor_zero w (pos zero) l e = refl
factor_zero w (pos (suc y)) l e = absurd (let h = mul-lt_ℤ w (pos 0) (pos (suc y)) (omega (arith, ints, l)) (omega (arith, ints)) in omega (arith, ints, h, e))
factor_zero w (negsuc y) l e = absurd (let h = mul-lt_ℤ w (negsuc y) (pos 0) (omega (arith, ints, l)) (omega (arith, ints)) in omega (arith, ints, h, e))

up_low : (r : Refutation) (n : ℕ) → (with_up r n).low ≡ r.low
up_low r zero = refl
up_low r (suc n) = refl

weighed_up : (d t : ℕ) (points : List Point) (pairs : List Pair) (n m : ℕ) (r : Refutation) (w : ℕ) → IsWeighed d t points pairs n m r → w < plane_weight
    → IsWeighed d t points pairs n (m + 1) (with_up r w)
weighed_up d t points pairs n m r zero h s = weaker d t points pairs n m n (m + 1) r (omega arith) (omega arith) h
weighed_up d t points pairs n m r (suc w) h s = weighed_step d t points pairs n m r (suc w) Step.Up h s tt

-- ---- the rows of one combination

module _ (d t : ℕ) (points : List Point) (pairs : List Pair) (rows : List Row) (sound : All (IsSound d t points pairs) rows) where
  row_sound : (i : ℕ) → i < length rows → IsSound d t points pairs (row_at rows i)
  row_sound i l = sound i _ l

  second_flat : (c : Combination) → IsCombination rows c → d ≡ 2 → (row_at rows c.second).y ≡ pos 0
  second_flat c h e = by_kind h.kind
    where
      alone : (v w x y : ℤ) → pos 0 ≡ v *ℤ x +ℤ w *ℤ y → v ≡ pos 0 → w *ℤ y ≡ pos 0
      alone v w x y h e = let g = ap (λ (z : ℤ). z *ℤ x) e in omega (arith, ints, h, g)

      by_kind : (c.first_weight ≡ pos 0) ⊎ IsGap (row_at rows c.second).cause → (row_at rows c.second).y ≡ pos 0
      by_kind (inl n) = factor_zero c.second_weight (row_at rows c.second).y h.second_low
          (alone c.first_weight c.second_weight (row_at rows c.first).y (row_at rows c.second).y h.y n)
      by_kind (inr g) = (row_sound c.second h.second).flat g e

  first_flat : (c : Combination) → IsCombination rows c → pos 1 ≤ℤ c.first_weight → d ≡ 2 → (row_at rows c.first).y ≡ pos 0
  first_flat c h l e = factor_zero c.first_weight (row_at rows c.first).y l
      (alone c.first_weight c.second_weight (row_at rows c.first).y (row_at rows c.second).y h.y (second_flat c h e))
    where
      alone : (v w x y : ℤ) → pos 0 ≡ v *ℤ x +ℤ w *ℤ y → y ≡ pos 0 → v *ℤ x ≡ pos 0
      alone v w x y h e = let g = ap (λ (z : ℤ). w *ℤ z) e in omega (arith, ints, h, g)

  -- a combination brings two pairs and one step at most
  weighed_multiple : (m : Multiple) (n s : ℕ) (r : Refutation) → IsMultiple rows m → IsWeighed d t points pairs n s r
      → IsWeighed d t points pairs (n + 2) (s + 1) (with_multiple rows r m)
  weighed_multiple m n s r h i = by_kind c.kind
    where
      c : IsCombination rows m.combination
      c = h.combination

      v : ℕ
      v = unsigned_abs (m.times *ℤ m.combination.first_weight)

      w : ℕ
      w = unsigned_abs (m.times *ℤ m.combination.second_weight)

      lawful : IsLawful d t (length points) pairs (row_at rows m.combination.second).cause
      lawful = (row_sound m.combination.second c.second).lawful (second_flat m.combination c)

      by_kind : (m.combination.first_weight ≡ pos 0) ⊎ IsGap (row_at rows m.combination.second).cause
          → IsWeighed d t points pairs (n + 2) (s + 1) (with_multiple rows r m)
      by_kind (inl e) = subst
          (λ (z : ℕ). IsWeighed d t points pairs (n + 2) (s + 1)
          (with_row (with_row r z (row_at rows m.combination.first).cause) w (row_at rows m.combination.second).cause))
          (sym (times_none m.times m.combination.first_weight e))
          (weaker d t points pairs (n + 1) (s + 1) (n + 2) (s + 1) _ (omega arith) (omega arith)
          (weighed_row d t points pairs n s r w (row_at rows m.combination.second).cause i
          (times_small m.times m.combination.second_weight h.high c.second_high) (λ l. lawful)))
      by_kind (inr g) = weaker d t points pairs (n + 1 + 1) (s + 1) (n + 2) (s + 1) _ (omega arith) (omega arith)
          (weighed_gap d t points pairs (n + 1) (s + 1) _ w (row_at rows m.combination.second).cause
          (weighed_row d t points pairs n s r v (row_at rows m.combination.first).cause i (times_small m.times m.combination.first_weight h.high c.first_high)
          (λ l. (row_sound m.combination.first c.first).lawful (first_flat m.combination c (times_some m.times m.combination.first_weight c.first_low l))))
          (times_small m.times m.combination.second_weight h.high c.second_high) lawful g)

  -- what it leaves on an axis, where its rows have these coefficients there
  balance_multiple : (m : Multiple) (r : Refutation) (i : ℕ) (x y z : ℤ) → IsMultiple rows m
      → coefficient t points (row_at rows m.combination.first).cause i ≡ x → coefficient t points (row_at rows m.combination.second).cause i ≡ y
      → z ≡ m.combination.first_weight *ℤ x +ℤ m.combination.second_weight *ℤ y
      → balance t points (with_multiple rows r m) i ≡ balance t points r i +ℤ m.times *ℤ z
  balance_multiple m r i x y z h ex ey ez =
      let v = unsigned_abs (m.times *ℤ m.combination.first_weight) in
      let c = (row_at rows m.combination.first).cause in
      sums (balance t points r i) _ _ _ _ _ _ m.times m.combination.first_weight m.combination.second_weight x y z
      (balance_row t points r v c i)
      (balance_row t points (with_row r v c) (unsigned_abs (m.times *ℤ m.combination.second_weight)) (row_at rows m.combination.second).cause i)
      (times m.times m.combination.first_weight h.low h.combination.first_low)
      (times m.times m.combination.second_weight h.low (let l = h.combination.second_low in omega (arith, ints, l))) ex ey ez
    where
      sums : (a b c v w k l g f s x y z : ℤ) → b ≡ a +ℤ v *ℤ k → c ≡ b +ℤ w *ℤ l → v ≡ g *ℤ f → w ≡ g *ℤ s → k ≡ x → l ≡ y → z ≡ f *ℤ x +ℤ s *ℤ y
          → c ≡ a +ℤ g *ℤ z
      sums a b c v w k l g f s x y z eb ec ev ew ek el ez = rw (ec, eb, ev, ew, ek, el, ez) (omega (arith, ints, rings))

  -- a pair of points stands in a combination that is taken
  some_multiple : (m : Multiple) (r : Refutation) → IsMultiple rows m → IsTaken rows m → 1 ≤ total_weight (with_multiple rows r m).low
  some_multiple m r h k =
      let p = mul-le_ℤ m.times (pos 1) m.combination.second_weight h.low h.combination.second_low in
      let e = times m.times m.combination.second_weight h.low (let l = h.combination.second_low in omega (arith, ints, l)) in
      let g = total_gap (with_row r (unsigned_abs (m.times *ℤ m.combination.first_weight)) (row_at rows m.combination.first).cause)
      (unsigned_abs (m.times *ℤ m.combination.second_weight)) (row_at rows m.combination.second).cause k.0 in
      some m.times (m.times *ℤ m.combination.second_weight) _ _ p k.1 e g
    where
      some : (g p : ℤ) (n s : ℕ) → (g *ℤ pos 1) ≤ℤ p → pos 1 ≤ℤ g → pos n ≡ p → n ≤ s → 1 ≤ s
      some g p n s a b e l = omega (arith, ints, a, b, e, l)

  more_multiple : (m : Multiple) (r : Refutation) → total_weight r.low ≤ total_weight (with_multiple rows r m).low
  more_multiple m r =
      let v = unsigned_abs (m.times *ℤ m.combination.first_weight) in
      let c = (row_at rows m.combination.first).cause in
      omega (
        arith,
        total_row r v c,
        total_row (with_row r v c) (unsigned_abs (m.times *ℤ m.combination.second_weight))
            (row_at rows m.combination.second).cause,
      )

-- ---- the rows of both

module _ (d t : ℕ) (points : List Point) (pairs : List Pair) (rows : List Row) (two : (d ≡ 2) ⊎ (d ≡ 3)) (axis : t < d)
    (sound : All (IsSound d t points pairs) rows) (k : Excluded) (x : IsExcluded rows k) where
  abbrev one : Refutation
  one = with_multiple rows no_weights k.first

  abbrev both : Refutation
  both = with_multiple rows one k.second

  weighed : IsWeighed d t points pairs 4 3 (weights_of rows k)
  weighed = weighed_up d t points pairs 4 2 both (unsigned_abs k.rest)
      (weighed_multiple d t points pairs rows sound k.second 2 1 one x.second
      (weighed_multiple d t points pairs rows sound k.first 0 0 no_weights x.first (weighed_none d t points pairs)))
      (let h = x.rest_high in omega (arith, h))

  -- what is left on an axis
  left : (i : ℕ) (u y z : ℤ) → coordinate (unit t) i ≡ u → balance t points one i ≡ pos 0 +ℤ k.first.times *ℤ y
      → balance t points both i ≡ balance t points one i +ℤ k.second.times *ℤ z
      → balance t points (weights_of rows k) i ≡ (k.first.times *ℤ y +ℤ k.second.times *ℤ z) +ℤ k.rest *ℤ neg_ℤ u
  left i u y z eu ey ez = sums (balance t points one i) (balance t points both i) (balance t points (weights_of rows k) i) (k.first.times *ℤ y)
      (k.second.times *ℤ z) (pos (unsigned_abs k.rest)) k.rest u (coordinate (unit t) i) ey ez (balance_up t points both (unsigned_abs k.rest) i)
      (let l = x.rest_low in omega (arith, ints, l)) eu
    where
      sums : (a b c p q n r u v : ℤ) → a ≡ pos 0 +ℤ p → b ≡ a +ℤ q → c ≡ b +ℤ n *ℤ neg_ℤ v → n ≡ r → v ≡ u → c ≡ (p +ℤ q) +ℤ r *ℤ neg_ℤ u
      sums a b c p q n r u v ea eb ec en ev = rw (ec, eb, ea, en, ev) (omega (arith, ints, rings))

  balanced : (i : ℕ) → i < d → balance t points (weights_of rows k) i ≡ pos 0
  balanced i l = by_axis (each_axis t i (low_axis d t two axis) (omega (arith, few_axes d two, l)))
    where
      told : (i : ℕ) → i < length rows → IsSound d t points pairs (row_at rows i)
      told = row_sound d t points pairs rows sound

      more : (m : Multiple) (r : Refutation) (i : ℕ) (x y z : ℤ) → IsMultiple rows m → coefficient t points (row_at rows m.combination.first).cause i ≡ x
          → coefficient t points (row_at rows m.combination.second).cause i ≡ y
          → z ≡ m.combination.first_weight *ℤ x +ℤ m.combination.second_weight *ℤ y
          → balance t points (with_multiple rows r m) i ≡ balance t points r i +ℤ m.times *ℤ z
      more = balance_multiple d t points pairs rows sound

      off : (s r : ℤ) → s ≡ pos 0 → s +ℤ r *ℤ neg_ℤ (pos 0) ≡ pos 0
      off s r h = omega (arith, ints, h)

      on : (s r : ℤ) → r ≡ s → s +ℤ r *ℤ neg_ℤ (pos 1) ≡ pos 0
      on s r h = omega (arith, ints, h)

      zeros : (g h : ℤ) → g *ℤ pos 0 +ℤ h *ℤ pos 0 ≡ pos 0
      zeros g h = omega (arith, ints)

      at_first : balance t points (weights_of rows k) (first_axis t) ≡ pos 0
      at_first =
          let a = x.first.combination in
          let b = x.second.combination in
          left (first_axis t) (pos 0) k.first.combination.bound.x k.second.combination.bound.x (unit_other t (first_axis t) (first_other t))
          (more k.first no_weights (first_axis t) _ _ _ x.first (told _ a.first).told.x (told _ a.second).told.x a.x)
          (more k.second one (first_axis t) _ _ _ x.second (told _ b.first).told.x (told _ b.second).told.x b.x)
          ∙ off _ k.rest (sym x.gone)

      at_second : balance t points (weights_of rows k) (second_axis t) ≡ pos 0
      at_second =
          let a = x.first.combination in
          let b = x.second.combination in
          left (second_axis t) (pos 0) (pos 0) (pos 0) (unit_other t (second_axis t) (second_other t))
          (more k.first no_weights (second_axis t) _ _ _ x.first (told _ a.first).told.y (told _ a.second).told.y a.y)
          (more k.second one (second_axis t) _ _ _ x.second (told _ b.first).told.y (told _ b.second).told.y b.y)
          ∙ off _ k.rest (zeros k.first.times k.second.times)

      at_main : balance t points (weights_of rows k) t ≡ pos 0
      at_main =
          let a = x.first.combination in
          let b = x.second.combination in
          left t (pos 1) k.first.combination.bound.z k.second.combination.bound.z (unit_same t)
          (more k.first no_weights t _ _ _ x.first (told _ a.first).told.z (told _ a.second).told.z a.z)
          (more k.second one t _ _ _ x.second (told _ b.first).told.z (told _ b.second).told.z b.z)
          ∙ on _ k.rest x.rest

      by_axis : (i ≡ t) ⊎ ((i ≡ first_axis t) ⊎ (i ≡ second_axis t)) → balance t points (weights_of rows k) i ≡ pos 0
      by_axis (inl h) = subst (λ (j : ℕ). balance t points (weights_of rows k) j ≡ pos 0) (sym h) at_main
      by_axis (inr (inl h)) = subst (λ (j : ℕ). balance t points (weights_of rows k) j ≡ pos 0) (sym h) at_first
      by_axis (inr (inr h)) = subst (λ (j : ℕ). balance t points (weights_of rows k) j ≡ pos 0) (sym h) at_second

  some : 1 ≤ total_weight (weights_of rows k).low
  some = rw (up_low both (unsigned_abs k.rest)) (by_pair x.pair)
    where
      by_pair : IsTaken rows k.first ⊎ IsTaken rows k.second → 1 ≤ total_weight both.low
      by_pair (inl h) = omega
          (arith, some_multiple d t points pairs rows sound k.first no_weights x.first h, more_multiple d t points pairs rows sound k.second one)
      by_pair (inr h) = some_multiple d t points pairs rows sound k.second one x.second h

-- ---- the points refuted

module _ {Q : Type 0} (f : Q → Point) (d t : ℕ) (ps : List Q) (pairs : List Pair) (axes : (q : Q) → length (f q) ≡ d) (two : (d ≡ 2) ⊎ (d ≡ 3)) (axis : t < d)
    (are : ArePairs (length ps) pairs)
    (rows : List Row) (same : rows ≡ rows_for t (map f ps) pairs) (k : Excluded) (x : IsExcluded rows k) where
  sound : All (IsSound d t (map f ps) pairs) rows
  sound = subst (All (IsSound d t (map f ps) pairs)) (sym same)
      (sound_rows d t (map f ps) pairs two axis (subst (λ (n : ℕ). ArePairs n pairs) (sym (length-map ps f)) are)
      (λ pair p e. no_gap f d t ps pair axes (subst (λ (n : ℕ). IsPair n pair) (length-map ps f) p) e axis))

  entries : IsWeighed d t (map f ps) pairs 4 3 (weights_of rows k)
  entries = weighed d t (map f ps) pairs rows two axis sound k x

  refutes : Refutes d t (map f ps) (weights_of rows k)
  refutes = (refutes_is f d t ps (weights_of rows k) true axes axis
      (λ i s l. let p = (entries.low i s l).place in let q = length-map ps f in omega (arith, p, q))
      (λ i s l. let p = (entries.high i s l).place in let q = length-map ps f in omega (arith, p, q))
      (λ i s l. (entries.steps i s l).step) (some d t (map f ps) pairs rows two axis sound k x) entries.same ((λ h. meets), (λ h. refl))).0 refl
    where
      meets : (i : ℕ) → i < d → coordinate (low_side t (map f ps) (weights_of rows k)) i ≡ coordinate (high_side t (map f ps) (weights_of rows k)) i
      meets i l =
          low_is t i (map f ps) (weights_of rows k)
          ∙ moved (shares_sum (axis_value (map f ps) i (coordinate (unit t) i)) (weights_of rows k).high)
          (shares_sum (axis_value (map f ps) i (pos 0)) (weights_of rows k).low) (steps_sum t i (weights_of rows k).steps)
          (balanced d t (map f ps) pairs rows two axis sound k x i l)
          ∙ sym (high_is t i (map f ps) (weights_of rows k) (coordinate (unit t) i) refl)
        where
          moved : (h l s : ℤ) → (h -ℤ l) -ℤ s ≡ pos 0 → l +ℤ s ≡ h
          moved h l s e = omega (arith, ints, e)

  pub are_weights : AreWeights d t (map f ps) pairs (weights_of rows k)
  are_weights = record {
    refutes = refutes;
    small = record {
      few_low = entries.low_few;
      few_high = entries.high_few;
      few_steps = (let h = entries.steps_few in omega (arith, h));
      low = λ i s l. (entries.low i s l).small;
      high = λ i s l. (entries.high i s l).small;
      steps = λ i s l. (entries.steps i s l).small;
    };
    low = λ i s l. (entries.low i s l).from;
    high = λ i s l. (entries.high i s l).from;
  }
