-- One entry more in the loops over the weights, and what the loops' results say of a refutation.
-- Plain variables alone stand here; the loops run from the last entry to the first.
use Rattle.std.proofs.Common.{◌≡◌, ℕ, zero, suc, ◌+◌, ◌*◌, ◌^◌, ◌<◌, ◌≤◌, Bool, List, [], ◌∷◌, length, drop, map, refl, ap, sym, ◌∙◌, arith, get_or}
use Rattle.std.specs.Prelude.{ℤ, pos, negsuc, ◌+ℤ◌, ◌-ℤ◌, ◌*ℤ◌, ◌↔◌, IsTrue, All, slice_get, Some, unsigned_abs}
use Rattle.std.specs.List.{AllByRecursion}
use Rattle.std.proofs.lemmas.Int.{ints}
use Rattle.std.proofs.lemmas.Option.{slice_get_within, get_or_from_slice_get}
use Rattle.std.proofs.lemmas.List.Elements.{All-cons, recursion_from_All}
use Rattle.shape_terms.specs.Points.{Point, coordinate}
use Rattle.shape_terms.specs.Adjacency.{moved}
use Rattle.shape_terms.specs.Vectors.{times, unit, difference}
use Rattle.shape_terms.specs.Refutations.{Share, StepShare, Refutation, step_of, IsStepOf, point_at, weighted_points, weighted_steps, total_weight, Refutes}
use Rattle.shape_terms.proofs.Coordinates.{coordinate-moved}
use Rattle.shape_refute.specs.Sums.{shares_sum, steps_sum, ArePlaces, AreSteps, axis_value, low_side, high_side}
use Rattle.shape_refute.proofs.Entries.{drop_read}
use Rattle.shape_refute.proofs.Meet.{coordinate-difference, coordinate-points, coordinate-steps, length-times, length-along, length-moved, length-points}
use Rattle.shape_refute.proofs.Meet.{length-steps, same_point}

-- ---- facts of each entry

pub all_step : {X : Type 0} (P : X → Type 0) (xs : List X) (k i : ℕ) (x : X) → k ≡ i + 1 → slice_get xs i ≡ Some x → P x → All P (drop k xs) → All P (drop i xs)
all_step P xs k i x e h p a = rw (drop_read xs k i x e h) (All-cons P x (drop k xs) p a)

pub all_at : {X : Type 0} (P : X → Type 0) (xs : List X) (i : ℕ) (x : X) → slice_get xs i ≡ Some x → All P xs → P x
all_at P xs i x h a = rw (get_or_from_slice_get xs i x x h) at (a i x (slice_get_within xs i x h))

-- ---- sums

pub sum_step : (f : ℕ → ℤ) (xs : List Share) (k i : ℕ) (s : Share) (v total w r : ℤ) → k ≡ i + 1 → slice_get xs i ≡ Some s → total ≡ shares_sum f (drop k xs)
    → w ≡ pos s.weight *ℤ v → v ≡ f s.place → r ≡ total +ℤ w → r ≡ shares_sum f (drop i xs)
sum_step f xs k i s v total w r e h t ew ev er =
    let c : total +ℤ w ≡ w +ℤ total = omega (arith, ints) in
    er ∙ c ∙ ap (λ z. z +ℤ total) (ew ∙ ap (λ z. pos s.weight *ℤ z) ev) ∙ ap (λ z. pos s.weight *ℤ f s.place +ℤ z) t
    ∙ sym (ap (shares_sum f) (drop_read xs k i s e h))

pub steps_step : (t a : ℕ) (xs : List StepShare) (k i : ℕ) (s : StepShare) (v total w r : ℤ) → k ≡ i + 1 → slice_get xs i ≡ Some s
    → total ≡ steps_sum t a (drop k xs)
    → w ≡ pos s.weight *ℤ v → v ≡ coordinate (step_of t s.step) a → r ≡ total +ℤ w → r ≡ steps_sum t a (drop i xs)
steps_step t a xs k i s v total w r e h l ew ev er =
    let c : total +ℤ w ≡ w +ℤ total = omega (arith, ints) in
    er ∙ c ∙ ap (λ z. z +ℤ total) (ew ∙ ap (λ z. pos s.weight *ℤ z) ev) ∙ ap (λ z. pos s.weight *ℤ coordinate (step_of t s.step) a +ℤ z) l
    ∙ sym (ap (steps_sum t a) (drop_read xs k i s e h))

pub bound_step : (total w r : ℤ) (k i : ℕ) → k ≡ i + 1 → unsigned_abs total + k * 2 ^ 97 ≤ 2 ^ 99 → unsigned_abs w ≤ 2 ^ 97 → r ≡ total +ℤ w
    → unsigned_abs r + i * 2 ^ 97 ≤ 2 ^ 99
bound_step total w r k i e h l er = omega (arith, ints)

-- the point at a place, as it was read
pub point_read : {Q : Type 0} (f : Q → Point) (points : List Q) (i : ℕ) (q : Q) → q ≡ get_or points i q → i < length points → point_at (map f points) i ≡ f q
point_read f [] i q e h = absurd (omega arith)
point_read f (p ∷ points) zero q e h = ap f (sym e)
point_read f (p ∷ points) (suc i) q e h = point_read f points i q e (omega arith)

pub value_read : {Q : Type 0} (f : Q → Point) (points : List Q) (i k : ℕ) (q : Q) (less x v : ℤ) → q ≡ get_or points i q → i < length points
    → x ≡ coordinate (f q) k → v ≡ x -ℤ less
    → v ≡ axis_value (map f points) k less i
value_read f points i k q less x v e h ex ev = ev ∙ ap (λ z. z -ℤ less) (ex ∙ ap (λ p. coordinate p k) (sym (point_read f points i q e h)))

pub plus_is : (t u k : ℕ) (r m x : ℤ) → r ≡ m +ℤ x → m ≡ coordinate (unit t) k → x ≡ coordinate (unit u) k → r ≡ coordinate (moved (unit t) (unit u)) k
plus_is t u k r m x e f g = e ∙ ap (λ z. z +ℤ x) f ∙ ap (λ z. coordinate (unit t) k +ℤ z) g ∙ sym (coordinate-moved (unit t) (unit u) k)

pub minus_is : (t u k : ℕ) (r m x : ℤ) → r ≡ m -ℤ x → m ≡ coordinate (unit t) k → x ≡ coordinate (unit u) k → r ≡ coordinate (difference (unit t) (unit u)) k
minus_is t u k r m x e f g = e ∙ ap (λ z. z -ℤ x) f ∙ ap (λ z. coordinate (unit t) k -ℤ z) g ∙ sym (coordinate-difference (unit t) (unit u) k)

-- ---- the two sides

pub low_is : (t k : ℕ) (points : List Point) (r : Refutation)
    → coordinate (low_side t points r) k ≡ shares_sum (axis_value points k (pos 0)) r.low +ℤ steps_sum t k r.steps
low_is t k points r =
    coordinate-moved (weighted_points (point_at points) r.low) (weighted_steps t r.steps) k
    ∙ ap (λ z. z +ℤ coordinate (weighted_steps t r.steps) k)
    (coordinate-points (point_at points) (axis_value points k (pos 0)) k (λ i. none (coordinate (point_at points i) k)) r.low)
    ∙ ap (λ z. shares_sum (axis_value points k (pos 0)) r.low +ℤ z) (coordinate-steps t k r.steps)
  where
    none : (z : ℤ) → z ≡ z -ℤ pos 0
    none z = omega (arith, ints)

pub high_is : (t k : ℕ) (points : List Point) (r : Refutation) (less : ℤ) → less ≡ coordinate (unit t) k
    → coordinate (high_side t points r) k ≡ shares_sum (axis_value points k less) r.high
high_is t k points r less e =
    coordinate-points (λ i. difference (point_at points i) (unit t)) (axis_value points k less) k
    (λ i. coordinate-difference (point_at points i) (unit t) k ∙ ap (λ z. coordinate (point_at points i) k -ℤ z) (sym e)) r.high

pub meet_is : (t k : ℕ) (points : List Point) (r : Refutation) (m : Bool) (low steps s high less : ℤ) → (IsTrue m ↔ s ≡ high) → s ≡ low +ℤ steps
    → low ≡ shares_sum (axis_value points k (pos 0)) r.low → steps ≡ steps_sum t k r.steps
    → less ≡ coordinate (unit t) k → high ≡ shares_sum (axis_value points k less) r.high
    → IsTrue m ↔ coordinate (low_side t points r) k ≡ coordinate (high_side t points r) k
meet_is t k points r m low steps s high less h es el et e eh =
    let a : s ≡ coordinate (low_side t points r) k = es ∙ ap (λ z. z +ℤ steps) el ∙ ap (λ z. shares_sum (axis_value points k (pos 0)) r.low +ℤ z) et
    ∙ sym (low_is t k points r) in
    let b : high ≡ coordinate (high_side t points r) k = eh ∙ sym (high_is t k points r less e) in
    (λ x. sym a ∙ h.0 x ∙ b, λ x. h.1 (a ∙ x ∙ sym b))

-- ---- the whole

mapped_long : {Q : Type 0} (f : Q → Point) (points : List Q) → length (map f points) ≡ length points
mapped_long f [] = refl
mapped_long f (p ∷ points) = ap suc (mapped_long f points)

point_long : {Q : Type 0} (f : Q → Point) (d : ℕ) → ((q : Q) → length (f q) ≡ d) → (points : List Q) (i : ℕ) → i < length points
    → length (point_at (map f points) i) ≡ d
point_long f d a [] i h = absurd (omega arith)
point_long f d a (p ∷ points) zero h = a p
point_long f d a (p ∷ points) (suc i) h = point_long f d a points i (omega arith)

shares_long : (n d : ℕ) (f : ℕ → Point) → ((i : ℕ) → i < n → length (f i) ≡ d) → (shares : List Share) → AllByRecursion (λ s. s.place < n) shares
    → AllByRecursion (λ s. length (f s.place) ≡ d) shares
shares_long n d f a [] h = tt
shares_long n d f a (s ∷ shares) h = (a s.place h.0, shares_long n d f a shares h.1)

pub refutes_is : {Q : Type 0} (f : Q → Point) (d t : ℕ) (points : List Q) (r : Refutation) (m : Bool) → ((q : Q) → length (f q) ≡ d) → t < d
    → ArePlaces (length points) r.low → ArePlaces (length points) r.high → AreSteps d t r.steps → 1 ≤ total_weight r.low
    → total_weight r.low ≡ total_weight r.high
    → (IsTrue m ↔ ((k : ℕ) → k < d → coordinate (low_side t (map f points) r) k ≡ coordinate (high_side t (map f points) r) k))
    → IsTrue m ↔ Refutes d t (map f points) r
refutes_is f d t points r m a l low high steps some same h =
    let pl = shares_long (length points) d (point_at (map f points)) (point_long f d a points) r.low
    (recursion_from_All (λ (s : Share). s.place < length points) r.low low) in
    let ph = shares_long (length points) d (λ i. difference (point_at (map f points) i) (unit t))
    (λ i m. length-moved d (point_at (map f points) i) (times (negsuc 0) (unit t)) (point_long f d a points i m)
    (omega (arith, length-times (negsuc 0) (unit t), length-along t (pos 1)))) r.high
    (recursion_from_All (λ (s : Share). s.place < length points) r.high high) in
    let ll : length (low_side t (map f points) r) ≡ d = length-moved d (weighted_points (point_at (map f points)) r.low) (weighted_steps t r.steps)
    (length-points d (point_at (map f points)) r.low some pl)
    (length-steps d t l r.steps (recursion_from_All (λ (s : StepShare). IsStepOf d t s.step) r.steps steps)) in
    let lh : length (high_side t (map f points) r) ≡ d = length-points d (λ i. difference (point_at (map f points) i) (unit t)) r.high
    (omega (arith, some, same)) ph in (
      λ x. record {
        low_places = rw (mapped_long f points) low;
        high_places = rw (mapped_long f points) high;
        steps_of_axis = steps;
        same_weight = same;
        some_weight = some;
        meet = same_point d (low_side t (map f points) r) (high_side t (map f points) r) ll lh (h.0 x);
      },
      λ w. h.1 (λ k n. ap (λ p. coordinate p k) w.meet),
    )
