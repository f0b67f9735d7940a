-- Weights exclude every proper naive line or plane of their axis, for each number of axes, points and entries.
-- Nothing here depends on how a program keeps or finds weights.
use Rattle.std.proofs.Common.{◌≡◌, ℕ, ◌<◌, ap, ◌∙◌, arith, List, [], ◌∷◌, length}
use Rattle.std.specs.Prelude.{ℤ, pos, negsuc, ◌+ℤ◌, ◌-ℤ◌, ◌*ℤ◌, ◌≤ℤ◌}
use Rattle.std.specs.List.{AllByRecursion}
use Rattle.std.proofs.lemmas.Int.{ints}
use Rattle.std.proofs.lemmas.List.Sums.{sum_by-cons}
use Rattle.std.proofs.lemmas.List.Elements.{recursion_from_All}
use Rattle.shape_terms.proofs.Ring.{*ℤ-+ℤ, +ℤ-*ℤ}
use Rattle.shape_terms.proofs.Linear.{dot-moved, dot-times, dot-unit, dot-difference, dot_none}
use Rattle.shape_terms.specs.Points.{Point}
use Rattle.shape_terms.specs.Vectors.{times, unit, difference, dot}
use Rattle.shape_terms.specs.Naive.{Naive, IsProper, HoldsAll, IsNaiveFor}
use Rattle.shape_terms.specs.Refutations.{Share, Step, StepShare, Refutation, step_of, IsStepOf, point_at, weighted_points, weighted_steps, total_weight}
use Rattle.shape_terms.specs.Refutations.{Refutes}
use Rattle.shape_terms.proofs.Order.{mul-le_ℤ}

-- a row that is at least m at each point of the shares is at least the weight times m at their sum
pub at_least : (a : List ℤ) (m : ℤ) (f : ℕ → Point) (shares : List Share) → AllByRecursion (λ s. m ≤ℤ dot a (f s.place)) shares
    → (pos (total_weight shares) *ℤ m) ≤ℤ dot a (weighted_points f shares)
at_least a m f [] h = let e = dot_none a in omega (arith, ints)
at_least a m f (s ∷ shares) h =
    let ih = at_least a m f shares h.1 in
    let e = dot-moved a (times (pos s.weight) (f s.place)) (weighted_points f shares) in
    let t = dot-times a (pos s.weight) (f s.place) in
    let k : (pos s.weight *ℤ m) ≤ℤ (pos s.weight *ℤ dot a (f s.place)) = mul-le_ℤ (pos s.weight) m (dot a (f s.place)) (omega (arith, ints)) h.0 in
    let d : pos (total_weight (s ∷ shares)) *ℤ m ≡ pos s.weight *ℤ m +ℤ pos (total_weight shares) *ℤ m =
    ap (λ x. pos x *ℤ m) (sum_by-cons (λ (x : Share). x.weight) s shares) ∙ +ℤ-*ℤ (pos s.weight) (pos (total_weight shares)) m in
    omega (arith, ints)

pub at_most : (a : List ℤ) (m : ℤ) (f : ℕ → Point) (shares : List Share) → AllByRecursion (λ s. dot a (f s.place) ≤ℤ m) shares
    → dot a (weighted_points f shares) ≤ℤ (pos (total_weight shares) *ℤ m)
at_most a m f [] h = let e = dot_none a in omega (arith, ints)
at_most a m f (s ∷ shares) h =
    let ih = at_most a m f shares h.1 in
    let e = dot-moved a (times (pos s.weight) (f s.place)) (weighted_points f shares) in
    let t = dot-times a (pos s.weight) (f s.place) in
    let k : (pos s.weight *ℤ dot a (f s.place)) ≤ℤ (pos s.weight *ℤ m) = mul-le_ℤ (pos s.weight) (dot a (f s.place)) m (omega (arith, ints)) h.0 in
    let d : pos (total_weight (s ∷ shares)) *ℤ m ≡ pos s.weight *ℤ m +ℤ pos (total_weight shares) *ℤ m =
    ap (λ x. pos x *ℤ m) (sum_by-cons (λ (x : Share). x.weight) s shares) ∙ +ℤ-*ℤ (pos s.weight) (pos (total_weight shares)) m in
    omega (arith, ints)

-- a proper row is not negative on the steps of its axis
step_not_negative : (d t : ℕ) (n : Naive) → IsProper t n → (s : Step) → IsStepOf d t s → pos 0 ≤ℤ dot n.a (step_of t s)
step_not_negative d t n proper Step.Up h = let e = dot-unit n.a t in let m = proper.main in omega (arith, ints)
step_not_negative d t n proper (Step.Plus u) h =
    let e = dot-unit n.a t in
    let f = dot-unit n.a u in
    let g = dot-moved n.a (unit t) (unit u) in
    let o = proper.others u h.1 in
    omega (arith, ints)
step_not_negative d t n proper (Step.Minus u) h =
    let e = dot-unit n.a t in
    let f = dot-unit n.a u in
    let g = dot-difference n.a (unit t) (unit u) in
    let o = proper.others u h.1 in
    omega (arith, ints)

steps_not_negative : (d t : ℕ) (n : Naive) → IsProper t n → (steps : List StepShare) → AllByRecursion (λ s. IsStepOf d t s.step) steps
    → pos 0 ≤ℤ dot n.a (weighted_steps t steps)
steps_not_negative d t n proper [] h = let e = dot_none n.a in omega (arith, ints)
steps_not_negative d t n proper (s ∷ steps) h =
    let ih = steps_not_negative d t n proper steps h.1 in
    let e = dot-moved n.a (times (pos s.weight) (step_of t s.step)) (weighted_steps t steps) in
    let f = dot-times n.a (pos s.weight) (step_of t s.step) in
    let k : (pos s.weight *ℤ pos 0) ≤ℤ (pos s.weight *ℤ dot n.a (step_of t s.step)) = mul-le_ℤ (pos s.weight) (pos 0) (dot n.a (step_of t s.step))
    (omega (arith, ints)) (step_not_negative d t n proper s.step h.0) in
    omega (arith, ints)

low_points : (t : ℕ) (points : List Point) (n : Naive) → HoldsAll t n points → (shares : List Share) → AllByRecursion (λ s. s.place < length points) shares
    → AllByRecursion (λ s. n.mu ≤ℤ dot n.a (point_at points s.place)) shares
low_points t points n holds [] h = tt
low_points t points n holds (s ∷ shares) h = ((holds s.place [] h.0).low, low_points t points n holds shares h.1)

high_points : (t : ℕ) (points : List Point) (n : Naive) → HoldsAll t n points → (shares : List Share) → AllByRecursion (λ s. s.place < length points) shares
    → AllByRecursion (λ s. dot n.a (difference (point_at points s.place) (unit t)) ≤ℤ (n.mu -ℤ pos 1)) shares
high_points t points n holds [] h = tt
high_points t points n holds (s ∷ shares) h =
    let e = dot-difference n.a (point_at points s.place) (unit t) in
    let f = dot-unit n.a t in
    let b = (holds s.place [] h.0).high in
    (omega (arith, ints), high_points t points n holds shares h.1)

-- no proper naive line or plane of the axis holds a list that weights refute
pub excludes : (d t : ℕ) (points : List Point) (r : Refutation) → Refutes d t points r → (n : Naive) → IsNaiveFor t points n → ⊥
excludes d t points r w n h =
    let low = at_least n.a n.mu (point_at points) r.low (low_points t points n h.holds r.low (recursion_from_All _ r.low w.low_places)) in
    let high = at_most n.a (n.mu -ℤ pos 1) (λ i. difference (point_at points i) (unit t)) r.high
    (high_points t points n h.holds r.high (recursion_from_All _ r.high w.high_places)) in
    let steps = steps_not_negative d t n h.proper r.steps (recursion_from_All _ r.steps w.steps_of_axis) in
    let e = ap (dot n.a) w.meet in
    let m = dot-moved n.a (weighted_points (point_at points) r.low) (weighted_steps t r.steps) in
    let same = w.same_weight in
    let some = w.some_weight in
    let k = *ℤ-+ℤ (pos (total_weight r.high)) n.mu (negsuc 0) in
    let z : pos (total_weight r.low) *ℤ n.mu ≡ pos (total_weight r.high) *ℤ n.mu = ap (λ x. pos x *ℤ n.mu) w.same_weight in
    omega (arith, ints)
