-- A refutation of a list refutes every longer list, where the last point is put last again.
-- The program's weights stand elsewhere.
use Rattle.std.proofs.Common.{◌≡◌, ℕ, zero, suc, ◌+◌, ◌<◌, ◌≤◌, List, [], ◌∷◌, ◌++◌, length, map, refl, ap, sym, subst, ◌∙◌, arith}
use Rattle.std.specs.Prelude.{pos, All}
use Rattle.std.specs.List.{AllByRecursion}
use Rattle.std.proofs.lemmas.List.{length-append, get_or_append_left}
use Rattle.std.proofs.Math.Seq.{get_or-append_seam}
use Rattle.std.proofs.lemmas.List.Sums.{sum_by-cons}
use Rattle.std.proofs.lemmas.List.Elements.{recursion_from_All}
use native.Mathlib.Decide.{ℕ_discrete}
use Rattle.shape_terms.specs.Points.{Point}
use Rattle.shape_terms.specs.Adjacency.{moved}
use Rattle.shape_terms.specs.Vectors.{times, difference, unit}
use Rattle.shape_terms.specs.Refutations.{Share, Refutation, point_at, weighted_points, weighted_steps, total_weight, Refutes}
use Rattle.shape_plane.specs.ToldAnew.{told_place, told_share, told_anew}

-- ---- places

told_last : (from to : ℕ) → told_place from to from ≡ to
told_last from to = grind arith

told_other : (from to i : ℕ) → (i ≡ from → ⊥) → told_place from to i ≡ i
told_other from to i h = grind arith

-- the point at a place of the list with q put last is that at the place told anew
same_point_at : (old more : List Point) (q : Point) (i : ℕ) → i < length (old ++ q ∷ [])
    → point_at ((old ++ more) ++ q ∷ []) (told_place (length old) (length (old ++ more)) i) ≡ point_at (old ++ q ∷ []) i
same_point_at old more q i l = elim (ℕ_discrete i (length old)) [
  | yes e ↦ (
      ap (point_at ((old ++ more) ++ q ∷ [])) (ap (told_place (length old) (length (old ++ more))) e ∙ told_last (length old) (length (old ++ more)))
      ∙ get_or-append_seam (old ++ more) q [] []
      ∙ sym (ap (point_at (old ++ q ∷ [])) e ∙ get_or-append_seam old q [] []))
  | no n ↦ (
      let b : i < length old = (let k = length-append old (q ∷ []) in omega (arith, k, l, n)) in
      ap (point_at ((old ++ more) ++ q ∷ [])) (told_other (length old) (length (old ++ more)) i n)
      ∙ get_or_append_left (old ++ more) (q ∷ []) [] i (let k = length-append old more in omega (arith, k, b))
      ∙ get_or_append_left old more [] i b
      ∙ sym (get_or_append_left old (q ∷ []) [] i b))
]

told_below : (old more : List Point) (q : Point) (i : ℕ) → i < length (old ++ q ∷ [])
    → told_place (length old) (length (old ++ more)) i < length ((old ++ more) ++ q ∷ [])
told_below old more q i l = elim (ℕ_discrete i (length old)) [
  | yes e ↦ (let a = ap (told_place (length old) (length (old ++ more))) e ∙ told_last (length old) (length (old ++ more)) in let k =
      length-append (old ++ more) (q ∷ []) in omega (arith, a, k))
  | no n ↦ (let a = told_other (length old) (length (old ++ more)) i n in let k = length-append old (q ∷ []) in let m = length-append (old ++ more) (q ∷ []) in
      let o = length-append old more in omega (arith, a, k, m, o, l, n))
]

-- ---- sums

same_sum : (f g : ℕ → Point) (from to : ℕ) (shares : List Share) → AllByRecursion (λ s. f (told_place from to s.place) ≡ g s.place) shares
    → weighted_points f (map (told_share from to) shares) ≡ weighted_points g shares
same_sum f g from to [] h = refl
same_sum f g from to (s ∷ shares) h = λ i. moved (times (pos s.weight) (h.0 i)) (same_sum f g from to shares h.1 i)

same_total : (from to : ℕ) (shares : List Share) → total_weight (map (told_share from to) shares) ≡ total_weight shares
same_total from to [] = refl
same_total from to (s ∷ shares) =
    sum_by-cons (λ (x : Share). x.weight) (told_share from to s) (map (told_share from to) shares) ∙ ap (λ (n : ℕ). s.weight + n) (same_total from to shares)
    ∙ sym (sum_by-cons (λ (x : Share). x.weight) s shares)

each_same : (old more : List Point) (q : Point) (h : Point → Point) (shares : List Share) → AllByRecursion (λ s. s.place < length (old ++ q ∷ [])) shares
    → AllByRecursion (λ s. h (point_at ((old ++ more) ++ q ∷ []) (told_place (length old) (length (old ++ more)) s.place))
    ≡ h (point_at (old ++ q ∷ []) s.place)) shares
each_same old more q h [] a = tt
each_same old more q h (s ∷ shares) a = (ap h (same_point_at old more q s.place a.0), each_same old more q h shares a.1)

each_below : (old more : List Point) (q : Point) (shares : List Share) → AllByRecursion (λ s. s.place < length (old ++ q ∷ [])) shares
    → All (λ s. s.place < length ((old ++ more) ++ q ∷ [])) (map (told_share (length old) (length (old ++ more))) shares)
each_below old more q [] a k e l = absurd (omega arith)
each_below old more q (s ∷ shares) a zero e l = told_below old more q s.place a.0
each_below old more q (s ∷ shares) a (suc k) e l = each_below old more q shares a.1 k e (omega arith)

pub refutes_longer : (d t : ℕ) (old more : List Point) (q : Point) (r : Refutation) → Refutes d t (old ++ q ∷ []) r
    → Refutes d t ((old ++ more) ++ q ∷ []) (told_anew (length old) (length (old ++ more)) r)
refutes_longer d t old more q r h =
    let a = recursion_from_All (λ (s : Share). s.place < length (old ++ q ∷ [])) r.low h.low_places in
    let b = recursion_from_All (λ (s : Share). s.place < length (old ++ q ∷ [])) r.high h.high_places in
    let from = length old in
    let to = length (old ++ more) in
    record {
      low_places = each_below old more q r.low a;
      high_places = each_below old more q r.high b;
      steps_of_axis = h.steps_of_axis;
      same_weight = same_total (length old) (length (old ++ more)) r.low ∙ h.same_weight ∙ sym (same_total (length old) (length (old ++ more)) r.high);
      some_weight = subst (λ (n : ℕ). 1 ≤ n) (sym (same_total (length old) (length (old ++ more)) r.low)) h.some_weight;
      meet = ap (λ (p : Point). moved p (weighted_steps t r.steps))
          (same_sum (point_at ((old ++ more) ++ q ∷ [])) (point_at (old ++ q ∷ [])) (length old) (length (old ++ more)) r.low
          (each_same old more q (λ p. p) r.low a))
          ∙ h.meet
          ∙ sym (same_sum (λ i. difference (point_at ((old ++ more) ++ q ∷ []) i) (unit t)) (λ i. difference (point_at (old ++ q ∷ []) i) (unit t)) (length old)
          (length (old ++ more)) r.high (each_same old more q (λ p. difference p (unit t)) r.high b));
    }

-- ---- share by share
