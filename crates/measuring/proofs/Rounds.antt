-- The round as a list: a chain, and what lies between the ends of the chain over the points the other way round.
-- That such a round is a hull is told in `Going`.
use Rattle.std.proofs.Common.{◌≡◌, ◌⊎◌, inl, inr, ℕ, ◌+◌, ◌-◌, ◌<◌, ◌≤◌, Bool, true, false, List, ◌++◌, length, take, drop, reverse, ap, refl, sym, subst, ◌∙◌}
use Rattle.std.proofs.Common.{arith, length-append, length-drop, append-nil}
use Rattle.std.proofs.Math.ListN.{get_or-append}
use Rattle.std.proofs.lemmas.List.{get_or-take, get_or-drop, get_or-append-add, get_or-reverse, length-take-le, length-reverse}
use Rattle.measure_terms.specs.Hulls.{Corner, IsHull, IsUpTo, origin, vertex}
use Rattle.measuring.specs.Corners.{AreInRasterOrder, IsAmong, IsOf}
use Rattle.measuring.specs.Chains.{AreInOrder, IsChain, IsSide}
use Rattle.measuring.proofs.Pointing.{reaches_both}
use Rattle.measuring.proofs.Chaining.{same_set}
use Rattle.measuring.proofs.Going.{round_hull, single_hull, no_step}

-- ---- the points the other way round

mirrored : (points : List Corner) (k : ℕ) → k < length points → vertex (reverse points) k ≡ vertex points (length points - 1 - k)
mirrored points k l = get_or-reverse points k origin l

turned_order : (points : List Corner) → AreInRasterOrder points → AreInOrder false (reverse points)
turned_order points o =
    let count : length (reverse points) ≡ length points = length-reverse points in
    record {
      order = λ i k l m. (
          let n = length points in
          let e = mirrored points i (omega (arith, l, m, count)) in
          let f = mirrored points k (omega (arith, m, count)) in
          subst (λ z. IsUpTo z (vertex (reverse points) i)) (sym f)
          (subst (λ z. IsUpTo (vertex points (n - 1 - k)) z) (sym e)
          (o.order (n - 1 - k) (n - 1 - i) (omega (arith, l, m, count)) (omega (arith, l, m, count)))));
    }

turned_to : (points : List Corner) (p : Corner) → IsAmong points (length points) p → IsAmong (reverse points) (length (reverse points)) p
turned_to points p a =
    let count : length (reverse points) ≡ length points = length-reverse points in
    let n = length points in
    let w = a.within in
    let f : n - 1 - (n - 1 - a.place) ≡ a.place = omega (arith, w) in
    record {
      place = n - 1 - a.place;
      within = omega (arith, w, count);
      is = mirrored points (n - 1 - a.place) (omega (arith, w)) ∙ ap (vertex points) f ∙ a.is;
    }

turned_from : (points : List Corner) (p : Corner) → IsAmong (reverse points) (length (reverse points)) p → IsAmong points (length points) p
turned_from points p a =
    let count : length (reverse points) ≡ length points = length-reverse points in
    let w = a.within in
    record {
      place = length points - 1 - a.place;
      within = omega (arith, w, count);
      is = sym (mirrored points a.place (omega (arith, w, count))) ∙ a.is;
    }

-- ---- what stands in the list

middle_count : (back : List Corner) → length (take (length back - 2) (drop 1 back)) ≡ length back - 2
middle_count back = length-take-le (length back - 2) (drop 1 back) (let e = length-drop 1 back in omega (arith, e))

round_count : (out back : List Corner) → length (out ++ take (length back - 2) (drop 1 back)) ≡ length out + (length back - 2)
round_count out back = (let e = length-append out (take (length back - 2) (drop 1 back)) in let f = middle_count back in omega (arith, e, f))

goes_out : (out back : List Corner) (i : ℕ) → i < length out → vertex (out ++ take (length back - 2) (drop 1 back)) i ≡ vertex out i
goes_out out back i l = get_or-append out (take (length back - 2) (drop 1 back)) origin i l

comes_home : (out back : List Corner) (i : ℕ) → i < length back - 2
    → vertex (out ++ take (length back - 2) (drop 1 back)) (length out + i) ≡ vertex back (1 + i)
comes_home out back i l =
    get_or-append-add out (take (length back - 2) (drop 1 back)) i origin ∙ get_or-take (length back - 2) (drop 1 back) i origin l ∙ get_or-drop 1 back i origin

first_or_more : (j b : ℕ) → j < b → (j ≡ 0) ⊎ ((i : ℕ) × (1 + i ≡ j))
first_or_more j b l =
    let c : (j ≡ 0) ⊎ (1 ≤ j) = grind arith in
    elim c [ inl e ↦ inl e | inr m ↦ inr (j - 1, omega (arith, m)) ]

-- from the corner on
homeward : (out back : List Corner) (a b : ℕ) → a + 1 ≡ length out → b + 1 ≡ length back → vertex back 0 ≡ vertex out a → (j : ℕ) → j < b
    → vertex (out ++ take (length back - 2) (drop 1 back)) (a + j) ≡ vertex back j
homeward out back a b e f joined j l =
    let h = out ++ take (length back - 2) (drop 1 back) in
    elim (first_or_more j b l) [
      | inl z ↦ (
          let g : a + j ≡ a = omega (arith, z) in
          ap (vertex h) g ∙ goes_out out back a (omega (arith, e)) ∙ sym joined ∙ ap (vertex back) (sym z))
      | inr (i, m) ↦ (
          let g : a + j ≡ length out + i = omega (arith, e, m) in
          ap (vertex h) g ∙ comes_home out back i (omega (arith, m, l, f)) ∙ ap (vertex back) m)
    ]

-- ---- the hull

one_or_more : (n : ℕ) → 1 ≤ n → (n ≡ 1) ⊎ (2 ≤ n)
one_or_more n l = grind arith

same_length : (up : Bool) (S : Corner → Type 0) (h : List Corner) (m n : ℕ) → m ≡ n → IsChain up S (vertex h) m → IsChain up S (vertex h) n
same_length up S h m n e c = subst (λ k. IsChain up S (vertex h) k) e c

both : (S : Corner → Type 0) (out back : List Corner) (a b : ℕ) → a + 1 ≡ length out → b + 1 ≡ length back → 1 ≤ a → 1 ≤ b
    → IsChain true S (vertex out) (a + 1) → IsChain false S (vertex back) (b + 1) → IsHull S (out ++ take (length back - 2) (drop 1 back))
both S out back a b e f l m c d =
    let v = vertex out in
    let w = vertex back in
    let joined = reaches_both true (w 0) (v a) (c.last a (w 0) refl (d.arch.of 0 (omega arith))) (d.arch.first (v a) (c.arch.of a (omega arith))) in
    let closed = reaches_both true (v 0) (w b) (c.arch.first (w b) (d.arch.of b (omega arith))) (d.last b (v 0) refl (c.arch.of 0 (omega arith))) in
    let count = round_count out back in
    round_hull S (out ++ take (length back - 2) (drop 1 back)) v w a b c d joined closed (omega (arith, count, e, f, m)) l m
    (λ i k. goes_out out back i (omega (arith, k, e))) (homeward out back a b e f joined)

alone : (S : Corner → Type 0) (out back : List Corner) → length out ≡ 1 → length back ≡ 1 → IsChain true S (vertex out) 1
    → IsHull S (out ++ take (length back - 2) (drop 1 back))
alone S out back e f c =
    let none : length back - 2 ≡ 0 = omega (arith, f) in
    let is : out ≡ out ++ take (length back - 2) (drop 1 back) = sym (ap (λ n. out ++ take n (drop 1 back)) none ∙ append-nil out) in
    subst (IsHull S) is (single_hull S out e c)

closed : (S : Corner → Type 0) (out back : List Corner) → IsChain true S (vertex out) (length out) → IsChain false S (vertex back) (length back)
    → IsHull S (out ++ take (length back - 2) (drop 1 back))
closed S out back c d =
    elim (one_or_more (length out) c.arch.some) [
      | inl e ↦ elim (one_or_more (length back) d.arch.some) [
        | inl f ↦ alone S out back e f (same_length true S out (length out) 1 e c)
        | inr m ↦ (
            let b = length back - 1 in
            let g : length back ≡ b + 1 = omega (arith, m) in
            absurd (no_step true false S (vertex out) (vertex back) b (same_length true S out (length out) 1 e c)
            (same_length false S back (length back) (b + 1) g d) (omega (arith, m))))
      ]
      | inr l ↦ (
          let a = length out - 1 in
          let k : length out ≡ a + 1 = omega (arith, l) in
          let c' = same_length true S out (length out) (a + 1) k c in
          elim (one_or_more (length back) d.arch.some) [
            | inl f ↦ absurd (no_step false true S (vertex back) (vertex out) a (same_length false S back (length back) 1 f d) c' (omega (arith, l)))
            | inr m ↦ (
                let b = length back - 1 in
                let g : length back ≡ b + 1 = omega (arith, m) in
                both S out back a b (sym k) (sym g) (omega (arith, l)) (omega (arith, m)) c' (same_length false S back (length back) (b + 1) g d))
          ])
    ]

pub hull : (points out back : List Corner) → AreInRasterOrder points → IsSide true points (length points) out
    → IsSide false (reverse points) (length (reverse points)) back
    → IsHull (IsOf points) (out ++ take (length back - 2) (drop 1 back))
hull points out back order side other =
    closed (IsOf points) out back (side.chain (record { order = order.order }))
    (same_set false (IsOf (reverse points)) (IsOf points) (vertex back) (length back) (turned_to points) (turned_from points)
    (other.chain (turned_order points order)))
