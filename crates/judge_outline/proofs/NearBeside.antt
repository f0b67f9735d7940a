-- The near neighbours of a point, by those of a point beside it: each of them is that point, or a near neighbour of it.
-- Laws over pictures and points.
use Rattle.std.proofs.Common.{◌≡◌, ◌⊎◌, inl, inr, ℕ, ◌<◌, ◌≤◌, ◌^◌, ap, sym, ◌∙◌, subst, arith, ℤ, pos, ◌≤ℤ◌, ◌-ℤ◌, [], ◌∷◌, length}
use Rattle.std.specs.Prelude.{◌↔◌, IsTrue, nat_abs}
use Rattle.std.specs.Int.Count.{count_trailing_zeros}
use Rattle.std.proofs.lemmas.Nat.Bits.{bit_at-zero}
use Rattle.std.proofs.Math.IntN.{ℤ_discrete}
use mathlib.Core.List.{List-discrete}
use Rattle.shape_terms.specs.Points.{Point, in_box}
use Rattle.shape_terms.specs.Pictures.{Picture, at}
use Rattle.shape_terms.specs.Adjacency.{Near, Lists, near_point}
use Rattle.shape_terms.proofs.AdjacencySymmetric.{near_sym}
use Rattle.shape_terms.proofs.Boxes.{in_box_first}
use Rattle.shape_adj.specs.NearMasks.{near_total, In, IsNearMask}
use Rattle.judge_outline.proofs.Exposing.{in_of_at}
use Rattle.judge_outline.proofs.LeastBits.{less_bit, less_other}
use Rattle.judge_outline.proofs.Rounds.{Gathering}

-- ---- the point beside

-- what is close to a on a side of length n is close to x
abbrev pub AreCloser : ℕ → ℤ → ℤ → Type 0
AreCloser n a x = (y : ℤ) → pos 0 ≤ℤ y → nat_abs y < n → nat_abs (y -ℤ a) ≤ 1 → nat_abs (y -ℤ x) ≤ 1

pub near_beside : (l m n : ℕ) (a b c x y z : ℤ) → AreCloser l a x → AreCloser m b y → AreCloser n c z → (r : Point)
    → IsTrue (in_box (l ∷ m ∷ n ∷ []) r) → Near r (a ∷ b ∷ c ∷ []) → (x ∷ y ∷ z ∷ [] ≡ r) ⊎ Near r (x ∷ y ∷ z ∷ [])
near_beside l m n a b c x y z hx hy hz [] inside near = absurd near.1
near_beside l m n a b c x y z hx hy hz (u ∷ []) inside near = absurd near.1.1
near_beside l m n a b c x y z hx hy hz (u ∷ v ∷ []) inside near = absurd near.1.1.1
near_beside l m n a b c x y z hx hy hz (u ∷ v ∷ w ∷ t ∷ r) inside near = absurd near.1.1.1.1
near_beside l m n a b c x y z hx hy hz (u ∷ v ∷ w ∷ []) inside (apart, (du, (dv, (dw, end)))) =
    let fu = in_box_first l (m ∷ n ∷ []) u (v ∷ w ∷ []) inside in
    let fv = in_box_first m (n ∷ []) v (w ∷ []) fu.2 in
    let fw = in_box_first n [] w [] fv.2 in
    elim (List-discrete ℤ_discrete (u ∷ v ∷ w ∷ []) (x ∷ y ∷ z ∷ [])) [
      | yes e ↦ inl (sym e)
      | no d ↦ inr (d, (hx u fu.0 fu.1 du, (hy v fv.0 fv.1 dv, (hz w fw.0 fw.1 dw, end))))
    ]

-- ---- the points round one, by those round the point beside

-- neighbour j of p is q, or one of the neighbours of q in the set
abbrev pub Awaits : (p q : Point) → (rest : ℕ) → ℕ → Type 0
Awaits p q rest j = (q ≡ near_point p j) ⊎ ((k : ℕ) × In rest k × (near_point q k ≡ near_point p j))

module _ (left : Picture) (p q : Point) where
  pub awaits_all : (m : ℕ) → Lists Near near_point (near_total (length p)) p → Lists Near near_point (near_total (length q)) q → IsNearMask left q m
      → ((r : Point) → IsTrue (in_box left.sides r) → Near r p → (q ≡ r) ⊎ Near r q) → (j : ℕ) → j < near_total (length p)
      → IsTrue (at left (near_point p j)) → Awaits p q m j
  awaits_all m h k mask beside j l f =
      let r = near_point p j in
      elim (beside r (in_of_at left r f) (near_sym p r (h.only j l))) [
        | inl e ↦ inl e
        | inr n ↦ (let c = k.each r (near_sym r q n) in inr (c.0, (mask c.0).1 (c.1, subst (λ z. IsTrue (at left z)) (sym c.2) f), c.2))
      ]

  pub awaits_less : (rest : ℕ) → rest < 2 ^ 32 → 0 < rest → (j : ℕ) → Awaits p q rest j
      → (near_point q (count_trailing_zeros 32 rest) ≡ near_point p j) ⊎ Awaits p q (less_bit rest (count_trailing_zeros 32 rest)) j
  awaits_less rest small more j (inl e) = inr (inl e)
  awaits_less rest small more j (inr (k, i, e)) = elim (less_other rest small more k i)
      [ inl s ↦ inl (ap (near_point q) (sym s) ∙ e) | inr n ↦ inr (inr (k, n, e)) ]

  pub awaits_one : (rest : ℕ) → rest ≡ 0 → (j : ℕ) → Awaits p q rest j → (q ≡ near_point p j) ⊎ ⊥
  awaits_one rest z j (inl e) = inl e
  awaits_one rest z j (inr (k, i, e)) = absurd (let b = bit_at-zero k in let s : In 0 k = subst (λ n. In n k) z i in omega arith)

-- a point is marked if it is an object point near p
pub gather_near : (left : Picture) (p q : Point) (todo next : ℕ → Type 0) (old new more : Picture) → Lists Near near_point (near_total (length p)) p
    → Gathering left p todo old new → ((r : Point) → IsTrue (at more r) ↔ (IsTrue (at new r) ⊎ ((q ≡ r) × IsTrue (at left r) × Near r p)))
    → ((j : ℕ) → todo j → (q ≡ near_point p j) ⊎ next j) → Gathering left p next old more
gather_near left p q todo next old new more h g put moves = record {
  only = λ r a. elim ((put r).0 a) [ inl o ↦ g.only r o | inr s ↦ inr (s.1, s.2) ];
  kept = λ r a. (put r).1 (inl (g.kept r a));
  each = λ j m f. elim (g.each j m f) [
    | inl t ↦ elim (moves j t) [ inl s ↦ inr ((put (near_point p j)).1 (inr (s, f, near_sym p (near_point p j) (h.only j m)))) | inr n ↦ inl n ]
    | inr a ↦ inr ((put (near_point p j)).1 (inl a))
  ];
}
