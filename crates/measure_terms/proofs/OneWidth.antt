-- One side of a polygon has one width, and one polygon has one least width.
-- Fractions are compared by products.
use Rattle.std.proofs.Common.{◌≡◌, ◌⊎◌, inl, inr, ℕ, ◌+◌, ◌<◌, List, length, ap, sym, subst, ◌∙◌, arith}
use Rattle.std.proofs.Math.IntN.{ℤ, pos, ◌*ℤ◌}
use lib.Signed.{◌<ℤ◌, ◌≤ℤ◌}
use Rattle.std.proofs.lemmas.Int.{ints}
use Rattle.measure_terms.specs.Hulls.{Corner, end, turn, vertex}
use Rattle.measure_terms.specs.Polygons.{squared_length}
use Rattle.measure_terms.specs.Widths.{IsLeastSide, IsLess, IsNoMore, IsOfSide, IsReach, Width}

-- the turn from a side to a vertex
abbrev at : List Corner → ℕ → ℕ → ℤ
at h i k = turn (vertex h i) (end h i) (vertex h k)

same_across : (h : List Corner) (i f g : ℕ) → IsReach h i (length h) f → IsReach h i (length h) g → at h i f ≡ at h i g
same_across h i f g p q = let a = p.most g q.within in let b = q.most f p.within in omega (arith, ints, a, b)

pub one_across : (h : List Corner) (v w : Width) → IsOfSide h v → IsOfSide h w → v.side ≡ w.side → v.across ≡ w.across
one_across h v w a b e =
    let reach = subst (λ i. IsReach h i (length h) a.far) e a.reach in
    a.across ∙ ap (λ i. at h i a.far) e ∙ same_across h w.side a.far b.far reach b.reach ∙ sym b.across

pub one_length : (h : List Corner) (v w : Width) → IsOfSide h v → IsOfSide h w → v.side ≡ w.side → v.length ≡ w.length
one_length h v w a b e = a.squared ∙ ap (λ i. squared_length (vertex h i) (end h i)) e ∙ sym b.squared

not_less_and_no_more : (v w : Width) → IsLess v w → IsNoMore w v → ⊥
not_less_and_no_more v w p q = let a = p.less in let b = q.less in absurd (omega (arith, ints, a, b))

pub one_side : (h : List Corner) (v w : Width) → IsLeastSide h (length h) v → IsLeastSide h (length h) w → v.side ≡ w.side
one_side h v w a b =
    let c : (v.side ≡ w.side) ⊎ (v.side < w.side) ⊎ (w.side < v.side) = grind arith in
    elim c [
      | inl e ↦ e
      | inr d ↦ elim d [
        | inl l ↦ absurd (not_less_and_no_more w v (b.first v a.is l) (a.least w b.is b.within))
        | inr l ↦ absurd (not_less_and_no_more v w (a.first w b.is l) (b.least v a.is a.within))
      ]
    ]
