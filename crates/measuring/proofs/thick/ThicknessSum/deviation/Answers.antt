use Rattle.std.proofs.Common.{◌≡◌, ℕ, ◌+◌, ◌*◌, ◌/◌, ◌-◌, ◌<◌, ◌≤◌, refl, sym, ap, subst, ◌∙◌, arith}
use Rattle.measure_terms.specs.ThicknessColumns.{ThicknessSum, IsDeviation}
use Rattle.measure_terms.proofs.DeviationFound.{deviation_is, from_whole, no_deviation}
use Rattle.measuring.proofs.thick.ThicknessSum.deviation.Goals as goal

-- the count and the sum by other names
found : (s : ThicknessSum) (n d spread w : ℕ) → n ≡ s.count → d ≡ s.diameters → 0 < s.count → spread ≡ n * s.squares - d * d
    → w * w ≤ 4 * spread / (n * n) → 4 * spread / (n * n) < (w + 1) * (w + 1) → IsDeviation s ((w + 1) / 2)
found s n d spread w count sum some is low high =
    let e : spread ≡ s.count * s.squares - s.diameters * s.diameters = is ∙ (λ i. count i * s.squares - sum i * sum i) in
    from_whole s spread w ((w + 1) / 2) some e (subst (λ m. w * w ≤ 4 * spread / (m * m)) count low)
    (subst (λ m. 4 * spread / (m * m) < (w + 1) * (w + 1)) count high) refl

told : (c : goal.After-isqrt-whole) → 0 < c.args.self.now.count → IsDeviation c.args.self.now ((c.isqrt-whole.result + 1) / 2)
told c some =
    let s = c.args.self.now in
    let count : c.from-count.result ≡ s.count = c.from-count.ensures ∙ ap (λ (v : ThicknessSum). v.count) c.self.view_is in
    let sum : c.from-sum.result ≡ s.diameters = c.from-sum.ensures ∙ ap (λ (v : ThicknessSum). v.diameters) c.self.view_is in
    let squares : c.self.inside.squares ≡ s.squares = ap (λ (v : ThicknessSum). v.squares) c.self.view_is in
    let spread = c.saturating_sub-spread.ensures ∙ ap (λ q. c.from-count.result * q - c.from-sum.result * c.from-sum.result) squares in
    found s c.from-count.result c.from-sum.result c.saturating_sub-spread.result c.isqrt-whole.result count sum some spread c.isqrt-whole.ensures.square_le
    c.isqrt-whole.ensures.next_square_gt

pub returns-then-self-eq0-clause-value : goal.returns-then-self-eq0-clause-value
returns-then-self-eq0-clause-value c =
    let count : c.args.self.now.count ≡ 0 = sym (ap (λ (v : ThicknessSum). v.count) c.self.view_is) ∙ c.if-self-eq0.true in
    let sum = ap (λ (v : ThicknessSum). v.diameters) c.self.view_is in
    let few = c.self.invariant.sum in
    let none = c.if-self-eq0.true in
    sym (no_deviation c.args.self.now count (omega (arith, sum, few, none)))

pub returns-clause-nearest : goal.returns-clause-nearest
returns-clause-nearest c = told c

pub returns-clause-value : goal.returns-clause-value
returns-clause-value c =
    let count = ap (λ (v : ThicknessSum). v.count) c.self.view_is in
    let other = c.if-self-eq0.false in
    let some : 0 < c.args.self.now.count = omega (arith, count, other) in
    deviation_is c.args.self.now ((c.isqrt-whole.result + 1) / 2) some (told c some)
