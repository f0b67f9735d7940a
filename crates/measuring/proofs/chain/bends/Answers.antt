use Rattle.std.proofs.Common.{◌≡◌, ◌+◌, ◌-◌, subst, pos, ◌≤ℤ◌, ◌<ℤ◌, arith}
use Rattle.std.proofs.lemmas.Int.{ints}
use Rattle.measure_terms.specs.Hulls.{turn, vertex}
use Rattle.measuring.specs.Corners.{corner, corners}
use Rattle.measuring.proofs.chain.bends.Goals as goal

pub returns-clause-no : goal.returns-clause-no
returns-clause-no c = λ t j e. (
    let v = vertex (corners c.args.chain.now) in
    let n = c.args.count in
    let q = corner c.args.q in
    let l : pos 0 <ℤ c.turn.result = (let h = c.if-turn-le0.false in omega (arith, ints, h)) in
    let f : n - 2 ≡ j = omega (arith, e) in
    let g : n - 1 ≡ j + 1 = omega (arith, e) in
    let at = subst (λ z. pos 0 <ℤ z) c.turn.ensures l in
    let a = subst (λ z. pos 0 <ℤ turn z (corner c.vertex-2.result) q) c.vertex.ensures.is at in
    let b = subst (λ z. pos 0 <ℤ turn (v (n - 2)) z q) c.vertex-2.ensures.is a in
    let at' = subst (λ i. pos 0 <ℤ turn (v i) (v (n - 1)) q) f b in
    subst (λ i. pos 0 <ℤ turn (v j) (v i) q) g at')

pub returns-then-turn-le0-clause-yes : goal.returns-then-turn-le0-clause-yes
returns-then-turn-le0-clause-yes c = λ t. (
    let v = vertex (corners c.args.chain.now) in
    let n = c.args.count in
    let q = corner c.args.q in
    let many = c.if-count-lt2.false in
    let l : c.turn.result ≤ℤ pos 0 = (let h = c.if-turn-le0.true in omega (arith, ints, h)) in
    let e : n - 2 + 2 ≡ n = omega (arith, many) in
    let f : n - 1 ≡ n - 2 + 1 = omega (arith, many) in
    let at = subst (λ z. z ≤ℤ pos 0) c.turn.ensures l in
    let a = subst (λ z. turn z (corner c.vertex-2.result) q ≤ℤ pos 0) c.vertex.ensures.is at in
    let b = subst (λ z. turn (v (n - 2)) z q ≤ℤ pos 0) c.vertex-2.ensures.is a in
    let d = subst (λ i. turn (v (n - 2)) (v i) q ≤ℤ pos 0) f b in
    (n - 2, e, d))
