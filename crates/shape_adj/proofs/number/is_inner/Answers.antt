use Rattle.std.proofs.Common.{◌≡◌, ◌⊎◌, ◌<◌, ℕ, IsTrue, length, refl, arith, sym, ◌∙◌, subst}
use Rattle.shape_terms.specs.Points.{sides_of, in_box}
use Rattle.shape_terms.specs.Adjacency.{near_steps, near_point}
use Rattle.std.proofs.lemmas.Int.{ints}
use Rattle.shape_adj.proofs.Inner.{all_inside, apart, itself_inside}
use Rattle.shape_adj.proofs.number.is_inner.Goals as goal
use Rattle.shape_adj.proofs.number.is_inner.Goals.{then-x-lt1-via-then-x-lt1, then-x-lt1-via-else-x-lt1+then-x-side}

pub returns-then-x-lt1-clause-exactly : goal.returns-then-x-lt1-clause-exactly
returns-then-x-lt1-clause-exactly g c =
    let s = c.args.sides.now in
    let ns = g.P.Point.coords s.lengths in
    let p = g.P.Point.coords c.args.p in
    let a = g.met.P.Point.axes s.lengths in
    let b = g.met.P.Point.axes c.args.p in
    let total = g.met.P.Pairing.near_total in
    let two = subst (λ d. (d ≡ 2) ⊎ (d ≡ 3)) (sym a) g.met.P.Point.two_or_three in
    let inner = λ (h : (k : ℕ) → k < g.P.Pairing.NEAR_COUNT → IsTrue (in_box (sides_of ns) (near_point p k))).
    apart ns p g.P.Point.MAX_SIDE s.in_range two (b ∙ sym a) (λ k l. h k (rw (total, sym b) l)) c.loop-k.k (omega arith) in (
      (λ f. cc),
      (λ h. let i = inner h in
          elim c.then-x-lt1.branch
          [ then-x-lt1-via-then-x-lt1 w ↦ absurd (omega (arith, ints, i.0)) | then-x-lt1-via-else-x-lt1+then-x-side w ↦ absurd (omega (arith, ints, i.1)) ]),
    )

pub returns-clause-exactly : goal.returns-clause-exactly
returns-clause-exactly g c =
    let s = c.args.sides.now in
    let ns = g.P.Point.coords s.lengths in
    let p = g.P.Point.coords c.args.p in
    let a = g.met.P.Point.axes s.lengths in
    let b = g.met.P.Point.axes c.args.p in
    let total = g.met.P.Pairing.near_total in (
      (λ t k l. all_inside ns p (b ∙ sym a) (λ j m. c.loop-k.invariant j (omega arith)) k (subst (λ d. k < length (near_steps d)) (sym b) (omega arith))),
      (λ h. refl),
    )

pub returns-clause-itself : goal.returns-clause-itself
returns-clause-itself g c =
    let s = c.args.sides.now in
    let ns = g.P.Point.coords s.lengths in
    let p = g.P.Point.coords c.args.p in
    let a = g.met.P.Point.axes s.lengths in
    let b = g.met.P.Point.axes c.args.p in
    λ t. itself_inside ns p (b ∙ sym a) (λ j m. c.loop-k.invariant j (omega arith))
