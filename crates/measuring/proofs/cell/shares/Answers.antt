use Rattle.std.proofs.Common.{◌≡◌, ◌⊎◌, inl, inr, ◌<◌, ◌≤◌, sym, ◌∙◌, ap, arith, refl}
use Rattle.std.proofs.lemmas.Int.{ints}
use Rattle.measuring.proofs.Steps.{gap_at, cell_from_gaps, gaps_of_cell}
use Rattle.measuring.proofs.cell.shares.Goals as goal

pub returns-then-not-meets : goal.returns-then-not-meets
returns-then-not-meets g c = (
  (λ f. cc),
  λ h. (
      let gap = gaps_of_cell (g.P.Point.coords c.args.w) (g.P.Point.coords c.args.v) h c.loop-k.k in
      let t = c.meets.ensures.1 (omega (arith, ints, gap, c.coord.ensures, c.coord-in-loop-k.ensures)) in
      let f = c.if-not-meets.true in
      absurd cc),
)

pub loop-k-preserved : goal.loop-k-preserved
loop-k-preserved g c = λ k l.
    let gap = c.meets.ensures.0 c.if-not-meets.false in
    let split : (k ≡ c.loop-k.k) ⊎ (k < c.loop-k.k) = grind (arith, l) in
    elim split [
      | inl e ↦ (
          let here : gap_at (g.P.Point.coords c.args.w) (g.P.Point.coords c.args.v) c.loop-k.k ≤ 1 =
          omega (arith, ints, gap, c.coord.ensures, c.coord-in-loop-k.ensures) in
          let same = ap (gap_at (g.P.Point.coords c.args.w) (g.P.Point.coords c.args.v)) e in
          omega (arith, here, same))
      | inr m ↦ c.loop-k.invariant k m
    ]

pub returns : goal.returns
returns g c =
    let a = g.met.P.Point.axes c.args.w in
    let b = g.met.P.Point.axes c.args.v in
    ((λ t. cell_from_gaps (g.P.Point.coords c.args.w) (g.P.Point.coords c.args.v) (a ∙ sym b) (λ k l. c.loop-k.invariant k (omega arith))), λ h. refl)
