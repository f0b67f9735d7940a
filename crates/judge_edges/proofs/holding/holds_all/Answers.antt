use Rattle.std.proofs.Common.{◌≡◌, ℕ, true, false, refl, sym, subst, ◌∙◌, arith}
use Rattle.std.proofs.lemmas.Bool.{false≢true}
use Rattle.edge_terms.specs.EdgeStraight.{HoldsCorner}
use Rattle.judge_edges.specs.Lines.{standard_of}
use Rattle.edge_terms.specs.Corners.{place_of}
use Rattle.judge_edges.proofs.PathRuns.{each_more}
use Rattle.judge_edges.proofs.holding.holds_all.Goals as goal

pub loop-i-preserved : goal.loop-i-preserved
loop-i-preserved c =
    let line = standard_of c.args.line.now in
    each_more (λ (j : ℕ). HoldsCorner line (place_of c.args.path.now j)) c.args.first c.loop-i.i c.loop-i.invariant
    (subst (HoldsCorner line) c.corner_on.ensures.value (c.holds_corner.ensures.0 c.if-not-holds_corner.false))

pub returns-then-not-holds_corner : goal.returns-then-not-holds_corner
returns-then-not-holds_corner c = (
  λ f. absurd (false≢true f),
  λ all.
      let line = standard_of c.args.line.now in
      let l = c.loop-i-test.true in
      let t = c.holds_corner.ensures.1 (subst (HoldsCorner line) (sym c.corner_on.ensures.value) (all c.loop-i.i c.loop-i.auto.i (omega arith))) in
      let q : true ≡ false = sym t ∙ c.if-not-holds_corner.true in
      sym q,
)

pub returns : goal.returns
returns c = (λ t i l m. c.loop-i.invariant i l (let e = c.loop-i-test.false in omega arith), λ all. refl)
