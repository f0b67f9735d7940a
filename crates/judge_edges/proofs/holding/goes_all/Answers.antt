use Rattle.std.proofs.Common.{rules, ◌≡◌, ◌⊎◌, ℕ, true, false, refl, sym, ◌∙◌, arith, FitsSigned}
use Rattle.std.proofs.lemmas.Bool.{false≢true}
use Rattle.std.specs.Int.{w8}
use Rattle.std.proofs.lemmas.Int.{to_z-of_z}
use Rattle.edge_terms.specs.Corners.{across_by, down_by}
use Rattle.judge_edges.specs.Steps.{step_from}
use Rattle.judge_edges.proofs.PathRuns.{each_more, goes_along}
use Rattle.judge_edges.proofs.holding.goes_all.Goals as goal

pub loop-i-preserved : goal.loop-i-preserved
loop-i-preserved c =
    let line = c.args.line.now in
    let f1 : FitsSigned w8 line.h = search rules in
    let f2 : FitsSigned w8 line.v = search rules in
    let g = simp to_z-of_z at c.goes.ensures in
    each_more (λ (j : ℕ). (step_from c.args.path.now j ≡ across_by line.h) ⊎ (step_from c.args.path.now j ≡ down_by line.v)) c.args.first c.loop-i.i
    c.loop-i.invariant
    (goes_along _ _ (across_by line.h) (down_by line.v) c.step_on.ensures.value (g.0 c.if-not-goes.false))

pub returns-then-not-goes : goal.returns-then-not-goes
returns-then-not-goes c =
    let line = c.args.line.now in
    let f1 : FitsSigned w8 line.h = search rules in
    let f2 : FitsSigned w8 line.v = search rules in
    let g = simp to_z-of_z at c.goes.ensures in (
      λ f. absurd (false≢true f),
      λ all.
          let t = g.1 (goes_along _ _ (across_by line.h) (down_by line.v) (sym c.step_on.ensures.value) (all c.loop-i.i c.loop-i.auto.i c.loop-i-test.true)) in
          let q : true ≡ false = sym t ∙ c.if-not-goes.true in
          sym q,
    )

pub returns : goal.returns
returns c = (λ t i l m. c.loop-i.invariant i l (let e = c.loop-i-test.false in omega arith), λ all. refl)
