use Rattle.std.proofs.Common.{rules, ◌≡◌, true, false, sym, ◌∙◌}
use Rattle.std.proofs.lemmas.Bool.{false≢true}
use Rattle.judge_edges.proofs.PathRuns.{arc_held, held_proper, held_steps, held_holds}
use Rattle.judge_edges.proofs.holding.holds_arc.Goals as goal

pub returns-then-not-is_proper : goal.returns-then-not-is_proper
returns-then-not-is_proper c = (
  λ f. absurd (false≢true f),
  λ w.
      let t = c.is_proper.ensures.1
      (held_proper c.args.path.now c.args.next.now.first c.args.next.now.last c.requires.order c.args.next.now.line (search rules) w) in
      let q : true ≡ false = sym t ∙ c.if-not-is_proper.true in
      sym q,
)

pub returns-then-not-goes_all : goal.returns-then-not-goes_all
returns-then-not-goes_all c = (
  λ f. absurd (false≢true f),
  λ w.
      let t = c.goes_all.ensures.1 (held_steps c.args.path.now c.args.next.now.first c.args.next.now.last c.requires.order c.args.next.now.line w) in
      let q : true ≡ false = sym t ∙ c.if-not-goes_all.true in
      sym q,
)

pub returns : goal.returns
returns c =
    let p = c.is_proper.ensures.0 c.if-not-is_proper.false in (
      λ t. arc_held c.args.path.now c.args.next.now.first c.args.next.now.last c.requires.order c.args.next.now.line p
          (c.goes_all.ensures.0 c.if-not-goes_all.false) (c.holds_all.ensures.0 t),
      λ w. c.holds_all.ensures.1 (held_holds c.args.path.now c.args.next.now.first c.args.next.now.last c.requires.order c.args.next.now.line w),
    )
