use Rattle.std.proofs.Common.{ap, ◌∙◌, length}
use Rattle.judge_outline.specs.CoverState.{CoverState}
use Rattle.judge_outline.proofs.CoverStandings.{done_all, done_short}
use Rattle.judge_outline.proofs.cover_judge.CoverJudge.done.Goals as goal

pub returns-then-self-len : goal.returns-then-self-len
returns-then-self-len c =
    let s = c.args.self.now in
    let here = ap (λ (t : CoverState). t.standing.begun) c.self.view_is in
    let all = c.len.ensures ∙ ap (λ (t : CoverState). length t.contours) c.self.view_is in
    λ X lines f. done_all X s lines c.self.inside.begun c.len.result c.is_full.result f here all c.if-self-len.true c.is_full.ensures

pub returns-else-self-len : goal.returns-else-self-len
returns-else-self-len c =
    let s = c.args.self.now in
    let here = ap (λ (t : CoverState). t.standing.begun) c.self.view_is in
    let all = c.len.ensures ∙ ap (λ (t : CoverState). length t.contours) c.self.view_is in
    λ X lines f. done_short X s lines c.self.inside.begun c.len.result f here all c.if-self-len.false
