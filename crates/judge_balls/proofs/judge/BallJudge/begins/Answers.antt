use Rattle.std.proofs.Common.{subst}
use Rattle.std.specs.Prelude.{◌↔◌, IsTrue}
use Rattle.shape_terms.specs.Pictures.{Picture}
use Rattle.ball_terms.specs.Reports.{HeadingClaim}
use Rattle.judge_balls.proofs.judge.BallJudge.begins.Goals as goal

pub returns : goal.returns
returns g c = λ X balls h. subst (λ (Y : Picture). IsTrue c.passes_heading.result ↔ HeadingClaim Y (g.P.Point.coords c.args.sides) c.args.number) h.0
    c.passes_heading.ensures
