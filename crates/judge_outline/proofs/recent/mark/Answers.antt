use Rattle.std.proofs.Common.{sym, subst, ◌++◌, ◌∷◌, []}
use Rattle.judge_outline.specs.Terms.{point_of}
use Rattle.judge_outline.specs.Exposure.{AreMarked}
use Rattle.judge_outline.proofs.Marking.{marked_more}
use Rattle.judge_outline.proofs.recent.mark.Goals as goal

pub returns-clause-marked : goal.returns-clause-marked
returns-clause-marked c = λ points h. subst (AreMarked (points ++ point_of c.args.p ∷ [])) (sym c.set.ensures)
    (marked_more c.args.recent.now (point_of c.args.p) c.is_picture.ensures.picture.filled c.requires points h)
