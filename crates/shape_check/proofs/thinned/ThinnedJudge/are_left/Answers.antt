use Rattle.report_terms.specs.ThinningLines.{events_of}
use Rattle.shape_check.proofs.ThinningJudged.{followed, not_kept, kept_is}
use Rattle.shape_check.proofs.thinned.ThinnedJudge.are_left.Goals as goal

pub returns-then-not-finished : goal.returns-then-not-finished
returns-then-not-finished g c = λ X by now lines begun untaken t.
    not_kept t begun untaken c.finished.result c.if-not-finished.true (c.finished.ensures by X (events_of lines) now (followed t begun untaken)) c.args.points
    c.args.object c.args.background

pub returns : goal.returns
returns g c = λ X by now lines begun untaken t.
    kept_is t begun untaken c.finished.result c.if-not-finished.false (c.finished.ensures by X (events_of lines) now (followed t begun untaken)) c.left.result
    (c.left.ensures by X (events_of lines) now (followed t begun untaken))
    c.are.result c.args.points c.args.object c.args.background c.are.ensures
