use Rattle.std.proofs.Common.{rules, sym, subst}
use Rattle.shape_terms.specs.Pictures.{Picture}
use Rattle.shape_terms.specs.Parts.{Counts}
use Rattle.report_terms.specs.Lines.{Line, IsLineOf}
use Rattle.shape_analyse.proofs.Growth.{tells_line}
use Rattle.shape_analyse.proofs.ThinningGrowth.{events_kept}
use Rattle.shape_analyse.proofs.thinning.tell_kept.Goals as goal

pub returns : goal.returns
returns g c = λ X stage begun t left counts h.
    let n = c.count.result in
    let parts = c.args.counted in
    let fields : IsLineOf g.P.Point.DIM (Line.Kept n parts.object parts.background) = search rules in
    let mine : Counts c.args.thinning.now.left n parts.object parts.background = rw (c.count.ensures, c.left.ensures) counts in
    let there : Counts stage.left n parts.object parts.background = subst (λ (Y : Picture). Counts Y n parts.object parts.background) (sym left) mine in
    tells_line (Line.Kept n parts.object parts.background) c.line.ensures
    (λ lines so. events_kept g.P.Point.DIM X c.args.thinning.now.events stage lines n parts.object parts.background so t there fields) h
