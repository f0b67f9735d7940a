use Rattle.std.proofs.Common.{sym, ap, ◌∙◌}
use Rattle.shape_refute.specs.Weights.{refutation_of}
use Rattle.shape_plane.specs.ToldAnew.{told_anew}
use Rattle.shape_plane.proofs.ToldSame.{told_same}
use Rattle.shape_plane.proofs.told.told_anew.Goals as goal

pub returns-then-from-to : goal.returns-then-from-to
returns-then-from-to c =
    sym (ap (λ n. told_anew c.args.from n (refutation_of c.args.why.now)) (sym c.if-from-to.true) ∙ told_same c.args.from (refutation_of c.args.why.now))
