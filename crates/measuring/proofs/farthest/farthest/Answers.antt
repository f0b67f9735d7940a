use Rattle.std.proofs.Common.{◌≡◌, length, subst, arith}
use Rattle.measuring.specs.Spaced.{spacing_told}
use Rattle.measuring.specs.Farthest.{IsBest}
use Rattle.measuring.proofs.BestPairs.{alone, best_next, farthest_is}
use Rattle.measuring.proofs.farthest.farthest.Goals as goal

pub loop-at-init : goal.loop-at-init
loop-at-init c = alone (spacing_told c.args.spacing) c.args.sites.now c.requires.some

pub with_site-best-requires-clause-pair : goal.with_site-best-requires-clause-pair
with_site-best-requires-clause-pair c = c.loop-at.invariant.pair

pub loop-at-preserved : goal.loop-at-preserved
loop-at-preserved c = best_next (spacing_told c.args.spacing) c.args.sites.now c.loop-at.at c.loop-at.best c.with_site-best.result c.loop-at.invariant
    c.with_site-best.ensures

pub returns : goal.returns
returns c =
    let sites = c.args.sites.now in
    let e : c.loop-at.at ≡ length sites = omega arith in
    farthest_is (spacing_told c.args.spacing) sites c.loop-at.best
    (subst (λ n. IsBest (spacing_told c.args.spacing) sites n c.loop-at.best) e c.loop-at.invariant)
