use Rattle.std.proofs.Common.{◌^◌, ◌≤◌, subst, sym}
use Rattle.measuring.proofs.ShareBounds.{few_shares}
use Rattle.measuring.proofs.shares.share.Goals as goal

pub returns-clause-few : goal.returns-clause-few
returns-clause-few c = subst (λ n. n ≤ 10 ^ 12) (sym c.quotient.ensures) (few_shares (10 ^ 12) c.args.part c.args.all c.requires.within)
