use Rattle.std.proofs.Common.{◌≤◌, rules}
use Rattle.measuring.proofs.Gaps.{length_small}
use Rattle.measuring.proofs.site.squared_length.Goals as goal

pub returns-clause-small : goal.returns-clause-small
returns-clause-small c =
    let gap : c.abs_diff.result ≤ 65535 = search rules in
    length_small c.args.side c.abs_diff.result c.requires.most gap
