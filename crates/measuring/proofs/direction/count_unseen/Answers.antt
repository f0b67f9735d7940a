use Rattle.std.proofs.Common.{◌<◌, ◌^◌, rules}
use Rattle.measuring.proofs.Ones.{count_size}
use Rattle.measuring.proofs.direction.count_unseen.Goals as goal

pub returns-clause-size : goal.returns-clause-size
returns-clause-size c =
    let few : c.args.directions < 2 ^ 32 = search rules in
    let small : c.args.seen < 2 ^ 32 = search rules in
    count_size c.args.directions c.args.seen few small
