use Rattle.std.proofs.Common.{◌*◌, subst}
use Rattle.masking.specs.Roots.{IsRoot}
use Rattle.masking.proofs.LevelLaws.{near_level}
use Rattle.masking.proofs.distances.level.Goals as goal

pub returns : goal.returns
returns c =
    let r = c.isqrt.result in
    let found : IsRoot (10000 * c.min-near.result) r = record { low = c.isqrt.ensures.square_le; high = c.isqrt.ensures.next_square_gt } in
    (near_level c.args.square r (subst (λ n. IsRoot (10000 * n) r) c.min-near.ensures found)).0
