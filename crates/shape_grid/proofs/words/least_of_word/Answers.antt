use Rattle.std.proofs.Common.{arith}
use Rattle.std.proofs.lemmas.Nat.{trailing_le}
use Rattle.std.specs.Prelude.{slice_index}
use Rattle.shape_grid.proofs.WordSteps.{lowest, within}
use Rattle.shape_grid.proofs.words.least_of_word.Goals as goal

pub returns : goal.returns
returns c = lowest c.args.words.now c.args.w c.requires.filled (let t = c.type_inv.words c.args.w in omega arith)

pub overflow_add-result : goal.overflow_add-result
overflow_add-result c =
    let few = c.requires.few in
    let there = within c.args.words.now c.args.w c.requires.filled in
    let low = trailing_le 64 (slice_index c.args.words.now c.args.w) in
    omega arith
