use Rattle.std.proofs.Common.{◌/◌, ◌%◌, ◌<◌, refl, arith}
use Rattle.std.proofs.Math.Nat.{mod-lt}
use Rattle.shape_queue.specs.Bands.{band_place}
use Rattle.shape_queue.proofs.BandLaws.{few_before}
use Rattle.shape_queue.proofs.spots.place_in_bands.Goals as goal

pub returns : goal.returns
unfolding band_place
returns c = refl

pub overflow_mul-result-2 : goal.overflow_mul-result-2
overflow_mul-result-2 c =
    let before = few_before c.args.width c.args.i in
    let column = mod-lt c.args.i c.requires.some in
    omega (arith, before, column, c.requires.few, c.requires.most)

pub overflow_add-result-2 : goal.overflow_add-result-2
overflow_add-result-2 c =
    let before = few_before c.args.width c.args.i in
    let column = mod-lt c.args.i c.requires.some in
    let row : c.args.i / c.args.width % 32 < 32 = mod-lt (c.args.i / c.args.width) (omega arith) in
    omega (arith, before, column, row, c.requires.few, c.requires.most)
