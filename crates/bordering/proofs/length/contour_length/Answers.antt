use Rattle.std.proofs.Common.{◌≡◌, length, arith, subst, sym}
use Rattle.std.proofs.lemmas.List.{length-map}
use Rattle.bordering.specs.Told.{flats, run_told, runs_told}
use Rattle.bordering.specs.Cells.{AreCells}
use Rattle.bordering.proofs.Sizes.{room_left}
use Rattle.bordering.proofs.length.contour_length.Goals as goal

pub sum_of_means-requires : goal.sum_of_means-requires
sum_of_means-requires c =
    let ps = flats c.args.points.now in
    let rs = runs_told c.args.runs.now in
    let some : length rs ≡ length c.args.runs.now = length-map c.args.runs.now run_told in
    room_left ps rs c.deref.result.now 0 (subst (AreCells ps rs) (sym c.deref.ensures.value) c.add_runs.ensures) (omega (arith, some))
