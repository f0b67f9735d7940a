use Rattle.std.proofs.Common.{subst}
use Rattle.std.proofs.Math.Facts.{to_z-of_z}
use Rattle.shape_cli.specs.Numbers.{ReadsCoordinate}
use Rattle.shape_cli.proofs.SideWords.{read_coordinate}
use Rattle.shape_cli.proofs.numbers.coordinate.Goals as goal

pub returns : goal.returns
returns c =
    let h = c.in_ok-number.ensures in
    subst (λ w. ReadsCoordinate w c.ok.result) c.as_slice.ensures.value
    (rw c.ok.ensures.value (read_coordinate c.as_slice.result.now c.in_ok-number.field-0 _ c.try_from.result h.0 h.1 (to_z-of_z h.0) c.try_from.ensures))
