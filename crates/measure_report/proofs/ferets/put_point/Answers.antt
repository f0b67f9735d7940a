use Rattle.std.proofs.Common.{◌≡◌, ◌++◌, ℕ, List, subst}
use Rattle.std.specs.Prelude.{OnOk}
use Rattle.measure_report.proofs.FeretCells.{told_cells}
use Rattle.measure_report.proofs.ferets.put_point.Goals as goal

pub returns : goal.returns
returns c = subst (λ (cells : List ℕ). OnOk c.put_coordinates.result (c.put_coordinates.new.csv ≡ c.args.csv.now ++ cells)) (told_cells c.args.solid c.args.p)
    c.put_coordinates.ensures
