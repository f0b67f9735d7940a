use Rattle.std.proofs.Common.{ℕ, List, subst}
use Rattle.shape_terms.specs.Pictures.{Picture}
use Rattle.measuring.specs.TellsTable.{TellsTable}
use Rattle.measure_report.proofs.tables.table_of.Goals as goal

pub returns : goal.returns
returns g c =
    let s = c.args.seen.now in
    let table = c.in_ok-table.table in
    subst (λ (X : Picture). TellsTable X s.squares s.left table) c.object.ensures
    (subst (λ (n : List ℕ). TellsTable c.object.result.now n s.left table) c.squares.ensures.value
    (subst (λ (Y : Picture). TellsTable c.object.result.now c.squares.result.now Y table) c.left.ensures.value c.in_ok-table.ensures))
