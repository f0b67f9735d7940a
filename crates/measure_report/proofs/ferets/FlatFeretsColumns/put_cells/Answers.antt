use Rattle.std.proofs.Common.{◌≡◌, ◌++◌, List, false, get_or, ap, ◌∙◌, subst}
use Rattle.std.specs.Prelude.{OnOk}
use Rattle.measure_terms.specs.Feret as Terms
use Rattle.measuring.specs.declared.farthest.Feret.{Feret}
use Rattle.measuring.specs.FeretsTold.{ferets_told}
use Rattle.measure_report.specs.FeretColumns.{feret_cells, no_feret}
use Rattle.measure_report.proofs.ferets.FlatFeretsColumns.put_cells.Goals as goal

pub returns : goal.returns
returns c =
    let e = c.feret_at.ensures false ∙ ap (λ (fs : List Feret). get_or (ferets_told 2 fs) c.args.i (no_feret false)) c.as_slice.ensures.value in
    subst (λ (f : Terms.Feret). OnOk c.put_feret.result (c.put_feret.new.csv ≡ c.args.csv.now ++ feret_cells false f)) e c.put_feret.ensures
