use Rattle.std.proofs.Common.{◌-◌, ap, ◌∙◌, arith}
use Rattle.drawing.specs.Seen.{flats}
use Rattle.draw_report.proofs.PathLaws.{path_found}
use Rattle.draw_report.proofs.borders.path_before.Goals as goal

pub returns : goal.returns
returns c =
    let some = c.if-begun-eq0.false in
    let few = c.if-begun-paths.false in
    let b = c.args.begun in
    ap flats c.as_slice.ensures.value ∙ path_found c.args.paths.now b (b - 1) c.index-paths-begun.result (omega (arith, some)) (omega (arith, few))
    c.index-paths-begun.is
