use Rattle.std.proofs.Common.{ap, sym, ◌∙◌, ◌≡◌, length, arith}
use Rattle.std.specs.Prelude.{replicate}
use Rattle.std.proofs.lemmas.List.{length-map}
use Rattle.bordering.specs.Cells.{no_cell}
use Rattle.bordering.specs.Told.{flat, flats}
use Rattle.bordering.proofs.Passing.{none_put}
use Rattle.bordering.proofs.length.clear_cells.Goals as goal

pub returns : goal.returns
returns c =
    let e : c.loop-i._i ≡ length c.args.points.now = omega arith in
    none_put (flats c.args.points.now) c.loop-i.cells.items (c.loop-i.invariant ∙ ap (λ k. replicate k no_cell) (e ∙ sym (length-map c.args.points.now flat)))
