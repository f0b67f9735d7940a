use Rattle.std.proofs.Common.{◌≡◌, ◌++◌, ap, ◌∙◌, arith}
use Rattle.std.specs.List.{flat_map, range_with_len}
use Rattle.drawing.proofs.LayerLaws.{three, one_more, more_numbers}
use Rattle.drawing.specs.Sheets.{shade_path}
use Rattle.drawing.proofs.sheet_layers.put_colour.Goals as goal

pub loop-shade-preserved : goal.loop-shade-preserved
loop-shade-preserved c =
    one_more _ _ _ _ _ _ c.loop-shade.invariant c.in_ok-put_shade.ensures (more_numbers (shade_path c.args.canvas.now c.args.colour) c.loop-shade.shade)

pub returns : goal.returns
returns c =
    let all : c.loop-shade.shade ≡ 4 = omega (arith, c.loop-shade-test.false, c.loop-shade.auto.shade-end) in
    let pieces = c.loop-shade.invariant ∙ ap (λ k. c.open_colour.new.svg ++ flat_map (shade_path c.args.canvas.now c.args.colour) (range_with_len 0 k)) all in
    three _ _ _ _ _ _ _ c.in_ok-open_colour.ensures pieces c.in_ok-put.ensures
