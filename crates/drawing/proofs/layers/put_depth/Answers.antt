use Rattle.std.proofs.Common.{ap, ◌++◌, ◌∙◌}
use Rattle.drawing.specs.Seen.{flats}
use Rattle.drawing.specs.Svg.{runs_text}
use Rattle.drawing.proofs.LayerLaws.{three, points_seen}
use Rattle.drawing.proofs.layers.put_depth.Goals as goal

pub returns : goal.returns
returns c =
    let points = ap flats (c.deref.ensures.value ∙ c.in_ok-points.ensures) ∙ points_seen c.args.depth c.args.found.now in
    three _ _ _ _ _ _ _ c.in_ok-open_depth.ensures (c.in_ok-put_runs.ensures ∙ ap (λ ps. c.open_depth.new.svg ++ runs_text ps) points) c.in_ok-put.ensures
