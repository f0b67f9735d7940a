use Rattle.std.proofs.Common.{◌≡◌, ◌++◌, ap, ◌∙◌, arith}
use Rattle.std.specs.List.{flat_map, range_with_len}
use Rattle.drawing.specs.Seen.{all_pixels}
use Rattle.drawing.specs.Svg.{depth_path}
use Rattle.drawing.proofs.LayerLaws.{three, one_more, more_numbers}
use Rattle.drawing.proofs.layers.put_object.Goals as goal

pub loop-depth-preserved : goal.loop-depth-preserved
loop-depth-preserved c =
    one_more _ _ _ _ _ _ c.loop-depth.invariant c.in_ok-put_depth.ensures (more_numbers (depth_path (all_pixels c.args.found.now)) c.loop-depth.depth)

pub returns : goal.returns
returns c =
    let all : c.loop-depth.depth ≡ 6 = omega (arith, c.loop-depth-test.false, c.loop-depth.auto.depth-end) in
    let pieces = c.loop-depth.invariant ∙ ap (λ k. c.put.new.self ++ flat_map (depth_path (all_pixels c.args.found.now)) (range_with_len 0 k)) all in
    three _ _ _ _ _ _ _ c.in_ok-put.ensures pieces c.in_ok-put-2.ensures
