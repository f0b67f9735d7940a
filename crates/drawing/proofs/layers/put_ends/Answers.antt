use Rattle.std.proofs.Common.{◌≡◌, ◌++◌, length, take, ap, ◌∙◌, arith}
use Rattle.std.proofs.Math.Seq.{take-length}
use Rattle.std.specs.List.{flat_map}
use Rattle.drawing.specs.Seen.{all_strokes}
use Rattle.drawing.specs.Svg.{ends_text}
use Rattle.drawing.proofs.LayerLaws.{three}
use Rattle.drawing.proofs.layers.put_ends.Goals as goal

pub returns : goal.returns
returns c =
    let strokes = c.args.strokes.now in
    let all : c.loop-s.s-index ≡ length strokes = omega (arith, c.loop-s-test.false, c.loop-s.auto.s-index-end) in
    let whole = ap (λ k. take k strokes) all ∙ take-length strokes in
    three _ _ _ _ _ _ _ c.in_ok-put.ensures (c.loop-s.invariant ∙ ap (λ ss. c.put.new.self ++ flat_map ends_text (all_strokes ss)) whole) c.in_ok-put-2.ensures
