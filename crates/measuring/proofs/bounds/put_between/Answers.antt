use Rattle.std.proofs.Common.{◌≡◌, refl}
use Rattle.measuring.specs.Corners.{corners}
use Rattle.measuring.specs.Lines.{with_line}
use Rattle.measuring.proofs.LinesPut.{put_joined, put_apart}
use Rattle.measuring.proofs.bounds.put_between.Goals as goal

pub returns-then-are_level-clause-lines : goal.returns-then-are_level-clause-lines
returns-then-are_level-clause-lines c = λ rows n are k up low h.
    put_joined rows n c.args.before c.args.row c.below-upper.result c.above-lower.result c.joined.result (corners c.args.points.now.items)
    (corners c.put_line.new.points.items) are k up low
    c.below-upper.ensures.value c.above-lower.ensures.value (c.are_level.ensures.0 c.if-are_level.true) c.joined.ensures.joined c.joined.ensures.short
    c.in_ok-put_line.ensures.ends h

pub returns-clause-lines : goal.returns-clause-lines
returns-clause-lines c = λ rows n are k up low h.
    let other = λ (e : c.below-upper.result.y ≡ c.above-lower.result.y). (
    let t = c.are_level.ensures.1 e in
    let f = c.if-are_level.false in
    let no : ⊥ = cc in no) in
    put_apart rows n c.args.before c.args.row c.below-upper.result c.above-lower.result (corners c.args.points.now.items)
    (with_line (corners c.args.points.now.items) c.below-upper.result)
    (corners c.put_lines.new.points.items) are k up low c.below-upper.ensures.value c.above-lower.ensures.value other c.below-upper.ensures.short
    c.above-lower.ensures.short refl c.in_ok-put_lines.ensures.ends h
