use Rattle.shape_plane.proofs.Narrowing.{not_less}
use Rattle.shape_plane.proofs.Tightening.{lower_taken, lower_kept, upper_taken, upper_kept}
use Rattle.shape_plane.proofs.span.tighten.Goals as goal

pub returns-then-is_tighter_row : goal.returns-then-is_tighter_row
returns-then-is_tighter_row c = lower_taken c.args.rows.now c.args.f c.args.old c.args.j c.requires.span c.requires.place c.requires.pair
    (c.is_lower.ensures.0 c.if-is_lower.true) (c.is_tighter_row.ensures.0 c.if-is_tighter_row.true)

pub returns-then-is_lower : goal.returns-then-is_lower
returns-then-is_lower c = lower_kept c.args.rows.now c.args.f c.args.old c.args.j c.requires.span (c.is_lower.ensures.0 c.if-is_lower.true)
    (not_less c.is_tighter_row.result _ _ c.is_tighter_row.ensures c.if-is_tighter_row.false)

pub returns-then-is_tighter_row-2 : goal.returns-then-is_tighter_row-2
returns-then-is_tighter_row-2 c = upper_taken c.args.rows.now c.args.f c.args.old c.args.j c.requires.span c.requires.place c.requires.pair
    (c.is_upper.ensures.0 c.if-is_upper.true) (c.is_tighter_row-then-is_upper.ensures.0 c.if-is_tighter_row-2.true)

pub returns-then-is_upper : goal.returns-then-is_upper
returns-then-is_upper c = upper_kept c.args.rows.now c.args.f c.args.old c.args.j c.requires.span (c.is_upper.ensures.0 c.if-is_upper.true)
    (not_less c.is_tighter_row-then-is_upper.result _ _ c.is_tighter_row-then-is_upper.ensures c.if-is_tighter_row-2.false)
