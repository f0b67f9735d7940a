use Rattle.std.proofs.Common.{rules, arith, FitsSigned}
use Rattle.std.proofs.lemmas.Int.{ints, to_z-of_z}
use Rattle.std.specs.Int.{w64}
use Rattle.shape_plane.proofs.Narrowing.{upper_taken, upper_kept, lower_taken, lower_kept, flat_kept, not_less}
use Rattle.shape_plane.proofs.range.narrow.Goals as goal

pub returns-then-is_tighter : goal.returns-then-is_tighter
returns-then-is_tighter c =
    let f : FitsSigned w64 c.args.c.bound.x = search rules in
    let t = simp to_z-of_z at c.if-c-gt0.true in
    upper_taken c.args.rows.now c.args.old c.args.c c.requires.range c.requires.combination (omega (arith, ints, t))
    (c.is_tighter.ensures.0 c.if-is_tighter.true)

pub returns-then-c-gt0 : goal.returns-then-c-gt0
returns-then-c-gt0 c =
    let f : FitsSigned w64 c.args.c.bound.x = search rules in
    let t = simp to_z-of_z at c.if-c-gt0.true in
    upper_kept c.args.rows.now c.args.old c.args.c c.requires.range (omega (arith, ints, t))
    (not_less c.is_tighter.result _ _ c.is_tighter.ensures c.if-is_tighter.false)

pub returns-then-is_tighter-2 : goal.returns-then-is_tighter-2
returns-then-is_tighter-2 c =
    let f : FitsSigned w64 c.args.c.bound.x = search rules in
    let t = simp to_z-of_z at c.if-c-lt0.true in
    lower_taken c.args.rows.now c.args.old c.args.c c.requires.range c.requires.combination (omega (arith, ints, t))
    (c.is_tighter-then-c-lt0.ensures.0 c.if-is_tighter-2.true)

pub returns-then-c-lt0 : goal.returns-then-c-lt0
returns-then-c-lt0 c =
    let f : FitsSigned w64 c.args.c.bound.x = search rules in
    let t = simp to_z-of_z at c.if-c-lt0.true in
    lower_kept c.args.rows.now c.args.old c.args.c c.requires.range (omega (arith, ints, t))
    (not_less c.is_tighter-then-c-lt0.result _ _ c.is_tighter-then-c-lt0.ensures c.if-is_tighter-2.false)

pub returns-then-c-ge0 : goal.returns-then-c-ge0
returns-then-c-ge0 c =
    let f : FitsSigned w64 c.args.c.bound.x = search rules in
    let g : FitsSigned w64 c.args.c.bound.z = search rules in
    let t = simp to_z-of_z at c.if-c-gt0.false in
    let u = simp to_z-of_z at c.if-c-lt0.false in
    let v = simp to_z-of_z at c.if-c-ge0.true in
    record { combination = c.requires.combination; never = record { flat = omega (arith, ints, t, u); over = omega (arith, ints, v) }; pair = c.requires.pair }

pub returns : goal.returns
returns c =
    let f : FitsSigned w64 c.args.c.bound.x = search rules in
    let g : FitsSigned w64 c.args.c.bound.z = search rules in
    let t = simp to_z-of_z at c.if-c-gt0.false in
    let u = simp to_z-of_z at c.if-c-lt0.false in
    let v = simp to_z-of_z at c.if-c-ge0.false in
    flat_kept c.args.rows.now c.args.old c.args.c c.requires.range (omega (arith, ints, t, u)) (omega (arith, ints, v))
