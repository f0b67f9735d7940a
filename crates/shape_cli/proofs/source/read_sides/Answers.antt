use Rattle.std.proofs.Math.Facts.{to_z-of_z}
use Rattle.shape_cli.proofs.SideWords.{no_first, no_second, no_third, three_read}
use Rattle.shape_cli.proofs.source.read_sides.Goals as goal

pub returns-in_err-x : goal.returns-in_err-x
returns-in_err-x c = rw c.from_residual.ensures (no_first c.args.x.now.items c.args.y.now.items c.args.z.now.items c.in_err-x.ensures)

pub returns-in_err-y : goal.returns-in_err-y
returns-in_err-y c = rw c.from_residual-in_err-y.ensures (no_second c.args.x.now.items c.args.y.now.items c.args.z.now.items c.in_err-y.ensures)

pub returns-in_err-z : goal.returns-in_err-z
returns-in_err-z c = rw c.from_residual-in_err-z.ensures (no_third c.args.x.now.items c.args.y.now.items c.args.z.now.items c.in_err-z.ensures)

pub returns : goal.returns
returns c =
    let x = c.in_ok-x.ensures in
    let y = c.in_ok-y.ensures in
    let z = c.in_ok-z.ensures in
    three_read (λ s. s.lengths) (λ p. p.x) (λ p. p.y) (λ p. p.z) _ c.try_new.result c.args.x.now.items c.args.y.now.items c.args.z.now.items _ _ _
    c.try_new.ensures.given c.try_new.ensures.exactly (to_z-of_z x.0) (to_z-of_z y.0) (to_z-of_z z.0) x y z
