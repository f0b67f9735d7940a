use Rattle.std.proofs.Common.{◌≡◌, w32, to_z, of_z, arith}
use Rattle.std.specs.Prelude.{nat_abs}
use Rattle.std.proofs.lemmas.Int.{ints}
use Rattle.judge_outline.proofs.NearBeside.{AreCloser, near_beside}
use Rattle.judge_outline.proofs.beside.point_beside.Goals as goal

pub returns : goal.returns
returns c =
    let n = c.args.sides.now.lengths in
    let p = c.args.p in
    let x = to_z w32 (of_z w32 c.inward-3.result) in
    let y = to_z w32 (of_z w32 c.inward-2.result) in
    let z = to_z w32 (of_z w32 c.inward.result) in
    let lx : c.side-3.result ≡ n.x = c.side-3.ensures.value in
    let ly : c.side-2.result ≡ n.y = c.side-2.ensures.value in
    let lz : c.side.result ≡ n.z = c.side.ensures.value in
    let hx : AreCloser (nat_abs n.x) p.x x = λ v some below near.
    omega (arith, ints, c.inward-3.ensures v some (omega (arith, ints, below, lx)) (omega (arith, ints, near))) in
    let hy : AreCloser (nat_abs n.y) p.y y = λ v some below near.
    omega (arith, ints, c.inward-2.ensures v some (omega (arith, ints, below, ly)) (omega (arith, ints, near))) in
    let hz : AreCloser (nat_abs n.z) p.z z = λ v some below near.
    omega (arith, ints, c.inward.ensures v some (omega (arith, ints, below, lz)) (omega (arith, ints, near))) in
    near_beside (nat_abs n.x) (nat_abs n.y) (nat_abs n.z) p.x p.y p.z x y z hx hy hz
