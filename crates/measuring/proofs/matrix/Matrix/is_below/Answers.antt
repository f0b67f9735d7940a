use Rattle.std.proofs.Common.{rules, sym, subst, arith, FitsSigned}
use Rattle.std.specs.Int.{w128}
use Rattle.std.specs.Prelude.{IsTrue, pos, ◌<ℤ◌, ◌≤ℤ◌}
use Rattle.std.proofs.lemmas.Int.{ints, to_z-of_z}
use Rattle.measuring.specs.declared.below.Axis.{Axis}
use Rattle.measuring.specs.Matrices.{IsBelow}
use Rattle.measuring.proofs.Lengths.{major_test, minor_test}
use Rattle.measuring.proofs.matrix.Matrix.is_below.Goals as goal

pub returns-then-room-gt0 : goal.returns-then-room-gt0
returns-then-room-gt0 c =
    let a = c.args.self.now in
    let k = c.room-room.result in
    let r = c.args.r in
    let fk : FitsSigned w128 c.room-room.result = search rules in
    let fx : FitsSigned w128 c.args.self.now.double_x = search rules in
    let fy : FitsSigned w128 c.args.self.now.double_y = search rules in
    let x = simp to_z-of_z at c.size-x.ensures.value in
    let y = simp to_z-of_z at c.size-y.ensures.value in
    let z = simp to_z-of_z at c.unsigned_abs.ensures.value in
    let some : pos 0 <ℤ c.room-room.result = omega (arith, ints, c.if-room-gt0.true) in
    let h = major_test a.count r c.size-x.result c.size-y.result c.unsigned_abs.result a.trace a.double_x a.double_y k c.room-room.ensures.value some x y z in
    subst (λ (axis : Axis). (IsTrue c.squares_less.result → IsBelow axis a r) × (IsBelow axis a r → IsTrue c.squares_less.result)) (sym c.in-Major.is)
    ((λ t. h.0 (c.squares_less.ensures.0 t)), λ b. c.squares_less.ensures.1 (h.1 b))

pub returns-else-room-gt0-2 : goal.returns-else-room-gt0-2
returns-else-room-gt0-2 c =
    let a = c.args.self.now in
    let k = c.room-room.result in
    let r = c.args.r in
    let fk : FitsSigned w128 c.room-room.result = search rules in
    let fx : FitsSigned w128 c.args.self.now.double_x = search rules in
    let fy : FitsSigned w128 c.args.self.now.double_y = search rules in
    let x = simp to_z-of_z at c.size-x.ensures.value in
    let y = simp to_z-of_z at c.size-y.ensures.value in
    let z = simp to_z-of_z at c.unsigned_abs-else-room-gt0-2.ensures.value in
    let none : c.room-room.result ≤ℤ pos 0 = omega (arith, ints, c.if-room-gt0-2.false) in
    let h = minor_test a.count r c.size-x.result c.size-y.result c.unsigned_abs-else-room-gt0-2.result a.trace a.double_x a.double_y k c.room-room.ensures.value
    none x y z in
    subst (λ (axis : Axis). (IsTrue c.squares_more.result → IsBelow axis a r) × (IsBelow axis a r → IsTrue c.squares_more.result)) (sym c.in-Minor.is)
    ((λ t. h.0 (c.squares_more.ensures.0 t)), λ b. c.squares_more.ensures.1 (h.1 b))
