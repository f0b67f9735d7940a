use Rattle.std.proofs.Common.{subst, FitsSigned, arith}
use Rattle.std.specs.Prelude.{ℤ}
use Rattle.std.specs.Int.{w64}
use Rattle.std.proofs.lemmas.Int.{ints, to_z-of_z}
use Rattle.shape_line.specs.Stands.{IsStand}
use Rattle.shape_line.proofs.segment.Segment.stand.Goals as goal

pub returns : goal.returns
returns c =
    let s = c.args.self.now in
    let small = s.grown.plane.mu_small in
    let f : FitsSigned w64 s.line.mu = omega (arith, ints, small) in
    let main = c.main.ensures.small in
    let g : FitsSigned w64 c.main.result = omega (arith, ints, main) in
    let rest = c.requires in
    let h : FitsSigned w64 c.args.r = omega (arith, ints, rest) in
    let k : IsStand s.line.mu c.main.result c.args.r c.stand_of.result = (simp to_z-of_z at c.stand_of.ensures) in
    subst (λ (b : ℤ). IsStand s.line.mu b c.args.r c.stand_of.result) c.main.ensures.value k
