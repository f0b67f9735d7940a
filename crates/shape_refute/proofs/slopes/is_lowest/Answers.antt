use Rattle.std.proofs.Common.{rules, arith, refl, sym, ◌∙◌, FitsSigned, to_z, ◌≡◌, false, true}
use Rattle.std.specs.Prelude.{ℤ}
use Rattle.std.specs.Int.{w64}
use Rattle.std.proofs.lemmas.Int.{ints, to_z-of_z}
use Rattle.shape_terms.specs.Slopes.{IsSlope}
use Rattle.shape_refute.proofs.Walk.{none_next, next_small, nearer}
use Rattle.shape_refute.proofs.slopes.is_lowest.Goals as goal

pub returns-then-has_slope : goal.returns-then-has_slope
returns-then-has_slope c =
    let b = to_z w64 c.loop-b.b-bits in
    let fm : FitsSigned w64 c.args.main = c.ranges.main in
    let fb : FitsSigned w64 b = search rules in
    let t = simp to_z-of_z at c.loop-b-test.true in
    let e = c.has_slope.ensures in
    ((λ x. absurd (cc)), λ h. absurd (let s = e.0 c.if-has_slope.true in let k = h b s.0 s.1 in omega (arith, ints, t, k)))

pub loop-b-smaller : goal.loop-b-smaller
loop-b-smaller c =
    let b = to_z w64 c.loop-b.b-bits in
    let fb : FitsSigned w64 b = search rules in
    let e = c.has_slope.ensures in
    let v = c.next-b.ensures in
    let no : ((x : ℤ) × IsSlope c.args.first.side c.args.first.room c.args.second.side c.args.second.room x b)
    → ⊥ = (λ s. let q : false ≡ true = sym c.if-has_slope.false ∙ e.1 s in cc) in
    let l = next_small c.args.first.side c.args.first.room c.args.second.side c.args.second.room b c.next-b.result c.loop-b.invariant.none no v c.requires.slope
    in
    let fv : FitsSigned w64 c.next-b.result = search rules in
    simp to_z-of_z (nearer b c.next-b.result v l)

pub loop-b-preserved : goal.loop-b-preserved
loop-b-preserved c =
    let b = to_z w64 c.loop-b.b-bits in
    let fb : FitsSigned w64 b = search rules in
    let e = c.has_slope.ensures in
    let v = c.next-b.ensures in
    let some = c.loop-b.invariant.some in
    let no : ((x : ℤ) × IsSlope c.args.first.side c.args.first.room c.args.second.side c.args.second.room x b)
    → ⊥ = (λ s. let q : false ≡ true = sym c.if-has_slope.false ∙ e.1 s in cc) in
    let n = none_next c.args.first.side c.args.first.room c.args.second.side c.args.second.room b c.next-b.result c.loop-b.invariant.none no v in
    let l = next_small c.args.first.side c.args.first.room c.args.second.side c.args.second.room b c.next-b.result c.loop-b.invariant.none no v c.requires.slope
    in
    let fv : FitsSigned w64 c.next-b.result = search rules in
    record { some = simp to_z-of_z (omega (arith, ints, some, v)); small = simp to_z-of_z l; none = simp to_z-of_z n }

pub returns : goal.returns
returns c =
    let b = to_z w64 c.loop-b.b-bits in
    let fm : FitsSigned w64 c.args.main = c.ranges.main in
    let fb : FitsSigned w64 b = search rules in
    let t = simp to_z-of_z at c.loop-b-test.false in
    ((λ x d y s. let k = c.loop-b.invariant.none d y s in omega (arith, ints, t, k)), λ h. refl)
