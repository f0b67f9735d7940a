use Rattle.std.proofs.Common.{arith, ◌+◌, ◌≤◌, subst, sym, ℕ, inl, inr}
use Rattle.shape_terms.specs.Straight.{IsStraight}
use Rattle.shape_terms.specs.Covers.{arc}
use Rattle.shape_line.proofs.ContourGrowing.{taken_back}
use Rattle.shape_line.proofs.Bends.{reaches_back, refused_back}
use Rattle.shape_line.proofs.start.next_start.Goals as goal

pub invariant_of-result : goal.invariant_of-result
invariant_of-result c =
    let points = c.args.contour.now.points in
    let end = c.args.reach.now.stretch.last + 1 in
    let x = c.backward-x.ensures in
    let y = c.backward-y.ensures in
    let xl = x.later in
    let yl = y.later in
    let first = c.earlier-first.ensures.first in
    let second = c.earlier-first.ensures.second in
    let some : 1 ≤ c.earlier-first.result = elim c.earlier-first.ensures.one [ inl e ↦ omega arith | inr e ↦ omega arith ] in
    record {
      x_reaches = reaches_back points c.earlier-first.result c.backward-x.result.place end 0 c.backward-x.result.clash x.near some first x.clash;
      y_reaches = reaches_back points c.earlier-first.result c.backward-y.result.place end 1 c.backward-y.result.clash y.near some second y.clash;
    }

pub returns : goal.returns
returns c =
    let points = c.args.contour.now.points in
    let end = c.args.reach.now.stretch.last + 1 in
    let x = c.backward-x.ensures in
    let y = c.backward-y.ensures in
    let xl = x.later in
    let xn = x.near in
    let yl = y.later in
    let yn = y.near in
    let first = c.earlier-first.ensures.first in
    let second = c.earlier-first.ensures.second in
    let some : 1 ≤ c.earlier-first.result = elim c.earlier-first.ensures.one [ inl e ↦ omega arith | inr e ↦ omega arith ] in
    record {
      later = elim c.earlier-first.ensures.one [ inl e ↦ omega arith | inr e ↦ omega arith ];
      near = omega arith;
      straight = elim c.earlier-first.ensures.one [
        | inl e ↦ subst (λ (b : ℕ). IsStraight (arc points b end)) (sym e)
            (taken_back points c.is_closed_path.ensures 0 c.backward-x.result.place end c.backward-x.result.segment (omega arith) xn
            (record { axis = x.axis; taken = x.taken }))
        | inr e ↦ subst (λ (b : ℕ). IsStraight (arc points b end)) (sym e)
            (taken_back points c.is_closed_path.ensures 1 c.backward-y.result.place end c.backward-y.result.segment (omega arith) yn
            (record { axis = y.axis; taken = y.taken }))
      ];
      bent = record {
        x = refused_back points c.earlier-first.result c.backward-x.result.place end 0 c.backward-x.result.clash xn some first x.clash (omega arith);
        y = refused_back points c.earlier-first.result c.backward-y.result.place end 1 c.backward-y.result.clash yn some second y.clash (omega arith);
      };
    }
