use Rattle.std.proofs.Common.{arith, ◌%◌, subst, sym, ◌≡◌, Bool, List}
use Rattle.shape_terms.specs.CrackNumbers.{IsMarkedBesides}
use Rattle.shape_crack.specs.MarkBits.{is_set}
use Rattle.shape_crack.proofs.MarkSteps.{upper_marked, lower_marked}
use Rattle.shape_crack.proofs.marks.CrackMarks.mark.Goals as goal

pub returns-then-n-eq0-clause-marks : goal.returns-then-n-eq0-clause-marks
returns-then-n-eq0-clause-marks c =
    let m = c.args.self.now in
    subst (λ (u : List Bool). IsMarkedBesides c.args.n (is_set m.upper m.lower) (is_set u m.lower)) (sym c.set.ensures)
    (upper_marked m.upper m.lower c.args.n c.if-n-eq0.true (omega (arith, c.requires.below)))

pub returns-else-n-eq0-clause-marks : goal.returns-else-n-eq0-clause-marks
returns-else-n-eq0-clause-marks c =
    let m = c.args.self.now in
    let lower : c.args.n % 4 ≡ 2 = omega (arith, c.requires.level, c.if-n-eq0.false) in
    subst (λ (u : List Bool). IsMarkedBesides c.args.n (is_set m.upper m.lower) (is_set m.upper u)) (sym c.set-else-n-eq0.ensures)
    (lower_marked m.upper m.lower c.args.n lower (omega (arith, c.requires.below, m.both)))
