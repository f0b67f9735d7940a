use Rattle.std.proofs.Common.{◌-◌, ◌*◌, ◌+◌, ◌/◌, ◌<◌, arith, rules, refl, FitsSigned, w64}
use Rattle.std.proofs.lemmas.Int.{to_z-of_z}
use Rattle.shape_terms.proofs.Parabolas.{first_above, first_below, rounded_enough, rounded_least}
use Rattle.shape_space.proofs.crossing.crossing.Goals as goal

pub returns-then-early-late : goal.returns-then-early-late
returns-then-early-late c =
    let f = c.args.f in
    let i = c.args.i in
    let g = c.args.g in
    let j = c.args.j in
    let m = g + j * j - (f + i * i) in
    let w = 2 * (j - i) in
    let some : 0 < w = omega arith in
    let fits : FitsSigned w64 c.rounded_up.result = search rules in
    rw (to_z-of_z w64 c.rounded_up.result fits, c.rounded_up.ensures)
    (first_above f i g j (j - i) m w ((m + (w - 1)) / w) (omega arith) refl (omega arith) (omega arith) (rounded_enough m w ((m + (w - 1)) / w) some refl)
    (λ n h. rounded_least m w ((m + (w - 1)) / w) n some refl h))

pub returns-else-early-late : goal.returns-else-early-late
returns-else-early-late c =
    let f = c.args.f in
    let i = c.args.i in
    let g = c.args.g in
    let j = c.args.j in
    let m = f + i * i - (g + j * j) in
    let w = 2 * (j - i) in
    let some : 0 < w = omega arith in
    let fits : FitsSigned w64 c.below_zero.result = search rules in
    rw (to_z-of_z w64 c.below_zero.result fits, c.below_zero.ensures) (first_below f i g j (j - i) m w (m / w) (omega arith) refl some (omega arith) refl)
