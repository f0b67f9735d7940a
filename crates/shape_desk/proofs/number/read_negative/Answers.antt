use Rattle.std.proofs.Common.{◌≡◌, ◌-◌, negsuc, to_z, of_z, arith, rules, refl, take_while}
use Rattle.std.specs.Int.{w64}
use Rattle.std.specs.Char.{is_ascii_digit}
use Rattle.shape_desk.proofs.Numbers.{none_negative, none_zero, spells_negative}
use Rattle.shape_desk.proofs.number.read_negative.Goals as goal

pub returns-in_default : goal.returns-in_default
returns-in_default c = none_negative (take_while is_ascii_digit c.args.bytes.now) (λ n some l. c.in_default.ensures n l)

pub returns-then-found-eq0 : goal.returns-then-found-eq0
returns-then-found-eq0 c =
    let h = c.in-Some.ensures.1 in
    let ds = take_while is_ascii_digit c.args.bytes.now in
    none_negative ds (none_zero ds c.in-Some.found.value h.fits h.spelling c.if-found-eq0.true)

pub returns-else-found-eq0 : goal.returns-else-found-eq0
returns-else-found-eq0 c =
    let h = c.in-Some.ensures.1 in
    let run = c.in-Some.found in
    let e : to_z w64 (of_z w64 c.negative.result) ≡ negsuc (run.value - 1) = search rules in
    rw (e, h.all) (spells_negative c.args.bytes.now (take_while is_ascii_digit c.args.bytes.now) run.value refl h.fits h.spelling (omega arith))
