use Rattle.std.proofs.Common.{◌≡◌, pos, to_z, rules, arith, refl, take_while}
use Rattle.std.specs.Int.{w64}
use Rattle.std.specs.Char.{is_ascii_digit}
use Rattle.shape_desk.proofs.Numbers.{AllDigits-take_while, spells_unsigned, none_unsigned, number_front-unsigned}
use Rattle.shape_desk.proofs.number.read_unsigned.Goals as goal

pub returns-in-None : goal.returns-in-None
returns-in-None c =
    let bs = c.args.bytes.now in
    rw (number_front-unsigned bs c.requires) (none_unsigned (take_while is_ascii_digit bs) (AllDigits-take_while bs) (λ n l. c.in-None.ensures n (omega arith)))

pub returns-in-Some : goal.returns-in-Some
returns-in-Some c =
    let h = c.in-Some.ensures in
    let run = c.in-Some.found in
    let e : to_z w64 run.value ≡ pos run.value = search rules in
    rw (e, h.1.all) (spells_unsigned c.args.bytes.now (take_while is_ascii_digit c.args.bytes.now) run.value c.requires refl (omega (arith, h.0)) h.1.spelling)
