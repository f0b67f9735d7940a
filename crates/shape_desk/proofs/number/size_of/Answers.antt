use Rattle.std.proofs.Common.{◌≤◌, ◌^◌, take_while, arith}
use Rattle.std.specs.Char.{is_ascii_digit}
use Rattle.shape_desk.proofs.Numbers.{AllDigits-take_while, spells_size, none_above, none_misspelt}
use Rattle.shape_desk.proofs.number.size_of.Goals as goal

pub run_of-run-requires : goal.run_of-run-requires
run_of-run-requires c = (c.has_no_leading_zero.ensures.0 c.if-not-has_no_leading_zero.false).0

pub returns-then-not-has_no_leading_zero : goal.returns-then-not-has_no_leading_zero
returns-then-not-has_no_leading_zero c = λ n l. none_misspelt (take_while is_ascii_digit c.args.bytes.now) (λ s. (
    let t = c.has_no_leading_zero.ensures.1 s in
    let f = c.if-not-has_no_leading_zero.true in
    cc)) n (omega (arith, l, c.requires))

pub returns-then-run-greatest : goal.returns-then-run-greatest
returns-then-run-greatest c =
    let bs = c.args.bytes.now in
    let run = c.run_of-run in
    let fits : run.result.value ≤ 2 ^ 63 = omega (arith, c.if-run-greatest.true, c.requires) in (
      c.if-run-greatest.true,
      record {
        fits = fits;
        spelling = spells_size (take_while is_ascii_digit bs) run.result.value (AllDigits-take_while bs)
            (c.has_no_leading_zero.ensures.0 c.if-not-has_no_leading_zero.false) fits run.ensures.value;
        all = run.ensures.len;
      },
    )

pub returns-else-run-greatest : goal.returns-else-run-greatest
returns-else-run-greatest c = none_above (take_while is_ascii_digit c.args.bytes.now) c.run_of-run.result.value c.args.greatest c.requires
    c.if-run-greatest.false c.run_of-run.ensures.value
