use Rattle.std.proofs.Common.{◌≡◌, ◌∷◌, arith, to_z-of_z}
use Rattle.std.specs.Fmt.{decimal, signed_decimal}
use Rattle.std.proofs.lemmas.Fmt.{length-decimal-le}
use Rattle.itoa.proofs.Decimal.{minus_first}
use Rattle.shape_desk.proofs.DigitCounts.{length_of_size}
use Rattle.shape_desk.proofs.Putting.{PutsAt-told, PutsAt-more}
use Rattle.shape_desk.proofs.text.put_number.Goals as goal

pub put_digits-requires : goal.put_digits-requires
put_digits-requires c = rw (to_z-of_z c.ranges.n) (omega (arith, length_of_size c.args.n c.ranges.n, c.requires))

pub returns-then-n-ge0-clause-room : goal.returns-then-n-ge0-clause-room
returns-then-n-ge0-clause-room c = omega (arith, length_of_size c.args.n c.ranges.n, rw (to_z-of_z c.ranges.n) at c.put_digits.ensures.place)

pub put_digits-requires-2 : goal.put_digits-requires-2
put_digits-requires-2 c =
    omega (
      arith,
      length-decimal-le 19 c.unsigned_abs.result (omega arith) (omega arith) (omega arith),
      c.put_minus-end.ensures.place,
      c.put_minus-end.ensures.same_length,
      c.requires,
    )

pub returns-clause-text : goal.returns-clause-text
returns-clause-text c =
    let back = to_z-of_z c.ranges.n in
    let whole : 45 ∷ decimal c.unsigned_abs.result ≡ signed_decimal c.args.n =
    rw (c.unsigned_abs.ensures.value, back) (minus_first c.args.n (rw back at c.if-n-ge0.false)) in
    let put = PutsAt-told whole (PutsAt-more c.put_minus-end.ensures c.put_digits-2.ensures) in put.front

pub returns-clause-rest : goal.returns-clause-rest
returns-clause-rest c = let put = PutsAt-more c.put_minus-end.ensures c.put_digits-2.ensures in put.behind

pub returns-clause-place : goal.returns-clause-place
returns-clause-place c =
    let back = to_z-of_z c.ranges.n in
    let whole : 45 ∷ decimal c.unsigned_abs.result ≡ signed_decimal c.args.n =
    rw (c.unsigned_abs.ensures.value, back) (minus_first c.args.n (rw back at c.if-n-ge0.false)) in
    let put = PutsAt-told whole (PutsAt-more c.put_minus-end.ensures c.put_digits-2.ensures) in put.place

pub returns-clause-room : goal.returns-clause-room
returns-clause-room c =
    omega (
      arith,
      length-decimal-le 19 c.unsigned_abs.result (omega arith) (omega arith) (omega arith),
      c.put_minus-end.ensures.place,
      c.put_digits-2.ensures.place,
    )
