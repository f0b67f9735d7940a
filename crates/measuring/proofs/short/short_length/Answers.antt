use Rattle.std.proofs.Common.{◌^◌, ◌≤◌, unsigned_abs, subst, sym, arith}
use Rattle.std.proofs.lemmas.Int.{ints}
use Rattle.measuring.specs.Corners.{corner}
use Rattle.measuring.proofs.Shorts.{small_length}
use Rattle.measuring.proofs.short.short_length.Goals as goal

pub narrowed-requires : goal.narrowed-requires
narrowed-requires c =
    let h : unsigned_abs c.squared_length.result ≤ 2 ^ 35 = subst (λ z. unsigned_abs z ≤ 2 ^ 35) (sym c.squared_length.ensures)
    (small_length (corner c.args.p) (corner c.args.q) c.requires.p c.requires.q) in
    omega (arith, ints, h)
