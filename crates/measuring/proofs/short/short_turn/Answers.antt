use Rattle.std.proofs.Common.{◌^◌, ◌≤◌, unsigned_abs, subst, sym, arith}
use Rattle.std.proofs.lemmas.Int.{ints}
use Rattle.measuring.specs.Corners.{corner}
use Rattle.measuring.proofs.Shorts.{small_turn}
use Rattle.measuring.proofs.short.short_turn.Goals as goal

pub narrowed-requires : goal.narrowed-requires
narrowed-requires c =
    let h : unsigned_abs c.turn.result ≤ 2 ^ 35 = subst (λ z. unsigned_abs z ≤ 2 ^ 35) (sym c.turn.ensures)
    (small_turn (corner c.args.a) (corner c.args.b) (corner c.args.c) c.requires.a c.requires.b c.requires.c) in
    omega (arith, ints, h)
