use Rattle.std.proofs.Common.{◌+◌, ◌-◌, ◌*◌, arith}
use Rattle.measuring.proofs.Squares.{squares_apart, more_of_apart}
use Rattle.measuring.proofs.wide.squares_more.Goals as goal

pub returns-else-c-b : goal.returns-else-c-b
returns-else-c-b c =
    let a = c.args.a in
    let b = c.args.b in
    let n = c.args.c in
    let h = more_of_apart (a * a) ((n - b) * (b + n)) (b * b) (n * n) (squares_apart b n (omega arith)) in
    ((λ t. h.0 (c.product_less.ensures.0 t)), λ l. c.product_less.ensures.1 (h.1 l))
