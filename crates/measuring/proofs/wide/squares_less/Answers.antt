use Rattle.std.proofs.Common.{◌+◌, ◌-◌, ◌*◌, arith}
use Rattle.measuring.proofs.Squares.{squares_apart, less_of_apart}
use Rattle.measuring.proofs.wide.squares_less.Goals as goal

pub returns-then-b-c : goal.returns-then-b-c
returns-then-b-c c =
    let a = c.args.a in
    let b = c.args.b in
    let n = c.args.c in
    let h = less_of_apart (a * a) ((n - b) * (b + n)) (b * b) (n * n) (squares_apart b n (omega arith)) in
    ((λ t. h.0 (c.product_less.ensures.0 t)), λ l. c.product_less.ensures.1 (h.1 l))
