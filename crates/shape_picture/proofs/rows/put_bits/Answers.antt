use Rattle.std.proofs.Common.{◌≡◌, ◌+◌, ◌-◌, ◌++◌, ◌∙◌, ap, sym, take, replicate, false, arith}
use Rattle.shape_picture.specs.Pbm.{bits_of}
use Rattle.shape_picture.proofs.ValueSteps.{put_value, value_next, values_blank}
use Rattle.shape_picture.proofs.rows.put_bits.Goals as goal

pub loop-place-preserved : goal.loop-place-preserved
loop-place-preserved g c = (
  c.put.ensures.sides ∙ c.loop-place.invariant.0,
  λ known total k l e.
      let v = c.loop-place.invariant.1 known total k l e in
      c.put.ensures.values ∙ ap (λ b. put_value c.loop-place.grid.values (c.args.from + c.loop-place.place) b) c.bit.ensures
      ∙ value_next known (bits_of c.args.c) c.loop-place.grid.values c.args.from c.loop-place.place total v k
      (omega (arith, c.requires.few, c.loop-place-test.true)) (omega (arith, l, c.loop-place-test.true)),
)

pub returns-then-c-eq0-clause-values : goal.returns-then-c-eq0-clause-values
returns-then-c-eq0-clause-values g c = λ known total k l e.
    let none : bits_of c.args.c ≡ replicate 8 false = ap bits_of (let z : c.args.c ≡ 0 = omega (arith, c.if-c-eq0.true) in z) in
    values_blank known c.args.grid.now.values c.args.from 8 c.args.pixels total e c.requires.few l
    ∙ ap (λ bs. (known ++ take c.args.pixels bs) ++ replicate (total - (c.args.from + c.args.pixels)) false) (sym none)
