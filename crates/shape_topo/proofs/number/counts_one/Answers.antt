use Rattle.std.proofs.Common.{subst}
use Rattle.std.proofs.lemmas.Bool.{eqb-true, eq-eqb}
use Rattle.shape_topo.specs.Masks.{HasMaskObjectNumber, HasMaskBackgroundNumber}
use Rattle.shape_topo.proofs.MaskNumbers.{one_object_number, one_background_number}
use Rattle.shape_topo.proofs.number.counts_one.Goals as goal

pub returns-then-object_number-eq1 : goal.returns-then-object_number-eq1
returns-then-object_number-eq1 g c =
    let d = g.P.Point.DIM in
    let m = c.args.mask in (
      (λ t. record {
        object = subst (HasMaskObjectNumber d m) c.if-object_number-eq1.true c.object_number.ensures;
        background =
            subst (HasMaskBackgroundNumber d m) (eqb-true c.background_number.result 1 t) c.background_number.ensures;
      }),
      (λ s. eq-eqb c.background_number.result 1 (one_background_number d m c.background_number.result 1 c.background_number.ensures s.background)),
    )

pub returns-else-object_number-eq1 : goal.returns-else-object_number-eq1
returns-else-object_number-eq1 g c =
    let d = g.P.Point.DIM in
    let m = c.args.mask in (
      (λ t. absurd (c.if-object_number-eq1.false (eqb-true c.object_number.result 1 t))),
      (λ s. absurd (c.if-object_number-eq1.false (one_object_number d m c.object_number.result 1 c.object_number.ensures s.object))),
    )
