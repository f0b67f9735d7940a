use Rattle.std.proofs.Common.{◌*◌, ◌++◌, [], ◌∷◌, ap, ◌∙◌}
use Rattle.masking.specs.Pictures.{eight}
use Rattle.masking.proofs.Growing.{one_more, more_values}
use Rattle.masking.proofs.bits.put_row.Goals as goal

pub loop-k-preserved : goal.loop-k-preserved
loop-k-preserved c =
    one_more _ _ _ _ _ _ c.loop-k.invariant (c.in_ok-push.ensures.items ∙ ap (λ b. c.loop-k.out.items ++ b ∷ []) c.eight.ensures)
    (more_values (λ k. eight c.args.grid.now c.args.y (8 * k)) c.loop-k.k)
