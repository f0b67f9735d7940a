use Rattle.judge_outline.proofs.patch_round.gather_round.Goals as goal

pub gather_inside-requires-clause-inner : goal.gather_inside-requires-clause-inner
gather_inside-requires-clause-inner c = c.is_inner.ensures.exactly.0 c.if-is_inner.true
