use Rattle.judge_outline.proofs.patch_round.gather_outside.Goals as goal

pub gather_beside-requires-clause-inside : goal.gather_beside-requires-clause-inside
gather_beside-requires-clause-inside c = c.is_inner.ensures.itself c.if-is_inner.true

pub gather_beside-requires-clause-inner : goal.gather_beside-requires-clause-inner
gather_beside-requires-clause-inner c = c.is_inner.ensures.exactly.0 c.if-is_inner.true

pub gather_beside-requires-clause-beside : goal.gather_beside-requires-clause-beside
gather_beside-requires-clause-beside c = c.point_beside-q.ensures
