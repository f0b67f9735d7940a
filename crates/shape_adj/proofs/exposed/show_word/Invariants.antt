use Rattle.std.proofs.Common.{◌≡◌, ℕ}
use Rattle.std.specs.Int.{bit_at}
use Rattle.shape_adj.specs.FacePoints.{Gains}
use Rattle.shape_adj.proofs.Gaining.{Done}
use Rattle.shape_adj.proofs.exposed.show_word.Given as goal

abbrev pub invariant-loop-rest : goal.invariant-loop-rest
invariant-loop-rest g l = record {
  part : (k : ℕ) → bit_at l.rest k ≡ 1 → bit_at l.fn.word k ≡ 1;
  gains : Gains l.fn.exposed l.exposed (Done l.fn.word l.fn.first l.rest);
}

abbrev pub decreases-loop-rest : goal.decreases-loop-rest
decreases-loop-rest g l = l.rest
