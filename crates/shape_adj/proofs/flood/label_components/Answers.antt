use Rattle.std.proofs.lemmas.Result.{IfOk-weaker}
use Rattle.shape_adj.proofs.flood.label_components.Goals as goal

pub returns-clause-ordered : goal.returns-clause-ordered
returns-clause-ordered g c = IfOk-weaker c.flood.result _ _ (λ x u. rw u.1 u.2.ordered) c.flood.ensures
