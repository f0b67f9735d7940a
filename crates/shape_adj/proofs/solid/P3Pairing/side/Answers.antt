use Rattle.std.proofs.Common.{[], ◌∷◌, ap, ◌∙◌}
use Rattle.shape_terms.specs.Adjacency.{moved}
use Rattle.shape_adj.proofs.solid.P3Pairing.side.Goals as goal

pub returns : goal.returns
returns c = let p = c.args.self.now in c.solid_moved.ensures ∙ ap (moved (p.x ∷ p.y ∷ p.z ∷ [])) c.solid_side_step-step.ensures.value
