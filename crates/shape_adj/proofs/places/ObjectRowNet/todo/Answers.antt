use Rattle.std.proofs.Common.{◌↔◌, ℕ, Bool, List, sym, subst}
use Rattle.shape_terms.specs.Places.{ObjectPlace}
use Rattle.shape_adj.specs.Todo.{Marked}
use Rattle.shape_adj.proofs.OpenLinks.{copied, object_values}
use Rattle.shape_adj.proofs.places.ObjectRowNet.todo.Goals as goal

pub returns-clause-exactly : goal.returns-clause-exactly
returns-clause-exactly g c =
    let X = c.args.self.now.grid.now in
    let P : List Bool → Type 0 = λ b. (i : ℕ) → Marked b i ↔ ObjectPlace X i in
    copied c.copy.result P c.values.result.now c.copy.ensures (subst P (sym c.values.ensures) (object_values X c.args.self.now.filled))
