use Rattle.std.proofs.Common.{◌≡◌, ◌≤◌, ℕ, false, get_or, subst}
use Rattle.shape_terms.specs.Pictures.{Picture}
use Rattle.shape_grid.specs.Truths.{IsFirstTrue}
use Rattle.shape_grid.proofs.ValueReads.{found, none_found}
use Rattle.shape_grid.proofs.grid.Grid.first_from.Goals as goal

pub returns-in_err-i-clause-next : goal.returns-in_err-i-clause-next
returns-in_err-i-clause-next g c = rw c.from_residual.ensures (none_found c.args.self.now c.args.from
    (subst (λ (X : Picture). (k : ℕ) → c.args.from ≤ k → get_or X.values k false ≡ false) c.self.view_is c.in_err-i.ensures))

pub returns-clause-next : goal.returns-clause-next
returns-clause-next g c = found c.args.self.now c.args.from c.in_ok-i.i c.is_picture.ensures.picture.filled
    (subst (λ (X : Picture). IsFirstTrue X.values c.args.from c.in_ok-i.i) c.self.view_is c.in_ok-i.ensures)
