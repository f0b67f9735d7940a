use Rattle.std.proofs.Common.{◌≡◌, ◌<◌, ◌≤◌, ℕ, List, Bool, false, length, get_or, Option, Some, None, ap, sym, arith, ◌∙◌}
use Rattle.std.specs.Prelude.{MatchOption, IfSome}
use Rattle.shape_grid.specs.Truths.{IsFirstTrue}
use Rattle.shape_queue.specs.SpotCells.{kept_in}
use Rattle.shape_queue.proofs.SpotLaws.{spots_long}
use Rattle.shape_queue.proofs.spots.Spots.first_from.Goals as goal

-- what is found is one of the places
found_within : (o : Option ℕ) (values : List Bool) (from n : ℕ) → length values ≡ n
    → MatchOption o ((k : ℕ) → from ≤ k → get_or values k false ≡ false) (λ k. IsFirstTrue values from k) → IfSome o (λ k. k < n)
found_within None values from n e f = tt
found_within (Some k) values from n e f = let w = f.within in omega (arith, w, e)

pub returns-in-Some-clause-inside : goal.returns-in-Some-clause-inside
returns-in-Some-clause-inside c =
    let n = spots_long c.self.invariant c.self.view_is in
    let l = ap (λ o. length (kept_in o c.self.inside.len)) (sym c.in-Some.is) ∙ c.self.invariant.long ∙ sym n in
    found_within c.first_from.result c.in-Some.objects c.args.from (length c.args.self.now.values) l c.first_from.ensures

pub returns-in-None-clause-inside : goal.returns-in-None-clause-inside
returns-in-None-clause-inside c = let n = spots_long c.self.invariant c.self.view_is in omega (arith, n, c.if-from-self.true)
