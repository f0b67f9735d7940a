use Rattle.std.proofs.Common.{rules, map, subst, List}
use Rattle.std.specs.Prelude.{IsPermutation}
use Rattle.std.proofs.lemmas.List.Sorted.{IsPermutation-map, IsNonDecreasingBy-from_sort_by_key}
use Rattle.shape_plane.specs.declared.refusals.Refused.{Refused}
use Rattle.shape_plane.specs.Trials.{Refusal, refusal_of}
use Rattle.shape_plane.proofs.Refusing.{rising_mapped}
use Rattle.shape_plane.proofs.refusals.Refusals.sort.Goals as goal

pub returns-clause-same : goal.returns-clause-same
returns-clause-same g c =
    subst (λ (l : List Refusal). IsPermutation l (map (refusal_of g.P.Point.coords) c.sort_unstable_by_key.new.self.items)) c.self.view_is
    (IsPermutation-map (refusal_of g.P.Point.coords) c.self.inside.items.items c.sort_unstable_by_key.new.self.items c.sort_unstable_by_key.ensures.permutation)

pub returns-clause-rising : goal.returns-clause-rising
returns-clause-rising g c =
    rising_mapped (refusal_of g.P.Point.coords) (λ (r : Refusal). r.number) c.sort_unstable_by_key.new.self.items
    (IsNonDecreasingBy-from_sort_by_key (λ (r : Refused g.row.P.Denot). r.number) c.sort_unstable_by_key.new.self.items c.sort_unstable_by_key.ensures.sorted
    (λ a r f' q. search rules))
