use Rattle.std.proofs.Common.{◌≡◌, ℕ, List, [], sym, subst, map, arith}
use Rattle.shape_terms.proofs.SameCycles.{in_none}
use Rattle.shape_terms.specs.Points.{sides_of}
use Rattle.shape_space.specs.declared.solid.P3.{P3}
use Rattle.judge_outline.specs.Terms.{point_of}
use Rattle.judge_outline.specs.Listings.{listing_of, AreListed}
use Rattle.judge_outline.proofs.listed.Listed.new.Goals as goal

-- no point is listed
none_listed : (sides : List ℕ) (items : List P3) → items ≡ [] → AreListed sides (map point_of items)
none_listed sides items e = subst (λ ps. AreListed sides (map point_of ps)) (sym e) (record { inside = λ p h. absurd (in_none p h); apart = grind arith })

pub invariant_of-result : goal.invariant_of-result
invariant_of-result c = none_listed _ c.in_ok-points.points.items c.in_ok-points.ensures.items

pub returns : goal.returns
returns c = λ i. listing_of (sides_of (point_of c.args.sides.lengths)) (map point_of (c.in_ok-points.ensures.items i)) (c.in_ok-points.ensures.exact i)
