use Rattle.std.proofs.Common.{◌≡◌, ◌∷◌, [], length, map, rules, ◌∙◌, arith}
use Rattle.shape_plane.proofs.Adding.{first_refused}
use Rattle.shape_plane.proofs.Extending.{few_pushed, inside_pushed, rows_none}
use Rattle.shape_plane.proofs.growing.Growing.first.Goals as goal

pub unreachable-requires : goal.unreachable-requires
unreachable-requires g c =
    let items : c.push.new.self.items ≡ c.args.p ∷ [] = search rules in
    first_refused g.P.Point.coords g.P.Point.DIM c.args.axis c.deref.result.now c.args.p c.in_ok-held.field-0 c.decide_with.new.why
    (c.deref.ensures.value ∙ items) c.in-None.is c.in_ok-held.ensures.decided

pub decide_with-requires-clause-few : goal.decide_with-requires-clause-few
decide_with-requires-clause-few g c =
    let items : c.push.new.self.items ≡ c.args.p ∷ [] = search rules in
    few_pushed [] c.deref.result.now c.args.p (c.deref.ensures.value ∙ items) (omega arith)

pub decide_with-requires-clause-inside : goal.decide_with-requires-clause-inside
decide_with-requires-clause-inside g c =
    let items : c.push.new.self.items ≡ c.args.p ∷ [] = search rules in
    inside_pushed [] c.deref.result.now c.args.p (c.deref.ensures.value ∙ items) g.P.Point.coords g.P.Point.MAX_SIDE (λ k d l. absurd (omega arith))
    c.requires.inside

pub decide_with-requires-clause-known : goal.decide_with-requires-clause-known
decide_with-requires-clause-known g c = rows_none (length c.deref.result.now) c.args.axis (map g.P.Point.coords c.deref.result.now) c.in_ok-known.known
    c.in_ok-known.ensures
