use Rattle.std.proofs.Common.{◌≡◌, ◌<◌, ◌+◌, ◌-◌, ◌^◌, ◌++◌, ◌∷◌, [], map, subst, sym, ap, ◌∙◌, List, length, ℕ, true}
use Rattle.std.specs.Prelude.{IsTrue, ◌↔◌}
use Rattle.std.proofs.lemmas.List.{length-map, length-append}
use Rattle.shape_terms.specs.Points.{Point}
use Rattle.shape_plane.specs.Pairs.{IsPair}
use Rattle.shape_plane.specs.Verdicts.{IsKept, IsTested, IsBroken, IsFlatFor}
use Rattle.shape_plane.specs.Growth.{Grown, IsGrowing}
use Rattle.shape_plane.proofs.Adding.{one_more, grows_held, is_flat}
use Rattle.shape_plane.proofs.Extending.{added_flat}
use Rattle.shape_plane.proofs.growing.Growing.add_or_refute.Goals as goal

pub invariant_of-self-in-Holds : goal.invariant_of-self-in-Holds
invariant_of-self-in-Holds g c =
    let items = c.in_ok-push-in-Holds.ensures.items in
    let e : map g.P.Point.coords c.push.new.self.items ≡ map g.P.Point.coords c.self.inside.points.items ++ g.P.Point.coords c.args.p ∷ [] =
    ap (map g.P.Point.coords) items ∙ one_more g.P.Point.coords c.self.inside.points.items c.args.p in
    let few : length (map g.P.Point.coords c.self.inside.points.items) < 2 ^ 31 - 1 = rw (ap (λ (v : Grown). length v.points) c.self.view_is) c.requires.few in
    let n : c.len.result ≡ length c.self.inside.points.items = c.len.ensures ∙ c.self.inside.points.ok.0 in
    let k : IsKept g.P.Point.DIM c.self.inside.axis (map g.P.Point.coords c.self.inside.points.items ++ g.P.Point.coords c.args.p ∷ []) c.in-Holds.held =
    subst (IsTested g.P.Point.DIM c.self.inside.axis (map g.P.Point.coords c.self.inside.points.items ++ g.P.Point.coords c.args.p ∷ [])
    c.self.inside.held.plane.a) c.in-Holds.is
    (c.try_last.ensures (map g.P.Point.coords c.self.inside.points.items) (length-map c.self.inside.points.items g.P.Point.coords ∙ sym n)
    c.self.invariant.kept) in
    subst (λ (l : List Point). IsGrowing g.P.Point.DIM g.P.Point.MAX_SIDE c.self.inside.axis l c.self.inside.known c.in-Holds.held) (sym e)
    (grows_held g.P.Point.DIM g.P.Point.MAX_SIDE c.self.inside.axis (map g.P.Point.coords c.self.inside.points.items) (g.P.Point.coords c.args.p)
    c.self.inside.known c.self.inside.held c.in-Holds.held c.self.invariant c.requires.inside few k)

pub add_by-requires-clause-pair : goal.add_by-requires-clause-pair
add_by-requires-clause-pair g c =
    let n : c.len.result ≡ length c.self.inside.points.items = c.len.ensures ∙ c.self.inside.points.ok.0 in
    let b : IsBroken g.P.Point.DIM c.self.inside.axis (map g.P.Point.coords c.self.inside.points.items ++ g.P.Point.coords c.args.p ∷ [])
    c.self.inside.held.plane.a c.in-Breaks.pair =
    subst (IsTested g.P.Point.DIM c.self.inside.axis (map g.P.Point.coords c.self.inside.points.items ++ g.P.Point.coords c.args.p ∷ [])
    c.self.inside.held.plane.a) c.in-Breaks.is
    (c.try_last.ensures (map g.P.Point.coords c.self.inside.points.items) (length-map c.self.inside.points.items g.P.Point.coords ∙ sym n)
    c.self.invariant.kept) in
    subst (λ (v : Grown). IsPair (length v.points + 1) c.in-Breaks.pair) c.self.view_is
    (subst (λ (n : ℕ). IsPair n c.in-Breaks.pair) (length-append (map g.P.Point.coords c.self.inside.points.items) (g.P.Point.coords c.args.p ∷ [])) b.places)

pub returns-in_ok-push-in-Holds-clause-exactly : goal.returns-in_ok-push-in-Holds-clause-exactly
returns-in_ok-push-in-Holds-clause-exactly g c =
    let n : c.len.result ≡ length c.self.inside.points.items = c.len.ensures ∙ c.self.inside.points.ok.0 in
    let k : IsKept g.P.Point.DIM c.self.inside.axis (map g.P.Point.coords c.self.inside.points.items ++ g.P.Point.coords c.args.p ∷ []) c.in-Holds.held =
    subst (IsTested g.P.Point.DIM c.self.inside.axis (map g.P.Point.coords c.self.inside.points.items ++ g.P.Point.coords c.args.p ∷ [])
    c.self.inside.held.plane.a) c.in-Holds.is
    (c.try_last.ensures (map g.P.Point.coords c.self.inside.points.items) (length-map c.self.inside.points.items g.P.Point.coords ∙ sym n)
    c.self.invariant.kept) in
    subst (λ (v : Grown). IsTrue true ↔ IsFlatFor v.axis (v.points ++ g.P.Point.coords c.args.p ∷ [])) c.self.view_is
    (is_flat g.P.Point.DIM c.self.inside.axis (map g.P.Point.coords c.self.inside.points.items ++ g.P.Point.coords c.args.p ∷ []) c.in-Holds.held.plane k.held)

pub try_last-requires-clause-held : goal.try_last-requires-clause-held
try_last-requires-clause-held g c =
    let n : c.len.result ≡ length c.self.inside.points.items = c.len.ensures ∙ c.self.inside.points.ok.0 in
    (map g.P.Point.coords c.self.inside.points.items, length-map c.self.inside.points.items g.P.Point.coords ∙ sym n, c.self.invariant.kept)

pub returns-in_ok-push-in-Holds-clause-added : goal.returns-in_ok-push-in-Holds-clause-added
returns-in_ok-push-in-Holds-clause-added g c =
    added_flat g.P.Point.coords c.self.inside.axis c.self.inside.points.items c.args.self.now c.self.view_is c.push.new.self.items c.args.p
    c.in_ok-push-in-Holds.ensures.items
