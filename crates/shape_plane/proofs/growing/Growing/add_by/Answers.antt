use Rattle.std.proofs.Common.{◌≡◌, ◌<◌, ◌-◌, ◌^◌, ◌++◌, ◌∷◌, [], map, subst, sym, ap, ◌∙◌, List, length, ℕ, true, false}
use Rattle.std.specs.Prelude.{IsTrue, ◌↔◌}
use Rattle.std.proofs.lemmas.List.{length-map}
use Rattle.shape_terms.specs.Points.{Point}
use Rattle.shape_refute.specs.Weights.{refutation_of}
use Rattle.shape_plane.specs.Verdicts.{IsHeld, IsRefuted, IsFlatFor, AreRowsOf}
use Rattle.shape_plane.specs.Growth.{Grown}
use Rattle.shape_plane.proofs.Adding.{one_more, grows_found, grows_kept, is_flat, not_flat, extended_flat, extended_refused}
use Rattle.shape_plane.proofs.Extending.{few_shown, pair_shown, shown, same_shown, err_offered, added_flat, added_refused}
use Rattle.shape_plane.proofs.growing.Growing.add_by.Goals as goal

pub invariant_of-self-in-Some : goal.invariant_of-self-in-Some
invariant_of-self-in-Some g c =
    let x = extended_flat g.P.Point.coords g.P.Point.DIM c.self.inside.axis c.self.inside.points.items c.extend.new.points.items c.args.p c.in_ok-held.field-0
    c.in-Some.held c.extend.new.why c.in-Some.is c.in_ok-held.ensures.extended in
    let e : map g.P.Point.coords c.extend.new.points.items ≡ map g.P.Point.coords c.self.inside.points.items ++ g.P.Point.coords c.args.p ∷ [] =
    ap (map g.P.Point.coords) x.0 ∙ one_more g.P.Point.coords c.self.inside.points.items c.args.p in
    let few : length (map g.P.Point.coords c.self.inside.points.items) < 2 ^ 31 - 1 = rw (ap (λ (v : Grown). length v.points) c.self.view_is) c.requires.few in
    grows_found g.P.Point.DIM g.P.Point.MAX_SIDE c.self.inside.axis (map g.P.Point.coords c.self.inside.points.items)
    (map g.P.Point.coords c.extend.new.points.items) (g.P.Point.coords c.args.p) c.self.inside.known c.extend.new.known c.self.inside.held c.in-Some.held
    c.self.invariant c.requires.inside few e
    (subst (λ (n : ℕ). AreRowsOf n c.self.inside.axis (map g.P.Point.coords c.extend.new.points.items) c.extend.new.known)
    (sym (length-map c.extend.new.points.items g.P.Point.coords)) c.extend.ensures.known) x.1

pub invariant_of-self-in-None : goal.invariant_of-self-in-None
invariant_of-self-in-None g c =
    let x = extended_refused g.P.Point.coords g.P.Point.DIM c.self.inside.axis c.self.inside.points.items c.extend.new.points.items c.args.p
    c.in_ok-held.field-0 c.extend.new.why c.in-None.is c.in_ok-held.ensures.extended in
    grows_kept g.P.Point.DIM g.P.Point.MAX_SIDE c.self.inside.axis (map g.P.Point.coords c.self.inside.points.items)
    (map g.P.Point.coords c.extend.new.points.items) c.self.inside.known c.extend.new.known c.self.inside.held
    c.self.invariant (ap (map g.P.Point.coords) x.0)
    (subst (λ (n : ℕ). AreRowsOf n c.self.inside.axis (map g.P.Point.coords c.extend.new.points.items) c.extend.new.known)
    (sym (length-map c.extend.new.points.items g.P.Point.coords)) c.extend.ensures.known)

pub returns-in-Some-clause-exactly : goal.returns-in-Some-clause-exactly
returns-in-Some-clause-exactly g c =
    let x = extended_flat g.P.Point.coords g.P.Point.DIM c.self.inside.axis c.self.inside.points.items c.extend.new.points.items c.args.p c.in_ok-held.field-0
    c.in-Some.held c.extend.new.why c.in-Some.is c.in_ok-held.ensures.extended in
    let e : map g.P.Point.coords c.extend.new.points.items ≡ map g.P.Point.coords c.self.inside.points.items ++ g.P.Point.coords c.args.p ∷ [] =
    ap (map g.P.Point.coords) x.0 ∙ one_more g.P.Point.coords c.self.inside.points.items c.args.p in
    subst (λ (v : Grown). IsTrue true ↔ IsFlatFor v.axis (v.points ++ g.P.Point.coords c.args.p ∷ [])) c.self.view_is
    (is_flat g.P.Point.DIM c.self.inside.axis (map g.P.Point.coords c.self.inside.points.items ++ g.P.Point.coords c.args.p ∷ []) c.in-Some.held.plane
    (subst (λ (l : List Point). IsHeld g.P.Point.DIM c.self.inside.axis l c.in-Some.held.plane) e x.1.held))

pub returns-in-None-clause-exactly : goal.returns-in-None-clause-exactly
returns-in-None-clause-exactly g c =
    let x = extended_refused g.P.Point.coords g.P.Point.DIM c.self.inside.axis c.self.inside.points.items c.extend.new.points.items c.args.p
    c.in_ok-held.field-0 c.extend.new.why c.in-None.is c.in_ok-held.ensures.extended in
    subst (λ (v : Grown). IsTrue false ↔ IsFlatFor v.axis (v.points ++ g.P.Point.coords c.args.p ∷ [])) c.self.view_is
    (not_flat g.P.Point.DIM c.self.inside.axis (map g.P.Point.coords c.self.inside.points.items ++ g.P.Point.coords c.args.p ∷ [])
    (refutation_of c.extend.new.why)
    (subst (λ (l : List Point). IsRefuted g.P.Point.DIM c.self.inside.axis l (refutation_of c.extend.new.why))
    (one_more g.P.Point.coords c.self.inside.points.items c.args.p) x.1))

pub extend-requires-clause-axis : goal.extend-requires-clause-axis
extend-requires-clause-axis g c = c.self.invariant.low

pub extend-requires-clause-few : goal.extend-requires-clause-few
extend-requires-clause-few g c = few_shown g.P.Point.coords c.self.inside.axis c.self.inside.points.items c.args.self.now c.self.view_is (2 ^ 31 - 1)
    c.requires.few

pub extend-requires-clause-inside : goal.extend-requires-clause-inside
extend-requires-clause-inside g c = c.self.invariant.inside

pub extend-requires-clause-pair : goal.extend-requires-clause-pair
extend-requires-clause-pair g c = pair_shown g.P.Point.coords c.self.inside.axis c.self.inside.points.items c.args.self.now c.self.view_is c.args.pair
    c.requires.pair

pub extend-requires-clause-known : goal.extend-requires-clause-known
extend-requires-clause-known g c =
    subst (λ (n : ℕ). AreRowsOf n c.self.inside.axis (map g.P.Point.coords c.self.inside.points.items) c.self.inside.known)
    (length-map c.self.inside.points.items g.P.Point.coords) c.self.invariant.rows

pub returns-in-Some-clause-added : goal.returns-in-Some-clause-added
returns-in-Some-clause-added g c =
    let x = extended_flat g.P.Point.coords g.P.Point.DIM c.self.inside.axis c.self.inside.points.items c.extend.new.points.items c.args.p c.in_ok-held.field-0
    c.in-Some.held c.extend.new.why c.in-Some.is c.in_ok-held.ensures.extended in
    added_flat g.P.Point.coords c.self.inside.axis c.self.inside.points.items c.args.self.now c.self.view_is c.extend.new.points.items c.args.p x.0

pub returns-in-None-clause-added : goal.returns-in-None-clause-added
returns-in-None-clause-added g c =
    let x = extended_refused g.P.Point.coords g.P.Point.DIM c.self.inside.axis c.self.inside.points.items c.extend.new.points.items c.args.p
    c.in_ok-held.field-0 c.extend.new.why c.in-None.is c.in_ok-held.ensures.extended in
    added_refused g.P.Point.coords c.self.inside.axis c.self.inside.points.items c.args.self.now c.self.view_is g.P.Point.DIM c.extend.new.points.items c.args.p
    (refutation_of c.extend.new.why) x

pub invariant_of-self : goal.invariant_of-self
invariant_of-self g c =
    grows_kept g.P.Point.DIM g.P.Point.MAX_SIDE c.self.inside.axis (map g.P.Point.coords c.self.inside.points.items)
    (map g.P.Point.coords c.extend.new.points.items) c.self.inside.known c.extend.new.known c.self.inside.held
    c.self.invariant (ap (map g.P.Point.coords) c.in_err-held.ensures.extended)
    (subst (λ (n : ℕ). AreRowsOf n c.self.inside.axis (map g.P.Point.coords c.extend.new.points.items) c.extend.new.known)
    (sym (length-map c.extend.new.points.items g.P.Point.coords)) c.extend.ensures.known)

pub returns-in_err-held-clause-added : goal.returns-in_err-held-clause-added
returns-in_err-held-clause-added g c =
    err_offered g.P.Point.DIM c.args.self.now (shown g.P.Point.coords c.self.inside.axis c.extend.new.points.items) (g.P.Point.coords c.args.p)
    c.from_residual.result c.extend.new.why c.from_residual.ensures.0
    (same_shown g.P.Point.coords c.self.inside.axis c.self.inside.points.items c.args.self.now c.self.view_is c.extend.new.points.items
    c.in_err-held.ensures.extended)
