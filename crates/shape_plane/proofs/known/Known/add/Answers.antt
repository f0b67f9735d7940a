use Rattle.std.proofs.Common.{◌+◌, ◌++◌, ◌∷◌, [], List, length, map, ℕ, inl, inr, sym, subst, ◌∙◌}
use Rattle.shape_plane.specs.declared.row.Row.{Row}
use Rattle.shape_plane.specs.Rows.{IsGap, IsSystem}
use Rattle.shape_plane.specs.Ranges.{HasWhole}
use Rattle.shape_plane.specs.Pairs.{pair_row}
use Rattle.shape_plane.specs.Knowing.{IsKnown}
use Rattle.shape_plane.proofs.Knowing.{system_more, known_more, last_place, last_gap, row_added, whole_kept}
use Rattle.shape_plane.proofs.known.Known.add.Goals as goal

pub narrowed-self-inside-requires-clause-system : goal.narrowed-self-inside-requires-clause-system
narrowed-self-inside-requires-clause-system g c =
    let items = c.in_ok-push.ensures.items in
    let gap : IsGap c.row_of.result.cause = subst (λ (r : Row). IsGap r.cause) (sym c.row_of.ensures.row) tt in
    subst IsSystem (sym (c.deref.ensures.value ∙ items))
    (system_more c.self.inside.rows.items c.row_of.result c.self.invariant.system c.row_of.ensures.small gap)

pub invariant_of-self-2 : goal.invariant_of-self-2
invariant_of-self-2 g c =
    let items = c.in_ok-push.ensures.items in
    let gap : IsGap c.row_of.result.cause = subst (λ (r : Row). IsGap r.cause) (sym c.row_of.ensures.row) tt in
    let j = c.len-j.ensures ∙ c.self.inside.rows.ok.0 in
    let whole : HasWhole c.push.new.self.items (length c.self.inside.rows.items + 1) c.narrowed-self-inside.result =
    subst (λ (k : ℕ). HasWhole c.push.new.self.items (k + 1) c.narrowed-self-inside.result) j
    (subst (λ (l : List Row). HasWhole l (c.len-j.result + 1) c.narrowed-self-inside.result) c.deref.ensures.value c.narrowed-self-inside.ensures) in
    known_more c.self.inside.rows.items c.push.new.self.items c.row_of.result c.narrowed-self-inside.result items
    (subst IsSystem (sym items) (system_more c.self.inside.rows.items c.row_of.result c.self.invariant.system c.row_of.ensures.small gap)) whole

pub narrowed-self-inside-requires-clause-place : goal.narrowed-self-inside-requires-clause-place
narrowed-self-inside-requires-clause-place g c =
    last_place c.self.inside.rows.items c.deref.result.now c.row_of.result c.len-j.result (c.deref.ensures.value ∙ c.in_ok-push.ensures.items)
    (c.len-j.ensures ∙ c.self.inside.rows.ok.0)

pub narrowed-self-inside-requires-clause-pair : goal.narrowed-self-inside-requires-clause-pair
narrowed-self-inside-requires-clause-pair g c =
    last_gap c.self.inside.rows.items c.deref.result.now c.row_of.result c.len-j.result (c.deref.ensures.value ∙ c.in_ok-push.ensures.items)
    (c.len-j.ensures ∙ c.self.inside.rows.ok.0)
    (subst (λ (r : Row). IsGap r.cause) (sym c.row_of.ensures.row) tt)

pub invariant_of-self : goal.invariant_of-self
invariant_of-self g c = subst (λ (l : List Row). IsKnown l c.self.inside.first) (sym c.in_err-push.ensures.items) c.self.invariant

pub returns-in_err-push-clause-either : goal.returns-in_err-push-clause-either
returns-in_err-push-clause-either g c = inl (c.in_err-push.ensures.items ∙ c.self.view_is)

pub returns-clause-added : goal.returns-clause-added
returns-clause-added g c = row_added c.self.inside.rows.items c.push.new.self.items c.args.self.now c.row_of.result
    (pair_row c.args.axis (map g.P.Point.coords c.args.points.now) c.args.pair) c.in_ok-push.ensures.items c.row_of.ensures.row c.self.view_is

pub returns-clause-either : goal.returns-clause-either
returns-clause-either g c =
    inr (row_added c.self.inside.rows.items c.push.new.self.items c.args.self.now c.row_of.result
    (pair_row c.args.axis (map g.P.Point.coords c.args.points.now) c.args.pair) c.in_ok-push.ensures.items c.row_of.ensures.row c.self.view_is)

pub narrowed-self-inside-requires-clause-before : goal.narrowed-self-inside-requires-clause-before
narrowed-self-inside-requires-clause-before g c =
    let rows = c.self.inside.rows.items in
    subst (λ (l : List Row). HasWhole l c.len-j.result c.self.inside.first) (sym (c.deref.ensures.value ∙ c.in_ok-push.ensures.items))
    (subst (λ (k : ℕ). HasWhole (rows ++ c.row_of.result ∷ []) k c.self.inside.first) (sym (c.len-j.ensures ∙ c.self.inside.rows.ok.0))
    (whole_kept rows (c.row_of.result ∷ []) c.self.inside.first c.self.invariant.whole))
