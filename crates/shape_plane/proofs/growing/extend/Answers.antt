use Rattle.std.proofs.Common.{sym, refl, length, map, ◌∙◌}
use Rattle.shape_plane.proofs.Deciding.{rows_pushed}
use Rattle.shape_plane.proofs.Extending.{some_pushed, few_pushed, pair_pushed, inside_pushed, flat_extended, refused_extended, err_extended, taken_back}
use Rattle.shape_plane.proofs.Extending.{rows_front, marked_again, rows_same}
use Rattle.shape_plane.proofs.growing.extend.Goals as goal

pub decide_by-requires-clause-some : goal.decide_by-requires-clause-some
decide_by-requires-clause-some g c =
    let items = c.in_ok-push.ensures.items in
    some_pushed c.args.points.now.items c.deref.result.now c.args.p (c.deref.ensures.value ∙ items)

pub decide_by-requires-clause-few : goal.decide_by-requires-clause-few
decide_by-requires-clause-few g c =
    let items = c.in_ok-push.ensures.items in
    few_pushed c.args.points.now.items c.deref.result.now c.args.p (c.deref.ensures.value ∙ items) c.requires.few

pub decide_by-requires-clause-inside : goal.decide_by-requires-clause-inside
decide_by-requires-clause-inside g c =
    let items = c.in_ok-push.ensures.items in
    inside_pushed c.args.points.now.items c.deref.result.now c.args.p (c.deref.ensures.value ∙ items) g.P.Point.coords g.P.Point.MAX_SIDE c.requires.inside
    c.requires.point

pub decide_by-requires-clause-pair : goal.decide_by-requires-clause-pair
decide_by-requires-clause-pair g c =
    let items = c.in_ok-push.ensures.items in
    pair_pushed c.args.points.now.items c.deref.result.now c.args.p (c.deref.ensures.value ∙ items) c.args.pair c.requires.pair

pub decide_by-requires-clause-known : goal.decide_by-requires-clause-known
decide_by-requires-clause-known g c =
    let items = c.in_ok-push.ensures.items in
    rows_pushed g.P.Point.coords c.args.axis c.args.points.now.items c.deref.result.now c.args.p c.args.known.now (c.deref.ensures.value ∙ items)
    c.requires.known

pub reset-requires : goal.reset-requires
reset-requires g c =
    marked_again (length c.deref.result.now) c.args.axis (map g.P.Point.coords c.deref.result.now) c.mark-mark.result c.args.known.now c.decide_by.new.known
    c.mark-mark.ensures c.decide_by.ensures.grown

pub reset-requires-in-Err : goal.reset-requires-in-Err
reset-requires-in-Err g c =
    marked_again (length c.deref.result.now) c.args.axis (map g.P.Point.coords c.deref.result.now) c.mark-mark.result c.args.known.now c.decide_by.new.known
    c.mark-mark.ensures c.decide_by.ensures.grown

pub returns-in-Ok-Some-clause-extended : goal.returns-in-Ok-Some-clause-extended
returns-in-Ok-Some-clause-extended g c =
    let items = c.in_ok-push.ensures.items in
    flat_extended g.P.Point.coords g.P.Point.DIM c.args.axis c.args.points.now.items c.deref.result.now c.push.new.self.items c.args.p c.in-Ok-Some.field-0
    c.in-Ok-Some.held c.decide_by.new.why items c.deref.ensures.value c.in-Ok-Some.field-0-is c.in-Ok-Some.ensures.decided

pub returns-in-Ok-Some-clause-known : goal.returns-in-Ok-Some-clause-known
returns-in-Ok-Some-clause-known g c =
    rows_same g.P.Point.coords c.args.axis c.deref.result.now c.push.new.self.items c.decide_by.new.known c.decide_by.new.known (sym c.deref.ensures.value) refl
    c.decide_by.ensures.grown.rows

pub returns-in-Ok-None-clause-extended : goal.returns-in-Ok-None-clause-extended
returns-in-Ok-None-clause-extended g c =
    let items = c.in_ok-push.ensures.items in
    refused_extended g.P.Point.coords g.P.Point.DIM c.args.axis c.args.points.now.items c.deref.result.now c.truncate.new.self.items c.args.p
    c.in-Ok-None.field-0 c.decide_by.new.why
    (taken_back c.args.points.now.items c.push.new.self.items c.truncate.new.self.items c.args.p c.len-count.result items c.truncate.ensures.items
    (c.len-count.ensures ∙ c.args.points.now.ok.0)) (c.deref.ensures.value ∙ items) c.in-Ok-None.field-0-is c.in-Ok-None.ensures.decided

pub returns-in-Ok-None-clause-known : goal.returns-in-Ok-None-clause-known
returns-in-Ok-None-clause-known g c =
    let items = c.in_ok-push.ensures.items in
    rows_same g.P.Point.coords c.args.axis c.args.points.now.items c.truncate.new.self.items c.args.known.now c.reset.new.self
    (taken_back c.args.points.now.items c.push.new.self.items c.truncate.new.self.items c.args.p c.len-count.result items c.truncate.ensures.items
    (c.len-count.ensures ∙ c.args.points.now.ok.0))
    (c.reset.ensures ∙ rows_front (length c.deref.result.now) c.args.axis (map g.P.Point.coords c.deref.result.now) c.mark-mark.result c.args.known.now
    c.decide_by.new.known c.mark-mark.ensures c.decide_by.ensures.grown) c.requires.known

pub returns-in-Err-clause-extended : goal.returns-in-Err-clause-extended
returns-in-Err-clause-extended g c =
    let items = c.in_ok-push.ensures.items in
    taken_back c.args.points.now.items c.push.new.self.items c.truncate-in-Err.new.self.items c.args.p c.len-count.result items c.truncate-in-Err.ensures.items
    (c.len-count.ensures ∙ c.args.points.now.ok.0)

pub returns-in-Err-clause-known : goal.returns-in-Err-clause-known
returns-in-Err-clause-known g c =
    let items = c.in_ok-push.ensures.items in
    rows_same g.P.Point.coords c.args.axis c.args.points.now.items c.truncate-in-Err.new.self.items c.args.known.now c.reset-in-Err.new.self
    (taken_back c.args.points.now.items c.push.new.self.items c.truncate-in-Err.new.self.items c.args.p c.len-count.result items
    c.truncate-in-Err.ensures.items (c.len-count.ensures ∙ c.args.points.now.ok.0))
    (c.reset-in-Err.ensures ∙ rows_front (length c.deref.result.now) c.args.axis (map g.P.Point.coords c.deref.result.now) c.mark-mark.result
    c.args.known.now c.decide_by.new.known c.mark-mark.ensures c.decide_by.ensures.grown) c.requires.known

pub returns-in_err-push-clause-known : goal.returns-in_err-push-clause-known
returns-in_err-push-clause-known g c =
    rows_same g.P.Point.coords c.args.axis c.args.points.now.items c.push.new.self.items c.args.known.now c.args.known.now c.in_err-push.ensures.items refl
    c.requires.known

pub returns-in_err-push-clause-extended : goal.returns-in_err-push-clause-extended
returns-in_err-push-clause-extended g c =
    err_extended g.P.Point.coords g.P.Point.DIM c.args.axis c.args.points.now.items c.push.new.self.items c.args.p c.from_residual.result
    c.args.why.now c.from_residual.ensures.0 c.in_err-push.ensures.items
