use Rattle.std.proofs.Common.{ap, sym, ◌∙◌, ◌<◌, ◌-◌, length, arith, subst}
use Rattle.std.proofs.lemmas.List.{length-map, get_or-map, map-set}
use Rattle.bordering.specs.Told.{bounds_told, all_bounds, border_told}
use Rattle.bordering.specs.OneMore.{no_bounds, bounds_with, HasRoom, HasOneMore}
use Rattle.bordering.proofs.Counting.{one_put}
use Rattle.bordering.proofs.objects.add_border.Goals as goal

pub with-requires : goal.with-requires
with-requires c =
    let all = c.args.all.now in
    let i = c.args.label - 1 in
    let within : i < length all = omega arith in
    let within' : i < length (all_bounds all) = omega (arith, length-map all bounds_told) in
    subst HasRoom (get_or-map bounds_told all i c.index-all-i.result no_bounds within ∙ ap bounds_told (sym c.index-all-i.is)) (c.requires i within')

pub returns : goal.returns
returns c =
    let all = c.args.all.now in
    let i = c.args.label - 1 in
    let b = border_told c.args.b in
    let within : i < length all = omega arith in
    let within' : i < length (all_bounds all) = omega (arith, length-map all bounds_told) in
    let read = sym (get_or-map bounds_told all i c.index-all-i.result no_bounds within ∙ ap bounds_told (sym c.index-all-i.is)) in
    let put = c.with.ensures ∙ ap (λ x. bounds_with x b) read in
    subst (HasOneMore c.args.label b (all_bounds all)) (sym (map-set bounds_told all i c.with.result))
    (one_put c.args.label i b (all_bounds all) (bounds_told c.with.result) (omega arith) within' put)
