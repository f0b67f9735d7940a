use Rattle.std.proofs.Common.{◌<◌, length, slice_get, refl, ap, sym, subst, ◌∙◌, arith}
use Rattle.std.proofs.lemmas.List.{length-map}
use Rattle.shape_terms.specs.Shelves.{AreNames, names_of, rules_of}
use Rattle.shape_rules.specs.Lending.{with_rule}
use Rattle.shape_rules.specs.Entries.{named}
use Rattle.shape_rules.proofs.Entries.{found_at, rule_set, names_kept}
use Rattle.shape_rules.proofs.shelf.Shelf.rule.Goals as goal

pub invariant_of-self-lent : goal.invariant_of-self-lent
invariant_of-self-lent g c = λ w.
    let es = c.self.inside.entries.items in
    let is = rule_set es c.args.i c.index_mut.result.now w c.index_mut.ensures.value in
    subst AreNames (sym (ap names_of is ∙ names_kept _ c.args.i w)) c.self.invariant

pub returns : goal.returns
returns g c =
    let es = c.self.inside.entries.items in
    let within : c.args.i < length es = omega (arith, ap length c.self.view_is, length-map es named) in (
      (refl, λ w. rule_set es c.args.i c.index_mut.result.now w c.index_mut.ensures.value ∙ ap (λ s. with_rule s c.args.i w) c.self.view_is),
      record {
        writes_back = tt;
        value = ap (λ s. slice_get (rules_of s) c.args.i) (sym c.self.view_is) ∙ found_at (λ e. e.rule) named es c.args.i c.index_mut.result.now within
            c.index_mut.ensures.value;
      },
    )
