use Rattle.std.proofs.Common.{refl}
use Rattle.shape_rules.specs.Names.{word_of}
use Rattle.shape_rules.proofs.Ruled.{rules_same, rule_there, others_same}
use Rattle.shape_analyse.proofs.TallyGrowth.{rule_at}
use Rattle.shape_analyse.proofs.findings.find.Goals as goal

pub returns-in_err-thinning-clause-kept : goal.returns-in_err-thinning-clause-kept
returns-in_err-thinning-clause-kept g c = rules_same _ c.args.shelf.now c.args.which c.rule.result.now c.thinned.new.rule c.rule.ensures.value
    c.thinned.ensures.same_rule

pub returns-in_err-outline-clause-kept : goal.returns-in_err-outline-clause-kept
returns-in_err-outline-clause-kept g c = rules_same _ c.args.shelf.now c.args.which c.rule.result.now c.thinned.new.rule c.rule.ensures.value
    c.thinned.ensures.same_rule

pub returns-clause-kept : goal.returns-clause-kept
returns-clause-kept g c = rules_same _ c.args.shelf.now c.args.which c.rule.result.now c.thinned.new.rule c.rule.ensures.value c.thinned.ensures.same_rule

pub returns-in_err-thinning-clause-others : goal.returns-in_err-thinning-clause-others
returns-in_err-thinning-clause-others g c = λ j other. others_same c.args.shelf.now c.args.which j c.thinned.new.rule other

pub returns-in_err-outline-clause-others : goal.returns-in_err-outline-clause-others
returns-in_err-outline-clause-others g c = λ j other. others_same c.args.shelf.now c.args.which j c.thinned.new.rule other

pub returns-clause-others : goal.returns-clause-others
returns-clause-others g c = λ j other. others_same c.args.shelf.now c.args.which j c.thinned.new.rule other

pub returns-clause-found : goal.returns-clause-found
returns-clause-found g c =
    let run = c.in_ok-thinning.ensures.thinning in
    record {
      about = refl;
      named = c.name-rule.ensures;
      by = _;
      on_shelf = rule_there _ c.args.shelf.now c.args.which c.rule.result.now (word_of c.name-rule.result) c.rule.ensures.value c.name-rule.ensures;
      entry = λ rule there. rule_at _ c.args.shelf.now c.args.which c.rule.result.now rule c.rule.ensures.value there;
      thinned = record { stage = _; thinning = run.1; left = refl };
    }

pub invariant_of-result : goal.invariant_of-result
invariant_of-result g c = record {
  counts = c.in_ok-counted.ensures;
  nears = c.in_ok-features.ensures.features;
  outline = c.in_ok-outline.ensures.text;
  extent = c.in_ok-outline.ensures.extent;
  kept = c.in_ok-thinning.ensures.kept;
}
