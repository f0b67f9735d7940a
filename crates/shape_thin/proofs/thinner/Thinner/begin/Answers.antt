use Rattle.std.proofs.Common.{[], ◌∙◌}
use Rattle.std.proofs.lemmas.Grind.{merely}
use Rattle.shape_thin.proofs.ThinnerSteps.{started, started_thins}
use Rattle.shape_thin.proofs.thinner.Thinner.begin.Goals as goal

pub advance-requires : goal.advance-requires
advance-requires g c = merely (record {
  opening = c.args.grid.now;
  marked = [];
  state = [];
  front = started (c.in_ok-left.ensures ∙ c.in_ok-copy.ensures) c.in_ok-front.ensures.front [];
})

pub invariant_of-result : goal.invariant_of-result
invariant_of-result g c = record {
  fits = merely (record {
    some = record {
      opening = c.args.grid.now;
      marked = [];
      state = [];
      front = c.advance.ensures.front c.args.grid.now [] [] (started (c.in_ok-left.ensures ∙ c.in_ok-copy.ensures) c.in_ok-front.ensures.front []);
    };
    done = c.advance.ensures.done;
  });
}

pub returns-clause-stands : goal.returns-clause-stands
returns-clause-stands g c = λ by. record {
  marked = [];
  front = c.advance.ensures.front c.args.grid.now [] by.opening (started (c.in_ok-left.ensures ∙ c.in_ok-copy.ensures) c.in_ok-front.ensures.front by.opening);
  thins = started_thins by (c.in_ok-left.ensures ∙ c.in_ok-copy.ensures);
}
