use Rattle.std.proofs.Common.{◌∙◌}
use Rattle.shape_cli.specs.declared.outcome.Outcome.TheVariants.{Done}
use Rattle.shape_cli.proofs.trial.try_seed.Goals as goal

pub returns-in-Ok-put_all-clause-ran : goal.returns-in-Ok-put_all-clause-ran
returns-in-Ok-put_all-clause-ran g c =
    record {
      text = c.as_bytes.result.now;
      right = (c.in-Ok.tally, c.in-Ok.ensures, c.as_bytes.ensures.value ∙ c.in-Ok-line_of.ensures);
      puts =
          c.in-Ok-put_all.ensures.text.ok;
      taken = c.put_all.ensures.only.same_left;
    }

pub returns-clause-ran : goal.returns-clause-ran
returns-clause-ran g c =
    record {
      outcome = Done;
      text = c.as_bytes.result.now;
      right = (c.in-Ok.tally, c.in-Ok.ensures, c.as_bytes.ensures.value ∙ c.in-Ok-line_of.ensures);
      puts =
          c.in-Err-put_all.ensures.text.err;
      cause = c.in-Err-put_all.ensures.failed;
      taken = c.put_all.ensures.only.same_left;
    }
