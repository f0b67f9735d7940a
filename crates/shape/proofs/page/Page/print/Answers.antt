use Rattle.std.proofs.Common.{◌≡◌, List, ℕ, true, false, ap, subst, ◌∙◌}
use Rattle.std.specs.Prelude.{is_ok}
use Rattle.shape_desk.specs.Desk.{WritesText}
use Rattle.shape.proofs.page.Page.print.Goals as goal

pub returns-in-Ok-clause-printed : goal.returns-in-Ok-clause-printed
returns-in-Ok-clause-printed g c =
    let old = g.D.Desk.state c.args.desk.now in
    let new = g.D.Desk.state c.put_all.new.desk in
    record {
      result = c.put_all.result;
      wrote = subst (λ (t : List ℕ). WritesText t old new c.put_all.result) (c.as_bytes.ensures.value ∙ c.text.ensures) c.put_all.ensures;
      done = λ _. c.of_command.ensures;
      failed = λ f. absurd (let e : is_ok c.put_all.result ≡ true = ap is_ok c.in-Ok.is in cc);
    }

pub returns-in-Err-clause-printed : goal.returns-in-Err-clause-printed
returns-in-Err-clause-printed g c =
    let old = g.D.Desk.state c.args.desk.now in
    let new = g.D.Desk.state c.put_all.new.desk in
    record {
      result = c.put_all.result;
      wrote = subst (λ (t : List ℕ). WritesText t old new c.put_all.result) (c.as_bytes.ensures.value ∙ c.text.ensures) c.put_all.ensures;
      done = λ t. absurd (let e : is_ok c.put_all.result ≡ false = ap is_ok c.in-Err.is in cc);
      failed = λ _. c.of_command-in-Err.ensures;
    }
