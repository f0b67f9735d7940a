use Rattle.std.proofs.Common.{◌≡◌, length}
use Rattle.text_terms.specs.Weights.{step_share}
use Rattle.report_text.proofs.FormReads.{HasRead}
use Rattle.report_text.proofs.why.step_shares.Given as goal

abbrev pub invariant-loop : goal.invariant-loop
invariant-loop l = record {
  read : HasRead (step_share l.dim) l.len l.counter l.initial.words l.words l.shares;
  count : length l.shares ≡ l.counter;
}
