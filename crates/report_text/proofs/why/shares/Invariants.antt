use Rattle.std.proofs.Common.{◌≡◌, length}
use Rattle.text_terms.specs.Weights.{share}
use Rattle.report_text.proofs.FormReads.{HasRead}
use Rattle.report_text.proofs.why.shares.Given as goal

abbrev pub invariant-loop : goal.invariant-loop
invariant-loop l = record {
  read : HasRead share l.len l.counter l.initial.words l.words l.shares;
  count : length l.shares ≡ l.counter;
}
