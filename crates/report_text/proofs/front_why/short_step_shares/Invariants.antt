use Rattle.std.proofs.Common.{◌*◌, ◌≤◌, length}
use Rattle.text_terms.specs.Weights.{step_share}
use Rattle.report_text.proofs.ShortLists.{AreListed}
use Rattle.report_text.proofs.front_why.short_step_shares.Given as goal

abbrev pub invariant-loop : goal.invariant-loop
invariant-loop l = record {
  listed : AreListed (step_share l.dim) l.bytes l.initial.end l.end (12 * l.counter) l.counter l.shares;
  order : l.counter ≤ l.len;
  inside : l.end ≤ length l.bytes;
}
