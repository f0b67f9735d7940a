use Rattle.std.proofs.Common.{◌≡◌, ◌≤◌, ◌+◌, ◌*◌, ◌++◌, ◌∷◌, length, take}
use Rattle.std.specs.Prelude.{flat_map}
use Rattle.std.specs.Fmt.{decimal}
use Rattle.text_terms.specs.Weights.{step_share}
use Rattle.report_text.specs.Spelling.{behind_blanks}
use Rattle.report_text.proofs.put_weights.put_step_shares.Given as goal

abbrev pub invariant-loop-i : goal.invariant-loop-i
invariant-loop-i l = record {
  text : l.text ≡ l.fn.text ++ behind_blanks (decimal (length l.shares) ∷ flat_map (step_share 3).words (take l.i l.shares));
  room : length l.text ≤ length l.fn.text + 21 + 42 * l.i;
}
