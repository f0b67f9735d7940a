-- The text that a line's words are put together to, one after another.
-- It is that of every table, for the kinds of these reports.
use Rattle.std.specs.Prelude.{ℕ, List}
use Rattle.report_text.specs.Spelling as Texts
use Rattle.report_terms.specs.Kinds.{Kind, Fields, Split, table}

-- the text of a line of a kind
abbrev pub kind_text : ℕ → (k : Kind) → Fields k → List ℕ
kind_text d k x = Texts.kind_text (table d) k x

abbrev pub split_text : ℕ → Split → List ℕ
split_text d s = Texts.split_text (table d) s
