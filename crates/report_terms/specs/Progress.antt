-- The next line of a text that is gone through line by line.
-- What a whole text says stands in `Holds`, and when a line is good in `Sections`.
use Rattle.std.specs.Prelude.{ℕ, List}
use Rattle.text_terms.specs.Progress as Texts
use Rattle.report_terms.specs.Lines.{Line, spelled}

-- the bytes begin with this line of the reports of pictures with d axes, spelled in at most 1024 bytes, and its LF; `rest` is what follows
abbrev pub StartsWithLine : ℕ → (bytes : List ℕ) → Line → (rest : List ℕ) → Type 0
StartsWithLine d bytes l rest = Texts.StartsWithLine (spelled d) bytes l rest

-- the bytes begin with no line
abbrev pub StartsWithNoLine : ℕ → List ℕ → Type 0
StartsWithNoLine d bytes = Texts.StartsWithNoLine (spelled d) bytes
