-- What comes next in a report that is read line by line.
-- It is said for every kind of report in `report_text`; here for the lines of pictures with d axes.
use Rattle.std.specs.Prelude.{ℕ, List, Option}
use Rattle.report_text.specs.Next as Texts
use Rattle.report_terms.specs.Lines.{Line, spelled}

-- the line was taken from the front of the bytes, and the rest is left now
abbrev pub TakesClaim : ℕ → (bytes : List ℕ) → (new : Option (List ℕ)) → Line → Type 0
TakesClaim d bytes new l = Texts.TakesClaim (spelled d) bytes new l

-- bytes are left, and they begin with no line
abbrev pub IsBad : ℕ → List ℕ → Type 0
IsBad d bytes = Texts.IsBad (spelled d) bytes
