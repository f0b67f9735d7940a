-- When a text is a report that holds of a picture, and which of its lines is the first bad one.
-- Both are said for every kind of report in `text_terms`; here stands the analysis as one of them.
use Rattle.std.specs.Prelude.{◌≡◌, ℕ, List, ◌++◌}
use Rattle.text_terms.specs.Reports as Texts
use Rattle.report_terms.specs.Subjects.{Subject}
use Rattle.report_terms.specs.Lines.{Line, Heading, line_text}
use Rattle.report_terms.specs.Sections.{analysis}

-- the text begins with these lines, each spelled in at most 1024 bytes and good after those before it, and `rest` is what follows them
abbrev pub BeginsWith : Subject → (text : List ℕ) → List Line → (rest : List ℕ) → Type 0
BeginsWith X text lines rest = Texts.BeginsWith (analysis X) text lines rest

-- the first k lines of the text are good
abbrev pub LineIsGood : Subject → List ℕ → ℕ → Type 0
LineIsGood X text k = Texts.LineIsGood (analysis X) text k

-- the text is a report of the picture: good lines up to `end`, and nothing after it
abbrev pub Holds : Subject → List ℕ → Type 0
Holds X text = Texts.Holds (analysis X) text

-- the first line of the text names this rule
pub record GivesRule (text name : List ℕ) : Type 0 where
  pub heading : Heading
  pub rest : List ℕ
  pub is : text ≡ line_text (Line.Shape heading) ++ rest
  pub named : heading.rule ≡ name

-- the text is a report of the picture, by the rule with this name
pub record HoldsBy (X : Subject) (name text : List ℕ) : Type 0 where
  pub holds : Holds X text
  pub named : GivesRule text name

-- line k is the first that is missing, misspelt, too long, without LF or not good; or a byte follows `end`, which is line k - 1
abbrev pub FirstBad : Subject → List ℕ → ℕ → Type 0
FirstBad X text k = Texts.FirstBad (analysis X) text k
