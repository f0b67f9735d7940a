-- Judges in a row, one for each section: which lines a row stands for.
-- What a judge stands for is handed in; a further section is one more judge in the row.
use Rattle.std.specs.Prelude.{◌≡◌, ◌≤◌, ℕ, suc, Bool, true, false, List, [], length}
use Rattle.shape_terms.specs.Thinning.{Rule}
use Rattle.text_terms.specs.Reports.{EndsWith}
use Rattle.report_terms.specs.Lines.{Line}
use Rattle.report_terms.specs.Subjects.{Subject}
use Rattle.report_terms.specs.Sections.{Section, rank, section_of, lines_of, number_of, HasCome, GoodAfter, NamesRule}

-- the second section comes right behind the first
abbrev pub IsNext : Section → Section → Type 0
IsNext s t = rank t ≡ suc (rank s)

-- the heading has this number, and names this rule on the shelf and no other
pub record IsRuledBy (X : Subject) (heading : List Line) (number : ℕ) (rule : Rule) : Type 0 where
  pub numbered : number_of heading ≡ number
  pub names : NamesRule X.shelf heading rule
  pub alone : (other : Rule) → NamesRule X.shelf heading other → other ≡ rule

-- the line, where it is good, is of the section or a later one
abbrev pub MayCome : Subject → Section → List Line → Line → Type 0
MayCome X s lines l = GoodAfter X lines l → rank s ≤ rank (section_of l)

-- each line that is good next is of the section or a later one
pub record HasReached (X : Subject) (s : Section) (lines : List Line) : Type 0 where
  pub next : (l : Line) → MayCome X s lines l

-- the lines have come to the section, and its judge stands for those of it
pub record IsAt (X : Subject) (s : Section) (Stands : List Line → Type 0) (lines : List Line) : Type 0 where
  pub come : HasCome X s lines
  pub stands : Stands (lines_of s lines)

-- a judge of the section s stands for these lines of it and the rest of the row waits; or the section is past, and the rest, from the section t on, stands for
-- all lines
abbrev pub RowFollows : Subject → (s t : Section) → (is_past : Bool) → (Stands : List Line → Type 0) → (Waits : Type 0) → (Rest : List Line → Type 0)
    → List Line → Type 0
RowFollows X s t false Stands Waits Rest lines = IsAt X s Stands lines × Waits
RowFollows X s t true Stands Waits Rest lines = HasReached X t lines × Rest lines

-- the last of the lines is `end`
abbrev pub HasEnded : List Line → Type 0
HasEnded lines = EndsWith Line.End lines

-- the lines have come to the end, and the last line was not taken yet; or it was
abbrev pub EndFollows : Subject → (ended : Bool) → List Line → Type 0
EndFollows X false lines = HasCome X Section.End lines × (lines_of Section.End lines ≡ [])
EndFollows X true lines = HasEnded lines

-- a judge of a section of one line took none, or took it
abbrev pub HasTaken : {A : Type 0} → (taken : Bool) → List A → Type 0
HasTaken false lines = lines ≡ []
HasTaken true lines = length lines ≡ 1
