-- What reading the words of a line answers: what its form reads.
-- One field is told in `report_text`; here stand a line's fields and a whole line, each answer for both outcomes.
use Rattle.std.specs.Prelude.{◌≡◌, ℕ, ℤ, pos, List, [], ◌∷◌, drop, Option, None, Some}
use Rattle.text_terms.specs.Tables.{all_read, read_kind, read_fields, read_line}
use Rattle.report_terms.specs.Kinds.{Kind, Split, first_word, table}
use Rattle.report_terms.specs.Lines.{split}
use Rattle.shape_report.specs.declared.line.Line.{Line}
use Rattle.shape_report.specs.declared.line.Line.TheVariants.{Seg}
use Rattle.shape_report.specs.declared.read.Frequent.{Frequent}
use Rattle.shape_report.specs.declared.read.Frequent.TheVariants.{Near, At, On, Del, Other}
use Rattle.shape_report.specs.LineOf.{line_of}

-- a line of the plane has 0 for its third coefficient
abbrev pub HasNoThird : {P : Type 0} → Line P → Type 0
HasNoThird (Seg b e n) = drop 2 n.a ≡ pos 0 ∷ []
HasNoThird _ = Unit {0}

-- the word is the first one of a line of this kind, where the kind is told
abbrev pub IsFrequent : List ℕ → Frequent → Type 0
IsFrequent word Near = word ≡ first_word Kind.Near
IsFrequent word At = word ≡ first_word Kind.At
IsFrequent word On = word ≡ first_word Kind.On
IsFrequent word Del = word ≡ first_word Kind.Del
IsFrequent word Other = Unit {0}

-- the kinds before `face`
abbrev pub earlier : List Kind
earlier = Kind.Shape ∷ Kind.Parts ∷ Kind.Near ∷ Kind.Contour ∷ Kind.At ∷ Kind.Seg ∷ Kind.Least ∷ Kind.Turn ∷ Kind.Cut ∷ []

-- and those from it on
abbrev pub later : List Kind
later = Kind.Face ∷ Kind.Patch ∷ Kind.On ∷ Kind.Off ∷ Kind.Del ∷ Kind.Tip ∷ Kind.Kept ∷ Kind.End ∷ []

-- what reading the fields of a kind of line answers, where they are all words that are left
abbrev pub ReadsKind : {P : Type 0} → ℕ → (P → List ℤ) → Kind → (words : List (List ℕ)) → Option (Line P) → Type 0
ReadsKind d coords k words None = all_read (read_kind (table d) k words) ≡ None
ReadsKind d coords k words (Some l) = (read_kind (table d) k words ≡ Some (split (line_of coords l), [])) × HasNoThird l

-- what reading the words behind a first one answers
abbrev pub ReadsFields : {P : Type 0} → ℕ → (P → List ℤ) → List ℕ → (words : List (List ℕ)) → Option (Line P) → Type 0
ReadsFields d coords word words None = all_read (read_fields (table d) word words) ≡ None
ReadsFields d coords word words (Some l) = (read_fields (table d) word words ≡ Some (split (line_of coords l), [])) × HasNoThird l

-- whether no word is left: where some are, no value that was read before them is the whole line
abbrev pub ReadsEnd : (words : List (List ℕ)) → Option (Unit {0}) → Type 0
ReadsEnd words None = (s : Split) → all_read (Some (s, words)) ≡ None
ReadsEnd words (Some _) = words ≡ []

-- what reading a line answers
abbrev pub ReadsLine : {P : Type 0} → ℕ → (P → List ℤ) → List (List ℕ) → Option (Line P) → Type 0
ReadsLine d coords words None = read_line (table d) words ≡ None
ReadsLine d coords words (Some l) = (read_line (table d) words ≡ Some (split (line_of coords l))) × HasNoThird l
