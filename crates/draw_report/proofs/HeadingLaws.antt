-- Headings of further reports: of one line's bytes, and of the bytes that begin with it.
-- Laws of lines and texts; the program stands in none.
use Rattle.std.proofs.Common.{◌≡◌, ℕ, ap, sym, ◌∙◌, Bool, true, false, List, [], ◌∷◌, ◌++◌, Option, Some, None}
use Rattle.std.specs.Prelude.{◌↔◌, IsTrue}
use Rattle.std.proofs.lemmas.List.{append_assoc}
use Rattle.std.proofs.lemmas.List.Elements.{All-from_get_or, recursion_from_All}
use Rattle.shape_desk.specs.Desk.{IsEnd}
use Rattle.shape_desk.specs.Line.{HasNoLf, IfTold, IsTooLong, IsCutShort, TakesLine}
use Rattle.shape_terms.specs.Points.{Point}
use Rattle.text_terms.specs.Spellings.{IsSpelled}
use Rattle.text_terms.specs.Progress.{StartsWithLine, StartsWithNoLine}
use Rattle.text_terms.specs.Reports.{FirstBad}
use Rattle.text_terms.proofs.Checking.{begins_none, first_bad, same_front, no_line_at_end, no_line_without_lf, no_line_too_long}
use Rattle.report_text.proofs.Told.{if_told}
use Rattle.ball_terms.proofs.LineLaws.{spelled_balls}
use Rattle.piece_terms.proofs.LineLaws.{are_spelled}
use Rattle.edge_terms.proofs.LineLaws.{spelled_lines}
use Rattle.draw_report.specs.Parts.{Part, Standing, LineKind, Claim, in_order}
use Rattle.draw_report.specs.Kinds.{lines_of, IsNoFurther}
use Rattle.draw_report.specs.Headings.{IsHeadingLine, KindFound}
use Rattle.draw_report.specs.declared.kind.Kind.{Kind}
use Rattle.draw_report.specs.declared.kind.Kind.TheVariants as kind

-- ---- one line

-- what a test did not find is not there
pub not_so : {P : Type 0} (b : Bool) → b ≡ false → IsTrue b ↔ P → P → ⊥
not_so b f h p = let e : false ≡ true = sym f ∙ h.1 p in cc

pub none_found : (sides : Point) (bytes : List ℕ) → (IsHeadingLine (lines_of kind.Balls) sides bytes → ⊥)
    → (IsHeadingLine (lines_of kind.Pieces) sides bytes → ⊥) → (IsHeadingLine (lines_of kind.Edges) sides bytes → ⊥) → KindFound sides bytes None
none_found sides bytes b p e kind.Balls = b
none_found sides bytes b p e kind.Pieces = p
none_found sides bytes b p e kind.Edges = e

-- the spellings of each kind
pub kind_spelled : (k : Kind) → IsSpelled (lines_of k).text
kind_spelled kind.Balls = spelled_balls 2
kind_spelled kind.Pieces = are_spelled
kind_spelled kind.Edges = spelled_lines

-- ---- the bytes

none_there : {L : Type 0} (last : L) (front : List L) → [] ≡ front ++ last ∷ [] → ⊥
none_there last [] e = cc
none_there last (l ∷ front) e = cc

-- the bytes begin with no heading of a kind
LacksHeadings : Point → List ℕ → Type 0
LacksHeadings sides bytes = (k : Kind) (l : (lines_of k).Line) (rest : List ℕ) → StartsWithLine (lines_of k).text bytes l rest
    → (lines_of k).part l ≡ Part.Heading sides → ⊥

only_heading : (sides : Point) (p : Part) → Claim sides Standing.Opening p → p ≡ Part.Heading sides
only_heading sides (Part.Heading s) h = ap Part.Heading h
only_heading sides (Part.Gives m) h = absurd h
only_heading sides Part.Quiet h = absurd h
only_heading sides Part.End h = absurd h

first_is_bad : (sides : Point) (bytes : List ℕ) → LacksHeadings sides bytes → (k : Kind) → FirstBad (in_order (lines_of k) sides) bytes 1
unfolding LacksHeadings
first_is_bad sides bytes lacks k = first_bad (in_order (lines_of k) sides) (kind_spelled k) bytes [] bytes (begins_none (in_order (lines_of k) sides) bytes)
    (λ l rest s c. lacks k l rest s (only_heading sides ((lines_of k).part l) c)) (λ front e z. none_there (lines_of k).last front e)

no_further : (sides : Point) (bytes : List ℕ) → LacksHeadings sides bytes → IsNoFurther sides 1 bytes
no_further sides bytes lacks = record {
  kind = kind.Balls;
  bad = first_is_bad sides bytes lacks kind.Balls;
  any = λ e k. first_is_bad sides bytes lacks k;
}

-- no line is left
without_line : (sides : Point) (bytes : List ℕ) → ((k : Kind) → StartsWithNoLine (lines_of k).text bytes) → IsNoFurther sides 1 bytes
unfolding LacksHeadings
without_line sides bytes none = no_further sides bytes (λ k l rest s e. none k l rest s)

pub at_end : (sides : Point) (old : Option (List ℕ)) → IsEnd old → IfTold old (IsNoFurther sides 1)
at_end sides None h = tt
at_end sides (Some bytes) h = without_line sides bytes (λ k. no_line_at_end (lines_of k).text bytes h)

pub too_long : (sides : Point) (old : Option (List ℕ)) → IfTold old IsTooLong → IfTold old (IsNoFurther sides 1)
too_long sides old h = if_told old (λ bytes t. without_line sides bytes (λ k. no_line_too_long (lines_of k).text bytes t.long t.no_lf)) h

pub cut_short : (sides : Point) (old : Option (List ℕ)) → IfTold old IsCutShort → IfTold old (IsNoFurther sides 1)
cut_short sides old h = if_told old (λ bytes t. without_line sides bytes (λ k. no_line_without_lf (lines_of k).text bytes t.no_lf)) h

-- a line that the bytes begin with has the spelling of the first line
spelled_so : (K : LineKind) → IsSpelled K.text → (bytes line rest : List ℕ) (l : K.Line) (after : List ℕ) → bytes ≡ (line ++ 10 ∷ []) ++ rest → HasNoLf line
    → StartsWithLine K.text bytes l after → K.text.spelling l ≡ line
spelled_so K is bytes line rest l after e free s =
    same_front line (K.text.spelling l) rest after (recursion_from_All (λ c. c ≡ 10 → ⊥) line (All-from_get_or (λ c. c ≡ 10 → ⊥) line 0 (λ k h. free k h)))
    (is.clean l s.fields)
    (sym (e ∙ append_assoc line (10 ∷ []) rest) ∙ s.split)

-- a first line that is no heading
lacks : (sides : Point) (bytes line rest : List ℕ) → bytes ≡ (line ++ 10 ∷ []) ++ rest → HasNoLf line → KindFound sides line None → LacksHeadings sides bytes
unfolding LacksHeadings
lacks sides bytes line rest e free none =
    λ k l after s h. none k
    (record { line = l; fields = s.fields; spelled = spelled_so (lines_of k) (kind_spelled k) bytes line rest l after e free s; heading = h })

pub no_heading : (sides : Point) (old new : Option (List ℕ)) (line : List ℕ) (n : ℕ) → TakesLine old new line n → KindFound sides line None
    → IfTold old (IsNoFurther sides 1)
no_heading sides None new line n t none = tt
no_heading sides (Some bytes) None line n t none = let g = t.taken in cc
no_heading sides (Some bytes) (Some rest) line n t none =
    let g = t.taken in
    let e : bytes ≡ (line ++ 10 ∷ []) ++ rest = cc in
    no_further sides bytes (lacks sides bytes line rest e t.no_lf none)
