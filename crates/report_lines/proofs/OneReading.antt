-- A text is a report of one picture at most: its lines are known from it, and so is whether it is about a flat picture or a volume.
-- Laws of lines and texts; what the lines say does not matter here.
use Rattle.std.proofs.Common.{◌≡◌, ℕ, refl, sym, ap, ◌∙◌, subst, arith, List, [], ◌∷◌, ◌++◌, get_or}
use Rattle.std.proofs.lemmas.List.{append-nil, append_assoc}
use Rattle.std.proofs.lemmas.List.Elements.{recursion_from_All}
use Rattle.text_terms.specs.Reports.{BeginsWith}
use Rattle.text_terms.proofs.WordLists.{join_injective}
use Rattle.text_terms.proofs.Checking.{same_front}
use Rattle.report_terms.specs.Kinds.{split_words}
use Rattle.report_terms.specs.Lines.{Line, Heading, IsLineOf, line_words, spelling, split, text_of}
use Rattle.report_terms.proofs.Spelled.{are_spelled, same_words, words_of_line}
use Rattle.report_lines.specs.Reports.{Space, flat, solid, in_order, IsReport}
use Rattle.report_lines.specs.Headings.{IsAnyHeading}
use Rattle.report_lines.proofs.TextLines.{no_lf, one_list}
use Rattle.report_lines.proofs.Headings.{any_heading}

-- ---- the lines

whole_text : (s : Space) (text : List ℕ) (lines : List Line) → IsReport s text lines → text ≡ text_of lines
whole_text s text lines r = r.whole.split ∙ append-nil (text_of lines)

-- a text is that of one list of lines
pub one_reading : (s : Space) (text : List ℕ) (lines other : List Line) → IsReport s text lines → IsReport s text other → lines ≡ other
one_reading s text lines other r q =
    one_list s.axes lines other (recursion_from_All (IsLineOf s.axes) lines r.whole.fields) (recursion_from_All (IsLineOf s.axes) other q.whole.fields)
    (sym (whole_text s text lines r) ∙ whole_text s text other q)

-- ---- the space

-- the heading of a flat picture and that of a volume differ in the word for the kind of picture
headings_differ : (h k : Heading) → IsLineOf 2 (Line.Shape h) → IsLineOf 3 (Line.Shape k) → spelling (Line.Shape h) ≡ spelling (Line.Shape k) → ⊥
headings_differ h k a b e =
    let words = join_injective (line_words (Line.Shape h)) (line_words (Line.Shape k)) (words_of_line 2 (Line.Shape h) a) (words_of_line 3 (Line.Shape k) b) e
    in
    let same : split_words 2 (split (Line.Shape h)) ≡ split_words 3 (split (Line.Shape k)) = same_words 2 (Line.Shape h) a ∙ words
    ∙ sym (same_words 3 (Line.Shape k) b) in
    let letters = ap (λ ws. get_or (get_or ws 2 []) 0 0) same in
    omega (arith, letters)

first_differ : (l m : Line) → IsLineOf 2 l → IsLineOf 3 m → IsAnyHeading l → IsAnyHeading m → spelling l ≡ spelling m → ⊥
first_differ l m a b (h, e) (k, f) s =
    headings_differ h k (subst (IsLineOf 2) e a) (subst (IsLineOf 3) f b) (ap spelling (sym e) ∙ s ∙ ap spelling f)

-- no text begins with good lines of a flat picture and with good ones of a volume
pub one_space : (text : List ℕ) (l m : Line) (ls ms : List Line) (r s : List ℕ) → BeginsWith (in_order flat) text (l ∷ ls) r
    → BeginsWith (in_order solid) text (m ∷ ms) s → ⊥
one_space text l m ls ms r s b c =
    let first = append_assoc (spelling l ++ 10 ∷ []) (text_of ls) r ∙ append_assoc (spelling l) (10 ∷ []) (text_of ls ++ r) in
    let other = append_assoc (spelling m ++ 10 ∷ []) (text_of ms) s ∙ append_assoc (spelling m) (10 ∷ []) (text_of ms ++ s) in
    let fields = (recursion_from_All (IsLineOf 2) (l ∷ ls) b.fields).0 in
    let others = (recursion_from_All (IsLineOf 3) (m ∷ ms) c.fields).0 in
    let same = same_front (spelling l) (spelling m) (text_of ls ++ r) (text_of ms ++ s) (no_lf (spelling l) ((are_spelled 2).clean l fields))
    ((are_spelled 3).clean m others) (sym first ∙ sym b.split ∙ c.split ∙ other) in
    first_differ l m fields others (any_heading flat.greatest l ((b.good 0 l refl).heading refl))
    (any_heading solid.greatest m ((c.good 0 m refl).heading refl)) (sym same)

none_there : (front : List Line) → [] ≡ front ++ Line.End ∷ [] → ⊥
none_there [] e = cc
none_there (l ∷ front) e = cc

-- no text is both a report of a flat picture and one of a volume
pub never_of_both : (text : List ℕ) (lines other : List Line) → IsReport flat text lines → IsReport solid text other → ⊥
never_of_both text [] other r q = none_there r.ends.front r.ends.is
never_of_both text (l ∷ ls) [] r q = none_there q.ends.front q.ends.is
never_of_both text (l ∷ ls) (m ∷ ms) r q = one_space text l m ls ms [] [] r.whole q.whole
