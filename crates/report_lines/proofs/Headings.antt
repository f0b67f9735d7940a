-- What the first line of a text tells: a heading, or that the text has none.
-- Laws of lines, and of the bytes left where they are told.
use Rattle.std.proofs.Common.{◌≡◌, ℕ, ◌≤◌, refl, sym, ap, ◌∙◌, subst, arith, List, [], ◌∷◌, ◌++◌, length, Option, None, Some, IsSome}
use Rattle.std.specs.Prelude.{◌↔◌, ℤ, Result, Ok, Err, IfSome}
use Rattle.std.proofs.lemmas.List.{append_assoc}
use Rattle.std.proofs.lemmas.List.Elements.{All-from_get_or, recursion_from_All}
use Rattle.shape_desk.specs.Line.{HasNoLf, IfTold, IsTooLong, IsCutShort, TakesLine}
use Rattle.report_terms.specs.Lines.{Line, spelling, IsLineOf, spelled}
use Rattle.report_terms.specs.Progress.{StartsWithLine, StartsWithNoLine}
use Rattle.report_terms.proofs.Spelled.{spelling_injective, are_spelled}
use Rattle.text_terms.proofs.Checking.{same_front, no_line_without_lf, no_line_too_long}
use Rattle.shape_report.specs.declared.line.Line as ShapeReport
use Rattle.shape_report.specs.declared.line.Line.TheVariants.{Shape}
use Rattle.shape_report.specs.LineOf.{line_of}
use Rattle.report_lines.specs.Reports.{Space, flat, solid, IsHeading, IsOfVolume}
use Rattle.report_lines.specs.Seen.{flat_line, solid_line}
use Rattle.report_lines.specs.Headings.{Spells, IsAnyHeading, IsHeadingLine, HeadingOf, TakesHeading, LacksHeading, IsNoOpening}
use Rattle.report_lines.specs.Answers.{OpeningOf, OpeningAnswer}
use Rattle.report_lines.specs.declared.fault.ReportFault.{ReportFault}
use Rattle.report_lines.specs.declared.fault.ReportFault.TheVariants.{NotReport, ReadFault, NoMemory}
use Rattle.report_lines.specs.declared.opening.Opening.{Opening}
use Rattle.report_lines.specs.declared.opening.Opening.TheVariants.{Flat, Solid, NoBox}

-- ---- one line

-- a line with such a spelling that is no heading
pub no_heading_line : (s : Space) (bytes : List ℕ) (l : Line) → IsLineOf s.axes l → spelling l ≡ bytes → (IsHeading s.greatest l → ⊥)
    → Spells s.axes bytes (IsHeading s.greatest) → ⊥
no_heading_line s bytes l f e h = λ (m, g, d, i). h (subst (IsHeading s.greatest) (spelling_injective s.axes m l g f (d ∙ sym e)) i)

-- a line that is no `shape` line is no heading
pub no_heading : {P : Type 0} (greatest : ℤ) (coords : P → List ℤ) (l : ShapeReport.Line P)
    → ((number : _) (sides : P) (rule : _) → l ≡ Shape number sides rule → ⊥) → IsHeading greatest (line_of coords l) → ⊥
no_heading greatest coords (Shape number sides rule) none i = none number sides rule refl
no_heading greatest coords _ none i = i

-- a heading of a space of volumes is one
pub any_heading : (greatest : ℤ) (l : Line) → IsHeading greatest l → IsAnyHeading l
any_heading greatest (Line.Shape h) i = (h, refl)
any_heading greatest _ i = absurd i

-- ---- the bytes

-- a line that the bytes begin with has the spelling of the first line
spelled_so : (d : ℕ) (bytes line rest : List ℕ) (l : Line) (after : List ℕ) → bytes ≡ (line ++ 10 ∷ []) ++ rest → HasNoLf line → StartsWithLine d bytes l after
    → spelling l ≡ line
spelled_so d bytes line rest l after e free s =
    same_front line (spelling l) rest after (recursion_from_All (λ c. c ≡ 10 → ⊥) line (All-from_get_or (λ c. c ≡ 10 → ⊥) line 0 (λ k h. free k h)))
    ((are_spelled d).clean l s.fields)
    (sym (e ∙ append_assoc line (10 ∷ []) rest) ∙ s.split)

-- the bytes begin with a line that the first line spells
starts_so : (d : ℕ) (bytes line rest : List ℕ) (n : ℕ) (l : Line) → bytes ≡ (line ++ 10 ∷ []) ++ rest → length line ≡ n → n ≤ 1024 → IsLineOf d l
    → spelling l ≡ line → StartsWithLine d bytes l rest
starts_so d bytes line rest n l e len short f s = record {
  split = e ∙ append_assoc line (10 ∷ []) rest ∙ ap (λ w. w ++ 10 ∷ rest) (sym s);
  fields = f;
  short = rw s (omega (arith, len, short));
}

-- the bytes whose first line is a heading
taken_so : (s : Space) (bytes line rest : List ℕ) (n : ℕ) (l : Line) → bytes ≡ (line ++ 10 ∷ []) ++ rest → length line ≡ n → n ≤ 1024 → IsHeadingLine s line l
    → TakesHeading s bytes (Some rest) l
taken_so s bytes line rest n l e len short h = record {
  takes = record { rest = rest; left = refl; starts = starts_so s.axes bytes line rest n l e len short h.0 h.1 };
  heading = h.2;
}

-- the bytes whose first line is none
lacks_so : (s : Space) (bytes line rest : List ℕ) → bytes ≡ (line ++ 10 ∷ []) ++ rest → HasNoLf line → (Spells s.axes line (IsHeading s.greatest) → ⊥)
    → LacksHeading s bytes
lacks_so s bytes line rest e free none = λ l after t i. none (l, t.fields, spelled_so s.axes bytes line rest l after e free t, i)

-- the bytes whose first line is the heading of a volume, and those whose first line is not
volume_so : (bytes line rest : List ℕ) (n : ℕ) → bytes ≡ (line ++ 10 ∷ []) ++ rest → length line ≡ n → n ≤ 1024 → Spells 3 line IsAnyHeading → IsOfVolume bytes
volume_so bytes line rest n e len short h =
    let v = h.3 in
    (v.0, rest, subst (λ l. StartsWithLine 3 bytes l rest) v.1 (starts_so 3 bytes line rest n h.0 e len short h.1 h.2))

not_volume_so : (bytes line rest : List ℕ) → bytes ≡ (line ++ 10 ∷ []) ++ rest → HasNoLf line → (Spells 3 line IsAnyHeading → ⊥) → IsOfVolume bytes → ⊥
not_volume_so bytes line rest e free none =
    λ (k, after, t). none (Line.Shape k, t.fields, spelled_so 3 bytes line rest (Line.Shape k) after e free t, (k, refl))

-- what the bytes of a line are, where its line was found
pub heading_found : {H P : Type 0} (s : Space) (inner : H → P) (see : P → Line) (bytes : List ℕ) (q : P) (o : Option H) → IsLineOf s.axes (see q)
    → spelling (see q) ≡ bytes → IsSome o ↔ IsHeading s.greatest (see q) → IfSome o (λ h. inner h ≡ q)
    → HeadingOf s (λ h. see (inner h)) bytes o
heading_found s inner see bytes q None f e exactly same = no_heading_line s bytes (see q) f e (λ i. let z = exactly.1 i in cc)
heading_found s inner see bytes q (Some h) f e exactly same = (
  subst (λ x. IsLineOf s.axes (see x)) (sym same) f,
  ap (λ x. spelling (see x)) same
      ∙ e,
  subst (λ x. IsHeading s.greatest (see x)) (sym same) (exactly.0 refl),
)

-- ---- the opening

-- what the first line tells of the bytes
pub opening_taken : (old new : Option (List ℕ)) (line : List ℕ) (n before now : ℕ) (r : Result Opening ReportFault) → TakesLine old new line n
    → OpeningOf line r → OpeningAnswer old new before now r
opening_taken None new line n before now (Ok (Flat h)) t k = tt
opening_taken None new line n before now (Ok (Solid h)) t k = tt
opening_taken None new line n before now (Ok NoBox) t k = tt
opening_taken None new line n before now (Err (NotReport j)) t k = (k.0, tt)
opening_taken old new line n before now (Err ReadFault) t k = absurd k
opening_taken old new line n before now (Err NoMemory) t k = absurd k
opening_taken (Some bytes) None line n before now (Ok (Flat h)) t k = let g = t.taken in cc
opening_taken (Some bytes) None line n before now (Ok (Solid h)) t k = let g = t.taken in cc
opening_taken (Some bytes) None line n before now (Ok NoBox) t k = let g = t.taken in cc
opening_taken (Some bytes) None line n before now (Err (NotReport j)) t k = let g = t.taken in cc
opening_taken (Some bytes) (Some rest) line n before now (Ok (Flat h)) t k =
    let g = t.taken in
    let e : bytes ≡ (line ++ 10 ∷ []) ++ rest = cc in
    taken_so flat bytes line rest n (flat_line h.line) e t.len t.short k
opening_taken (Some bytes) (Some rest) line n before now (Ok (Solid h)) t k =
    let g = t.taken in
    let e : bytes ≡ (line ++ 10 ∷ []) ++ rest = cc in
    taken_so solid bytes line rest n (solid_line h.line) e t.len t.short k
opening_taken (Some bytes) (Some rest) line n before now (Ok NoBox) t k =
    let g = t.taken in
    let e : bytes ≡ (line ++ 10 ∷ []) ++ rest = cc in
    record {
      volume = volume_so bytes line rest n e t.len t.short k.volume;
      flat = lacks_so flat bytes line rest e t.no_lf k.flat;
      solid = lacks_so solid bytes line rest e t.no_lf k.no_box;
    }
opening_taken (Some bytes) (Some rest) line n before now (Err (NotReport j)) t k =
    let g = t.taken in
    let e : bytes ≡ (line ++ 10 ∷ []) ++ rest = cc in (
      k.0,
      record {
        flat = lacks_so flat bytes line rest e t.no_lf k.1.flat;
        volume = not_volume_so bytes line rest e t.no_lf k.1.solid;
      },
    )

-- ---- no line

no_opening : (bytes : List ℕ) → ((d : ℕ) → StartsWithNoLine d bytes) → IsNoOpening bytes
no_opening bytes none = record {
  flat = λ l rest s i. none 2 l rest s;
  volume = λ (h, rest, s). none 3 (Line.Shape h) rest s;
}

pub first_too_long : (old : Option (List ℕ)) → IfTold old IsTooLong → IfTold old IsNoOpening
first_too_long None h = tt
first_too_long (Some bytes) h = no_opening bytes (λ d. no_line_too_long (spelled d) bytes h.long h.no_lf)

pub first_cut_short : (old : Option (List ℕ)) → IfTold old IsCutShort → IfTold old IsNoOpening
first_cut_short None h = tt
first_cut_short (Some bytes) h = no_opening bytes (λ d. no_line_without_lf (spelled d) bytes h.no_lf)
