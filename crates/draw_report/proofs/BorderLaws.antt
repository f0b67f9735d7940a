-- The strokes of borders, gone through mark by mark.
-- Laws of lists alone.
use Rattle.std.proofs.Common.{◌≡◌, ℕ, zero, suc, ◌+◌, ◌<◌, refl, ap, sym, ◌∙◌, arith, Bool, true, List, [], ◌∷◌, ◌++◌, length, get_or, drop, drop-cons}
use Rattle.std.proofs.Common.{append_assoc}
use Rattle.std.specs.Prelude.{not, slice_index_or}
use Rattle.std.specs.Option.{option_to_list}
use Rattle.shape_terms.specs.Points.{Point}
use Rattle.shape_terms.specs.Covers.{Stretch}
use Rattle.drawing.specs.Outlines.{stroke_of, strokes_along}
use Rattle.draw_report.specs.Parts.{Mark}
use Rattle.draw_report.specs.Borders.{leading, borders, strokes_over}
use Rattle.draw_report.specs.Going.{path_before, strokes_from}
use Rattle.draw_report.specs.Seen.{mark_of, all_marks}
use Rattle.draw_report.specs.declared.part.Mark as Program

-- a path without points has no strokes
along_none : (even : Bool) (ss : List Stretch) → strokes_along [] even ss ≡ []
along_none even [] = refl
along_none even (s ∷ ss) = along_none (not even) ss

over_none : (paths : List (List Point)) → strokes_over paths [] ≡ []
over_none [] = refl
over_none (p ∷ paths) = refl

-- the next border begins
over_next : (paths : List (List Point)) (n : ℕ) (ss : List Stretch) (more : List (List Stretch))
    → strokes_over (drop n paths) (ss ∷ more) ≡ strokes_along (slice_index_or paths n []) true ss ++ strokes_over (drop (suc n) paths) more
over_next [] zero ss more = sym (ap (λ t. t ++ strokes_over [] more) (along_none true ss))
over_next [] (suc n) ss more = sym (ap (λ t. t ++ strokes_over [] more) (along_none true ss))
over_next (p ∷ paths) zero ss more = refl
over_next (p ∷ paths) (suc n) ss more = over_next paths n ss more

-- what is still to come is the rest of the last border, and the others
still : (paths : List (List Point)) (n : ℕ) (even : Bool) (marks : List Mark)
    → strokes_from paths n even marks ≡ strokes_along (path_before paths n) even (leading marks) ++ strokes_over (drop n paths) (borders marks)
still paths n even [] = sym (over_none (drop n paths))
still paths n even (Mark.Border ∷ marks) = still paths (suc n) true marks ∙ sym (over_next paths n (leading marks) (borders marks))
still paths n even (Mark.Along s ∷ marks) =
    let first = option_to_list (stroke_of (path_before paths n) even s) in
    ap (λ t. first ++ t) (still paths n (not even) marks)
    ∙ sym (append_assoc first (strokes_along (path_before paths n) (not even) (leading marks)) (strokes_over (drop n paths) (borders marks)))
still paths n even (Mark.Ball p r ∷ marks) = still paths n even marks

-- from the first mark on, that is all
pub all_strokes_over : (paths : List (List Point)) (marks : List Mark) → strokes_from paths zero true marks ≡ strokes_over paths (borders marks)
all_strokes_over paths marks = still paths zero true marks ∙ ap (λ t. t ++ strokes_over paths (borders marks)) (along_none true (leading marks))

-- the marks from a place on
pub marks_more : (ms : List Program.Mark) (i : ℕ) (d : Program.Mark) → i < length ms
    → all_marks (drop i ms) ≡ mark_of (get_or ms i d) ∷ all_marks (drop (i + 1) ms)
marks_more ms i d l =
    let next : suc i ≡ i + 1 = omega arith in
    ap all_marks (drop-cons ms i d l) ∙ ap (λ j. mark_of (get_or ms i d) ∷ all_marks (drop j ms)) next
