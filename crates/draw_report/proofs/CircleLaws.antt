-- The balls among marks, with one more mark.
-- Laws of lists alone.
use Rattle.std.proofs.Common.{◌≡◌, ℕ, ◌+◌, ◌<◌, ap, sym, ◌∙◌, List, [], ◌∷◌, ◌++◌, length, get_or, take}
use Rattle.std.specs.Prelude.{filter, filter_map, flat_map}
use Rattle.std.proofs.lemmas.List.{append-nil, map-append, take_more}
use Rattle.std.proofs.lemmas.List.Elements.{filter-append, filter_map-append}
use Rattle.std.proofs.lemmas.Grind.{flat_map-append}
use Rattle.shape_terms.specs.Points.{in_box}
use Rattle.draw_report.specs.Parts.{Mark}
use Rattle.draw_report.specs.Circles.{Ball, ball_in, balls_in}
use Rattle.draw_report.specs.Seen.{mark_of, all_marks, ball_of, all_balls}
use Rattle.draw_report.specs.declared.part.Mark as Program
use Rattle.draw_report.specs.declared.balls.Ball as ProgramBall

balls_push : (sides : List ℕ) (ms ns : List Mark) → balls_in sides (ms ++ ns) ≡ balls_in sides ms ++ balls_in sides ns
balls_push sides ms ns =
    ap (filter (λ (b : Ball). in_box sides b.centre)) (filter_map-append ball_in ms ns)
    ∙ filter-append (λ (b : Ball). in_box sides b.centre) (filter_map ball_in ms) (filter_map ball_in ns)

pub balls_more : (sides : List ℕ) (ms : List Program.Mark) (i : ℕ) (d : Program.Mark) (before now : List Ball) → i < length ms
    → before ≡ balls_in sides (all_marks (take i ms)) → now ≡ before ++ balls_in sides (mark_of (get_or ms i d) ∷ [])
    → now ≡ balls_in sides (all_marks (take (i + 1) ms))
balls_more sides ms i d before now l b n =
    n ∙ ap (λ t. t ++ balls_in sides (mark_of (get_or ms i d) ∷ [])) b
    ∙ sym (ap (λ t. balls_in sides (all_marks t)) (take_more ms i d l) ∙ ap (balls_in sides) (map-append mark_of (take i ms) (get_or ms i d ∷ []))
    ∙ balls_push sides (all_marks (take i ms)) (mark_of (get_or ms i d) ∷ []))

-- the text of one ball more
pub texts_more : (f : Ball → List ℕ) (bs : List ProgramBall.Ball) (i : ℕ) (d : ProgramBall.Ball) → i < length bs
    → flat_map f (all_balls (take (i + 1) bs)) ≡ flat_map f (all_balls (take i bs)) ++ f (ball_of (get_or bs i d))
texts_more f bs i d l =
    ap (λ t. flat_map f (all_balls t)) (take_more bs i d l) ∙ ap (flat_map f) (map-append ball_of (take i bs) (get_or bs i d ∷ []))
    ∙ flat_map-append f (all_balls (take i bs)) (ball_of (get_or bs i d) ∷ [])
    ∙ ap (λ t. flat_map f (all_balls (take i bs)) ++ t) (append-nil (f (ball_of (get_or bs i d))))
