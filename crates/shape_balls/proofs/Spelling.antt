-- The text of the lines that list balls, as it grows line by line.
-- Stated of texts and lists; what is spelled of a ball, its line says.
use Rattle.std.proofs.Common.{◌≡◌, ℕ, ◌+◌, ◌^◌, ◌<◌, ◌≤◌, refl, ap, sym, ◌∙◌, subst, arith, List, [], ◌∷◌, ◌++◌, length, map, take, get_or, append-nil, add-one}
use Rattle.std.proofs.Common.{pos}
use Rattle.std.specs.Prelude.{All}
use Rattle.std.proofs.Math.Seq.{take-length}
use Rattle.std.proofs.lemmas.Grind.{flat_map-append}
use Rattle.std.proofs.lemmas.List.{length-map, map-append, get_or-map}
use Rattle.std.proofs.lemmas.List.Elements.{All-append, All-cons, All-map, All-nil}
use Rattle.std.proofs.lemmas.Option.{slice_get_read}
use Rattle.shape_terms.specs.Points.{Point}
use Rattle.shape_terms.specs.Pictures.{Picture}
use Rattle.text_terms.specs.Spellings.{Spelled, line_text, text_of}
use Rattle.text_terms.specs.Fields.{point}
use Rattle.text_terms.specs.Reports.{Holds}
use Rattle.text_terms.proofs.ListPushes.{take_next}
use Rattle.ball_terms.specs.Balls.{Ball, AreBalls, AreUnion}
use Rattle.ball_terms.specs.Lines.{Line, spelled}
use Rattle.ball_terms.specs.Reports.{ball_report}
use Rattle.ball_terms.specs.Shows.{listing, ListsBalls}
use Rattle.ball_terms.proofs.BallUnion.{are_union}
use Rattle.ball_terms.proofs.HoldsShows.{listed_holds}

-- the first line, and these balls
abbrev pub lines_to : Point → ℕ → List Ball → List Line
lines_to sides number balls = Line.Balls sides number ∷ map (λ b. Line.Ball b) balls

text_more : (T : Spelled Line) (lines : List Line) (l : Line) → text_of T (lines ++ l ∷ []) ≡ text_of T lines ++ line_text T l
text_more T lines l = flat_map-append (line_text T) lines (l ∷ []) ∙ ap (λ t. text_of T lines ++ t) (append-nil (line_text T l))

module _ {A : Type 0} (T : Spelled Line) (v : A → Ball) (sides : Point) (number : ℕ) where
  pub first_text : [] ++ line_text T (Line.Balls sides number) ≡ text_of T (lines_to sides number [])
  first_text = sym (append-nil (line_text T (Line.Balls sides number)))

  pub next_text : (xs : List A) (i : ℕ) (x : A) (text : List ℕ) → i < length xs → x ≡ get_or xs i x
      → text ≡ text_of T (lines_to sides number (map v (take i xs)))
      → text ++ line_text T (Line.Ball (v x)) ≡ text_of T (lines_to sides number (map v (take (i + 1) xs)))
  next_text xs i x text l e t =
      ap (λ u. u ++ line_text T (Line.Ball (v x))) t ∙ sym (text_more T (lines_to sides number (map v (take i xs))) (Line.Ball (v x)))
      ∙ ap (λ bs. text_of T (Line.Balls sides number ∷ bs)) (sym (map-append (λ b. Line.Ball b) (map v (take i xs)) (v x ∷ [])))
      ∙ ap (λ bs. text_of T (lines_to sides number bs))
      (sym (map-append v (take i xs) (x ∷ []))
      ∙ ap (map v) (take_next xs i x (slice_get_read xs (length xs) i x refl l e) ∙ ap (λ k. take k xs) (sym (add-one i))))

  pub last_text : (xs : List A) (i : ℕ) (text : List ℕ) → number ≡ length xs → i ≡ length xs → text ≡ text_of T (lines_to sides number (map v (take i xs)))
      → text ++ line_text T Line.End ≡ text_of T (listing sides (map v xs))
  last_text xs i text n e t =
      ap (λ u. u ++ line_text T Line.End)
      (t ∙ ap (λ k. text_of T (lines_to sides number (map v (take k xs)))) e ∙ ap (λ ys. text_of T (lines_to sides number (map v ys))) (take-length xs))
      ∙ sym (text_more T (lines_to sides number (map v xs)) Line.End)
      ∙ ap (λ k. text_of T (lines_to sides k (map v xs) ++ Line.End ∷ [])) (n ∙ sym (length-map xs v))

-- ---- the report that is made

-- what the maker says of its report
pub record IsMade (X : Picture) (text : List ℕ) (balls : List Ball) : Type 0 where
  pub report : Holds (ball_report X) text
  pub lists : ListsBalls X.sides text balls
  pub union : AreUnion X balls

-- the sides and the balls fit their fields in reports of pictures with d axes, and the text is that of the lines that list them
pub record IsWritten (d : ℕ) (sides : Point) (text : List ℕ) (balls : List Ball) : Type 0 where
  pub axes_few : d ≤ 3
  pub sides_in : (point d).InRange sides
  pub balls_few : length balls < 2 ^ 32
  pub balls_in : All (λ b. (spelled d).IsLine (Line.Ball b)) balls
  pub text_is : text ≡ text_of (spelled d) (listing sides balls)

made_of : (X : Picture) (sides : Point) (text : List ℕ) (balls : List Ball) → sides ≡ map pos X.sides → AreBalls X balls
    → IsWritten (length X.sides) sides text balls → IsMade X text balls
made_of X sides text balls given are w = record {
  report = listed_holds X balls are w.axes_few text lists;
  lists = lists;
  union = are_union X balls are.each are.all;
}
  where
    lines : All (spelled (length X.sides)).IsLine (listing sides balls)
    lines = All-append (spelled (length X.sides)).IsLine (Line.Balls sides (length balls) ∷ map (λ b. Line.Ball b) balls) (Line.End ∷ [])
        (All-cons (spelled (length X.sides)).IsLine (Line.Balls sides (length balls)) (map (λ b. Line.Ball b) balls) (w.sides_in, w.balls_few)
        (All-map (spelled (length X.sides)).IsLine (λ b. Line.Ball b) balls w.balls_in))
        (All-cons (spelled (length X.sides)).IsLine Line.End [] tt (All-nil (spelled (length X.sides)).IsLine))

    lists : ListsBalls X.sides text balls
    lists = record {
      fields = subst (λ s. All (spelled (length X.sides)).IsLine (listing s balls)) given lines;
      text_is = w.text_is ∙ ap (λ s. text_of (spelled (length X.sides)) (listing s balls)) given;
    }

pub made : (X : Picture) (d : ℕ) (sides : Point) (text : List ℕ) (balls : List Ball) → length X.sides ≡ d → sides ≡ map pos X.sides → AreBalls X balls
    → IsWritten d sides text balls → IsMade X text balls
made X d sides text balls axes given are w = made_of X sides text balls given are (subst (λ d. IsWritten d sides text balls) (sym axes) w)

-- what holds of each entry as it is seen holds of each as seen
pub all_seen : {A B : Type 0} (f : A → B) (P : B → Type 0) (xs : List A) → All P (map f xs) → All (λ x. P (f x)) xs
all_seen f P xs h k d l = subst P (get_or-map f xs k d (f d) l) (h k (f d) (omega (arith, length-map xs f)))
