-- A text is a ball report of a picture exactly where it lists balls whose claims are true and that cover the object.
-- Stated of texts and pictures; how lines are judged or written belongs elsewhere.
use Rattle.std.proofs.Common.{◌≡◌, inl, inr, ℕ, zero, suc, ◌<◌, ◌≤◌, refl, ap, sym, ◌∙◌, subst, arith, List, [], ◌∷◌, ◌++◌, length, length-append, append-nil}
use Rattle.std.proofs.Common.{take, map, pos, Some, Option}
use Rattle.std.specs.Prelude.{slice_get, All}
use Rattle.std.specs.Option.{option_map}
use Rattle.std.proofs.lemmas.List.{append_assoc, length-take-le, map-append, take-map}
use Rattle.std.proofs.lemmas.Option.{slice_get-map, slice_get_within}
use Rattle.shape_terms.specs.Pictures.{Picture, object_points}
use Rattle.text_terms.specs.Spellings.{text_of}
use Rattle.text_terms.specs.Reports.{GoodSoFar, Holds}
use Rattle.text_terms.specs.Courses.{after}
use Rattle.text_terms.proofs.ListPushes.{get_push}
use Rattle.text_terms.proofs.CourseLaws.{reached_push, told_all}
use Rattle.ball_terms.specs.Balls.{Ball, AreGood, AreBalls}
use Rattle.ball_terms.specs.Lines.{Line, spelled}
use Rattle.ball_terms.specs.Reports.{Standing, step, Claim, course, ball_report}
use Rattle.ball_terms.specs.Shows.{listing, ListsBalls, BallsShow}
use Rattle.ball_terms.proofs.BallUnion.{good_push, are_union}
use Rattle.ball_terms.proofs.LineLaws.{short_line}

-- ---- from lines that are good to balls

-- the first line with this number, and these balls
abbrev begun : Picture → ℕ → List Ball → List Line
begun X number balls = Line.Balls (map pos X.sides) number ∷ map (λ b. Line.Ball b) balls

-- good lines up to the ball that came last
record AreListed (X : Picture) (number : ℕ) (balls : List Ball) (lines : List Line) : Type 0 where
  are : lines ≡ begun X number balls
  few : number ≤ length (object_points X)
  some : length balls ≤ number
  good : AreGood X balls

-- and up to the end
record AreWhole (X : Picture) (lines : List Line) : Type 0 where
  balls : List Ball
  are : lines ≡ listing (map pos X.sides) balls
  holds : AreBalls X balls

-- what good lines say where they stand
abbrev Tell : Picture → Standing → List Line → Type 0
Tell X Standing.Opening lines = lines ≡ []
Tell X (Standing.Listing number balls) lines = AreListed X number balls lines
Tell X Standing.Ended lines = AreWhole X lines

begun_push : (X : Picture) (number : ℕ) (balls : List Ball) (b : Ball) → begun X number balls ++ Line.Ball b ∷ [] ≡ begun X number (balls ++ b ∷ [])
begun_push X number balls b = ap (λ ls. Line.Balls (map pos X.sides) number ∷ ls) (sym (map-append (λ b. Line.Ball b) balls (b ∷ [])))

tell_next : (X : Picture) (s : Standing) (lines : List Line) (l : Line) → Tell X s lines → Claim X s l → Tell X (step s l) (lines ++ l ∷ [])
tell_next X Standing.Opening lines (Line.Balls sides number) t c = record {
  are = ap (λ ls. ls ++ Line.Balls sides number ∷ []) t ∙ ap (λ n. Line.Balls n number ∷ []) c.sides_are;
  few = c.few;
  some = omega arith;
  good = λ k b e. cc;
}
tell_next X Standing.Opening lines (Line.Ball b) t c = absurd c
tell_next X Standing.Opening lines Line.End t c = absurd c
tell_next X (Standing.Listing number balls) lines (Line.Balls sides n) t c = absurd c
tell_next X (Standing.Listing number balls) lines (Line.Ball b) t c = record {
  are = ap (λ ls. ls ++ Line.Ball b ∷ []) t.are ∙ begun_push X number balls b;
  few = t.few;
  some = (let w = c.wanted in omega (arith, length-append balls (b ∷ [])));
  good = good_push X balls b t.good c.good;
}
tell_next X (Standing.Listing number balls) lines Line.End t c = record {
  balls = balls;
  are = ap (λ ls. ls ++ Line.End ∷ []) t.are ∙ ap (λ n. begun X n balls ++ Line.End ∷ []) (sym c.all);
  holds = record { few = (let f = t.few in let a = c.all in omega arith); each = t.good; all = c.cover };
}
tell_next X Standing.Ended lines (Line.Balls sides n) t c = absurd c
tell_next X Standing.Ended lines (Line.Ball b) t c = absurd c
tell_next X Standing.Ended lines Line.End t c = absurd c

whole_lines : (X : Picture) (front : List Line) → GoodSoFar (ball_report X) (front ++ Line.End ∷ []) → AreWhole X (front ++ Line.End ∷ [])
whole_lines X front good = subst (λ s. Tell X s (front ++ Line.End ∷ [])) (reached_push (course X) front Line.End)
    (told_all (course X) (Tell X) refl (tell_next X) (front ++ Line.End ∷ []) good)

-- a text that holds shows balls that make up the object
pub holds_shows : (X : Picture) (text : List ℕ) → Holds (ball_report X) text → BallsShow X text
holds_shows X text (front, w) =
    let T = spelled (length X.sides) in
    let r = whole_lines X front w.good in
    record {
      balls = r.balls;
      lists = record {
        fields = subst (All T.IsLine) r.are w.fields;
        text_is = w.split ∙ append-nil (text_of T (front ++ Line.End ∷ [])) ∙ ap (text_of T) r.are;
      };
      are = r.holds;
      union = are_union X r.balls r.holds.each r.holds.all;
    }

-- ---- and back

after_balls : (number : ℕ) (front balls : List Ball) → after step (Standing.Listing number front) (map (λ b. Line.Ball b) balls) ≡ Standing.Listing number
    (front ++ balls)
after_balls number front [] = ap (Standing.Listing number) (sym (append-nil front))
after_balls number front (b ∷ balls) = after_balls number (front ++ b ∷ []) balls ∙ ap (Standing.Listing number) (append_assoc front (b ∷ []) balls)

module _ (X : Picture) (balls : List Ball) (are : AreBalls X balls) where
  abbrev ls : List Line
  ls = map (λ b. Line.Ball b) balls

  -- a line behind the first one is that of a ball after the earlier ones, or the end after all
  behind_first : (k : ℕ) (l : Line) → slice_get (ls ++ Line.End ∷ []) k ≡ Some l
      → Claim X (after step (Standing.Listing (length balls) []) (take k (ls ++ Line.End ∷ []))) l
  behind_first k l e = elim (get_push ls Line.End k l e) [
    | inl h ↦ (
        let b = ball_there k l h.0 in
        let front : take k (ls ++ Line.End ∷ []) ≡ map (λ b. Line.Ball b) (take k balls) = h.1 ∙ take-map (λ b. Line.Ball b) k balls in
        subst (λ m. Claim X (after step (Standing.Listing (length balls) []) (take k (ls ++ Line.End ∷ []))) m) (sym b.2)
        (subst (λ ms. Claim X (after step (Standing.Listing (length balls) []) ms) (Line.Ball b.0)) (sym front)
        (subst (λ s. Claim X s (Line.Ball b.0)) (sym (after_balls (length balls) [] (take k balls)))
        (record { wanted = earlier k b.0 b.1; good = are.each k b.0 b.1 }))))
    | inr h ↦ (
        subst (λ m. Claim X (after step (Standing.Listing (length balls) []) (take k (ls ++ Line.End ∷ []))) m) h.0
        (subst (λ ms. Claim X (after step (Standing.Listing (length balls) []) ms) Line.End) (sym h.1)
        (subst (λ s. Claim X s Line.End) (sym (after_balls (length balls) [] balls))
        (record { all = refl; cover = are.all }))))
  ]
    where
      ball_of : (o : Option Ball) (l : Line) → option_map (λ b. Line.Ball b) o ≡ Some l → (b : Ball) × (o ≡ Some b) × (l ≡ Line.Ball b)
      ball_of (Some b) l e = (b, refl, cc)
      ball_of _ l e = cc

      ball_there : (k : ℕ) (l : Line) → slice_get ls k ≡ Some l → (b : Ball) × (slice_get balls k ≡ Some b) × (l ≡ Line.Ball b)
      ball_there k l e = ball_of (slice_get balls k) l (sym (slice_get-map (λ b. Line.Ball b) balls k) ∙ e)

      earlier : (k : ℕ) (b : Ball) → slice_get balls k ≡ Some b → length (take k balls) < length balls
      earlier k b e = let l = slice_get_within balls k b e in omega (arith, length-take-le k balls (omega arith))

  listed_good : GoodSoFar (ball_report X) (listing (map pos X.sides) balls)
  listed_good zero l e = subst (λ m. Claim X Standing.Opening m) first (record { sides_are = refl; few = are.few })
    where
      first : Line.Balls (map pos X.sides) (length balls) ≡ l
      first = cc
  listed_good (suc k) l e = behind_first k l e

  -- a text that lists such balls holds
  pub listed_holds : length X.sides ≤ 3 → (text : List ℕ) → ListsBalls X.sides text balls → Holds (ball_report X) text
  listed_holds three text lists =
      let T = spelled (length X.sides) in (
        begun X (length balls) balls,
        record {
          split = lists.text_is ∙ sym (append-nil (text_of T (listing (map pos X.sides) balls)));
          fields = lists.fields;
          short = λ i d h. short_line (length X.sides) three _ (lists.fields i d h);
          good = listed_good;
        },
      )
