-- What is said with one more line: a `near` line, a `del` line, or one that says nothing of a point.
-- Laws of lines and pictures; the program stands in none.
use Rattle.std.proofs.Common.{◌≡◌, ◌≢◌, inl, inr, ℕ, ◌<◌, Bool, true, false, List, [], ◌∷◌, ◌++◌, length, refl, ap, sym, ◌∙◌, arith, Some, None}
use Rattle.std.specs.Prelude.{IsTrue, not, ◌&&◌, if◌then◌else◌, filter_map}
use Rattle.std.specs.List.{list_any, cons_option}
use Rattle.std.proofs.lemmas.Bool.{cases_Bool, cond-true, cond-false}
use Rattle.text_terms.proofs.ListPushes.{filter_map-same, filter_map-push}
use Rattle.shape_terms.specs.Points.{Point, in_box}
use Rattle.shape_terms.specs.Pictures.{at, with_value}
use Rattle.report_terms.specs.Lines.{Line}
use Rattle.report_lines.specs.Said.{given_sides, is_same_point, near_point, square_for, deleted_point, is_near, is_deleted, is_left, last_or, square_of}
use Rattle.report_lines.specs.Said.{picture_of, said_in, said}
use Rattle.report_lines.specs.Kept.{now_near, with_near, now_deleted, with_deleted}
use Rattle.shape_terms.proofs.PointTests.{same_point}
use Rattle.report_lines.proofs.SamePoints.{same_yes, same_not, any_there, any_other}
use Rattle.report_lines.proofs.BoxValues.{at_picture_of, values_same, values_with, picture_same, picture_with}

-- ---- the sides

pub given_more : (lines : List Line) (l : Line) → 0 < length lines → given_sides (lines ++ l ∷ []) ≡ given_sides lines
given_more [] l h = absurd (omega arith)
given_more (Line.Shape a ∷ lines) l h = refl
given_more (Line.Parts a b c ∷ lines) l h = refl
given_more (Line.Near a b c ∷ lines) l h = refl
given_more (Line.Contour a b c d ∷ lines) l h = refl
given_more (Line.At a ∷ lines) l h = refl
given_more (Line.Seg a b c d e ∷ lines) l h = refl
given_more (Line.Least a ∷ lines) l h = refl
given_more (Line.Gap a b ∷ lines) l h = refl
given_more (Line.Face a b c ∷ lines) l h = refl
given_more (Line.Patch a b c ∷ lines) l h = refl
given_more (Line.On a ∷ lines) l h = refl
given_more (Line.Off a b ∷ lines) l h = refl
given_more (Line.Del a ∷ lines) l h = refl
given_more (Line.Tip a ∷ lines) l h = refl
given_more (Line.Kept a b c ∷ lines) l h = refl
given_more (Line.End ∷ lines) l h = refl

-- ---- small laws

last_push : (n m : ℕ) (ns : List ℕ) → last_or n (ns ++ m ∷ []) ≡ m
last_push n m [] = refl
last_push n m (k ∷ ns) = last_push k m ns

and_false : (b : Bool) → (b && false) ≡ false
and_false true = refl
and_false false = refl

-- a point of the box is none outside it
apart : (sides : List ℕ) (p q : Point) → IsTrue (in_box sides p) → in_box sides q ≡ false → p ≢ q
apart sides p q h out = λ e. let z = sym (sym (ap (in_box sides) e) ∙ h) ∙ out in cc

-- ---- a `near` line

module _ (sides : List ℕ) (lines : List Line) (q r : Point) (n : ℕ) where
  near_there : (p : Point) → p ≡ q → is_near (lines ++ Line.Near q r n ∷ []) p ≡ true
  near_there p e = ap (list_any (is_same_point p)) (filter_map-push near_point lines (Line.Near q r n) q refl) ∙ any_there (filter_map near_point lines) q p e

  near_other : (p : Point) → p ≢ q → is_near (lines ++ Line.Near q r n ∷ []) p ≡ is_near lines p
  near_other p e = ap (list_any (is_same_point p)) (filter_map-push near_point lines (Line.Near q r n) q refl) ∙ any_other (filter_map near_point lines) q p e

  near_deleted : (p : Point) → is_deleted (lines ++ Line.Near q r n ∷ []) p ≡ is_deleted lines p
  near_deleted p = ap (list_any (is_same_point p)) (filter_map-same deleted_point lines (Line.Near q r n) refl)

  near_square : (p : Point) → p ≡ q → square_of (lines ++ Line.Near q r n ∷ []) p ≡ n
  near_square p e =
      ap (last_or 0) (filter_map-push (square_for p) lines (Line.Near q r n) n (ap (λ b. cons_option (if b then Some n else None) []) (same_yes p q e)))
      ∙ last_push 0 n (filter_map (square_for p) lines)

  near_square_other : (p : Point) → p ≢ q → square_of (lines ++ Line.Near q r n ∷ []) p ≡ square_of lines p
  near_square_other p e =
      ap (last_or 0) (filter_map-same (square_for p) lines (Line.Near q r n) (ap (λ b. cons_option (if b then Some n else None) []) (same_not p q e)))

  near_left_other : (p : Point) → p ≢ q → is_left (lines ++ Line.Near q r n ∷ []) p ≡ is_left lines p
  near_left_other p e = λ i. near_other p e i && not (near_deleted p i)

  -- the points left, where the point was deleted before or where it was not
  near_left : IsTrue (in_box sides q) → picture_of sides (is_left (lines ++ Line.Near q r n ∷ [])) ≡ (now_near (said_in sides lines) q n).left
  near_left inside = elim (cases_Bool (is_deleted lines q)) [
    | inl y ↦
        picture_same sides (is_left (lines ++ Line.Near q r n ∷ [])) (is_left lines) (λ p h. elim (same_point p q) [
          | yes e ↦
              let gone : is_deleted lines p ≡ true = ap (is_deleted lines) e ∙ y in
              (λ i. is_near (lines ++ Line.Near q r n ∷ []) p && not ((near_deleted p ∙ gone) i)) ∙ and_false (is_near (lines ++ Line.Near q r n ∷ []) p)
              ∙ sym ((λ i. is_near lines p && not (gone i)) ∙ and_false (is_near lines p))
          | no e ↦ near_left_other p e
        ])
        ∙ sym (cond-false (not (at (picture_of sides (is_deleted lines)) q)) (with_value (picture_of sides (is_left lines)) q true)
        (picture_of sides (is_left lines)) (ap not (at_picture_of sides (is_deleted lines) q inside ∙ y)))
    | inr f ↦
        sym (cond-true (not (at (picture_of sides (is_deleted lines)) q)) (with_value (picture_of sides (is_left lines)) q true)
        (picture_of sides (is_left lines)) (ap not (at_picture_of sides (is_deleted lines) q inside ∙ f))
        ∙ picture_with sides (is_left lines) (is_left (lines ++ Line.Near q r n ∷ [])) q true inside (λ i. near_there q refl i && not ((near_deleted q ∙ f) i))
        near_left_other)
  ]

  pub says_near : said_in sides (lines ++ Line.Near q r n ∷ []) ≡ with_near (said_in sides lines) q n
  says_near = elim (cases_Bool (in_box sides q)) [
    | inl y ↦
        let o = sym (picture_with sides (is_near lines) (is_near (lines ++ Line.Near q r n ∷ [])) q true y (near_there q refl) near_other) in
        let s = sym (values_with sides (square_of lines) (square_of (lines ++ Line.Near q r n ∷ [])) q n y (near_square q refl) near_square_other) in
        let d = picture_same sides (is_deleted (lines ++ Line.Near q r n ∷ [])) (is_deleted lines) (λ p h. near_deleted p) in
        let l = near_left y in
        (λ i. record { object = o i; squares = s i; deleted = d i; left = l i })
        ∙ sym (cond-true (in_box sides q) (now_near (said_in sides lines) q n) (said_in sides lines) y)
    | inr f ↦
        let o = picture_same sides (is_near (lines ++ Line.Near q r n ∷ [])) (is_near lines) (λ p h. near_other p (apart sides p q h f)) in
        let s = values_same sides (square_of (lines ++ Line.Near q r n ∷ [])) (square_of lines) (λ p h. near_square_other p (apart sides p q h f)) in
        let d = picture_same sides (is_deleted (lines ++ Line.Near q r n ∷ [])) (is_deleted lines) (λ p h. near_deleted p) in
        let l = picture_same sides (is_left (lines ++ Line.Near q r n ∷ [])) (is_left lines) (λ p h. near_left_other p (apart sides p q h f)) in
        (λ i. record { object = o i; squares = s i; deleted = d i; left = l i })
        ∙ sym (cond-false (in_box sides q) (now_near (said_in sides lines) q n) (said_in sides lines) f)
  ]

-- ---- a `del` line

module _ (sides : List ℕ) (lines : List Line) (q : Point) where
  del_near : (p : Point) → is_near (lines ++ Line.Del q ∷ []) p ≡ is_near lines p
  del_near p = ap (list_any (is_same_point p)) (filter_map-same near_point lines (Line.Del q) refl)

  del_square : (p : Point) → square_of (lines ++ Line.Del q ∷ []) p ≡ square_of lines p
  del_square p = ap (last_or 0) (filter_map-same (square_for p) lines (Line.Del q) refl)

  del_there : (p : Point) → p ≡ q → is_deleted (lines ++ Line.Del q ∷ []) p ≡ true
  del_there p e = ap (list_any (is_same_point p)) (filter_map-push deleted_point lines (Line.Del q) q refl) ∙ any_there (filter_map deleted_point lines) q p e

  del_other : (p : Point) → p ≢ q → is_deleted (lines ++ Line.Del q ∷ []) p ≡ is_deleted lines p
  del_other p e = ap (list_any (is_same_point p)) (filter_map-push deleted_point lines (Line.Del q) q refl) ∙ any_other (filter_map deleted_point lines) q p e

  del_left_there : is_left (lines ++ Line.Del q ∷ []) q ≡ false
  del_left_there = (λ i. is_near (lines ++ Line.Del q ∷ []) q && not (del_there q refl i)) ∙ and_false (is_near (lines ++ Line.Del q ∷ []) q)

  del_left_other : (p : Point) → p ≢ q → is_left (lines ++ Line.Del q ∷ []) p ≡ is_left lines p
  del_left_other p e = λ i. del_near p i && not (del_other p e i)

  pub says_del : said_in sides (lines ++ Line.Del q ∷ []) ≡ with_deleted (said_in sides lines) q
  says_del =
      let o = picture_same sides (is_near (lines ++ Line.Del q ∷ [])) (is_near lines) (λ p h. del_near p) in
      let s = values_same sides (square_of (lines ++ Line.Del q ∷ [])) (square_of lines) (λ p h. del_square p) in
      elim (cases_Bool (in_box sides q)) [
        | inl y ↦
            let d = sym (picture_with sides (is_deleted lines) (is_deleted (lines ++ Line.Del q ∷ [])) q true y (del_there q refl) del_other) in
            let l = sym (picture_with sides (is_left lines) (is_left (lines ++ Line.Del q ∷ [])) q false y del_left_there del_left_other) in
            (λ i. record { object = o i; squares = s i; deleted = d i; left = l i })
            ∙ sym (cond-true (in_box sides q) (now_deleted (said_in sides lines) q) (said_in sides lines) y)
        | inr f ↦
            let d = picture_same sides (is_deleted (lines ++ Line.Del q ∷ [])) (is_deleted lines) (λ p h. del_other p (apart sides p q h f)) in
            let l = picture_same sides (is_left (lines ++ Line.Del q ∷ [])) (is_left lines) (λ p h. del_left_other p (apart sides p q h f)) in
            (λ i. record { object = o i; squares = s i; deleted = d i; left = l i })
            ∙ sym (cond-false (in_box sides q) (now_deleted (said_in sides lines) q) (said_in sides lines) f)
      ]

-- ---- a line that says nothing of a point

pub record SaysNothing (l : Line) : Type 0 where
  pub near : filter_map near_point (l ∷ []) ≡ []
  pub square : (p : Point) → filter_map (square_for p) (l ∷ []) ≡ []
  pub deleted : filter_map deleted_point (l ∷ []) ≡ []

pub says_nothing : (sides : List ℕ) (lines : List Line) (l : Line) → SaysNothing l → said_in sides (lines ++ l ∷ []) ≡ said_in sides lines
says_nothing sides lines l h =
    let n = λ (p : Point). ap (list_any (is_same_point p)) (filter_map-same near_point lines l h.near) in
    let e = λ (p : Point). ap (list_any (is_same_point p)) (filter_map-same deleted_point lines l h.deleted) in
    let o = picture_same sides (is_near (lines ++ l ∷ [])) (is_near lines) (λ p i. n p) in
    let s = values_same sides (square_of (lines ++ l ∷ [])) (square_of lines) (λ p i. ap (last_or 0) (filter_map-same (square_for p) lines l (h.square p))) in
    let d = picture_same sides (is_deleted (lines ++ l ∷ [])) (is_deleted lines) (λ p i. e p) in
    let left = picture_same sides (is_left (lines ++ l ∷ [])) (is_left lines) (λ p i. (λ j. n p j && not (e p j))) in
    λ i. record { object = o i; squares = s i; deleted = d i; left = left i }

-- ---- behind a heading

-- the lines have one before them, where what they say is of a box with sides
pub some_lines : (d : ℕ) (lines : List Line) → 0 < d → length (given_sides lines) ≡ d → 0 < length lines
some_lines d [] h e = absurd (omega (arith, h, e))
some_lines d (l ∷ lines) h e = omega arith

-- only a heading gives sides, and it says nothing of a point
pub heading_quiet : (l : Line) → 0 < length (given_sides (l ∷ [])) → SaysNothing l
heading_quiet (Line.Shape h) some = record { near = refl; square = λ p. refl; deleted = refl }
heading_quiet _ some = absurd (omega (arith, some))

-- what all lines say, in the box that the heading gives
pub said_more : (lines : List Line) (l : Line) → 0 < length lines → said (lines ++ l ∷ []) ≡ said_in (given_sides lines) (lines ++ l ∷ [])
said_more lines l h = ap (λ s. said_in s (lines ++ l ∷ [])) (given_more lines l h)

-- a heading says nothing of a point
pub said_first : (sides : List ℕ) (l : Line) → SaysNothing l → given_sides (l ∷ []) ≡ sides → said (l ∷ []) ≡ said_in sides []
said_first sides l h e = ap (λ s. said_in s (l ∷ [])) e ∙ says_nothing sides [] l h
