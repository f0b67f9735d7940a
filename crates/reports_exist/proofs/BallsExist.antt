-- Each picture whose sides are in range has a ball report.
-- Which balls it lists stands in `BallsKept`; here they are spelled.
use Rattle.std.proofs.Common.{◌≡◌, ◌⊎◌, inl, inr, ℕ, ◌+◌, ◌^◌, ◌<◌, ◌≤◌, refl, ap, sym, ◌∙◌, subst, arith, List, [], ◌∷◌, length, map, take, pos, negsuc, ◌≤ℤ◌}
use Rattle.std.specs.Prelude.{IsTrue, All}
use Rattle.std.proofs.lemmas.Int.{ints}
use Rattle.std.proofs.lemmas.List.{length-map}
use Rattle.std.proofs.lemmas.List.Elements.{All-nil, All-cons, All-append, All-map}
use Rattle.shape_terms.specs.Limits.{most_flat, most_solid, most_coordinate}
use Rattle.shape_terms.specs.Points.{Point, sides_of, in_box, box_count}
use Rattle.shape_terms.specs.Pictures.{Picture, IsPicture, at, object_points}
use Rattle.shape_terms.specs.FramedBox.{framed_point, IsWithin}
use Rattle.shape_terms.specs.Distances.{NearFact}
use Rattle.shape_terms.proofs.Boxes.{in_box_length, few_points}
use Rattle.shape_terms.proofs.BoxLists.{objects_are, few_objects}
use Rattle.shape_terms.proofs.FramedBoxes.{box_point_within, framed_point_within}
use Rattle.shape_terms.proofs.Numbered.{object_in_box}
use Rattle.text_terms.specs.Spellings.{Spelled, text_of}
use Rattle.text_terms.specs.Fields.{point, weight}
use Rattle.text_terms.proofs.FramedFields.{within_short, distance_fits}
use Rattle.ball_terms.specs.Balls.{Ball, BallClaim, AreBalls}
use Rattle.ball_terms.specs.Lines.{Line, spelled}
use Rattle.ball_terms.specs.Reports.{ball_report}
use Rattle.ball_terms.specs.Shows.{listing}
use Rattle.ball_terms.proofs.BallLists.{all_get, each_of}
use Rattle.ball_terms.proofs.BallUnion.{in_object}
use Rattle.ball_terms.proofs.HoldsShows.{listed_holds}
use Rattle.reports_exist.specs.Met.{IsMet, HasSidesTo}
use Rattle.reports_exist.proofs.BallsNearest.{all_nearest}
use Rattle.reports_exist.proofs.BallsKept.{IsNear, AreKept, keep, all_stand}

-- ---- sides as a point

pub sides_back : (sides : List ℕ) → sides_of (map pos sides) ≡ sides
sides_back [] = refl
sides_back (n ∷ sides) = ap (λ l. n ∷ l) (sides_back sides)

-- ---- the fields of the lines

module _ (d greatest : ℕ) (X : Picture) (picture : IsPicture d X) (range : HasSidesTo greatest X) (axes : (d ≡ 2) ⊎ (d ≡ 3)) (flat : greatest ≤ most_flat)
    (solid : d ≡ 3 → greatest ≤ most_solid) where
  abbrev n : Point
  n = map pos X.sides

  back : sides_of n ≡ X.sides
  back = sides_back X.sides

  flat_side : pos greatest ≤ℤ pos most_flat
  flat_side = omega (arith, ints)

  long : length X.sides ≡ d
  long = picture.axes

  three : length X.sides ≤ 3
  three = let e = long in elim axes [ inl q ↦ omega arith | inr q ↦ omega arith ]

  some : 0 < length X.sides
  some = let e = long in elim axes [ inl q ↦ omega arith | inr q ↦ omega arith ]

  framed_within : (i : ℕ) → IsWithin (negsuc 0) (pos most_coordinate) (framed_point X.sides i)
  framed_within i = subst (λ s. IsWithin (negsuc 0) (pos most_coordinate) (framed_point s i)) back (framed_point_within (pos greatest) n i range flat_side)

  object_within : (p : Point) → IsTrue (at X p) → IsWithin (negsuc 0) (pos most_coordinate) p
  object_within p o =
      let inside : IsTrue (in_box (sides_of n) p) = subst (λ s. IsTrue (in_box s p)) (sym back) (object_in_box X p o) in
      box_point_within (pos greatest) n p range flat_side inside

  object_axes : (p : Point) → IsTrue (at X p) → length p ≡ length X.sides
  object_axes p o = in_box_length X.sides p (object_in_box X p o)

  object_fits : (p : Point) → IsTrue (at X p) → (point (length X.sides)).InRange p
  object_fits p o = within_short (length X.sides) p (object_axes p o) (object_within p o)

  sides_fit : (point (length X.sides)).InRange n
  sides_fit = within_short (length X.sides) n (length-map X.sides pos) (λ k l. let b = range k l in (omega (arith, ints, b.0), omega (arith, ints, b.1)))

  few : length (object_points X) < 2 ^ 32
  few =
      let e : box_count (sides_of n) ≡ box_count X.sides = ap box_count back in
      let m : length n ≡ d = length-map X.sides pos ∙ long in
      let two : (length n ≡ 2) ⊎ (length n ≡ 3) = elim axes [ inl q ↦ inl (m ∙ q) | inr q ↦ inr (m ∙ q) ] in
      let c = few_points (pos greatest) n range flat_side two (λ q. let s = solid (sym m ∙ q) in omega (arith, ints)) in
      omega (arith, few_objects X)

  abbrev T : Spelled Line
  T = spelled (length X.sides)

  ball_fits : (earlier : List Ball) (b : Ball) → BallClaim X earlier b → IsNear b → T.IsLine (Line.Ball b)
  ball_fits earlier b c near =
      let short : length b.centre ≤ 3 = (let a = object_axes b.centre c.object in let t = three in omega arith) in
      let q = within_short (length X.sides) b.near c.least.background.point near in
      let s = subst weight.InRange (sym c.least.distance) (distance_fits b.centre b.near short (object_within b.centre c.object) near) in
      (object_fits b.centre c.object, (q, (s, object_fits b.own (in_object X b c.least b.own c.own))))

  lines_fit : (balls : List Ball) → length balls < 2 ^ 32 → All (λ b. T.IsLine (Line.Ball b)) balls → All T.IsLine (listing n balls)
  lines_fit balls l fit =
      let first = All-cons T.IsLine (Line.Balls n (length balls)) (map (λ b. Line.Ball b) balls) (sides_fit, l) (All-map T.IsLine (λ b. Line.Ball b) balls fit)
      in
      let last = All-cons T.IsLine Line.End [] tt (All-nil T.IsLine) in
      All-append T.IsLine (Line.Balls n (length balls) ∷ map (λ b. Line.Ball b) balls) (Line.End ∷ []) first last

  -- ---- the report

  listed : (k : AreKept X (length (object_points X))) → IsMet (ball_report X)
  listed k =
      let fit = each_of k.balls (λ b. T.IsLine (Line.Ball b)) (λ i b e. ball_fits (take i k.balls) b (k.good i b e) (all_get IsNear k.balls i b e k.near)) in
      let are : AreBalls X k.balls = record { few = k.few; each = k.good; all = k.cover } in
      let fields = lines_fit k.balls (let f = k.few in let m = few in omega arith) fit in
      (text_of T (listing n k.balls), listed_holds X k.balls are three (text_of T (listing n k.balls)) (record { fields = fields; text_is = refl }))

  pub ball_report_met : IsMet (ball_report X)
  ball_report_met =
      let f = all_nearest X some framed_within (object_points X) (objects_are X) in
      let same : length f.0 ≡ length (object_points X) = sym (length-map f.0 (λ (f : NearFact). f.p)) ∙ ap length f.1 in
      let count : 0 + length f.0 ≡ length (object_points X) = omega arith in
      listed (subst (AreKept X) count (keep X [] f.0 (all_stand X f.0 f.1 f.2)))
