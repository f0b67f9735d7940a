-- Each closed path of pixels has a split into pieces that are each as long as a straight run can be, from its first point on.
-- Each run is decided for both axes as in `RunsDecided`; the texts of such pieces stand in `PieceTexts`.
use Rattle.std.proofs.Common.{◌≡◌, ℕ, zero, suc, ◌+◌, ◌-◌, ◌<◌, ◌≤◌, ◌%◌, List, [], ◌∷◌, ◌++◌, length, refl, ap, sym, subst, ◌∙◌, arith, inl, inr}
use Rattle.std.specs.Prelude.{IsTrue}
use native.Mathlib.Decide.{dec_lt}
use Rattle.shape_terms.specs.Limits.{most_flat}
use Rattle.shape_terms.specs.Points.{Point, in_box}
use Rattle.shape_terms.specs.Steps.{AreClose}
use Rattle.shape_terms.specs.Naive.{Naive}
use Rattle.shape_terms.specs.Refutations.{point_at}
use Rattle.shape_terms.specs.Covers.{Evidence, arc}
use Rattle.shape_terms.specs.Traces.{IsClosedPath}
use Rattle.shape_terms.proofs.ArcRuns.{length-arc, arc-get}
use Rattle.shape_terms.proofs.Boxes.{in_box_first, in_box_length}
use Rattle.shape_line.specs.Evidence.{IsShown}
use Rattle.shape_line.proofs.Backs.{close_next}
use Rattle.shape_line.proofs.Searching.{shown_refused}
use Rattle.piece_terms.specs.Pieces.{Piece, ArePieces}
use Rattle.shape_pieces.specs.Steps.{IsPieceFrom, AreShortPieces, AreFront}
use Rattle.shape_pieces.proofs.Fronting.{one_more, ends_whole, short_pieces}
use Rattle.reports_exist.proofs.SmallRuns.{IsSmallPoint}
use Rattle.reports_exist.proofs.RunsDecided.{IsLineFor, IsDecided, IsNearRun, decided, one_decided}

-- a point of a box of these sides is small
small_in : (side : ℕ) → side ≤ most_flat → (p : Point) → IsTrue (in_box (side ∷ side ∷ []) p) → IsSmallPoint p
small_in side l [] h = absurd (let e = in_box_length (side ∷ side ∷ []) [] h in omega arith)
small_in side l (x ∷ []) h = absurd (let e = in_box_length (side ∷ side ∷ []) (x ∷ []) h in omega arith)
small_in side l (x ∷ y ∷ p) h =
    let a = in_box_first side (side ∷ []) x (y ∷ p) h in
    let b = in_box_first side [] y p a.2 in
    let u = a.1 in
    let v = b.1 in
    record { flat = in_box_length (side ∷ side ∷ []) (x ∷ y ∷ p) h; x = omega arith; y = omega arith }

module _ (side : ℕ) (low : side ≤ most_flat) (points : List Point) (path : IsClosedPath side points) where
  -- the runs of the path are small and near
  pub arc_near : (b e : ℕ) → IsNearRun (arc points b e)
  arc_near b e = record {
    small = λ i l.
        let some = path.some in
        let m : i < e + 1 - b = omega (arith, length-arc points b e) in
        subst IsSmallPoint (sym (arc-get points b e i m))
        (small_in side low (point_at points ((b + i) % length points)) (path.inside ((b + i) % length points) [] (omega arith)));
    near = λ i l.
        let m : i + 1 < e + 1 - b = omega (arith, length-arc points b e) in
        let here = arc-get points b e i (omega arith) in
        let next = arc-get points b e (i + 1) m ∙ ap (λ k. point_at points (k % length points)) (let q : b + (i + 1) ≡ b + i + 1 = omega arith in q) in
        subst (λ (q : Point). AreClose q (point_at (arc points b e) (i + 1))) (sym here)
        (subst (AreClose (point_at points ((b + i) % length points))) (sym next) (close_next points side path (b + i)));
  }

  pub arc_decided : (t b e : ℕ) → t < 2 → b ≤ e → IsDecided t (arc points b e)
  arc_decided t b e l h = decided t l (arc points b e) (omega (arith, length-arc points b e)) (arc_near b e)

  -- ---- the longest piece from a place on

  abbrev piece : (first last t : ℕ) → Naive → Evidence → Evidence → Piece
  piece first last t line x y = record { first = first; last = last; axis = t; line = line; x = x; y = y }

  -- to the last place of the path
  whole : (first e t : ℕ) (line : Naive) → t < 2 → first ≤ e → e < length points → (e + 1 < length points → ⊥) → IsLineFor t (arc points first e) line
      → (p : Piece) × IsPieceFrom points first p
  whole first e t line l rises within end h = (
    piece first e t line (Evidence.Turned 0 0) (Evidence.Turned 0 0),
    record {
      begins = refl;
      piece = record { rises = rises; within = within; axis = l; naive = h.naive; sense = h.sense };
      short_line = h.short;
      refused = λ more. absurd (end more);
    },
  )

  -- or to where the run with the next point is straight for neither axis
  refused : (first e t : ℕ) (line : Naive) (x y : Evidence) → t < 2 → first ≤ e → e + 1 < length points → IsLineFor t (arc points first e) line
      → IsShown 0 (arc points first (e + 1)) x → IsShown 1 (arc points first (e + 1)) y → (p : Piece) × IsPieceFrom points first p
  refused first e t line x y l rises within h sx sy =
      let few = path.few in
      let n = length-arc points first (e + 1) in
      let rx = shown_refused 0 (arc points first (e + 1)) x (omega arith) sx in
      let ry = shown_refused 1 (arc points first (e + 1)) y (omega arith) sy in (
        piece first e t line x y,
        record {
          begins = refl;
          piece = record { rises = rises; within = omega arith; axis = l; naive = h.naive; sense = h.sense };
          short_line = h.short;
          refused = λ more. record { evidence = record { x = rx.shows; y = ry.shows }; short_x = rx.short; short_y = ry.short };
        },
      )

  longest : (room first e t : ℕ) (line : Naive) → length points ≤ e + 1 + room → t < 2 → first ≤ e → e < length points
      → IsLineFor t (arc points first e) line → (p : Piece) × IsPieceFrom points first p
  longest zero first e t line fits l rises within h = whole first e t line l rises within (λ more. omega arith) h
  longest (suc room) first e t line fits l rises within h = elim (dec_lt (e + 1) (length points)) [
    | no n ↦ whole first e t line l rises within n h
    | yes m ↦ elim (arc_decided 0 first (e + 1) (omega arith) (omega arith)) [
      | inl (line0, g) ↦ longest room first (e + 1) 0 line0 (omega arith) (omega arith) (omega arith) m g
      | inr (x, sx) ↦ elim (arc_decided 1 first (e + 1) (omega arith) (omega arith)) [
        | inl (line1, g) ↦ longest room first (e + 1) 1 line1 (omega arith) (omega arith) (omega arith) m g
        | inr (y, sy) ↦ refused first e t line x y l rises m h sx sy
      ]
    ]
  ]

  from_place : (first : ℕ) → first < length points → (p : Piece) × IsPieceFrom points first p
  from_place first l =
      let one = arc_one first in
      longest (length points) first first 0 one.0 (omega arith) (omega arith) (omega arith) l one.1
    where
      arc_one : (first : ℕ) → (line : Naive) × IsLineFor 0 (arc points first first) line
      arc_one first = one_decided 0 (omega arith) (arc points first first) (omega (arith, length-arc points first first)) (arc_near first first)

  -- ---- all pieces

  none_yet : AreFront points [] 0
  none_yet = record {
    goes_on = λ k l. absurd (omega arith);
    ends = refl;
    piece = λ k l. absurd (omega arith);
    short_line = λ k l. absurd (omega arith);
    refused = λ k l. absurd (omega arith);
    few = omega arith;
    near = omega arith;
  }

  all_from : (room : ℕ) (pieces : List Piece) (now : ℕ) → length points ≤ now + room → AreFront points pieces now
      → (all : List Piece) × ArePieces points all × AreShortPieces all
  all_from zero pieces now fits f = (pieces, ends_whole points pieces now f path.some (λ more. omega arith), short_pieces points pieces now f)
  all_from (suc room) pieces now fits f = elim (dec_lt now (length points)) [
    | no n ↦ (pieces, ends_whole points pieces now f path.some n, short_pieces points pieces now f)
    | yes m ↦
        (let (p, h) = from_place now m in
        let b = h.begins in
        let r = h.piece.rises in
        all_from room (pieces ++ p ∷ []) (p.last + 1) (omega arith) (one_more points pieces p now f h))
  ]

  -- the path has a split into such pieces, with short numbers
  pub pieces_exist : (pieces : List Piece) × ArePieces points pieces × AreShortPieces pieces
  pieces_exist = all_from (length points) [] 0 (omega arith) none_yet
