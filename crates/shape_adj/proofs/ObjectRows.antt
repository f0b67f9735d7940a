-- A row of values for the places of the framed box, all true at first, while the object points are taken out of it one after the
-- other. The points of one row of the box have places in order, so one place tells the others.
use Rattle.std.proofs.Common.{◌≡◌, ◌+◌, ◌-◌, ◌*◌, ◌/◌, ◌%◌, ◌<◌, ◌≤◌, ◌↔◌, ℕ, Bool, true, false, ℤ, pos, ◌+ℤ◌, List, [], ◌∷◌, length, get_or}
use Rattle.std.proofs.Common.{sym, ◌∙◌, ap, arith}
use Rattle.std.specs.Prelude.{nat_abs, ◌≤ℤ◌}
use Rattle.std.proofs.lemmas.Int.{ints}
use Rattle.std.proofs.lemmas.Bool.{and_parts, false_from_ne_true}
use native.Mathlib.Decide.{dec_lt}
use Rattle.shape_terms.specs.Points.{Point, coordinate, sides_of, in_box, box_count, raster_number, raster_point}
use Rattle.shape_terms.specs.Pictures.{Picture, at}
use Rattle.shape_terms.specs.FramedBox.{framed_sides, framed_point}
use Rattle.shape_terms.proofs.Boxes.{mod_of, div_of, raster_point_in, raster_point-raster_number}
use Rattle.shape_terms.proofs.BoxLists.{at_raster_point}
use Rattle.shape_terms.specs.Places.{framed_number, BackgroundPlace}
use Rattle.shape_terms.proofs.FramedEnds.{in_box_in_frame}
use Rattle.shape_terms.proofs.FramedNumbers.{framed_number_below, framed_point-framed_number, framed_number-framed_point}
use Rattle.shape_grid.specs.Truths.{IsFirstTrue}
use Rattle.shape_grid.specs.Runs.{IsRunEnd, IsFilled}
use Rattle.shape_adj.specs.Todo.{Marked}
use Rattle.shape_adj.specs.Rows.{placed, IsRow}
use Rattle.shape_adj.proofs.OpenLinks.{marked_within}
use Rattle.shape_adj.proofs.Relabelling.{left_true, still_true}
use Rattle.shape_adj.proofs.Entering.{row_first, row_inside}

-- ---- one row of the box

up : (x : ℕ) → nat_abs (pos x +ℤ pos 1) ≡ x + 1
up x = omega (arith, ints)

row_step : (n : ℕ) (sides : List ℕ) (i j : ℕ) → 1 ≤ n → i ≤ j → j < i - i % n + n → placed (n ∷ sides) j ≡ placed (n ∷ sides) i + (j - i)
row_step n sides i j some l h =
    let q = i / n in
    let x = j - n * q in
    let low : x < n = omega arith in
    let e : x + n * q ≡ j = omega arith in
    let d : j / n ≡ q = ap (λ v. v / n) (sym e) ∙ div_of n x q low in
    let m : j % n ≡ x = ap (λ v. v % n) (sym e) ∙ mod_of n x q low in
    rw (d, m) (sums (nat_abs (pos x +ℤ pos 1)) (nat_abs (pos (i % n) +ℤ pos 1)) ((n + 2) * framed_number sides (raster_point sides q)) (j - i)
    (omega (arith, up x, up (i % n))))
  where
    sums : (a b r s : ℕ) → a ≡ b + s → a + r ≡ b + r + s
    sums a b r s e = omega arith

-- the rest of the row of a point of the box
pub row_from : (ns : Point) (i : ℕ) (side : ℤ) (end place : ℕ) → 1 ≤ length ns → side ≡ coordinate ns 0 → pos 1 ≤ℤ side
    → end ≡ i - i % nat_abs side + nat_abs side → place ≡ placed (sides_of ns) i → IsRow (sides_of ns) i end place
row_from [] i side end place long e some f p = absurd (omega arith)
row_from (x ∷ ns) i side end place long e some f p =
    rw (f, p, e) (record { each = λ j l h. row_step (nat_abs x) (sides_of ns) i j (let a : pos 1 ≤ℤ x = rw e at some in omega (arith, ints)) l h })

-- ---- the row of values

-- the places of the object points with raster numbers below n have the value false, and all others the value true
pub record IsCleared (X : Picture) (n : ℕ) (values : List Bool) : Type 0 where
  pub filled : length values ≡ box_count (framed_sides X.sides)
  pub exactly : (k : ℕ) → Marked values k ↔ ((k < box_count (framed_sides X.sides)) × ((i : ℕ) → i < n → Marked X.values i → placed X.sides i ≡ k → ⊥))

pub clear_start : (X : Picture) (values : List Bool) → length values ≡ box_count (framed_sides X.sides) → ((k : ℕ) → k < length values → Marked values k)
    → IsCleared X 0 values
clear_start X values e all = record {
  filled = e;
  exactly = λ k. (
    (λ m. (let l = marked_within values k m in omega arith, λ i l. absurd (omega arith))),
    λ h. all k (let l = h.0 in omega arith),
  );
}

-- the place of a point of the box
pub placed_below : (sides : List ℕ) (i : ℕ) → i < box_count sides → placed sides i < box_count (framed_sides sides)
placed_below sides i l = framed_number_below sides (raster_point sides i) (in_box_in_frame sides (raster_point sides i) (raster_point_in sides i l))

-- a run of true values of a row is cleared
module _ (X : Picture) (n s end until place : ℕ) (values values' : List Bool) (full : length X.values ≡ box_count X.sides) (w : IsCleared X n values)
    (f : IsFirstTrue X.values n s) (e : IsRunEnd X.values true s end until) (row : IsRow X.sides s end place) (behind : s < end)
    (within : end ≤ box_count X.sides) where
  -- it has a place at least
  pub run_some : s < until
  run_some = elim (dec_lt s until) [
    | yes l ↦ l
    | no l ↦ absurd (
        let a = e.on in
        let i : until ≡ s = omega arith in
        let z : get_or X.values s false ≡ false = sym (ap (λ j. get_or X.values j false) i) ∙ e.stop (omega arith) in
        let t : false ≡ true = sym z ∙ f.there in cc)
  ]

  pub run_within : place + (until - s) ≤ length values
  run_within =
      let a = run_some in
      let b = e.within in
      let p = row.each (until - 1) (omega arith) (omega arith) in
      let q = placed_below X.sides (until - 1) (omega arith) in
      let l = w.filled in
      omega arith

  pub clear_run : IsFilled values values' place (place + (until - s)) false → IsCleared X until values'
  clear_run c = record {
    filled = c.room ∙ w.filled;
    exactly = λ k. (
      (λ m.
          let u = left_true values values' place (place + (until - s)) c k m in
          let v = (w.exactly k).0 u.0 in (
            v.0,
            λ i l t p. elim (dec_lt i n) [
              | yes a ↦ v.1 i a t p
              | no a ↦ elim (dec_lt i s) [
                | yes d ↦ (let z : false ≡ true = sym (f.first i (omega arith) d) ∙ t in cc)
                | no d ↦
                    (let b = e.within in let q = row.each i (omega arith) (omega arith) in u.1 (omega arith) (omega arith))
              ]
            ],
          )),
      λ h. still_true values values' place (place + (until - s)) c k
          ((w.exactly k).1 (h.0, λ i l. h.1 i (let a = f.on in let b = run_some in omega arith)))
          (λ a b.
          let i : s + (k - place) < until = omega arith in
          let d = e.within in
          let q = row.each (s + (k - place)) (omega arith) (omega arith) in
          h.1 (s + (k - place)) i (e.each (s + (k - place)) (omega arith) i) (omega arith)),
    );
  }

module _ (X : Picture) (n : ℕ) (values : List Bool) (full : length X.values ≡ box_count X.sides) (w : IsCleared X n values) where
  pub clear_end : ((k : ℕ) → n ≤ k → get_or X.values k false ≡ false) → (k : ℕ) → Marked values k ↔ BackgroundPlace X k
  clear_end none k = (
    (λ m.
        let u = (w.exactly k).0 m in
        let p = framed_point X.sides k in
        let i = raster_number X.sides p in (
          u.0,
          false_from_ne_true (at X p) (λ t.
              let b = and_parts (in_box X.sides p) (get_or X.values i false) t in
              elim (dec_lt i n) [
                | yes l ↦ u.1 i l b.1 (ap (framed_number X.sides) (raster_point-raster_number X.sides p b.0) ∙ framed_number-framed_point X.sides k u.0)
                | no l ↦ (let z : false ≡ true = sym (none i (omega arith)) ∙ b.1 in cc)
              ]),
        )),
    λ h. (w.exactly k).1 (
      h.0,
      λ i l t e.
          let b : i < box_count X.sides = (let c = marked_within X.values i t in omega arith) in
          let back : framed_point X.sides k ≡ raster_point X.sides i = ap (framed_point X.sides) (sym e)
          ∙ framed_point-framed_number X.sides (raster_point X.sides i) (in_box_in_frame X.sides (raster_point X.sides i) (raster_point_in X.sides i b)) in
          let z : false ≡ true = sym h.1 ∙ (ap (at X) back ∙ (at_raster_point X i b ∙ t)) in cc,
    ),
  )

-- a row of the box ends in it
pub row_end_within : (ns : Point) (i : ℕ) (side : ℤ) (end : ℕ) → 1 ≤ length ns → side ≡ coordinate ns 0 → pos 1 ≤ℤ side
    → end ≡ i - i % nat_abs side + nat_abs side → i < box_count (sides_of ns) → end ≤ box_count (sides_of ns)
row_end_within [] i side end long e some f l = absurd (omega arith)
row_end_within (x ∷ ns) i side end long e some f l =
    let a : pos 1 ≤ℤ x = rw e at some in
    let one : 1 ≤ nat_abs x = omega (arith, ints) in
    let u = row_first (nat_abs x) i one in
    let g : end ≡ i - i % nat_abs x + nat_abs x = rw e at f in
    let z : 0 + nat_abs x * box_count (sides_of ns) ≡ nat_abs x * box_count (sides_of ns) = omega arith in
    let r = row_inside (nat_abs x * box_count (sides_of ns)) (nat_abs x) (i - i % nat_abs x) one
    (ap (λ v. v % nat_abs x) (sym z) ∙ mod_of (nat_abs x) 0 (box_count (sides_of ns)) one) u.0 (omega arith) in
    omega arith
