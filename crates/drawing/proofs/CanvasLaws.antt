-- One more dab on a grid: the place at which it is laid shows the nearer of two cells, and each other place what it showed.
-- Laws of lists and points; the program stands in none.
use Rattle.std.proofs.Common.{◌≡◌, ◌≢◌, ◌<◌, ◌≤◌, ◌+◌, subst, inl, inr, ℕ, suc, append_assoc, Bool, true, false, List, [], ◌∷◌, ◌++◌, length, map, take, Option}
use Rattle.std.proofs.Common.{None, get_or, set, replicate, refl, ap, sym, ◌∙◌, arith}
use Rattle.std.specs.Prelude.{filter, fold, flat_map, cond}
use Rattle.std.proofs.Math.Seq.{take-suc}
use Rattle.std.proofs.lemmas.Bool.{cases_Bool, cond-true, cond-false}
use Rattle.std.proofs.lemmas.List.{append-nil, map-append, get_or_default, take_all}
use Rattle.std.proofs.lemmas.List.Elements.{filter-append}
use Rattle.std.proofs.lemmas.Grind.{fold-append, flat_map-append}
use Rattle.shape_terms.specs.Points.{Point, in_box, box_points, box_count, raster_number, raster_point}
use Rattle.shape_terms.proofs.Boxes.{raster_number-raster_point}
use Rattle.shape_terms.proofs.BoxLists.{length-box_points, get_or-box_points}
use Rattle.report_lines.specs.Said.{is_same_point}
use Rattle.report_lines.proofs.SamePoints.{same_yes, same_not}
use Rattle.report_lines.proofs.BoxValues.{value_of, values_same, values_equal, values_with}
use Rattle.shape_space.specs.declared.point.P2.{P2}
use Rattle.drawing.specs.Seen.{flat, flats}
use Rattle.drawing.specs.Inks.{has_ink}
use Rattle.drawing.specs.declared.cell.Cell.{Cell}
use Rattle.drawing.specs.Canvas.{Dab, Canvas, nearer, cells_at, shown, canvas_of, cell_at, laid_on, laid_all}

-- ---- no dab

pub blank_canvas : (sides : List ℕ) → replicate (box_count sides) None ≡ (canvas_of sides []).cells
blank_canvas sides = values_equal sides (shown []) None (λ p. refl)

-- ---- one dab more

-- what a place shows with one dab more
shown_more : (dabs : List Dab) (d : Dab) (q : Point) (b : Bool) → is_same_point q d.place ≡ b
    → shown (dabs ++ d ∷ []) q ≡ fold nearer (shown dabs q) (map (λ (d : Dab). d.cell) (cond b (d ∷ []) []))
shown_more dabs d q b e =
    let at = λ (x : Dab). is_same_point q x.place in
    ap (λ ds. fold nearer None (map (λ (x : Dab). x.cell) ds)) (filter-append at dabs (d ∷ []) ∙ ap (λ t. filter at dabs ++ cond t (d ∷ []) []) e)
    ∙ ap (fold nearer None) (map-append (λ (x : Dab). x.cell) (filter at dabs) (cond b (d ∷ []) []))
    ∙ fold-append nearer None (cells_at dabs q) (map (λ (x : Dab). x.cell) (cond b (d ∷ []) []))

shown_there : (dabs : List Dab) (d : Dab) (q : Point) → q ≡ d.place → shown (dabs ++ d ∷ []) q ≡ nearer (shown dabs q) d.cell
shown_there dabs d q e = shown_more dabs d q true (same_yes q d.place e)

shown_elsewhere : (dabs : List Dab) (d : Dab) (q : Point) → q ≢ d.place → shown (dabs ++ d ∷ []) q ≡ shown dabs q
shown_elsewhere dabs d q n = shown_more dabs d q false (same_not q d.place n)

-- the grid with one dab more
pub one_dab : (sides : List ℕ) (dabs : List Dab) (d : Dab) → laid_on (canvas_of sides dabs) d ≡ canvas_of sides (dabs ++ d ∷ [])
one_dab sides dabs d =
    let C = canvas_of sides dabs in
    let laid : Canvas = record { sides = sides; cells = set C.cells (raster_number sides d.place) (nearer (cell_at C d.place) d.cell) } in
    elim (cases_Bool (in_box sides d.place)) [
      | inl y ↦
          cond-true (in_box sides d.place) laid C y
          ∙ ap (λ v. record { sides = sides; cells = v }) (values_with sides (shown dabs) (shown (dabs ++ d ∷ [])) d.place (nearer (cell_at C d.place) d.cell) y
          (shown_there dabs d d.place refl ∙ ap (λ o. nearer o d.cell) (sym (value_of sides (shown dabs) d.place None y))) (λ p n. shown_elsewhere dabs d p n))
      | inr f ↦
          cond-false (in_box sides d.place) laid C f
          ∙ ap (λ v. record { sides = sides; cells = v })
          (values_same sides (shown dabs) (shown (dabs ++ d ∷ []))
          (λ p i. sym (shown_elsewhere dabs d p (λ e. let g : in_box sides d.place ≡ true = ap (in_box sides) (sym e) ∙ i in let z = sym g ∙ f in cc))))
    ]

-- the grid with more dabs
pub more_dabs : (sides : List ℕ) (dabs more : List Dab) → laid_all (canvas_of sides dabs) more ≡ canvas_of sides (dabs ++ more)
more_dabs sides dabs [] = ap (canvas_of sides) (sym (append-nil dabs))
more_dabs sides dabs (d ∷ more) =
    ap (λ C. laid_all C more) (one_dab sides dabs d) ∙ more_dabs sides (dabs ++ d ∷ []) more ∙ ap (canvas_of sides) (append_assoc dabs (d ∷ []) more)

-- ---- places in raster order

-- the next place of the box
pub next_place : (sides : List ℕ) (i : ℕ) → i < box_count sides → take (i + 1) (box_points sides) ≡ take i (box_points sides) ++ raster_point sides i ∷ []
next_place sides i l =
    let e : i + 1 ≡ suc i = omega arith in
    ap (λ k. take k (box_points sides)) e ∙ take-suc (box_points sides) i [] (omega (arith, length-box_points sides))
    ∙ ap (λ p. take i (box_points sides) ++ p ∷ []) (get_or-box_points sides i [] l)

-- what passes among the first places, with one place more
pub next_passes : (p : Point → Bool) (sides : List ℕ) (i : ℕ) (b : Bool) → i < box_count sides → p (raster_point sides i) ≡ b
    → filter p (take (i + 1) (box_points sides)) ≡ filter p (take i (box_points sides)) ++ cond b (raster_point sides i ∷ []) []
next_passes p sides i b l e =
    ap (filter p) (next_place sides i l) ∙ filter-append p (take i (box_points sides)) (raster_point sides i ∷ [])
    ∙ ap (λ t. filter p (take i (box_points sides)) ++ cond t (raster_point sides i ∷ []) []) e

-- what is made of the first places, with one place more
pub next_pieces : {A : Type 0} (f : Point → List A) (sides : List ℕ) (i : ℕ) → i < box_count sides
    → flat_map f (take (i + 1) (box_points sides)) ≡ flat_map f (take i (box_points sides)) ++ f (raster_point sides i)
next_pieces f sides i l =
    ap (flat_map f) (next_place sides i l) ∙ flat_map-append f (take i (box_points sides)) (raster_point sides i ∷ [])
    ∙ ap (λ t. flat_map f (take i (box_points sides)) ++ t) (append-nil (f (raster_point sides i)))

-- the cell with a raster number
pub cell_there : (C : Canvas) (i : ℕ) (x : Option Cell) → i < box_count C.sides → length C.cells ≡ box_count C.sides → x ≡ get_or C.cells i x
    → cell_at C (raster_point C.sides i) ≡ x
cell_there C i x l n e =
    ap (λ k. get_or C.cells k None) (raster_number-raster_point C.sides i l) ∙ get_or_default C.cells i None x (omega arith) ∙ sym e

-- of a grid V that is seen as C: a place that shows an ink is one more of those that do
module _ (V C : Canvas) (colour shade i : ℕ) (x : Option Cell) (same : V ≡ C) (within : i < box_count V.sides) (filled : length V.cells ≡ box_count V.sides)
    (there : x ≡ get_or V.cells i x) where
  shows : (b : Bool) → b ≡ has_ink colour shade x → filter (λ q. has_ink colour shade (cell_at C q)) (take (i + 1) (box_points C.sides))
      ≡ filter (λ q. has_ink colour shade (cell_at C q)) (take i (box_points C.sides)) ++ cond b (raster_point V.sides i ∷ []) []
  shows b e =
      let P : Canvas → Type 0 = λ D. filter (λ q. has_ink colour shade (cell_at D q)) (take (i + 1) (box_points D.sides))
      ≡ filter (λ q. has_ink colour shade (cell_at D q)) (take i (box_points D.sides)) ++ cond b (raster_point V.sides i ∷ []) [] in
      subst P same (next_passes (λ q. has_ink colour shade (cell_at V q)) V.sides i b within
      (ap (has_ink colour shade) (cell_there V i x within filled there) ∙ sym e))

  pub one_shows : (ps : List P2) (p : P2) → true ≡ has_ink colour shade x → flat p ≡ raster_point V.sides i
      → flats ps ≡ filter (λ q. has_ink colour shade (cell_at C q)) (take i (box_points C.sides))
      → flats (ps ++ p ∷ []) ≡ filter (λ q. has_ink colour shade (cell_at C q)) (take (i + 1) (box_points C.sides))
  one_shows ps p e f h = map-append flat ps (p ∷ []) ∙ (λ k. h k ++ f k ∷ []) ∙ sym (shows true e)

  pub none_shows : (ps : List P2) → false ≡ has_ink colour shade x → flats ps ≡ filter (λ q. has_ink colour shade (cell_at C q)) (take i (box_points C.sides))
      → flats ps ≡ filter (λ q. has_ink colour shade (cell_at C q)) (take (i + 1) (box_points C.sides))
  none_shows ps e h = h ∙ sym (append-nil _) ∙ sym (shows false e)

-- all places of the box
pub all_places : (V C : Canvas) (i : ℕ) → V ≡ C → box_count V.sides ≤ i → take i (box_points C.sides) ≡ box_points C.sides
all_places V C i e l = take_all i (box_points C.sides) (omega (arith, l, length-box_points C.sides, ap (λ (D : Canvas). box_count D.sides) e))

-- the dabs of one point of the box more
pub next_dabs : (f : Point → List Dab) (sides : List ℕ) (i : ℕ) (old mid new : Canvas) (p : Point) → i < box_count sides
    → mid ≡ laid_all old (flat_map f (take i (box_points sides))) → new ≡ laid_all mid (f p) → p ≡ raster_point sides i
    → new ≡ laid_all old (flat_map f (take (i + 1) (box_points sides)))
next_dabs f sides i old mid new p l m n e =
    n ∙ ap (λ q. laid_all mid (f q)) e ∙ ap (λ C. laid_all C (f (raster_point sides i))) m
    ∙ sym (fold-append laid_on old (flat_map f (take i (box_points sides))) (f (raster_point sides i)))
    ∙ ap (laid_all old) (sym (next_pieces f sides i l))
