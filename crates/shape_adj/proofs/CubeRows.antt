-- The cube of the points around a point: its rows of three points beside one another, and the near neighbours, which are all but its centre.
-- Laws over plain lists and numbers; the loop over the rows goes by them.
use Rattle.std.proofs.Common.{◌≡◌, ◌⊎◌, inl, inr, ◌+◌, ◌-◌, ◌*◌, ◌/◌, ◌%◌, ◌<◌, ◌≤◌, ℕ, zero, suc, ℤ, pos, negsuc, ◌+ℤ◌, ◌-ℤ◌, Bool, false, List, [], ◌∷◌, ◌++◌}
use Rattle.std.proofs.Common.{length, get_or, take, drop, refl, ap, sym, ◌∙◌, subst, arith}
use Rattle.std.specs.Prelude.{IsTrue, nat_abs}
use Rattle.std.specs.List.{flat_map}
use Rattle.std.specs.Int.{bit_at}
use Rattle.std.proofs.lemmas.Int.{ints}
use Rattle.std.proofs.lemmas.List.{get_or-take, get_or-drop, get_or_append_left, get_or-append_right, length-take-le, length-map}
use native.Mathlib.Decide.{dec_lt, ℕ_discrete}
use Rattle.shape_terms.specs.Points.{Point, sides_of, in_box, raster_number, raster_point, box_count}
use Rattle.shape_terms.specs.Pictures.{Picture, at}
use Rattle.shape_terms.specs.Adjacency.{moved, origin, cube_steps, near_steps, near_step, near_point}
use Rattle.shape_terms.proofs.Boxes.{in_box_first, abs_is, raster_below, raster_point_in}
use Rattle.shape_terms.proofs.ShiftedSteps.{moved-origin}
use Rattle.shape_terms.proofs.ObjectPlaces.{length-raster_point}
use Rattle.shape_grid.specs.Truths.{AreThree}
use Rattle.shape_adj.specs.NearMasks.{near_total, IsNearMask, cube_total, cube_step, cube_point, IsCubeMask, IsRowMask}

-- ---- the centre

-- h near neighbours come before the centre of the cube
pub record IsCentre (d h : ℕ) : Type 0 where
  pub steps : near_steps d ≡ take h (cube_steps d) ++ drop (h + 1) (cube_steps d)
  pub origin : cube_step d h ≡ origin d
  pub half : near_total d ≡ 2 * h
  pub total : cube_total d ≡ near_total d + 1
  pub third : h % 3 ≡ 1

-- in the plane it has the number 4, in space the number 13
pub centre_of : (d : ℕ) → (d ≡ 2) ⊎ (d ≡ 3) → IsCentre d (near_total d / 2)
centre_of d (inl e) = rw e (record { steps = refl; origin = refl; half = refl; total = refl; third = refl })
centre_of d (inr e) = rw e (record { steps = refl; origin = refl; half = refl; total = refl; third = refl })

module _ (d h : ℕ) (c : IsCentre d h) where
  long : length (take h (cube_steps d)) ≡ h
  long = length-take-le h (cube_steps d) (let t = c.total in let u = c.half in omega arith)

  -- the near neighbours before the centre have the numbers of the cube
  pub near_before : (k : ℕ) → k < h → near_step d k ≡ cube_step d k
  near_before k l =
      ap (λ s. get_or s k []) c.steps ∙ get_or_append_left (take h (cube_steps d)) (drop (h + 1) (cube_steps d)) [] k (omega (arith, long))
      ∙ get_or-take h (cube_steps d) k [] l

  -- and those behind it one less
  pub near_behind : (k : ℕ) → h ≤ k → near_step d k ≡ cube_step d (k + 1)
  near_behind k l =
      let e : h + 1 + (k - h) ≡ k + 1 = omega arith in
      ap (λ s. get_or s k []) c.steps ∙ get_or-append_right (take h (cube_steps d)) (drop (h + 1) (cube_steps d)) h k [] long l
      ∙ get_or-drop (h + 1) (cube_steps d) (k - h) [] ∙ ap (λ j. get_or (cube_steps d) j []) e

  -- the near neighbour that begins a row
  pub row_begins : (r k : ℕ) → (3 * r ≤ h → k ≡ 3 * r) → (h < 3 * r → k + 1 ≡ 3 * r) → near_step d k ≡ cube_step d (3 * r)
  row_begins r k before behind = elim (dec_lt h (3 * r)) [
    | yes l ↦ (let e = behind l in near_behind k (omega arith) ∙ ap (cube_step d) e)
    | no l ↦ (
        let e = before (omega arith) in
        let t = c.third in
        near_before k (omega arith) ∙ ap (cube_step d) e)
  ]

-- ---- the rows

-- each step of the axes behind the first begins a row
row_step : (vs : List Point) (r b : ℕ) → r < length vs → b < 3 → get_or (flat_map (λ v. (negsuc 0 ∷ v) ∷ (pos 0 ∷ v) ∷ (pos 1 ∷ v) ∷ []) vs) (3 * r + b) []
    ≡ (pos b -ℤ pos 1) ∷ get_or vs r []
row_step [] r b l m = absurd (omega arith)
row_step (v ∷ vs) zero zero l m = refl
row_step (v ∷ vs) zero (suc zero) l m = refl
row_step (v ∷ vs) zero (suc (suc zero)) l m = refl
row_step (v ∷ vs) zero (suc (suc (suc b))) l m = absurd (omega arith)
row_step (v ∷ vs) (suc r) b l m = let e : 3 * suc r + b ≡ suc (suc (suc (3 * r + b))) = omega arith in rw e (row_step vs r b (omega arith) m)

-- each of them has three steps
rows : (vs : List Point) → length (flat_map (λ v. (negsuc 0 ∷ v) ∷ (pos 0 ∷ v) ∷ (pos 1 ∷ v) ∷ []) vs) ≡ 3 * length vs
rows [] = refl
rows (v ∷ vs) = omega (arith, rows vs)

-- the points b places behind the first of a row have numbers that are greater by b
beside : (n : ℕ) (sides : List ℕ) (x : ℤ) (q : Point) (b : ℕ) → IsTrue (in_box (n ∷ sides) ((x +ℤ (pos 0 -ℤ pos 1)) ∷ q))
    → raster_number (n ∷ sides) ((x +ℤ (pos b -ℤ pos 1)) ∷ q) ≡ raster_number (n ∷ sides) ((x +ℤ (pos 0 -ℤ pos 1)) ∷ q) + b
beside n sides x q b h =
    let f = in_box_first n sides (x +ℤ (pos 0 -ℤ pos 1)) q h in
    let one = abs_is (x +ℤ (pos 0 -ℤ pos 1)) f.0 in
    let two = abs_is (x +ℤ (pos b -ℤ pos 1)) (omega (arith, ints, f.0)) in
    let e : nat_abs (x +ℤ (pos b -ℤ pos 1)) ≡ nat_abs (x +ℤ (pos 0 -ℤ pos 1)) + b = omega (arith, ints) in
    omega arith

-- so the numbers of a row's points follow one another
pub row_number : (sides : List ℕ) (p : Point) (r b : ℕ) → 3 * r + 2 < cube_total (length p) → b < 3 → 0 < length p
    → IsTrue (in_box sides (cube_point p (3 * r)))
    → raster_number sides (cube_point p (3 * r + b)) ≡ raster_number sides (cube_point p (3 * r)) + b
row_number sides [] r b l m some h = absurd (omega arith)
row_number [] (x ∷ p) r b l m some h =
    let within : r < length (cube_steps (length p)) = omega (arith, rows (cube_steps (length p))) in
    let zeroth : 3 * r + 0 ≡ 3 * r = omega arith in
    let first : cube_point (x ∷ p) (3 * r) ≡ (x +ℤ (pos 0 -ℤ pos 1)) ∷ moved p (cube_step (length p) r) =
    ap (cube_point (x ∷ p)) (sym zeroth) ∙ ap (moved (x ∷ p)) (row_step (cube_steps (length p)) r 0 within (omega arith)) in
    let i : IsTrue (in_box [] ((x +ℤ (pos 0 -ℤ pos 1)) ∷ moved p (cube_step (length p) r))) = subst (λ (q : Point). IsTrue (in_box [] q)) first h in
    cc
row_number (n ∷ sides) (x ∷ p) r b l m some h =
    let within : r < length (cube_steps (length p)) = omega (arith, rows (cube_steps (length p))) in
    let zeroth : 3 * r + 0 ≡ 3 * r = omega arith in
    let first : cube_point (x ∷ p) (3 * r) ≡ (x +ℤ (pos 0 -ℤ pos 1)) ∷ moved p (cube_step (length p) r) =
    ap (cube_point (x ∷ p)) (sym zeroth) ∙ ap (moved (x ∷ p)) (row_step (cube_steps (length p)) r 0 within (omega arith)) in
    ap (raster_number (n ∷ sides)) (ap (moved (x ∷ p)) (row_step (cube_steps (length p)) r b within m))
    ∙ beside n sides x (moved p (cube_step (length p) r)) b (subst (λ (q : Point). IsTrue (in_box (n ∷ sides) q)) first h)
    ∙ ap (λ q. raster_number (n ∷ sides) q + b) (sym first)

-- ---- in a box that holds all near neighbours

module _ (sides : List ℕ) (p : Point) (h : ℕ) (c : IsCentre (length p) h) where
  -- the box holds the whole cube
  pub cube_inside : IsTrue (in_box sides p) → ((k : ℕ) → k < near_total (length p) → IsTrue (in_box sides (near_point p k)))
      → (j : ℕ) → j < cube_total (length p) → IsTrue (in_box sides (cube_point p j))
  cube_inside here inner j l =
      let t = c.total in
      let u = c.half in
      elim (ℕ_discrete j h) [
        | yes e ↦ subst (λ (q : Point). IsTrue (in_box sides q)) (sym (ap (cube_point p) e ∙ ap (moved p) c.origin ∙ moved-origin p)) here
        | no n ↦ elim (dec_lt j h) [
          | yes m ↦ subst (λ (q : Point). IsTrue (in_box sides q)) (ap (moved p) (near_before (length p) h c j m)) (inner j (omega arith))
          | no m ↦ (
              let e : j - 1 + 1 ≡ j = omega arith in
              subst (λ (q : Point). IsTrue (in_box sides q)) (ap (moved p) (near_behind (length p) h c (j - 1) (omega arith) ∙ ap (cube_step (length p)) e))
              (inner (j - 1) (omega arith)))
        ]
      ]

value_inside : (Y : Picture) (q : Point) → IsTrue (in_box Y.sides q) → at Y q ≡ get_or Y.values (raster_number Y.sides q) false
value_inside Y q h = rw h refl

-- p has n near neighbours, and the box holds the whole cube around it
pub record IsInner (sides : List ℕ) (p : Point) (n : ℕ) : Type 0 where
  pub centre : IsCentre (length p) (n / 2)
  pub all : n ≡ near_total (length p)
  pub some : 0 < length p
  pub inside : (j : ℕ) → j < cube_total (length p) → IsTrue (in_box sides (cube_point p j))

-- such is a point whose near neighbours are all in the box
pub inner_of : (lengths : Point) (i d total n : ℕ) → i < box_count (sides_of lengths) → length lengths ≡ d → (d ≡ 2) ⊎ (d ≡ 3) → total ≡ near_total d
    → n ≡ total
    → ((k : ℕ) → k < total → IsTrue (in_box (sides_of lengths) (near_point (raster_point (sides_of lengths) i) k)))
    → IsInner (sides_of lengths) (raster_point (sides_of lengths) i) n
inner_of lengths i d total n b axes two t e inner =
    let sides = sides_of lengths in
    let p = raster_point sides i in
    let f : length p ≡ d = length-raster_point sides i ∙ length-map lengths nat_abs ∙ axes in
    let all : n ≡ near_total (length p) = e ∙ t ∙ ap near_total (sym f) in
    let centre : IsCentre (length p) (n / 2) = subst (λ x. IsCentre (length p) (x / 2)) (sym all)
    (centre_of (length p) (subst (λ x. (x ≡ 2) ⊎ (x ≡ 3)) (sym f) two)) in
    record {
      centre = centre;
      all = all;
      some = elim two [ inl x ↦ omega arith | inr x ↦ omega arith ];
      inside = cube_inside sides p (n / 2) centre (raster_point_in sides i b) (λ k l. inner k (omega arith));
    }

module _ (sides : List ℕ) (p : Point) (n r : ℕ) (q : IsInner sides p n) (within : 3 * r ≤ n) where
  -- all of the row is in the cube
  row_within : 3 * r + 2 < cube_total (length p)
  row_within =
      let t = q.centre.total in
      let u = q.centre.half in
      let v = q.centre.third in
      let w = q.all in
      omega arith

  module _ (k : ℕ) (before : 3 * r ≤ n / 2 → k ≡ 3 * r) (behind : n / 2 < 3 * r → k + 1 ≡ 3 * r) where
    -- the near neighbour that begins the row is one
    pub begin_below : k < n
    begin_below =
        let v = q.centre.third in
        elim (dec_lt (n / 2) (3 * r)) [ yes l ↦ (let e = behind l in omega arith) | no l ↦ (let e = before (omega arith) in omega arith) ]

    -- and its number is that of the first point of the row
    begin_number : (i : ℕ) → i ≡ raster_number sides (near_point p k) → i ≡ raster_number sides (cube_point p (3 * r))
    begin_number i e = e ∙ ap (λ v. raster_number sides (moved p v)) (row_begins (length p) (n / 2) q.centre r k before behind)

    -- the row ends in the box
    pub row_fits : (i : ℕ) → i ≡ raster_number sides (near_point p k) → i + 2 < box_count sides
    row_fits i e =
        let f = begin_number i e in
        let m = row_number sides p r 2 row_within (omega arith) q.some (q.inside (3 * r) (omega (arith, row_within))) in
        let b = raster_below sides (cube_point p (3 * r + 2)) (q.inside (3 * r + 2) row_within) in
        omega arith

    -- three values in a row are those of the row's points
    pub row_values : (values : List Bool) (i t : ℕ) → i ≡ raster_number sides (near_point p k) → AreThree values i t
        → IsRowMask (record { sides = sides; values = values }) p r t
    row_values values i t e three b = ((λ j. let a = (three b).0 j in (a.0, value a.0 ∙ a.1)), λ j. (three b).1 (j.0, sym (value j.0) ∙ j.1))
      where
        value : b < 3 → at (record { sides = sides; values = values }) (cube_point p (3 * r + b)) ≡ get_or values (i + b) false
        value m =
            let f : raster_number sides (cube_point p (3 * r + b)) ≡ i + b =
            row_number sides p r b row_within m q.some (q.inside (3 * r) (omega (arith, row_within))) ∙ ap (λ s. s + b) (sym (begin_number i e)) in
            value_inside (record { sides = sides; values = values }) (cube_point p (3 * r + b)) (q.inside (3 * r + b) (omega (arith, row_within)))
            ∙ ap (λ s. get_or values s false) f

-- the cube without its centre
pub near_mask : (Y : Picture) (p : Point) (h cube m : ℕ) → IsCentre (length p) h → IsCubeMask Y p cube → ((k : ℕ) → k < h → bit_at m k ≡ bit_at cube k)
    → ((k : ℕ) → h ≤ k → bit_at m k ≡ bit_at cube (k + 1)) → IsNearMask Y p m
near_mask Y p h cube m c is before behind k =
    let t = c.total in
    let u = c.half in
    elim (dec_lt k h) [
      | yes l ↦ (
          let same : at Y (near_point p k) ≡ at Y (cube_point p k) = ap (λ v. at Y (moved p v)) (near_before (length p) h c k l) in
          ((λ i. (omega arith, same ∙ ((is k).0 (sym (before k l) ∙ i)).1)), λ i. before k l ∙ (is k).1 (omega arith, sym same ∙ i.1)))
      | no l ↦ (
          let o : h ≤ k = omega arith in
          let same : at Y (near_point p k) ≡ at Y (cube_point p (k + 1)) = ap (λ v. at Y (moved p v)) (near_behind (length p) h c k o) in (
            (λ i. let a = (is (k + 1)).0 (sym (behind k o) ∙ i) in (let b = a.0 in omega arith, same ∙ a.1)),
            λ i. let b = i.0 in behind k o ∙ (is (k + 1)).1 (omega arith, sym same ∙ i.1),
          ))
    ]
