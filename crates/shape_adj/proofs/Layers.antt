-- Points of a box one step apart on an axis, by their raster numbers.
-- Laws over lists of sides and numbers alone.
use Rattle.std.proofs.Common.{◌≡◌, ℕ, zero, suc, ◌+◌, ◌*◌, ◌/◌, ◌%◌, ◌<◌, ◌≤◌, Bool, true, false, List, [], ◌∷◌, length, refl, ap, sym, subst, ◌∙◌, arith}
use Rattle.std.proofs.Common.{mul_comm, zero-add}
use Rattle.std.specs.Prelude.{nat_abs, ℤ, pos, negsuc, ◌+ℤ◌, IsTrue, slice_index_or}
use Rattle.std.proofs.lemmas.Int.{ints}
use Rattle.std.proofs.lemmas.Nat.{mul-le, div_below}
use Rattle.std.proofs.Math.Nat.{add-mul-mod_self_left, add-mul-div_left, mod-eq_of_lt, div-eq_of_lt, div-one, div-div-eq-div-mul, div-lt_iff_lt-mul, mul_assoc}
use Rattle.std.proofs.Math.Nat.{mul-div-le}
use native.Mathlib.Decide.{dec_lt}
use Rattle.std.proofs.lemmas.List.{length-map}
use Rattle.shape_terms.specs.Points.{Point, coordinate, sides_of, in_box, box_count, raster_point}
use Rattle.shape_terms.specs.Adjacency.{moved, along}
use Rattle.shape_terms.proofs.Boxes.{some_side, in_box_first, mod_of, div_of}
use Rattle.shape_adj.specs.FacePoints.{gap_of}

unmoved : (p : Point) → moved p [] ≡ p
unmoved [] = refl
unmoved (x ∷ p) = refl

-- ---- quotients and remainders

-- the number after i, where it has the same quotient
next_rest : (n i : ℕ) → i % n + 1 < n → (i + 1) % n ≡ i % n + 1
next_rest n i l = let e : i + 1 ≡ i % n + 1 + n * (i / n) = omega arith in ap (λ (x : ℕ). x % n) e ∙ mod_of n (i % n + 1) (i / n) l

next_quotient : (n i : ℕ) → i % n + 1 < n → (i + 1) / n ≡ i / n
next_quotient n i l = let e : i + 1 ≡ i % n + 1 + n * (i / n) = omega arith in ap (λ (x : ℕ). x / n) e ∙ div_of n (i % n + 1) (i / n) l

-- a number below a product
below_product : (n m i : ℕ) → 0 < n → i / n < m → i < n * m
below_product n m i s l = let a = (div-lt_iff_lt-mul {k = n} {x = i} {y = m} s).0 l in omega (arith, mul_comm n m, a)

quotient_below : (n m i : ℕ) → 0 < n → i < n * m → i / n < m
quotient_below n m i s l = div_below i n m s (let c = mul_comm n m in omega (arith, l, c))

-- ---- one step on and back

-- j is the number of the point one step on along the axis k from the point with the number i
pub record IsNext (sides : List ℕ) (k i j : ℕ) : Type 0 where
  pub bounded : j < box_count sides
  pub on : raster_point sides j ≡ moved (raster_point sides i) (along k (pos 1))
  pub back : raster_point sides i ≡ moved (raster_point sides j) (along k (negsuc 0))

up_one : (a : ℕ) → pos (a + 1) ≡ pos a +ℤ pos 1
up_one a = omega (arith, ints)

down_one : (a : ℕ) → pos a ≡ pos (a + 1) +ℤ negsuc 0
down_one a = omega (arith, ints)

still : (a : ℕ) → pos a ≡ pos a +ℤ pos 0
still a = omega (arith, ints)

cons : (x y : ℤ) (p q : Point) → x ≡ y → p ≡ q → x ∷ p ≡ y ∷ q
cons x y p q e f = λ i. e i ∷ f i

next_on : (sides : List ℕ) (k i : ℕ) → k < length sides → i < box_count sides → i / gap_of sides k % slice_index_or sides k 0 + 1 < slice_index_or sides k 0
    → IsNext sides k i (i + gap_of sides k)
next_on [] k i l b h = absurd (omega arith)
next_on (n ∷ sides) zero i l b h =
    let e : i % n + 1 < n = subst (λ (x : ℕ). x % n + 1 < n) (div-one i) h in
    let r = next_rest n i e in
    let q = next_quotient n i e in
    let m : i / n < box_count sides = quotient_below n (box_count sides) i (omega (arith, e)) b in
    record {
      bounded = below_product n (box_count sides) (i + 1) (omega (arith, e)) (rw q m);
      on = cons (pos ((i + 1) % n)) (pos (i % n) +ℤ pos 1) (raster_point sides ((i + 1) / n)) (moved (raster_point sides (i / n)) [])
          (ap pos r ∙ up_one (i % n)) (ap (raster_point sides) q ∙ sym (unmoved (raster_point sides (i / n))));
      back = cons (pos (i % n)) (pos ((i + 1) % n) +ℤ negsuc 0) (raster_point sides (i / n)) (moved (raster_point sides ((i + 1) / n)) [])
          (down_one (i % n) ∙ ap (λ (x : ℕ). pos x +ℤ negsuc 0) (sym r)) (ap (raster_point sides) (sym q) ∙ sym (unmoved (raster_point sides ((i + 1) / n))));
    }
next_on (n ∷ sides) (suc k) i l b h =
    let s : 0 < n = some_side n (box_count sides) i b in
    let g = gap_of sides k in
    let m : i / n < box_count sides = quotient_below n (box_count sides) i s b in
    let t : i / n / g % slice_index_or sides k 0 + 1 < slice_index_or sides k 0 = subst (λ (x : ℕ). x % slice_index_or sides k 0 + 1 < slice_index_or sides k 0)
    (sym (div-div-eq-div-mul i n g)) h in
    let w = next_on sides k (i / n) (omega arith) m t in
    let r : (i + n * g) % n ≡ i % n = add-mul-mod_self_left i n g in
    let q : (i + n * g) / n ≡ i / n + g = add-mul-div_left i g s in
    record {
      bounded = below_product n (box_count sides) (i + n * g) s (rw q w.bounded);
      on = cons (pos ((i + n * g) % n)) (pos (i % n) +ℤ pos 0) (raster_point sides ((i + n * g) / n)) (moved (raster_point sides (i / n)) (along k (pos 1)))
          (ap pos r ∙ still (i % n)) (ap (raster_point sides) q ∙ w.on);
      back = cons (pos (i % n)) (pos ((i + n * g) % n) +ℤ pos 0) (raster_point sides (i / n))
          (moved (raster_point sides ((i + n * g) / n)) (along k (negsuc 0))) (still (i % n) ∙ ap (λ (x : ℕ). pos x +ℤ pos 0) (sym r))
          (w.back ∙ ap (λ (x : ℕ). moved (raster_point sides x) (along k (negsuc 0))) (sym q));
    }

-- ---- out of the box

not_true : (b : Bool) → (b ≡ true → ⊥) → b ≡ false
not_true false h = refl
not_true true h = absurd (h refl)

true_or_false : (b : Bool) → b ≡ false → b ≡ true → ⊥
true_or_false b e f = let z : false ≡ true = sym e ∙ f in cc

-- the last point on the axis has no point one step on in the box
last_out : (sides : List ℕ) (k i : ℕ) → k < length sides → i < box_count sides → slice_index_or sides k 0 ≤ i / gap_of sides k % slice_index_or sides k 0 + 1
    → in_box sides (moved (raster_point sides i) (along k (pos 1))) ≡ false
last_out [] k i l b h = absurd (omega arith)
last_out (n ∷ sides) zero i l b h = not_true _ (λ t.
    let e : n ≤ i % n + 1 = subst (λ (x : ℕ). n ≤ x % n + 1) (div-one i) h in
    let u = subst (λ (x : ℤ). IsTrue (in_box (n ∷ sides) (x ∷ moved (raster_point sides (i / n)) []))) (sym (up_one (i % n))) t in
    let f = (in_box_first n sides (pos (i % n + 1)) (moved (raster_point sides (i / n)) []) u).1 in
    omega (arith, e, f))
last_out (n ∷ sides) (suc k) i l b h = not_true _ (λ t.
    let s : 0 < n = some_side n (box_count sides) i b in
    let m : i / n < box_count sides = quotient_below n (box_count sides) i s b in
    let u = (in_box_first n sides (pos (i % n) +ℤ pos 0) (moved (raster_point sides (i / n)) (along k (pos 1))) t).2 in
    true_or_false (in_box sides (moved (raster_point sides (i / n)) (along k (pos 1))))
    (last_out sides k (i / n) (omega arith) m
    (subst (λ (x : ℕ). slice_index_or sides k 0 ≤ x % slice_index_or sides k 0 + 1) (sym (div-div-eq-div-mul i n (gap_of sides k))) h)) u)

-- and the first one has none one step back
first_out : (sides : List ℕ) (k i : ℕ) → k < length sides → i < box_count sides → i / gap_of sides k % slice_index_or sides k 0 ≡ 0
    → in_box sides (moved (raster_point sides i) (along k (negsuc 0))) ≡ false
first_out [] k i l b h = absurd (omega arith)
first_out (n ∷ sides) zero i l b h = not_true _ (λ t.
    let e : i % n ≡ 0 = subst (λ (x : ℕ). x % n ≡ 0) (div-one i) h in
    let u = subst (λ (x : ℕ). IsTrue (in_box (n ∷ sides) ((pos x +ℤ negsuc 0) ∷ moved (raster_point sides (i / n)) []))) e t in
    let f = (in_box_first n sides (pos 0 +ℤ negsuc 0) (moved (raster_point sides (i / n)) []) u).0 in
    omega (arith, ints, f))
first_out (n ∷ sides) (suc k) i l b h = not_true _ (λ t.
    let s : 0 < n = some_side n (box_count sides) i b in
    let m : i / n < box_count sides = quotient_below n (box_count sides) i s b in
    let u = (in_box_first n sides (pos (i % n) +ℤ pos 0) (moved (raster_point sides (i / n)) (along k (negsuc 0))) t).2 in
    true_or_false (in_box sides (moved (raster_point sides (i / n)) (along k (negsuc 0))))
    (first_out sides k (i / n) (omega arith) m (subst (λ (x : ℕ). x % slice_index_or sides k 0 ≡ 0) (sym (div-div-eq-div-mul i n (gap_of sides k))) h)) u)

-- ---- the numbers of a block, which has each coordinate of the axis

-- the coordinate of the number at the place y of a block
block_coordinate : (g s o y : ℕ) → 0 < g → y < g * s → (y + g * s * o) / g % s ≡ y / g
block_coordinate g s o y p l =
    let e : y + g * s * o ≡ y + g * (s * o) = ap (λ (x : ℕ). y + x) (mul_assoc g s o) in
    ap (λ (x : ℕ). x / g % s) e ∙ ap (λ (x : ℕ). x % s) (add-mul-div_left y (s * o) p) ∙ add-mul-mod_self_left (y / g) s o
    ∙ mod-eq_of_lt (quotient_below g s y p l)

inner_place : (g s y : ℕ) → 0 < g → y + g < g * s → y / g + 1 < s
inner_place g s y p l = let e : (y + g * 1) / g ≡ y / g + 1 = add-mul-div_left y 1 p in let a = quotient_below g s (y + g * 1) p (omega (arith, l)) in
    omega (arith, e, a)

outer_place : (g s y : ℕ) → 0 < g → g * s ≤ y + g → s ≤ y / g + 1
outer_place g s y p l = elim (dec_lt (y / g + 1) s) [
  | yes b ↦ absurd (let e : (y + g * 1) / g ≡ y / g + 1 = add-mul-div_left y 1 p in let a = below_product g s (y + g * 1) p (rw e b) in omega (arith, l, a))
  | no b ↦ omega (arith, b)
]

module _ (sides : List ℕ) (k : ℕ) (axis : k < length sides) (o y : ℕ) (below : y + gap_of sides k * slice_index_or sides k 0 * o < box_count sides)
    (some : 0 < gap_of sides k) (place : y < gap_of sides k * slice_index_or sides k 0) where
  block_next : y + gap_of sides k < gap_of sides k * slice_index_or sides k 0
      → IsNext sides k (y + gap_of sides k * slice_index_or sides k 0 * o) (y + gap_of sides k * slice_index_or sides k 0 * o + gap_of sides k)
  block_next l = next_on sides k (y + gap_of sides k * slice_index_or sides k 0 * o) axis below
      (rw (block_coordinate (gap_of sides k) (slice_index_or sides k 0) o y some place) (inner_place (gap_of sides k) (slice_index_or sides k 0) y some l))

  block_last : gap_of sides k * slice_index_or sides k 0 ≤ y + gap_of sides k
      → in_box sides (moved (raster_point sides (y + gap_of sides k * slice_index_or sides k 0 * o)) (along k (pos 1))) ≡ false
  block_last l = last_out sides k (y + gap_of sides k * slice_index_or sides k 0 * o) axis below
      (rw (block_coordinate (gap_of sides k) (slice_index_or sides k 0) o y some place) (outer_place (gap_of sides k) (slice_index_or sides k 0) y some l))

  block_first : y < gap_of sides k → in_box sides (moved (raster_point sides (y + gap_of sides k * slice_index_or sides k 0 * o)) (along k (negsuc 0))) ≡ false
  block_first l = first_out sides k (y + gap_of sides k * slice_index_or sides k 0 * o) axis below
      (rw (block_coordinate (gap_of sides k) (slice_index_or sides k 0) o y some place) (div-eq_of_lt l))

-- ---- how many numbers

pub gap_first : (sides : List ℕ) → gap_of sides 0 ≡ 1
gap_first [] = refl
gap_first (n ∷ sides) = refl

gap_more : (sides : List ℕ) (k : ℕ) → k < length sides → gap_of sides k * slice_index_or sides k 0 ≡ gap_of sides (k + 1)
gap_more sides k l = grown sides k l ∙ ap (gap_of sides) (let e : suc k ≡ k + 1 = omega arith in e)
  where
    grown : (sides : List ℕ) (k : ℕ) → k < length sides → gap_of sides k * slice_index_or sides k 0 ≡ gap_of sides (suc k)
    grown [] k l = absurd (omega arith)
    grown (n ∷ sides) zero l = let e : 1 * n ≡ n * 1 = mul_comm 1 n in e ∙ ap (λ (x : ℕ). n * x) (sym (gap_first sides))
    grown (n ∷ sides) (suc k) l = mul_assoc n (gap_of sides k) (slice_index_or sides k 0) ∙ ap (λ (x : ℕ). n * x) (grown sides k (omega arith))

some_other : (n m : ℕ) → 0 < n * m → 0 < m
some_other n m l = some_side m n 0 (let c = mul_comm n m in omega (arith, l, c))

pub gap_some : (sides : List ℕ) (k : ℕ) → 0 < box_count sides → 0 < gap_of sides k
gap_some [] k h = omega arith
gap_some (n ∷ sides) zero h = omega arith
gap_some (n ∷ sides) (suc k) h = let a = some_side n (box_count sides) 0 h in let b = gap_some sides k (some_other n (box_count sides) h) in
    mul-le 1 1 n (gap_of sides k) (omega (arith, a)) (omega (arith, b))

pub gap_most : (sides : List ℕ) (k : ℕ) → 0 < box_count sides → gap_of sides k ≤ box_count sides
gap_most [] k h = omega arith
gap_most (n ∷ sides) zero h = omega (arith, h)
gap_most (n ∷ sides) (suc k) h = mul-le n (gap_of sides k) n (box_count sides) (omega arith) (gap_most sides k (some_other n (box_count sides) h))

-- whole blocks make up the box
gap_whole : (sides : List ℕ) (k : ℕ) → (m : ℕ) × (box_count sides ≡ gap_of sides k * m)
gap_whole [] k = (1, refl)
gap_whole (n ∷ sides) zero = (n * box_count sides, let e : n * box_count sides ≡ 1 * (n * box_count sides) = omega arith in e)
gap_whole (n ∷ sides) (suc k) = let w = gap_whole sides k in (w.0, ap (λ (x : ℕ). n * x) w.1 ∙ sym (mul_assoc n (gap_of sides k) w.0))

pub gap_least : (sides : List ℕ) (k : ℕ) → 0 < box_count sides → k < length sides → gap_of sides k ≤ gap_of sides (k + 1)
gap_least sides k h l =
    let e = gap_more sides k l in
    let p = gap_some sides (k + 1) h in
    let s = some_other (gap_of sides k) (slice_index_or sides k 0) (rw e p) in
    let m : gap_of sides k * 1 ≤ gap_of sides k * slice_index_or sides k 0 = mul-le (gap_of sides k) 1 (gap_of sides k) (slice_index_or sides k 0) (omega arith)
    (omega (arith, s)) in
    omega (arith, e, m)

-- ---- the same at the places of a block

module _ (sides : List ℕ) (k o g b j : ℕ) (axis : k < length sides) (gap : g ≡ gap_of sides k) (block : b ≡ gap_of sides (k + 1))
    (below : b * o + j < box_count sides) (place : j < b) where
  whole : gap_of sides k * slice_index_or sides k 0 ≡ b
  whole = gap_more sides k axis ∙ sym block

  there : j + gap_of sides k * slice_index_or sides k 0 * o ≡ b * o + j
  there = let m : gap_of sides k * slice_index_or sides k 0 * o ≡ b * o = ap (λ (x : ℕ). x * o) whole in omega (arith, m)

  some : 0 < gap_of sides k
  some = gap_some sides k (omega (arith, below))

  -- the point one step on is in the block
  pub next_in_block : j + g < b → IsNext sides k (b * o + j) (b * o + g + j)
  next_in_block l =
      let w = block_next sides k axis o j (rw there below) some (rw whole place) (omega (arith, l, gap, whole)) in
      let e : j + gap_of sides k * slice_index_or sides k 0 * o + gap_of sides k ≡ b * o + g + j = omega (arith, there, gap) in
      subst (IsNext sides k (b * o + j)) e (subst (λ (x : ℕ). IsNext sides k x (j + gap_of sides k * slice_index_or sides k 0 * o + gap_of sides k)) there w)

  -- or out of the box
  pub last_in_block : b ≤ j + g → in_box sides (moved (raster_point sides (b * o + j)) (along k (pos 1))) ≡ false
  last_in_block l = subst (λ (x : ℕ). in_box sides (moved (raster_point sides x) (along k (pos 1))) ≡ false) there
      (block_last sides k axis o j (rw there below) some (rw whole place) (omega (arith, l, gap, whole)))

  pub first_in_block : j < g → in_box sides (moved (raster_point sides (b * o + j)) (along k (negsuc 0))) ≡ false
  first_in_block l = subst (λ (x : ℕ). in_box sides (moved (raster_point sides x) (along k (negsuc 0))) ≡ false) there
      (block_first sides k axis o j (rw there below) some (rw whole place) (rw (← gap) l))

-- the blocks of a box are all of it
pub all_blocks : (sides : List ℕ) (k b o : ℕ) → 0 < b → b ≡ gap_of sides k → box_count sides / b ≤ o → box_count sides ≤ b * o
all_blocks sides k b o s e l =
    let w = gap_whole sides k in
    let c : box_count sides ≡ 0 + b * w.0 = w.1 ∙ ap (λ (x : ℕ). x * w.0) (sym e) ∙ sym (zero-add (b * w.0)) in
    let q : box_count sides / b ≡ w.0 = ap (λ (x : ℕ). x / b) c ∙ div_of b 0 w.0 s in
    let m = mul-le b w.0 b o (omega arith) (omega (arith, l, q)) in
    omega (arith, c, m)

-- and each of them is in it
pub block_below : (n b o : ℕ) → o < n / b → b * o + b ≤ n
block_below n b o l =
    let m : b * (o + 1) ≤ b * (n / b) = mul-le b (o + 1) b (n / b) (omega arith) (omega (arith, l)) in
    let d = mul-div-le n b in
    omega (arith, m, d, mul_comm b o, mul_comm b (o + 1))

-- ---- sides as whole numbers

side_is : (ns : Point) (k : ℕ) → k < length ns → slice_index_or (sides_of ns) k 0 ≡ nat_abs (coordinate ns k)
side_is [] k l = absurd (omega arith)
side_is (n ∷ ns) zero l = refl
side_is (n ∷ ns) (suc k) l = side_is ns k (omega arith)

pub gap_step : (ns : Point) (k n : ℕ) (r : ℤ) → k < length ns → n ≡ gap_of (sides_of ns) k → r ≡ coordinate ns k → n * nat_abs r ≡ gap_of (sides_of ns) (k + 1)
gap_step ns k n r l e f =
    let m : k < length (sides_of ns) = (let h = length-map ns nat_abs in omega (arith, l, h)) in
    rw (e, f, sym (side_is ns k l)) (gap_more (sides_of ns) k m)
