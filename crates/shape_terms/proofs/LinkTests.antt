-- The tests of adjacency are right, and so are the sets that lists of truth values stand for.
-- Laws over lists alone.
use Rattle.std.proofs.Common.{◌≡◌, ◌≤◌, ◌<◌, ◌↔◌, ℕ, suc, Bool, true, false, cond, refl, ap, sym, ◌∙◌, subst, arith, List, [], ◌∷◌, length, map, get_or}
use Rattle.std.proofs.Common.{slice_index}
use Rattle.std.specs.Prelude.{◌-ℤ◌, nat_abs, nat_lt, ◌==◌}
use Rattle.std.specs.Int.{bit_at}
use Rattle.std.specs.List.{AllZip}
use Rattle.std.proofs.lemmas.Bool.{and_parts, and_from, ltb-true, lt-ltb, eqb-true}
use Rattle.std.proofs.lemmas.List.{get_or-map, length-map, get_or_past}
use Rattle.std.proofs.lemmas.Nat.Bits.{bit_at-zero}
use native.Mathlib.Decide.{dec_lt}
use Rattle.shape_terms.specs.Points.{Point}
use Rattle.shape_terms.specs.Adjacency.{city_distance, Near, Side}
use Rattle.shape_terms.proofs.SideNeighbours.{none_apart, same_place}
use Rattle.std.specs.Simd.Lanes.{mask_l}
use Rattle.std.proofs.lemmas.Simd.{bit_mask_l}
use Rattle.shape_terms.specs.Links.{close_test, near_test, side_test, links_of}

-- ---- tests of adjacency

close_length : (p q : Point) → close_test p q ≡ true → length p ≡ length q
close_length [] [] h = refl
close_length [] (y ∷ q) h = cc
close_length (x ∷ p) [] h = cc
close_length (x ∷ p) (y ∷ q) h = ap suc (close_length p q (and_parts (nat_lt (nat_abs (x -ℤ y)) 2) (close_test p q) h).1)

close_is : (p q : Point) → close_test p q ≡ true → AllZip (λ x y. nat_abs (x -ℤ y) ≤ 1) p q
close_is [] [] h = tt
close_is [] (y ∷ q) h = absurd (let t : false ≡ true = h in cc)
close_is (x ∷ p) [] h = absurd (let t : false ≡ true = h in cc)
close_is (x ∷ p) (y ∷ q) h =
    let b = and_parts (nat_lt (nat_abs (x -ℤ y)) 2) (close_test p q) h in
    let l = ltb-true (nat_abs (x -ℤ y)) 2 b.0 in
    (omega arith, close_is p q b.1)

is_close : (p q : Point) → AllZip (λ x y. nat_abs (x -ℤ y) ≤ 1) p q → close_test p q ≡ true
is_close [] [] h = refl
is_close [] (y ∷ q) h = absurd h
is_close (x ∷ p) [] h = absurd h
is_close (x ∷ p) (y ∷ q) h = let a = h.0 in and_from (nat_lt (nat_abs (x -ℤ y)) 2) (close_test p q) (lt-ltb (nat_abs (x -ℤ y)) 2 (omega arith))
    (is_close p q h.1)

pub near_tested : (p q : Point) → (near_test p q ≡ true) ↔ Near p q
near_tested p q = (to, of)
  where
    to : near_test p q ≡ true → Near p q
    to h =
        let b = and_parts (nat_lt 0 (city_distance p q)) (close_test p q) h in
        let l = ltb-true 0 (city_distance p q) b.0 in
        ((λ e. let z : city_distance p q ≡ 0 = ap (city_distance p) (sym e) ∙ none_apart p in omega arith), close_is p q b.1)

    of : Near p q → near_test p q ≡ true
    of h =
        let c = is_close p q h.1 in
        and_from (nat_lt 0 (city_distance p q)) (close_test p q)
        (lt-ltb 0 (city_distance p q)
        (elim (dec_lt 0 (city_distance p q)) [ yes l ↦ l | no l ↦ absurd (h.0 (same_place p q (close_length p q c) (omega arith))) ]))
        c

pub side_tested : (p q : Point) → length p ≡ length q → (side_test p q ≡ true) ↔ Side p q
side_tested p q l = ((λ h. (l, eqb-true (city_distance p q) 1 h)), λ h. let e = h.1 in is_one (city_distance p q) e)
  where
    is_one : (n : ℕ) → n ≡ 1 → (n == 1) ≡ true
    is_one n e = rw e refl

-- ---- sets of truth values

pub bit_of : (bs : List Bool) (k : ℕ) → bit_at (mask_l bs) k ≡ cond (get_or bs k false) 1 0
bit_of bs k = bit_mask_l bs k

is_set : (b : Bool) → ◌≡◌ {A = ℕ} (cond b 1 0) 1 → b ≡ true
is_set true e = refl
is_set false e = absurd (omega arith)

-- bit k of the row is set where the test holds of the step
pub row_is : (test : Point → Bool) (vs : List Point) (k : ℕ) → (bit_at (mask_l (map test vs)) k ≡ 1) ↔ ((k < length vs) × (test (get_or vs k []) ≡ true))
row_is test vs k = (to, of)
  where
    to : bit_at (mask_l (map test vs)) k ≡ 1 → (k < length vs) × (test (get_or vs k []) ≡ true)
    to h = elim (dec_lt k (length vs)) [
      | yes l ↦ (l, sym (get_or-map test vs k [] false l) ∙ is_set (get_or (map test vs) k false) (sym (bit_of (map test vs) k) ∙ h))
      | no l ↦ absurd (
          let n = length-map vs test in
          let g : get_or (map test vs) k false ≡ false = get_or_past (map test vs) k false (omega arith) in
          let z : false ≡ true = sym g ∙ is_set (get_or (map test vs) k false) (sym (bit_of (map test vs) k) ∙ h) in cc)
    ]

    of : (k < length vs) × (test (get_or vs k []) ≡ true) → bit_at (mask_l (map test vs)) k ≡ 1
    of h = bit_of (map test vs) k ∙ ap (λ b. cond b 1 0) (get_or-map test vs k [] false h.0 ∙ h.1)

-- the links between the steps are those that pass the test
pub link_is : (test : Point → Point → Bool) (vs : List Point) (j k : ℕ) → (bit_at (slice_index (links_of test vs) j) k ≡ 1) ↔
    ((j < length vs) × (k < length vs) × (test (get_or vs j []) (get_or vs k []) ≡ true))
link_is test vs j k = elim (dec_lt j (length vs)) [
  | yes l ↦ (
      let e : slice_index (links_of test vs) j ≡ mask_l (map (test (get_or vs j [])) vs) = get_or-map (λ v. mask_l (map (test v) vs)) vs j [] 0 l in
      let r = row_is (test (get_or vs j [])) vs k in
      ((λ h. let a = r.0 (subst (λ n. bit_at n k ≡ 1) e h) in (l, a.0, a.1)), λ h. subst (λ n. bit_at n k ≡ 1) (sym e) (r.1 (h.1, h.2))))
  | no l ↦ (
      let n = length-map vs (λ v. mask_l (map (test v) vs)) in
      let e : slice_index (links_of test vs) j ≡ 0 = get_or_past (links_of test vs) j 0 (omega arith) in
      ((λ h. absurd (let z : bit_at 0 k ≡ 1 = subst (λ n. bit_at n k ≡ 1) e h in let y = bit_at-zero k in omega arith)), λ h. absurd (l h.0)))
]

pub length-links : (test : Point → Point → Bool) (vs : List Point) → length (links_of test vs) ≡ length vs
length-links test vs = length-map vs (λ v. mask_l (map (test v) vs))
