-- The numbers of the objects with one point of the box more.
-- Labels and lists of numbers alone.
use Rattle.std.proofs.Common.{◌≡◌, ◌⊎◌, inl, inr, ℕ, ◌+◌, ◌^◌, ◌<◌, ◌≤◌, ◌↔◌, List, [], ◌∷◌, ◌++◌, length, get_or, set, subst, sym, ap, ◌∙◌, arith}
use Rattle.std.specs.Prelude.{ℤ, pos, ◌+ℤ◌, IsTrue}
use Rattle.std.proofs.Math.ListN.{get_or-append}
use Rattle.std.proofs.Math.Seq.{get_or-append_seam}
use Rattle.std.proofs.lemmas.Int.{ints}
use Rattle.std.proofs.lemmas.List.{length-append, length-set, get_or-set_same, get_or-set_other, get_or-map}
use native.Mathlib.Decide.{ℕ_discrete}
use Rattle.shape_terms.specs.Points.{Point, box_count, in_box, raster_number, raster_point}
use Rattle.shape_terms.specs.Adjacency.{near_point}
use Rattle.shape_terms.proofs.Boxes.{raster_point_in, raster_number-raster_point}
use Rattle.shape_terms.proofs.ObjectPlaces.{length-raster_point}
use Rattle.shape_adj.specs.NearMasks.{In, near_total}
use Rattle.measure_terms.specs.Feret.{HasLabel}
use Rattle.measure_terms.specs.Cells.{IsEulerNumber, sign}
use Rattle.measure_terms.specs.Gains.{gained}
use Rattle.measure_terms.specs.Seen.{IsSeen}
use Rattle.measure_terms.specs.Minkowski.{IsMinkowski, AreMinkowski}
use Rattle.measure_terms.proofs.OneCubeMore.{euler_more}
use Rattle.measure_terms.proofs.EulersSeen.{none_seen, all_seen, other_seen, one_seen, not_yet_seen}
use Rattle.measuring.specs.declared.cell.Cell.{Cell}
use Rattle.measuring.specs.declared.direction.Directions.{Directions}
use Rattle.measuring.specs.declared.gain.Gain.{Gain}
use Rattle.measuring.specs.declared.numbers.Minkowski.{Minkowski}
use Rattle.measuring.specs.MinkowskiTold.{told, all_told}
use Rattle.measuring.specs.Tables.{AreCells, AreDirections, is_new}
use Rattle.measuring.specs.Gains.{IsGain, plus}
use Rattle.measuring.specs.MinkowskiSoFar.{AreSmall, IsSoFar, AreSoFar}
use Rattle.measuring.proofs.NewCells.{new_is, old_is}
use Rattle.measuring.proofs.Outs.{none_out, all_out, other_out, outs_more}

-- ---- one object

-- no point
abbrev pub nothing : Minkowski
nothing = record { euler = pos 0; x = 0; y = 0; z = 0; xy = 0; xz = 0; yz = 0; xyz = 0 }

none_so_far : (sides labels : List ℕ) (j : ℕ) → IsSoFar sides labels j 0 nothing
none_so_far sides labels j = record {
  euler = none_seen sides labels j;
  x = none_out sides labels j 1;
  y = none_out sides labels j 2;
  z = none_out sides labels j 4;
  xy = none_out sides labels j 3;
  xz = none_out sides labels j 5;
  yz = none_out sides labels j 6;
  xyz = none_out sides labels j 7;
  small = record {
    euler = omega arith;
    x = omega arith;
    y = omega arith;
    z = omega arith;
    xy = omega arith;
    xz = omega arith;
    yz = omega arith;
    xyz =
        omega arith;
  };
}

more_small : (i : ℕ) (m : Minkowski) → AreSmall i m → AreSmall (i + 1) m
more_small i m s =
    let e = s.euler in
    let x = s.x in
    let y = s.y in
    let z = s.z in
    let xy = s.xy in
    let xz = s.xz in
    let yz = s.yz in
    let xyz = s.xyz in
    record {
      euler = omega (arith, e);
      x = omega (arith, x);
      y = omega (arith, y);
      z = omega (arith, z);
      xy = omega (arith, xy);
      xz = omega (arith, xz);
      yz =
          omega (arith, yz);
      xyz = omega (arith, xyz);
    }

-- a point with another label
other_so_far : (sides labels : List ℕ) (j i : ℕ) (m : Minkowski) → (get_or labels i 0 ≡ j → ⊥) → IsSoFar sides labels j i m → IsSoFar sides labels j (i + 1) m
other_so_far sides labels j i m other h = record {
  euler = other_seen sides labels j i m.euler other h.euler;
  x = other_out sides labels j 1 i m.x other h.x;
  y = other_out sides labels j 2 i m.y other h.y;
  z = other_out sides labels j 4 i m.z other h.z;
  xy = other_out sides labels j 3 i m.xy other h.xy;
  xz = other_out sides labels j 5 i m.xz other h.xz;
  yz = other_out sides labels j 6 i m.yz other h.yz;
  xyz = other_out sides labels j 7 i m.xyz other h.xyz;
  small = more_small i m h.small;
}

-- the number of an object with one point more
pub number_more : (sides labels : List ℕ) (k i m : ℕ) (p : Point) (cells : List Cell) (e : ℤ) → length p ≤ 3 → AreCells (length p) cells → m < 2 ^ 32
    → get_or labels i 0 ≡ k → IsTrue (in_box sides p) → raster_number sides p ≡ i
    → ((j : ℕ) → In m j ↔ ((j < near_total (length p)) × IsSeen sides labels k i (near_point p j)))
    → IsEulerNumber (IsSeen sides labels k i) e
    → IsEulerNumber (IsSeen sides labels k (i + 1)) (e +ℤ (sign (length p) +ℤ gained (length p) (is_new cells m) (near_total (length p))))
number_more sides labels k i m p cells e axes table small label inside number seen h =
    let S = IsSeen sides labels k i in
    let apart = not_yet_seen sides labels k i p number in
    euler_more S (IsSeen sides labels k (i + 1)) p (is_new cells m) e axes
    (new_is S p cells m table seen apart) (old_is S p cells m table seen small)
    apart (one_seen sides labels k i p label inside number) h

-- a point with the label, where `seen` has its near neighbours of the object that come before it
pub so_far_more : (sides labels : List ℕ) (d j i seen : ℕ) (cells : List Cell) (t : Directions) (g : Gain) (m : Minkowski)
    → (d ≡ 2) ⊎ (d ≡ 3) → length sides ≡ d → i < box_count sides → AreCells d cells → AreDirections d t → seen < 2 ^ 32 → get_or labels i 0 ≡ j
    → ((k : ℕ) → In seen k ↔ ((k < near_total d) × IsSeen sides labels j i (near_point (raster_point sides i) k)))
    → IsGain d cells t seen g → IsSoFar sides labels j i m → IsSoFar sides labels j (i + 1) (plus m g)
so_far_more sides labels d j i seen cells t g m two axes below table directions few label were gain h =
    let p = raster_point sides i in
    let len : length p ≡ d = length-raster_point sides i ∙ axes in
    let number = number_more sides labels j i seen p cells m.euler (omega (arith, two, len)) (subst (λ d. AreCells d cells) (sym len) table) few label
    (raster_point_in sides i below) (raster_number-raster_point sides i below)
    (subst (λ d. (k : ℕ) → In seen k ↔ ((k < near_total d) × IsSeen sides labels j i (near_point p k))) (sym len) were) h.euler in
    let same : sign (length p) +ℤ gained (length p) (is_new cells seen) (near_total (length p)) ≡ g.euler =
    ap (λ d. sign d +ℤ gained d (is_new cells seen) (near_total d)) len ∙ sym gain.euler in
    let s = h.small in
    let r = gain.small in
    record {
      euler = subst (λ z. IsEulerNumber (IsSeen sides labels j (i + 1)) (m.euler +ℤ z)) same number;
      x = outs_more sides labels j 1 i d t.x seen two axes below label directions.x were m.x g.x gain.x h.x;
      y = outs_more sides labels j 2 i d t.y seen two axes below label directions.y were m.y g.y gain.y h.y;
      z = outs_more sides labels j 4 i d t.z seen two axes below label directions.z were m.z g.z gain.z h.z;
      xy = outs_more sides labels j 3 i d t.xy seen two axes below label directions.xy were m.xy g.xy gain.xy h.xy;
      xz = outs_more sides labels j 5 i d t.xz seen two axes below label directions.xz were m.xz g.xz gain.xz h.xz;
      yz = outs_more sides labels j 6 i d t.yz seen two axes below label directions.yz were m.yz g.yz gain.yz h.yz;
      xyz = outs_more sides labels j 7 i d t.xyz seen two axes below label directions.xyz were m.xyz g.xyz gain.xyz h.xyz;
      small = record {
        euler = (let a = s.euler in let b = r.euler in omega (arith, ints, a, b));
        x = (let a = s.x in let b = r.x in omega (arith, a, b));
        y = (let a = s.y in let b = r.y in omega (arith, a, b));
        z = (let a = s.z in let b = r.z in omega (arith, a, b));
        xy = (let a = s.xy in let b = r.xy in omega (arith, a, b));
        xz = (let a = s.xz in let b = r.xz in omega (arith, a, b));
        yz = (let a = s.yz in let b = r.yz in omega (arith, a, b));
        xyz = (let a = s.xyz in let b = r.xyz in omega (arith, a, b));
      };
    }

-- ---- all objects

-- one object more, without a point
pub nothing_more : (sides labels : List ℕ) (ms : List Minkowski) (n : ℕ) → AreSoFar sides labels n 0 ms → AreSoFar sides labels (n + 1) 0 (ms ++ nothing ∷ [])
nothing_more sides labels ms n h =
    let count = h.count in
    let long = length-append ms (nothing ∷ []) in
    record {
      count = omega (arith, long, count);
      each = λ k d l. (
          let split : (k ≡ length ms) ⊎ (k < length ms) = grind arith in
          elim split [
            | inl e ↦ subst (IsSoFar sides labels (k + 1) 0) (sym (ap (λ j. get_or (ms ++ nothing ∷ []) j d) e ∙ get_or-append_seam ms nothing [] d))
                (none_so_far sides labels (k + 1))
            | inr b ↦ subst (IsSoFar sides labels (k + 1) 0) (sym (get_or-append ms (nothing ∷ []) d k b)) (h.each k d (omega (arith, b, count)))
          ]);
    }

-- a point of none of them
pub point_passed : (sides labels : List ℕ) (n i : ℕ) (ms : List Minkowski) → AreSoFar sides labels n i ms → (get_or labels i 0 ≡ 0) ⊎ (n < get_or labels i 0)
    → AreSoFar sides labels n (i + 1) ms
point_passed sides labels n i ms h none = record {
  count = h.count;
  each = λ k d l. other_so_far sides labels (k + 1) i (get_or ms k d) (λ e. elim none [ inl z ↦ omega (arith, z, e) | inr b ↦ omega (arith, b, e, l) ])
      (h.each k d l);
}

-- a point of one of them, and its numbers then
pub point_added : (sides labels : List ℕ) (n i j : ℕ) (ms : List Minkowski) (m : Minkowski) → AreSoFar sides labels n i ms → j < n → get_or labels i 0 ≡ j + 1
    → IsSoFar sides labels (j + 1) (i + 1) m → AreSoFar sides labels n (i + 1) (set ms j m)
point_added sides labels n i j ms m h l label new =
    let count = h.count in
    let b : j < length ms = omega (arith, l, count) in
    record {
      count = length-set ms j m ∙ count;
      each = λ k c a. elim (ℕ_discrete k j) [
        | yes same ↦ subst (λ k. IsSoFar sides labels (k + 1) (i + 1) (get_or (set ms j m) k c)) (sym same)
            (subst (IsSoFar sides labels (j + 1) (i + 1)) (sym (get_or-set_same ms j m c b)) new)
        | no other ↦ subst (IsSoFar sides labels (k + 1) (i + 1)) (sym (get_or-set_other ms j k m c other))
            (other_so_far sides labels (k + 1) i (get_or ms k c) (λ f. other (omega (arith, f, label))) (h.each k c a))
      ];
    }

-- ---- all points

all_are : (sides labels : List ℕ) (j i : ℕ) (m : Minkowski) → i ≡ box_count sides → IsSoFar sides labels j i m → IsMinkowski (HasLabel sides labels j) (told m)
all_are sides labels j i m e h = record {
  euler = all_seen sides labels j m.euler (subst (λ i. IsEulerNumber (IsSeen sides labels j i) m.euler) e h.euler);
  x = all_out sides labels j 1 i m.x e h.x;
  y = all_out sides labels j 2 i m.y e h.y;
  z = all_out sides labels j 4 i m.z e h.z;
  xy = all_out sides labels j 3 i m.xy e h.xy;
  xz = all_out sides labels j 5 i m.xz e h.xz;
  yz = all_out sides labels j 6 i m.yz e h.yz;
  xyz = all_out sides labels j 7 i m.xyz e h.xyz;
}

pub numbers_are : (sides labels : List ℕ) (n i : ℕ) (ms : List Minkowski) → i ≡ box_count sides → AreSoFar sides labels n i ms
    → AreMinkowski sides labels n (all_told ms)
numbers_are sides labels n i ms e h = record {
  each = λ k d l. (
      let count = h.count in
      subst (IsMinkowski (HasLabel sides labels (k + 1))) (sym (get_or-map told ms k nothing d (omega (arith, l, count))))
      (all_are sides labels (k + 1) i (get_or ms k nothing) e (h.each k nothing l)));
}
