-- The points that were shown are the exposed points of a face.
-- Laws over pictures and numbers alone.
use Rattle.std.proofs.Common.{refl, ◌≡◌, ℕ, ◌+◌, ◌-◌, ◌*◌, ◌/◌, ◌%◌, ◌<◌, ◌≤◌, ◌⊎◌, inl, inr, Bool, true, false, not, ◌&&◌, length, get_or, ap, sym, ◌∙◌, subst, arith, mul_comm}
use Rattle.std.specs.Prelude.{◌↔◌, IsTrue, pos, negsuc}
use Rattle.std.proofs.lemmas.Bool.{and_parts}
use Rattle.std.proofs.lemmas.Nat.{div_below}
use Rattle.std.proofs.Math.Nat.{mod-lt, div-add-mod}
use native.Mathlib.Decide.{dec_lt}
use Rattle.shape_terms.specs.Points.{Point, in_box, box_count, raster_number, raster_point}
use Rattle.shape_terms.specs.Adjacency.{moved, along}
use Rattle.shape_terms.specs.Pictures.{Picture, at}
use Rattle.shape_terms.specs.Patches.{Sense, sense_step}
use Rattle.shape_terms.proofs.Boxes.{raster_below, raster_point_in, raster_number-raster_point, raster_point-raster_number, mod_of}
use Rattle.shape_adj.specs.FacePoints.{gap_of, exposed_at, IsOpen, IsTrueInBlocks, Gains}
use Rattle.shape_adj.proofs.Layers.{next_in_block, last_in_block, first_in_block, all_blocks, gap_some}

same_truth : (a b : Bool) → (a ≡ true → b ≡ true) → (b ≡ true → a ≡ true) → a ≡ b
same_truth true b f g = sym (f refl)
same_truth false true f g = g refl
same_truth false false f g = refl

both : (a b : Bool) → a ≡ true → b ≡ false → (a && not b) ≡ true
both true false e f = refl
both false b e f = cc
both true true e f = cc

from_not : (b : Bool) → not b ≡ true → b ≡ false
from_not true e = cc
from_not false e = refl

not_true : (b : Bool) → (b ≡ true → ⊥) → b ≡ false
not_true false h = refl
not_true true h = absurd (h refl)

-- ---- values by numbers

at_out : (X : Picture) (q : Point) → in_box X.sides q ≡ false → at X q ≡ false
at_out X q e = ap (λ (b : Bool). b && get_or X.values (raster_number X.sides q) false) e

at_in : (X : Picture) (q : Point) → IsTrue (in_box X.sides q) → at X q ≡ get_or X.values (raster_number X.sides q) false
at_in X q e = ap (λ (b : Bool). b && get_or X.values (raster_number X.sides q) false) e

at_number : (X : Picture) (i : ℕ) → i < box_count X.sides → at X (raster_point X.sides i) ≡ get_or X.values i false
at_number X i l = at_in X (raster_point X.sides i) (raster_point_in X.sides i l) ∙ ap (λ k. get_or X.values k false) (raster_number-raster_point X.sides i l)

-- the points that are told by their numbers are the exposed ones
module _ (X E : Picture) (t : ℕ) (sense : Sense) (Q : ℕ → Type 0) (same : E.sides ≡ X.sides)
    (there : (i : ℕ) → (get_or E.values i false ≡ true) ↔ Q i)
    (each : (i : ℕ) → i < box_count X.sides
    → Q i ↔ ((get_or X.values i false ≡ true) × (at X (moved (raster_point X.sides i) (sense_step t sense)) ≡ false))) where
  over : Point → Bool
  over q = at X (moved q (sense_step t sense))

  inside : (q : Point) → IsTrue (in_box X.sides q) → at E q ≡ exposed_at X t sense q
  unfolding over
  inside q b =
      let l = raster_below X.sides q b in
      let back = raster_point-raster_number X.sides q b in
      let n = raster_number X.sides q in
      let mine : at E q ≡ get_or E.values n false = at_in E q (subst (λ s. IsTrue (in_box s q)) (sym same) b)
      ∙ ap (λ s. get_or E.values (raster_number s q) false) same in
      let old : at X q ≡ get_or X.values n false = at_in X q b in
      same_truth (at E q) (exposed_at X t sense q)
      (λ e.
      let h = (each n l).0 ((there n).0 (sym mine ∙ e)) in
      both (at X q) (over q) (old ∙ h.0) (ap over (sym back) ∙ h.1))
      (λ e.
      let h = and_parts (at X q) (not (over q)) e in
      mine ∙ (there n).1 ((each n l).1 (sym old ∙ h.0, ap over back ∙ from_not (over q) h.1)))

  pub exposed_by : (q : Point) → at E q ≡ exposed_at X t sense q
  exposed_by q = go (in_box X.sides q) refl
    where
      go : (b : Bool) → in_box X.sides q ≡ b → at E q ≡ exposed_at X t sense q
      go true e = inside q e
      go false e = at_out E q (ap (λ s. in_box s q) same ∙ e)
          ∙ sym (ap (λ (b : Bool). b && not (at X (moved q (sense_step t sense)))) (at_out X q e))

-- ---- the points of blocks

module _ (X : Picture) (t g b : ℕ) (axis : t < length X.sides) (gap : g ≡ gap_of X.sides t) (block : b ≡ gap_of X.sides (t + 1)) (some : 0 < b) (few : g ≤ b)
  where
    -- each number is that of a place of a block
    block_of : (i : ℕ) → i < box_count X.sides → i / b < box_count X.sides / b
    block_of i l =
        let whole = all_blocks X.sides (t + 1) b (box_count X.sides / b) some block (omega arith) in
        let c = mul_comm b (box_count X.sides / b) in
        div_below i b (box_count X.sides / b) some (omega (arith, l, whole, c))

    spot : (i : ℕ) → (b * (i / b) + i % b ≡ i) × (i % b < b)
    spot i = (div-add-mod i b, mod-lt i some)

    -- and back
    spot_is : (o y i : ℕ) → y < b → i ≡ b * o + y → i % b ≡ y
    spot_is o y i l e = let f : i ≡ y + b * o = omega (arith, e) in ap (λ x. x % b) f ∙ mod_of b y o l

    beside : (v : Point) (i j : ℕ) → j < box_count X.sides → raster_point X.sides j ≡ moved (raster_point X.sides i) v
        → at X (moved (raster_point X.sides i) v) ≡ get_or X.values j false
    beside v i j l e = ap (at X) (sym e) ∙ at_number X j l

    up_next : (i : ℕ) → i < box_count X.sides → i % b + g < b → at X (moved (raster_point X.sides i) (along t (pos 1))) ≡ get_or X.values (g + i) false
    up_next i l m =
        let s = spot i in
        let w = next_in_block X.sides t (i / b) g b (i % b) axis gap block (omega (arith, l, s.0)) s.1 m in
        let e : b * (i / b) + g + i % b ≡ g + i = omega (arith, s.0) in
        beside (along t (pos 1)) i (g + i) (let d = w.bounded in omega (arith, d, e))
        (ap (raster_point X.sides) (sym e) ∙ w.on ∙ ap (λ n. moved (raster_point X.sides n) (along t (pos 1))) s.0)

    up_last : (i : ℕ) → i < box_count X.sides → b ≤ i % b + g → at X (moved (raster_point X.sides i) (along t (pos 1))) ≡ false
    up_last i l m =
        let s = spot i in
        let f = last_in_block X.sides t (i / b) g b (i % b) axis gap block (omega (arith, l, s.0)) s.1 m in
        at_out X (moved (raster_point X.sides i) (along t (pos 1)))
        (subst (λ n. in_box X.sides (moved (raster_point X.sides n) (along t (pos 1))) ≡ false) s.0 f)

    down_next : (i k : ℕ) → i < box_count X.sides → i ≡ g + k → g ≤ i % b
        → at X (moved (raster_point X.sides i) (along t (negsuc 0))) ≡ get_or X.values k false
    down_next i k l h m =
        let s = spot i in
        let w = next_in_block X.sides t (i / b) g b (i % b - g) axis gap block (omega (arith, l, s.0)) (omega (arith, s.1)) (omega (arith, s.1, m)) in
        let e : b * (i / b) + (i % b - g) ≡ k = omega (arith, s.0, h, m) in
        let f : b * (i / b) + g + (i % b - g) ≡ i = omega (arith, s.0, m) in
        beside (along t (negsuc 0)) i k (omega (arith, l, h))
        (ap (raster_point X.sides) (sym e) ∙ w.back ∙ ap (λ n. moved (raster_point X.sides n) (along t (negsuc 0))) f)

    down_first : (i : ℕ) → i < box_count X.sides → i % b < g → at X (moved (raster_point X.sides i) (along t (negsuc 0))) ≡ false
    down_first i l m =
        let s = spot i in
        let f = first_in_block X.sides t (i / b) g b (i % b) axis gap block (omega (arith, l, s.0)) s.1 m in
        at_out X (moved (raster_point X.sides i) (along t (negsuc 0)))
        (subst (λ n. in_box X.sides (moved (raster_point X.sides n) (along t (negsuc 0))) ≡ false) s.0 f)

    -- ---- which of them are exposed

    up_each : (i : ℕ) → i < box_count X.sides → (IsOpen X.values 0 g i ⊎ IsTrueInBlocks X.values b (b - g) g (box_count X.sides / b) i)
        ↔ ((get_or X.values i false ≡ true) × (at X (moved (raster_point X.sides i) (along t (pos 1))) ≡ false))
    up_each i l = (
      (λ h. elim h [
        | inl a ↦
            let e : 0 + a.0 ≡ i = (let f = a.1 in omega (arith, f)) in
            let f : g + a.0 ≡ g + i = omega (arith, e) in (
              subst (λ n. get_or X.values n false ≡ true) e a.2,
              elim (dec_lt (i % b + g) b) [
                | yes m ↦ up_next i l m ∙ subst (λ n. get_or X.values n false ≡ false) f a.3
                | no m ↦ up_last i l (omega (arith, m))
              ],
            )
        | inr a ↦
            let c = a.2 in
            let k = c.1 in
            let f : i ≡ b * a.0 + (b - g + c.0) = (let e = c.2 in omega (arith, e)) in
            let r = spot_is a.0 (b - g + c.0) i (omega (arith, k, few)) f in
            (subst (λ n. get_or X.values n false ≡ true) (sym c.2) c.3, up_last i l (omega (arith, r, few)))
      ]),
      λ h. elim (dec_lt (i % b + g) b) [
        | yes m ↦ inl (
          i,
          (let e : i ≡ 0 + i = omega arith in e),
          (let e : i ≡ 0 + i = omega arith in subst (λ n. get_or X.values n false ≡ true) e h.0),
          sym (up_next i l m) ∙ h.1,
        )
        | no m ↦
            let s = spot i in
            let e : i ≡ b * (i / b) + (b - g) + (i % b - (b - g)) = omega (arith, s.0, m, few) in
            inr (i / b, block_of i l, (i % b - (b - g), (let r = s.1 in omega (arith, r, m, few, fewer)), e, subst (λ n. get_or X.values n false ≡ true) e h.0))
      ],
    )
      where
        fewer : 0 < g
        fewer = let a = gap_some X.sides t (omega (arith, l)) in omega (arith, a, gap)

    down_each : (i : ℕ) → i < box_count X.sides → (IsOpen X.values g 0 i ⊎ IsTrueInBlocks X.values b 0 g (box_count X.sides / b) i)
        ↔ ((get_or X.values i false ≡ true) × (at X (moved (raster_point X.sides i) (along t (negsuc 0))) ≡ false))
    down_each i l = (
      (λ h. elim h [
        | inl a ↦ (
          subst (λ n. get_or X.values n false ≡ true) (sym a.1) a.2,
          elim (dec_lt (i % b) g) [
            | yes m ↦ down_first i l m
            | no m ↦ down_next i (0 + a.0) l (let e = a.1 in omega (arith, e)) (omega (arith, m)) ∙ a.3
          ],
        )
        | inr a ↦
            let c = a.2 in
            let k = c.1 in
            let f : i ≡ b * a.0 + c.0 = (let e = c.2 in omega (arith, e)) in
            let r = spot_is a.0 c.0 i (omega (arith, k, few)) f in
            (subst (λ n. get_or X.values n false ≡ true) (sym c.2) c.3, down_first i l (omega (arith, r, k)))
      ]),
      λ h. elim (dec_lt (i % b) g) [
        | yes m ↦
            let s = spot i in
            let e : i ≡ b * (i / b) + 0 + i % b = omega (arith, s.0) in
            inr (i / b, block_of i l, (i % b, m, e, subst (λ n. get_or X.values n false ≡ true) e h.0))
        | no m ↦
            let s = spot i in
            let low : g ≤ i = omega (arith, s.0, m) in
            let e : i ≡ g + (i - g) = omega (arith, low) in
            let d = down_next i (0 + (i - g)) l (omega (arith, e)) (omega (arith, m)) in
            inl (i - g, e, subst (λ n. get_or X.values n false ≡ true) e h.0, sym d ∙ h.1)
      ],
    )

    -- ---- a blank picture that gains them

    gained : (E E1 E2 : Picture) (P Q : ℕ → Type 0) → ((i : ℕ) → get_or E.values i false ≡ false) → Gains E E1 P → Gains E1 E2 Q
        → (i : ℕ) → (get_or E2.values i false ≡ true) ↔ (P i ⊎ Q i)
    gained E E1 E2 P Q none f h i = (
      (λ e. elim ((h.each i).0 e) [
        | inl m ↦ elim ((f.each i).0 m) [ inl o ↦ absurd (let z : true ≡ false = sym o ∙ none i in cc) | inr p ↦ inl p ]
        | inr q ↦ inr q
      ]),
      λ k. (h.each i).1 (elim k [ inl p ↦ inl ((f.each i).1 (inr p)) | inr q ↦ inr q ]),
    )

    pub shown_up : (E E1 E2 : Picture) → E.sides ≡ X.sides → ((i : ℕ) → get_or E.values i false ≡ false) → Gains E E1 (IsOpen X.values 0 g)
        → Gains E1 E2 (IsTrueInBlocks X.values b (b - g) g (box_count X.sides / b)) → (q : Point) → at E2 q ≡ exposed_at X t Sense.Upward q
    shown_up E E1 E2 same none f h = exposed_by X E2 t Sense.Upward
        (λ i. IsOpen X.values 0 g i ⊎ IsTrueInBlocks X.values b (b - g) g (box_count X.sides / b) i) (h.sides ∙ f.sides ∙ same)
        (gained E E1 E2 (IsOpen X.values 0 g) (IsTrueInBlocks X.values b (b - g) g (box_count X.sides / b)) none f h) up_each

    pub shown_down : (E E1 E2 : Picture) → E.sides ≡ X.sides → ((i : ℕ) → get_or E.values i false ≡ false) → Gains E E1 (IsOpen X.values g 0)
        → Gains E1 E2 (IsTrueInBlocks X.values b 0 g (box_count X.sides / b)) → (q : Point) → at E2 q ≡ exposed_at X t Sense.Down q
    shown_down E E1 E2 same none f h = exposed_by X E2 t Sense.Down (λ i. IsOpen X.values g 0 i ⊎ IsTrueInBlocks X.values b 0 g (box_count X.sides / b) i)
        (h.sides ∙ f.sides ∙ same)
        (gained E E1 E2 (IsOpen X.values g 0) (IsTrueInBlocks X.values b 0 g (box_count X.sides / b)) none f h) down_each
