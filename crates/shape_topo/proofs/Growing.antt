-- One component of a set of at most 32 places: the places whose links are still to be followed join it one by one.
-- Laws over numbers alone.
use Rattle.std.proofs.Common.{◌≡◌, ◌≢◌, ℕ, ◌-◌, ◌*◌, ◌^◌, ◌%◌, ◌<◌, min, max, List, slice_index, arith, sym, ◌∙◌, subst, ◌⊎◌, inl, inr}
use Rattle.std.specs.Int.{bit_at}
use Rattle.std.specs.Int.Bits.{bit_and, bit_or}
use Rattle.std.specs.Int.Count.{count_trailing_zeros}
use Rattle.std.proofs.Common.{w32}
use Rattle.std.proofs.lemmas.Nat.Bits.{bit_at_above, bit_at_set_same, bit_at_set_other, bit_at-zero, bit_at-trailing_zeros, bit_at_and, bit_at_or, bit_at_not}
use Rattle.std.proofs.lemmas.Nat.Bits.{bit_at-lt}
use Rattle.std.proofs.lemmas.Nat.{or_lt, and_le_l, and_le_r, le_or_l}
use native.Mathlib.Decide.{dec_lt, ℕ_discrete}
use Rattle.shape_terms.specs.Parts.{Connected}
use Rattle.shape_terms.proofs.Paths.{joined_to, ends_in}
use Rattle.shape_adj.specs.NearMasks.{In}
use Rattle.shape_topo.specs.Bits.{Linked, IsComponent}

-- the part so far, and the places that are joined to s and whose links are still to be followed
pub record Growing (links : List ℕ) (m s part todo : ℕ) : Type 0 where
  pub seed : In part s ⊎ In todo s
  pub joined_part : (k : ℕ) → In part k → Connected (Linked links) (In m) s k
  pub joined_todo : (k : ℕ) → In todo k → Connected (Linked links) (In m) s k
  pub shut : (j k : ℕ) → In part j → In m k → Linked links j k → In part k ⊎ In todo k
  pub apart : (k : ℕ) → In todo k → bit_at part k ≡ 0

-- a place of a number below 2 ^ n is below n
pub place_below : (m n k : ℕ) → m < 2 ^ n → In m k → k < n
place_below m n k h i = elim (dec_lt k n) [ yes l ↦ l | no l ↦ absurd (let z : bit_at m k ≡ 0 = bit_at_above m n k h (omega arith) in omega arith) ]

-- the places of `1 << s`
pub one_same : (s : ℕ) → s < 32 → In (1 * 2 ^ s % 2 ^ 32) s
one_same s h = bit_at_set_same w32 0 s h

pub one_only : (s k : ℕ) → s < 32 → In (1 * 2 ^ s % 2 ^ 32) k → k ≡ s
one_only s k h i = elim (ℕ_discrete k s) [
  | yes e ↦ e
  | no e ↦ absurd (let z : bit_at (1 * 2 ^ s % 2 ^ 32) k ≡ 0 = bit_at_set_other w32 0 s h k e ∙ bit_at-zero k in omega arith)
]

pub grow_start : (links : List ℕ) (m s : ℕ) → s < 32 → In m s → Growing links m s 0 (1 * 2 ^ s % 2 ^ 32)
grow_start links m s h i = record {
  seed = inr (one_same s h);
  joined_part = λ k a. absurd (let z : bit_at 0 k ≡ 0 = bit_at-zero k in omega arith);
  joined_todo = λ k a. subst (λ x. Connected (Linked links) (In m) s x) (sym (one_only s k h a)) (Connected.here i);
  shut = λ j k a b l. absurd (let z : bit_at 0 j ≡ 0 = bit_at-zero j in omega arith);
  apart = λ k a. bit_at-zero k;
}

pub grow_end : (links : List ℕ) (m s part : ℕ) → Growing links m s part 0 → IsComponent links m s part
grow_end links m s part g = record {
  seed = pick s g.seed;
  joined = g.joined_part;
  shut = λ j k a b l. pick k (g.shut j k a b l);
}
  where
    pick : (k : ℕ) → In part k ⊎ In 0 k → In part k
    pick k (inl a) = a
    pick k (inr a) = absurd (let z : bit_at 0 k ≡ 0 = bit_at-zero k in omega arith)

module _ (links : List ℕ) (m s part todo : ℕ) (mf : m < 2 ^ 32) (pf : part < 2 ^ 32) (tf : todo < 2 ^ 32) (more : 0 < todo) (g : Growing links m s part todo)
  where
    k : ℕ
    k = count_trailing_zeros 32 todo

    first : (k < 32) × (In todo k) × ((i : ℕ) → i < k → bit_at todo i ≡ 0)
    unfolding k
    first = bit_at-trailing_zeros w32 todo more tf

    part' : ℕ
    part' = bit_or part (1 * 2 ^ k % 2 ^ 32)

    more' : ℕ
    more' = bit_and (slice_index links k) m

    todo' : ℕ
    todo' = bit_and (bit_or todo more') (2 ^ 32 - 1 - part')

    part_k : In part' k
    unfolding part'
    part_k = bit_at_set_same w32 part k first.0

    part_else : (i : ℕ) → i ≢ k → bit_at part' i ≡ bit_at part i
    unfolding part'
    part_else i h = bit_at_set_other w32 part k first.0 i h

    part_fits : part' < 2 ^ 32
    unfolding part'
    part_fits = or_lt 32 part (1 * 2 ^ k % 2 ^ 32) pf (omega arith)

    todo_at : (j : ℕ) → j < 32 → bit_at todo' j ≡ min (max (bit_at todo j) (min (bit_at (slice_index links k) j) (bit_at m j))) (1 - bit_at part' j)
    unfolding todo' more'
    todo_at j h = rw (
      bit_at_and (bit_or todo (bit_and (slice_index links k) m)) (2 ^ 32 - 1 - part') j,
      bit_at_or todo (bit_and (slice_index links k) m) j,
      bit_at_and (slice_index links k) m j,
      bit_at_not w32 part' j part_fits h,
    )

    todo_below : (j : ℕ) → In todo' j → j < 32
    unfolding todo' more'
    todo_below j h =
        let o : bit_or todo (bit_and (slice_index links k) m) < 2 ^ 32 = or_lt 32 todo _ tf (let a = and_le_r (slice_index links k) m in omega arith) in
        let a = and_le_l (bit_or todo (bit_and (slice_index links k) m)) (2 ^ 32 - 1 - part') in
        place_below todo' 32 j (omega arith) h

    out_of_todo : (j : ℕ) → In todo' j → (In todo j ⊎ ((Linked links k j) × (In m j))) × (bit_at part' j ≡ 0)
    out_of_todo j h =
        let e = todo_at j (todo_below j h) in
        let a = bit_at-lt todo j in
        let b = bit_at-lt (slice_index links k) j in
        let c = bit_at-lt m j in
        let d = bit_at-lt part' j in
        (elim (ℕ_discrete (bit_at todo j) 1) [ yes y ↦ inl y | no n ↦ inr (omega arith, omega arith) ], omega arith)

    into_todo : (j : ℕ) → In todo j ⊎ ((Linked links k j) × (In m j)) → bit_at part' j ≡ 0 → In todo' j
    into_todo j w z =
        let below : j < 32 = elim w [ inl x ↦ place_below todo 32 j tf x | inr x ↦ place_below m 32 j mf x.1 ] in
        let e = todo_at j below in
        let a = bit_at-lt todo j in
        let b = bit_at-lt (slice_index links k) j in
        let c = bit_at-lt m j in
        elim w [ inl x ↦ omega arith | inr x ↦ omega arith ]

    -- a place is in the new part, or is not
    part_case : (j : ℕ) → In part' j ⊎ (bit_at part' j ≡ 0)
    part_case j = let d = bit_at-lt part' j in elim (ℕ_discrete (bit_at part' j) 1) [ yes y ↦ inl y | no n ↦ inr (omega arith) ]

    keeps : (j : ℕ) → In part j → In part' j
    keeps j h = elim (ℕ_discrete j k) [ yes e ↦ subst (In part') (sym e) part_k | no e ↦ part_else j e ∙ h ]

    moves : (j : ℕ) → In todo j ⊎ ((Linked links k j) × (In m j)) → In part' j ⊎ In todo' j
    moves j h = elim (part_case j) [ inl y ↦ inl y | inr z ↦ inr (into_todo j h z) ]

    joined_k : Connected (Linked links) (In m) s k
    joined_k = g.joined_todo k first.1

    grow_step : Growing links m s part' todo'
    grow_step = record {
      seed = elim g.seed [ inl a ↦ inl (keeps s a) | inr a ↦ moves s (inl a) ];
      joined_part = λ j h. elim (ℕ_discrete j k)
          [ yes e ↦ subst (λ x. Connected (Linked links) (In m) s x) (sym e) joined_k | no e ↦ g.joined_part j (sym (part_else j e) ∙ h) ];
      joined_todo = λ j h. elim (out_of_todo j h).0 [
        | inl a ↦ g.joined_todo j a
        | inr a ↦ joined_to joined_k (Connected.onward (ends_in joined_k) a.0 (Connected.here a.1))
      ];
      shut = λ i j a b l. elim (ℕ_discrete i k) [
        | yes e ↦ moves j (inr (subst (λ x. Linked links x j) e l, b))
        | no e ↦ elim (g.shut i j (sym (part_else i e) ∙ a) b l) [ inl x ↦ inl (keeps j x) | inr x ↦ moves j (inl x) ]
      ];
      apart = λ j h. (out_of_todo j h).1;
    }

    part_grows : part < part'
    unfolding part'
    part_grows =
        let a = le_or_l part (1 * 2 ^ k % 2 ^ 32) in
        let b = g.apart k first.1 in
        elim (dec_lt part part') [
          | yes l ↦ l
          | no l ↦ (let e : part ≡ part' = omega arith in absurd (let c : bit_at part k ≡ 1 = subst (λ x. In x k) (sym e) part_k in omega arith))
        ]

module _ (links : List ℕ) (m s part todo : ℕ) (mf : m < 2 ^ 32) (pf : part < 2 ^ 32) (tf : todo < 2 ^ 32) (more : 0 < todo) (g : Growing links m s part todo)
  where
    pub step_keeps : Growing links m s (bit_or part (1 * 2 ^ count_trailing_zeros 32 todo % 2 ^ 32))
        (bit_and (bit_or todo (bit_and (slice_index links (count_trailing_zeros 32 todo)) m))
        (2 ^ 32 - 1 - bit_or part (1 * 2 ^ count_trailing_zeros 32 todo % 2 ^ 32)))
    unfolding k part' todo' more'
    step_keeps = grow_step links m s part todo mf pf tf more g

    pub step_grows : part < bit_or part (1 * 2 ^ count_trailing_zeros 32 todo % 2 ^ 32)
    unfolding k part'
    step_grows = part_grows links m s part todo mf pf tf more g

    pub step_place : (n : ℕ) → m < 2 ^ n → count_trailing_zeros 32 todo < n
    step_place n h = place_below m n _ h (ends_in (g.joined_todo _ (bit_at-trailing_zeros w32 todo more tf).1))
