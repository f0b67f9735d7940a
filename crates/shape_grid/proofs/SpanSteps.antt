-- Spans of numbers in words: where the bits of one word end them, and one word of a span that is put in.
-- Laws over numbers and lists alone.
use Rattle.std.proofs.Common.{◌≡◌, ◌≢◌, ℕ, suc, ◌+◌, ◌-◌, ◌*◌, ◌/◌, ◌%◌, ◌^◌, ◌<◌, ◌≤◌, Bool, true, false, not, List, length, set, slice_index}
use Rattle.std.proofs.Common.{refl, sym, ◌∙◌, ap, arith, w64, min}
use Rattle.std.specs.Prelude.{◌==◌}
use Rattle.std.specs.Int.{bit_at, bit_not, trailing_zeros, leading_zeros}
use Rattle.std.specs.Int.Bits.{bit_or, bit_and}
use Rattle.std.proofs.lemmas.List.{length-set, get_or-set_same, get_or-set_other}
use Rattle.std.proofs.lemmas.Nat.{leading_top, pow_pos}
use Rattle.std.proofs.lemmas.Nat.Bits.{bit_at-lt, bit_at_above, bit_at-zero, bit_at_ones, bit_at_not, bit_at_or, bit_at_and, bit_at-trailing_zeros}
use Rattle.std.proofs.lemmas.Nat.Bits.{bit_at_cat_high}
use Rattle.std.proofs.Math.Nat.{div-le_self, mod-lt}
use native.Mathlib.Decide.{dec_lt, ℕ_discrete}
use Rattle.shape_grid.specs.Truths.{is_in}
use Rattle.shape_grid.specs.Spans.{AreOther, IsSpanEnd, IsSpanStart, IsMask, IsSpanPut}
use Rattle.shape_grid.proofs.Shifts.{shr_bit, shl_bit_low, shl_bit_high}

-- the numbers of a stretch are of a kind
abbrev pub AreKind : List ℕ → Bool → ℕ → ℕ → Type 0
AreKind words kind from until = (i : ℕ) → from ≤ i → i < until → is_in words i ≡ kind

bit_or_none : (n k : ℕ) → bit_at n k ≢ 1 → bit_at n k ≡ 0
bit_or_none n k h = let l = bit_at-lt n k in omega arith

-- ---- one word

-- a bit of a word tells of its number
in_word : (words : List ℕ) (w k : ℕ) → k < 64 → is_in words (64 * w + k) ≡ (bit_at (slice_index words w) k == 1)
in_word words w k l =
    let p : (64 * w + k) / 64 ≡ w = omega arith in
    let q : (64 * w + k) % 64 ≡ k = omega arith in
    λ i. bit_at (slice_index words (p i)) (q i) == 1

pub other_absent : (words : List ℕ) (w : ℕ) → slice_index words w < 2 ^ 64 → AreOther words w true (bit_not w64 (slice_index words w))
other_absent words w small = record {
  other = λ k l h. in_word words w k l
      ∙ ap (λ b. b == 1) (let e = bit_at_not w64 (slice_index words w) k small l in let z : bit_at (slice_index words w) k ≡ 0 = omega arith in z);
  same = λ k l h. in_word words w k l
      ∙ ap (λ b. b == 1)
      (let e = bit_at_not w64 (slice_index words w) k small l in let m = bit_at-lt (slice_index words w) k in
      let z : bit_at (slice_index words w) k ≡ 1 = omega arith in z);
}

pub other_present : (words : List ℕ) (w : ℕ) → AreOther words w false (slice_index words w)
other_present words w = record {
  other = λ k l h. in_word words w k l ∙ ap (λ b. b == 1) h;
  same = λ k l h. in_word words w k l ∙ ap (λ b. b == 1) h;
}

-- a number, told by its word and its bit
module _ (words : List ℕ) (kind : Bool) (w r : ℕ) (o : AreOther words w kind r) where
  is_same : (i : ℕ) → i / 64 ≡ w → bit_at r (i % 64) ≡ 0 → is_in words i ≡ kind
  is_same i e z = let p : i ≡ 64 * w + i % 64 = omega arith in ap (is_in words) p ∙ o.same (i % 64) (omega arith) z

  is_other : (i : ℕ) → i / 64 ≡ w → bit_at r (i % 64) ≡ 1 → is_in words i ≡ not kind
  is_other i e z = let p : i ≡ 64 * w + i % 64 = omega arith in ap (is_in words) p ∙ o.other (i % 64) (omega arith) z

-- ---- the end of a span

-- a number of the other kind, up to which all are of the kind
pub span_ends : (words : List ℕ) (kind : Bool) (from until r m : ℕ) → from ≤ until → from ≤ r → AreKind words kind from r → is_in words r ≡ not kind
    → (r < until → m ≡ r) → (until ≤ r → m ≡ until) → IsSpanEnd words kind from until m
span_ends words kind from until r m ordered on all here first second = record {
  on = elim (dec_lt r until) [ yes l ↦ (let e = first l in omega arith) | no l ↦ (let e = second (omega arith) in omega arith) ];
  within = elim (dec_lt r until) [ yes l ↦ (let e = first l in omega arith) | no l ↦ (let e = second (omega arith) in omega arith) ];
  each = λ i a b. all i a (elim (dec_lt r until) [ yes l ↦ (let e = first l in omega arith) | no l ↦ (let e = second (omega arith) in omega arith) ]);
  stop = λ b. elim (dec_lt r until) [
    | yes l ↦ ap (is_in words) (first l) ∙ here
    | no l ↦ absurd (let e = second (omega arith) in omega arith)
  ];
}

pub span_all : (words : List ℕ) (kind : Bool) (from until : ℕ) → from ≤ until → AreKind words kind from until → IsSpanEnd words kind from until until
span_all words kind from until ordered all = record { on = ordered; within = omega arith; each = all; stop = λ l. absurd (omega arith) }

-- in the word of the first number
module _ (words : List ℕ) (kind : Bool) (from r : ℕ) (o : AreOther words (from / 64) kind r) (small : r < 2 ^ 64) where
  rest_of : (i : ℕ) → from ≤ i → i / 64 ≡ from / 64 → bit_at (r / 2 ^ (from % 64)) (i - from) ≡ bit_at r (i % 64)
  rest_of i l e = let p : from % 64 + (i - from) ≡ i % 64 = omega arith in shr_bit r (from % 64) (i - from) ∙ ap (bit_at r) p

  -- none of its bits is left
  pub first_word : r / 2 ^ (from % 64) ≡ 0 → AreKind words kind from (64 * (from / 64 + 1))
  first_word z i a b =
      let e : i / 64 ≡ from / 64 = omega arith in
      is_same words kind (from / 64) r o i e (sym (rest_of i a e) ∙ ap (λ n. bit_at n (i - from)) z ∙ bit_at-zero (i - from))

  -- the least of them
  module _ (some : r / 2 ^ (from % 64) ≢ 0) where
    found : (trailing_zeros w64 (r / 2 ^ (from % 64)) < 64) × (bit_at (r / 2 ^ (from % 64)) (trailing_zeros w64 (r / 2 ^ (from % 64))) ≡ 1)
        × ((i : ℕ) → i < trailing_zeros w64 (r / 2 ^ (from % 64)) → bit_at (r / 2 ^ (from % 64)) i ≡ 0)
    found = let l = div-le_self r (2 ^ (from % 64)) in bit_at-trailing_zeros w64 (r / 2 ^ (from % 64)) (omega arith) (omega arith)

    least_below : (t : ℕ) → bit_at (r / 2 ^ (from % 64)) t ≡ 1 → from % 64 + t < 64
    least_below t one = elim (dec_lt (from % 64 + t) 64) [
      | yes l ↦ l
      | no l ↦ absurd (let z = bit_at_above r 64 (from % 64 + t) small (omega arith) in let e = shr_bit r (from % 64) t in omega arith)
    ]

    least_stop : (t : ℕ) → bit_at (r / 2 ^ (from % 64)) t ≡ 1 → is_in words (from + t) ≡ not kind
    least_stop t one =
        let l = least_below t one in
        let e : (from + t) / 64 ≡ from / 64 = omega arith in
        let p : from + t - from ≡ t = omega arith in
        is_other words kind (from / 64) r o (from + t) e (sym (rest_of (from + t) (omega arith) e) ∙ ap (bit_at (r / 2 ^ (from % 64))) p ∙ one)

    least_each : (t : ℕ) → bit_at (r / 2 ^ (from % 64)) t ≡ 1 → ((i : ℕ) → i < t → bit_at (r / 2 ^ (from % 64)) i ≡ 0) → AreKind words kind from (from + t)
    least_each t one none i a b =
        let l = least_below t one in
        let e : i / 64 ≡ from / 64 = omega arith in
        is_same words kind (from / 64) r o i e (sym (rest_of i a e) ∙ none (i - from) (omega arith))

    pub first_end : (until m : ℕ) → from ≤ until → (from + trailing_zeros w64 (r / 2 ^ (from % 64)) < until → m ≡ from + trailing_zeros w64 (r / 2 ^ (from %
        64)))
        → (until ≤ from + trailing_zeros w64 (r / 2 ^ (from % 64)) → m ≡ until) → IsSpanEnd words kind from until m
    first_end until m ordered first second =
        let t = found in
        span_ends words kind from until (from + trailing_zeros w64 (r / 2 ^ (from % 64))) m ordered (omega arith)
        (least_each (trailing_zeros w64 (r / 2 ^ (from % 64))) t.1 t.2) (least_stop (trailing_zeros w64 (r / 2 ^ (from % 64))) t.1) first second

-- in a later word
module _ (words : List ℕ) (kind : Bool) (from w r : ℕ) (o : AreOther words w kind r) (small : r < 2 ^ 64) (before : AreKind words kind from (64 * w)) where
  -- all of its numbers are of the kind
  pub next_word : r ≡ 0 → AreKind words kind from (64 * (w + 1))
  next_word z i a b = elim (dec_lt i (64 * w)) [
    | yes l ↦ before i a l
    | no l ↦ is_same words kind w r o i (omega arith) (ap (λ n. bit_at n (i % 64)) z ∙ bit_at-zero (i % 64))
  ]

  word_stop : (t : ℕ) → t < 64 → bit_at r t ≡ 1 → is_in words (w * 64 + t) ≡ not kind
  word_stop t l one =
      let q : t ≡ (w * 64 + t) % 64 = omega arith in
      is_other words kind w r o (w * 64 + t) (omega arith) (sym (ap (bit_at r) q) ∙ one)

  word_each : (t : ℕ) → t < 64 → ((i : ℕ) → i < t → bit_at r i ≡ 0) → AreKind words kind from (w * 64 + t)
  word_each t l none i a b = elim (dec_lt i (64 * w)) [
    | yes m ↦ before i a m
    | no m ↦ is_same words kind w r o i (omega arith) (none (i % 64) (omega arith))
  ]

  pub next_end : (until m : ℕ) → r ≢ 0 → from ≤ until → from ≤ 64 * w → (w * 64 + trailing_zeros w64 r < until → m ≡ w * 64 + trailing_zeros w64 r)
      → (until ≤ w * 64 + trailing_zeros w64 r → m ≡ until) → IsSpanEnd words kind from until m
  next_end until m some ordered on first second =
      let t = bit_at-trailing_zeros w64 r (omega arith) small in
      span_ends words kind from until (w * 64 + trailing_zeros w64 r) m ordered (omega arith) (word_each (trailing_zeros w64 r) t.0 t.2)
      (word_stop (trailing_zeros w64 r) t.0 t.1) first second

-- ---- the start of a span

-- the highest bit of a number
top_bit : (a j : ℕ) → 2 ^ j ≤ a → a < 2 ^ suc j → bit_at a j ≡ 1
top_bit a j low high =
    let e : 1 * 2 ^ j + (a - 2 ^ j) ≡ a = omega arith in
    let s : 2 ^ suc j ≡ 2 * 2 ^ j = grind arith in
    let z : j - j ≡ 0 = omega arith in
    sym (ap (λ n. bit_at n j) e) ∙ bit_at_cat_high 1 j (a - 2 ^ j) j (omega arith) (omega arith) ∙ ap (bit_at 1) z

pub span_starts : (words : List ℕ) (from until k m : ℕ) → from ≤ until → k ≤ until → 1 ≤ k → AreKind words true k until → is_in words (k - 1) ≡ false
    → (from < k → m ≡ k) → (k ≤ from → m ≡ from) → IsSpanStart words from until m
span_starts words from until k m ordered within some all here first second = record {
  on = elim (dec_lt from k) [ yes l ↦ (let e = first l in omega arith) | no l ↦ (let e = second (omega arith) in omega arith) ];
  within = elim (dec_lt from k) [ yes l ↦ (let e = first l in omega arith) | no l ↦ (let e = second (omega arith) in omega arith) ];
  each = λ i a b. all i (elim (dec_lt from k) [ yes l ↦ (let e = first l in omega arith) | no l ↦ (let e = second (omega arith) in omega arith) ]) b;
  stop = λ i e a. elim (dec_lt from k) [
    | yes l ↦ (let p : i ≡ k - 1 = (let f = first l in omega arith) in ap (is_in words) p ∙ here)
    | no l ↦ absurd (let f = second (omega arith) in omega arith)
  ];
}

pub span_whole : (words : List ℕ) (from until start : ℕ) → from ≤ until → start ≤ from → AreKind words true start until → IsSpanStart words from until from
span_whole words from until start ordered l all = record {
  on = omega arith;
  within = ordered;
  each = λ i a b. all i (omega arith) b;
  stop = λ i e a. absurd (omega arith);
}

-- in the word of the number before
module _ (words : List ℕ) (start until r : ℕ) (some : 1 ≤ start) (o : AreOther words ((start - 1) / 64) true r)
    (all : AreKind words true start until) where
  -- a number of the word, up to that one, has its bit where the word is shifted to
  moved_bit : (i : ℕ) → i < start → i / 64 ≡ (start - 1) / 64 → bit_at (r * 2 ^ (63 - (start - 1) % 64) % 2 ^ 64) (i % 64 + (63 - (start - 1) % 64)) ≡ bit_at
      r (i % 64)
  moved_bit i l e =
      let p : i % 64 + (63 - (start - 1) % 64) - (63 - (start - 1) % 64) ≡ i % 64 = omega arith in
      shl_bit_high 64 r (63 - (start - 1) % 64) (i % 64 + (63 - (start - 1) % 64)) (omega arith) (omega arith) ∙ ap (bit_at r) p

  -- none of its bits is left
  pub word_before : r * 2 ^ (63 - (start - 1) % 64) % 2 ^ 64 ≡ 0 → AreKind words true ((start - 1) / 64 * 64) until
  word_before z i a b = elim (dec_lt i start) [
    | yes l ↦ is_same words true ((start - 1) / 64) r o i (omega arith)
        (sym (moved_bit i l (omega arith)) ∙ ap (λ n. bit_at n (i % 64 + (63 - (start - 1) % 64))) z ∙ bit_at-zero (i % 64 + (63 - (start - 1) % 64)))
    | no l ↦ all i (omega arith) b
  ]

  -- the highest of them
  highest_on : (j : ℕ) → j < 64 → bit_at (r * 2 ^ (63 - (start - 1) % 64) % 2 ^ 64) j ≡ 1 → 63 - (start - 1) % 64 ≤ j
  highest_on j l one = elim (dec_lt j (63 - (start - 1) % 64)) [
    | yes m ↦ absurd (let z = shl_bit_low 64 r (63 - (start - 1) % 64) j l m in omega arith)
    | no m ↦ omega arith
  ]

  highest : (j k : ℕ) → j < 64 → bit_at (r * 2 ^ (63 - (start - 1) % 64) % 2 ^ 64) j ≡ 1
      → ((b : ℕ) → j < b → bit_at (r * 2 ^ (63 - (start - 1) % 64) % 2 ^ 64) b ≡ 0) → k + 64 ≡ start + j + 1
      → (k ≤ start) × (1 ≤ k) × AreKind words true k until × (is_in words (k - 1) ≡ false)
  highest j k l one none e =
      let on = highest_on j l one in
      let same : (k - 1) / 64 ≡ (start - 1) / 64 = omega arith in
      let p : j ≡ (k - 1) % 64 + (63 - (start - 1) % 64) = omega arith in (
        omega arith,
        omega arith,
        λ i a b. elim (dec_lt i start) [
          | yes m ↦ is_same words true ((start - 1) / 64) r o i (omega arith)
              (sym (moved_bit i m (omega arith)) ∙ none (i % 64 + (63 - (start - 1) % 64)) (omega arith))
          | no m ↦ all i (omega arith) b
        ],
        is_other words true ((start - 1) / 64) r o (k - 1) same
            (sym (moved_bit (k - 1) (omega arith) same) ∙ sym (ap (bit_at (r * 2 ^ (63 - (start - 1) % 64) % 2 ^ 64)) p) ∙ one),
      )

  pub last_start : (from m : ℕ) → from ≤ until → start ≤ until → r * 2 ^ (63 - (start - 1) % 64) % 2 ^ 64 ≢ 0
      → (from + leading_zeros w64 (r * 2 ^ (63 - (start - 1) % 64) % 2 ^ 64) < start → m + leading_zeros w64 (r * 2 ^ (63 - (start - 1) % 64) % 2 ^ 64) ≡ start)
      → (start ≤ from + leading_zeros w64 (r * 2 ^ (63 - (start - 1) % 64) % 2 ^ 64) → m ≡ from) → IsSpanStart words from until m
  last_start from m ordered within filled first second =
      let rest = r * 2 ^ (63 - (start - 1) % 64) % 2 ^ 64 in
      let t = leading_top 64 rest (omega arith) (mod-lt (r * 2 ^ (63 - (start - 1) % 64)) (pow_pos 64)) in
      let l : t.0 < 64 = let a = t.1 in omega arith in
      let k = start - leading_zeros w64 rest in
      let none : (b : ℕ) → t.0 < b → bit_at rest b ≡ 0 = λ b g. bit_at_above rest (suc t.0) b t.3 (omega arith) in
      let one : bit_at rest t.0 ≡ 1 = top_bit rest t.0 t.2 t.3 in
      let on : 64 ≤ start + t.0 = omega (arith, highest_on t.0 l one) in
      let u = highest t.0 (start + t.0 + 1 - 64) l one none (omega arith) in
      let e = t.1 in
      span_starts words from until (start + t.0 + 1 - 64) m ordered (let a = u.0 in omega arith) u.1 u.2 u.3 (λ g. let f = first (omega arith) in omega arith)
      (λ g. second (omega arith))

-- ---- a span that is put in

pub bits_on : (k b : ℕ) → k < 64 → k ≤ b → b < 64 → bit_at ((2 ^ 64 - 1) * 2 ^ k % 2 ^ 64) b ≡ 1
bits_on k b l m n = shl_bit_high 64 (2 ^ 64 - 1) k b n m ∙ bit_at_ones 64 (b - k) (omega arith)

pub bits_off : (k b : ℕ) → k < 64 → b < k → bit_at ((2 ^ 64 - 1) * 2 ^ k % 2 ^ 64) b ≡ 0
bits_off k b l m = shl_bit_low 64 (2 ^ 64 - 1) k b (omega arith) m

-- the bits from the first bit on and before the end bit are those of the span
module _ (w from until low high r t : ℕ) (first : from / 64 ≤ w) (last : w ≤ until / 64) (l : from / 64 ≡ w → low ≡ from % 64) (l' : from / 64 < w → low ≡ 0)
    (h : until / 64 ≡ w → high ≡ until % 64) (h' : w < until / 64 → high ≡ 64) (small : t < 2 ^ 64)
    (low_off : (b : ℕ) → b < low → bit_at r b ≡ 0) (low_on : (b : ℕ) → low ≤ b → b < 64 → bit_at r b ≡ 1)
    (high_off : (b : ℕ) → b < high → bit_at t b ≡ 0) (high_on : (b : ℕ) → high ≤ b → b < 64 → bit_at t b ≡ 1) where
  both : (k : ℕ) → k < 64 → bit_at (bit_and r (bit_not w64 t)) k ≡ min (bit_at r k) (1 - bit_at t k)
  both k m = bit_at_and r (bit_not w64 t) k ∙ ap (min (bit_at r k)) (bit_at_not w64 t k small m)

  pub mask_of : IsMask w from until (bit_and r (bit_not w64 t))
  mask_of = record {
    inside = λ k m a b.
        let e = both k m in
        let x = low_on k (elim (ℕ_discrete (from / 64) w) [ yes q ↦ (let f = l q in omega arith) | no q ↦ (let f = l' (omega arith) in omega arith) ]) m in
        let y = high_off k (elim (ℕ_discrete (until / 64) w) [ yes q ↦ (let f = h q in omega arith) | no q ↦ (let f = h' (omega arith) in omega arith) ]) in
        omega arith;
    before = λ k m a.
        let e = both k m in
        let x = low_off k (elim (ℕ_discrete (from / 64) w) [ yes q ↦ (let f = l q in omega arith) | no q ↦ absurd (omega arith) ]) in
        omega arith;
    behind = λ k m a.
        let e = both k m in
        let y = high_on k (elim (ℕ_discrete (until / 64) w) [ yes q ↦ (let f = h q in omega arith) | no q ↦ absurd (omega arith) ]) m in
        omega arith;
  }

-- a word in which the bits of a mask are set, and one in which they are cleared
module _ (word span b : ℕ) (l : b < 64) where
  pub set_on : bit_at span b ≡ 1 → (bit_at (bit_or word span) b == 1) ≡ true
  set_on h = ap (λ x. x == 1) (let e = bit_at_or word span b in let m = bit_at-lt word b in let z : bit_at (bit_or word span) b ≡ 1 = omega arith in z)

  pub set_off : bit_at span b ≡ 0 → bit_at (bit_or word span) b ≡ bit_at word b
  set_off h = let e = bit_at_or word span b in omega arith

  pub clear_on : span < 2 ^ 64 → bit_at span b ≡ 1 → (bit_at (bit_and word (bit_not w64 span)) b == 1) ≡ false
  clear_on small h = ap (λ x. x == 1) (let e = bit_at_and word (bit_not w64 span) b in let n = bit_at_not w64 span b small l in
      let z : bit_at (bit_and word (bit_not w64 span)) b ≡ 0 = omega arith in z)

  pub clear_off : span < 2 ^ 64 → bit_at span b ≡ 0 → bit_at (bit_and word (bit_not w64 span)) b ≡ bit_at word b
  clear_off small h =
      let e = bit_at_and word (bit_not w64 span) b in let n = bit_at_not w64 span b small l in let m = bit_at-lt word b in omega arith

-- nothing is put in yet, and one word more
pub unput : (words : List ℕ) (from until : ℕ) (kind : Bool) → IsSpanPut words words from until (64 * (from / 64)) kind
unput words from until kind = record {
  room = refl;
  inside = λ i a b c. absurd (omega arith);
  before = λ i a. refl;
  behind = λ i a. refl;
  left = λ i a. refl;
}

pub put_more : (words new : List ℕ) (from until w v span : ℕ) (kind : Bool) → w < length words → IsSpanPut words new from until (64 * w) kind → IsMask w from
    until span
    → ((b : ℕ) → b < 64 → bit_at span b ≡ 1 → (bit_at v b == 1) ≡ kind)
    → ((b : ℕ) → b < 64 → bit_at span b ≡ 0 → bit_at v b ≡ bit_at (slice_index new w) b)
    → IsSpanPut words (set new w v) from until (64 * (w + 1)) kind
put_more words new from until w v span kind within p m on off = record {
  room = length-set new w v ∙ p.room;
  inside = λ i a b c. elim (ℕ_discrete (i / 64) w) [
    | yes e ↦ (let q : i ≡ 64 * w + i % 64 = omega arith in
        ap (λ x. bit_at x (i % 64) == 1) (here i e) ∙ on (i % 64) (omega arith) (m.inside (i % 64) (omega arith) (omega arith) (omega arith)))
    | no e ↦ ap (λ x. bit_at x (i % 64) == 1) (there i e) ∙ p.inside i a b (omega arith)
  ];
  before = λ i a. elim (ℕ_discrete (i / 64) w) [
    | yes e ↦ ap (λ x. bit_at x (i % 64)) (here i e) ∙ off (i % 64) (omega arith) (m.before (i % 64) (omega arith) (omega arith))
        ∙ ap (λ w. bit_at (slice_index new w) (i % 64)) (sym e) ∙ p.before i a
    | no e ↦ ap (λ x. bit_at x (i % 64)) (there i e) ∙ p.before i a
  ];
  behind = λ i a. elim (ℕ_discrete (i / 64) w) [
    | yes e ↦ ap (λ x. bit_at x (i % 64)) (here i e) ∙ off (i % 64) (omega arith) (m.behind (i % 64) (omega arith) (omega arith))
        ∙ ap (λ w. bit_at (slice_index new w) (i % 64)) (sym e) ∙ p.behind i a
    | no e ↦ ap (λ x. bit_at x (i % 64)) (there i e) ∙ p.behind i a
  ];
  left = λ i a. ap (λ x. bit_at x (i % 64)) (there i (λ e. omega arith)) ∙ p.left i (omega arith);
}
  where
    here : (i : ℕ) → i / 64 ≡ w → slice_index (set new w v) (i / 64) ≡ v
    here i e = ap (slice_index (set new w v)) e ∙ get_or-set_same new w v 0 (let l = p.room in omega arith)

    there : (i : ℕ) → i / 64 ≢ w → slice_index (set new w v) (i / 64) ≡ slice_index new (i / 64)
    there i n = get_or-set_other new w (i / 64) v 0 n

pub put_end : (words new : List ℕ) (from until end : ℕ) (kind : Bool) → until < end → until < 64 * length words → IsSpanPut words new from until end kind
    → IsSpanPut words new from until (64 * length words) kind
put_end words new from until end kind l m p = record {
  room = p.room;
  inside = λ i a b c. p.inside i a b (omega arith);
  before = p.before;
  behind = p.behind;
  left = λ i a. p.behind i (omega arith);
}
