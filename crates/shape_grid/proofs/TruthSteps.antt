-- The truth values that words hold, while one of them is changed, and the first of them that is true.
-- Laws over lists alone.
use Rattle.std.proofs.Common.{◌≡◌, ℕ, ◌+◌, ◌*◌, ◌/◌, ◌%◌, ◌^◌, ◌<◌, ◌≤◌, Bool, true, false, List, length, set, replicate, get_or, slice_index, sym, ap, subst}
use Rattle.std.proofs.Common.{◌∙◌, arith}
use Rattle.std.specs.Prelude.{◌==◌, Option, Some, None, MatchOption}
use Rattle.std.specs.Int.{bit_at}
use Rattle.std.proofs.lemmas.List.{length-set, length-replicate, get_or-replicate, get_or-set_same, get_or-set_other, get_or_past, same_lists}
use Rattle.std.proofs.lemmas.List.FromFn.{length-map-range_with_len, get_or-map-range_with_len}
use Rattle.std.proofs.lemmas.Nat.Bits.{bit_at-zero, bit_at-lt, bit_at_above}
use native.Mathlib.Decide.{dec_lt, ℕ_discrete}
use Rattle.shape_grid.specs.Sets.{In, bit_of, IsPut, IsLeastFrom, AreThreeIn}
use Rattle.shape_grid.specs.Truths.{is_in, truths, AreTruths, IsFirstTrue, AreThree, AreOfWord}

pub length-truths : (words : List ℕ) (n : ℕ) → length (truths words n) ≡ n
length-truths words n = length-map-range_with_len (is_in words) 0 n

pub value_of : (words : List ℕ) (n i : ℕ) (d : Bool) → i < n → get_or (truths words n) i d ≡ is_in words i
value_of words n i d l = get_or-map-range_with_len (is_in words) 0 n i i d l (omega arith)

-- a place of the row has its bit in the words
pub place_within : (words : List ℕ) (n : ℕ) (values : List Bool) (i : ℕ) → AreTruths words n → truths words n ≡ values → i < length values
    → (i < n) × (i < 64 * length words)
place_within words n values i a e l =
    let m : n ≡ length values = sym (length-truths words n) ∙ ap length e in
    let r = a.room in
    (omega arith, omega arith)

-- a number that is not in the set
absent : (words : List ℕ) (i : ℕ) → (In words i → ⊥) → is_in words i ≡ false
absent words i h =
    let l = bit_at-lt (slice_index words (i / 64)) (i % 64) in
    let z : bit_of words i ≡ 0 = elim (ℕ_discrete (bit_of words i) 1) [ yes e ↦ absurd (h e) | no n ↦ omega arith ] in
    ap (λ b. b == 1) z

-- a number that is
present : (words : List ℕ) (i : ℕ) → is_in words i ≡ true → In words i
present words i h = elim (ℕ_discrete (bit_of words i) 1) [
  | yes e ↦ e
  | no n ↦ absurd (let z = absent words i n in let f : true ≡ false = sym h ∙ z in cc)
]

-- the values of three numbers in a row
pub three_true : (words : List ℕ) (n : ℕ) (values : List Bool) (i r : ℕ) → truths words n ≡ values → i + 2 < length values → AreThreeIn words i r
    → AreThree values i r
three_true words n values i r e l h b = (
  (λ t. let a = (h b).0 t in (a.0, value a.0 ∙ ap (λ x. x == 1) a.1)),
  λ t. (h b).1 (t.0, present words (i + b) (sym (value t.0) ∙ t.1)),
)
  where
    value : b < 3 → get_or values (i + b) false ≡ is_in words (i + b)
    value m =
        let k : n ≡ length values = sym (length-truths words n) ∙ ap length e in
        ap (λ v. get_or v (i + b) false) (sym e) ∙ value_of words n (i + b) false (omega arith)

-- the values of a word
pub word_true : (words : List ℕ) (n : ℕ) (values : List Bool) (w : ℕ) → AreTruths words n → truths words n ≡ values → slice_index words w < 2 ^ 64
    → AreOfWord values w (slice_index words w)
word_true words n values w a e small k = (
  (λ t.
      let low : k < 64 = elim (dec_lt k 64) [ yes m ↦ m | no m ↦ absurd (let z = bit_at_above (slice_index words w) 64 k small (omega arith) in omega arith) ]
      in
      let p : (64 * w + k) / 64 ≡ w = omega arith in
      let q : (64 * w + k) % 64 ≡ k = omega arith in
      let there : In words (64 * w + k) = (λ i. bit_at (slice_index words (p i)) (q i)) ∙ t in
      let within : 64 * w + k < n = elim (dec_lt (64 * w + k) n) [ yes m ↦ m | no m ↦ absurd (a.none_past (64 * w + k) (omega arith) there) ] in
      (low, ap (λ v. get_or v (64 * w + k) false) (sym e) ∙ value_of words n (64 * w + k) false within ∙ ap (λ b. b == 1) there)),
  λ t.
      let p : (64 * w + k) / 64 ≡ w = let l = t.0 in omega arith in
      let q : (64 * w + k) % 64 ≡ k = let l = t.0 in omega arith in
      let v : get_or (truths words n) (64 * w + k) false ≡ true = ap (λ v. get_or v (64 * w + k) false) e ∙ t.1 in
      let within : 64 * w + k < n = elim (dec_lt (64 * w + k) n) [
        | yes m ↦ m
        | no m ↦ absurd (let z : get_or (truths words n) (64 * w + k) false ≡ false =
            get_or_past (truths words n) (64 * w + k) false (omega (arith, length-truths words n)) in let f : true ≡ false = sym v ∙ z in cc)
      ] in
      sym (λ i. bit_at (slice_index words (p i)) (q i)) ∙ present words (64 * w + k) (sym (value_of words n (64 * w + k) false within) ∙ v),
)

-- words without a bit
pub none_true : (words : List ℕ) (n : ℕ) → ((w : ℕ) → slice_index words w ≡ 0) → truths words n ≡ replicate n false
none_true words n z = same_lists (truths words n) (replicate n false) (length-truths words n ∙ sym (length-replicate n false)) (λ k d l.
    let m : k < n = omega (arith, length-truths words n) in
    value_of words n k d m ∙ ap (λ b. b == 1) (ap (λ x. bit_at x (k % 64)) (z (k / 64)) ∙ bit_at-zero (k % 64)) ∙ sym (get_or-replicate n k false d m))

module _ (words words' : List ℕ) (n i b : ℕ) (p : IsPut words words' i b) (l : i < n) where
  -- one value is changed
  pub put_true : truths words' n ≡ set (truths words n) i (b == 1)
  put_true = same_lists (truths words' n) (set (truths words n) i (b == 1))
      (length-truths words' n ∙ sym (length-set (truths words n) i (b == 1) ∙ length-truths words n)) (λ k d m.
      let k_in : k < n = omega (arith, length-truths words' n) in
      value_of words' n k d k_in ∙ elim (ℕ_discrete k i) [
        | yes e ↦ ap (is_in words') e ∙ ap (λ b. b == 1) p.here
            ∙ sym (ap (λ k. get_or (set (truths words n) i (b == 1)) k d) e
            ∙ get_or-set_same (truths words n) i (b == 1) d (omega (arith, length-truths words n)))
        | no e ↦ ap (λ b. b == 1) (p.others k e) ∙ sym (get_or-set_other (truths words n) i k (b == 1) d e ∙ value_of words n k d k_in)
      ])

  -- behind the row there is still no bit
  pub put_are : AreTruths words n → AreTruths words' n
  put_are a = record {
    few = a.few;
    room = p.room ∙ a.room;
    none_past = λ j m h. a.none_past j m (sym (p.others j (λ e. omega arith)) ∙ h);
  }

module _ (words : List ℕ) (n : ℕ) (a : AreTruths words n) where
  -- the least number from a place on is the first place there whose value is true
  first_true : (from i : ℕ) → IsLeastFrom words from i → IsFirstTrue (truths words n) from i
  first_true from i l =
      let within : i < n = elim (dec_lt i n) [ yes m ↦ m | no m ↦ absurd (a.none_past i (omega arith) l.there) ] in
      record {
        on = l.on;
        within = omega (arith, length-truths words n);
        there = value_of words n i false within ∙ ap (λ b. b == 1) l.there;
        first = λ j m k. value_of words n j false (omega arith) ∙ absent words j (λ h. let g = l.least j h m in omega arith);
      }

  -- no number from a place on: no value there is true
  none_from : (from : ℕ) → ((i : ℕ) → In words i → from ≤ i → ⊥) → (k : ℕ) → from ≤ k → get_or (truths words n) k false ≡ false
  none_from from none k l = elim (dec_lt k n) [
    | yes m ↦ value_of words n k false m ∙ absent words k (λ h. none k h l)
    | no m ↦ get_or_past (truths words n) k false (omega (arith, length-truths words n))
  ]

  -- what is found in the words holds of the values that they are
  pub found_true : (values : List Bool) (from : ℕ) (r : Option ℕ) → truths words n ≡ values
      → MatchOption r ((i : ℕ) → In words i → from ≤ i → ⊥) (λ i. IsLeastFrom words from i)
      → MatchOption r ((k : ℕ) → from ≤ k → get_or values k false ≡ false) (λ k. IsFirstTrue values from k)
  found_true values from None e h = subst (λ (v : List Bool). (k : ℕ) → from ≤ k → get_or v k false ≡ false) e (none_from from h)
  found_true values from (Some i) e h = subst (λ (v : List Bool). IsFirstTrue v from i) e (first_true from i h)
