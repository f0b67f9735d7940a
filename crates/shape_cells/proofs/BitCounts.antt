-- How many bits of a word are set below a place, and how many values of a row are true before one.
-- Laws over numbers and lists alone.
use Rattle.std.proofs.Common.{◌≡◌, ℕ, zero, suc, ◌+◌, ◌-◌, ◌*◌, ◌/◌, ◌%◌, ◌^◌, ◌<◌, ◌≤◌, Bool, true, false, List, [], ◌∷◌, ◌++◌, length, take, get_or}
use Rattle.std.proofs.Common.{slice_index, refl, sym, ap, subst, ◌∙◌, arith, inl, inr}
use Rattle.std.specs.Prelude.{count_ones}
use Rattle.std.specs.Int.{bit_at}
use Rattle.std.specs.Int.Count.{ones}
use Rattle.std.proofs.lemmas.Bool.{cases_Bool}
use Rattle.std.proofs.lemmas.Nat.{mod-pow-add, ones_cat, mod_below, pow_pos}
use Rattle.std.proofs.Math.Seq.{get_or-append_seam}
use Rattle.std.proofs.lemmas.Nat.Bits.{bit_at-lt}
use Rattle.std.proofs.lemmas.List.{take_all, length-take, length-append, get_or_append_left, get_or_past, get_or_default}
use Rattle.std.proofs.lemmas.List.Sums.{count_by_more_yes, count_by_more_no, count_by-le-length}
use native.Mathlib.Decide.{dec_lt, ℕ_discrete}
use Rattle.shape_grid.specs.Truths.{AreOfWord}
use Rattle.shape_cells.specs.Counting.{trues, trues_before, AreCounts}

-- a bit counts as much as it is
ones_of_bit : (b : ℕ) → b < 2 → count_ones b ≡ b
unfolding ones
ones_of_bit zero l = refl
ones_of_bit (suc zero) l = refl
ones_of_bit (suc (suc b)) l = absurd (omega arith)

-- one more place
pub one_bit : (n k : ℕ) → count_ones (n % 2 ^ (k + 1)) ≡ count_ones (n % 2 ^ k) + bit_at n k
one_bit n k =
    let e : k + 1 ≡ 1 + k = omega arith in
    let c = ones_cat k (bit_at n k) (n % 2 ^ k) (mod_below n (2 ^ k) (pow_pos k)) in
    let s = ap count_ones (mod-pow-add n 1 k) in
    let o = ones_of_bit (bit_at n k) (bit_at-lt n k) in
    rw e (s ∙ c ∙ omega (arith, o))

-- a true value lies within the row
pub true_within : (values : List Bool) (i : ℕ) → get_or values i false ≡ true → i < length values
true_within values i t = elim (dec_lt i (length values)) [
  | yes l ↦ l
  | no n ↦ absurd (let z = get_or_past values i false (omega arith) in let f : true ≡ false = sym t ∙ z in cc)
]

-- one more place of the row
pub more_true : (values : List Bool) (i : ℕ) → get_or values i false ≡ true → trues_before values (i + 1) ≡ trues_before values i + 1
more_true values i t = count_by_more_yes (λ b. b) values i false (true_within values i t) t

pub more_false : (values : List Bool) (i : ℕ) → get_or values i false ≡ false → trues_before values (i + 1) ≡ trues_before values i
more_false values i f = elim (dec_lt i (length values)) [
  | yes l ↦ count_by_more_no (λ b. b) values i false l f
  | no n ↦ ap trues (take_all (i + 1) values (omega arith) ∙ sym (take_all i values (omega arith)))
]

module _ (values : List Bool) (w n : ℕ) (are : AreOfWord values w n) where
  -- the bits of the word below place k are the values of the row behind the places before the word
  pub of_word : (k : ℕ) → k ≤ 64 → trues_before values (64 * w + k) ≡ trues_before values (64 * w) + count_ones (n % 2 ^ k)
  of_word zero l =
      let e : 64 * w + 0 ≡ 64 * w = omega arith in
      let z : n % 2 ^ 0 ≡ 0 = omega arith in
      rw (e, z) (let o = ones_of_bit 0 (omega arith) in omega (arith, o))
  of_word (suc k) l =
      let e : 64 * w + suc k ≡ 64 * w + k + 1 = omega arith in
      let f : suc k ≡ k + 1 = omega arith in
      let r = of_word k (omega arith) in
      let o = one_bit n k in
      elim (cases_Bool (get_or values (64 * w + k) false)) [
        | inl t ↦ (
            let b : bit_at n k ≡ 1 = (are k).1 (omega arith, t) in
            let m = more_true values (64 * w + k) t in
            rw (e, f) (omega (arith, r, o, b, m)))
        | inr t ↦ (
            let b : bit_at n k ≡ 0 = elim (ℕ_discrete (bit_at n k) 1) [
              | yes s ↦ absurd (let h = ((are k).0 s).1 in let x : true ≡ false = sym h ∙ t in cc)
              | no s ↦ (let x = bit_at-lt n k in omega arith)
            ] in
            let m = more_false values (64 * w + k) t in
            rw (e, f) (omega (arith, r, o, b, m)))
      ]

  -- the bits of a whole word
  pub of_whole_word : n < 2 ^ 64 → trues_before values (64 * w + 64) ≡ trues_before values (64 * w) + count_ones n
  of_whole_word l = let e : n % 2 ^ 64 ≡ n = omega arith in of_word 64 (omega arith) ∙ ap (λ x. trues_before values (64 * w) + count_ones x) e

-- no more values are true than the row has
pub few_true : (values : List Bool) (i : ℕ) → trues_before values i ≤ length values
few_true values i = omega (arith, count_by-le-length (λ b. b) (take i values), length-take i values)

-- the counts of the words before word w
pub record AreCountsTo (values : List Bool) (w : ℕ) (counts : List ℕ) : Type 0 where
  pub long : length counts ≡ w
  pub each : (b : ℕ) → b < length counts → slice_index counts b ≡ trues_before values (64 * b)

-- the count of one more word
pub counts_pushed : (values : List Bool) (w n : ℕ) (counts : List ℕ) → n ≡ trues_before values (64 * w) → AreCountsTo values w counts
    → AreCountsTo values (w + 1) (counts ++ n ∷ [])
counts_pushed values w n counts e a =
    let l = a.long in
    let s = length-append counts (n ∷ []) in
    record {
      long = omega (arith, l, s);
      each = λ b m. elim (dec_lt b (length counts)) [
        | yes h ↦ get_or_append_left counts (n ∷ []) 0 b h ∙ a.each b h
        | no h ↦ (
            let last : b ≡ length counts = omega (arith, m, s) in
            let k : 64 * w ≡ 64 * length counts = omega (arith, l) in
            rw last (get_or-append_seam counts n [] 0 ∙ e ∙ ap (trues_before values) k))
      ];
    }

-- behind the last value no further one is true
pub all_true : (values : List Bool) (i : ℕ) → length values ≤ i → trues_before values i ≡ trues values
all_true values i l = ap trues (take_all i values l)

-- values none of which is true
pub none_true : (values : List Bool) (a z : ℕ) → ((k : ℕ) → a ≤ k → k < a + z → get_or values k false ≡ false)
    → trues_before values (a + z) ≡ trues_before values a
none_true values a zero none = let e : a + 0 ≡ a = omega arith in rw e refl
none_true values a (suc z) none =
    let e : a + suc z ≡ a + z + 1 = omega arith in
    rw e (more_false values (a + z) (none (a + z) (omega arith) (omega arith)) ∙ none_true values a z (λ k l m. none k l (omega arith)))

-- the number of a true value is below that of a later one, and below the number of all
pub numbers_rise : (values : List Bool) (i z : ℕ) → get_or values i false ≡ true → trues_before values i < trues_before values (i + 1 + z)
numbers_rise values i zero t = let e : i + 1 + 0 ≡ i + 1 = omega arith in let m = more_true values i t in rw e (omega (arith, m))
numbers_rise values i (suc z) t =
    let e : i + 1 + suc z ≡ i + 1 + z + 1 = omega arith in
    let r = numbers_rise values i z t in
    rw e (elim (cases_Bool (get_or values (i + 1 + z) false)) [
      | inl s ↦ (let m = more_true values (i + 1 + z) s in omega (arith, r, m))
      | inr s ↦ (let m = more_false values (i + 1 + z) s in omega (arith, r, m))
    ])

pub number_within : (values : List Bool) (i : ℕ) → get_or values i false ≡ true → trues_before values i < trues values
number_within values i t =
    let l = true_within values i t in
    let e : i + 1 + (length values - (i + 1)) ≡ length values = omega arith in
    let r = numbers_rise values i (length values - (i + 1)) t in
    let a = all_true values (length values) (omega arith) in
    subst (λ n. trues_before values i < n) (ap (trues_before values) e ∙ a) r

-- two true values have different numbers
pub numbers_differ : (values : List Bool) (i j : ℕ) → get_or values i false ≡ true → i < j → trues_before values i < trues_before values j
numbers_differ values i j t l =
    let e : i + 1 + (j - (i + 1)) ≡ j = omega arith in
    subst (λ k. trues_before values i < trues_before values k) e (numbers_rise values i (j - (i + 1)) t)

-- the count before a word and the bits below one of its places count what is true before the place
pub number_is : (values : List Bool) (counts : List ℕ) (i r word m : ℕ) → AreCounts values counts → i ≤ length values
    → r ≡ get_or counts (i / 64) r → AreOfWord values (i / 64) word → m ≡ count_ones (word % 2 ^ (i % 64)) → r + m ≡ trues_before values i
number_is values counts i r word m a l read are below =
    let n = a.long in
    let within : i / 64 < length counts = omega (arith, l, n) in
    let first : r ≡ trues_before values (64 * (i / 64)) = read ∙ get_or_default counts (i / 64) r 0 within ∙ a.each (i / 64) within in
    let s = of_word values (i / 64) word are (i % 64) (omega arith) in
    let e : 64 * (i / 64) + i % 64 ≡ i = omega arith in
    omega (arith, s, first, below) ∙ ap (trues_before values) e
