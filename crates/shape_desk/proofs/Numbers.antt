-- The run of digits at the front of bytes, and the one spelling of a number.
use Rattle.std.proofs.Common.{◌≡◌, ◌≢◌, ◌+◌, ◌-◌, ◌*◌, ◌^◌, ◌<◌, ◌≤◌, ℕ, zero, suc, ℤ, pos, negsuc, Bool, true, false, cond, List, [], ◌∷◌, ◌++◌, length}
use Rattle.std.proofs.Common.{get_or, take, drop, take_while, decimal, inl, inr, FitsSigned, refl, sym, ap, subst, ◌∙◌, arith}
use Rattle.std.specs.Int.{w64}
use Rattle.std.specs.Fmt.{signed_decimal}
use Rattle.std.specs.Char.{is_ascii_digit, digit_value}
use Rattle.std.specs.Str.Parse.{AllDigits, digits_value_after, digits_value}
use Rattle.std.proofs.lemmas.List.Sums.{take_while-cons, prefix_len-le-length, prefix_len_passes, prefix_len_stops}
use Rattle.std.proofs.lemmas.Str.{digit_value_digit}
use Rattle.std.proofs.lemmas.Str.Parse.{digit_from_value, digit_at, numerals_by_value, tells_digits}
use Rattle.std.proofs.lemmas.Fmt.{decimal_is_IsNumeral, decimal_nonempty, first_decimal, decimal_digit, decimal_injective, decimal-digits_value}
use Rattle.std.proofs.lemmas.Bool.Decides.{nat_tests}
use Rattle.std.proofs.Math.ListN.{drop_of_length-le}
use Rattle.std.proofs.lemmas.Bool.{cases_lt}
use Rattle.std.proofs.lemmas.List.{drop_more, length-take, length-drop, take_min, get_or-take}
use Rattle.std.specs.List.{prefix_len}
use borrow.Author.Tests.{ne_eqb}
use Rattle.shape_desk.specs.Number.{number_front, HasNoLeadingZero, IsSizeOf, IsRunSoFar, SpellsNumber}

-- ---- the run of digits

is_digit : (c : ℕ) → is_ascii_digit c ≡ true → digit_value c < 10
is_digit c e = let r : (48 ≤ c) × (c ≤ 57) = grind (arith, nat_tests) in omega (arith, digit_value_digit c r)

-- the test of a digit passes
passes : (c : ℕ) → digit_value c < 10 → is_ascii_digit c ≡ true
passes c h = let r = digit_from_value c h in grind (arith, nat_tests)

pub AllDigits-take_while : (xs : List ℕ) → AllDigits 10 (take_while is_ascii_digit xs)
AllDigits-take_while [] = tt
AllDigits-take_while (x ∷ xs) = rw (take_while-cons is_ascii_digit x xs) (first (AllDigits-take_while xs) (is_ascii_digit x) refl)
  where
    first : AllDigits 10 (take_while is_ascii_digit xs) → (b : Bool) → is_ascii_digit x ≡ b → AllDigits 10 (cond b (x ∷ take_while is_ascii_digit xs) [])
    first h true e = (is_digit x e, h)
    first h false e = tt

pub take-length-take_while : (p : ℕ → Bool) (xs : List ℕ) → take (length (take_while p xs)) xs ≡ take_while p xs
take-length-take_while p xs = ap (λ k. take k xs) (length-take (prefix_len p xs) xs) ∙ take_min (prefix_len p xs) xs

-- no digit follows the run
pub after_run : (xs : List ℕ) → is_ascii_digit (get_or xs (length (take_while is_ascii_digit xs)) 0) ≡ false
after_run [] = refl
after_run (x ∷ xs) =
    subst (λ (l : List ℕ). is_ascii_digit (get_or (x ∷ xs) (length l) 0) ≡ false) (sym (take_while-cons is_ascii_digit x xs))
    (first (after_run xs) (is_ascii_digit x) refl)
  where
    first : is_ascii_digit (get_or xs (length (take_while is_ascii_digit xs)) 0) ≡ false → (b : Bool) → is_ascii_digit x ≡ b
        → is_ascii_digit (get_or (x ∷ xs) (length (cond b (x ∷ take_while is_ascii_digit xs) [])) 0) ≡ false
    first h true e = h
    first h false e = e

-- the run ends where no digit follows
pub take_while-digits : (ds rest : List ℕ) → AllDigits 10 ds → is_ascii_digit (get_or rest 0 0) ≡ false → take_while is_ascii_digit (ds ++ rest) ≡ ds
take_while-digits [] [] d n = refl
take_while-digits [] (x ∷ rest) d n = take_while-cons is_ascii_digit x rest ∙ ap (λ b. cond b (x ∷ take_while is_ascii_digit rest) []) n
take_while-digits (c ∷ cs) rest d n =
    take_while-cons is_ascii_digit c (cs ++ rest)
    ∙ ap (λ b. cond b (c ∷ take_while is_ascii_digit (cs ++ rest)) []) (passes c d.0)
    ∙ ap (λ l. c ∷ l) (take_while-digits cs rest d.1 n)

-- ---- the front

pub number_front-unsigned : (bs : List ℕ) → get_or bs 0 0 ≢ 45 → number_front bs ≡ take_while is_ascii_digit bs
number_front-unsigned [] n = refl
number_front-unsigned (b ∷ bs) n = ap (λ t. cond t (45 ∷ take_while is_ascii_digit bs) (take_while is_ascii_digit (b ∷ bs))) (ne_eqb b 45 n)

digits_of_decimal : (n : ℕ) → n < 2 ^ 64 → AllDigits 10 (decimal n)
digits_of_decimal n h = (decimal_is_IsNumeral n h).0.1

-- digits are no minus sign
pub no_minus : (ds es : List ℕ) → AllDigits 10 ds → ds ≢ 45 ∷ es
no_minus ds es d e = omega (arith, digit_from_value 45 (subst (AllDigits 10) e d).0)

-- what was written is the front that is read, where no digit follows
pub number_front-signed_decimal : (z : ℤ) (rest : List ℕ) → FitsSigned w64 z → is_ascii_digit (get_or rest 0 0) ≡ false
    → number_front (signed_decimal z ++ rest) ≡ signed_decimal z
number_front-signed_decimal (pos n) rest f s =
    let d = digits_of_decimal n (omega (arith, f.sfits)) in
    number_front-unsigned (decimal n ++ rest) (first (decimal n) d (decimal_nonempty n (omega (arith, f.sfits)))) ∙ take_while-digits (decimal n) rest d s
  where
    first : (ds : List ℕ) → AllDigits 10 ds → 0 < length ds → get_or (ds ++ rest) 0 0 ≢ 45
    first [] d l e = omega arith
    first (c ∷ cs) d l e = omega (arith, digit_from_value c d.0)
number_front-signed_decimal (negsuc n) rest f s =
    ap (λ l. 45 ∷ l) (take_while-digits (decimal (suc n)) rest (digits_of_decimal (suc n) (omega (arith, f.sfits))) s)

-- ---- no spelling

pub none_negative : (ds : List ℕ) → ((n : ℕ) → 0 < n → n ≤ 2 ^ 63 → ds ≢ decimal n) → (z : ℤ) → FitsSigned w64 z → 45 ∷ ds ≢ signed_decimal z
none_negative ds h (pos n) f e = no_minus (decimal n) ds (digits_of_decimal n (omega (arith, f.sfits))) (sym e)
none_negative ds h (negsuc n) f e = h (suc n) (omega arith) (omega (arith, f.sfits)) (ap (drop 1) e)

pub none_unsigned : (ds : List ℕ) → AllDigits 10 ds → ((n : ℕ) → n < 2 ^ 63 → ds ≢ decimal n) → (z : ℤ) → FitsSigned w64 z → ds ≢ signed_decimal z
none_unsigned ds d h (pos n) f e = h n (omega (arith, f.sfits)) e
none_unsigned ds d h (negsuc n) f e = no_minus ds (decimal (suc n)) d e

pub HasNoLeadingZero-decimal : (n : ℕ) → n ≤ 2 ^ 63 → HasNoLeadingZero (decimal n)
HasNoLeadingZero-decimal zero l = (decimal_nonempty 0 (omega arith), λ _. ap length (decimal_digit 0 (omega arith)))
HasNoLeadingZero-decimal (suc n) l = (decimal_nonempty (suc n) (omega arith), λ z. absurd (omega (arith, first_decimal (suc n) (omega arith) (omega arith))))

pub none_misspelt : (ds : List ℕ) → (HasNoLeadingZero ds → ⊥) → (n : ℕ) → n ≤ 2 ^ 63 → ds ≢ decimal n
none_misspelt ds h n l e = h (subst HasNoLeadingZero (sym e) (HasNoLeadingZero-decimal n l))

-- ---- the value of digits

at_least : (n : ℕ) (ds : List ℕ) → n ≤ digits_value_after 10 n ds
at_least n [] = omega arith
at_least n (c ∷ cs) = omega (arith, at_least (n * 10 + digit_value c) cs)

-- one digit more
pub value_step : (size : ℕ) (ds : List ℕ) (k : ℕ) → AllDigits 10 ds → k < length ds
    → digits_value_after 10 (size * 10 + (get_or ds k 0 - 48)) (drop (k + 1) ds) ≡ digits_value_after 10 size (drop k ds)
value_step size ds k d l =
    let e : get_or ds k 0 - 48 ≡ digit_value (get_or ds k 0) = omega (arith, digit_value_digit (get_or ds k 0) (digit_at ds k d l)) in
    ap (λ v. digits_value_after 10 (size * 10 + v) (drop (k + 1) ds)) e ∙ sym (ap (digits_value_after 10 size) (drop_more ds k 0 l))

pub value_above : (size : ℕ) (ds : List ℕ) → 922337203685477580 < size → 0 < length ds → 2 ^ 63 < digits_value_after 10 size ds
value_above size [] h l = absurd (omega arith)
value_above size (c ∷ cs) h l = omega (arith, at_least (size * 10 + digit_value c) cs)

pub spelled : (ds : List ℕ) (n : ℕ) → AllDigits 10 ds → HasNoLeadingZero ds → n ≤ 2 ^ 63 → digits_value 10 ds ≡ n → ds ≡ decimal n
spelled ds n d s l e = sym (decimal-digits_value (numerals_by_value _ tells_digits) ds d s.0 s.1 (omega arith)) ∙ ap decimal e

-- digits without a leading zero spell the size that is told of them
pub spells_size : (ds : List ℕ) (m : ℕ) → AllDigits 10 ds → HasNoLeadingZero ds → m ≤ 2 ^ 63 → IsSizeOf (digits_value 10 ds) m → ds ≡ decimal m
spells_size ds m d z l s = elim (cases_lt (2 ^ 63) (digits_value 10 ds)) [
  | inl h ↦ absurd (omega (arith, s.great h))
  | inr h ↦ spelled ds m d z l (sym (s.same (omega arith)))
]

-- and where that size is above a greatest one, they spell no number up to it
pub none_above : (ds : List ℕ) (m most : ℕ) → most ≤ 2 ^ 63 → most < m → IsSizeOf (digits_value 10 ds) m → (n : ℕ) → n ≤ most → ds ≢ decimal n
none_above ds m most f g s n l e =
    let v : digits_value 10 ds ≡ n = ap (digits_value 10) e ∙ (decimal_is_IsNumeral n (omega arith)).1 in
    omega (arith, s.same (omega arith))

-- ---- the run, digit by digit

length_run : (bs : List ℕ) → length (take_while is_ascii_digit bs) ≡ prefix_len is_ascii_digit bs
length_run bs = omega (arith, length-take (prefix_len is_ascii_digit bs) bs, prefix_len-le-length is_ascii_digit bs)

size_stays : (n a m : ℕ) (ds : List ℕ) → IsSizeOf n a → 2 ^ 63 < a → 2 ^ 63 < m → IsSizeOf n (digits_value_after 10 m ds)
size_stays n a m ds s h g = record {
  same = λ l. absurd (omega (arith, s.same l));
  great = λ l. omega (arith, at_least m ds);
}

pub run_more : (bs : List ℕ) (i m next : ℕ) → i < length bs → is_ascii_digit (get_or bs i 0) ≡ true
    → (m ≤ 922337203685477580 → next ≡ m * 10 + (get_or bs i 0 - 48)) → (922337203685477580 < m → 2 ^ 63 < next)
    → IsRunSoFar bs i m → IsRunSoFar bs (i + 1) next
run_more bs i m next l t small great r =
    let n = prefix_len is_ascii_digit bs in
    let ds = take_while is_ascii_digit bs in
    let k : i < n = elim (cases_lt i n) [
      | inl h ↦ h
      | inr h ↦
          let e : i ≡ n = omega (arith, r.within) in
          let f : is_ascii_digit (get_or bs i 0) ≡ false = ap (λ j. is_ascii_digit (get_or bs j 0)) e ∙ prefix_len_stops is_ascii_digit bs 0 (omega arith) in
          absurd (let c : true ≡ false = sym t ∙ f in cc)
    ] in
    let w : i < length ds = omega (arith, length_run bs) in
    let c : get_or ds i 0 ≡ get_or bs i 0 = get_or-take n bs i 0 k in
    record {
      within = omega arith;
      size = elim (cases_lt 922337203685477580 m) [
        | inl h ↦ size_stays (digits_value 10 ds) (digits_value_after 10 m (drop i ds)) next (drop (i + 1) ds) r.size
            (value_above m (drop i ds) h (omega (arith, length-drop i ds))) (great h)
        | inr h ↦
            let e : digits_value_after 10 next (drop (i + 1) ds) ≡ digits_value_after 10 m (drop i ds) =
            ap (λ v. digits_value_after 10 v (drop (i + 1) ds)) (small (omega arith) ∙ ap (λ b. m * 10 + (b - 48)) (sym c))
            ∙ value_step m ds i (AllDigits-take_while bs) w in
            subst (IsSizeOf (digits_value 10 ds)) (sym e) r.size
      ];
    }

-- the first digit of a run is one so far
pub run_begun : (bs : List ℕ) → 0 < length (take_while is_ascii_digit bs) → IsRunSoFar bs 1 (get_or bs 0 0 - 48)
run_begun bs some =
    let n = prefix_len is_ascii_digit bs in
    let l : 0 < length bs = omega (arith, length_run bs, prefix_len-le-length is_ascii_digit bs) in
    let digit : is_ascii_digit (get_or bs 0 0) ≡ true = prefix_len_passes is_ascii_digit bs 0 0 (omega (arith, length_run bs)) in
    run_more bs 0 0 (get_or bs 0 0 - 48) l digit (λ h. omega arith) (λ h. absurd (omega arith)) (record {
      within = omega arith;
      size = record { same = λ h. refl; great = λ h. h };
    })

run_done : (bs : List ℕ) (i m : ℕ) → i ≡ prefix_len is_ascii_digit bs → IsRunSoFar bs i m → IsSizeOf (digits_value 10 (take_while is_ascii_digit bs)) m
run_done bs i m e r =
    let ds = take_while is_ascii_digit bs in
    let none : drop i ds ≡ [] = drop_of_length-le ds (omega (arith, length_run bs)) in
    subst (λ l. IsSizeOf (digits_value 10 ds) (digits_value_after 10 m l)) none r.size

-- where another byte follows, or none, the run is whole
pub run_ends : (bs : List ℕ) (i m : ℕ) → i < length bs → is_ascii_digit (get_or bs i 0) ≡ false → IsRunSoFar bs i m
    → (i ≡ length (take_while is_ascii_digit bs)) × IsSizeOf (digits_value 10 (take_while is_ascii_digit bs)) m
run_ends bs i m l f r =
    let n = prefix_len is_ascii_digit bs in
    let e : i ≡ n = elim (cases_lt i n) [
      | inl h ↦ absurd (let c : true ≡ false = sym (prefix_len_passes is_ascii_digit bs i 0 h) ∙ f in cc)
      | inr h ↦ omega (arith, r.within)
    ] in
    (e ∙ sym (length_run bs), run_done bs i m e r)

-- digits of the number 0 are those of no other
pub none_zero : (ds : List ℕ) (size : ℕ) → size ≤ 2 ^ 63 → ds ≡ decimal size → size ≡ 0 → (n : ℕ) → 0 < n → n ≤ 2 ^ 63 → ds ≢ decimal n
none_zero ds size f e z n some l d = omega (arith, decimal_injective size n (omega arith) (omega arith) (sym e ∙ d))

-- ---- a spelling

pub spells_negative : (bs ds : List ℕ) (size : ℕ) → ds ≡ take_while is_ascii_digit bs → size ≤ 2 ^ 63 → ds ≡ decimal size → 0 < size
    → SpellsNumber (45 ∷ bs) (negsuc (size - 1)) (length ds + 1)
spells_negative bs ds size run fits spelt some =
    let one : length ds + 1 ≡ suc (length (take_while is_ascii_digit bs)) = omega (arith, ap length run) in
    let number : size ≡ suc (size - 1) = omega arith in
    record {
      fits = record { sfits = omega arith };
      spelling = ap (λ (l : List ℕ). 45 ∷ l) (sym run ∙ spelt ∙ ap decimal number);
      front = ap (λ k. take k (45 ∷ bs)) one ∙ ap (λ (l : List ℕ). 45 ∷ l) (take-length-take_while is_ascii_digit bs);
      len = one;
      stop = ap (λ k. is_ascii_digit (get_or (45 ∷ bs) k 0)) one ∙ after_run bs;
    }

pub spells_unsigned : (bs ds : List ℕ) (size : ℕ) → get_or bs 0 0 ≢ 45 → ds ≡ take_while is_ascii_digit bs → size < 2 ^ 63 → ds ≡ decimal size
    → SpellsNumber bs (pos size) (length ds)
spells_unsigned bs ds size unsigned run fits spelt =
    let front : number_front bs ≡ ds = number_front-unsigned bs unsigned ∙ sym run in
    record {
      fits = record { sfits = omega arith };
      spelling = front ∙ spelt;
      front = ap (λ k. take k bs) (ap length run) ∙ take-length-take_while is_ascii_digit bs ∙ sym run ∙ sym front;
      len = ap length (sym front);
      stop = ap (λ k. is_ascii_digit (get_or bs k 0)) (ap length run) ∙ after_run bs;
    }

-- ---- a short number

-- a digit begins a number, where it is not 0 or no other follows
pub begins : (bs : List ℕ) → is_ascii_digit (get_or bs 0 0) ≡ true → (get_or bs 0 0 ≡ 48 → is_ascii_digit (get_or bs 1 0) ≡ false)
    → HasNoLeadingZero (take_while is_ascii_digit bs)
begins [] d z = cc
begins (b ∷ []) d z = rw (take_while-cons is_ascii_digit b [], d) (omega arith, λ e. refl)
begins (b ∷ c ∷ cs) d z =
    let run : take_while is_ascii_digit (b ∷ c ∷ cs) ≡ b ∷ take_while is_ascii_digit (c ∷ cs) =
    take_while-cons is_ascii_digit b (c ∷ cs) ∙ ap (λ t. cond t (b ∷ take_while is_ascii_digit (c ∷ cs)) []) d in
    rw run (
      omega arith,
      λ e.
          let none : take_while is_ascii_digit (c ∷ cs) ≡ [] =
          take_while-cons is_ascii_digit c cs ∙ ap (λ t. cond t (c ∷ take_while is_ascii_digit cs) []) (z e) in
          ap (λ (l : List ℕ). suc (length l)) none,
    )
