-- The lengths of steps as they are put along one run after another.
-- Lists and numbers; the program's loop stands in none.
use Rattle.std.proofs.Common.{◌≡◌, ◌⊎◌, inl, inr, ◌∙◌, ap, sym, subst, refl, ℕ, ◌+◌, ◌-◌, ◌<◌, ◌≤◌, Bool, true, false, List, [], ◌∷◌, ◌++◌, length, get_or}
use Rattle.std.proofs.Common.{arith, min}
use Rattle.std.specs.Prelude.{if◌then◌else◌, sum}
use Rattle.std.proofs.Math.ListN.{set}
use Rattle.std.proofs.lemmas.Bool.{cond-true, cond-false}
use Rattle.std.proofs.lemmas.Bool.Decides.{nat_tests}
use Rattle.std.proofs.lemmas.List.{length-append, append-nil, append_assoc, get_or-replicate, length-replicate}
use Rattle.std.proofs.Math.ListN.{replicate}
use Rattle.std.proofs.lemmas.Grind.{flat_map-append}
use Rattle.std.proofs.lemmas.List.Sums.{sum_by-append}
use Rattle.std.proofs.lemmas.List.FromFn.{fill_by_all, length-map-range_with_len, get_or-map-range_with_len}
use Rattle.std.proofs.Common.{get_or-set_other, get_or-set_same, length-set}
use Rattle.shape_terms.specs.Points.{Point}
use Rattle.measure_terms.specs.Runs.{Run}
use Rattle.measure_terms.specs.Lengths.{share, step_at, share_at, shares_at, shares, passes}
use Rattle.bordering.specs.declared.cells.Cell.{Cell}
use Rattle.bordering.specs.Cells.{cell_of, no_cell, cell_with, is_between, ArePassed, AreCells}

-- ---- places

here_between : (a i : ℕ) → a ≤ i → is_between a (i + 1) i ≡ true
here_between a i h = grind (arith, nat_tests)

not_yet : (a i : ℕ) → is_between a i i ≡ false
not_yet a i = grind (arith, nat_tests)

same_between : (a i k : ℕ) → (k ≡ i → ⊥) → is_between a (i + 1) k ≡ is_between a i k
same_between a i k h = grind (arith, nat_tests)

-- what lies beyond the last place does not count
pub cut_between : (a b n i : ℕ) → i < n → is_between (min a (min b n)) (min b n) i ≡ is_between a b i
cut_between a b n i h = grind (arith, nat_tests)

-- places of the second round
second_round : (a b n i : ℕ) → is_between (a - n) (b - n) i ≡ is_between a b (i + n)
second_round a b n i = grind (arith, nat_tests)

-- ---- one run

-- and one place more
pub passed_more : (ps : List Point) (r : Run) (a i : ℕ) (old new : List Cell) (c : Cell) → a ≤ i → i < length old → ArePassed ps r a i old new
    → c ≡ cell_with (get_or new i no_cell) (share r (step_at ps i)) → ArePassed ps r a (i + 1) old (set new i c)
passed_more ps r a i old new c low high h e = record {
  all = length-set new i c ∙ h.all;
  each = λ k l. elim (split k i) [
    | inl s ↦ here k s
    | inr ne ↦
        let now : get_or (set new i c) k no_cell ≡ get_or new k no_cell = get_or-set_other new i k c no_cell ne in
        now ∙ h.each k l ∙ ap (λ b. if b then cell_with (get_or old k no_cell) (share r (step_at ps k)) else get_or old k no_cell) (sym (same_between a i k ne))
  ];
}
  where
    split : (k i : ℕ) → (k ≡ i) ⊎ (k ≡ i → ⊥)
    split k i = grind arith

    here : (k : ℕ) → k ≡ i
        → get_or (set new i c) k no_cell ≡ (if is_between a (i + 1) k then cell_with (get_or old k no_cell) (share r (step_at ps k)) else get_or old k no_cell)
    here k s =
        let within : i < length new = let g = h.all in omega arith in
        let was : get_or new i no_cell ≡ get_or old i no_cell = h.each i high ∙ cond-false (is_between a i i) _ _ (not_yet a i) in
        let now : get_or (set new i c) i no_cell ≡ c = get_or-set_same new i c no_cell within in
        subst (λ j. get_or (set new i c) j no_cell
        ≡ (if is_between a (i + 1) j then cell_with (get_or old j no_cell) (share r (step_at ps j)) else get_or old j no_cell)) (sym s)
        (now ∙ e ∙ ap (λ x. cell_with x (share r (step_at ps i))) was ∙ sym (cond-true (is_between a (i + 1) i) _ _ (here_between a i low)))

-- from a place up to another, where what lies beyond the last step was left out
pub passed_cut : (ps : List Point) (r : Run) (a b n : ℕ) (old new : List Cell) → length old ≡ n → ArePassed ps r (min a (min b n)) (min b n) old new
    → ArePassed ps r a b old new
passed_cut ps r a b n old new e h = record {
  all = h.all;
  each = λ i l.
      let l' : i < n = omega arith in
      h.each i l ∙ ap (λ t. if t then cell_with (get_or old i no_cell) (share r (step_at ps i)) else get_or old i no_cell) (cut_between a b n i l');
}

-- ---- no run

-- of no run no step has a length
pub none_put : (ps : List Point) (cells : List Cell) → cells ≡ replicate (length ps) no_cell → AreCells ps [] cells
none_put ps cells h =
    let n = length ps in
    h ∙ fill_by_all (λ i. cell_of (shares ps [] i)) (replicate n no_cell) n no_cell (length-replicate n no_cell) (λ k l. get_or-replicate n k no_cell no_cell l)

-- ---- all runs

-- one length more, where there is one
cell_more : (b : Bool) (x : ℕ) (xs : List ℕ) → cell_of (xs ++ (if b then x ∷ [] else [])) ≡ (if b then cell_with (cell_of xs) x else cell_of xs)
cell_more true x xs = let s = sum_push xs x in let l = length-append xs (x ∷ []) in λ i. record { sum = s i; many = l i }
  where
    sum_push : (xs : List ℕ) (x : ℕ) → sum (xs ++ x ∷ []) ≡ sum xs + x
    sum_push xs x = let h = sum_by-append (λ y. y) xs (x ∷ []) in omega (arith, h)
cell_more false x xs = ap cell_of (append-nil xs)

-- the two rounds of one run put what the definition puts
pub run_put : (ps : List Point) (runs : List Run) (r : Run) (old mid new : List Cell) → AreCells ps runs old
    → ArePassed ps r r.first r.last old mid → ArePassed ps r (r.first - length ps) (r.last - length ps) mid new → AreCells ps (runs ++ r ∷ []) new
run_put ps runs r old mid new h first second =
    let n = length ps in
    let old_length : length old ≡ n = ap length h ∙ length-map-range_with_len (λ i. cell_of (shares ps runs i)) 0 n in
    let mid_length : length mid ≡ n = first.all ∙ old_length in
    let new_length : length new ≡ n = second.all ∙ mid_length in
    fill_by_all (λ i. cell_of (shares ps (runs ++ r ∷ []) i)) new n no_cell new_length (λ i l. each i l old_length mid_length)
  where
    each : (i : ℕ) → i < length ps → length old ≡ length ps → length mid ≡ length ps → get_or new i no_cell ≡ cell_of (shares ps (runs ++ r ∷ []) i)
    each i l lo lm =
        let n = length ps in
        let x = share r (step_at ps i) in
        let xs = shares ps runs i in
        let a = share_at ps r i i in
        let b = share_at ps r i (i + n) in
        let lo' : i < length old = omega arith in
        let lm' : i < length mid = omega arith in
        let was : get_or old i no_cell ≡ cell_of xs = ap (λ c. get_or c i no_cell) h ∙ get_or-map-range_with_len (λ j. cell_of (shares ps runs j)) 0 n i i
        no_cell l (omega arith) in
        let mid_is : get_or mid i no_cell ≡ cell_of (xs ++ a) =
        first.each i lo' ∙ ap (λ c. if passes r i then cell_with c x else c) was ∙ sym (cell_more (passes r i) x xs) in
        let new_is : get_or new i no_cell ≡ cell_of ((xs ++ a) ++ b) =
        second.each i lm' ∙ ap (λ t. if t then cell_with (get_or mid i no_cell) x else get_or mid i no_cell) (second_round r.first r.last n i)
        ∙ ap (λ c. if passes r (i + n) then cell_with c x else c) mid_is ∙ sym (cell_more (passes r (i + n)) x (xs ++ a)) in
        let all : shares ps (runs ++ r ∷ []) i ≡ (xs ++ a) ++ b =
        flat_map-append (shares_at ps i) runs (r ∷ []) ∙ ap (λ t. xs ++ t) (append-nil (a ++ b)) ∙ sym (append_assoc xs a b) in
        new_is ∙ ap cell_of (sym all)
