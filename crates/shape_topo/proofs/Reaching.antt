-- Whether all seeds are joined to one of them: the places that are reached are followed one by one, until no seed is left or none is to be followed.
-- Laws over numbers alone.
use Rattle.std.proofs.Common.{◌≡◌, ◌≢◌, ℕ, ◌+◌, ◌-◌, ◌*◌, ◌^◌, ◌%◌, ◌<◌, min, List, slice_index, arith, sym, ◌∙◌, ap, subst, ◌⊎◌, inl, inr, w32}
use Rattle.std.specs.Int.{bit_at}
use Rattle.std.specs.Int.Bits.{bit_and, bit_or, or_zero_r}
use Rattle.std.specs.Int.Count.{count_trailing_zeros}
use Rattle.std.proofs.lemmas.Nat.Bits.{bit_at_and, bit_at_not, bit_at-lt, bit_at-zero}
use Rattle.std.proofs.lemmas.Nat.{and_le_l, and_le_r, or_lt}
use native.Mathlib.Decide.{ℕ_discrete}
use Rattle.shape_terms.specs.Parts.{Connected}
use Rattle.shape_terms.proofs.Paths.{joined_to, in_greater, ends_in}
use Rattle.shape_terms.proofs.Deletion.{all_connected}
use Rattle.shape_adj.specs.NearMasks.{In}
use Rattle.shape_topo.specs.Bits.{Linked, AreSymmetric, CountsParts}
use Rattle.shape_topo.proofs.Growing.{place_below, one_same, one_only}
use Rattle.shape_topo.proofs.Linear.{in_or, or_in}
use Rattle.shape_adj.proofs.MaskBits.{both_sets}
use Rattle.shape_topo.proofs.Whole.{Grown, lowest, grown_whole}

-- a place of the set m that is not in the rest is joined to s, and no place of the rest is linked to it, unless it is still to be followed
pub record Reaching (links : List ℕ) (m s rest todo : ℕ) : Type 0 where
  pub seed : In m s
  pub seed_out : In rest s → ⊥
  pub rest_in : (k : ℕ) → In rest k → In m k
  pub todo_in : (k : ℕ) → In todo k → In m k
  pub todo_out : (k : ℕ) → In todo k → In rest k → ⊥
  pub joined : (k : ℕ) → In m k → (In rest k → ⊥) → Connected (Linked links) (In m) s k
  pub shut : (j k : ℕ) → In m j → (In rest j → ⊥) → (In todo j → ⊥) → Linked links j k → In rest k → ⊥

-- the places of a that are not in b
left_at : (a b k : ℕ) → b < 2 ^ 32 → k < 32 → bit_at (bit_and a (2 ^ 32 - 1 - b)) k ≡ min (bit_at a k) (1 - bit_at b k)
left_at a b k h l = bit_at_and a (2 ^ 32 - 1 - b) k ∙ ap (min (bit_at a k)) (bit_at_not w32 b k h l)

out_left : (a b k : ℕ) → a < 2 ^ 32 → b < 2 ^ 32 → In (bit_and a (2 ^ 32 - 1 - b)) k → In a k × (In b k → ⊥)
out_left a b k f h i =
    let x = ((both_sets a (2 ^ 32 - 1 - b) k).0 i).0 in
    let l = left_at a b k h (place_below a 32 k f x) in
    (x, λ o. omega (arith, l, i, o))

in_left : (a b k : ℕ) → a < 2 ^ 32 → b < 2 ^ 32 → In a k → (In b k → ⊥) → In (bit_and a (2 ^ 32 - 1 - b)) k
in_left a b k f h i n =
    let l = left_at a b k h (place_below a 32 k f i) in
    let d = bit_at-lt b k in
    elim (ℕ_discrete (bit_at b k) 1) [ yes o ↦ absurd (n o) | no o ↦ (let z : bit_at b k ≡ 0 = omega (arith, d, o) in omega (arith, l, i, z)) ]

left_less : (a b : ℕ) → a < 2 ^ 32 → bit_and a (2 ^ 32 - 1 - b) < 2 ^ 32
left_less a b f = let x = and_le_l a (2 ^ 32 - 1 - b) in omega arith

-- what is in the set and not in the rest has been reached
pub reached_whole : (links : List ℕ) (m s rest todo seeds : ℕ) → m < 2 ^ 32 → rest < 2 ^ 32 → Reaching links m s rest todo → AreSymmetric links → In seeds s
    → ((k : ℕ) → In seeds k → In m k) → bit_and seeds rest ≡ 0 → CountsParts links m seeds 1
reached_whole links m s rest todo seeds mf rf g flip hs within none =
    let grown : Grown links m s (bit_and m (2 ^ 32 - 1 - rest)) = record {
      seed = in_left m rest s mf rf g.seed g.seed_out;
      joined = λ k i. let o = out_left m rest k mf rf i in g.joined k o.0 o.1;
    } in
    grown_whole links m s (bit_and m (2 ^ 32 - 1 - rest)) grown seeds flip hs (λ k i. in_left m rest k mf rf (within k i) (λ r.
    let b = (both_sets seeds rest k).1 (i, r) in
    let z : bit_at (bit_and seeds rest) k ≡ 0 = ap (λ x. bit_at x k) none ∙ bit_at-zero k in
    omega (arith, b, z)))

module _ (links : List ℕ) (m s rest todo : ℕ) (g : Reaching links m s rest todo) (stop : todo ≡ 0) where
  along : {p q : ℕ} → (In rest p → ⊥) → Connected (Linked links) (In m) p q → In rest q → ⊥
  along n (Connected.here y) = n
  along {p = p} n (Connected.onward {q = q} y l c) =
      along (g.shut p q y n (λ t. let z : bit_at todo p ≡ 0 = ap (λ x. bit_at x p) stop ∙ bit_at-zero p in omega (arith, t, z)) l) c

  -- where none is to be followed and a seed is left, there is a second component
  pub reached_still : (seeds : ℕ) → seeds < 2 ^ 32 → In seeds s → bit_and seeds rest ≢ 0 → CountsParts links m seeds 1 → ⊥
  reached_still seeds sf hs n c =
      let a = and_le_l seeds rest in
      let t = lowest (bit_and seeds rest) (omega arith) (omega arith) in
      let k = count_trailing_zeros 32 (bit_and seeds rest) in
      let b = (both_sets seeds rest k).0 t.1 in
      let is = g.seed in
      along g.seed_out (in_greater (λ x h. ends_in h.2) (all_connected c s k (s, hs, Connected.here is) (k, b.0, Connected.here (g.rest_in k b.1)))) b.1

-- the first step: the links of the seed
pub reach_first : (links : List ℕ) (m s : ℕ) → m < 2 ^ 32 → s < 32 → In m s
    → Reaching links m s (bit_and (bit_and m (2 ^ 32 - 1 - bit_and (slice_index links s) m)) (2 ^ 32 - 1 - 1 * 2 ^ s % 2 ^ 32))
    (bit_and (slice_index links s) m)
reach_first links m s mf l i =
    let todo = bit_and (slice_index links s) m in
    let one = 1 * 2 ^ s % 2 ^ 32 in
    let tf : todo < 2 ^ 32 = let a = and_le_r (slice_index links s) m in omega arith in
    let of : one < 2 ^ 32 = omega arith in
    let left = bit_and m (2 ^ 32 - 1 - todo) in
    let lf : left < 2 ^ 32 = left_less m todo mf in
    let out : (k : ℕ) → In (bit_and left (2 ^ 32 - 1 - one)) k → In m k × (In todo k → ⊥) × (In one k → ⊥) =
    λ k h. let a = out_left left one k lf of h in let b = out_left m todo k mf tf a.0 in (b.0, b.1, a.1) in
    record {
      seed = i;
      seed_out = λ h. (out s h).2 (one_same s l);
      rest_in = λ k h. (out k h).0;
      todo_in = λ k h. ((both_sets (slice_index links s) m k).0 h).1;
      todo_out = λ k t h. (out k h).1 t;
      joined = λ k h n. elim (ℕ_discrete (bit_at todo k) 1) [
        | yes t ↦ (let b = (both_sets (slice_index links s) m k).0 t in Connected.onward i b.0 (Connected.here b.1))
        | no t ↦ elim (ℕ_discrete (bit_at one k) 1) [
          | yes o ↦ subst (λ x. Connected (Linked links) (In m) s x) (sym (one_only s k l o)) (Connected.here i)
          | no o ↦ absurd (n (in_left left one k lf of (in_left m todo k mf tf h t) o))
        ]
      ];
      shut = λ j k h n t e r. elim (ℕ_discrete (bit_at one j) 1) [
        | yes o ↦ (out k r).1 ((both_sets (slice_index links s) m k).1 (subst (λ x. Linked links x k) (one_only s j l o) e, (out k r).0))
        | no o ↦ n (in_left left one j lf of (in_left m todo j mf tf h t) o)
      ];
    }

module _ (links : List ℕ) (m s rest todo : ℕ) (rf : rest < 2 ^ 32) (tf : todo < 2 ^ 32) (more : todo ≢ 0) (g : Reaching links m s rest todo) where
  j : ℕ
  j = count_trailing_zeros 32 todo

  first : (j < 32) × In todo j
  unfolding j
  first = lowest todo (omega arith) tf

  pub reach_place : (n : ℕ) → m < 2 ^ n → count_trailing_zeros 32 todo < n
  unfolding j
  reach_place n h = place_below m n j h (g.todo_in j first.1)

  next : ℕ
  next = bit_and (slice_index links j) rest

  next_small : next < 2 ^ 32
  unfolding next
  next_small = let a = and_le_r (slice_index links j) rest in omega arith

  one : ℕ
  one = 1 * 2 ^ j % 2 ^ 32

  one_small : one < 2 ^ 32
  unfolding one
  one_small = omega arith

  into_next : (k : ℕ) → Linked links j k → In rest k → In next k
  unfolding next
  into_next k l r = (both_sets (slice_index links j) rest k).1 (l, r)

  out_next : (k : ℕ) → In next k → (Linked links j k) × In rest k
  unfolding next
  out_next k h = (both_sets (slice_index links j) rest k).0 h

  only : (k : ℕ) → In one k → k ≡ j
  unfolding one
  only k h = one_only j k first.0 h

  kept : ℕ
  kept = bit_and todo (2 ^ 32 - 1 - one)

  todo' : ℕ
  todo' = bit_or kept next

  rest' : ℕ
  rest' = bit_and rest (2 ^ 32 - 1 - next)

  out_rest : (k : ℕ) → In rest' k → In rest k × (In next k → ⊥)
  unfolding rest'
  out_rest k h = out_left rest next k rf next_small h

  in_rest : (k : ℕ) → In rest k → (In next k → ⊥) → In rest' k
  unfolding rest'
  in_rest k h n = in_left rest next k rf next_small h n

  out_todo : (k : ℕ) → In todo' k → In todo k ⊎ In next k
  unfolding todo' kept
  out_todo k h = elim (in_or kept next k h) [ inl a ↦ inl (out_left todo one k tf one_small a).0 | inr b ↦ inr b ]

  in_todo : (k : ℕ) → ((In todo k) × (k ≢ j)) ⊎ In next k → In todo' k
  unfolding todo' kept
  in_todo k (inl h) = or_in kept next k (inl (in_left todo one k tf one_small h.0 (λ o. h.1 (only k o))))
  in_todo k (inr h) = or_in kept next k (inr h)

  joined_j : Connected (Linked links) (In m) s j
  joined_j = g.joined j (g.todo_in j first.1) (g.todo_out j first.1)

  step : Reaching links m s rest' todo'
  step = record {
    seed = g.seed;
    seed_out = λ h. g.seed_out (out_rest s h).0;
    rest_in = λ k h. g.rest_in k (out_rest k h).0;
    todo_in = λ k h. elim (out_todo k h) [ inl a ↦ g.todo_in k a | inr b ↦ g.rest_in k (out_next k b).1 ];
    todo_out = λ k h r. elim (out_todo k h) [ inl a ↦ g.todo_out k a (out_rest k r).0 | inr b ↦ (out_rest k r).1 b ];
    joined = λ k h n. elim (ℕ_discrete (bit_at next k) 1) [
      | yes a ↦ joined_to joined_j (Connected.onward (ends_in joined_j) (out_next k a).0 (Connected.here h))
      | no a ↦ g.joined k h (λ r. n (in_rest k r a))
    ];
    shut = λ i k h n t l r. elim (ℕ_discrete i j) [
      | yes e ↦ (out_rest k r).1 (into_next k (subst (λ x. Linked links x k) e l) (out_rest k r).0)
      | no e ↦ g.shut i k h (λ a. elim (ℕ_discrete (bit_at next i) 1) [ yes b ↦ t (in_todo i (inr b)) | no b ↦ n (in_rest i a b) ])
          (λ a. t (in_todo i (inl (a, e)))) l (out_rest k r).0
    ];
  }

  one_j : In one j
  unfolding one
  one_j = one_same j first.0

  kept_less : kept < todo
  unfolding kept
  kept_less =
      let a = and_le_l todo (2 ^ 32 - 1 - one) in
      elim (ℕ_discrete kept todo) [
        | yes e ↦ absurd ((out_left todo one j tf one_small (subst (λ x. In x j) (sym e) first.1)).1 one_j)
        | no n ↦ omega (arith, a, n)
      ]

  falls : 2 ^ 32 * rest' + todo' < 2 ^ 32 * rest + todo
  unfolding rest' todo'
  falls =
      let a = and_le_l rest (2 ^ 32 - 1 - next) in
      let k = kept_less in
      let small : bit_or kept next < 2 ^ 32 = or_lt 32 kept next (omega (arith, k)) next_small in
      elim (ℕ_discrete next 0) [
        | yes e ↦ (let z : bit_or kept next ≡ kept = ap (bit_or kept) e ∙ or_zero_r kept in omega (arith, a, k, z))
        | no n ↦ (
            let t = lowest next (omega (arith, n)) next_small in
            elim (ℕ_discrete rest' rest) [
              | yes e ↦ absurd ((out_rest (count_trailing_zeros 32 next)
                  (subst (λ x. In x (count_trailing_zeros 32 next)) (sym e) (out_next (count_trailing_zeros 32 next) t.1).1)).1 t.1)
              | no q ↦ omega (arith, a, small, q)
            ])
      ]

module _ (links : List ℕ) (m s rest todo : ℕ) (rf : rest < 2 ^ 32) (tf : todo < 2 ^ 32) (more : todo ≢ 0) (g : Reaching links m s rest todo) where
  pub reach_more : Reaching links m s (bit_and rest (2 ^ 32 - 1 - bit_and (slice_index links (count_trailing_zeros 32 todo)) rest))
      (bit_or (bit_and todo (2 ^ 32 - 1 - 1 * 2 ^ count_trailing_zeros 32 todo % 2 ^ 32)) (bit_and (slice_index links (count_trailing_zeros 32 todo)) rest))
  unfolding j next one kept todo' rest'
  reach_more = step links m s rest todo rf tf more g

  pub reach_falls : 2 ^ 32 * bit_and rest (2 ^ 32 - 1 - bit_and (slice_index links (count_trailing_zeros 32 todo)) rest)
      + bit_or (bit_and todo (2 ^ 32 - 1 - 1 * 2 ^ count_trailing_zeros 32 todo % 2 ^ 32)) (bit_and (slice_index links (count_trailing_zeros 32 todo)) rest)
      < 2 ^ 32 * rest + todo
  unfolding j next one kept todo' rest'
  reach_falls = falls links m s rest todo rf tf more g
