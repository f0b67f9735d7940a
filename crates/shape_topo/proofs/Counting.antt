-- The components of a set of at most 32 places that hold a seed, one after the other.
-- Laws over numbers alone.
use Rattle.std.proofs.Common.{◌≡◌, ◌≢◌, ℕ, suc, ◌+◌, ◌-◌, ◌^◌, ◌<◌, ◌≤◌, min, List, arith, refl, sym, ◌∙◌, ap, subst, w32}
use Rattle.std.specs.Int.{bit_at}
use Rattle.std.specs.Int.Bits.{bit_and}
use Rattle.std.proofs.lemmas.Nat.Bits.{bit_at_and, bit_at_not, bit_at-lt}
use native.Mathlib.Decide.{ℕ_discrete}
use Rattle.shape_terms.specs.Parts.{Connected}
use Rattle.shape_terms.specs.Simple.{Holding}
use Rattle.shape_terms.proofs.Paths.{starts_in}
use Rattle.shape_terms.proofs.Deletion.{same_parts}
use Rattle.shape_adj.specs.Flood.{Flooded}
use Rattle.shape_topo.proofs.WholePart.{flooded_part}
use Rattle.shape_adj.specs.NearMasks.{In}
use Rattle.shape_topo.specs.Bits.{Linked, AreSymmetric, IsComponent, CountsParts}
use Rattle.shape_topo.proofs.Growing.{place_below}

-- n parts are labelled by f, those of the seeds below s
pub record Counted (links : List ℕ) (m seeds rest s n : ℕ) (f : ℕ → ℕ) : Type 0 where
  pub flooded : Flooded (In m) (Linked links) n f
  pub holding : (k : ℕ) → 1 ≤ f k → Holding (Linked links) (In m) (In seeds) k
  pub passed : (k : ℕ) → k < s → In seeds k → 1 ≤ f k
  pub rest_new : (k : ℕ) → In rest k → (In seeds k) × (f k ≡ 0)
  pub rest_all : (k : ℕ) → In seeds k → f k ≡ 0 → In rest k
  pub few : n ≤ s

abbrev pub Counting : List ℕ → ℕ → ℕ → ℕ → ℕ → ℕ → Type 0
Counting links m seeds rest s n = (f : ℕ → ℕ) × Counted links m seeds rest s n f

pub count_start : (links : List ℕ) (m seeds : ℕ) → Counting links m seeds seeds 0 0
count_start links m seeds = (
  (λ k. 0),
  record {
    flooded = record {
      member = λ p a. absurd (omega arith);
      shut = λ p q a o r. absurd (omega arith);
      parts = record {
        in_range = λ p a. absurd (omega arith);
        used = λ i a b. absurd (omega arith);
        adjacent = λ p q a b r. refl;
        connected = λ p q a b e. absurd (omega arith);
      };
    };
    holding = λ k a. absurd (omega arith);
    passed = λ k l i. absurd (omega arith);
    rest_new = λ k i. (i, refl);
    rest_all = λ k i e. i;
    few = omega arith;
  },
)

-- a place with no seed left
pub count_skip : (links : List ℕ) (m seeds rest s n : ℕ) → (In rest s → ⊥) → Counting links m seeds rest s n → Counting links m seeds rest (s + 1) n
count_skip links m seeds rest s n none (f, w) = (
  f,
  record {
    flooded = w.flooded;
    holding = w.holding;
    passed = λ k l i. elim (ℕ_discrete k s) [
      | yes e ↦ elim (ℕ_discrete (f k) 0) [ yes z ↦ absurd (none (subst (In rest) e (w.rest_all k i z))) | no z ↦ omega arith ]
      | no e ↦ w.passed k (omega arith) i
    ];
    rest_new = w.rest_new;
    rest_all = w.rest_all;
    few = let a = w.few in omega arith;
  },
)

module _ (links : List ℕ) (m seeds rest s n r : ℕ) (sym' : AreSymmetric links) (mf : m < 2 ^ 32) (rf : rest < 2 ^ 32) (pf : r < 2 ^ 32) (is : In rest s)
    (p : IsComponent links m s r)
    (f : ℕ → ℕ) (w : Counted links m seeds rest s n f) where
  in? : (k : ℕ) → Dec (In r k)
  in? k = ℕ_discrete (bit_at r k) 1

  by : (k : ℕ) → Dec (In r k) → ℕ
  by k (yes i) = suc n
  by k (no i) = f k

  g : ℕ → ℕ
  g k = by k (in? k)

  inside_by : (k : ℕ) (d : Dec (In r k)) → In r k → by k d ≡ suc n
  unfolding by
  inside_by k (yes i) j = refl
  inside_by k (no i) j = absurd (i j)

  outside_by : (k : ℕ) (d : Dec (In r k)) → (In r k → ⊥) → by k d ≡ f k
  unfolding by
  outside_by k (yes i) j = absurd (j i)
  outside_by k (no i) j = refl

  inside : (k : ℕ) → In r k → g k ≡ suc n
  unfolding g
  inside k i = inside_by k (in? k) i

  outside : (k : ℕ) → (In r k → ⊥) → g k ≡ f k
  unfolding g
  outside k i = outside_by k (in? k) i

  rest' : ℕ
  rest' = bit_and rest (2 ^ 32 - 1 - r)

  rest_at : (k : ℕ) → k < 32 → bit_at rest' k ≡ min (bit_at rest k) (1 - bit_at r k)
  unfolding rest'
  rest_at k l = bit_at_and rest (2 ^ 32 - 1 - r) k ∙ ap (min (bit_at rest k)) (bit_at_not w32 r k pf l)

  out_of_rest : (k : ℕ) → In rest' k → (In rest k) × (In r k → ⊥)
  unfolding rest'
  out_of_rest k i =
      let a : bit_at rest' k ≡ min (bit_at rest k) (bit_at (2 ^ 32 - 1 - r) k) = bit_at_and rest (2 ^ 32 - 1 - r) k in
      let b = bit_at-lt rest k in
      let l : k < 32 = place_below rest 32 k rf (let c = bit_at-lt (2 ^ 32 - 1 - r) k in omega arith) in
      let c = rest_at k l in
      (omega arith, λ j. omega arith)

  into_rest : (k : ℕ) → In rest k → (In r k → ⊥) → In rest' k
  into_rest k i h =
      let a = rest_at k (place_below rest 32 k rf i) in
      let b = bit_at-lt r k in
      let c : bit_at r k ≡ 0 = elim (in? k) [ yes j ↦ absurd (h j) | no j ↦ omega arith ] in
      omega arith

  counted : Counted links m seeds rest' (s + 1) (n + 1) g
  counted = record {
    flooded = subst (λ x. Flooded (In m) (Linked links) x g) (omega arith)
        (flooded_part sym' w.flooded (In r) in? s p.seed (w.rest_new s is).1 p.joined p.shut inside outside);
    holding = λ k a. elim (in? k) [
      | yes i ↦ (s, (w.rest_new s is).0, p.joined k i)
      | no i ↦ w.holding k (let e = outside k i in omega arith)
    ];
    passed = λ k l i. elim (in? k) [
      | yes j ↦ (let e = inside k j in omega arith)
      | no j ↦ (let h : k ≢ s = λ e. j (subst (In r) (sym e) p.seed) in let a = w.passed k (omega arith) i in let e = outside k j in omega arith)
    ];
    rest_new = λ k i. let o = out_of_rest k i in let a = w.rest_new k o.0 in (a.0, outside k o.1 ∙ a.1);
    rest_all = λ k i e.
        let j : In r k → ⊥ = λ x. let y = inside k x in omega arith in
        into_rest k (w.rest_all k i (sym (outside k j) ∙ e)) j;
    few = let a = w.few in omega arith;
  }

pub count_more : (links : List ℕ) (m seeds rest s n r : ℕ) → AreSymmetric links → m < 2 ^ 32 → rest < 2 ^ 32 → r < 2 ^ 32 → In rest s → IsComponent links m s r
    → Counting links m seeds rest s n → Counting links m seeds (bit_and rest (2 ^ 32 - 1 - r)) (s + 1) (n + 1)
unfolding rest'
count_more links m seeds rest s n r y mf rf pf is p (f, w) =
    (g links m seeds rest s n r y mf rf pf is p f w, counted links m seeds rest s n r y mf rf pf is p f w)

pub count_end : (links : List ℕ) (m seeds rest v n : ℕ) → m < 2 ^ v → AreSymmetric links → ((k : ℕ) → In seeds k → In m k) → Counting links m seeds rest v n
    → CountsParts links m seeds n
count_end links m seeds rest v n mf y sub (f, w) = same_parts w.holding of (f, w.flooded.parts)
  where
    along : {p q : ℕ} → 1 ≤ f p → Connected (Linked links) (In m) p q → 1 ≤ f q
    along a (Connected.here i) = a
    along a (Connected.onward i r j) = along (w.flooded.shut _ _ a (starts_in j) r) j

    of : (k : ℕ) → Holding (Linked links) (In m) (In seeds) k → 1 ≤ f k
    of k h = along (w.passed h.0 (place_below m v h.0 mf (sub h.0 h.1)) h.1) h.2
