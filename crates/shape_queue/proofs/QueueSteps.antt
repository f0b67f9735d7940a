-- The keys of a queue while a rank is put into its set or taken out, and the least of them.
-- Laws over keys and lists alone.
use Rattle.std.proofs.Common.{◌≡◌, ◌⊎◌, inl, inr, ℕ, ◌*◌, ◌<◌, ◌≤◌, Bool, true, false, not, cond, eqb, ltb, List, length, replicate, set, get_or, slice_index}
use Rattle.std.proofs.Common.{refl, sym, ◌∙◌, ap, subst, arith, Option}
use Rattle.std.specs.Prelude.{◌&&◌, ◌↔◌, None, Some, MatchOption, IfSome, is_none}
use Rattle.std.proofs.lemmas.Bool.{eqb-true, eq-eqb, ltb-true, lt-ltb}
use Rattle.std.proofs.lemmas.List.{length-replicate, get_or-replicate, length-set, get_or-set_same, get_or-set_other}
use Rattle.std.specs.Bool.{beq}
use Rattle.std.specs.BTreeMap.{is_at}
use native.Mathlib.Decide.{ℕ_discrete, dec_lt}
use Rattle.shape_grid.specs.Sets.{In, bit_of, IsPut, IsLeast}
use Rattle.shape_grid.specs.Truths.{is_in}
use Rattle.shape_cells.specs.Held.{Held}
use Rattle.shape_queue.specs.declared.key.Key.{Key}
use Rattle.shape_queue.specs.declared.ranked_key.RankedKey.{RankedKey}
use Rattle.shape_queue.specs.declared.spot.Spot.{Spot}
use Rattle.shape_queue.specs.Keys.{key_cmp, IsLeastKey, Queued, has}
use Rattle.shape_queue.specs.Ranks.{key_at, rank_in, background, Precedes, HasKey, AreQueued, AreFitting}
use Rattle.shape_queue.specs.Waiting.{Put}
use Rattle.shape_queue.proofs.RankPlaces.{place_of_rank}
use Rattle.shape_queue.proofs.KeyOrder.{at_itself, at_only, by_key, same_key, not_greater}
use Rattle.shape_queue.proofs.RankLaws.{rank_small, rank_rises, rank_apart}

-- a truth value as a bit
abbrev pub bool_of : Bool → ℕ
bool_of true = 1
bool_of false = 0

bit_test : (b : Bool) → eqb (bool_of b) 1 ≡ b
bit_test true = refl
bit_test false = refl

both : (a b : Bool) → a && b ≡ true → (a ≡ true) × (b ≡ true)
both true b h = (refl, h)
both false b h = absurd (let f : false ≡ true = h in cc)

by_value : (b : Bool) → (b ≡ true → ⊥) → b ≡ false
by_value true n = absurd (n refl)
by_value false n = refl

-- what is told of a key that is there
pub record Tells (q : Queued) (k : Key) : Type 0 where
  pub inside : k.place < length q.distances
  pub same : k.distance ≡ slice_index q.distances k.place
  pub waits : In q.waiting (rank_in q.distances k.place)

pub has_tells : (q : Queued) (k : Key) → has q k ≡ true → Tells q k
unfolding has
has_tells q k h =
    let a = both (ltb k.place (length q.distances)) _ h in
    let b = both (eqb k.distance (slice_index q.distances k.place)) _ a.1 in
    record {
      inside = ltb-true k.place (length q.distances) a.0;
      same = eqb-true k.distance (slice_index q.distances k.place) b.0;
      waits = eqb-true (bit_of q.waiting (rank_in q.distances k.place)) 1 b.1;
    }

-- whether the key of a place is there
has_place : (q : Queued) (i : ℕ) → i < length q.distances → has q (key_at q.distances i) ≡ eqb (bit_of q.waiting (rank_in q.distances i)) 1
unfolding has
has_place q i l = rw (lt-ltb i (length q.distances) l, eq-eqb (slice_index q.distances i) (slice_index q.distances i) refl) refl

pub none_has : (q : Queued) → ((r : ℕ) → In q.waiting r → ⊥) → (k : Key) → has q k ≡ false
none_has q none k = by_value (has q k) (λ h. none (rank_in q.distances k.place) (has_tells q k h).waits)

-- ---- a rank is put in or taken out

-- the queue with another set
abbrev pub with_set : Queued → List ℕ → Queued
with_set q new = record { distances = q.distances; waiting = new }

-- a key that is no key of this place is there as before
others : (q : Queued) (new : List ℕ) (i b : ℕ) → i < length q.distances → IsPut q.waiting new (rank_in q.distances i) b → (k : Key)
    → is_at (key_cmp (key_at q.distances i)) k ≡ false → has (with_set q new) k ≡ has q k
unfolding has
others q new i b l p k f = elim (ℕ_discrete k.place i) [
  | yes e ↦ (
      let z : eqb k.distance (slice_index q.distances k.place) ≡ false = by_value (eqb k.distance (slice_index q.distances k.place)) (λ t.
      let s = same_key (key_at q.distances i) k (ap (slice_index q.distances) (sym e) ∙ sym (eqb-true k.distance (slice_index q.distances k.place) t)) (sym e)
      in
      let y : true ≡ false = sym (at_itself (key_at q.distances i)) ∙ (ap (is_at (key_cmp (key_at q.distances i))) s ∙ f) in
      cc) in
      rw z refl)
  | no n ↦ elim (dec_lt k.place (length q.distances)) [
    | yes m ↦ ap (λ x. ltb k.place (length q.distances) && (eqb k.distance (slice_index q.distances k.place) && eqb x 1))
        (p.others (rank_in q.distances k.place) (rank_apart q.distances k.place i m l n))
    | no m ↦ (
        let z : ltb k.place (length q.distances) ≡ false = by_value (ltb k.place (length q.distances)) (λ t. m (ltb-true k.place (length q.distances) t)) in
        rw z refl)
  ]
]

put_rank : (q : Queued) (new : List ℕ) (i : ℕ) (b : Bool) → i < length q.distances → IsPut q.waiting new (rank_in q.distances i) (bool_of b)
    → Put (has q) (has (with_set q new)) (key_at q.distances i) b
put_rank q new i b l p k = elim (by_key (key_at q.distances i) k) [
  | inl t ↦ (
      let e = at_only (key_at q.distances i) k t in
      ap (has (with_set q new)) (sym e) ∙ has_place (with_set q new) i l ∙ ap (λ x. eqb x 1) p.here ∙ bit_test b ∙ sym (ap (λ t. cond t b (has q k)) t))
  | inr f ↦ others q new i (bool_of b) l p k f ∙ sym (ap (λ t. cond t b (has q k)) f)
]

-- the key that has a rank
module _ (q : Queued) {r : ℕ} {key : Key} (t : HasKey q.distances r key) where
  pub key_is : key ≡ key_at q.distances key.place
  key_is = ap (λ d. record { distance = d; place = key.place }) t.same

  -- it is put in or taken out with its rank
  pub put_key : (new : List ℕ) (b : Bool) → IsPut q.waiting new r (bool_of b) → Put (has q) (has (with_set q new)) key b
  put_key new b p = subst (λ k. Put (has q) (has (with_set q new)) k b) (sym key_is)
      (put_rank q new key.place b t.inside (subst (λ r. IsPut q.waiting new r (bool_of b)) (sym t.ranked) p))

  -- where its rank is there or not, as b says, it is left as it is
  pub put_none : (b : Bool) → is_in q.waiting (rank_in q.distances key.place) ≡ b → Put (has q) (has q) key b
  put_none b e k = elim (by_key key k) [
    | inl t' ↦ ap (has q) (sym (at_only key k t')) ∙ key_there ∙ e ∙ sym (ap (λ t. cond t b (has q k)) t')
    | inr f ↦ sym (ap (λ t. cond t b (has q k)) f)
  ]
    where
      key_there : has q key ≡ is_in q.waiting (rank_in q.distances key.place)
      key_there = ap (has q) key_is ∙ has_place q key.place t.inside

-- in the beginning none waits
pub none_queued : (ds waiting : List ℕ) → ((r : ℕ) → In waiting r → ⊥) → AreQueued ds waiting (replicate (length ds) false)
none_queued ds waiting none = record {
  filled = length-replicate (length ds) false;
  each = λ i l. get_or-replicate (length ds) i false false l
      ∙ sym (by_value (is_in waiting (rank_in ds i)) (λ t. none (rank_in ds i) (eqb-true (bit_of waiting (rank_in ds i)) 1 t)));
}

-- the parts of a queue when the key is put in or taken out by its rank
module _ {ds : List ℕ} {spots : Held Spot} {first : ℕ} {keys : List Key} {waiting : List ℕ} {queued : List Bool} {latest : Option RankedKey}
    (h : AreFitting ds spots first keys waiting queued latest)
    {r : ℕ} {key : Key} (t : HasKey ds r key) (behind : background ds ≤ r) where
  pub rank_within : r < 64 * length waiting
  rank_within = let s = rank_small ds key.place t.inside in omega (arith, s, t.ranked, h.room)

  pub fitting_put : {waiting' : List ℕ} {queued' : List Bool} {latest' : Option RankedKey} (b : Bool) → IsPut waiting waiting' r (bool_of b)
      → queued' ≡ set queued key.place b
      → IfSome latest' (λ l. HasKey ds l.rank l.key) → AreFitting ds spots first keys waiting' queued' latest'
  fitting_put {waiting'} {queued'} {latest'} b p e last = record {
    few = h.few;
    spots_are = h.spots_are;
    first_is = h.first_is;
    keys_are = h.keys_are;
    room = let m = p.room in omega (arith, h.room, m);
    inside = λ s w. elim (ℕ_discrete s r) [
      | yes g ↦ (let l = rank_small ds key.place t.inside in (omega (arith, behind, g), omega (arith, l, t.ranked, g)))
      | no n ↦ h.inside s (sym (p.others s n) ∙ w)
    ];
    queued_are = record {
      filled = ap length e ∙ length-set queued key.place b ∙ h.queued_are.filled;
      each = λ i l. ap (λ v. get_or v i false) e ∙ elim (ℕ_discrete i key.place) [
        | yes g ↦ (
            ap (λ i. get_or (set queued key.place b) i false) g
            ∙ get_or-set_same queued key.place b false (let f = h.queued_are.filled in let m = t.inside in omega (arith, f, m))
            ∙ sym (ap (λ i. eqb (bit_of waiting' (rank_in ds i)) 1) g ∙ ap (λ x. eqb (bit_of waiting' x) 1) t.ranked ∙ ap (λ x. eqb x 1) p.here ∙ bit_test b))
        | no n ↦ (
            get_or-set_other queued key.place i b false n ∙ h.queued_are.each i l
            ∙ sym (ap (λ x. eqb x 1) (p.others (rank_in ds i) (λ g. rank_apart ds i key.place l t.inside n (g ∙ sym t.ranked)))))
      ];
    };
    latest_is = last;
  }

-- ---- the least key

-- the key with the least rank that waits
module _ (q : Queued) {r : ℕ} {key : Key} (t : HasKey q.distances r key) (least : IsLeast q.waiting r) where
  pub least_has : has q key ≡ true
  least_has = ap (has q) (key_is q t) ∙ has_place q key.place t.inside ∙ ap (λ x. eqb (bit_of q.waiting x) 1) t.ranked
      ∙ eq-eqb (bit_of q.waiting r) 1 least.there

  pub least_key : IsLeastKey (has q) key
  least_key k w =
      let s = has_tells q k w in
      let a = least.least (rank_in q.distances k.place) s.waits in
      not_greater key k (λ o.
      let before : Precedes q.distances k.place key.place =
      subst (λ d. (d < slice_index q.distances key.place) ⊎ ((d ≡ slice_index q.distances key.place) × (k.place < key.place))) s.same
      (subst (λ d. (k.distance < d) ⊎ ((k.distance ≡ d) × (k.place < key.place))) t.same o) in
      let e = rank_rises q.distances k.place key.place s.inside before in
      omega (arith, a, e, t.ranked))

-- no key is there exactly where no rank waits
pub empty_tells : (q : Queued) → ((r : ℕ) → In q.waiting r → (background q.distances ≤ r) × (r < length q.distances)) → (o : Option ℕ)
    → MatchOption o ((r : ℕ) → In q.waiting r → ⊥) (IsLeast q.waiting)
    → (is_none o ≡ true) ↔ ((k : Key) → has q k ≡ false)
empty_tells q inside None none = (λ t. none_has q none, λ n. refl)
empty_tells q inside (Some r) least = (
  λ (t : false ≡ true). cc,
  λ n. let p = place_of_rank q.distances r (inside r least.there).1 in
      let t : HasKey q.distances r (key_at q.distances p.0) = record { inside = p.1; same = refl; ranked = p.2 } in
      absurd (let e : false ≡ true = sym (n (key_at q.distances p.0)) ∙ least_has q t least in cc),
)

-- the test found no difference
pub same_value : (a b : Bool) → not (beq a b) ≡ false → a ≡ b
same_value true true h = refl
same_value true false h = h
same_value false true h = sym h
same_value false false h = refl
