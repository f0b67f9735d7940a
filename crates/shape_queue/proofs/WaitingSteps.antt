-- The queue while places are looked at, one after the other, and when its least key is taken.
-- Laws over pictures and keys alone; how the queue is kept does not matter here.
use Rattle.std.proofs.Common.{◌≡◌, ◌≢◌, ◌⊎◌, inl, inr, ℕ, ◌<◌, ◌≤◌, ◌↔◌, Bool, true, false, cond, List, slice_index, Option, None, Some, MatchOption, IfSome}
use Rattle.std.proofs.Common.{sym, ◌∙◌, ap, subst}
use Rattle.std.specs.Ordering.{is_gt}
use Rattle.std.specs.BTreeMap.{is_at}
use native.Mathlib.Decide.{ℕ_discrete}
use Rattle.shape_terms.specs.Points.{Point, box_count, raster_point}
use Rattle.shape_terms.specs.Pictures.{Picture}
use Rattle.shape_terms.specs.Parts.{Object}
use Rattle.shape_terms.proofs.PointTests.{same_point}
use Rattle.shape_queue.specs.declared.key.Key.{Key}
use Rattle.shape_queue.specs.Keys.{key_cmp, IsLeastKey}
use Rattle.shape_queue.specs.Ranks.{key_at}
use Rattle.shape_queue.specs.Waiting.{MayBeTaken, Waits, Put}
use Rattle.shape_queue.proofs.KeyOrder.{at_itself, at_only, not_above, by_key, one_least}

put_here : (old new : Key → Bool) (key : Key) (b : Bool) → Put old new key b → new key ≡ b
put_here old new key b h = h key ∙ ap (λ t. cond t b (old key)) (at_itself key)

put_there : (old new : Key → Bool) (key k : Key) (b : Bool) → Put old new key b → (key ≡ k → ⊥) → new k ≡ old k
put_there old new key k b h n = elim (by_key key k) [
  | inl t ↦ absurd (n (at_only key k t))
  | inr f ↦ h k ∙ ap (λ t. cond t b (old k)) f
]

-- the key that was taken out of the queue as its least one is the least one
pub popped : (result : Option Key) (A : Type 0) (old new : Key → Bool) → MatchOption result ((k : Key) → old k ≡ false) (λ key. old key ≡ true)
    → IfSome result (λ key. IsLeastKey old key)
    → MatchOption result A (λ key. Put old new key false) → (k : Key) → old k ≡ true → IsLeastKey old k → Put old new k false
popped None A old new none _ _ k there _ = absurd (let f : true ≡ false = sym there ∙ none k in cc)
popped (Some key) A old new is least put k there first = subst (λ k. Put old new k false) (one_least old key k is there least first) put

other_place : (distances : List ℕ) (i j : ℕ) → (j ≡ i → ⊥) → key_at distances i ≡ key_at distances j → ⊥
other_place distances i j n e = n (sym (ap (λ (k : Key). k.place) e))

module _ (sides : List ℕ) (left reached : Picture) (distances : List ℕ) (later later' : ℕ → Type 0) (old new : Key → Bool)
    (w : Waits sides left reached distances later old) where
  -- a place is looked at
  pub settled_more : (i : ℕ) (b : Bool) → i < box_count sides → Object reached (raster_point sides i) → (b ≡ true) ↔ MayBeTaken sides left reached i
      → Put old new (key_at distances i) b
      → ((j : ℕ) → j < box_count sides → j ≢ i → later j → later' j) → Waits sides left reached distances later' new
  settled_more i b l o is put less = record {
    proper = λ k h. elim (by_key (key_at distances i) k) [
      | inl t ↦ (
          let e = at_only (key_at distances i) k t in
          let p : i ≡ k.place = ap (λ (k : Key). k.place) e in
          (subst (λ j. j < box_count sides) p l, subst (λ j. Object reached (raster_point sides j)) p o, sym e ∙ ap (key_at distances) p))
      | inr f ↦ w.proper k (sym (put_there old new (key_at distances i) k b put (λ e. let t : true ≡ false = sym (at_itself (key_at distances i)) ∙
          ap (is_at (key_cmp (key_at distances i))) e ∙ f in cc)) ∙ h)
    ];
    settled = λ j m n. elim (ℕ_discrete j i) [
      | yes e ↦ subst (λ x. (new (key_at distances x) ≡ true) ↔ MayBeTaken sides left reached x) (sym e) (
          let here = put_here old new (key_at distances i) b put in
          ((λ h. is.0 (sym here ∙ h)), λ c. here ∙ is.1 c))
      | no e ↦ (
          let there = put_there old new (key_at distances i) (key_at distances j) b put (other_place distances i j e) in
          let s = w.settled j m (λ z. n (less j m e z)) in
          ((λ h. s.0 (sym there ∙ h)), λ c. there ∙ s.1 c))
    ];
  }

  -- a point is passed that is not free
  pub passed_more : (q : Point) → (Object reached q → ⊥) → ((j : ℕ) → j < box_count sides → raster_point sides j ≢ q → later j → later' j)
      → Waits sides left reached distances later' old
  passed_more q closed less = record {
    proper = w.proper;
    settled = λ j m n. elim (same_point (raster_point sides j) q) [
      | yes e ↦ (
        (λ h. absurd (closed (subst (Object reached) e (w.proper (key_at distances j) h).1))),
        λ c. absurd (closed (subst (Object reached) e c.0)),
      )
      | no e ↦ w.settled j m (λ z. n (less j m e z))
    ];
  }

  -- a place is reached that was to be looked at later
  pub reached_more : (i : ℕ) (reached' : Picture) → later i → ((q : Point) → Object reached q → Object reached' q)
      → ((j : ℕ) → j ≢ i → j < box_count sides → Object reached' (raster_point sides j) → Object reached (raster_point sides j))
      → Waits sides left reached' distances later old
  reached_more i reached' l more less = record {
    proper = λ k h. let p = w.proper k h in (p.0, more (raster_point sides k.place) p.1, p.2);
    settled = λ j m n.
        let d : j ≢ i = λ e. n (subst later (sym e) l) in
        let s = w.settled j m n in
        ((λ h. let t = s.0 h in (more (raster_point sides j) t.0, t.1)), λ c. s.1 (less j d m c.0, c.1));
  }

-- other places may be named
pub waits_less : (sides : List ℕ) (left reached : Picture) (distances : List ℕ) (later later' : ℕ → Type 0) (keys : Key → Bool)
    → ((i : ℕ) → i < box_count sides → later i → later' i) → Waits sides left reached distances later keys → Waits sides left reached distances later' keys
waits_less sides left reached distances later later' keys less w = record { proper = w.proper; settled = λ i m n. w.settled i m (λ z. n (less i m z)) }

-- ---- the least key

module _ (sides : List ℕ) (left reached : Picture) (distances : List ℕ) (before : ℕ → Type 0) (old : Key → Bool)
    (w : Waits sides left reached distances before old)
    (k : Key) (there : old k ≡ true) (here : before k.place → ⊥) where
  pub taken_is : (k.place < box_count sides) × MayBeTaken sides left reached k.place × (k.distance ≡ slice_index distances k.place)
  taken_is =
      let p = w.proper k there in
      (p.0, (w.settled k.place p.0 here).0 (sym (ap old p.2) ∙ there), ap (λ (k : Key). k.distance) p.2)

  pub taken_least : ((q : Key) → old q ≡ true → is_gt (key_cmp k q) ≡ false) → (i : ℕ) → i < box_count sides → (before i → ⊥) → MayBeTaken sides left reached i
      → (k.distance < slice_index distances i) ⊎ ((k.distance ≡ slice_index distances i) × (k.place ≤ i))
  taken_least least i m n c = not_above k (key_at distances i) (least (key_at distances i) ((w.settled i m n).1 c))

  -- without the least key: its place is no more reached, and what may be taken changes at later places alone
  pub taken_out : (left' reached' : Picture) (later : ℕ → Type 0) (new : Key → Bool) → Put old new k false
      → ((i : ℕ) → before i → later i)
      → ((i : ℕ) → i ≢ k.place → i < box_count sides → Object reached (raster_point sides i) → Object reached' (raster_point sides i))
      → (Object reached' (raster_point sides k.place) → ⊥)
      → ((i : ℕ) → i ≢ k.place → i < box_count sides → (later i → ⊥) → MayBeTaken sides left reached i ↔ MayBeTaken sides left' reached' i)
      → Waits sides left' reached' distances later new
  taken_out left' reached' later new put more stays gone alike = record {
    proper = λ q h. elim (by_key k q) [
      | inl t ↦ absurd (
          let z : new q ≡ false = put q ∙ ap (λ t. cond t false (old q)) t in
          let f : true ≡ false = sym h ∙ z in cc)
      | inr f ↦ (
          let o : old q ≡ true = sym (put q ∙ ap (λ t. cond t false (old q)) f) ∙ h in
          let p = w.proper q o in
          let away : q.place ≢ k.place = λ e. apart q f (p.2 ∙ ap (key_at distances) e ∙ sym (w.proper k there).2) in
          (p.0, stays q.place away p.0 p.1, p.2))
    ];
    settled = λ i m n. elim (ℕ_discrete i k.place) [
      | yes e ↦ (
        (λ h. absurd (
            let z : new (key_at distances i) ≡ false = ap new (ap (key_at distances) e ∙ sym (w.proper k there).2) ∙ put_here old new k false put in
            let f : true ≡ false = sym h ∙ z in cc)),
        λ c. absurd (gone (subst (λ j. Object reached' (raster_point sides j)) e c.0)),
      )
      | no e ↦ (
          let same : new (key_at distances i) ≡ old (key_at distances i) = put_there old new k (key_at distances i) false put
          (λ q. e (sym (ap (λ (k : Key). k.place) q))) in
          let s = w.settled i m (λ z. n (more i z)) in
          let a = alike i e m n in
          ((λ h. a.0 (s.0 (sym same ∙ h))), λ c. same ∙ s.1 (a.1 c)))
    ];
  }
    where
      apart : (q : Key) → is_at (key_cmp k) q ≡ false → q ≡ k → ⊥
      apart q f e = let t : true ≡ false = sym (at_itself k) ∙ ap (is_at (key_cmp k)) (sym e) ∙ f in cc
