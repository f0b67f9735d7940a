-- Each net of places has components: each place alone at first, and one link after another joins the parts of its two places.
-- Which points the places stand for does not matter here; pictures come last.
use Rattle.std.proofs.Common.{◌≡◌, ◌⊎◌, inl, inr, ℕ, zero, suc, ◌-◌, ◌<◌, ◌≤◌, Bool, true, false, cond, eqb, refl, ap, sym, ◌∙◌, subst, arith, length, Option}
use Rattle.std.proofs.Common.{Some, None}
use Rattle.std.proofs.lemmas.Bool.Decides.{nat_tests}
use native.Mathlib.Decide.{dec_lt, ℕ_discrete}
use Rattle.shape_terms.specs.Points.{box_count, raster_point}
use Rattle.shape_terms.specs.FramedBox.{framed_sides, framed_point}
use Rattle.shape_terms.specs.Pictures.{Picture, at, object_points}
use Rattle.shape_terms.specs.Parts.{Connected, NamesParts, Counts}
use Rattle.shape_terms.specs.Places.{ObjectPlace, BackgroundPlace}
use Rattle.shape_terms.specs.Net.{IsNet}
use Rattle.shape_terms.proofs.Paths.{joined_to, in_greater}
use Rattle.shape_terms.proofs.ObjectPlaces.{object_net, object_parts}
use Rattle.shape_terms.proofs.BackgroundPlaces.{background_net, background_parts}

-- the set has components, so many, with labels that name them
abbrev pub Parted : (ℕ → ℕ → Type 0) → (ℕ → Type 0) → Type 0
Parted R Y = (n : ℕ) × (f : ℕ → ℕ) × NamesParts R Y n f

-- ---- the same parts for another set or relation

same_parts : {R S : ℕ → ℕ → Type 0} {Y Z : ℕ → Type 0} → ((i : ℕ) → Z i → Y i) → ((i : ℕ) → Y i → Z i) → ((i j : ℕ) → Z i → Z j → S i j → R i j)
    → ((i j : ℕ) → R i j → S i j) → (n : ℕ) (f : ℕ → ℕ)
    → NamesParts R Y n f → NamesParts S Z n f
same_parts {R} {S} {Y} {Z} to of back forth n f p = record {
  in_range = λ i z. p.in_range i (to i z);
  used = λ k l u. (let w = p.used k l u in (w.0, of w.0 w.1, w.2));
  adjacent = λ i j a b r. p.adjacent i j (to i a) (to j b) (back i j a b r);
  connected = λ i j a b e. moved (p.connected i j (to i a) (to j b) e);
}
  where
    moved : {i j : ℕ} → Connected R Y i j → Connected S Z i j
    moved (Connected.here y) = Connected.here (of _ y)
    moved (Connected.onward y r c) = Connected.onward (of _ y) (forth _ _ r) (moved c)

-- ---- each place alone

abbrev Unlinked : ℕ → ℕ → Type 0
Unlinked i j = ⊥

abbrev Below : (ℕ → Type 0) → ℕ → ℕ → Type 0
Below O n i = (i < n) × O i

module _ (O : ℕ → Type 0) (is_in : (i : ℕ) → O i ⊎ (O i → ⊥)) where
  -- the place n with a label of its own
  module _ (n : ℕ) (o : O n) (c : ℕ) (f : ℕ → ℕ) (p : NamesParts Unlinked (Below O n) c f) where
    abbrev g : ℕ → ℕ
    g i = cond (eqb i n) (suc c) (f i)

    g_new : (i : ℕ) → i ≡ n → g i ≡ suc c
    g_new i e = grind (arith, nat_tests)

    g_old : (i : ℕ) → i < n → g i ≡ f i
    g_old i l = grind (arith, nat_tests)

    old_or_new : (i : ℕ) → Below O (suc n) i → (Below O n i × (g i ≡ f i)) ⊎ ((i ≡ n) × (g i ≡ suc c))
    old_or_new i (l, a) = elim (dec_lt i n) [
      | yes m ↦ inl ((m, a), g_old i m)
      | no m ↦ (let e : i ≡ n = omega arith in inr (e, g_new i e))
    ]

    one_alone : NamesParts Unlinked (Below O (suc n)) (suc c) g
    one_alone = record {
      in_range = λ i a. elim (old_or_new i a) [
        | inl (b, e) ↦ (let r = p.in_range i b in (omega (arith, r.0), omega (arith, r.1)))
        | inr (q, e) ↦ (omega arith, omega arith)
      ];
      used = λ k l u. elim (ℕ_discrete k (suc c)) [
        | yes e ↦ (n, (omega arith, o), g_new n refl ∙ sym e)
        | no d ↦ (let w = p.used k l (omega arith) in (w.0, (omega (arith, w.1.0), w.1.1), g_old w.0 w.1.0 ∙ w.2))
      ];
      adjacent = λ i j a b r. absurd r;
      connected = λ i j a b e. elim (old_or_new i a) [
        | inl (x, q) ↦ elim (old_or_new j b) [
          | inl (y, r) ↦ in_greater (λ v z. (omega (arith, z.0), z.1)) (p.connected i j x y (sym q ∙ (e ∙ r)))
          | inr (y, r) ↦ absurd (let s = p.in_range i x in omega (arith, s.1))
        ]
        | inr (x, q) ↦ elim (old_or_new j b) [
          | inl (y, r) ↦ absurd (let s = p.in_range j y in omega (arith, s.1))
          | inr (y, r) ↦ subst (λ v. Connected Unlinked (Below O (suc n)) i v) (x ∙ sym y) (Connected.here a)
        ]
      ];
    }

  all_alone : (n : ℕ) → Parted Unlinked (Below O n)
  all_alone zero = (
    0,
    (λ i. 0),
    record {
      in_range = λ i a. absurd (let l = a.0 in omega arith);
      used = λ k l u. absurd (omega arith);
      adjacent = λ i j a b r. absurd r;
      connected = λ i j a b e. absurd (let l = a.0 in omega arith);
    },
  )
  all_alone (suc n) = elim (is_in n) [
    | inl o ↦ (let (c, f, p) = all_alone n in (suc c, g n o c f p, one_alone n o c f p))
    | inr out ↦
        (let (c, f, p) = all_alone n in
        (c, f, same_parts (λ i a. (within i a.0 a.1 out, a.1)) (λ i a. (omega (arith, a.0), a.1)) (λ i j a b r. r) (λ i j r. r) c f p))
  ]
    where
      within : (i : ℕ) → i < suc n → O i → (O n → ⊥) → i < n
      within i l a out = elim (dec_lt i n) [ yes m ↦ m | no m ↦ absurd (out (subst O (let e : i ≡ n = omega arith in e) a)) ]

-- ---- labels where two parts become one: that of the second becomes that of the first, and the last label takes its place

abbrev merge : ℕ → ℕ → ℕ → ℕ → ℕ
merge a b n u = cond (eqb u b) a (cond (eqb u n) b u)

data Merged (a b n u : ℕ) : Type 0 where
  Joined : u ≡ b → merge a b n u ≡ a → Merged a b n u
  Moved : (u ≡ b → ⊥) → u ≡ n → merge a b n u ≡ b → Merged a b n u
  Kept : (u ≡ b → ⊥) → (u ≡ n → ⊥) → merge a b n u ≡ u → Merged a b n u

merged : (a b n u : ℕ) → Merged a b n u
merged a b n u = elim (ℕ_discrete u b) [
  | yes e ↦ Merged.Joined e (joins e)
  | no d ↦ elim (ℕ_discrete u n) [
    | yes e ↦ Merged.Moved d e (moves d e)
    | no f ↦ Merged.Kept d f (keeps d f)
  ]
]
  where
    joins : u ≡ b → merge a b n u ≡ a
    joins e = grind (arith, nat_tests)

    moves : (u ≡ b → ⊥) → u ≡ n → merge a b n u ≡ b
    moves d e = grind (arith, nat_tests)

    keeps : (u ≡ b → ⊥) → (u ≡ n → ⊥) → merge a b n u ≡ u
    keeps d f = grind (arith, nat_tests)

merge_range : (a b n u : ℕ) → 1 ≤ a → a < b → b ≤ n → 1 ≤ u → u ≤ n → (1 ≤ merge a b n u) × (merge a b n u ≤ n - 1)
merge_range a b n u la lb ln lu hu = by (merged a b n u)
  where
    by : Merged a b n u → (1 ≤ merge a b n u) × (merge a b n u ≤ n - 1)
    by (Merged.Joined e q) = (omega arith, omega arith)
    by (Merged.Moved d e q) = (omega arith, (let m : b < n = below d e in omega arith))
      where
        below : (u ≡ b → ⊥) → u ≡ n → b < n
        below d e = elim (dec_lt b n) [ yes m ↦ m | no m ↦ absurd (d (omega arith)) ]
    by (Merged.Kept d e q) = (omega arith, (let m : u < n = below e in omega arith))
      where
        below : (u ≡ n → ⊥) → u < n
        below e = elim (dec_lt u n) [ yes m ↦ m | no m ↦ absurd (e (omega arith)) ]

-- labels that become one were one, or are the two that are joined
data Apart (a b u v : ℕ) : Type 0 where
  Same : u ≡ v → Apart a b u v
  Forth : u ≡ a → v ≡ b → Apart a b u v
  Back : u ≡ b → v ≡ a → Apart a b u v

apart : (a b n u v : ℕ) → a < b → b ≤ n → merge a b n u ≡ merge a b n v → Apart a b u v
apart a b n u v l h e = by (merged a b n u) (merged a b n v)
  where
    by : Merged a b n u → Merged a b n v → Apart a b u v
    by (Merged.Joined p q) (Merged.Joined r s) = Apart.Same (p ∙ sym r)
    by (Merged.Joined p q) (Merged.Moved d r s) = absurd (omega arith)
    by (Merged.Joined p q) (Merged.Kept d f s) = Apart.Back p (sym s ∙ (sym e ∙ q))
    by (Merged.Moved d p q) (Merged.Joined r s) = absurd (omega arith)
    by (Merged.Moved d p q) (Merged.Moved f r s) = Apart.Same (p ∙ sym r)
    by (Merged.Moved d p q) (Merged.Kept f r s) = absurd (f (sym s ∙ (sym e ∙ q)))
    by (Merged.Kept d p q) (Merged.Joined r s) = Apart.Forth (sym q ∙ (e ∙ s)) r
    by (Merged.Kept d p q) (Merged.Moved f r s) = absurd (d (sym q ∙ (e ∙ s)))
    by (Merged.Kept d p q) (Merged.Kept f r s) = Apart.Same (sym q ∙ (e ∙ s))

-- ---- one link more

-- the pair is the one, in either order
abbrev IsPair : ℕ → ℕ → ℕ → ℕ → Type 0
IsPair p q x y = ((x ≡ p) × (y ≡ q)) ⊎ ((x ≡ q) × (y ≡ p))

-- the relation S has this pair beside those of R
record HasMore (O : ℕ → Type 0) (R S : ℕ → ℕ → Type 0) (p q : ℕ) : Type 0 where
  old : (x y : ℕ) → R x y → S x y
  forth : S p q
  back : S q p
  only : (x y : ℕ) → O x → O y → S x y → R x y ⊎ IsPair p q x y

turned : (O : ℕ → Type 0) (R S : ℕ → ℕ → Type 0) (p q : ℕ) → HasMore O R S p q → HasMore O R S q p
turned O R S p q h = record {
  old = h.old;
  forth = h.back;
  back = h.forth;
  only = λ x y a b s. elim (h.only x y a b s)
      [ inl r ↦ inl r | inr w ↦ elim w [ inl v ↦ inr (inr v) | inr v ↦ inr (inl v) ] ];
}

module _ (O : ℕ → Type 0) (R S : ℕ → ℕ → Type 0) (p q : ℕ) (op : O p) (oq : O q) (more : HasMore O R S p q) (n : ℕ) (f : ℕ → ℕ) (F : NamesParts R O n f) where
  lifted : {x y : ℕ} → Connected R O x y → Connected S O x y
  lifted (Connected.here y) = Connected.here y
  lifted (Connected.onward y r c) = Connected.onward y (more.old _ _ r) (lifted c)

  -- within one part
  inside : f p ≡ f q → NamesParts S O n f
  inside e = record {
    in_range = F.in_range;
    used = F.used;
    adjacent = λ x y a b s. elim (more.only x y a b s) [
      | inl r ↦ F.adjacent x y a b r
      | inr (inl (u, v)) ↦ ap f u ∙ (e ∙ ap f (sym v))
      | inr (inr (u, v)) ↦ ap f u ∙ (sym e ∙ ap f (sym v))
    ];
    connected = λ x y a b s. lifted (F.connected x y a b s);
  }

  -- between two
  module _ (l : f p < f q) where
    low : 1 ≤ f p
    low = (F.in_range p op).0

    high : f q ≤ n
    high = (F.in_range q oq).1

    abbrev label : ℕ → ℕ
    label x = merge (f p) (f q) n (f x)

    first_is : label p ≡ f p
    first_is = by (merged (f p) (f q) n (f p))
      where
        by : Merged (f p) (f q) n (f p) → label p ≡ f p
        by (Merged.Joined e s) = s
        by (Merged.Moved d e s) = absurd (let h = high in omega arith)
        by (Merged.Kept d e s) = s

    second_is : label q ≡ f p
    second_is = by (merged (f p) (f q) n (f q))
      where
        by : Merged (f p) (f q) n (f q) → label q ≡ f p
        by (Merged.Joined e s) = s
        by (Merged.Moved d e s) = absurd (d refl)
        by (Merged.Kept d e s) = absurd (d refl)

    named : (k x : ℕ) → 1 ≤ k → k ≤ n - 1 → ((k ≡ f q → ⊥) × (f x ≡ k)) ⊎ ((k ≡ f q) × (f x ≡ n)) → label x ≡ k
    named k x lk hk w = by w (merged (f p) (f q) n (f x))
      where
        by : ((k ≡ f q → ⊥) × (f x ≡ k)) ⊎ ((k ≡ f q) × (f x ≡ n)) → Merged (f p) (f q) n (f x) → label x ≡ k
        by (inl (d, e)) (Merged.Joined s t) = absurd (d (sym e ∙ s))
        by (inl (d, e)) (Merged.Moved s t u) = absurd (omega arith)
        by (inl (d, e)) (Merged.Kept s t u) = u ∙ e
        by (inr (d, e)) (Merged.Joined s t) = absurd (omega arith)
        by (inr (d, e)) (Merged.Moved s t u) = u ∙ sym d
        by (inr (d, e)) (Merged.Kept s t u) = absurd (t e)

    between : NamesParts S O (n - 1) label
    between = record {
      in_range = λ x a. (let r = F.in_range x a in merge_range (f p) (f q) n (f x) low l high r.0 r.1);
      used = λ k lk hk. elim (ℕ_discrete k (f q)) [
        | yes e ↦ (let w = F.used n (let h = high in omega arith) (omega arith) in (w.0, w.1, named k w.0 lk hk (inr (e, w.2))))
        | no d ↦ (let w = F.used k lk (omega arith) in (w.0, w.1, named k w.0 lk hk (inl (d, w.2))))
      ];
      adjacent = λ x y a b s. elim (more.only x y a b s) [
        | inl r ↦ ap (merge (f p) (f q) n) (F.adjacent x y a b r)
        | inr (inl (u, v)) ↦ ap label u ∙ (first_is ∙ (sym second_is ∙ ap label (sym v)))
        | inr (inr (u, v)) ↦ ap label u ∙ (second_is ∙ (sym first_is ∙ ap label (sym v)))
      ];
      connected = λ x y a b e. path x y a b (apart (f p) (f q) n (f x) (f y) l high e);
    }
      where
        path : (x y : ℕ) → O x → O y → Apart (f p) (f q) (f x) (f y) → Connected S O x y
        path x y a b (Apart.Same e) = lifted (F.connected x y a b e)
        path x y a b (Apart.Forth u v) = joined_to (lifted (F.connected x p a op u)) (Connected.onward op more.forth (lifted (F.connected q y oq b (sym v))))
        path x y a b (Apart.Back u v) = joined_to (lifted (F.connected x q a oq u)) (Connected.onward oq more.back (lifted (F.connected p y op b (sym v))))

link_more : (O : ℕ → Type 0) (R S : ℕ → ℕ → Type 0) (p q : ℕ) → O p → O q → HasMore O R S p q → Parted R O → Parted S O
link_more O R S p q op oq more (n, f, F) = elim (dec_lt (f p) (f q)) [
  | yes l ↦ (n - 1, _, between O R S p q op oq more n f F l)
  | no d ↦ elim (dec_lt (f q) (f p)) [
    | yes l ↦ (n - 1, _, between O R S q p oq op (turned O R S p q more) n f F l)
    | no e ↦ (n, f, inside O R S p q op oq more n f F (omega arith))
  ]
]

-- ---- all links

module _ (size : ℕ) (O : ℕ → Type 0) (R : ℕ → ℕ → Type 0) (d : ℕ) (next : ℕ → ℕ → Option ℕ) (net : IsNet size O R d next)
    (is_in : (i : ℕ) → O i ⊎ (O i → ⊥)) where
  -- a link of the places before i, or of the first k of i
  abbrev Linked : ℕ → ℕ → ℕ → ℕ → Type 0
  Linked i k x y = (m : ℕ) × (m < d) × (next x m ≡ Some y) × ((x < i) ⊎ ((x ≡ i) × (m < k)))

  abbrev Joins : ℕ → ℕ → ℕ → ℕ → Type 0
  Joins i k x y = Linked i k x y ⊎ Linked i k y x

  link_kept : (i k x y : ℕ) → Linked i k x y → Linked i (suc k) x y
  link_kept i k x y (m, l, e, inl b) = (m, l, e, inl b)
  link_kept i k x y (m, l, e, inr (b, c)) = (m, l, e, inr (b, omega arith))

  link_last : (i k x y : ℕ) → Linked i (suc k) x y → Linked i k x y ⊎ ((x ≡ i) × (next i k ≡ Some y))
  link_last i k x y (m, l, e, inl b) = inl (m, l, e, inl b)
  link_last i k x y (m, l, e, inr (b, c)) = elim (dec_lt m k) [
    | yes s ↦ inl (m, l, e, inr (b, s))
    | no s ↦ inr (b, (λ v. next (sym b v) ((let q : k ≡ m = omega arith in q) v)) ∙ e)
  ]

  joins_kept : (i k x y : ℕ) → Joins i k x y → Joins i (suc k) x y
  joins_kept i k x y (inl a) = inl (link_kept i k x y a)
  joins_kept i k x y (inr a) = inr (link_kept i k y x a)

  -- where no link is new
  none_new : (i k : ℕ) → ((y : ℕ) → O i → next i k ≡ Some y → ⊥) → Parted (Joins i k) O → Parted (Joins i (suc k)) O
  none_new i k none (n, f, F) = (n, f, same_parts (λ x a. a) (λ x a. a) back (joins_kept i k) n f F)
    where
      back : (x y : ℕ) → O x → O y → Joins i (suc k) x y → Joins i k x y
      back x y a b (inl s) = elim (link_last i k x y s) [ inl r ↦ inl r | inr (u, v) ↦ absurd (none y (subst O u a) v) ]
      back x y a b (inr s) = elim (link_last i k y x s) [ inl r ↦ inr r | inr (u, v) ↦ absurd (none x (subst O u b) v) ]

  same_some : (a b : ℕ) → Some a ≡ Some b → a ≡ b
  same_some a b e = cc

  -- where one is
  one_new : (i k j : ℕ) → k < d → next i k ≡ Some j → HasMore O (Joins i k) (Joins i (suc k)) i j
  one_new i k j l e = record {
    old = joins_kept i k;
    forth = inl (k, l, e, inr (refl, omega arith));
    back = inr (k, l, e, inr (refl, omega arith));
    only = λ x y a b s. only x y s;
  }
    where
      only : (x y : ℕ) → Joins i (suc k) x y → Joins i k x y ⊎ IsPair i j x y
      only x y (inl s) = elim (link_last i k x y s) [ inl r ↦ inl (inl r) | inr (u, v) ↦ inr (inl (u, same_some y j (sym v ∙ e))) ]
      only x y (inr s) = elim (link_last i k y x s) [ inl r ↦ inl (inr r) | inr (u, v) ↦ inr (inr (same_some x j (sym v ∙ e), u)) ]

  next_link : (i k : ℕ) → k < d → Parted (Joins i k) O → Parted (Joins i (suc k)) O
  next_link i k l h = elim (is_in i) [
    | inr out ↦ none_new i k (λ y o e. out o) h
    | inl o ↦ by o (next i k) refl
  ]
    where
      by : O i → (w : Option ℕ) → next i k ≡ w → Parted (Joins i (suc k)) O
      by o None e = none_new i k (λ y a s. (let z : None ≡ Some y = sym e ∙ s in cc)) h
      by o (Some j) e = link_more O (Joins i k) (Joins i (suc k)) i j o (net.sound i k j l e).0 (one_new i k j l e) h

  links_of_one : (i k : ℕ) → k ≤ d → Parted (Joins i 0) O → Parted (Joins i k) O
  links_of_one i zero l h = h
  links_of_one i (suc k) l h = next_link i k (omega arith) (links_of_one i k (omega arith) h)

  -- all links of a place
  whole_row : (i x y : ℕ) → Linked (suc i) 0 x y → Linked i d x y
  whole_row i x y (m, l, e, inr (b, c)) = absurd (omega arith)
  whole_row i x y (m, l, e, inl b) = elim (dec_lt x i) [ yes s ↦ (m, l, e, inl s) | no s ↦ (m, l, e, inr (omega arith, l)) ]

  row_whole : (i x y : ℕ) → Linked i d x y → Linked (suc i) 0 x y
  row_whole i x y (m, l, e, inl b) = (m, l, e, inl (omega arith))
  row_whole i x y (m, l, e, inr (b, c)) = (m, l, e, inl (omega arith))

  rows : (i : ℕ) → Parted (Joins 0 0) O → Parted (Joins i 0) O
  rows zero h = h
  rows (suc i) h =
      let (n, f, F) = links_of_one i d (omega arith) (rows i h) in (
        n,
        f,
        same_parts (λ x a. a) (λ x a. a)
            (λ x y a b s. elim s as (λ _. Joins i d x y) [ inl r ↦ inl (whole_row i x y r) | inr r ↦ inr (whole_row i y x r) ])
            (λ x y s. elim s as (λ _. Joins (suc i) 0 x y) [ inl r ↦ inl (row_whole i x y r) | inr r ↦ inr (row_whole i y x r) ]) n f F,
      )

  unlinked : Parted (Joins 0 0) O
  unlinked =
      let (n, f, F) = all_alone O is_in size in
      (n, f, same_parts (λ x a. (net.bounded x a, a)) (λ x a. a.1) (λ x y a b s. elim s [ inl r ↦ none x y r | inr r ↦ none y x r ]) (λ x y r. absurd r) n f F)
    where
      none : (x y : ℕ) → Linked 0 0 x y → ⊥
      none x y (m, l, e, inl b) = absurd (omega arith)
      none x y (m, l, e, inr (b, c)) = absurd (omega arith)

  pub parts_exist : Parted R O
  parts_exist =
      let (n, f, F) = rows size unlinked in
      (n, f, same_parts (λ x a. a) (λ x a. a) all related n f F)
    where
      all : (x y : ℕ) → O x → O y → R x y → Joins size 0 x y
      all x y a b r = let c = net.complete x y a b r in inl (c.0, c.1, c.2, inl (net.bounded x a))

      related : (x y : ℕ) → Joins size 0 x y → R x y
      related x y (inl (m, l, e, w)) = (net.sound x m y l e).1
      related x y (inr (m, l, e, w)) = net.symmetric y x (net.sound y m x l e).1

-- ---- pictures

module _ (X : Picture) where
  object_or_not : (i : ℕ) → ObjectPlace X i ⊎ (ObjectPlace X i → ⊥)
  object_or_not i = elim (dec_lt i (box_count X.sides)) [
    | no m ↦ inr (λ o. m o.0)
    | yes l ↦ by l (at X (raster_point X.sides i)) refl
  ]
    where
      by : i < box_count X.sides → (b : Bool) → at X (raster_point X.sides i) ≡ b → ObjectPlace X i ⊎ (ObjectPlace X i → ⊥)
      by l true e = inl (l, e)
      by l false e = inr (λ o. (let q : at X (raster_point X.sides i) ≡ true = o.1 in let z : false ≡ true = sym e ∙ q in cc))

  background_or_not : (i : ℕ) → BackgroundPlace X i ⊎ (BackgroundPlace X i → ⊥)
  background_or_not i = elim (dec_lt i (box_count (framed_sides X.sides))) [
    | no m ↦ inr (λ o. m o.0)
    | yes l ↦ by l (at X (framed_point X.sides i)) refl
  ]
    where
      by : i < box_count (framed_sides X.sides) → (b : Bool) → at X (framed_point X.sides i) ≡ b → BackgroundPlace X i ⊎ (BackgroundPlace X i → ⊥)
      by l false e = inl (l, e)
      by l true e = inr (λ o. (let z : false ≡ true = sym o.1 ∙ e in cc))

  -- a picture of any number of axes has its counts
  pub counts_exist : (n : ℕ) × (o : ℕ) × (b : ℕ) × Counts X n o b
  counts_exist =
      let (o, f, F) = parts_exist _ _ _ _ _ (object_net X) object_or_not in
      let (b, g, G) = parts_exist _ _ _ _ _ (background_net X) background_or_not in
      (length (object_points X), o, b, record { points = refl; object = (_, object_parts X o f F); background = (_, background_parts X b g G) })
