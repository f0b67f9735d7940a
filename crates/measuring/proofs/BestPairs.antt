-- The best pair of sites of a list: one site more, the sites that are left, and the farthest two of all.
-- Lists of sites alone.
use Rattle.std.proofs.Common.{◌≡◌, ◌⊎◌, inl, inr, ℕ, ◌+◌, ◌<◌, ◌≤◌, List, length, sym, refl, subst, arith}
use Rattle.measure_terms.specs.Spacing.{Spacing}
use Rattle.measuring.specs.declared.site.Site.{Site}
use Rattle.measuring.specs.declared.farthest.Feret.{Feret}
use Rattle.measuring.specs.Sites.{squared_length, square_between, site_at, IsOneOf, AreLayered, IsOutdone}
use Rattle.measuring.specs.Farthest.{IsNoBetter, IsBetter, IsPairIn, IsAcross, AreBetween, IsTriedFrom, IsBestWith, IsBest, IsFarthest}
use Rattle.measuring.proofs.Gaps.{length_le, length_within, no_length}
use Rattle.measuring.proofs.Pairs.{turned, no_better, pair_in, no_better_turned}

pub one_of : (sites : List Site) (k : ℕ) → k < length sites → IsOneOf sites (site_at sites k)
one_of sites k l = record { place = k; within = l; is = refl }

-- ---- one site with those behind it

-- none was tried
pub none_tried : (s : Spacing) (sites : List Site) (at : ℕ) (best : Feret) → IsPairIn s sites best → IsBestWith s sites at (length sites) best best
none_tried s sites at best h = record { tried = record { each = λ k l m. absurd (omega (arith, l, m)) }; kept = λ p q h. h; pair = h }

pub one_tried : (s : Spacing) (sites : List Site) (at k : ℕ) (old one new : Feret) → at < length sites → k < length sites
    → IsBestWith s sites at (k + 1) old one
    → IsBetter s (site_at sites at) (site_at sites k) one new → IsBestWith s sites at k old new
one_tried s sites at k old one new a l h b = record {
  tried = record {
    each = λ j m n.
        let split : (k ≡ j) ⊎ (k + 1 ≤ j) = grind arith in
        elim split [
          | inl e ↦ subst (λ i. IsNoBetter s new (site_at sites at) (site_at sites i)) e b.tried
          | inr o ↦ b.kept (site_at sites at) (site_at sites j) (h.tried.each j o n)
        ];
  };
  kept = λ p q i. b.kept p q (h.kept p q i);
  pair = pair_in s sites (site_at sites at) (site_at sites k) one new (one_of sites at a) (one_of sites k l) h.pair b;
}

-- the sites that are left are not as far
pub rest_tried : (s : Spacing) (sites : List Site) (at k across : ℕ) (old f : Feret) → AreLayered sites → IsAcross s sites across → at ≤ k → k < length sites
    → IsBestWith s sites at (k + 1) old f
    → squared_length s.z (site_at sites at).z (site_at sites k).z + across < f.square → IsBestWith s sites at at old f
rest_tried s sites at k across old f o a l m h far = record {
  tried = record {
    each = λ j low n.
        let split : (k + 1 ≤ j) ⊎ (j ≤ k) = grind arith in
        elim split [
          | inl up ↦ h.tried.each j up n
          | inr down ↦ (
              let flat = a.most at j (omega (arith, l, m)) n in
              let x = o.rising at j low n in
              let y = o.rising j k down m in
              let deep = length_le s.z (site_at sites at).z (site_at sites j).z (site_at sites at).z (site_at sites k).z (omega (arith, x, y)) in
              no_better s f (site_at sites at) (site_at sites j) (omega (arith, flat, deep, far)))
        ];
  };
  kept = h.kept;
  pair = h.pair;
}

-- ---- all sites

pub best_first : (s : Spacing) (sites : List Site) (f : Feret) → IsPairIn s sites f → IsBest s sites 0 f
best_first s sites f h = record { tried = λ at l. absurd (omega (arith, l)); pair = h }

pub best_next : (s : Spacing) (sites : List Site) (at : ℕ) (old new : Feret) → IsBest s sites at old → IsBestWith s sites at at old new
    → IsBest s sites (at + 1) new
best_next s sites at old new h b = record {
  tried = λ i l.
      let split : (i ≡ at) ⊎ (i < at) = grind arith in
      elim split [
        | inl e ↦ subst (λ n. IsTriedFrom s sites n n new) (sym e) b.tried
        | inr m ↦ record { each = λ k n o. b.kept (site_at sites i) (site_at sites k) ((h.tried i m).each k n o) }
      ];
  pair = b.pair;
}

any_two : (s : Spacing) (sites : List Site) (f : Feret) → IsBest s sites (length sites) f → (p q : Site) → IsOneOf sites p → IsOneOf sites q
    → IsNoBetter s f p q
any_two s sites f h p q a b =
    let split : (a.place ≤ b.place) ⊎ (b.place < a.place) = grind arith in
    subst (λ (r : Site). IsNoBetter s f r q) a.is (subst (IsNoBetter s f (site_at sites a.place)) b.is (elim split [
      | inl l ↦ (h.tried a.place a.within).each b.place l b.within
      | inr l ↦ no_better_turned s f (site_at sites b.place) (site_at sites a.place) ((h.tried b.place b.within).each a.place (omega (arith, l)) a.within)
    ]))

pub farthest_is : (s : Spacing) (sites : List Site) (f : Feret) → IsBest s sites (length sites) f → IsFarthest s (IsOneOf sites) (IsOneOf sites) f
farthest_is s sites f h = record {
  from_in = h.pair.from;
  to_in = h.pair.to;
  distance = h.pair.square;
  greatest = λ p q a b. (any_two s sites f h p q a b).most;
  first = λ p q a b e. (any_two s sites f h p q a b).first e;
  last = λ q b e. (any_two s sites f h f.from q h.pair.from b).last e refl;
}

-- no site across
pub across_most : (s : Spacing) (sites : List Site) (left right top bottom : ℕ) → AreBetween sites (length sites) left right top bottom
    → IsAcross s sites (squared_length s.x left right + squared_length s.y top bottom)
across_most s sites left right top bottom h = record {
  most = λ i k a b.
      let p = site_at sites i in
      let q = site_at sites k in
      let x = length_within s.x left right p.x q.x (h.from_left i a) (h.from_right i a) (h.from_left k b) (h.from_right k b) in
      let y = length_within s.y top bottom p.y q.y (h.from_top i a) (h.from_bottom i a) (h.from_top k b) (h.from_bottom k b) in
      omega (arith, x, y);
}

-- ---- the farthest of a greater set

-- of a set whose sites are all among those of a list, or outdone by one of these
pub farthest_of : (s : Spacing) (sites : List Site) (E R : Site → Type 0) (f : Feret) → ((p : Site) → IsOneOf sites p → E p)
    → ((p q : Site) → R p → IsOneOf sites p ⊎ IsOutdone s sites p q)
    → IsFarthest s (IsOneOf sites) (IsOneOf sites) f → IsFarthest s E R f
farthest_of s sites E R f of enough h = record {
  from_in = of f.from h.from_in;
  to_in = of f.to h.to_in;
  distance = h.distance;
  greatest = λ p q a b. elim (enough q p b) [
    | inl c ↦ one p q a c
    | inr o ↦ (let m = one p o.by a o.one in let n = o.farther in let t = turned s p q in let u = turned s p o.by in omega (arith, m, n, t, u))
  ];
  first = λ p q a b e. elim (enough q p b) [
    | inl c ↦ earlier p q a c e
    | inr o ↦ absurd (let m = one p o.by a o.one in let n = o.farther in let t = turned s p q in let u = turned s p o.by in omega (arith, m, n, t, u, e))
  ];
  last = λ q b e. elim (enough q f.from b) [
    | inl c ↦ h.last q c e
    | inr o ↦ absurd (let m = h.greatest f.from o.by h.from_in o.one in let n = o.farther in let t = turned s f.from q in let u = turned s f.from o.by in
        omega (arith, m, n, t, u, e))
  ];
}
  where
    one : (p q : Site) → R p → IsOneOf sites q → square_between s p q ≤ f.square
    one p q a c = elim (enough p q a) [
      | inl d ↦ h.greatest p q d c
      | inr o ↦ (let m = h.greatest o.by q o.one c in let n = o.farther in omega (arith, m, n))
    ]

    earlier : (p q : Site) → R p → IsOneOf sites q → square_between s p q ≡ f.square → f.from.number ≤ p.number
    earlier p q a c e = elim (enough p q a) [
      | inl d ↦ h.first p q d c e
      | inr o ↦ absurd (let m = h.greatest o.by q o.one c in let n = o.farther in omega (arith, m, n, e))
    ]

-- the first site twice
pub alone : (s : Spacing) (sites : List Site) → 1 ≤ length sites → IsBest s sites 0 (record { square = 0; from = site_at sites 0; to = site_at sites 0 })
alone s sites some = best_first s sites _ (record {
  from = one_of sites 0 some;
  to = one_of sites 0 some;
  square = (let p = site_at sites 0 in let x = no_length s.x p.x in let y = no_length s.y p.y in let z = no_length s.z p.z in omega (arith, x, y, z));
})
