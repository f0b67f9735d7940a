-- The ends of stretches one after the other, and the vertices of layers put behind those of the layers before.
-- Lists of sites and corners alone.
use Rattle.std.proofs.Common.{◌≡◌, ◌⊎◌, inl, inr, ℕ, ◌+◌, ◌-◌, ◌<◌, ◌≤◌, List, [], ◌∷◌, ◌++◌, length, get_or, map, take, drop, ap, sym, subst, ◌∙◌, refl, arith}
use Rattle.std.proofs.lemmas.Int.{ints}
use Rattle.std.proofs.lemmas.List.{length-map}
use Rattle.measure_terms.specs.Spacing.{Spacing}
use Rattle.measure_terms.specs.Hulls.{Corner, IsHull, IsUpTo, vertex}
use Rattle.measuring.specs.declared.site.Site.{Site}
use Rattle.measuring.specs.declared.stretch.Stretch.{Stretch}
use Rattle.measuring.specs.Corners.{IsOf, AreInRasterOrder}
use Rattle.measuring.specs.Sites.{site_at, IsSiteOf, IsOneOf, AreLayered, IsOutdone}
use Rattle.measuring.specs.Stretches.{stretch_at, AreStretches}
use Rattle.measuring.specs.Layers.{corner_of, AreSitesInOrder, AreEnds, IsBeside, IsLayer, AreUpTo, AreVerticesPut, IsLayerPut, AreEnough, AreVertices}
use Rattle.measuring.proofs.SiteLists.{one_more, each_more, one_kept, one_new, one_split, sites_more, order_more, layered_more, part_length, part_at}
use Rattle.measuring.proofs.SiteNumbers.{HasAxes, numbered, behind_by_number}
use Rattle.measuring.proofs.Outdoing.{corner_at, stretch_enough, outdone_again}

-- ---- the ends of stretches

pub no_ends : (sides : List ℕ) (ss : List Stretch) → AreEnds sides ss 0 []
no_ends sides ss = record {
  points = record { each = λ k l. absurd (omega (arith, l)) };
  of = λ p h. absurd (let w = h.within in omega (arith, w));
  first = λ k l. absurd (omega (arith, l));
  last = λ k l. absurd (omega (arith, l));
  order = record { rising = λ i k l m. absurd (omega (arith, m)) };
  until = λ k j l. absurd (omega (arith, l));
}

pub ends_more : (sides : List ℕ) (w : ℕ) (ss : List Stretch) (n : ℕ) (sites : List Site) (f l : Site) → AreStretches w ss → n < length ss → IsSiteOf sides f
    → IsSiteOf sides l
    → f.number ≡ (stretch_at ss n).first → l.number ≡ (stretch_at ss n).last → AreEnds sides ss n sites → AreEnds sides ss (n + 1) ((sites ++ f ∷ []) ++ l ∷ [])
ends_more sides w ss n sites f l o within fi li fn ln h =
    let some = o.some n within in
    let below_f : (k : ℕ) → k < length sites → (site_at sites k).number ≤ f.number = λ k m. (let u = h.until k n m (omega arith) within in omega (arith, u, fn))
    in
    let below_l = each_more (λ (t : Site). t.number ≤ l.number) sites f (λ k m. (let u = below_f k m in omega (arith, u, fn, ln, some)))
    (omega (arith, fn, ln, some)) in
    record {
      points = sites_more sides (sites ++ f ∷ []) l (sites_more sides sites f h.points fi) li;
      of = λ p i. elim (one_split (sites ++ f ∷ []) l p i) [
        | inl j ↦ elim (one_split sites f p j) [
          | inl t ↦ h.of p t
          | inr e ↦ record { site = subst (IsSiteOf sides) (sym e) fi; place = n; within = within; one = inl (ap (λ (t : Site). t.number) e ∙ fn) }
        ]
        | inr e ↦ record { site = subst (IsSiteOf sides) (sym e) li; place = n; within = within; one = inr (ap (λ (t : Site). t.number) e ∙ ln) }
      ];
      first = λ k m.
          let split : (k < n) ⊎ (k ≡ n) = grind arith in
          elim split [
            | inl b ↦ (let r = h.first k b in (r.0, one_kept (sites ++ f ∷ []) l r.0 (one_kept sites f r.0 r.1), r.2))
            | inr e ↦ (f, one_kept (sites ++ f ∷ []) l f (one_new sites f), fn ∙ ap (λ j. (stretch_at ss j).first) (sym e))
          ];
      last = λ k m.
          let split : (k < n) ⊎ (k ≡ n) = grind arith in
          elim split [
            | inl b ↦ (let r = h.last k b in (r.0, one_kept (sites ++ f ∷ []) l r.0 (one_kept sites f r.0 r.1), r.2))
            | inr e ↦ (l, one_new (sites ++ f ∷ []) l, ln ∙ ap (λ j. (stretch_at ss j).last) (sym e))
          ];
      order = order_more (sites ++ f ∷ []) l (order_more sites f h.order below_f) below_l;
      until = λ k j m low high. (
          let next : n < j = omega (arith, low) in
          let r = o.rising n j next high in
          each_more (λ (t : Site). t.number < (stretch_at ss j).first) (sites ++ f ∷ []) l
          (each_more (λ (t : Site). t.number < (stretch_at ss j).first) sites f (λ i b. h.until i j b (omega (arith, low)) high) (omega (arith, fn, some, r)))
          (omega (arith, ln, r)) k m);
    }

pub ends_in_order : (sides : List ℕ) (ss : List Stretch) (n : ℕ) (sites : List Site) → AreEnds sides ss n sites → AreSitesInOrder sides sites
ends_in_order sides ss n sites h = record { points = h.points; order = h.order }

-- ---- sites in the order of their numbers

pub in_layers : (sides : List ℕ) (sites : List Site) → HasAxes sides → AreSitesInOrder sides sites → AreLayered sites
in_layers sides sites a h = record {
  rising = λ i k l m.
      (behind_by_number (get_or sides 0 0) (get_or sides 1 0) (site_at sites i) (site_at sites k)
      (numbered sides (site_at sites i) a (h.points.each i (omega (arith, l, m)))) (numbered sides (site_at sites k) a (h.points.each k m))
      (h.order.rising i k l m)).layer;
}

-- the corners of a layer are in raster order
pub layer_in_order : (sides : List ℕ) (z : ℕ) (layer : List Site) → HasAxes sides → IsLayer sides z layer → AreInRasterOrder (map corner_of layer)
layer_in_order sides z layer a h = record {
  order = λ i k l m.
      let count = length-map layer corner_of in
      let w : k < length layer = omega (arith, m, count) in
      let v : i < length layer = omega (arith, l, w) in
      let p = site_at layer i in
      let q = site_at layer k in
      let b = behind_by_number (get_or sides 0 0) (get_or sides 1 0) p q (numbered sides p a (h.points.each i v)) (numbered sides q a (h.points.each k w))
      (h.order.rising i k (omega (arith, l)) w) in
      let same : p.z ≡ q.z = h.layer i v ∙ sym (h.layer k w) in
      let y = b.line same in
      let up : IsUpTo (corner_of p) (corner_of q) =
      record {
        row = omega (arith, ints, y);
        column = λ e. (let f : p.y ≡ q.y = omega (arith, ints, e) in let x = b.column same f in omega (arith, ints, x));
      } in
      subst (λ (c : Corner). IsUpTo c (vertex (map corner_of layer) k)) (sym (corner_at layer i v))
      (subst (IsUpTo (corner_of p)) (sym (corner_at layer k w)) up);
}

-- ---- the vertices of one layer

pub no_vertices : (layer : List Site) (round : List Corner) (old : List Site) → AreVerticesPut layer round 0 old old
no_vertices layer round old = record {
  kept = λ p h. h;
  of = λ p h. inl h;
  put = λ j l. absurd (omega (arith, l));
  layered = λ z flat h up. (h, up);
  many = omega arith;
}

pub vertices_more : (layer : List Site) (round : List Corner) (n : ℕ) (old all : List Site) (x : Site) → IsOneOf layer x
    → ((p : Site) → IsOneOf layer p → corner_of p ≡ vertex round n → x ≡ p)
    → AreVerticesPut layer round n old all → AreVerticesPut layer round (n + 1) old (all ++ x ∷ [])
vertices_more layer round n old all x here once h = record {
  kept = λ p i. one_kept all x p (h.kept p i);
  of = λ p i. elim (one_split all x p i) [ inl j ↦ h.of p j | inr e ↦ inr (subst (IsOneOf layer) (sym e) here) ];
  put = λ j l p i c.
      let split : (j < n) ⊎ (j ≡ n) = grind arith in
      elim split [
        | inl m ↦ one_kept all x p (h.put j m p i c)
        | inr e ↦ subst (IsOneOf (all ++ x ∷ [])) (once p i (c ∙ ap (vertex round) e)) (one_new all x)
      ];
  layered = λ z flat o up.
      let r = h.layered z flat o up in
      layered_more z all x (ap (λ (t : Site). t.z) (sym here.is) ∙ flat here.place here.within) r.0 r.1;
  many = (let m = h.many in let c = one_more all x in omega (arith, m, c));
}

-- the site of a layer at a vertex
pub record IsAtVertex (sides : List ℕ) (layer : List Site) (c : Corner) : Type 0 where
  pub site : Site
  pub one : IsOneOf layer site
  pub beside : IsBeside sides (site_at layer 0) c site

beside_of : (sides : List ℕ) (layer : List Site) (c : Corner) (p : Site) → 1 ≤ length layer → IsLayer sides (site_at layer 0).z layer → IsOneOf layer p
    → corner_of p ≡ c → IsBeside sides (site_at layer 0) c p
beside_of sides layer c p some h i e = record {
  is = subst (IsSiteOf sides) i.is (h.points.each i.place i.within);
  corner = e;
  layer = ap (λ (t : Site). t.z) (sym i.is) ∙ h.layer i.place i.within;
}

pub at_vertex : (sides : List ℕ) (layer : List Site) (round : List Corner) (n : ℕ) (c : Corner) → 1 ≤ length layer → IsLayer sides (site_at layer 0).z layer
    → IsHull (IsOf (map corner_of layer)) round → n < length round → c ≡ vertex round n
    → IsAtVertex sides layer c
at_vertex sides layer round n c some h is l e =
    let of = is.of n l in
    let ow = of.within in
    let count = length-map layer corner_of in
    let m : of.place < length layer = omega (arith, ow, count) in
    let p = site_at layer of.place in
    let one : IsOneOf layer p = record { place = of.place; within = m; is = refl } in
    record { site = p; one = one; beside = beside_of sides layer c p some h one (sym (corner_at layer of.place m) ∙ of.is ∙ sym e) }

pub vertex_put : (sides : List ℕ) (layer : List Site) (round : List Corner) (n : ℕ) (c : Corner) (old all : List Site) (x : Site) → 1 ≤ length layer
    → IsLayer sides (site_at layer 0).z layer → IsHull (IsOf (map corner_of layer)) round
    → n < length round → c ≡ vertex round n → ((q : Site) → IsBeside sides (site_at layer 0) c q → x ≡ q) → AreVerticesPut layer round n old all
    → AreVerticesPut layer round (n + 1) old (all ++ x ∷ [])
vertex_put sides layer round n c old all x some h is l e once put =
    let v = at_vertex sides layer round n c some h is l e in
    vertices_more layer round n old all x (subst (IsOneOf layer) (sym (once v.site v.beside)) v.one)
    (λ p i f. once p (beside_of sides layer c p some h i (f ∙ sym e))) put

-- ---- layer after layer

-- a part of sites in one layer
pub part_is_layer : (sides : List ℕ) (ends : List Site) (a b : ℕ) → a < b → b ≤ length ends → AreSitesInOrder sides ends
    → ((k : ℕ) → a ≤ k → k < b → (site_at ends k).z ≡ (site_at ends a).z)
    → IsLayer sides (site_at (take (b - a) (drop a ends)) 0).z (take (b - a) (drop a ends))
part_is_layer sides ends a b l m h flat =
    let part = take (b - a) (drop a ends) in
    let count = part_length ends a b (omega (arith, l)) m in
    let at = λ (k : ℕ) (w : k < length part). part_at ends a b k (omega (arith, w, count)) in
    let begin : site_at part 0 ≡ site_at ends (a + 0) = part_at ends a b 0 (omega (arith, l)) in
    let start : (site_at part 0).z ≡ (site_at ends a).z = ap (λ (t : Site). t.z) begin ∙ flat (a + 0) (omega arith) (omega (arith, l)) in
    record {
      points = record { each = λ k w. subst (IsSiteOf sides) (sym (at k w)) (h.points.each (a + k) (omega (arith, w, count, l, m))) };
      order = record {
        rising = λ i k up w. (
            let u = ap (λ (t : Site). t.number) (at i (omega (arith, up, w))) in
            let v = ap (λ (t : Site). t.number) (at k w) in
            let r = h.order.rising (a + i) (a + k) (omega (arith, up)) (omega (arith, w, count, l, m)) in
            omega (arith, u, v, r));
      };
      layer = λ k w. ap (λ (t : Site). t.z) (at k w) ∙ flat (a + k) (omega arith) (omega (arith, w, count, l)) ∙ sym start;
    }

pub none_enough : (ends : List Site) → AreEnough ends 0 []
none_enough ends = record {
  of = λ p h. absurd (let w = h.within in omega (arith, w));
  enough = λ s spacing k q l. absurd (omega (arith, l));
  layered = record { rising = λ i k l m. absurd (omega (arith, m)) };
  until = λ i k l. absurd (omega (arith, l));
  some = λ l. absurd (omega (arith, l));
}

kept_or_outdone : (s : Spacing) (old new : List Site) (p q : Site) → ((t : Site) → IsOneOf old t → IsOneOf new t) → IsOneOf old p ⊎ IsOutdone s old p q
    → IsOneOf new p ⊎ IsOutdone s new p q
kept_or_outdone s old new p q kept h = elim h [ inl o ↦ inl (kept p o) | inr o ↦ inr (record { by = o.by; one = kept o.by o.one; farther = o.farther }) ]

pub enough_more : (sides : List ℕ) (ends : List Site) (a b : ℕ) (old new : List Site) → HasAxes sides → a < b → b ≤ length ends → AreSitesInOrder sides ends
    → ((k : ℕ) → a ≤ k → k < b → (site_at ends k).z ≡ (site_at ends a).z)
    → IsLayerPut (take (b - a) (drop a ends)) old new → AreEnough ends a old → AreEnough ends b new
enough_more sides ends a b old new axes l m order flat put h =
    let part = take (b - a) (drop a ends) in
    let count = part_length ends a b (omega (arith, l)) m in
    let at = λ (k : ℕ) (w : k < length part). part_at ends a b k (omega (arith, w, count)) in
    let z = (site_at ends a).z in
    let layers = in_layers sides ends axes order in
    let up : AreUpTo z old = record { each = λ k w. h.until k a w (omega arith) (omega (arith, l, m)) } in
    let r = put.layered z (λ k w. ap (λ (t : Site). t.z) (at k w) ∙ flat (a + k) (omega arith) (omega (arith, w, count, l))) h.layered up in
    record {
      of = λ p i. elim (put.of p i) [
        | inl o ↦ h.of p o
        | inr o ↦ (let w = o.within in record { place = a + o.place; within = omega (arith, w, count, l, m); is = sym (at o.place w) ∙ o.is })
      ];
      enough = λ s spacing k q low high. (
          let split : (k < a) ⊎ (a ≤ k) = grind arith in
          elim split [
            | inl e ↦ kept_or_outdone s old new (site_at ends k) q put.kept (h.enough s spacing k q e high)
            | inr e ↦ (
                let w : k - a < length part = omega (arith, e, low, count) in
                let back : a + (k - a) ≡ k = omega (arith, e) in
                let is : site_at part (k - a) ≡ site_at ends k = at (k - a) w ∙ ap (site_at ends) back in
                put.enough s spacing (site_at ends k) q (record { place = k - a; within = w; is = is }))
          ]);
      layered = r.0;
      until = λ i k w low high. (let t = r.1.each i w in let u = layers.rising a k (omega (arith, l, low)) high in omega (arith, t, u));
      some = λ _. (let n = put.more in omega (arith, n));
    }

-- all layers
pub vertices_are : (sides : List ℕ) (ss : List Stretch) (ends sites : List Site) (n : ℕ) → HasAxes sides → AreStretches (get_or sides 0 0) ss
    → AreEnds sides ss (length ss) ends → length ends ≤ n → AreEnough ends n sites → AreVertices sides ss sites
vertices_are sides ss ends sites n axes order are all h = record {
  of = λ p i. are.of p (h.of p i);
  enough = λ s spacing p q here. outdone_again s ends sites p q (stretch_enough sides ss ends axes order are s spacing p q here)
      (λ e o. (let w = o.within in subst (λ (t : Site). IsOneOf sites t ⊎ IsOutdone s sites t q) o.is
      (h.enough s spacing o.place q (omega (arith, w, all)) w)));
  layered = h.layered;
  some = λ l. (let r = are.first 0 l in let w = r.1.within in h.some (omega (arith, w, all)));
}
