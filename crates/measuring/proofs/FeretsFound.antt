-- The Feret diameters of the objects of a box, from the farthest sites of their stretches.
-- Points, labels and sites alone.
use Rattle.std.proofs.Common.{◌≡◌, ◌⊎◌, inl, inr, ℕ, ◌+◌, ◌*◌, ◌<◌, ◌≤◌, List, [], ◌∷◌, ◌++◌, length, get_or, pos, ap, sym, ◌∙◌, subst, arith}
use Rattle.std.specs.Prelude.{nat_abs, ◌-ℤ◌}
use Rattle.std.specs.Int.{abs_diff}
use Rattle.std.proofs.Math.ListN.{get_or-append}
use Rattle.std.proofs.Math.Seq.{get_or-append_seam}
use Rattle.std.proofs.lemmas.Int.{ints}
use Rattle.std.proofs.lemmas.List.{length-append, get_or-map, get_or_default}
use Rattle.shape_terms.specs.Points.{Point, box_count, raster_number, raster_point}
use Rattle.shape_terms.proofs.Boxes.{raster_below, raster_point_in, raster_number-raster_point, raster_point-raster_number}
use Rattle.measure_terms.specs.Spacing.{Spacing, spaced_distance}
use Rattle.measure_terms.specs.Feret.{HasLabel, IsFeret, AreFerets}
use Rattle.measuring.specs.declared.site.Site.{Site}
use Rattle.measuring.specs.declared.stretch.Stretch.{Stretch}
use Rattle.measuring.specs.declared.stretch.Stretches.{Stretches}
use Rattle.measuring.specs.declared.farthest.Feret.{Feret}
use Rattle.measuring.specs.FeretsTold.{point_of, feret_told, ferets_told}
use Rattle.measuring.specs.Sites.{squared_length, square_between, IsSiteOf}
use Rattle.measuring.specs.Stretches.{AreStretchesOf, IsLabelled, HaveStretches}
use Rattle.measuring.specs.Farthest.{IsFarthest, IsWithin, IsEnd, HaveFarthest}
use Rattle.measuring.proofs.SiteNumbers.{HasAxes, point_is, site_for}

-- ---- distances

gap_is : (x z : ℕ) → nat_abs (pos x -ℤ pos z) ≡ abs_diff x z
gap_is x z = omega (arith, ints)

flat_distance : (s : Spacing) (x y a b : ℕ) → spaced_distance s (pos x ∷ pos y ∷ []) (pos a ∷ pos b ∷ []) ≡ squared_length s.x x a + squared_length s.y y b
    + squared_length s.z 0 0
flat_distance s x y a b =
    let e : spaced_distance s (pos x ∷ pos y ∷ []) (pos a ∷ pos b ∷ []) ≡ (s.x * nat_abs (pos x -ℤ pos a)) * (s.x * nat_abs (pos x -ℤ pos a))
    + (s.y * nat_abs (pos y -ℤ pos b)) * (s.y * nat_abs (pos y -ℤ pos b)) = omega arith in
    let z : squared_length s.z 0 0 ≡ 0 = none s.z in
    let g = gap_is x a in
    let h = gap_is y b in
    e ∙ (λ i. (s.x * g i) * (s.x * g i) + (s.y * h i) * (s.y * h i)) ∙ behind (squared_length s.x x a + squared_length s.y y b) (squared_length s.z 0 0) z
  where
    none : (side : ℕ) → squared_length side 0 0 ≡ 0
    none side = omega arith

    behind : (m n : ℕ) → n ≡ 0 → m ≡ m + n
    behind m n e = omega (arith, e)

solid_distance : (s : Spacing) (x y z a b c : ℕ) → spaced_distance s (pos x ∷ pos y ∷ pos z ∷ []) (pos a ∷ pos b ∷ pos c ∷ []) ≡ squared_length s.x x a
    + squared_length s.y y b + squared_length s.z z c
solid_distance s x y z a b c =
    let e : spaced_distance s (pos x ∷ pos y ∷ pos z ∷ []) (pos a ∷ pos b ∷ pos c ∷ []) ≡ (s.x * nat_abs (pos x -ℤ pos a)) * (s.x * nat_abs (pos x -ℤ pos a))
    + (s.y * nat_abs (pos y -ℤ pos b)) * (s.y * nat_abs (pos y -ℤ pos b))
    + (s.z * nat_abs (pos z -ℤ pos c)) * (s.z * nat_abs (pos z -ℤ pos c)) = omega arith in
    let g = gap_is x a in
    let h = gap_is y b in
    let k = gap_is z c in
    e ∙ (λ i. (s.x * g i) * (s.x * g i) + (s.y * h i) * (s.y * h i) + (s.z * k i) * (s.z * k i))

no_layer : (n : ℕ) → pos 0 ≡ pos n → n ≡ 0
no_layer n e = omega (arith, ints, e)

pub distance_is : (sides : List ℕ) (s : Spacing) (p q : Site) → HasAxes sides → IsSiteOf sides p → IsSiteOf sides q
    → spaced_distance s (point_of (length sides) p) (point_of (length sides) q) ≡ square_between s p q
distance_is [] s p q a h k = absurd (elim a.two_or_three [ inl e ↦ omega (arith, e) | inr e ↦ omega (arith, e) ])
distance_is (w ∷ []) s p q a h k = absurd (elim a.two_or_three [ inl e ↦ omega (arith, e) | inr e ↦ omega (arith, e) ])
distance_is (w ∷ v ∷ []) s p q a h k =
    let m = no_layer p.z h.z in
    let n = no_layer q.z k.z in
    flat_distance s p.x p.y q.x q.y ∙ (λ i. squared_length s.x p.x q.x + squared_length s.y p.y q.y + squared_length s.z (sym m i) (sym n i))
distance_is (w ∷ v ∷ d ∷ []) s p q a h k = solid_distance s p.x p.y p.z q.x q.y q.z
distance_is (w ∷ v ∷ d ∷ e ∷ sides) s p q a h k = absurd (elim a.two_or_three [ inl f ↦ omega (arith, f) | inr f ↦ omega (arith, f) ])

-- ---- points of an object

module _ (sides labels : List ℕ) (axes : HasAxes sides) (k : ℕ) (ss : List Stretch)
    (o : AreStretchesOf (get_or sides 0 0) (IsLabelled labels k (box_count sides)) ss) where
  -- a point of the object as a site of its stretches
  pub record IsHeld (p : Point) : Type 0 where
    pub site : Site
    pub is : point_of (length sides) site ≡ p
    pub number : site.number ≡ raster_number sides p
    pub within : IsWithin sides ss site

  held : (p : Point) → HasLabel sides labels k p → IsHeld p
  held p h =
      let below = raster_below sides p h.inside in
      let s = site_for sides (raster_number sides p) axes below in
      let i = o.hold (raster_number sides p) (record { label = h.label; below = below }) in
      record {
        site = s.0;
        is = point_is sides s.0 axes s.1 ∙ ap (raster_point sides) s.2 ∙ raster_point-raster_number sides p h.inside;
        number = s.2;
        within = record {
          site = s.1;
          place = i.0;
          stretch =
              record {
                place = i.1.place;
                low = (let e = s.2 in let l = i.1.low in omega (arith, e, l));
                high =
                    (let e = s.2 in let l = i.1.high in omega (arith, e, l));
              };
        };
      }

  pub some_stretch : (p : Point) → HasLabel sides labels k p → 1 ≤ length ss
  some_stretch p h = (let i = (held p h).within.stretch.place in omega (arith, i))

  -- the site of an end is a point of the object
  end_labelled : (p : Site) → IsEnd sides ss p → HasLabel sides labels k (point_of (length sides) p)
  end_labelled p e =
      let is = point_is sides p axes e.site in
      let label : get_or labels p.number 0 ≡ k = elim e.one [
        | inl f ↦ ap (λ n. get_or labels n 0) f ∙ (o.first e.place e.within).label
        | inr f ↦ ap (λ n. get_or labels n 0) f ∙ (o.last e.place e.within).label
      ] in
      subst (HasLabel sides labels k) (sym is) (record {
        inside = raster_point_in sides p.number e.site.below;
        label = ap (λ n. get_or labels n 0) (raster_number-raster_point sides p.number e.site.below) ∙ label;
      })

  number_of : (p : Site) → IsSiteOf sides p → raster_number sides (point_of (length sides) p) ≡ p.number
  number_of p h = ap (raster_number sides) (point_is sides p axes h) ∙ raster_number-raster_point sides p.number h.below

  between : (s : Spacing) (p q : Point) (a : IsHeld p) (b : IsHeld q) → spaced_distance s p q ≡ square_between s a.site b.site
  between s p q a b = (λ i. spaced_distance s (sym a.is i) (sym b.is i)) ∙ distance_is sides s a.site b.site axes a.within.site b.within.site

  pub feret_is : (s : Spacing) (f : Feret) → IsFarthest s (IsEnd sides ss) (IsWithin sides ss) f
      → IsFeret (spaced_distance s) sides (HasLabel sides labels k) (feret_told (length sides) f)
  feret_is s f r =
      let from = r.from_in.site in
      let to = r.to_in.site in
      record {
        from_in = end_labelled f.from r.from_in;
        to_in = end_labelled f.to r.to_in;
        distance = r.distance ∙ sym (distance_is sides s f.from f.to axes from to);
        greatest = λ p q a b. (
            let x = held p a in
            let y = held q b in
            let m = r.greatest x.site y.site x.within y.within in
            let e = between s p q x y in
            omega (arith, m, e));
        first = λ p q a b e. (
            let x = held p a in
            let y = held q b in
            let u = r.first x.site y.site x.within y.within (sym (between s p q x y) ∙ e) in
            let n = number_of f.from from in
            let m = x.number in
            omega (arith, u, n, m));
        last = λ q b e. (
            let y = held q b in
            let d : spaced_distance s (point_of (length sides) f.from) q ≡ square_between s f.from y.site =
            ap (spaced_distance s (point_of (length sides) f.from)) (sym y.is) ∙ distance_is sides s f.from y.site axes from y.within.site in
            let u = r.last y.site y.within (sym d ∙ e) in
            let n = number_of f.to to in
            let m = y.number in
            omega (arith, u, n, m));
      }

-- ---- all objects

-- one object more
pub one_found : (s : Spacing) (sides : List ℕ) (all : List Stretches) (n : ℕ) (fs : List Feret) (o : Stretches) (f : Feret) → n < length all
    → o ≡ get_or all n o
    → (1 ≤ length o.all.items → IsFarthest s (IsEnd sides o.all.items) (IsWithin sides o.all.items) f) → HaveFarthest s sides all n fs
    → HaveFarthest s sides all (n + 1) (fs ++ f ∷ [])
one_found s sides all n fs o f within is found h = record {
  count = (let c = h.count in omega (arith, c, length-append fs (f ∷ [])));
  each = λ k p g l some.
      let c = h.count in
      let split : (k ≡ n) ⊎ (k < n) = grind arith in
      elim split [
        | inl e ↦ (
            let same : get_or all k p ≡ o = ap (λ j. get_or all j p) e ∙ get_or_default all n p o within ∙ sym is in
            let items = ap (λ (z : Stretches). z.all.items) same in
            let last : get_or (fs ++ f ∷ []) k g ≡ f = ap (λ j. get_or (fs ++ f ∷ []) j g) (e ∙ sym c) ∙ get_or-append_seam fs f [] g in
            let one = found (let e = ap length items in omega (arith, e, some)) in
            subst (λ (r : List Stretch). IsFarthest s (IsEnd sides r) (IsWithin sides r) (get_or (fs ++ f ∷ []) k g)) (sym items)
            (subst (IsFarthest s (IsEnd sides o.all.items) (IsWithin sides o.all.items)) (sym last) one))
        | inr m ↦ subst (IsFarthest s (IsEnd sides (get_or all k p).all.items) (IsWithin sides (get_or all k p).all.items))
            (sym (get_or-append fs (f ∷ []) g k (omega (arith, m, c)))) (h.each k p g m some)
      ];
}

pub ferets_are : (s : Spacing) (sides labels : List ℕ) (n : ℕ) (all : List Stretches) (fs : List Feret) → HasAxes sides
    → HaveStretches (get_or sides 0 0) labels n (box_count sides) all → HaveFarthest s sides all (length all) fs
    → AreFerets (spaced_distance s) sides labels n (ferets_told (length sides) fs)
ferets_are s sides labels n [] fs axes have far = record { each = λ k d p l has. absurd (let c = have.count in omega (arith, c, l)) }
ferets_are s sides labels n (o ∷ all) [] axes have far = record { each = λ k d p l has. absurd (let c = far.count in omega (arith, c)) }
ferets_are s sides labels n (o ∷ all) (f ∷ fs) axes have far = record {
  each = λ k d p l has.
      let many = have.count in
      let count = far.count in
      let ss = (get_or (o ∷ all) k o).all.items in
      let of = have.each k o l in
      let some = some_stretch sides labels axes (k + 1) ss of p has in
      let found = far.each k o f (omega (arith, many, l)) some in
      let one = feret_is sides labels axes (k + 1) ss of s (get_or (f ∷ fs) k f) found in
      let within : k < length (f ∷ fs) = omega (arith, many, count, l) in
      subst (IsFeret (spaced_distance s) sides (HasLabel sides labels (k + 1))) (sym (get_or-map (feret_told (length sides)) (f ∷ fs) k f d within)) one;
}
