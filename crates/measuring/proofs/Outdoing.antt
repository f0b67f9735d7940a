-- Sites that are outdone: those within a stretch by its ends, and those of a layer by the vertices of its hull.
-- Sites, stretches and hulls; how they are found stands elsewhere.
use Rattle.std.proofs.Common.{◌≡◌, ◌⊎◌, inl, inr, ℕ, ◌+◌, ◌*◌, ◌/◌, ◌<◌, ◌≤◌, List, length, get_or, map, ap, sym, subst, ◌∙◌, refl, arith}
use Rattle.std.proofs.Math.IntN.{ℤ, pos, ◌+ℤ◌, ◌-ℤ◌, ◌*ℤ◌, neg_ℤ}
use lib.Signed.{◌<ℤ◌, ◌≤ℤ◌}
use Rattle.std.specs.Int.{abs_diff}
use Rattle.std.proofs.Math.Nat.{mul-le-mul}
use Rattle.std.proofs.lemmas.Int.{ints}
use Rattle.std.proofs.lemmas.List.{get_or-map, length-map}
use Rattle.shape_terms.proofs.Products.{rings}
use Rattle.measure_terms.specs.Spacing.{Spacing, IsSpacing}
use Rattle.measure_terms.specs.Hulls.{Corner, IsHull, origin, vertex}
use Rattle.measure_terms.specs.Widths.{along}
use Rattle.measure_terms.proofs.Across.{at_least}
use Rattle.measuring.specs.declared.site.Site.{Site}
use Rattle.measuring.specs.declared.stretch.Stretch.{Stretch}
use Rattle.measuring.specs.Corners.{IsOf}
use Rattle.measuring.specs.Sites.{squared_length, square_between, no_site, site_at, IsOneOf, IsOutdone}
use Rattle.measuring.specs.Stretches.{AreStretches}
use Rattle.measuring.specs.Farthest.{IsWithin}
use Rattle.measuring.specs.Layers.{corner_of, AreEnds, AreVerticesPut, IsLayerPut}
use Rattle.measuring.proofs.Gaps.{between}
use Rattle.measuring.proofs.HullsOutdo.{most_of_hull, farther}
use Rattle.measuring.proofs.SiteNumbers.{HasAxes, IsNumbered, numbered, same_line, same_place}

-- ---- squares as whole numbers

square_pos : (side d : ℕ) → pos ((side * d) * (side * d)) ≡ pos (side * side) *ℤ (pos d *ℤ pos d)
square_pos side d = ap pos (regroup side d)
  where
    regroup : (side d : ℕ) → (side * d) * (side * d) ≡ (side * side) * (d * d)
    regroup side d = grind arith

-- the square of a length by the difference of coordinates
length_is : (side a b : ℕ) → pos (squared_length side a b) ≡ pos (side * side) *ℤ ((pos a -ℤ pos b) *ℤ (pos a -ℤ pos b))
length_is side a b =
    let split : (a ≤ b) ⊎ (b ≤ a) = grind arith in
    square_pos side (abs_diff a b) ∙ ap (λ (t : ℤ). pos (side * side) *ℤ t) (elim split [
      | inl l ↦ down (pos (abs_diff a b)) (pos a -ℤ pos b) (omega (arith, ints, l))
      | inr l ↦ up (pos (abs_diff a b)) (pos a -ℤ pos b) (omega (arith, ints, l))
    ])
  where
    down : (d z : ℤ) → z ≡ neg_ℤ d → d *ℤ d ≡ z *ℤ z
    down d z e = twice d ∙ (λ i. sym e i *ℤ sym e i)
      where
        twice : (d : ℤ) → d *ℤ d ≡ neg_ℤ d *ℤ neg_ℤ d
        twice d = omega (arith, ints, rings)

    up : (d z : ℤ) → z ≡ d → d *ℤ d ≡ z *ℤ z
    up d z e = λ i. sym e i *ℤ sym e i

some_square : (side : ℕ) → 1 ≤ side → pos 1 ≤ℤ pos (side * side)
some_square side l = (let m = mul-le-mul l l in omega (arith, ints, m))

-- ---- the site at a vertex is farther

pub outdone_by : (s : Spacing) → IsSpacing s → (p c q : Site) → p.z ≡ c.z → (p.x ≡ c.x → p.y ≡ c.y → ⊥)
    → along (pos (s.x * s.x) *ℤ (pos p.x -ℤ pos q.x)) (pos (s.y * s.y) *ℤ (pos p.y -ℤ pos q.y)) (corner_of p) ≤ℤ along (pos (s.x * s.x) *ℤ (pos p.x -ℤ pos q.x))
    (pos (s.y * s.y) *ℤ (pos p.y -ℤ pos q.y)) (corner_of c)
    → square_between s p q < square_between s c q
outdone_by s is p c q layer other most =
    let w = pos (s.x * s.x) in
    let v = pos (s.y * s.y) in
    let x = pos p.x -ℤ pos q.x in
    let y = pos p.y -ℤ pos q.y in
    let i = pos c.x -ℤ pos p.x in
    let j = pos c.y -ℤ pos p.y in
    let a = some_square s.x is.along_x.least in
    let b = some_square s.y is.along_y.least in
    let h = at_least (w *ℤ x) (v *ℤ y) (corner_of p) (corner_of c) most in
    let less = farther w v x y i j a b h (λ e f. other (omega (arith, ints, e)) (omega (arith, ints, f))) in
    let ex : x +ℤ i ≡ pos c.x -ℤ pos q.x = omega (arith, ints) in
    let ey : y +ℤ j ≡ pos c.y -ℤ pos q.y = omega (arith, ints) in
    let px = length_is s.x p.x q.x in
    let py = length_is s.y p.y q.y in
    let cx = length_is s.x c.x q.x ∙ (λ k. w *ℤ (sym ex k *ℤ sym ex k)) in
    let cy = length_is s.y c.y q.y ∙ (λ k. v *ℤ (sym ey k *ℤ sym ey k)) in
    let z : squared_length s.z p.z q.z ≡ squared_length s.z c.z q.z = ap (λ n. squared_length s.z n q.z) layer in
    total (squared_length s.x p.x q.x) (squared_length s.y p.y q.y) (squared_length s.x c.x q.x) (squared_length s.y c.y q.y) (squared_length s.z p.z q.z)
    (squared_length s.z c.z q.z) _ _ _ _ px py cx cy less z
  where
    total : (a b c d e f : ℕ) (k l m n : ℤ) → pos a ≡ k → pos b ≡ l → pos c ≡ m → pos d ≡ n → (k +ℤ l) <ℤ (m +ℤ n) → e ≡ f → a + b + e < c + d + f
    total a b c d e f k l m n g h i j less z = omega (arith, ints, g, h, i, j, less, z)

-- ---- the sites of a layer

pub corner_at : (layer : List Site) (k : ℕ) → k < length layer → vertex (map corner_of layer) k ≡ corner_of (site_at layer k)
corner_at layer k l = get_or-map corner_of layer k no_site origin l

-- where the site at each vertex is put, each site of the layer is there, or outdone
pub layer_enough : (z : ℕ) (layer : List Site) (round : List Corner) (old new : List Site) → IsHull (IsOf (map corner_of layer)) round
    → ((k : ℕ) → k < length layer → (site_at layer k).z ≡ z)
    → AreVerticesPut layer round (length round) old new → (s : Spacing) → IsSpacing s → (p q : Site) → IsOneOf layer p → IsOneOf new p ⊎ IsOutdone s new p q
layer_enough z layer round old new is flat put s spacing p q here =
    let within = here.within in
    let count = length-map layer corner_of in
    let a = pos (s.x * s.x) *ℤ (pos p.x -ℤ pos q.x) in
    let b = pos (s.y * s.y) *ℤ (pos p.y -ℤ pos q.y) in
    let at : vertex (map corner_of layer) here.place ≡ corner_of p = corner_at layer here.place within ∙ ap corner_of here.is in
    let most = most_of_hull (IsOf (map corner_of layer)) round a b (corner_of p) is
    (record { place = here.place; within = omega (arith, within, count); is = at }) in
    let j = most.place in
    let of = is.of j most.within in
    let ow = of.within in
    let m = of.place in
    let inside : m < length layer = omega (arith, ow, count) in
    let c = site_at layer m in
    let one : IsOneOf layer c = record { place = m; within = inside; is = refl } in
    let vertex_is : corner_of c ≡ vertex round j = sym (corner_at layer m inside) ∙ of.is in
    let there = put.put j most.within c one vertex_is in
    let pz : p.z ≡ z = ap (λ (t : Site). t.z) (sym here.is) ∙ flat here.place within in
    let split : ((p.x ≡ c.x) × (p.y ≡ c.y)) ⊎ (p.x ≡ c.x → p.y ≡ c.y → ⊥) = same_or_not p.x c.x p.y c.y in
    elim split [
      | inl e ↦ inl (put.put j most.within p here ((λ i. record { x = pos (e.0 i); y = pos (e.1 i) }) ∙ vertex_is))
      | inr n ↦ inr (record {
        by = c;
        one = there;
        farther = outdone_by s spacing p c q (pz ∙ sym (flat m inside)) n
            (subst (λ (t : Corner). along a b (corner_of p) ≤ℤ along a b t) (sym vertex_is) most.most);
      })
    ]
  where
    same_or_not : (a b c d : ℕ) → ((a ≡ b) × (c ≡ d)) ⊎ (a ≡ b → c ≡ d → ⊥)
    same_or_not a b c d =
        let x : (a ≡ b) ⊎ (a < b) ⊎ (b < a) = grind arith in
        let y : (c ≡ d) ⊎ (c < d) ⊎ (d < c) = grind arith in
        elim x [
          | inl e ↦ elim y [
            | inl f ↦ inl (e, f)
            | inr g ↦ inr (λ _ f. elim g [ inl l ↦ omega (arith, l, f) | inr l ↦ omega (arith, l, f) ])
          ]
          | inr g ↦ inr (λ e _. elim g [ inl l ↦ omega (arith, l, e) | inr l ↦ omega (arith, l, e) ])
        ]

pub layer_put : (layer : List Site) (round : List Corner) (old new : List Site) → IsHull (IsOf (map corner_of layer)) round
    → ((k : ℕ) → k < length layer → (site_at layer k).z ≡ (site_at layer 0).z)
    → AreVerticesPut layer round (length round) old new → IsLayerPut layer old new
layer_put layer round old new is flat put = record {
  kept = put.kept;
  of = put.of;
  enough = λ s spacing p q here. layer_enough (site_at layer 0).z layer round old new is flat put s spacing p q here;
  layered = put.layered;
  more = (let w = is.once.within in let m = put.many in omega (arith, w, m));
}

-- ---- the sites of a stretch

div_rises : (w m n : ℕ) → m ≤ n → m / w ≤ n / w
div_rises w m n l = grind arith

-- a site of a stretch is one of its ends, or outdone by one of them
pub stretch_enough : (sides : List ℕ) (ss : List Stretch) (ends : List Site) → HasAxes sides → AreStretches (get_or sides 0 0) ss
    → AreEnds sides ss (length ss) ends → (s : Spacing) → IsSpacing s → (p q : Site) → IsWithin sides ss p
    → IsOneOf ends p ⊎ IsOutdone s ends p q
stretch_enough sides ss ends axes order are s spacing p q here =
    let w = get_or sides 0 0 in
    let k = here.place in
    let i = here.stretch in
    let first = are.first k i.place in
    let last = are.last k i.place in
    let f = first.0 in
    let l = last.0 in
    let fs = (are.of f first.1).site in
    let ls = (are.of l last.1).site in
    let low = i.low in
    let high = i.high in
    let line = order.line k i.place in
    let fn = ap (λ n. n / w) first.2 in
    let ln = ap (λ n. n / w) last.2 in
    let a : f.number ≤ p.number = (let e = first.2 in omega (arith, e, low)) in
    let b : p.number ≤ l.number = (let e = last.2 in omega (arith, e, high)) in
    let u = div_rises w f.number p.number a in
    let v = div_rises w p.number l.number b in
    let same_f = same_line sides p f axes here.site fs (omega (arith, u, v, fn, ln, line)) in
    let same_l = same_line sides p l axes here.site ls (omega (arith, u, v, fn, ln, line)) in
    let np = numbered sides p axes here.site in
    let nf = numbered sides f axes fs in
    let nl = numbered sides l axes ls in
    let left : f.x ≤ p.x = columns w (get_or sides 1 0) f p nf np (sym same_f.0) (sym same_f.1) a in
    let right : p.x ≤ l.x = columns w (get_or sides 1 0) p l np nl same_l.0 same_l.1 b in
    elim (between s.x f.x p.x l.x q.x spacing.along_x.least left right).one [
      | inl e ↦ inl (subst (IsOneOf ends) (sym (same_place sides p f axes here.site fs e same_f.0 same_f.1)) first.1)
      | inr t ↦ elim t [
        | inl e ↦ inl (subst (IsOneOf ends) (sym (same_place sides p l axes here.site ls e same_l.0 same_l.1)) last.1)
        | inr o ↦ inr (elim o [
          | inl m ↦ record { by = f; one = first.1; farther = along_row s p f q same_f.0 same_f.1 m }
          | inr m ↦ record { by = l; one = last.1; farther = along_row s p l q same_l.0 same_l.1 m }
        ])
      ]
    ]
  where
    columns : (w h : ℕ) (p q : Site) → IsNumbered w h p → IsNumbered w h q → p.y ≡ q.y → p.z ≡ q.z → p.number ≤ q.number → p.x ≤ q.x
    columns w h p q a b y z l =
        (let m = a.number in let n = b.number in let e : w * (p.y + h * p.z) ≡ w * (q.y + h * q.z) = (λ i. w * (y i + h * z i)) in omega (arith, m, n, e, l))

    along_row : (s : Spacing) (p e q : Site) → p.y ≡ e.y → p.z ≡ e.z → squared_length s.x p.x q.x < squared_length s.x e.x q.x
        → square_between s p q < square_between s e q
    along_row s p e q y z m = (let a = ap (λ n. squared_length s.y n q.y) y in let b = ap (λ n. squared_length s.z n q.z) z in omega (arith, a, b, m))

-- what outdoes one that outdoes another outdoes it too
pub outdone_again : (s : Spacing) (ends sites : List Site) (p q : Site) → IsOneOf ends p ⊎ IsOutdone s ends p q
    → ((e : Site) → IsOneOf ends e → IsOneOf sites e ⊎ IsOutdone s sites e q) → IsOneOf sites p ⊎ IsOutdone s sites p q
outdone_again s ends sites p q h all = elim h [
  | inl o ↦ all p o
  | inr o ↦ elim (all o.by o.one) [
    | inl c ↦ inr (record { by = o.by; one = c; farther = o.farther })
    | inr d ↦ inr (record { by = d.by; one = d.one; farther = (let m = o.farther in let n = d.farther in omega (arith, m, n)) })
  ]
]
