-- Sites of a box: their numbers, lines and layers, and when two are the same.
-- A box of the plane or of space; which axes it has is told by the length of its sides.
use Rattle.std.proofs.Common.{◌≡◌, ◌⊎◌, inl, inr, ℕ, zero, suc, ◌+◌, ◌*◌, ◌/◌, ◌%◌, ◌<◌, ◌≤◌, List, [], ◌∷◌, length, get_or, pos, refl, ap, sym, ◌∙◌, arith}
use Rattle.std.specs.Prelude.{slice_set, nat_abs, take}
use Rattle.std.proofs.lemmas.Int.{ints}
use Rattle.std.proofs.Math.Nat.{mul-le-mul_left}
use Rattle.std.proofs.lemmas.List.{length-map}
use Rattle.shape_terms.specs.Points.{Point, box_count, coordinate, raster_number, raster_point, sides_of}
use Rattle.shape_terms.proofs.Boxes.{raster_number-raster_point, some_side}
use Rattle.measuring.specs.declared.site.Site.{Site}
use Rattle.measuring.specs.Sites.{IsSiteOf}
use Rattle.measuring.specs.FeretsTold.{point_of}
use Rattle.measuring.specs.Layers.{IsBeside}
use Rattle.measure_terms.specs.Hulls.{Corner}

-- the box has two axes or three
pub record HasAxes (sides : List ℕ) : Type 0 where
  pub two_or_three : (length sides ≡ 2) ⊎ (length sides ≡ 3)

same_pos : (m n : ℕ) → pos m ≡ pos n → m ≡ n
same_pos m n e = omega (arith, ints, e)

-- ---- the point of a site

pub point_is : (sides : List ℕ) (s : Site) → HasAxes sides → IsSiteOf sides s → point_of (length sides) s ≡ raster_point sides s.number
point_is [] s a h = absurd (elim a.two_or_three [ inl e ↦ omega (arith, e) | inr e ↦ omega (arith, e) ])
point_is (w ∷ []) s a h = absurd (elim a.two_or_three [ inl e ↦ omega (arith, e) | inr e ↦ omega (arith, e) ])
point_is (w ∷ h ∷ []) s a i = (let x = sym i.x in let y = sym i.y in λ j. x j ∷ y j ∷ [])
point_is (w ∷ h ∷ d ∷ []) s a i = (let x = sym i.x in let y = sym i.y in let z = sym i.z in λ j. x j ∷ y j ∷ z j ∷ [])
point_is (w ∷ h ∷ d ∷ e ∷ sides) s a i = absurd (elim a.two_or_three [ inl f ↦ omega (arith, f) | inr f ↦ omega (arith, f) ])

-- there is a site for each number
pub site_for : (sides : List ℕ) (n : ℕ) → HasAxes sides → n < box_count sides → (s : Site) × IsSiteOf sides s × (s.number ≡ n)
site_for [] n a l = absurd (elim a.two_or_three [ inl e ↦ omega (arith, e) | inr e ↦ omega (arith, e) ])
site_for (w ∷ []) n a l = absurd (elim a.two_or_three [ inl e ↦ omega (arith, e) | inr e ↦ omega (arith, e) ])
site_for (w ∷ h ∷ []) n a l = (record { number = n; x = n % w; y = n / w % h; z = 0 }, record { below = l; x = refl; y = refl; z = refl }, refl)
site_for (w ∷ h ∷ d ∷ []) n a l = (record { number = n; x = n % w; y = n / w % h; z = n / w / h % d }, record { below = l; x = refl; y = refl; z = refl }, refl)
site_for (w ∷ h ∷ d ∷ e ∷ sides) n a l = absurd (elim a.two_or_three [ inl f ↦ omega (arith, f) | inr f ↦ omega (arith, f) ])

-- ---- two sites

pub same_number : (sides : List ℕ) (p q : Site) → IsSiteOf sides p → IsSiteOf sides q → p.number ≡ q.number → p ≡ q
same_number sides p q h k e =
    let x = same_pos p.x q.x (sym h.x ∙ ap (λ n. coordinate (raster_point sides n) 0) e ∙ k.x) in
    let y = same_pos p.y q.y (sym h.y ∙ ap (λ n. coordinate (raster_point sides n) 1) e ∙ k.y) in
    let z = same_pos p.z q.z (sym h.z ∙ ap (λ n. coordinate (raster_point sides n) 2) e ∙ k.z) in
    λ i. record { number = e i; x = x i; y = y i; z = z i }

pub same_place : (sides : List ℕ) (p q : Site) → HasAxes sides → IsSiteOf sides p → IsSiteOf sides q → p.x ≡ q.x → p.y ≡ q.y → p.z ≡ q.z → p ≡ q
same_place sides p q a h k x y z =
    let point : point_of (length sides) p ≡ point_of (length sides) q = λ i. take (length sides) (pos (x i) ∷ pos (y i) ∷ pos (z i) ∷ []) in
    let same : raster_point sides p.number ≡ raster_point sides q.number = sym (point_is sides p a h) ∙ point ∙ point_is sides q a k in
    same_number sides p q h k
    (sym (raster_number-raster_point sides p.number h.below) ∙ ap (raster_number sides) same ∙ raster_number-raster_point sides q.number k.below)

-- two in one line
pub same_line : (sides : List ℕ) (p q : Site) → HasAxes sides → IsSiteOf sides p → IsSiteOf sides q → p.number / get_or sides 0 0 ≡ q.number / get_or sides 0 0
    → (p.y ≡ q.y) × (p.z ≡ q.z)
same_line [] p q a h k e = absurd (elim a.two_or_three [ inl e ↦ omega (arith, e) | inr e ↦ omega (arith, e) ])
same_line (w ∷ sides) p q a h k e = (
  same_pos p.y q.y (sym h.y ∙ ap (λ n. coordinate (raster_point sides n) 0) e ∙ k.y),
  same_pos p.z q.z (sym h.z ∙ ap (λ n. coordinate (raster_point sides n) 1) e ∙ k.z),
)

-- ---- numbers

-- the number of a site by its coordinates, in a box whose lines have w points and whose layers have h lines
pub record IsNumbered (w h : ℕ) (s : Site) : Type 0 where
  pub number : s.number ≡ s.x + w * (s.y + h * s.z)
  pub x : s.x < w
  pub y : s.y < h

below_side : (n w m : ℕ) → n < w * m → n % w < w
below_side n w m l = (let s = some_side w m n l in omega (arith, s))

pub numbered : (sides : List ℕ) (s : Site) → HasAxes sides → IsSiteOf sides s → IsNumbered (get_or sides 0 0) (get_or sides 1 0) s
numbered [] s a h = absurd (elim a.two_or_three [ inl e ↦ omega (arith, e) | inr e ↦ omega (arith, e) ])
numbered (w ∷ []) s a h = absurd (elim a.two_or_three [ inl e ↦ omega (arith, e) | inr e ↦ omega (arith, e) ])
numbered (w ∷ h ∷ []) s a i =
    let x = same_pos (s.number % w) s.x i.x in
    let y = same_pos (s.number / w % h) s.y i.y in
    let z = same_pos 0 s.z i.z in
    let n = raster_number-raster_point (w ∷ h ∷ []) s.number i.below in
    let below = i.below in
    let wide = some_side w (h * 1) s.number below in
    let high = lines s.number w h wide (omega (arith, below)) in
    record {
      number = plane s.number w h (s.number % w) (s.number / w % h) s.x s.y s.z n x y z;
      x = (let l = below_side s.number w (h * 1) below in omega (arith, l, x));
      y = (let m = some_line (s.number / w) h high in omega (arith, m, y));
    }
  where
    lines : (n w h : ℕ) → 0 < w → n < w * h → n / w < h
    lines n w h s l = (
        let c : (n / w < h) ⊎ (h ≤ n / w) = grind arith in
        elim c [ inl m ↦ m | inr m ↦ absurd (let k = mul-le-mul_left w m in omega (arith, k, l, s)) ])

    some_line : (m h : ℕ) → m < h → m % h < h
    some_line m h l = (let s : 0 < h = omega (arith, l) in omega (arith, s))

    plane : (n w h a b x y z : ℕ) → raster_number (w ∷ h ∷ []) (pos a ∷ pos b ∷ []) ≡ n → a ≡ x → b ≡ y → 0 ≡ z → n ≡ x + w * (y + h * z)
    plane n w h a b x y z e f g k = sym e ∙ (λ i. f i + w * (g i + h * k i))
numbered (w ∷ h ∷ d ∷ []) s a i =
    let x = same_pos (s.number % w) s.x i.x in
    let y = same_pos (s.number / w % h) s.y i.y in
    let z = same_pos (s.number / w / h % d) s.z i.z in
    let n = raster_number-raster_point (w ∷ h ∷ d ∷ []) s.number i.below in
    let below = i.below in
    let wide = some_side w (h * (d * 1)) s.number below in
    let high = lines s.number w (h * (d * 1)) wide below in
    record {
      number = space s.number w h d (s.number % w) (s.number / w % h) (s.number / w / h % d) s.x s.y s.z n x y z;
      x = (let l = below_side s.number w (h * (d * 1)) below in omega (arith, l, x));
      y = (let m = below_side (s.number / w) h (d * 1) high in omega (arith, m, y));
    }
  where
    lines : (n w m : ℕ) → 0 < w → n < w * m → n / w < m
    lines n w m s l = (
        let c : (n / w < m) ⊎ (m ≤ n / w) = grind arith in
        elim c [ inl k ↦ k | inr k ↦ absurd (let r = mul-le-mul_left w k in omega (arith, r, l, s)) ])

    space : (n w h d a b c x y z : ℕ) → raster_number (w ∷ h ∷ d ∷ []) (pos a ∷ pos b ∷ pos c ∷ []) ≡ n → a ≡ x → b ≡ y → c ≡ z → n ≡ x + w * (y + h * z)
    space n w h d a b c x y z e f g k = sym e ∙ last a w b h c d ∙ (λ i. f i + w * (g i + h * k i))
      where
        last : (a w b h c d : ℕ) → raster_number (w ∷ h ∷ d ∷ []) (pos a ∷ pos b ∷ pos c ∷ []) ≡ a + w * (b + h * c)
        last a w b h c d = grind arith
numbered (w ∷ h ∷ d ∷ e ∷ sides) s a i = absurd (elim a.two_or_three [ inl f ↦ omega (arith, f) | inr f ↦ omega (arith, f) ])

-- two numbers of digits in order
digits : (w x l y m : ℕ) → x < w → y < w → x + w * l ≤ y + w * m → (l ≤ m) × (l ≡ m → x ≤ y)
digits w x l y m a b h =
    let split : (l ≤ m) ⊎ (m + 1 ≤ l) = grind arith in
    elim split [
      | inl s ↦ (s, λ e. (let f = ap (λ t. w * t) e in omega (arith, h, f)))
      | inr s ↦ absurd (let f = mul-le-mul_left w s in omega (arith, h, f, a, b))
    ]

-- sites in the order of their numbers
pub record IsBehind (p q : Site) : Type 0 where
  pub layer : p.z ≤ q.z
  pub line : p.z ≡ q.z → p.y ≤ q.y
  pub column : p.z ≡ q.z → p.y ≡ q.y → p.x ≤ q.x

pub behind_by_number : (w h : ℕ) (p q : Site) → IsNumbered w h p → IsNumbered w h q → p.number ≤ q.number → IsBehind p q
behind_by_number w h p q a b l =
    let m = a.number in
    let n = b.number in
    let first = digits w p.x (p.y + h * p.z) q.x (q.y + h * q.z) a.x b.x (omega (arith, l, m, n)) in
    let second = digits h p.y p.z q.y q.z a.y b.y first.0 in
    record {
      layer = second.0;
      line = second.1;
      column = λ e f. first.1 (λ i. f i + h * e i);
    }

-- ---- a site at other coordinates of its layer

pub beside_point : (sides : List ℕ) (s q : Site) (c : Corner) → HasAxes sides → IsSiteOf sides s → IsBeside sides s c q
    → slice_set (slice_set (raster_point sides s.number) 0 c.x) 1 c.y ≡ raster_point sides q.number
beside_point [] s q c a h k = absurd (elim a.two_or_three [ inl e ↦ omega (arith, e) | inr e ↦ omega (arith, e) ])
beside_point (w ∷ []) s q c a h k = absurd (elim a.two_or_three [ inl e ↦ omega (arith, e) | inr e ↦ omega (arith, e) ])
beside_point (w ∷ h ∷ []) s q c a i k =
    let x : c.x ≡ pos (q.number % w) = ap (λ (t : Corner). t.x) (sym k.corner) ∙ sym k.is.x in
    let y : c.y ≡ pos (q.number / w % h) = ap (λ (t : Corner). t.y) (sym k.corner) ∙ sym k.is.y in
    λ j. x j ∷ y j ∷ []
beside_point (w ∷ h ∷ d ∷ []) s q c a i k =
    let x : c.x ≡ pos (q.number % w) = ap (λ (t : Corner). t.x) (sym k.corner) ∙ sym k.is.x in
    let y : c.y ≡ pos (q.number / w % h) = ap (λ (t : Corner). t.y) (sym k.corner) ∙ sym k.is.y in
    let z : pos (s.number / w / h % d) ≡ pos (q.number / w / h % d) = i.z ∙ ap pos (sym k.layer) ∙ sym k.is.z in
    λ j. x j ∷ y j ∷ z j ∷ []
beside_point (w ∷ h ∷ d ∷ e ∷ sides) s q c a i k = absurd (elim a.two_or_three [ inl f ↦ omega (arith, f) | inr f ↦ omega (arith, f) ])

pub beside_once : (sides : List ℕ) (s p q : Site) (c : Corner) → HasAxes sides → IsBeside sides s c q → IsSiteOf sides p
    → raster_point sides p.number ≡ raster_point sides q.number → p ≡ q
beside_once sides s p q c a k h e =
    same_number sides p q h k.is
    (sym (raster_number-raster_point sides p.number h.below) ∙ ap (raster_number sides) e ∙ raster_number-raster_point sides q.number k.is.below)

-- ---- as the program finds them

pub first_side : (ns : Point) → nat_abs (coordinate ns 0) ≡ get_or (sides_of ns) 0 0
first_side [] = refl
first_side (n ∷ ns) = refl

pub axes_of : {d : ℕ} (ns : Point) → (d ≡ 2) ⊎ (d ≡ 3) → length ns ≡ d → HasAxes (sides_of ns)
axes_of {d} ns two_or_three many =
    (let e = length-map ns nat_abs in record { two_or_three = elim two_or_three [ inl f ↦ inl (e ∙ many ∙ f) | inr f ↦ inr (e ∙ many ∙ f) ] })

-- a coordinate of a point of the box is a natural
natural_at : (sides : List ℕ) (i k : ℕ) → pos (nat_abs (coordinate (raster_point sides i) k)) ≡ coordinate (raster_point sides i) k
natural_at [] i k = refl
natural_at (w ∷ sides) i zero = refl
natural_at (w ∷ sides) i (suc k) = natural_at sides (i / w) k

pub site_by_places : (sides : List ℕ) (s : Site) (p : Point) → HasAxes sides → s.number < box_count sides → p ≡ raster_point sides s.number
    → s.x ≡ nat_abs (coordinate p 0) → s.y ≡ nat_abs (coordinate p 1) → s.z ≡ nat_abs (coordinate p 2) → IsSiteOf sides s
site_by_places sides s p a l e x y z = record {
  below = l;
  x = sym (natural_at sides s.number 0) ∙ ap (λ (q : Point). pos (nat_abs (coordinate q 0))) (sym e) ∙ ap pos (sym x);
  y = sym (natural_at sides s.number 1) ∙ ap (λ (q : Point). pos (nat_abs (coordinate q 1))) (sym e) ∙ ap pos (sym y);
  z = sym (natural_at sides s.number 2) ∙ ap (λ (q : Point). pos (nat_abs (coordinate q 2))) (sym e) ∙ ap pos (sym z);
}
