-- Cracks of the program and those of the definitions: each tells the other.
-- Here and nowhere else the fields are taken apart.
use Rattle.std.specs.Prelude.{not, ◌&&◌, ◌==◌}
use Rattle.std.specs.Ordering.{int_eq}
use Rattle.std.proofs.Common.{rules, ◌≡◌, Bool, true, false, cond, refl, ap, sym, ◌∙◌, List, [], ◌∷◌, ◌++◌, length, map}
use Rattle.std.proofs.lemmas.List.{map-append, append-nil}
use Rattle.shape_space.specs.declared.point.P2.{P2}
use Rattle.shape_terms.specs.Points.{Point, coordinate}
use Rattle.shape_terms.specs.Pictures.{Picture}
use Rattle.shape_terms.specs.Contours.{Crack, IsCrack, stays, successor}
use Rattle.shape_terms.proofs.Leaving.{stays_pixel, leaves_pixel}
use Rattle.shape_crack.specs.declared.crack.Crack as Program
use Rattle.shape_crack.specs.Terms.{point_of, crack_of}

pub point_once : (p q : P2) → point_of p ≡ point_of q → p ≡ q
point_once p q e =
    let x : p.x ≡ q.x = ap (λ (l : Point). coordinate l 0) e in
    let y : p.y ≡ q.y = ap (λ (l : Point). coordinate l 1) e in
    λ i. record { y = y i; x = x i }

pub crack_once : (c d : Program.Crack) → crack_of c ≡ crack_of d → c ≡ d
crack_once c d e =
    let p = point_once c.p d.p (ap (λ (x : Crack). x.pixel) e) in
    let s : c.side ≡ d.side = ap (λ (x : Crack). x.side) e in
    λ i. record { p = p i; side = s i }

-- what `!=` of two cracks says
pub cracks_equal : (a b : Program.Crack) (r : Bool) → r ≡ not ((int_eq a.p.y b.p.y && int_eq a.p.x b.p.x) && (a.side == b.side)) → r ≡ false → a ≡ b
cracks_equal a b r e f = search rules

pub cracks_differ : (a b : Program.Crack) (r : Bool) → r ≡ not ((int_eq a.p.y b.p.y && int_eq a.p.x b.p.x) && (a.side == b.side)) → r ≡ true
    → crack_of a ≡ crack_of b → ⊥
cracks_differ a b r e f g = let h = crack_once a b g in differ a b r e f h
  where
    differ : (a b : Program.Crack) (r : Bool) → r ≡ not ((int_eq a.p.y b.p.y && int_eq a.p.x b.p.x) && (a.side == b.side)) → r ≡ true → a ≡ b → ⊥
    differ a b r e f h = search rules

by_stays : (X : Picture) (c : Crack) (b : Bool) → stays X c ≡ b → (l m : List Point) → (b ≡ true → m ≡ l) → (b ≡ false → m ≡ l ++ c.pixel ∷ [])
    → m ≡ l ++ cond (stays X c) [] (c.pixel ∷ [])
by_stays X c true e l m f g = rw e (f refl ∙ sym (append-nil l))
by_stays X c false e l m f g = rw e (g refl)

-- a pixel was put last, since it was left
pub pixel_put : (X : Picture) (p q : P2) (c : Crack) → c.pixel ≡ point_of p → point_of q ≡ (successor X c).pixel → (q ≡ p → ⊥) → (old new : List P2)
    → new ≡ old ++ p ∷ []
    → map point_of new ≡ map point_of old ++ cond (stays X c) [] (c.pixel ∷ [])
pixel_put X p q c is to away old new e =
    by_stays X c (stays X c) refl (map point_of old) (map point_of new)
    (λ s. absurd (away (point_once q p (to ∙ (stays_pixel X c s ∙ is)))))
    (λ s. ap (map point_of) e ∙ (map-append point_of old (p ∷ []) ∙ ap (λ (x : Point). map point_of old ++ x ∷ []) (sym is)))

-- it was not, since it was not left
pub pixel_kept : (X : Picture) → length X.sides ≡ 2 → (p q : P2) (c : Crack) → IsCrack X c → c.pixel ≡ point_of p → point_of q ≡ (successor X c).pixel → q ≡ p
    → (old : List P2)
    → map point_of old ≡ map point_of old ++ cond (stays X c) [] (c.pixel ∷ [])
pixel_kept X axes p q c k is to same old =
    by_stays X c (stays X c) refl (map point_of old) (map point_of old)
    (λ s. refl)
    (λ s. absurd (leaves_pixel X axes c k s (sym to ∙ (ap point_of same ∙ sym is))))
