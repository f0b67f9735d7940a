-- What the definition of a picture's contours says of their list: it is determined, and each contour begins with a crack.
-- Laws over cycles of cracks; how contours are traced stands elsewhere.
use Rattle.std.proofs.Common.{◌≡◌, ◌<◌, ap, sym, ◌∙◌, subst, arith, refl, List, [], ◌∷◌, map}
use Rattle.std.specs.Prelude.{All, Contains, flat_map}
use Rattle.std.proofs.lemmas.List.Elements.{All-nil, All-cons, All-head, All-tail, Contains-append_right}
use Rattle.shape_terms.specs.Pictures.{Picture}
use Rattle.shape_terms.specs.Contours.{Crack, IsCrack, IsCycle}
use Rattle.shape_terms.specs.Traces.{Contour, AreContours, contour_of}
use Rattle.shape_terms.proofs.SameCycles.{cycles_same}

-- a picture has one list of contours
pub contours_same : (X : Picture) (a b : List Contour) → AreContours X a → AreContours X b → a ≡ b
contours_same X a b h k = h.contours_are ∙ ap (map (contour_of X)) (cycles_same X h.cycles k.cycles h.are k.are) ∙ sym k.contours_are

-- each contour begins with a crack of the picture
pub contour_starts : (X : Picture) (contours : List Contour) → AreContours X contours → All (λ c. c.start.side < 4) contours
contour_starts X contours are = subst (All (λ c. c.start.side < 4)) (sym are.contours_are) (starts are.cycles are.are.cycle (λ c i. (are.are.each c).1 i))
  where
    starts : (cycles : List (List Crack)) → All (IsCycle X) cycles → ((c : Crack) → Contains (flat_map (λ x. x) cycles) c → IsCrack X c)
        → All (λ c. c.start.side < 4) (map (contour_of X) cycles)
    starts [] a each = All-nil (λ c. c.start.side < 4)
    starts ([] ∷ cycles) a each = absurd (All-head (IsCycle X) [] cycles a)
    starts ((c ∷ cracks) ∷ cycles) a each =
        All-cons (λ c. c.start.side < 4) (contour_of X (c ∷ cracks)) (map (contour_of X) cycles)
        (each c (0, omega arith, refl)).side
        (starts cycles (All-tail (IsCycle X) (c ∷ cracks) cycles a) (λ d i. each d (Contains-append_right (c ∷ cracks) (flat_map (λ x. x) cycles) d i)))
