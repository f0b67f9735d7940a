-- A near neighbour of a point of a patch, where it is tried and where not.
-- What trying it does to the patch stands elsewhere.
use Rattle.std.proofs.Common.{◌≡◌, ℕ, inl, inr, Bool, true, false, ◌&&◌, [], refl, ap, sym, ◌∙◌}
use Rattle.std.specs.Prelude.{not}
use Rattle.std.proofs.lemmas.List.{append-nil}
use Rattle.shape_terms.specs.Points.{Point}
use Rattle.shape_terms.specs.Pictures.{Picture}
use Rattle.shape_plane.specs.Trials.{Spread, IsTried, IsLater}

-- where a point is not in the one picture and not in the other, it is settled
pub closed : (a b r : Bool) → r ≡ (a && not b) → r ≡ false → a ≡ true → b ≡ true
closed a true r e f h = refl
closed true false r e f h = cc
closed false false r e f h = cc

pub later_same : (s : Spread) → IsLater s s
later_same s = record { settled = λ q h. h; more = []; points = sym (append-nil s.points) }

pub same_sides : (d t : ℕ) (s s' : Spread) (q : Point) → s.left.sides ≡ s.tried.sides → IsTried d t s q s' → s'.left.sides ≡ s'.tried.sides
same_sides d t s s' q e (inl x) = ap (λ (L : Picture). L.sides) x.left ∙ e ∙ sym (ap (λ (L : Picture). L.sides) x.tried)
same_sides d t s s' q e (inr x) = ap (λ (L : Picture). L.sides) x.left ∙ e ∙ sym (ap (λ (L : Picture). L.sides) x.tried)
