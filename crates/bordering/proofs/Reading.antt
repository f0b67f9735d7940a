-- Reading points at their places.
-- Lists alone; the program stands in none.
use Rattle.std.proofs.Common.{◌≡◌, ◌∙◌, ap, sym, ℕ, ◌+◌, ◌%◌, ◌<◌, List, [], length, get_or}
use Rattle.std.proofs.lemmas.List.{get_or-map, length-map}
use Rattle.std.proofs.Math.Nat.{mod-lt}
use Rattle.shape_space.specs.declared.point.P2.{P2}
use Rattle.shape_terms.specs.Refutations.{point_at}
use Rattle.bordering.specs.Told.{flat, flats}

-- the coordinates of the point at a place
pub point_read : (ps : List P2) (i : ℕ) (d : P2) → i < length ps → flat (get_or ps i d) ≡ point_at (flats ps) i
point_read ps i d h = sym (get_or-map flat ps i d [] h)

-- and those of the point at the next place, round and round
pub next_read : (ps : List P2) (i : ℕ) (d : P2) → 0 < length ps → flat (get_or ps ((i + 1) % length ps) d) ≡ point_at (flats ps) ((i + 1) % length (flats ps))
next_read ps i d some =
    let h : (i + 1) % length ps < length ps = mod-lt (i + 1) some in
    point_read ps ((i + 1) % length ps) d h ∙ ap (λ n. point_at (flats ps) ((i + 1) % n)) (sym (length-map ps flat))
