-- The paths that are kept of an analysis: one more point of the last, and the path at a place.
-- Laws of lists alone.
use Rattle.std.proofs.Common.{◌≡◌, ◌≤◌, ◌+◌, ℕ, zero, suc, ap, sym, ◌∙◌, arith, List, [], ◌∷◌, ◌++◌, length, get_or, set}
use Rattle.std.proofs.lemmas.List.{map_push, get_or-map}
use Rattle.std.specs.declared.vec.Vec.{Vec}
use Rattle.shape_space.specs.declared.point.P2.{P2}
use Rattle.drawing.specs.Seen.{flat, flats}
use Rattle.draw_report.specs.Contours.{with_point}
use Rattle.draw_report.specs.Going.{path_before}
use Rattle.draw_report.specs.Seen.{all_paths}

-- the last path with one more point
pub point_added : {Z : Type 0} (vs : List (Vec P2 Z)) (k : ℕ) (old new : Vec P2 Z) (p : P2) → length vs ≡ k + 1 → old ≡ get_or vs k old
    → new.items ≡ old.items ++ p ∷ [] → all_paths (set vs k new) ≡ with_point (all_paths vs) (flat p)
point_added [] k old new p n o e = absurd (omega (arith, n))
point_added (v ∷ []) zero old new p n o e = ap (λ ps. flats ps ∷ []) (e ∙ ap (λ (t : Vec P2 _). t.items ++ p ∷ []) o)
    ∙ ap (λ ps. ps ∷ []) (map_push flat v.items p)
point_added (v ∷ []) (suc k) old new p n o e = absurd (omega (arith, n))
point_added (v ∷ w ∷ vs) zero old new p n o e = absurd (omega (arith, n))
point_added (v ∷ w ∷ vs) (suc k) old new p n o e = ap (λ ps. flats v.items ∷ ps) (point_added (w ∷ vs) k old new p (omega (arith, n)) o e)

-- the path of the last of some borders
pub path_found : {Z : Type 0} (vs : List (Vec P2 Z)) (n k : ℕ) (v : Vec P2 Z) → k + 1 ≡ n → n ≤ length vs → v ≡ get_or vs k v
    → flats v.items ≡ path_before (all_paths vs) n
path_found vs zero k v s l e = absurd (omega (arith, s))
path_found vs (suc n) k v s l e =
    let z : k ≡ n = omega (arith, s) in
    ap (λ (t : Vec P2 _). flats t.items) e ∙ sym (get_or-map (λ (t : Vec P2 _). flats t.items) vs k v [] (omega (arith, s, l)))
    ∙ ap (λ i. get_or (all_paths vs) i []) z
