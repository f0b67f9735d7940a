-- The corner paths of cycles, one corner and one path after another.
-- Laws of lists alone.
use Rattle.std.proofs.Common.{◌≡◌, ◌+◌, ℕ, ap, sym, ◌∙◌, List, [], ◌∷◌, ◌++◌, take}
use Rattle.std.specs.Prelude.{Some, slice_get}
use Rattle.std.proofs.lemmas.List.{map_push, map_more, take_more}
use Rattle.std.proofs.lemmas.Option.{slice_get_within, get_or_from_slice_get}
use Rattle.std.specs.declared.vec.Vec.{Vec}
use Rattle.shape_space.specs.declared.point.P2.{P2}
use Rattle.shape_terms.specs.Points.{Point}
use Rattle.edge_terms.specs.EdgeCycles.{EdgeCycle}
use Rattle.drawing.specs.Seen.{flat, flats}
use Rattle.draw_report.specs.Corners.{paths_of}
use Rattle.draw_report.specs.Seen.{all_paths}

-- one more corner
pub corners_more : (path : List Point) (i : ℕ) (p : P2) (before now : List P2) → flats before ≡ take i path → slice_get path i ≡ Some (flat p)
    → now ≡ before ++ p ∷ [] → flats now ≡ take (i + 1) path
corners_more path i p before now h e q =
    ap flats q ∙ map_push flat before p ∙ ap (λ t. t ++ flat p ∷ []) h
    ∙ ap (λ x. take i path ++ x ∷ []) (sym (get_or_from_slice_get path i (flat p) [] e))
    ∙ sym (take_more path i [] (slice_get_within path i (flat p) e))

-- one more path
pub paths_more : {Z : Type 0} (cycles : List EdgeCycle) (k : ℕ) (x : EdgeCycle) (v : Vec P2 Z) (before now : List (Vec P2 Z))
    → all_paths before ≡ paths_of (take k cycles) → slice_get cycles k ≡ Some x → flats v.items ≡ x.path → now ≡ before ++ v ∷ []
    → all_paths now ≡ paths_of (take (k + 1) cycles)
paths_more cycles k x v before now h e f q =
    ap all_paths q ∙ map_push (λ (t : Vec P2 _). flats t.items) before v ∙ ap (λ t. t ++ flats v.items ∷ []) h
    ∙ ap (λ p. paths_of (take k cycles) ++ p ∷ []) (f ∙ ap (λ (c : EdgeCycle). c.path) (sym (get_or_from_slice_get cycles k x x e)))
    ∙ sym (map_more (λ (c : EdgeCycle). c.path) cycles k x (slice_get_within cycles k x e))
