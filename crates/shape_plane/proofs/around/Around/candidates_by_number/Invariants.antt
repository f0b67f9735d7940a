use Rattle.shape_plane.specs.Surroundings.{AreCandidates}
use Rattle.shape_plane.proofs.around.Around.candidates_by_number.Given as goal

abbrev pub invariant-loop-n : goal.invariant-loop-n
invariant-loop-n g l = AreCandidates l.n l.left (g.P.Point.coords l.self.point) l.found
