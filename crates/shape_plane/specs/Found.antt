-- A patch as it is kept: its points, its plane, and what it refused while it grew.
-- How it grew belongs elsewhere.
use Rattle.std.specs.Prelude.{ℕ, ◌<◌, ◌^◌, List, map, length, All}
use Rattle.shape_terms.specs.Points.{Point}
use Rattle.shape_terms.specs.Refutations.{Refutation}
use Rattle.shape_terms.specs.Patches.{RefusedPoint, FoundPatch}
use Rattle.shape_refute.specs.declared.naive.Naive.{Naive}
use Rattle.shape_refute.specs.Terms.{naive_of}
use Rattle.shape_plane.specs.Pairs.{AreSmallWeights}
use Rattle.shape_plane.specs.Verdicts.{IsHeld}
use Rattle.shape_plane.specs.ToldAnew.{told_anew}
use Rattle.shape_plane.specs.Trials.{Refusal}

-- a point with weights
abbrev pub refused_point : Point → Refutation → RefusedPoint
refused_point p why = record { point = p; why = why }

-- a refusal as it is told once the patch has n points
abbrev pub told_point : ℕ → Refusal → RefusedPoint
told_point n r = refused_point r.point (told_anew r.count n r.why)

-- the patch with its refused points
abbrev pub found_patch : ℕ → List Point → Naive → List Refusal → FoundPatch
found_patch d points plane refused = record { patch = record { points = points; plane = naive_of d plane }; refused = map (told_point (length points)) refused }

-- a patch with its refused points, and the axis of its face
pub record AxisPatch : Type 0 where
  pub axis : ℕ
  pub found : FoundPatch

-- the plane is a proper one of the axis and holds the points, and the weights are small
pub record IsFound (d axis : ℕ) (points : List Point) (plane : Naive) (refused : List Refusal) : Type 0 where
  pub held : IsHeld d axis points plane
  pub few : length refused < 2 ^ 32
  pub small : All (λ (r : Refusal). AreSmallWeights r.why) refused
