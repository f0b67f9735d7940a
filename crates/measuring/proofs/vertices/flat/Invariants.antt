use Rattle.std.proofs.Common.{◌≡◌, map, take}
use Rattle.measuring.specs.Corners.{corners}
use Rattle.measuring.specs.Layers.{corner_of}
use Rattle.measuring.proofs.vertices.flat.Given as goal

abbrev pub invariant-loop-site : goal.invariant-loop-site
invariant-loop-site l = corners l.points.items ≡ map corner_of (take l.site-index l.sites)
