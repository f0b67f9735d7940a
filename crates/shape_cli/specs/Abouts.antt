-- The pictures that a report may be about.
-- Which kind of report is about which pictures stands in `Further`.
use Rattle.std.specs.Prelude.{⊤}
use Rattle.shape_cli.specs.Sources.{Kind, IsFlat}

-- all pictures and volumes, or flat pictures alone
pub data About : Type 0 where
  Every Flat : About

-- there are such pictures of this kind
abbrev pub IsAbout : About → Kind → Type 0
IsAbout About.Every kind = ⊤
IsAbout About.Flat kind = IsFlat kind
