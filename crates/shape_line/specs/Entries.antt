-- The program's stretches as the terms of covers.
-- How they are kept belongs elsewhere.
use Rattle.shape_terms.specs.Covers.{Stretch as Term}
use Rattle.shape_refute.specs.Terms.{naive_of}
use Rattle.shape_line.specs.declared.stretch.Stretch.{Stretch}
use Rattle.shape_line.specs.declared.entry.Entry.{Entry}
use Rattle.shape_line.specs.Found.{Found}
use Rattle.shape_line.specs.Evidence.{evidence_behind}
use Rattle.shape_line.specs.SegmentTerms.{points_of}

-- the places alone
abbrev pub stretch_of : Stretch → Term
stretch_of s = record { first = s.first; last = s.last }

-- what an entry tells
abbrev pub found_of : Entry → Found
found_of e = record {
  stretch = stretch_of e.stretch;
  axis = e.stretch.line.axis;
  line = naive_of 2 e.stretch.line;
  grown = points_of e.grown;
  x =
      evidence_behind e.bend.x e.bend.last;
  y = evidence_behind e.bend.y e.bend.last;
}
