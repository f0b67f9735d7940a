-- A segment that the judge took, in the terms of contours.
-- What its line holds stands there.
use Rattle.shape_refute.specs.Terms.{naive_of}
use Rattle.shape_refute.specs.Places.{stretch_of}
use Rattle.report_terms.specs.ContourFacts.{Segment}
use Rattle.judge_outline.specs.declared.segment.Segment.{Segment as Taken}

-- the segment with these places and this line
abbrev pub segment_of : Taken → Segment
segment_of s = record { stretch = stretch_of s.places; axis = s.line.axis; line = naive_of 2 s.line }
