-- What a report says of a picture, in geometry alone.
-- No line, spelling or judge stands in what is shown, only in how it is read off the lines.
use Rattle.std.specs.Prelude.{◌≡◌, ℕ, List, [], ◌∷◌, length, map, filter_map, take, slice_get, Option, Some, None, pos, All}
use Rattle.shape_terms.specs.Points.{Point}
use Rattle.shape_terms.specs.Pictures.{Picture}
use Rattle.shape_terms.specs.Parts.{Counts}
use Rattle.shape_terms.specs.Distances.{NearFact, IsField}
use Rattle.shape_terms.specs.Contours.{Crack}
use Rattle.shape_terms.specs.Traces.{Contour}
use Rattle.shape_terms.specs.Patches.{Sense}
use Rattle.shape_terms.specs.Simple.{IsSimple}
use Rattle.shape_terms.specs.Thinning.{Rule, Event, Stage, ThinsTo, IsThinning}
use Rattle.report_terms.specs.ContourFacts.{ContourFact, in_pairs, ContoursShow}
use Rattle.report_terms.specs.FaceFacts.{PatchFact, FaceFact, FacesShow}
use Rattle.report_terms.specs.Lines.{Line, Heading, text_of, IsLineOf}
use Rattle.report_terms.specs.ContourLines.{contour_groups, point_of, segment_of, pairs_of, gap_of}
use Rattle.report_terms.specs.FaceLines.{face_groups, patch_groups, on_point, off_point, plane_of}
use Rattle.report_terms.specs.ThinningLines.{PartsFact, events_of, kept_facts}
use Rattle.report_terms.specs.Subjects.{Subject}
use Rattle.report_terms.specs.Sections.{Section, lines_of, number_of, NamesRule}

-- what a `parts` line says of the picture
abbrev pub parts_fact : Line → Option PartsFact
parts_fact (Line.Parts n o b) = Some (record { points = n; object = o; background = b })
parts_fact _ = None

-- what a `near` line says of one object point
abbrev pub near_fact : Line → Option NearFact
near_fact (Line.Near p q s) = Some (record { p = p; q = q; s = s })
near_fact _ = None

-- the crack that a group of lines gives first
abbrev pub start_of : List Line → Crack
start_of (Line.Contour p side _ _ ∷ _) = record { pixel = p; side = side }
start_of _ = record { pixel = []; side = 0 }

-- what the lines of a contour say of its outline: its first crack, and its points in order
abbrev pub outline_of : List Line → Contour
outline_of lines = record { start = start_of lines; points = filter_map point_of lines }

-- and of its cover: its segments in order, the evidence that their lines are least, and how the gap after each is refused
abbrev pub contour_fact : List Line → ContourFact
contour_fact lines = record {
  outline = outline_of lines;
  segments = filter_map segment_of lines;
  evidence = filter_map pairs_of lines;
  gaps =
      in_pairs (filter_map gap_of lines);
}

-- what the lines of a patch say of it: its points with its plane, and the points that it refused
abbrev pub patch_fact : List Line → PatchFact
patch_fact lines = record { patch = record { points = filter_map on_point lines; plane = plane_of lines }; refused = filter_map off_point lines }

-- what the lines of a face say of it: its axis and its sense, and its patches in order
abbrev pub face_fact : List Line → FaceFact
face_fact (Line.Face t sense n ∷ lines) = record { axis = t; sense = sense; patches = map patch_fact (patch_groups lines) }
face_fact _ = record { axis = 0; sense = Sense.Down; patches = [] }

-- the report's content: its number, and what its lines say, section by section
pub record Content : Type 0 where
  pub number : ℕ
  pub parts : List PartsFact
  pub nears : List NearFact
  pub contours : List ContourFact
  pub faces : List FaceFact
  pub events : List Event
  pub kept : List PartsFact

abbrev pub content_of : List Line → Content
content_of lines = record {
  number = number_of (lines_of Section.Heading lines);
  parts = filter_map parts_fact lines;
  nears = filter_map near_fact lines;
  contours = map contour_fact (contour_groups (lines_of Section.Contours lines));
  faces = map face_fact (face_groups (lines_of Section.Faces lines));
  events = events_of lines;
  kept = kept_facts lines;
}

-- the counts of the picture, said once
pub record ShowsParts (X : Picture) (facts : List PartsFact) : Type 0 where
  pub fact : PartsFact
  pub once : facts ≡ fact ∷ []
  pub counts : Counts X fact.points fact.object fact.background

-- the point is simple in what is left of the picture after these events
abbrev pub IsSimpleThen : Rule → Picture → List Event → Point → Type 0
IsSimpleThen rule X events p = (s : Stage) × ThinsTo rule X events s × IsSimple s.left p

-- the events are those of the ordered thinning by the rule: each deleted point was simple when it was deleted, and no unmarked simple point is left.
-- The points left and their components are counted, said once
pub record ThinningShows (X : Picture) (rule : Rule) (events : List Event) (kept : List PartsFact) : Type 0 where
  pub stage : Stage
  pub thinning : IsThinning rule X events stage
  pub simple : (k : ℕ) (p : Point) → slice_get events k ≡ Some (Event.Del p) → IsSimpleThen rule X (take k events) p
  pub left : PartsFact
  pub once : kept ≡ left ∷ []
  pub counts : Counts stage.left left.points left.object left.background

-- two counts tell the same numbers of components, of object and of background
abbrev pub TellSameParts : PartsFact → PartsFact → Type 0
TellSameParts a b = (a.object ≡ b.object) × (a.background ≡ b.background)

-- the counts of the picture; each object point once, in raster order, with a nearest background point of the whole space; the contours of a flat picture, each
-- from its least crack and with its points and its cover, of lines that are least where the number is 2; the six faces of a volume, each with its partition
-- into patches; and the thinning by the rule, of which as many components are left as the picture has
pub record Shows (X : Picture) (rule : Rule) (content : Content) : Type 0 where
  pub parts : ShowsParts X content.parts
  pub nears : IsField X content.nears
  pub contours : length X.sides ≡ 2 → ContoursShow content.number X content.contours
  pub faces : length X.sides ≡ 3 → FacesShow X content.faces
  pub thinning : ThinningShows X rule content.events content.kept
  pub same : TellSameParts thinning.left parts.fact

-- the first of the lines is the heading, which gives the sides of the picture and this number
pub record BeginsWithHeading (X : Picture) (lines : List Line) (number : ℕ) : Type 0 where
  pub heading : Heading
  pub rest : List Line
  pub first : lines ≡ Line.Shape heading ∷ rest
  pub sides : heading.sides ≡ map pos X.sides
  pub number_is : heading.number ≡ number

-- the text is made of lines, of which the first is the heading with the picture's sides and the number, that show of the picture what they say, and of its
-- thinning by the rule that they name
pub record TextShows (X : Subject) (text : List ℕ) : Type 0 where
  pub lines : List Line
  pub fields : All (IsLineOf (length X.picture.sides)) lines
  pub text_is : text ≡ text_of lines
  pub begins : BeginsWithHeading X.picture lines (content_of lines).number
  pub rule : Rule
  pub names : NamesRule X.shelf (lines_of Section.Heading lines) rule
  pub shows : Shows X.picture rule (content_of lines)
