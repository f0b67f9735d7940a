-- The lines of a report, and their spelling.
-- Each kind of line is split into its fields here; how these stand in words stands in `Kinds`, and what a line claims in `Sections`.
use Rattle.std.specs.Prelude.{ℕ, ℤ, List, [], ◌∷◌, ◌++◌, length, flat_map}
use Rattle.std.specs.List.{join_with_byte}
use Rattle.shape_terms.specs.Points.{Point}
use Rattle.shape_terms.specs.Refutations.{Refutation}
use Rattle.shape_terms.specs.Covers.{Evidence}
use Rattle.shape_terms.specs.Patches.{Sense}
use Rattle.shape_terms.specs.Least.{Pairs}
use Rattle.text_terms.specs.Spellings.{Spelled}
use Rattle.report_terms.specs.Kinds.{Kind, Fields, Split, IsSplitOf, split_words}

-- the heading of a report: its number, the sides of the picture, and the name of the rule that thins it
pub record Heading : Type 0 where
  pub number : ℕ
  pub sides : Point
  pub rule : List ℕ

-- a line of a report. The sides stand as a point; a picture of two sides is a `pbm`, one of three a `raw`. The line of a gap is a `turn` or a `cut`, as its
-- evidence is
pub data Line : Type 0 where
  Shape : (heading : Heading) → Line
  Parts : (points object background : ℕ) → Line
  Near : (p q : Point) → (s : ℕ) → Line
  Contour : (p : Point) → (side points segments : ℕ) → Line
  At : (p : Point) → Line
  Seg : (first last axis : ℕ) → (a : List ℤ) → (mu : ℤ) → Line
  Least : (pairs : Pairs) → Line
  Gap : (axis : ℕ) → (evidence : Evidence) → Line
  Face : (axis : ℕ) → (sense : Sense) → (points : ℕ) → Line
  Patch : (points : ℕ) → (a : List ℤ) → (mu : ℤ) → Line
  On : (p : Point) → Line
  Off : (p : Point) → (why : Refutation) → Line
  Del : (p : Point) → Line
  Tip : (p : Point) → Line
  Kept : (points object background : ℕ) → Line
  End : Line

-- the kind of a line, and its fields
abbrev pub split : Line → Split
split (Shape h) = record { kind = Kind.Shape; fields = (h.number, (h.sides, h.rule)) }
split (Parts n o b) = record { kind = Kind.Parts; fields = (n, (o, b)) }
split (Near p q s) = record { kind = Kind.Near; fields = (p, (q, s)) }
split (Contour p side n m) = record { kind = Kind.Contour; fields = (p, (side, (n, m))) }
split (At p) = record { kind = Kind.At; fields = p }
split (Seg b e t a mu) = record { kind = Kind.Seg; fields = (b, (e, (t, (a, mu)))) }
split (Least p) = record { kind = Kind.Least; fields = (p.low1, (p.high1, (p.low2, p.high2))) }
split (Gap t (Evidence.Turned i j)) = record { kind = Kind.Turn; fields = (t, (i, j)) }
split (Gap t (Evidence.Cut why)) = record { kind = Kind.Cut; fields = (t, why) }
split (Face t sense n) = record { kind = Kind.Face; fields = (t, (sense, n)) }
split (Patch k a mu) = record { kind = Kind.Patch; fields = (k, (a, mu)) }
split (On p) = record { kind = Kind.On; fields = p }
split (Off p why) = record { kind = Kind.Off; fields = (p, why) }
split (Del p) = record { kind = Kind.Del; fields = p }
split (Tip p) = record { kind = Kind.Tip; fields = p }
split (Kept n o b) = record { kind = Kind.Kept; fields = (n, (o, b)) }
split End = record { kind = Kind.End; fields = tt }

-- and the line of a kind with these fields
abbrev pub joined : (k : Kind) → Fields k → Line
joined Kind.Shape (n, (sides, rule)) = Shape (record { number = n; sides = sides; rule = rule })
joined Kind.Parts (n, (o, b)) = Parts n o b
joined Kind.Near (p, (q, s)) = Near p q s
joined Kind.Contour (p, (side, (n, m))) = Contour p side n m
joined Kind.At p = At p
joined Kind.Seg (b, (e, (t, (a, mu)))) = Seg b e t a mu
joined Kind.Least (l1, (h1, (l2, h2))) = Least (record { low1 = l1; high1 = h1; low2 = l2; high2 = h2 })
joined Kind.Turn (t, (i, j)) = Gap t (Evidence.Turned i j)
joined Kind.Cut (t, why) = Gap t (Evidence.Cut why)
joined Kind.Face (t, (sense, n)) = Face t sense n
joined Kind.Patch (k, (a, mu)) = Patch k a mu
joined Kind.On p = On p
joined Kind.Off (p, why) = Off p why
joined Kind.Del p = Del p
joined Kind.Tip p = Tip p
joined Kind.Kept (n, (o, b)) = Kept n o b
joined Kind.End _ = End

-- the line is one of the reports of pictures with d axes, and its fields are in range
abbrev pub IsLineOf : ℕ → Line → Type 0
IsLineOf d l = IsSplitOf d (split l)

-- how many axes the picture of a line has: a `shape` line gives them all, and no word of any other line hangs on it
abbrev pub axes_of : Line → ℕ
axes_of (Shape h) = length h.sides
axes_of _ = 2

abbrev pub line_words : Line → List (List ℕ)
line_words l = split_words (axes_of l) (split l)

-- the bytes of a line, without its LF: its words with one blank between each two
abbrev pub spelling : Line → List ℕ
spelling l = join_with_byte 32 (line_words l)

-- a line with its LF
abbrev pub line_text : Line → List ℕ
line_text l = spelling l ++ 10 ∷ []

-- the text of a list of lines
abbrev pub text_of : List Line → List ℕ
text_of lines = flat_map line_text lines

-- how the lines of the reports of pictures with d axes stand in text
abbrev pub spelled : ℕ → Spelled Line
spelled d = record { IsLine = IsLineOf d; spelling = spelling }
