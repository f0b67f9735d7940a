-- The lines that are made of what is found of a contour have their fields in range.
-- Laws over what was found; the program stands in none.
use Rattle.std.proofs.Common.{◌<◌, ◌^◌, ℕ, ℤ, pos, negsuc, List, arith}
use Rattle.std.specs.Prelude.{FitsSigned, nat_abs, slice_index_or}
use Rattle.std.specs.Int.{w64}
use Rattle.shape_terms.specs.Points.{Point}
use Rattle.shape_terms.specs.Naive.{Naive}
use Rattle.shape_terms.specs.Refutations.{Share, Step, IsStepOf}
use Rattle.shape_terms.specs.Covers.{Evidence, IsEvidence}
use Rattle.text_terms.specs.Forms.{counted}
use Rattle.text_terms.specs.Weights.{IsStepIn, share, step_share}
use Rattle.shape_line.specs.Found.{IsShortLine, AreShortShares, IsShortEvidence}
use Rattle.piece_terms.specs.SplitLines.{SplitLine}
use Rattle.piece_terms.specs.Lines.{Line, spelled}

fits : (z : ℤ) → nat_abs z < 2 ^ 63 → FitsSigned w64 z
fits (pos n) h = record { sfits = omega arith }
fits (negsuc n) h = record { sfits = omega arith }

-- a piece with places of 32 bits
pub piece_fits : (b e t : ℕ) (line : Naive) → b < 2 ^ 32 → e < 2 ^ 32 → t < 2 → IsShortLine line → spelled.IsLine (Line.Listed (SplitLine.Piece b e t line))
piece_fits b e t line hb he ht s = (hb, (he, (ht, (record { axes = s.two; fits = λ i d l. fits _ (s.coefficients i d l) }, fits line.mu s.mu))))

step_in : (t : ℕ) (s : Step) → IsStepOf 2 t s → IsStepIn 2 s
step_in t Step.Up h = tt
step_in t (Step.Plus u) h = h.0
step_in t (Step.Minus u) h = h.0

shares_fit : (shares : List Share) → AreShortShares shares → (counted 4 share).InRange shares
shares_fit shares h = (h.few, λ i d l. (h.weights i d l, h.places i d l))

-- a gap line of an axis of the plane
pub gap_fits : (t : ℕ) (run : List Point) (v : Evidence) → t < 2 → IsEvidence t run v → IsShortEvidence v → spelled.IsLine (Line.Listed (SplitLine.Gap t v))
gap_fits t run (Evidence.Turned i j) ht h s = (ht, (s.0, s.1))
gap_fits t run (Evidence.Cut why) ht h s =
    let steps : (counted 4 (step_share 2)).InRange why.steps =
    (s.few_steps, λ i d l. (s.steps i d l, step_in t (slice_index_or why.steps i d).step (h.1.steps_of_axis i d l))) in
    (ht, (shares_fit why.low s.low, (shares_fit why.high s.high, steps)))
