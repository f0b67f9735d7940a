-- What is made of a report: the word that asks for each product, the words that it takes, and what a run by such words did.
-- A further product is one more case of each definition.
use Rattle.std.specs.Prelude.{◌≡◌, ◌≢◌, ℕ, List, [], ◌∷◌, codes}
use Rattle.shape_desk.specs.Desk.{DeskState}
use Rattle.report_lines.specs.Made.{exactly}
use Rattle.report_lines.specs.Runs as Report
use Rattle.report_lines.specs.declared.outcome.Outcome.{Outcome}
use Rattle.drawing.specs.Svg.{most_drawing}
use Rattle.draw_report.specs.Drawings.{IsDrawing, IsNumberedDrawing, IsContourDrawing}
use Rattle.draw_report.specs.MeasureDrawings.{IsMeasuredDrawing}
use Rattle.draw_report.specs.Overs.{RanOver}
use Rattle.draw_report.specs.Words.{labels_word, contours_word, measures_word, AreNoForm}
use Rattle.measure_report.specs.Wholes.{RanFor}
use Rattle.measure_report.specs.Words.{asking, IsAsked}
use Rattle.measure_report.specs.declared.wanted.Wanted.{Wanted}
use Rattle.masking.specs.Masks.{mask_bytes}
use Rattle.masking.specs.Words.{mask_word}
use Rattle.masking.specs.declared.mask.Mask.{Mask}
use Rattle.shape.specs.declared.product.Product.{Product}
use Rattle.shape.specs.declared.product.Product.TheVariants as product

-- the word that asks for a product
abbrev pub product_word : Product → List ℕ
product_word product.Drawing = codes "draw"
product_word product.Table = codes "measure"
product_word product.Mask = codes "mask"

-- the words are none that the product takes behind its own
abbrev pub AreNoWords : Product → List (List ℕ) → Type 0
AreNoWords product.Drawing words = AreNoForm words
AreNoWords product.Table words = (w : Wanted) (name : List ℕ) → IsAsked w → words ≢ asking w name
AreNoWords product.Mask words = (mask : Mask) (name : List ℕ) → words ≢ mask_word mask ∷ name ∷ []

-- what is said of words that the product does not take
abbrev pub usage_of : Product → List ℕ
usage_of product.Drawing = codes "usage: shape draw [labels|contours|measures] REPORT, shape draw REPORT FURTHER"
usage_of product.Table = codes "usage: shape measure [moments] [thickness] [spacing X Y Z] REPORT, shape measure whole REPORT"
usage_of product.Mask = codes "usage: shape mask skeleton|object|distances|squares|thickness REPORT"

-- what a run did that draws what these words say
abbrev pub Drew : List (List ℕ) → DeskState → DeskState → Outcome → Type 0
Drew words old new outcome =
    ((name : List ℕ) → words ≡ name ∷ [] → Report.RanUpTo most_drawing IsDrawing name old new outcome)
    × ((name : List ℕ) → words ≡ labels_word ∷ name ∷ [] → Report.RanUpTo most_drawing IsNumberedDrawing name old new outcome)
    × ((name : List ℕ) → words ≡ contours_word ∷ name ∷ [] → Report.Ran IsContourDrawing name old new outcome)
    × ((name : List ℕ) → words ≡ measures_word ∷ name ∷ [] → Report.RanFlat most_drawing IsMeasuredDrawing name old new outcome)
    × ((analysis further : List ℕ) → words ≡ analysis ∷ further ∷ [] → analysis ≢ labels_word → analysis ≢ contours_word → analysis ≢ measures_word
    → RanOver analysis further old new outcome)

-- what a run did that makes a product by these words behind its own
abbrev pub Ran : Product → List (List ℕ) → DeskState → DeskState → Outcome → Type 0
Ran product.Drawing words old new outcome = Drew words old new outcome
Ran product.Table words old new outcome = (w : Wanted) (name : List ℕ) → IsAsked w → words ≡ asking w name → RanFor w name old new outcome
Ran product.Mask words old new outcome = (mask : Mask) (name : List ℕ) → words ≡ mask_word mask ∷ name ∷ []
    → Report.Ran (exactly (mask_bytes mask)) name old new outcome
