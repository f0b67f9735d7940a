-- The pages that the program prints of itself: the words that ask for each, and what it says.
-- A further topic is one more case of the tables.
use Rattle.std.specs.Prelude.{◌≡◌, ◌⊎◌, ℕ, List, [], ◌∷◌, codes}
use Rattle.shape.specs.declared.page.Topic.{Topic}
use Rattle.shape.specs.declared.page.Topic.TheVariants as topic
use Rattle.shape.specs.declared.page.Page.{Page}
use Rattle.shape.specs.declared.page.Page.TheVariants as page
use Rattle.shape.specs.declared.page_text.TheConstants as say

-- the word of a topic: behind `help` it asks for its page, and so it does before `--help`
abbrev pub topic_word : Topic → List ℕ
topic_word topic.Analyse = codes "analyse"
topic_word topic.Check = codes "check"
topic_word topic.Edges = codes "edges"
topic_word topic.CheckEdges = codes "checkedges"
topic_word topic.Pieces = codes "pieces"
topic_word topic.CheckPieces = codes "checkpieces"
topic_word topic.Balls = codes "balls"
topic_word topic.CheckBalls = codes "checkballs"
topic_word topic.Draw = codes "draw"
topic_word topic.Measure = codes "measure"
topic_word topic.Mask = codes "mask"
topic_word topic.Trial = codes "trial"

-- the words ask for a page
abbrev pub IsWayTo : Page → List (List ℕ) → Type 0
IsWayTo page.Forms words = (words ≡ codes "--help" ∷ []) ⊎ (words ≡ codes "help" ∷ [])
IsWayTo page.Version words = words ≡ codes "--version" ∷ []
IsWayTo (page.Of t) words = (words ≡ codes "help" ∷ topic_word t ∷ []) ⊎ (words ≡ topic_word t ∷ codes "--help" ∷ [])

-- what a page says
abbrev pub page_text : Page → List ℕ
page_text page.Forms = say.FORMS.now
page_text page.Version = say.VERSION.now
page_text (page.Of topic.Analyse) = say.ANALYSE.now
page_text (page.Of topic.Check) = say.CHECK.now
page_text (page.Of topic.Edges) = say.EDGES.now
page_text (page.Of topic.CheckEdges) = say.EDGES.now
page_text (page.Of topic.Pieces) = say.PIECES.now
page_text (page.Of topic.CheckPieces) = say.PIECES.now
page_text (page.Of topic.Balls) = say.BALLS.now
page_text (page.Of topic.CheckBalls) = say.BALLS.now
page_text (page.Of topic.Draw) = say.DRAW.now
page_text (page.Of topic.Measure) = say.MEASURE.now
page_text (page.Of topic.Mask) = say.MASK.now
page_text (page.Of topic.Trial) = say.TRIAL.now
