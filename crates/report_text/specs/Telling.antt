-- A text that is told page by page: what was written of it, and what a page still holds.
-- A page is seen as the bytes that it holds, and as none once a write failed.
use Rattle.std.specs.Prelude.{◌≡◌, ◌++◌, ℕ, List, Option, MatchOption}
use Rattle.shape_desk.specs.Desk.{DeskState, Rose, PutsFront, OnlyWrites}

-- since `begun` a front of the text was written and nothing else was done; the page holds the rest, or a write failed
pub record IsTelling (begun : DeskState) (text : List ℕ) (page : Option (List ℕ)) (now : DeskState) : Type 0 where
  pub front : PutsFront begun.written now.written text
  pub rest : MatchOption page (Rose begun.write_faults now.write_faults) (λ held. front.rest ≡ held)
  pub only : OnlyWrites begun now

-- a text of which this is so is told
pub record Tells (IsSo : List ℕ → Type 0) (begun : DeskState) (page : Option (List ℕ)) (now : DeskState) : Type 0 where
  pub text : List ℕ
  pub so : IsSo text
  pub telling : IsTelling begun text page now

-- a call tells more: where some text was told, that text with these bytes behind it is told
abbrev pub TellsMore : (more : List ℕ) (old new : Option (List ℕ)) (before after : DeskState) → Type 0
TellsMore more old new before after = (begun : DeskState) (text : List ℕ) → IsTelling begun text old before → IsTelling begun (text ++ more) new after
