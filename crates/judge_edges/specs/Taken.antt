-- What a judge of an edge report is seen as, which lines it stands for, and what it finds of the next line.
-- It holds no line: it stands for each list of lines that leads to the state that it is in.
use Rattle.std.specs.Prelude.{◌≡◌, ◌↔◌, ℕ, ◌+◌, ◌-◌, ◌*◌, ◌<◌, List, [], ◌∷◌, length, drop, sum_by, Bool, IsTrue}
use Rattle.std.specs.Bool.{OnTrue}
use Rattle.shape_terms.specs.Pictures.{Picture}
use Rattle.text_terms.specs.Courses.{reached}
use Rattle.edge_terms.specs.EdgeCycles.{EdgeCycle, AreEdgeCycles}
use Rattle.edge_terms.specs.CycleLines.{Standing, with_cycle, with_arc, with_gap, nothing_taken}
use Rattle.edge_terms.specs.Lines.{Line}
use Rattle.edge_terms.specs.EdgeReports.{State, next, CycleClaim, course}
use Rattle.judge_edges.specs.declared.stage.Stage.{Stage}
use Rattle.judge_edges.specs.declared.stage.Stage.TheVariants.{Opening, Open, Ended}
use Rattle.judge_edges.specs.EdgeState.{EdgeState}

-- ---- states

abbrev pub state_at : Stage → Standing → State
state_at Opening s = State.Opening
state_at Open s = State.Open s
state_at Ended s = State.Ended

-- before the first line no line of a cycle was taken
abbrev pub IsFresh : Stage → Standing → Type 0
IsFresh Opening s = s ≡ nothing_taken
IsFresh Open s = Unit {0}
IsFresh Ended s = Unit {0}

-- the judge stands for these lines of an edge report of the picture
pub record StandsFor (X : Picture) (width height : ℕ) (stage : Stage) (j : EdgeState) (lines : List Line) : Type 0 where
  pub sides : X.sides ≡ width ∷ height ∷ []
  pub are : AreEdgeCycles X j.cycles
  pub fresh : IsFresh stage j.standing
  pub reached_now : state_at stage j.standing ≡ reached (course X) lines

-- ---- how many lines may still be taken

-- how many corners these cycles have in all
abbrev pub corners_in : List EdgeCycle → ℕ
corners_in cycles = sum_by (λ k. length k.path) cycles

-- a bound of the number of lines of cycles to come: those left of the cycle that was begun last, and of each later one at most two for each crack and its own
abbrev pub room_of : EdgeState → ℕ
room_of j = (j.standing.declared - length j.standing.stretches) + (j.standing.declared - j.standing.gaps) + (length j.cycles - j.standing.begun) + 2
    * corners_in (drop j.standing.begun j.cycles)

-- and of all lines
abbrev pub room_at : Stage → ℕ → ℕ
room_at Opening r = r + 2
room_at Open r = r + 1
room_at Ended r = r

-- ---- the next line

-- where the lines of cycles stand after one more
abbrev pub standing_after : Standing → Line → Standing
standing_after s (Line.Edges w h) = s
standing_after s (Line.Cycle c n m) = with_cycle s m
standing_after s (Line.Arc k line) = with_arc s k
standing_after s (Line.Gap e) = with_gap s
standing_after s Line.End = s

-- the stage behind a line of cycles
abbrev pub stage_behind : Line → Stage
stage_behind (Line.Edges w h) = Open
stage_behind (Line.Cycle c n m) = Open
stage_behind (Line.Arc k line) = Open
stage_behind (Line.Gap e) = Open
stage_behind Line.End = Ended

-- what a judge finds of a line among those of cycles, and where it stands then
pub record IsFollowed (old new : EdgeState) (l : Line) (good : Bool) : Type 0 where
  pub answer : IsTrue good ↔ CycleClaim old.cycles old.standing l
  pub cycles : new.cycles ≡ old.cycles
  pub standing : OnTrue good (new.standing ≡ standing_after old.standing l)
  pub room : OnTrue good (room_at (stage_behind l) (room_of new) < room_of old + 1)

-- the line gives these sides
abbrev pub GivesSides : (width height : ℕ) → Line → Type 0
GivesSides w h (Line.Edges a b) = (a ≡ w) × (b ≡ h)
GivesSides w h (Line.Cycle c n m) = ⊥
GivesSides w h (Line.Arc k line) = ⊥
GivesSides w h (Line.Gap e) = ⊥
GivesSides w h Line.End = ⊥

-- the claim of a line, by what the judge knows of the picture
abbrev pub StageClaim : (width height : ℕ) → Stage → EdgeState → Line → Type 0
StageClaim w h Opening j l = GivesSides w h l
StageClaim w h Open j l = CycleClaim j.cycles j.standing l
StageClaim w h Ended j l = ⊥

-- what a judge finds of a line, and where it stands then
pub record IsStep (width height : ℕ) (stage new_stage : Stage) (old new : EdgeState) (l : Line) (good : Bool) : Type 0 where
  pub answer : IsTrue good ↔ StageClaim width height stage old l
  pub cycles : new.cycles ≡ old.cycles
  pub fresh : OnTrue good (IsFresh new_stage new.standing)
  pub state : OnTrue good (IsFresh stage old.standing → state_at new_stage new.standing ≡ next (state_at stage old.standing) l)
  pub room : OnTrue good (room_at new_stage (room_of new) < room_at stage (room_of old))
