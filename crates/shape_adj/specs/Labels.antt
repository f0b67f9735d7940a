-- Lists of labels, one for each place, while the components of a net are labelled one after the other.
-- Contracts of the flood cite these; which points the places stand for does not matter here.
use Rattle.std.specs.Prelude.{◌≡◌, ℕ, suc, ◌+◌, ◌%◌, ◌<◌, ◌≤◌, ◌⊎◌, ◌&&◌, nat_le, nat_lt, if◌then◌else◌, Bool, false, Option, Some, List, [], ◌∷◌, ◌++◌}
use Rattle.std.specs.Prelude.{length, map, slice_index, slice_index_or}
use Rattle.std.specs.List.{Contains, range_with_len}
use Rattle.shape_terms.specs.Parts.{NamesParts, InOrder}
use Rattle.shape_adj.specs.Flood.{Flooding, Flooded}
use Rattle.shape_grid.specs.Runs.{IsFilled}
use Rattle.shape_adj.specs.declared.run.Run.{Run}
use Rattle.shape_adj.specs.Todo.{Marked, IsTodo, trues}

-- ---- one component

-- a component is being labelled t, and W holds the places whose links are still to be followed
abbrev pub Spreading : (ℕ → Type 0) → (ℕ → ℕ → Type 0) → ℕ → (ℕ → Type 0) → List ℕ → Type 0
Spreading O R t W labels = (n : ℕ) × (s : ℕ) × (t ≡ suc n) × Flooding O R n s W (slice_index labels)

-- no label is lost from the one list to the other
abbrev pub Kept : List ℕ → List ℕ → Type 0
Kept xs ys = (i : ℕ) → 1 ≤ slice_index xs i → slice_index ys i ≡ slice_index xs i

-- the place is one of the run
abbrev pub InRun : Run → ℕ → Type 0
InRun r x = (r.from ≤ x) × (x < r.until)

-- it is one of a run that the list has
abbrev pub InWork : List Run → ℕ → Type 0
InWork work x = (r : Run) × Contains work r × InRun r x

-- the labels in which the places from one up to before another have the label v
abbrev pub relabelled : List ℕ → ℕ → ℕ → ℕ → List ℕ
relabelled labels from until v = map (λ i. if (nat_le from i && nat_lt i until) then v else slice_index labels i) (range_with_len 0 (length labels))

-- the run is one of a row of so many places, all of its places have the label, and beside it in the row no value is true
pub record IsLabelled (width label : ℕ) (labels : List ℕ) (values : List Bool) (r : Run) : Type 0 where
  pub start : ℕ
  pub row : start % width ≡ 0
  pub on : start ≤ r.from
  pub some : r.from < r.until
  pub within : r.until ≤ start + width
  pub inside : r.until ≤ length labels
  pub each : (x : ℕ) → InRun r x → slice_index labels x ≡ label
  pub before : (x : ℕ) → suc x ≡ r.from → start ≤ x → Marked values x → ⊥
  pub behind : r.until < start + width → Marked values r.until → ⊥

-- the same, where the values tell the places without a label, and work lists runs of the component
pub record Growing (O : ℕ → Type 0) (R : ℕ → ℕ → Type 0) (size width label : ℕ) (W : ℕ → Type 0) (labels : List ℕ) (values : List Bool) (work : List Run)
    : Type 0 where
  pub same : length labels ≡ size
  pub todo : IsTodo size O labels values
  pub spreading : Spreading O R label W labels
  pub labelled : (r : Run) → Contains work r → IsLabelled width label labels values r

-- the neighbours of the places of the run are still to be labelled, and those of the runs that work lists
pub record Following (O : ℕ → Type 0) (R : ℕ → ℕ → Type 0) (size width : ℕ) (run : Run) (label : ℕ) (labels : List ℕ) (values : List Bool) (work : List Run)
    : Type 0 where
  pub here : IsLabelled width label labels values run
  pub growing : Growing O R size width label (λ x. InRun run x ⊎ InWork work x) labels values work

-- the same after some more labels were put, and no label of start is lost
pub record Followed (O : ℕ → Type 0) (R : ℕ → ℕ → Type 0) (size width : ℕ) (run : Run) (label : ℕ) (start labels : List ℕ) (values : List Bool)
    (work : List Run) : Type 0 where
  pub kept : Kept start labels
  pub following : Following O R size width run label labels values work

-- those of the runs that work lists, and no label of start is lost
pub record Grown (O : ℕ → Type 0) (R : ℕ → ℕ → Type 0) (size width label : ℕ) (start labels : List ℕ) (values : List Bool) (work : List Run) : Type 0 where
  pub kept : Kept start labels
  pub growing : Growing O R size width label (InWork work) labels values work

-- the run is that of the true values of a row around q, and they are false now
pub record IsTaken (row : Run) (q : ℕ) (old new : List Bool) (r : Run) : Type 0 where
  pub on : row.from ≤ r.from
  pub within : r.until ≤ row.until
  pub low : r.from ≤ q
  pub high : q < r.until
  pub all : (i : ℕ) → InRun r i → Marked old i
  pub before : (x : ℕ) → suc x ≡ r.from → row.from ≤ x → slice_index_or old x false ≡ false
  pub behind : r.until < row.until → slice_index_or old r.until false ≡ false
  pub filled : IsFilled old new r.from r.until false

-- such a run was taken: it is listed as one to be followed, its places have the label in all labels that may have been put, and it ends at `end`
pub record Took (row : Run) (q label end : ℕ) (old new : List Bool) (before after : List Run) (T T' : List ℕ → Type 0) : Type 0 where
  pub run : Run
  pub taken : IsTaken row q old new run
  pub ends : end ≡ run.until
  pub listed : after ≡ before ++ run ∷ []
  pub told : (labels : List ℕ) → T labels → T' (relabelled labels run.from run.until label)

-- the row is one of the net, and s is one of its places
pub record IsRowAround (size width s : ℕ) (row : Run) : Type 0 where
  pub first : row.from % width ≡ 0
  pub last : row.until ≡ row.from + width
  pub inside : row.until ≤ size
  pub low : row.from ≤ s
  pub high : s < row.until

-- the window is a stretch of a row of the net, and each of its places is adjacent to a place of the run
pub record IsBeside (size width : ℕ) (R : ℕ → ℕ → Type 0) (run row window : Run) : Type 0 where
  pub first : row.from % width ≡ 0
  pub last : row.until ≡ row.from + width
  pub inside : row.until ≤ size
  pub on : row.from ≤ window.from
  pub within : window.until ≤ row.until
  pub each : (q : ℕ) → InRun window q → (p : ℕ) × InRun run p × R p q

-- runs beside the run have been labelled, for all labels that may have been put
pub record Entered (O : ℕ → Type 0) (R : ℕ → ℕ → Type 0) (size width : ℕ) (run : Run) (label : ℕ) (T T' : List ℕ → Type 0) (old new : List Bool)
    (before after : List Run) : Type 0 where
  pub fewer : (q : ℕ) → Marked new q → Marked old q
  pub less : trues new + length after ≤ trues old + length before
  pub followed : (labels : List ℕ) → T labels → Following O R size width run label labels old before
      → (more : List ℕ) × T' more × Followed O R size width run label labels more new after

-- no value is true in the row that is told, if one is, at a place no further apart than reach from a place of the run
abbrev pub NoneBeside : ℕ → ℕ → Run → ℕ → Option ℕ → List Bool → Type 0
NoneBeside width reach run start there values = (other x y : ℕ) → there ≡ Some other → InRun run (start + x) → y < width → x ≤ y + reach → y ≤ x + reach
    → Marked values (other + y) → ⊥

-- ---- all components

-- the components of the places below s are labelled
pub record Labelling (O : ℕ → Type 0) (R : ℕ → ℕ → Type 0) (size : ℕ) (labels : List ℕ) (values : List Bool) (work : List Run) (s count : ℕ) : Type 0 where
  pub same : length labels ≡ size
  pub todo : IsTodo size O labels values
  pub empty : work ≡ []
  pub few : count ≤ s
  pub flooded : Flooded O R count (slice_index labels)
  pub passed : (i : ℕ) → i < s → O i → 1 ≤ slice_index labels i
  pub first : (j : ℕ) → 1 ≤ j → j ≤ count → (i : ℕ) × (i < s) × (slice_index labels i ≡ j)
  pub ordered : InOrder labels

-- the same of some labels of which T holds
pub record Searched (O : ℕ → Type 0) (R : ℕ → ℕ → Type 0) (size : ℕ) (T : List ℕ → Type 0) (values : List Bool) (work : List Run) (s count : ℕ) : Type 0 where
  pub labels : List ℕ
  pub told : T labels
  pub labelling : Labelling O R size labels values work s count

-- the labels, one for each place, name the n components of O in the order of their first places
pub record LabelsNet (O : ℕ → Type 0) (R : ℕ → ℕ → Type 0) (size n : ℕ) (labels : List ℕ) : Type 0 where
  pub filled : length labels ≡ size
  pub members : (i : ℕ) → 1 ≤ slice_index labels i → O i
  pub ordered : InOrder labels
  pub parts : NamesParts R O n (slice_index labels)
