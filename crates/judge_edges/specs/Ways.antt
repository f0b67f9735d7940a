-- The steps that a run has taken, as the program keeps them: the sign of each kind and the place of its first.
-- What they say of lines belongs elsewhere.
use Rattle.std.specs.Prelude.{◌≡◌, ◌⊎◌, ℕ, ◌+◌, ◌<◌, List, ℤ, pos, Option, Some, None, Result, Ok, Err}
use Rattle.shape_terms.specs.Points.{Point}
use Rattle.edge_terms.specs.Corners.{IsSign, step_at, across_by, down_by}
use Rattle.edge_terms.specs.EdgeEvidence.{IsBend}
use Rattle.judge_edges.specs.declared.ways.Way.{Way}
use Rattle.judge_edges.specs.declared.ways.Ways.{Ways}
use Rattle.judge_edges.specs.declared.ways.Step.{Step}
use Rattle.judge_edges.specs.declared.ways.Step.TheVariants.{Across, Down}

-- the sign of the steps of a kind, and 1 where there is none
abbrev pub sign_of : Option Way → ℤ
sign_of (Some w) = w.sign
sign_of None = pos 1

-- the step as a vector
abbrev pub vector_of : Step → Point
vector_of (Across z) = across_by z
vector_of (Down z) = down_by z

abbrev pub HasSign : Step → Type 0
HasSign (Across z) = IsSign z
HasSign (Down z) = IsSign z

-- of the steps before place n of the run one is of the kind, by its sign and at its place
pub record IsWay (run : List Point) (n : ℕ) (kind : ℤ → Point) (w : Way) : Type 0 where
  pub sign : IsSign w.sign
  pub place : w.place < n
  pub step : step_at run w.place ≡ kind w.sign

-- that is told of a kind, or there is none of it and each step is the other vector
abbrev pub IsWayOf : List Point → ℕ → (ℤ → Point) → Point → Option Way → Type 0
IsWayOf run n kind other (Some w) = IsWay run n kind w
IsWayOf run n kind other None = (i : ℕ) → i < n → step_at run i ≡ other

-- the first n steps of the run go by the two signs
pub record AreWays (run : List Point) (n : ℕ) (w : Ways) : Type 0 where
  pub across : IsWayOf run n across_by (down_by (sign_of w.down)) w.across
  pub down : IsWayOf run n down_by (across_by (sign_of w.across)) w.down
  pub steps : (i : ℕ) → i < n → (step_at run i ≡ across_by (sign_of w.across)) ⊎ (step_at run i ≡ down_by (sign_of w.down))

-- a sign is new only where no step of its kind has come
pub record KeepsSigns (run : List Point) (n : ℕ) (old new : Ways) : Type 0 where
  pub across : (sign_of new.across ≡ sign_of old.across) ⊎ ((i : ℕ) → i < n → step_at run i ≡ down_by (sign_of old.down))
  pub down : (sign_of new.down ≡ sign_of old.down) ⊎ ((i : ℕ) → i < n → step_at run i ≡ across_by (sign_of old.across))

-- with the step from place n on: the steps go by two signs again, or that step and an earlier one are opposite
abbrev pub IsNextWays : List Point → ℕ → Ways → Result Ways ℕ → Type 0
IsNextWays run n old (Ok new) = AreWays run (n + 1) new × KeepsSigns run n old new
IsNextWays run n old (Err j) = IsBend run n j

-- a step of a kind with this sign and place comes: it is the first, or has the sign that is known, or is opposite
abbrev pub IsMeeting : Option Way → ℤ → ℕ → Result Way ℕ → Type 0
IsMeeting None z n (Ok k) = k ≡ record { sign = z; place = n }
IsMeeting None z n (Err j) = ⊥
IsMeeting (Some w) z n (Ok k) = (w.sign ≡ z) × (k ≡ w)
IsMeeting (Some w) z n (Err j) = (w.sign ≡ z → ⊥) × (j ≡ w.place)
