-- A list of events as the program keeps it: the places of their points, and whether these were marked.
-- A smaller form of the list changes this file and `events.rt` alone.
use Rattle.std.specs.Prelude.{◌≡◌, ℕ, ◌<◌, ◌≤◌, ◌^◌, Bool, false, List, map, length, All, slice_index, slice_index_or}
use Rattle.std.specs.List.{range_with_len}
use Rattle.shape_terms.specs.Limits.{most_points}
use Rattle.shape_terms.specs.Points.{box_count, raster_point}
use Rattle.shape_terms.specs.Thinning.{Event}
use Rattle.shape_queue.specs.Events.{event_by}
use Rattle.shape_thin.specs.declared.events.Done.{Done}

-- what was done, in order, and for how many events there is room
pub record EventList : Type 0 where
  pub done : List Done
  pub room : ℕ

-- what was done at places, of which those with the value true were marked
abbrev pub all_done : List ℕ → List Bool → List Done
all_done places tips = map (λ i. record { place = slice_index places i; tips = slice_index_or tips i false }) (range_with_len 0 (length places))

-- there is a value for each place, and behind the last place none is true
pub record AreKept (places : List ℕ) (tips : List Bool) : Type 0 where
  pub few : length tips ≤ most_points
  pub room : length places ≤ length tips
  pub rest : (i : ℕ) → length places ≤ i → slice_index_or tips i false ≡ false

-- the events of the places
abbrev pub events_at : List ℕ → List Done → List Event
events_at sides done = map (λ d. event_by d.tips (raster_point sides d.place)) done

-- the list is not too long to be numbered, and each place is one of the box
pub record AreEvents (sides : List ℕ) (done : List Done) : Type 0 where
  pub few : length done < 2 ^ 32
  pub within : All (λ d. d.place < box_count sides) done
