-- What a desk in memory holds, as plain data.
use Rattle.std.specs.Prelude.{◌≡◌, ℕ, Bool, false, List, [], Option, Some, length, take, drop}
use Rattle.std.specs.declared.vec.Vec.{Vec}
use Rattle.shape_desk.specs.declared.desk.Place.{Place}
use Rattle.shape_desk.specs.declared.memory.MemoryDesk.{MemoryDesk}
use Rattle.shape_desk.specs.Desk.{DeskState}
use Rattle.shape_desk.specs.Calls.{count_of}
use Rattle.shape_desk.specs.Memory.{CallCount, Limits, pick, find, bytes_at}

-- the bytes of the file with the name
abbrev pub file_of : MemoryDesk → List ℕ → Option (List ℕ)
file_of d name = find d.files.items name

-- whether a place was begun
abbrev pub begun_at : MemoryDesk → Place → Bool
begun_at d place = (pick place d.picture d.report).begun

-- the bytes left at a place
abbrev pub left_of : MemoryDesk → Place → List ℕ
left_of d place = drop (pick place d.picture d.report).at (bytes_at d.files.items (pick place d.picture d.report).file)

-- the bytes written
abbrev pub output_of : MemoryDesk → List ℕ
output_of d = take d.used d.room.items

-- all that a desk in memory tells and counts
abbrev pub state_of : MemoryDesk → DeskState
state_of d = record {
  files = Some (file_of d);
  left = λ place. Some (left_of d place);
  begun = begun_at d;
  written = Some (output_of d);
  read_faults = d.reads.faults;
  write_faults = d.writes.faults;
}

-- the calls of begin and read, counted together
abbrev pub reads_of : MemoryDesk → CallCount
reads_of d = count_of d.reads

-- the calls of write
abbrev pub writes_of : MemoryDesk → CallCount
writes_of d = count_of d.writes

-- what was chosen for all calls
abbrev pub limits_of : MemoryDesk → Limits
limits_of d = record { piece = d.piece; room = length d.room.items }

-- a desk with these files whose places were never begun, with nothing written and nothing counted
pub record IsFresh {Z : Type 0} (files : List (Vec ℕ Z × Vec ℕ Z)) (s : DeskState) : Type 0 where
  pub files_told : s.files ≡ Some (λ name. find files name)
  pub none_begun : (p : Place) → s.begun p ≡ false
  pub none_written : s.written ≡ Some []
  pub no_read_fault : s.read_faults ≡ 0
  pub no_write_fault : s.write_faults ≡ 0
