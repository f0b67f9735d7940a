-- The calls of one kind, as plain data.
use Rattle.shape_desk.specs.declared.calls.Calls.{Calls}
use Rattle.shape_desk.specs.Memory.{CallCount}

abbrev pub count_of : Calls → CallCount
count_of c = record { bad = c.bad.items; made = c.made; faults = c.faults }
