use Rattle.std.proofs.Common.{◌/◌, ◌%◌, refl, slice_index}
use Rattle.shape_grid.proofs.WordSteps.{bit_filled, filled_if}
use Rattle.shape_grid.proofs.LevelSteps.{sums_kept, sums_in, levels_of}
use Rattle.shape_grid.proofs.levels.Levels.insert.Goals as goal

pub invariant_of-self : goal.invariant_of-self
invariant_of-self c =
    let l = c.self.invariant in
    let s = c.self.inside in
    let filled_0 = bit_filled (slice_index c.put_in.new.words.items (c.args.i / 64)) (c.args.i % 64) c.put_in.ensures.put.here in
    let filled_1 = bit_filled (slice_index c.put_in-then-put_in.new.words.items (c.args.i / 64 / 64)) ((c.args.i / 64) % 64)
    c.put_in-then-put_in.ensures.put.here in
    let filled_2 = bit_filled (slice_index c.put_in-then-put_in-2.new.words.items (c.args.i / 64 / 64 / 64)) ((c.args.i / 64 / 64) % 64)
    c.put_in-then-put_in-2.ensures.put.here in
    levels_of s.base.items s.first.items s.second.items s.top.items c.put_in.new.words.items c.put_in-then-put_in.new.words.items
    c.put_in-then-put_in-2.new.words.items c.put_in-then-put_in-3.new.words.items l c.put_in.ensures.put.room c.put_in-then-put_in.ensures.put.room
    c.put_in-then-put_in-2.ensures.put.room c.put_in-then-put_in-3.ensures.put.room
    (sums_in s.first.items s.base.items c.put_in.new.words.items c.args.i 1 l.first_sums c.put_in.ensures.put c.put_in-then-put_in.new.words.items
    c.put_in-then-put_in.ensures.put filled_0)
    (sums_in s.second.items s.first.items c.put_in-then-put_in.new.words.items (c.args.i / 64) 1 l.second_sums c.put_in-then-put_in.ensures.put
    c.put_in-then-put_in-2.new.words.items c.put_in-then-put_in-2.ensures.put filled_1)
    (sums_in s.top.items s.second.items c.put_in-then-put_in-2.new.words.items (c.args.i / 64 / 64) 1 l.top_sums c.put_in-then-put_in-2.ensures.put
    c.put_in-then-put_in-3.new.words.items c.put_in-then-put_in-3.ensures.put filled_2)

pub invariant_of-self-else-put_in-3 : goal.invariant_of-self-else-put_in-3
invariant_of-self-else-put_in-3 c =
    let l = c.self.invariant in
    let s = c.self.inside in
    let filled_0 = bit_filled (slice_index c.put_in.new.words.items (c.args.i / 64)) (c.args.i % 64) c.put_in.ensures.put.here in
    let filled_1 = bit_filled (slice_index c.put_in-then-put_in.new.words.items (c.args.i / 64 / 64)) ((c.args.i / 64) % 64)
    c.put_in-then-put_in.ensures.put.here in
    let filled_2 = bit_filled (slice_index c.put_in-then-put_in-2.new.words.items (c.args.i / 64 / 64 / 64)) ((c.args.i / 64 / 64) % 64)
    c.put_in-then-put_in-2.ensures.put.here in
    let was = filled_if c.put_in-then-put_in-2.result (slice_index s.second.items (c.args.i / 64 / 64 / 64)) c.put_in-then-put_in-2.ensures.was
    c.if-put_in-3.false in
    levels_of s.base.items s.first.items s.second.items s.top.items c.put_in.new.words.items c.put_in-then-put_in.new.words.items
    c.put_in-then-put_in-2.new.words.items s.top.items l c.put_in.ensures.put.room c.put_in-then-put_in.ensures.put.room
    c.put_in-then-put_in-2.ensures.put.room refl
    (sums_in s.first.items s.base.items c.put_in.new.words.items c.args.i 1 l.first_sums c.put_in.ensures.put c.put_in-then-put_in.new.words.items
    c.put_in-then-put_in.ensures.put filled_0)
    (sums_in s.second.items s.first.items c.put_in-then-put_in.new.words.items (c.args.i / 64) 1 l.second_sums c.put_in-then-put_in.ensures.put
    c.put_in-then-put_in-2.new.words.items c.put_in-then-put_in-2.ensures.put filled_1)
    (sums_kept s.top.items s.second.items c.put_in-then-put_in-2.new.words.items (c.args.i / 64 / 64) 1 l.top_sums c.put_in-then-put_in-2.ensures.put was
    filled_2)

pub invariant_of-self-else-put_in-2 : goal.invariant_of-self-else-put_in-2
invariant_of-self-else-put_in-2 c =
    let l = c.self.invariant in
    let s = c.self.inside in
    let filled_0 = bit_filled (slice_index c.put_in.new.words.items (c.args.i / 64)) (c.args.i % 64) c.put_in.ensures.put.here in
    let filled_1 = bit_filled (slice_index c.put_in-then-put_in.new.words.items (c.args.i / 64 / 64)) ((c.args.i / 64) % 64)
    c.put_in-then-put_in.ensures.put.here in
    let was = filled_if c.put_in-then-put_in.result (slice_index s.first.items (c.args.i / 64 / 64)) c.put_in-then-put_in.ensures.was c.if-put_in-2.false in
    levels_of s.base.items s.first.items s.second.items s.top.items c.put_in.new.words.items c.put_in-then-put_in.new.words.items s.second.items s.top.items l
    c.put_in.ensures.put.room c.put_in-then-put_in.ensures.put.room refl refl
    (sums_in s.first.items s.base.items c.put_in.new.words.items c.args.i 1 l.first_sums c.put_in.ensures.put c.put_in-then-put_in.new.words.items
    c.put_in-then-put_in.ensures.put filled_0)
    (sums_kept s.second.items s.first.items c.put_in-then-put_in.new.words.items (c.args.i / 64) 1 l.second_sums c.put_in-then-put_in.ensures.put was filled_1)
    l.top_sums

pub invariant_of-self-else-put_in : goal.invariant_of-self-else-put_in
invariant_of-self-else-put_in c =
    let l = c.self.invariant in
    let s = c.self.inside in
    let filled_0 = bit_filled (slice_index c.put_in.new.words.items (c.args.i / 64)) (c.args.i % 64) c.put_in.ensures.put.here in
    let was = filled_if c.put_in.result (slice_index s.base.items (c.args.i / 64)) c.put_in.ensures.was c.if-put_in.false in
    levels_of s.base.items s.first.items s.second.items s.top.items c.put_in.new.words.items s.first.items s.second.items s.top.items l
    c.put_in.ensures.put.room refl refl refl
    (sums_kept s.first.items s.base.items c.put_in.new.words.items c.args.i 1 l.first_sums c.put_in.ensures.put was filled_0)
    l.second_sums
    l.top_sums
