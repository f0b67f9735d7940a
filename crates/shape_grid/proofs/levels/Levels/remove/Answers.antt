use Rattle.std.proofs.Common.{◌<◌, ◌/◌, refl, arith, slice_index}
use Rattle.shape_grid.proofs.WordSteps.{filled_if}
use Rattle.shape_grid.proofs.LevelSteps.{sums_kept, sums_out, levels_of}
use Rattle.shape_grid.proofs.levels.Levels.remove.Goals as goal

pub invariant_of-self : goal.invariant_of-self
invariant_of-self c =
    let l = c.self.invariant in
    let s = c.self.inside in
    levels_of s.base.items s.first.items s.second.items s.top.items c.take_out.new.words.items c.take_out-then-take_out.new.words.items
    c.take_out-then-take_out-2.new.words.items c.take_out-then-take_out-3.new.words.items l c.take_out.ensures.put.room
    c.take_out-then-take_out.ensures.put.room c.take_out-then-take_out-2.ensures.put.room c.take_out-then-take_out-3.ensures.put.room
    (sums_out s.first.items s.base.items c.take_out.new.words.items c.args.i 0 l.first_sums c.take_out.ensures.put c.take_out-then-take_out.new.words.items
    c.take_out-then-take_out.ensures.put (c.take_out.ensures.is.0 c.if-take_out.true))
    (sums_out s.second.items s.first.items c.take_out-then-take_out.new.words.items (c.args.i / 64) 0 l.second_sums c.take_out-then-take_out.ensures.put
    c.take_out-then-take_out-2.new.words.items c.take_out-then-take_out-2.ensures.put (c.take_out-then-take_out.ensures.is.0 c.if-take_out-2.true))
    (sums_out s.top.items s.second.items c.take_out-then-take_out-2.new.words.items (c.args.i / 64 / 64) 0 l.top_sums c.take_out-then-take_out-2.ensures.put
    c.take_out-then-take_out-3.new.words.items c.take_out-then-take_out-3.ensures.put (c.take_out-then-take_out-2.ensures.is.0 c.if-take_out-3.true))

pub invariant_of-self-else-take_out-3 : goal.invariant_of-self-else-take_out-3
invariant_of-self-else-take_out-3 c =
    let l = c.self.invariant in
    let s = c.self.inside in
    let is = filled_if c.take_out-then-take_out-2.result (slice_index c.take_out-then-take_out-2.new.words.items (c.args.i / 64 / 64 / 64))
    c.take_out-then-take_out-2.ensures.is c.if-take_out-3.false in
    let less = c.take_out-then-take_out-2.ensures.less in
    let was : 0 < slice_index s.second.items (c.args.i / 64 / 64 / 64) = omega arith in
    levels_of s.base.items s.first.items s.second.items s.top.items c.take_out.new.words.items c.take_out-then-take_out.new.words.items
    c.take_out-then-take_out-2.new.words.items s.top.items l c.take_out.ensures.put.room c.take_out-then-take_out.ensures.put.room
    c.take_out-then-take_out-2.ensures.put.room refl
    (sums_out s.first.items s.base.items c.take_out.new.words.items c.args.i 0 l.first_sums c.take_out.ensures.put c.take_out-then-take_out.new.words.items
    c.take_out-then-take_out.ensures.put (c.take_out.ensures.is.0 c.if-take_out.true))
    (sums_out s.second.items s.first.items c.take_out-then-take_out.new.words.items (c.args.i / 64) 0 l.second_sums c.take_out-then-take_out.ensures.put
    c.take_out-then-take_out-2.new.words.items c.take_out-then-take_out-2.ensures.put (c.take_out-then-take_out.ensures.is.0 c.if-take_out-2.true))
    (sums_kept s.top.items s.second.items c.take_out-then-take_out-2.new.words.items (c.args.i / 64 / 64) 0 l.top_sums c.take_out-then-take_out-2.ensures.put
    was is)

pub invariant_of-self-else-take_out-2 : goal.invariant_of-self-else-take_out-2
invariant_of-self-else-take_out-2 c =
    let l = c.self.invariant in
    let s = c.self.inside in
    let is = filled_if c.take_out-then-take_out.result (slice_index c.take_out-then-take_out.new.words.items (c.args.i / 64 / 64))
    c.take_out-then-take_out.ensures.is c.if-take_out-2.false in
    let less = c.take_out-then-take_out.ensures.less in
    let was : 0 < slice_index s.first.items (c.args.i / 64 / 64) = omega arith in
    levels_of s.base.items s.first.items s.second.items s.top.items c.take_out.new.words.items c.take_out-then-take_out.new.words.items s.second.items
    s.top.items l c.take_out.ensures.put.room c.take_out-then-take_out.ensures.put.room refl refl
    (sums_out s.first.items s.base.items c.take_out.new.words.items c.args.i 0 l.first_sums c.take_out.ensures.put c.take_out-then-take_out.new.words.items
    c.take_out-then-take_out.ensures.put (c.take_out.ensures.is.0 c.if-take_out.true))
    (sums_kept s.second.items s.first.items c.take_out-then-take_out.new.words.items (c.args.i / 64) 0 l.second_sums c.take_out-then-take_out.ensures.put was
    is)
    l.top_sums

pub invariant_of-self-else-take_out : goal.invariant_of-self-else-take_out
invariant_of-self-else-take_out c =
    let l = c.self.invariant in
    let s = c.self.inside in
    let is = filled_if c.take_out.result (slice_index c.take_out.new.words.items (c.args.i / 64)) c.take_out.ensures.is c.if-take_out.false in
    let less = c.take_out.ensures.less in
    let was : 0 < slice_index s.base.items (c.args.i / 64) = omega arith in
    levels_of s.base.items s.first.items s.second.items s.top.items c.take_out.new.words.items s.first.items s.second.items s.top.items l
    c.take_out.ensures.put.room refl refl refl
    (sums_kept s.first.items s.base.items c.take_out.new.words.items c.args.i 0 l.first_sums c.take_out.ensures.put was is)
    l.second_sums
    l.top_sums
