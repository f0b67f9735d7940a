use Rattle.std.proofs.Common.{◌≡◌, ℕ, ◌+◌, ◌*◌, ◌<◌, ◌≤◌, [], ◌∷◌, ◌++◌, length, flat_map, sym, ap, ◌∙◌, arith}
use Rattle.std.proofs.lemmas.Result.{err_from_is_err_and}
use Rattle.std.proofs.lemmas.List.{length_push}
use Rattle.shape_terms.specs.Points.{box_count}
use Rattle.shape_desk.specs.declared.desk.Place.TheVariants.{Picture}
use Rattle.shape_desk.proofs.Writes.{OnlyReadsAt-more}
use Rattle.shape_terms.specs.Limits.{most_flat, most_bytes}
use Rattle.shape_picture.specs.Answers.{pbm}
use Rattle.shape_picture.specs.Pbm.{number_value, bits_of, row_pixels}
use Rattle.shape_picture.specs.Raster.{byte_pixels}
use Rattle.shape_picture.proofs.Grammar.{times_one}
use Rattle.shape_picture.proofs.RowBytes.{room_left}
use Rattle.shape_picture.proofs.RowSteps.{same_sides, rows_next, rows_spelled, rows_unfinished}
use Rattle.shape_picture.proofs.ByteSteps.{stops_long, stops_earlier, picture_last}
use Rattle.shape_picture.proofs.pbm.read_rows.Goals as goal

pub returns-in_err-c-clause-answer : goal.returns-in_err-c-clause-answer
returns-in_err-c-clause-answer g c = λ all h.
    let r = c.loop-at.invariant.0 all h in
    let p = err_from_is_err_and c.from_residual.result c.from_residual.ensures.1 in
    rw (p.1, p.2) (stops_earlier (pbm most_flat most_bytes) all _ _ _ _ _ c.loop-at.invariant.4.only.later
    (c.in_err-c.ensures.answer all r.front r.taken (rows_unfinished most_flat r.known)))

pub put_bits-requires-clause-room : goal.put_bits-requires-clause-room
put_bits-requires-clause-room g c =
    let w = c.args.heading.width in
    let h = c.args.heading.height in
    let b : box_count c.loop-at.grid.sides ≡ w * h = ap box_count (c.loop-at.invariant.1 ∙ c.requires.sides) ∙ times_one w h in
    let r : c.loop-at.count + byte_pixels w c.loop-at.count ≤ w * h = room_left w h c.loop-at.count c.requires.some_width
    (omega (arith, c.loop-at.invariant.2, c.loop-at.invariant.3)) in
    rw (b, (c.pixels_ahead-pixels.ensures c.loop-at.count c.loop-at.invariant.5)) r

pub returns-then-count-total-clause-answer : goal.returns-then-count-total-clause-answer
returns-then-count-total-clause-answer g c = λ all h.
    let r = c.loop-at.invariant.0 all h in
    let p = r.known in
    let t = c.in_ok-c.ensures.answer all r.front r.taken (rows_unfinished most_flat p) in
    let s = same_sides p (c.loop-at.invariant.1 ∙ c.requires.sides) in
    let count = (c.pixels_ahead-pixels.ensures c.loop-at.count c.loop-at.invariant.5) ∙ ap (λ (w : ℕ). byte_pixels w c.loop-at.count) (sym s.0) in
    let n : c.loop-at.count + c.pixels_ahead-pixels.result ≡ number_value p.width * number_value p.height = c.if-count-total.true ∙ c.loop-at.invariant.2
    ∙ sym s.1 in
    let few : length r.front < most_bytes = omega (arith, r.taken.many, c.loop-at-test.true) in
    let known = flat_map (row_pixels (number_value p.width)) p.rows ++ flat_map bits_of p.row in
    let v = c.put_bits.ensures.values known (number_value p.width * number_value p.height) p.first.count (omega (arith, n)) p.first.values in
    picture_last most_flat most_bytes (c.loop-at.at + 1) all ((g.D.Desk.state c.next_byte.new.desk).left Picture) c.next_byte.new.bytes
    (r.front ++ c.in_ok-c.c ∷ []) c.put_bits.new.grid
    (λ rest. rw (length_push r.front c.in_ok-c.c)
    (rows_spelled most_flat c.loop-at.grid c.put_bits.new.grid c.loop-at.count c.pixels_ahead-pixels.result r.front c.in_ok-c.c p count most_bytes rest
    c.put_bits.ensures.sides v n few)) t

pub loop-at-preserved : goal.loop-at-preserved
loop-at-preserved g c =
    let w = c.args.heading.width in
    let k = c.args.heading.height in
    let total : c.count-total.result ≡ w * k = c.loop-at.invariant.2 in
    let room : c.loop-at.count + byte_pixels w c.loop-at.count ≤ w * k = room_left w k c.loop-at.count c.requires.some_width
    (omega (arith, c.loop-at.invariant.3, total)) in
    let within : c.loop-at.count + c.pixels_ahead-pixels.result ≤ w * k = rw (c.pixels_ahead-pixels.ensures c.loop-at.count c.loop-at.invariant.5) room in
    let less : c.loop-at.count + c.pixels_ahead-pixels.result < c.count-total.result = omega (arith, within, total, c.if-count-total.false) in (
      λ all h.
          let r = c.loop-at.invariant.0 all h in
          let p = r.known in
          let t = c.in_ok-c.ensures.answer all r.front r.taken (rows_unfinished most_flat p) in
          let s = same_sides p (c.loop-at.invariant.1 ∙ c.requires.sides) in
          let count = (c.pixels_ahead-pixels.ensures c.loop-at.count c.loop-at.invariant.5) ∙ ap (λ (w : ℕ). byte_pixels w c.loop-at.count) (sym s.0) in
          let n : c.loop-at.count + c.pixels_ahead-pixels.result < number_value p.width * number_value p.height = omega (arith, s.1, total, less) in
          let known = flat_map (row_pixels (number_value p.width)) p.rows ++ flat_map bits_of p.row in
          let v = c.put_bits.ensures.values known (number_value p.width * number_value p.height) p.first.count (omega (arith, n)) p.first.values in
          record {
            front = _;
            known = rows_next most_flat c.loop-at.grid c.put_bits.new.grid c.loop-at.count c.pixels_ahead-pixels.result r.front c.in_ok-c.c p
                count c.put_bits.ensures.sides v n;
            taken = t;
          },
      c.put_bits.ensures.sides ∙ c.loop-at.invariant.1,
      c.loop-at.invariant.2,
      less,
      OnlyReadsAt-more c.loop-at.invariant.4 c.in_ok-c.ensures.reads,
      c.column_after-column.ensures c.loop-at.count c.loop-at.invariant.5,
    )

pub returns-clause-answer : goal.returns-clause-answer
returns-clause-answer g c = λ all h.
    let r = c.loop-at.invariant.0 all h in
    stops_long most_flat most_bytes c.loop-at.at all ((g.D.Desk.state c.loop-at.desk).left Picture) c.loop-at.bytes r.front
    (g.D.Desk.state c.args.desk.now).read_faults (g.D.Desk.state c.loop-at.desk).read_faults r.taken c.loop-at-test.false
    (rows_unfinished most_flat r.known)
