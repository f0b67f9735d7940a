use Rattle.std.proofs.Common.{arith, ◌≡◌, ◌<◌, ◌≤◌, ◌+◌, ◌*◌, refl, subst, ◌∙◌, ap, length, inl, inr}
use Rattle.shape_terms.specs.Points.{box_count}
use Rattle.shape_terms.proofs.Boxes.{few_pixels}
use Rattle.shape_crack.specs.MarkBits.{is_marked}
use Rattle.shape_crack.proofs.Listing.{Listing, listing_none, listing_no_crack, listing_taken, listing_passed, listing_blank, listing_all}
use Rattle.shape_terms.proofs.NextObjects.{next_object, blank_to_end}
use Rattle.shape_crack.proofs.cycles.contours.Goals as goal
use Rattle.shape_crack.proofs.cycles.contours.Goals.{then-is_top+in_ok-take, else-is_top, then-is_bottom+in_ok-take-2, else-is_bottom}

pub loop-i-init : goal.loop-i-init
loop-i-init c = record {
  listing = rw c.new-list.ensures.items (listing_none c.args.grid.now c.sides.ensures.picture.axes (is_marked c.in_ok-marks.marks) c.in_ok-marks.ensures.none);
  room = c.in_ok-marks.ensures.room;
  low = omega arith;
}

pub is_top-requires-clause-object : goal.is_top-requires-clause-object
is_top-requires-clause-object c =
    let X = c.args.grid.now in
    let all : c.count-count.result ≡ box_count X.sides = c.count-count.ensures.value ∙ ap box_count c.sides.ensures.value in
    let l : c.in-Some.i < box_count X.sides = c.in-Some.ensures.below in
    let n = next_object X c.loop-i.next c.in-Some.i (omega (arith, c.loop-i.invariant.low)) l c.in-Some.ensures.next in
    n.object

pub is_bottom-requires-clause-object : goal.is_bottom-requires-clause-object
is_bottom-requires-clause-object c =
    let X = c.args.grid.now in
    let all : c.count-count.result ≡ box_count X.sides = c.count-count.ensures.value ∙ ap box_count c.sides.ensures.value in
    let l : c.in-Some.i < box_count X.sides = c.in-Some.ensures.below in
    let n = next_object X c.loop-i.next c.in-Some.i (omega (arith, c.loop-i.invariant.low)) l c.in-Some.ensures.next in
    n.object

pub loop-i-smaller : goal.loop-i-smaller
loop-i-smaller c =
    let X = c.args.grid.now in
    let all : c.count-count.result ≡ box_count X.sides = c.count-count.ensures.value ∙ ap box_count c.sides.ensures.value in
    let l : c.in-Some.i < box_count X.sides = c.in-Some.ensures.below in
    let n = next_object X c.loop-i.next c.in-Some.i (omega (arith, c.loop-i.invariant.low)) l c.in-Some.ensures.next in
    let a = n.low in
    omega arith

pub loop-i-preserved : goal.loop-i-preserved
loop-i-preserved c =
    let X = c.args.grid.now in
    let axes = c.sides.ensures.picture.axes in
    let i = c.in-Some.i in
    let all : c.count-count.result ≡ box_count X.sides = c.count-count.ensures.value ∙ ap box_count c.sides.ensures.value in
    let l : c.in-Some.i < box_count X.sides = c.in-Some.ensures.below in
    let n = next_object X c.loop-i.next c.in-Some.i (omega (arith, c.loop-i.invariant.low)) l c.in-Some.ensures.next in
    let found = listing_blank X axes c.loop-i.next i (is_marked c.loop-i.marks) c.loop-i.list.items n.low n.blank c.loop-i.invariant.listing in
    let upper : Listing X (i * 4 + 1) (is_marked c.if-is_top.marks) c.if-is_top.list.items = elim c.if-is_top.branch [
      | then-is_top+in_ok-take w ↦
          rw (w.marks-is, w.list-is)
          (listing_taken X axes i 0 (i * 4) l (omega arith) (omega arith) (is_marked c.loop-i.marks) c.loop-i.list.items found (is_marked w.take.new.marks)
          w.take.new.list.items refl (c.is_top.ensures.0 w.if-is_top.true) w.in_ok-take.ensures.taken)
      | else-is_top w ↦
          rw (w.marks-is, w.list-is)
          (listing_no_crack X axes i 0 (i * 4) l (omega arith) (omega arith) (is_marked c.loop-i.marks) c.loop-i.list.items found
          (λ k. let t = c.is_top.ensures.1 k in let f = w.if-is_top.false in cc))
    ] in
    let right = listing_passed X axes i 1 (i * 4 + 1) l (omega arith) (omega arith) (is_marked c.if-is_top.marks) c.if-is_top.list.items upper (inl refl) in
    let lower : Listing X (i * 4 + 1 + 1 + 1) (is_marked c.if-is_bottom.marks) c.if-is_bottom.list.items = elim c.if-is_bottom.branch [
      | then-is_bottom+in_ok-take-2 w ↦
          rw (w.marks-is, w.list-is)
          (listing_taken X axes i 2 (i * 4 + 1 + 1) l (omega arith) (omega arith) (is_marked c.if-is_top.marks) c.if-is_top.list.items right
          (is_marked w.take-then-is_bottom.new.marks) w.take-then-is_bottom.new.list.items refl (c.is_bottom.ensures.0 w.if-is_bottom.true)
          w.in_ok-take-2.ensures.taken)
      | else-is_bottom w ↦
          rw (w.marks-is, w.list-is)
          (listing_no_crack X axes i 2 (i * 4 + 1 + 1) l (omega arith) (omega arith) (is_marked c.if-is_top.marks) c.if-is_top.list.items right
          (λ k. let t = c.is_bottom.ensures.1 k in let f = w.if-is_bottom.false in cc))
    ] in
    let left = listing_passed X axes i 3 (i * 4 + 1 + 1 + 1) l (omega arith) (omega arith) (is_marked c.if-is_bottom.marks) c.if-is_bottom.list.items lower
    (inr refl) in
    let next : i * 4 + 1 + 1 + 1 + 1 ≡ (i + 1) * 4 = omega arith in
    let above : length c.if-is_top.marks.upper ≡ c.count-count.result = elim c.if-is_top.branch [
      | then-is_top+in_ok-take w ↦ rw w.marks-is (w.take.ensures.room ∙ c.loop-i.invariant.room)
      | else-is_top w ↦ rw w.marks-is c.loop-i.invariant.room
    ] in
    record {
      listing = subst (λ n. Listing X n (is_marked c.if-is_bottom.marks) c.if-is_bottom.list.items) next left;
      room = elim c.if-is_bottom.branch [
        | then-is_bottom+in_ok-take-2 w ↦ rw w.marks-is (w.take-then-is_bottom.ensures.room ∙ above)
        | else-is_bottom w ↦ rw w.marks-is above
      ];
      low = omega arith;
    }

pub from_list-requires : goal.from_list-requires
from_list-requires c =
    let few = few_pixels c.args.grid.now.sides c.is_picture.ensures.picture.axes c.is_picture.ensures.in_range in
    let all : c.count-count.result ≡ box_count c.args.grid.now.sides = c.count-count.ensures.value ∙ ap box_count c.sides.ensures.value in
    omega (arith, few, all, c.loop-i.invariant.listing.few, c.loop-i.invariant.low)

pub returns : goal.returns
returns c =
    let X = c.args.grid.now in
    let axes = c.sides.ensures.picture.axes in
    let all : c.count-count.result ≡ box_count X.sides = c.count-count.ensures.value ∙ ap box_count c.sides.ensures.value in
    let low : c.loop-i.next ≤ box_count X.sides = omega (arith, c.loop-i.invariant.low) in
    let blank = blank_to_end X c.loop-i.next low c.in_default.ensures.next in
    let found = listing_blank X axes c.loop-i.next (box_count X.sides) (is_marked c.loop-i.marks) c.loop-i.list.items low blank c.loop-i.invariant.listing in
    rw c.from_list.ensures (listing_all X axes (box_count X.sides * 4) (is_marked c.loop-i.marks) c.loop-i.list.items found (omega arith))
