use Rattle.std.proofs.Common.{◌≡◌, ◌<◌, ℕ, ◌∙◌, rules, sym, ap, arith, length, List, Bool, Option}
use Rattle.std.specs.Prelude.{MatchOption}
use Rattle.std.proofs.lemmas.List.{length-replicate}
use Rattle.shape_cells.specs.Held.{Held, HasCell}
use Rattle.shape_queue.specs.SpotCells.{no_spot, kept_in}
use Rattle.shape_queue.proofs.SpotLaws.{kept_are, new_long, new_none}
use Rattle.shape_queue.proofs.spots.Spots.new.Goals as goal

-- the places with a cell are those of the distances
same_kept : (held : Held ℕ) (len : ℕ) → len ≡ length held.values → length held.kept ≡ length held.values → (width : ℕ) (objects : Option (List Bool))
    → MatchOption objects ((i : ℕ) → i < length held.values → HasCell held i) (λ values. values ≡ held.kept) → kept_in objects len ≡ held.kept
same_kept held len e m width objects are = kept_are width len held.kept (m ∙ sym e) objects (rw e are)

pub returns-clause-kept : goal.returns-clause-kept
returns-clause-kept c =
    let n = c.len-len.ensures in
    same_kept c.args.distances.now c.len-len.result n.places n.marks c.clamp-width.result c.in_ok-objects.objects c.in_ok-objects.ensures

pub returns-clause-long : goal.returns-clause-long
returns-clause-long c =
    let n = c.len-len.ensures in
    let same = same_kept c.args.distances.now c.len-len.result n.places n.marks c.clamp-width.result c.in_ok-objects.objects c.in_ok-objects.ensures in
    rw c.in_ok-cells.ensures
    (new_long c.clamp-width.result c.len-len.result c.args.distances.now.kept
    (n.marks ∙ sym n.places) c.in_ok-objects.objects same c.room_of-room.result ∙ n.places)

pub returns-clause-none : goal.returns-clause-none
returns-clause-none c =
    let n = c.len-len.ensures in
    let same = same_kept c.args.distances.now c.len-len.result n.places n.marks c.clamp-width.result c.in_ok-objects.objects c.in_ok-objects.ensures in
    rw c.in_ok-cells.ensures
    (new_none c.clamp-width.result c.len-len.result c.args.distances.now.kept (n.marks ∙ sym n.places) c.in_ok-objects.objects same c.room_of-room.result)

pub invariant_of-result : goal.invariant_of-result
invariant_of-result c =
    let n = c.len-len.ensures in
    let same = same_kept c.args.distances.now c.len-len.result n.places n.marks c.clamp-width.result c.in_ok-objects.objects c.in_ok-objects.ensures in
    record {
      some = search rules;
      most = search rules;
      few = omega (arith, n.places, c.requires);
      long = ap length same ∙ n.marks ∙ sym n.places;
      room = ap length c.in_ok-cells.ensures ∙ length-replicate c.room_of-room.result no_spot ∙ c.room_of-room.ensures;
    }
