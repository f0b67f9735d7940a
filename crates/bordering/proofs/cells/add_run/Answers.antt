use Rattle.std.proofs.Common.{ap, sym, ◌∙◌, ◌≡◌, ◌-◌, length, subst}
use Rattle.std.proofs.lemmas.List.{length-map}
use Rattle.bordering.specs.Told.{flat, flats, run_told}
use Rattle.bordering.specs.Cells.{ArePassed}
use Rattle.bordering.proofs.Passing.{run_put}
use Rattle.bordering.proofs.Sizes.{room_after}
use Rattle.bordering.proofs.cells.add_run.Goals as goal

pub add_shares-requires-2-clause-room : goal.add_shares-requires-2-clause-room
add_shares-requires-2-clause-room c = room_after (flats c.args.points.now) (run_told c.new-along.result.run) c.args.run.first c.args.run.last c.args.cells.now
    c.add_shares.new.cells c.add_shares.ensures.passed c.requires.room

pub returns : goal.returns
returns c = λ runs h.
    let ps = flats c.args.points.now in
    let r = c.args.run in
    let old = c.args.cells.now in
    let mid = c.add_shares.new.cells in
    let new = c.add_shares-2.new.cells in
    let n : length c.args.points.now ≡ length ps = sym (length-map c.args.points.now flat) in
    let a : c.saturating_sub.result ≡ r.first - length ps = c.saturating_sub.ensures ∙ ap (λ m. r.first - m) n in
    let b : c.saturating_sub-2.result ≡ r.last - length ps = c.saturating_sub-2.ensures ∙ ap (λ m. r.last - m) n in
    let same = c.add_shares.ensures.same ∙ c.new-along.ensures in
    let one = subst (λ k. ArePassed ps (run_told k) r.first r.last old mid) c.new-along.ensures c.add_shares.ensures.passed in
    let two = subst (λ k. ArePassed ps (run_told k) (r.first - length ps) (r.last - length ps) mid new) same
    (subst (λ x. ArePassed ps (run_told c.add_shares.new.along.run) x (r.last - length ps) mid new) a
    (subst (λ y. ArePassed ps (run_told c.add_shares.new.along.run) c.saturating_sub.result y mid new) b c.add_shares-2.ensures.passed)) in
    run_put ps runs (run_told r) old mid new h one two
