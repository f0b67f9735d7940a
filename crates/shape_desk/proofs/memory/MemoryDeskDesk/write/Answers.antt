use Rattle.std.proofs.Common.{◌≡◌, ◌+◌, ◌-◌, ◌++◌, ◌||◌, not, min, length, take, Some, refl, ap, sym, ◌∙◌}
use Rattle.std.proofs.lemmas.List.{with_items_is, length-take-le}
use Rattle.shape_desk.specs.Memory.{next_is_bad, after_call}
use Rattle.shape_desk.specs.MemoryView.{state_of, writes_of}
use Rattle.shape_desk.proofs.Files.{full_is, puts_some, rose_next, wrote}
use Rattle.shape_desk.proofs.memory.MemoryDeskDesk.write.Goals as goal

pub returns-then-count-clause-answer : goal.returns-then-count-clause-answer
returns-then-count-clause-answer c =
    let d = c.args.self.now in
    record {
      put = refl;
      failed = rose_next d.writes.faults c.count.new.self.faults
          (ap (λ w. w.faults) (c.count.ensures.counted ∙ ap (λ b. after_call b (writes_of d)) c.if-count.true));
      only = wrote (state_of d) _ c.count.new.self.faults c.count.ensures.later;
    }

pub returns-then-count-clause-succeeds : goal.returns-then-count-clause-succeeds
returns-then-count-clause-succeeds c =
    let d = c.args.self.now in
    ap not (sym c.if-count.true ∙ c.count.ensures.failed
    ∙ ap (λ b. next_is_bad (writes_of d) || b) (sym (full_is d.room.items d.used c.len.result d.fits (c.len.ensures ∙ d.room.ok.0))))

pub returns-then-count-clause-writes : goal.returns-then-count-clause-writes
returns-then-count-clause-writes c = c.count.ensures.counted ∙ ap (λ b. after_call b (writes_of c.args.self.now)) c.if-count.true

pub returns-clause-answer : goal.returns-clause-answer
returns-clause-answer c =
    let d = c.args.self.now in
    let p = c.put_at-count in
    let room : c.deref_mut.result.now ≡ d.room.items = c.deref_mut.ensures.value in
    let some = puts_some (next_is_bad (writes_of d)) c.args.bytes.now d.room.items d.used c.len.result d.piece p.result c.requires d.fits
    (c.len.ensures ∙ d.room.ok.0) d.moves (sym c.if-count.false ∙ c.count.ensures.failed)
    (p.ensures.count ∙ ap (λ l. min (min (length c.args.bytes.now) (length l - d.used)) d.piece) room) in
    record {
      put = (
        some.0,
        some.1,
        ap Some (ap (take (d.used + p.result)) (with_items_is d.room p.new.room (p.ensures.length ∙ c.deref_mut.ensures.len)) ∙ p.ensures.put
            ∙ ap (λ l. take d.used l ++ take p.result c.args.bytes.now) room),
      );
      failed = tt;
      only = wrote (state_of d) _ c.count.new.self.faults c.count.ensures.later;
    }

pub returns-clause-succeeds : goal.returns-clause-succeeds
returns-clause-succeeds c =
    let d = c.args.self.now in
    ap not (sym c.if-count.false ∙ c.count.ensures.failed
    ∙ ap (λ b. next_is_bad (writes_of d) || b) (sym (full_is d.room.items d.used c.len.result d.fits (c.len.ensures ∙ d.room.ok.0))))

pub returns-clause-count : goal.returns-clause-count
returns-clause-count c =
    let d = c.args.self.now in
    let room : c.deref_mut.result.now ≡ d.room.items = c.deref_mut.ensures.value in
    c.put_at-count.ensures.count
    ∙ ap (λ k. min (min (length c.args.bytes.now) k) d.piece)
    (ap (λ l. length l - d.used) room ∙ ap (λ k. length d.room.items - k) (sym (length-take-le d.used d.room.items d.fits)))

pub returns-clause-writes : goal.returns-clause-writes
returns-clause-writes c = c.count.ensures.counted ∙ ap (λ b. after_call b (writes_of c.args.self.now)) c.if-count.false

pub returns-clause-limits : goal.returns-clause-limits
returns-clause-limits c =
    let d = c.args.self.now in
    let p = c.put_at-count in
    ap (λ n. record { piece = d.piece; room = n }) (ap length (with_items_is d.room p.new.room (p.ensures.length ∙ c.deref_mut.ensures.len)) ∙ p.ensures.length
    ∙ ap length c.deref_mut.ensures.value)
