-- A run that is found beside another: its places get the label of the component.
-- Lemmas over lists of labels and of runs to be followed.
use Rattle.std.proofs.Common.{◌≡◌, ℕ, suc, ◌+◌, ◌-◌, ◌/◌, ◌%◌, ◌<◌, ◌≤◌, List, [], ◌∷◌, ◌++◌, length, slice_index, get_or, arith, refl, sym, ◌∙◌, subst}
use Rattle.std.proofs.Common.{◌⊎◌, inl, inr}
use Rattle.std.specs.Prelude.{Bool, true, false, Option, Some}
use Rattle.std.proofs.lemmas.List.Elements.{Contains-push, Contains-append_left, Contains-push_cases}
use Rattle.std.proofs.lemmas.Bool.{false_from_ne_true}
use Rattle.std.proofs.Math.Nat.{mod-lt, div-add-mod}
use native.Mathlib.Decide.{dec_lt}
use Rattle.shape_terms.specs.Parts.{Connected}
use Rattle.shape_terms.proofs.Paths.{joined_to, in_greater}
use Rattle.shape_adj.specs.declared.run.Run.{Run}
use Rattle.shape_adj.specs.Flood.{Flooding, Put}
use Rattle.shape_adj.specs.RowNets.{IsRowNet}
use Rattle.shape_adj.specs.Labels.{Kept, InRun, InWork, relabelled, IsLabelled, Growing, Followed, Grown, IsTaken}
use Rattle.shape_adj.specs.Todo.{Marked, IsTodo, trues}
use Rattle.shape_adj.proofs.Flooding.{flood_grow, flood_drop, flood_work}
use Rattle.shape_adj.proofs.Relabelling.{dec_run, length-relabelled, relabelled_in, relabelled_out, relabelled_put, left_true, todo_filled, fewer_trues}
use Rattle.shape_adj.proofs.RunLines.{in_row, of_row, joined_run}

-- a place of the set whose value is false has a label
pub todo_not : (size : ℕ) (O : ℕ → Type 0) (labels : List ℕ) (values : List Bool) → IsTodo size O labels values → (q : ℕ) → O q
    → get_or values q false ≡ false → slice_index labels q ≡ 0 → ⊥
todo_not size O labels values t q o f z = let m : false ≡ true = sym f ∙ (t.exactly q).1 (o, z) in cc

-- a value is true or not
pub unmarked : (values : List Bool) (q : ℕ) → (Marked values q → ⊥) → get_or values q false ≡ false
unmarked values q n = false_from_ne_true (get_or values q false) n

-- ---- a run that is taken

module _ (row : Run) (q width label : ℕ) (labels : List ℕ) (values values' : List Bool) (r : Run) (t : IsTaken row q values values' r) where
  -- fewer values are true
  pub taken_fewer : (x : ℕ) → Marked values' x → Marked values x
  taken_fewer x m = (left_true values values' r.from r.until t.filled x m).0

  pub taken_less : trues values' + 1 ≤ trues values
  taken_less = fewer_trues values values' r.from r.until t.filled q t.low t.high (t.all q (t.low, t.high))

  -- a run that has its labels keeps them
  pub labelled_still : (size : ℕ) (O : ℕ → Type 0) → IsTodo size O labels values → (s : Run) → 1 ≤ label → IsLabelled width label labels values s
      → IsLabelled width label (relabelled labels r.from r.until label) values' s
  labelled_still size O todo s one l = record {
    start = l.start;
    row = l.row;
    on = l.on;
    some = l.some;
    within = l.within;
    inside = let a = l.inside in omega (arith, length-relabelled labels r.from r.until label);
    each = λ x h. relabelled_out labels r.from r.until label x (λ a b. let z = ((todo.exactly x).0 (t.all x (a, b))).1 in let e = l.each x h in omega arith)
        ∙ l.each x h;
    before = λ x e a m. l.before x e a (taken_fewer x m);
    behind = λ a m. l.behind a (taken_fewer s.until m);
  }

  -- and the run has its own
  pub labelled_new : row.from % width ≡ 0 → row.until ≡ row.from + width → row.until ≤ length labels
      → IsLabelled width label (relabelled labels r.from r.until label) values' r
  labelled_new e f l = record {
    start = row.from;
    row = e;
    on = t.on;
    some = let a = t.low in let b = t.high in omega arith;
    within = let a = t.within in omega arith;
    inside = let a = t.within in omega (arith, length-relabelled labels r.from r.until label);
    each = λ x h. relabelled_in labels r.from r.until label x h.0 h.1 (let a = t.within in let b = h.1 in omega arith);
    before = λ x a b m. let z : false ≡ true = sym (t.before x a b) ∙ taken_fewer x m in cc;
    behind = λ a m. let z : false ≡ true = sym (t.behind (omega arith)) ∙ taken_fewer r.until m in cc;
  }

module _ (O : ℕ → Type 0) (R : ℕ → ℕ → Type 0) (size width reach d : ℕ) (beside : ℕ → ℕ → Option ℕ) (net : IsRowNet size width reach O R d beside)
    (row : Run) (q label : ℕ) (labels : List ℕ) (values values' : List Bool) (r : Run) (t : IsTaken row q values values' r)
    (todo : IsTodo size O labels values) (first : row.from % width ≡ 0) (last : row.until ≡ row.from + width) (inside : row.until ≤ size)
    (same : length labels ≡ size) where
  -- the places of the run are of the set, and have no label yet
  pub taken_in : (x : ℕ) → InRun r x → O x
  taken_in x h = ((todo.exactly x).0 (t.all x h)).0

  pub taken_none : (x : ℕ) → InRun r x → slice_index labels x ≡ 0
  taken_none x h = ((todo.exactly x).0 (t.all x h)).1

  pub taken_put : Put (slice_index labels) (slice_index (relabelled labels r.from r.until label)) (InRun r) label
  taken_put = relabelled_put labels r.from r.until label r refl refl (let a = t.within in omega arith)

  pub taken_todo : 1 ≤ label → IsTodo size O (relabelled labels r.from r.until label) values'
  taken_todo one = todo_filled values values' r.from r.until t.filled size O labels label one (let a = t.within in omega arith) todo

  pub taken_kept : (start : List ℕ) → Kept start labels → Kept start (relabelled labels r.from r.until label)
  taken_kept start k i l =
      relabelled_out labels r.from r.until label i (λ a b. let z = taken_none i (a, b) in let e = k i l in omega arith) ∙ k i l

  -- they are connected with one another
  pub taken_joined : (Y : ℕ → Type 0) → ((x : ℕ) → InRun r x → Y x) → (x : ℕ) → InRun r x → Connected R Y q x
  taken_joined Y y x h =
      joined_run R Y net.symmetric r.from r.until (λ i a b. y i (a, b)) (λ i a b.
      let u = in_row width row.from i first (let c = t.on in omega arith) (let c = t.within in omega arith) in
      let v = in_row width row.from (suc i) first (let c = t.on in omega arith) (let c = t.within in omega arith) in
      net.along i (let c = t.within in omega arith) (v.0 ∙ sym u.0)) q x t.low t.high h.0 h.1

-- ---- one run whose neighbours are labelled

module _ (O : ℕ → Type 0) (R : ℕ → ℕ → Type 0) (size width reach d : ℕ) (beside : ℕ → ℕ → Option ℕ) (net : IsRowNet size width reach O R d beside)
    (run : Run) (label : ℕ) (start labels : List ℕ) (values : List Bool) (work : List Run)
    (w : Followed O R size width run label start labels values work) where
  abbrev g : Growing O R size width label (λ x. InRun run x ⊎ InWork work x) labels values work
  g = w.following.growing

  abbrev n : ℕ
  n = g.spreading.0

  e : label ≡ suc n
  e = g.spreading.2

  f : Flooding O R n g.spreading.1 (λ x. InRun run x ⊎ InWork work x) (slice_index labels)
  f = g.spreading.3

  -- a run beside it gets the label
  pub follow_new : (row : Run) (q p : ℕ) (values' : List Bool) (r : Run) → IsTaken row q values values' r → row.from % width ≡ 0
      → row.until ≡ row.from + width → row.until ≤ size → InRun run p → R p q
      → Followed O R size width run label start (relabelled labels r.from r.until label) values' (work ++ r ∷ [])
  follow_new row q p values' r t first last inside here rq = record {
    kept = taken_kept O R size width reach d beside net row q label labels values values' r t g.todo first last inside g.same start w.kept;
    following = record {
      here = labelled_still row q width label labels values values' r t size O g.todo run (omega arith) w.following.here;
      growing = record {
        same = length-relabelled labels r.from r.until label ∙ g.same;
        todo = taken_todo O R size width reach d beside net row q label labels values values' r t g.todo first last inside g.same (let a = e in omega arith);
        spreading = (n, g.spreading.1, e, flood_work (flood_grow net.symmetric (dec_run r) f is_in is_none put joined) more);
        labelled = λ s h. elim (Contains-push_cases work r s h) [
          | inl a ↦ labelled_still row q width label labels values values' r t size O g.todo s (let b = e in omega arith) (g.labelled s a)
          | inr a ↦ subst (IsLabelled width label (relabelled labels r.from r.until label) values') a
              (labelled_new row q width label labels values values' r t first last (let b = g.same in omega arith))
        ];
      };
    };
  }
    where
      is_in : (x : ℕ) → InRun r x → O x
      is_in = taken_in O R size width reach d beside net row q label labels values values' r t g.todo first last inside g.same

      is_none : (x : ℕ) → InRun r x → slice_index labels x ≡ 0
      is_none = taken_none O R size width reach d beside net row q label labels values values' r t g.todo first last inside g.same

      put : Put (slice_index labels) (slice_index (relabelled labels r.from r.until label)) (InRun r) (suc n)
      put = subst (λ v. Put (slice_index labels) (slice_index (relabelled labels r.from r.until label)) (InRun r) v) e
          (taken_put O R size width reach d beside net row q label labels values values' r t g.todo first last inside g.same)

      keeps : (x : ℕ) → slice_index labels x ≡ suc n → slice_index (relabelled labels r.from r.until label) x ≡ suc n
      keeps x h = put.there x (λ a. let z = is_none x a in omega arith) ∙ h

      joined : (x : ℕ) → InRun r x → Connected R (λ y. slice_index (relabelled labels r.from r.until label) y ≡ suc n) g.spreading.1 x
      joined x h =
          let l : slice_index labels p ≡ suc n = w.following.here.each p here ∙ e in
          joined_to (in_greater keeps (f.grown p l)) (Connected.onward (keeps p l) rq
          (taken_joined O R size width reach d beside net row q label labels values values' r t g.todo first last inside g.same
          (λ y. slice_index (relabelled labels r.from r.until label) y ≡ suc n) put.here x h))

      more : (x : ℕ) → InRun r x ⊎ (InRun run x ⊎ InWork work x) → InRun run x ⊎ InWork (work ++ r ∷ []) x
      more x (inl i) = inr (r, Contains-push work r, i)
      more x (inr (inl i)) = inl i
      more x (inr (inr i)) = inr (i.0, Contains-append_left work (r ∷ []) i.0 i.1, i.2)

  -- a place of the set that is adjacent to the run and whose value is false has the label
  pub follow_labelled : (p q : ℕ) → InRun run p → O q → R p q → (Marked values q → ⊥) → slice_index labels q ≡ suc n
  follow_labelled p q here o rq none =
      let l : slice_index labels p ≡ label = w.following.here.each p here in
      let z = todo_not size O labels values g.todo q o (unmarked values q none) in
      let top = f.top q in
      elim (dec_lt n (slice_index labels q)) [
        | yes h ↦ omega arith
        | no h ↦ absurd (
            let c : slice_index labels q ≡ 0 → ⊥ = z in
            let b : (1 ≤ slice_index labels p) × (slice_index labels p ≤ n) =
            f.old_shut q p (omega arith) (omega arith) (f.member p (let a = e in omega arith)) (net.symmetric p q rq) in
            let a = e in
            let c = b.1 in
            omega arith)
      ]

  -- no place beside the run lacks a label
  pub follow_end : (first : ℕ) → first % width ≡ 0 → first ≤ run.from → run.until ≤ first + width
      → ((k other x y : ℕ) → k < d → beside first k ≡ Some other → InRun run (first + x) → y < width → x ≤ y + reach → y ≤ x + reach → Marked values (other +
      y) → ⊥)
      → Grown O R size width label start labels values work
  follow_end first whole on within done = record {
    kept = w.kept;
    growing = record {
      same = g.same;
      todo = g.todo;
      spreading = (n, g.spreading.1, e, flood_drop net.symmetric (dec_run run) f all (λ x h. h));
      labelled = g.labelled;
    };
  }
    where
      here : IsLabelled width label labels values run
      here = w.following.here

      -- the row of the run has one first place
      starts : here.start ≡ first
      starts =
          let u = in_row width first run.from whole on (let a = here.some in omega arith) in
          let v = in_row width here.start run.from here.row here.on (let a = here.some in let b = here.within in omega arith) in
          let a = u.1 in let b = v.1 in let c = here.on in omega arith

      beside_it : (p q : ℕ) → InRun run p → q / width ≡ p / width → (q ≡ suc p) ⊎ (p ≡ suc q) → Marked values q → InRun run q ⊎ ⊥
      beside_it p q h same (inl b) m = elim (dec_lt q run.until) [
        | yes l ↦ inl (let a = h.0 in omega arith, l)
        | no l ↦ inr (
            let u = in_row width first p whole (let a = h.0 in omega arith) (let a = h.1 in omega arith) in
            let v = of_row width first q net.some whole (same ∙ u.0) in
            let s = starts in
            let i : q ≡ run.until = (let a = h.1 in omega arith) in
            here.behind (let a = v.1 in omega arith) (subst (Marked values) i m))
      ]
      beside_it p q h same (inr b) m = elim (dec_lt q run.from) [
        | yes l ↦ inr (
            let u = in_row width first p whole (let a = h.0 in omega arith) (let a = h.1 in omega arith) in
            let v = of_row width first q net.some whole (same ∙ u.0) in
            let s = starts in
            here.before q (let a = h.0 in omega arith) (let a = v.0 in omega arith) m)
        | no l ↦ inl (omega arith, let a = h.1 in omega arith)
      ]

      not_marked : (p q : ℕ) → InRun run p → O q → R p q → Marked values q → ⊥
      not_marked p q h o rq m = elim (net.complete p q (f.member p (let l = here.each p h in let a = e in omega arith)) o rq) [
        | inl b ↦ elim (beside_it p q h b.0 b.1 m) [
          | inl i ↦ (let z = ((g.todo.exactly q).0 m).1 in let l = here.each q i in let a = e in omega arith)
          | inr i ↦ i
        ]
        | inr b ↦ (
            let u = in_row width first p whole (let a = h.0 in omega arith) (let a = h.1 in omega arith) in
            let x : p ≡ first + p % width = (let a = h.0 in let c = u.1 in omega arith) in
            let s : p - p % width ≡ first = omega arith in
            let y : q ≡ q - q % width + q % width = (let c = div-add-mod q width in omega arith) in
            done b.0 (q - q % width) (p % width) (q % width) b.1 (subst (λ v. beside v b.0 ≡ Some (q - q % width)) s b.2) (subst (InRun run) x h)
            (mod-lt q net.some) b.3 b.4 (subst (Marked values) y m))
      ]

      all : (p q : ℕ) → InRun run p → O q → R p q → slice_index labels q ≡ suc n
      all p q h o rq = follow_labelled p q h o rq (not_marked p q h o rq)
