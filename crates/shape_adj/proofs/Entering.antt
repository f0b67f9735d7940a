-- Runs that are found beside a run, one after the other: what each of them leaves to be followed, and the window of a row where they are looked for.
-- Lemmas over lists of labels, of truth values and of runs.
use Rattle.std.proofs.Common.{◌≡◌, ℕ, suc, ◌+◌, ◌-◌, ◌*◌, ◌/◌, ◌%◌, ◌<◌, ◌≤◌, Bool, true, false, List, [], ◌∷◌, length, arith, refl, sym, ◌∙◌, ap, subst}
use Rattle.std.proofs.Common.{length-append}
use Rattle.std.specs.Prelude.{Option, Some, None}
use native.Mathlib.Decide.{dec_lt}
use Rattle.shape_grid.specs.Runs.{IsRunEnd}
use Rattle.shape_adj.specs.declared.run.Run.{Run}
use Rattle.shape_adj.specs.RowNets.{IsRowNet}
use Rattle.shape_adj.specs.Labels.{InRun, IsLabelled, Following, Followed, Grown, IsTaken, Took, IsBeside, IsRowAround, NoneBeside, Entered, relabelled}
use Rattle.shape_adj.specs.Todo.{Marked}
use Rattle.shape_adj.proofs.Links.{follow_new, follow_end, taken_fewer, taken_less}
use Rattle.std.proofs.Math.Nat.{div-add-mod, mod-lt, mul-le-mul_left}
use Rattle.shape_terms.proofs.Boxes.{mod_of}
use Rattle.shape_adj.proofs.RunLines.{whole_rows, in_row}

module _ (O : ℕ → Type 0) (R : ℕ → ℕ → Type 0) (size width : ℕ) (run : Run) (label : ℕ) where
  -- nothing is labelled yet
  pub entered_none : (T : List ℕ → Type 0) (values : List Bool) (work : List Run) → Entered O R size width run label T T values values work work
  entered_none T values work = record {
    fewer = λ q m. m;
    less = omega arith;
    followed = λ labels t w. (labels, t, record { kept = λ i l. refl; following = w });
  }

  -- and then more
  pub entered_then : (T T' T'' : List ℕ → Type 0) (old new next : List Bool) (before after then : List Run)
      → Entered O R size width run label T T' old new before after → Entered O R size width run label T' T'' new next after then
      → Entered O R size width run label T T'' old next before then
  entered_then T T' T'' old new next before after then a b = record {
    fewer = λ q m. a.fewer q (b.fewer q m);
    less = let l = a.less in let m = b.less in omega arith;
    followed = λ labels t w.
        let u = a.followed labels t w in
        let v = b.followed u.0 u.1 u.2.following in
        (v.0, v.1, record { kept = λ i l. let k = u.2.kept i l in v.2.kept i (omega arith) ∙ k; following = v.2.following });
  }

  module _ (reach d : ℕ) (beside : ℕ → ℕ → Option ℕ) (net : IsRowNet size width reach O R d beside) where
    -- a run of a row beside it is taken
    pub entered_take : (T T' : List ℕ → Type 0) (old new : List Bool) (before after : List Run) (row window : Run) (q end : ℕ)
        → IsBeside size width R run row window → InRun window q → Took row q label end old new before after T T'
        → Entered O R size width run label T T' old new before after
    entered_take T T' old new before after row window q end b i k = record {
      fewer = taken_fewer row q width label [] old new k.run k.taken;
      less =
          let l = taken_less row q width label [] old new k.run k.taken in
          let e : length after ≡ length before + 1 = ap length k.listed ∙ length-append before (k.run ∷ []) in
          omega arith;
      followed = λ labels t w.
          let p = b.each q i in (
            relabelled labels k.run.from k.run.until label,
            k.told labels t,
            subst (Followed O R size width run label labels (relabelled labels k.run.from k.run.until label) new) (sym k.listed)
                (follow_new O R size width reach d beside net run label labels labels old before (record { kept = λ i l. refl; following = w }) row q p.0
                new k.run k.taken b.first b.last b.inside p.1 p.2),
          );
    }

    -- no place beside it lacks a label
    pub entered_end : (T T' : List ℕ → Type 0) (old new : List Bool) (before after : List Run) → Entered O R size width run label T T' old new before after
        → (first : ℕ) → first % width ≡ 0 → first ≤ run.from → run.until ≤ first + width
        → ((k : ℕ) → k < d → NoneBeside width reach run first (beside first k) new)
        → (labels : List ℕ) → T labels → Following O R size width run label labels old before
        → (more : List ℕ) × T' more × Grown O R size width label labels more new after
    entered_end T T' old new before after e first whole on within done labels t w =
        let u = e.followed labels t w in (
          u.0,
          u.1,
          follow_end O R size width reach d beside net run label labels u.0 new after u.2 first whole on within
              (λ k other x y l. done k l other x y),
        )

-- ---- a row

-- a row that starts below the number of places ends there at the latest
pub row_inside : (size width start : ℕ) → 1 ≤ width → size % width ≡ 0 → start % width ≡ 0 → start < size → start + width ≤ size
row_inside size width start some e f l =
    let a = whole_rows width size e in
    let b = whole_rows width start f in
    elim (dec_lt (start / width) (size / width)) [
      | yes m ↦ (let p = mul-le-mul_left width (let t : suc (start / width) ≤ size / width = omega arith in t) in
          let s : width * suc (start / width) ≡ width * (start / width) + width = grind arith in omega arith)
      | no m ↦ absurd (let p = mul-le-mul_left width (let t : size / width ≤ start / width = omega arith in t) in omega arith)
    ]

-- the first place of the row of a place
pub row_first : (width i : ℕ) → 1 ≤ width → ((i - i % width) % width ≡ 0) × (i - i % width ≤ i) × (i < i - i % width + width)
row_first width i some =
    let e = div-add-mod i width in
    let m = mod-lt i some in
    let p : 0 + width * (i / width) ≡ i - i % width = omega arith in
    (ap (λ v. v % width) (sym p) ∙ mod_of width 0 (i / width) some, omega arith, omega arith)

pub row_around : (size width length s : ℕ) → 1 ≤ width → size % width ≡ 0 → s < size → length ≡ width
    → IsRowAround size width s (record { from = s - s % length; until = s - s % length + length })
row_around size width length s some whole l e = rw e (
    let f = row_first width s some in
    record { first = f.0; last = refl; inside = row_inside size width (s - s % width) some whole f.0 (let a = f.1 in omega arith); low = f.1; high = f.2 })

-- that of a run with the label is the first place of its row
pub run_first : (width label : ℕ) (labels : List ℕ) (values : List Bool) (run : Run) → IsLabelled width label labels values run
    → ((run.from - run.from % width) % width ≡ 0) × (run.from - run.from % width ≤ run.from) × (run.until ≤ run.from - run.from % width + width)
run_first width label labels values run l =
    let a = l.on in
    let b = l.some in
    let c = l.within in
    let u = in_row width l.start run.from l.row l.on (omega arith) in
    let s : l.start ≡ run.from - run.from % width = (let e = u.1 in omega arith) in
    (subst (λ v. v % width ≡ 0) s l.row, omega arith, omega arith)

-- the same of a place that is told to be that one
pub run_start : (width label : ℕ) (labels : List ℕ) (values : List Bool) (run : Run) → IsLabelled width label labels values run → (start : ℕ)
    → start ≡ run.from - run.from % width → (start % width ≡ 0) × (start ≤ run.from) × (run.until ≤ start + width)
run_start width label labels values run l start e =
    let f = run_first width label labels values run l in
    (ap (λ v. v % width) e ∙ f.0, (let a = f.1 in omega arith), (let a = f.2 in omega arith))

-- ---- the window

module _ (run row window : Run) (start width reach : ℕ) (on : start ≤ run.from) (some : run.from < run.until) (within : run.until ≤ start + width)
    (last : row.until ≡ row.from + width) (from : window.from ≡ row.from + (run.from - start - reach))
    (until : window.until ≡ row.until - (row.until - row.from - (run.until - start) - reach)) where
  -- each place of the window is close enough to one of the run
  pub window_close : (q : ℕ) → InRun window q → (x : ℕ) × (y : ℕ) × InRun run (start + x) × (q ≡ row.from + y) × (x < width) × (y < width) × (x ≤ y + reach)
      × (y ≤ x + reach)
  window_close q h =
      let a = h.0 in
      let b = h.1 in
      let y = q - row.from in
      elim (dec_lt y (run.from - start)) [
        | yes l ↦ (run.from - start, q - row.from, (omega arith, omega arith), omega arith, omega arith, omega arith, omega arith, omega arith)
        | no l ↦ elim (dec_lt y (run.until - start)) [
          | yes m ↦ (q - row.from, q - row.from, (omega arith, omega arith), omega arith, omega arith, omega arith, omega arith, omega arith)
          | no m ↦ (run.until - start - 1, q - row.from, (omega arith, omega arith), omega arith, omega arith, omega arith, omega arith, omega arith)
        ]
      ]

  -- and the window has each place of the row that is
  pub window_all : (x y : ℕ) → InRun run (start + x) → y < width → x ≤ y + reach → y ≤ x + reach → InRun window (row.from + y)
  window_all x y h l c d = let a = h.0 in let b = h.1 in (omega arith, omega arith)

  pub window_beside : (O : ℕ → Type 0) (R : ℕ → ℕ → Type 0) (size d : ℕ) (beside : ℕ → ℕ → Option ℕ) (k : ℕ) → IsRowNet size width reach O R d beside
      → start < size → start % width ≡ 0 → k < d → beside start k ≡ Some row.from → IsBeside size width R run row window
  window_beside O R size d beside k net l e m b =
      let s = net.sound start k row.from l e m b in
      record {
        first = s.0;
        last = last;
        inside = let r = row_inside size width row.from net.some net.whole s.0 s.1 in omega arith;
        on = omega arith;
        within = omega arith;
        each = λ q h.
            let c = window_close q h in
            (start + c.0, c.2, subst (λ v. R (start + c.0) v) (sym c.3) (s.2 c.0 c.1 c.4 c.5 c.6 c.7));
      }

-- what is told of the next place without a label
pub record IsNext (values : List Bool) (from until q : ℕ) : Type 0 where
  pub there : q < until → Marked values q
  pub on : q < until → from ≤ q
  pub more : from ≤ until → from ≤ q
  pub none : (x : ℕ) → from ≤ x → x < q → x < until → Marked values x → ⊥

pub next_is : (values : List Bool) (from until q : ℕ) → (from ≤ until → IsRunEnd values false from until q) → (until < from → q ≡ until)
    → IsNext values from until q
next_is values from until q a b = record {
  there = λ l. elim (dec_lt until from) [ yes m ↦ absurd (let e = b m in omega arith) | no m ↦ (a (omega arith)).stop l ];
  on = λ l. elim (dec_lt until from) [ yes m ↦ absurd (let e = b m in omega arith) | no m ↦ (a (omega arith)).on ];
  more = λ l. (a l).on;
  none = λ x l m n t. let e = (a (omega arith)).each x l m in let z : false ≡ true = sym e ∙ t in cc;
}

-- the run around it is taken, and the next place is looked for behind
pub none_more : (row window : Run) (q q' : ℕ) (old new : List Bool) (r : Run) → IsTaken row q old new r → IsNext new r.until window.until q'
    → ((x : ℕ) → InRun window x → x < q → Marked old x → ⊥) → (x : ℕ) → InRun window x → x < q' → Marked new x → ⊥
none_more row window q q' old new r t n none x h l m = elim (dec_lt x q) [
  | yes a ↦ none x h a (taken_fewer row q 0 0 [] old new r t x m)
  | no a ↦ elim (dec_lt x r.until) [
    | yes b ↦ (let z : false ≡ true = sym (t.filled.inside x (let c = t.low in omega arith) b) ∙ m in cc)
    | no b ↦ n.none x (omega arith) l h.1 m
  ]
]

pub next_less : (values : List Bool) (from until q q' : ℕ) → IsNext values from until q' → (until < from → q' ≡ until) → q < from → q < until
    → until - q' < until - q
next_less values from until q q' n past l m = elim (dec_lt until from) [
  | yes a ↦ (let e = past a in omega arith)
  | no a ↦ (let b = n.more (omega arith) in omega arith)
]

-- no place is left in the row that a step leads to
pub none_beside : (run row window : Run) (start width reach : ℕ) (there : Option ℕ) (values : List Bool) → there ≡ Some row.from → start ≤ run.from
    → run.from < run.until → run.until ≤ start + width → row.until ≡ row.from + width → window.from ≡ row.from + (run.from - start - reach)
    → window.until ≡ row.until - (row.until - row.from - (run.until - start) - reach) → ((q : ℕ) → InRun window q → Marked values q → ⊥)
    → NoneBeside width reach run start there values
none_beside run row window start width reach there values is on some within last from until none other x y e h l a b m =
    let f : Some row.from ≡ Some other = sym is ∙ e in
    let s : row.from ≡ other = cc in
    none (row.from + y) (window_all run row window start width reach on some within last from until x y h l a b)
    (subst (λ v. Marked values (v + y)) (sym s) m)

pub no_row : (width reach : ℕ) (run : Run) (start : ℕ) (there : Option ℕ) (values : List Bool) → there ≡ None → NoneBeside width reach run start there values
no_row width reach run start there values n other x y e h l a b m = let f : None ≡ Some other = sym n ∙ e in cc

-- after one step more
pub none_beside_more : (width reach : ℕ) (run : Run) (start : ℕ) (beside : ℕ → Option ℕ) (k : ℕ) (old new : List Bool)
    → ((q : ℕ) → Marked new q → Marked old q) → ((j : ℕ) → j < k → NoneBeside width reach run start (beside j) old)
    → NoneBeside width reach run start (beside k) new → (j : ℕ) → j < k + 1 → NoneBeside width reach run start (beside j) new
none_beside_more width reach run start beside k old new fewer before here j l other x y e h a b c m = elim (dec_lt j k) [
  | yes i ↦ before j i other x y e h a b c (fewer (other + y) m)
  | no i ↦ (let s : j ≡ k = omega arith in here other x y (sym (ap beside s) ∙ e) h a b c m)
]
