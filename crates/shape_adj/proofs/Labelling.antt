-- The components that are filled one after the other, and one that is filled.
-- Lemmas over lists of labels and of places to be visited.
use Rattle.std.proofs.Common.{◌≡◌, ℕ, suc, ◌+◌, ◌%◌, ◌<◌, ◌≤◌, List, [], ◌∷◌, ◌++◌, length, slice_index, get_or, replicate, arith}
use Rattle.std.proofs.Common.{refl, sym, ◌∙◌, ap, subst, inl, inr}
use Rattle.std.specs.Prelude.{Option, Bool, false, ◌↔◌}
use Rattle.std.proofs.lemmas.List.{get_or_past, get_or-replicate, length-replicate}
use Rattle.std.specs.List.{Contains}
use Rattle.std.proofs.lemmas.List.Elements.{Contains-push, Contains-append_left, Contains-push_cases}
use native.Mathlib.Decide.{ℕ_discrete, dec_lt}
use Rattle.shape_terms.specs.Parts.{Connected, InOrder}
use Rattle.shape_adj.specs.Flood.{Flooding, Flooded, Put}
use Rattle.shape_grid.specs.Truths.{IsFirstTrue}
use Rattle.shape_adj.specs.declared.run.Run.{Run}
use Rattle.shape_adj.specs.RowNets.{IsRowNet}
use Rattle.shape_adj.specs.Labels.{Kept, InRun, InWork, relabelled, IsLabelled, Growing, Following, Grown, IsTaken, Labelling, Searched, LabelsNet}
use Rattle.shape_adj.specs.Todo.{Marked, IsTodo}
use Rattle.shape_adj.proofs.Flooding.{flood_start, flood_work, flood_end, named_as_well}
use Rattle.shape_adj.proofs.Relabelling.{dec_run, length-relabelled}
use Rattle.shape_adj.proofs.Links.{todo_not, labelled_new, taken_in, taken_none, taken_put, taken_todo, taken_kept, taken_joined}

-- ---- all components

-- no component is labelled
pub labelling_start : (O : ℕ → Type 0) (R : ℕ → ℕ → Type 0) (size : ℕ) (values : List Bool)
    → length values ≡ size → ((i : ℕ) → Marked values i ↔ O i) → Labelling O R size (replicate size 0) values [] 0 0
labelling_start O R size values filled exactly = record {
  same = length-replicate size 0;
  todo = record { filled = filled; exactly = λ i. ((λ m. ((exactly i).0 m, zero_at i)), λ h. (exactly i).1 h.0) };
  empty = refl;
  few = omega arith;
  flooded = record {
    member = λ i a. absurd (let z = zero_at i in omega arith);
    shut = λ i j a. absurd (let z = zero_at i in omega arith);
    parts = record {
      in_range = λ i a. absurd (let z = zero_at i in omega arith);
      used = λ i a b. absurd (omega arith);
      adjacent = λ i j a. absurd (let z = zero_at i in omega arith);
      connected = λ i j a. absurd (let z = zero_at i in omega arith);
    };
  };
  passed = λ i l. absurd (omega arith);
  first = λ j a b. absurd (omega arith);
  ordered = λ i j a b. absurd (let z = zero_at i in omega arith);
}
  where
    long : length (replicate {A = ℕ} size 0) ≡ size
    long = length-replicate size 0

    past : (i : ℕ) → size ≤ i → length (replicate {A = ℕ} size 0) ≤ i
    past i l = let a = long in omega arith

    zero_at : (i : ℕ) → slice_index (replicate size 0) i ≡ 0
    zero_at i = elim (dec_lt i size) [
      | yes l ↦ get_or-replicate size i 0 0 l
      | no l ↦ get_or_past (replicate size 0) i 0 (past i (omega arith))
    ]

module _ (O : ℕ → Type 0) (R : ℕ → ℕ → Type 0) (size from s count : ℕ) (labels : List ℕ) (values : List Bool) (work : List Run)
    (w : Labelling O R size labels values work from count) (f : IsFirstTrue values from s) where
  -- the places before the next one without a label have their labels
  pub labelling_at : Labelling O R size labels values work s count
  labelling_at = record {
    same = w.same;
    todo = w.todo;
    empty = w.empty;
    few = let a = w.few in let b = f.on in omega arith;
    flooded = w.flooded;
    passed = λ i l o. elim (dec_lt i from) [
      | yes b ↦ w.passed i b o
      | no b ↦ (let n = todo_not size O labels values w.todo i o (f.first i (omega arith) l) in
          elim (dec_lt 0 (slice_index labels i)) [ yes c ↦ omega arith | no c ↦ absurd (n (omega arith)) ])
    ];
    first = λ j a b. let u = w.first j a b in let v = u.1 in let o = f.on in (u.0, omega arith, u.2);
    ordered = w.ordered;
  }

module _ (O : ℕ → Type 0) (R : ℕ → ℕ → Type 0) (size s count : ℕ) (labels labels' : List ℕ) (values values' : List Bool) (work work' : List Run)
    (w : Labelling O R size labels values work s count) where
  -- s is in a component of its own
  pub labelling_more : IsTodo size O labels' values' → Flooded O R (count + 1) (slice_index labels') → Kept labels labels' → slice_index labels' s ≡ count + 1
      → length labels' ≡ length labels → work' ≡ [] → Labelling O R size labels' values' work' (s + 1) (count + 1)
  labelling_more t f k h l e = record {
    same = l ∙ w.same;
    todo = t;
    empty = e;
    few = let a = w.few in omega arith;
    flooded = f;
    passed = λ i j o. elim (ℕ_discrete i s) [
      | yes n ↦ (let a : slice_index labels' i ≡ count + 1 = ap (slice_index labels') n ∙ h in omega arith)
      | no n ↦
          (let a = w.passed i (omega arith) o in let b = k i a in omega arith)
    ];
    first = first;
    ordered = ordered;
  }
    where
      first : (j : ℕ) → 1 ≤ j → j ≤ count + 1 → (i : ℕ) × (i < s + 1) × (slice_index labels' i ≡ j)
      first j a b = elim (dec_lt count j) [
        | yes c ↦ (s, omega arith, (let q : count + 1 ≡ j = omega arith in h ∙ q))
        | no c ↦ (let u = w.first j a (omega arith) in let v = u.1 in let x = u.2 in (u.0, omega arith, k u.0 (omega arith) ∙ u.2))
      ]

      ordered : InOrder labels'
      ordered i j a b = elim (dec_lt 0 (slice_index labels i)) [
        | yes c ↦ (let e = k i c in let u = w.ordered i j a (omega arith) in let x = u.2 in (u.0, u.1, k u.0 (omega arith) ∙ u.2))
        | no c ↦ (
            let t = (f.parts.in_range i (omega arith)).1 in
            let u = w.first j a (omega arith) in
            let x = u.2 in
            let v = u.1 in
            let late : s ≤ i = elim (dec_lt i s) [ yes l ↦ absurd (c (w.passed i l (f.member i (omega arith)))) | no l ↦ omega arith ] in
            (u.0, omega arith, k u.0 (omega arith) ∙ u.2))
      ]

-- no place from s on is without a label
pub labelling_end : (O : ℕ → Type 0) (R : ℕ → ℕ → Type 0) (size : ℕ) (labels : List ℕ) (values : List Bool) (work : List Run) (count s : ℕ)
    → Labelling O R size labels values work s count → ((k : ℕ) → s ≤ k → get_or values k false ≡ false) → LabelsNet O R size count labels
labelling_end O R size labels values work count s w none = record {
  filled = w.same;
  members = w.flooded.member;
  ordered = w.ordered;
  parts = named_as_well (λ i a. w.flooded.member i a)
      (λ i o. elim (dec_lt i s) [
        | yes l ↦ w.passed i l o
        | no l ↦ (let n = todo_not size O labels values w.todo i o (none i (omega arith)) in
            elim (dec_lt 0 (slice_index labels i)) [ yes c ↦ omega arith | no c ↦ absurd (n (omega arith)) ])
      ]) w.flooded.parts;
}

-- ---- the same of labels of which T holds

pub searched_start : (O : ℕ → Type 0) (R : ℕ → ℕ → Type 0) (size : ℕ) (T : List ℕ → Type 0)
    (values : List Bool) → length values ≡ size → ((i : ℕ) → Marked values i ↔ O i) → T (replicate size 0) → Searched O R size T values [] 0 0
searched_start O R size T values filled exactly t = record {
  labels = replicate size 0;
  told = t;
  labelling = labelling_start O R size values filled exactly;
}

pub searched_at : (O : ℕ → Type 0) (R : ℕ → ℕ → Type 0) (size : ℕ) (T : List ℕ → Type 0) (values : List Bool) (work : List Run) (from s count : ℕ)
    → Searched O R size T values work from count → IsFirstTrue values from s → Searched O R size T values work s count
searched_at O R size T values work from s count w f = record {
  labels = w.labels;
  told = w.told;
  labelling = labelling_at O R size from s count w.labels values work w.labelling f;
}

pub searched_end : (O : ℕ → Type 0) (R : ℕ → ℕ → Type 0) (size : ℕ) (T : List ℕ → Type 0) (values : List Bool) (work : List Run) (s count : ℕ)
    → Searched O R size T values work s count → ((k : ℕ) → s ≤ k → get_or values k false ≡ false) → (list : List ℕ) × T list × LabelsNet O R size count list
searched_end O R size T values work s count w none = (w.labels, w.told, labelling_end O R size w.labels values work count s w.labelling none)

-- ---- one component

no_length : (xs : List Run) → length xs ≡ 0 → xs ≡ []
no_length [] e = refl
no_length (x ∷ xs) e = absurd (omega arith)

-- the component of s is being labelled after n others, and the labels are some of which T holds
pub record Filling (O : ℕ → Type 0) (R : ℕ → ℕ → Type 0) (size width s label : ℕ) (T : List ℕ → Type 0) (before : List Bool) (empty : List Run)
    (values : List Bool) (work : List Run) : Type 0 where
  pub n : ℕ
  pub next : label ≡ suc n
  pub start : List ℕ
  pub labelling : Labelling O R size start before empty s n
  pub labels : List ℕ
  pub told : T labels
  pub seeded : slice_index labels s ≡ label
  pub grown : Grown O R size width label start labels values work

in_one : (x s : Run) → Contains (s ∷ []) x → x ≡ s
in_one x s c = elim (Contains-push_cases [] s x c) [ inl i ↦ absurd (omega (arith, i.1)) | inr i ↦ sym i ]

-- the place of the net whose component is the next one, and the run around it
module _ (O : ℕ → Type 0) (R : ℕ → ℕ → Type 0) (size width reach d : ℕ) (beside : ℕ → ℕ → Option ℕ) (net : IsRowNet size width reach O R d beside) (s n : ℕ)
    (labels : List ℕ) (values : List Bool) (work : List Run) (w : Labelling O R size labels values work s n) (m : Marked values s) where
  pub seed_below : s < size
  seed_below = net.bounded s ((w.todo.exactly s).0 m).0

  module _ (row : Run) (values' : List Bool) (r : Run) (t : IsTaken row s values values' r) (first : row.from % width ≡ 0)
      (last : row.until ≡ row.from + width) (inside : row.until ≤ size) where
    -- the run alone has the label at first
    pub fill_start : (label : ℕ) (T : List ℕ → Type 0) → label ≡ suc n → T (relabelled labels r.from r.until label)
        → Filling O R size width s label T values work values' (work ++ r ∷ [])
    fill_start label T e told = record {
      n = n;
      next = e;
      start = labels;
      labelling = w;
      labels = relabelled labels r.from r.until label;
      told = told;
      seeded = seeded;
      grown = record {
        kept = taken_kept O R size width reach d beside net row s label labels values values' r t w.todo first last inside w.same labels (λ i l. refl);
        growing = rw w.empty (record {
          same = length-relabelled labels r.from r.until label ∙ w.same;
          todo = taken_todo O R size width reach d beside net row s label labels values values' r t w.todo first last inside w.same (omega arith);
          spreading = (n, s, e, at_work (flood_start net.symmetric (dec_run r) s w.flooded (t.low, t.high) is_in is_none put joined));
          labelled = λ x c. subst (IsLabelled width label (relabelled labels r.from r.until label) values') (sym (in_one x r c))
              (labelled_new row s width label labels values values' r t first last (let a = w.same in omega arith));
        });
      };
    }
      where
        is_in : (x : ℕ) → InRun r x → O x
        is_in = taken_in O R size width reach d beside net row s label labels values values' r t w.todo first last inside w.same

        is_none : (x : ℕ) → InRun r x → slice_index labels x ≡ 0
        is_none = taken_none O R size width reach d beside net row s label labels values values' r t w.todo first last inside w.same

        put : Put (slice_index labels) (slice_index (relabelled labels r.from r.until label)) (InRun r) (suc n)
        put = subst (λ v. Put (slice_index labels) (slice_index (relabelled labels r.from r.until label)) (InRun r) v) e
            (taken_put O R size width reach d beside net row s label labels values values' r t w.todo first last inside w.same)

        seeded : slice_index (relabelled labels r.from r.until label) s ≡ label
        seeded = put.here s (t.low, t.high) ∙ sym e

        joined : (x : ℕ) → InRun r x → Connected R (λ y. slice_index (relabelled labels r.from r.until label) y ≡ suc n) s x
        joined = taken_joined O R size width reach d beside net row s label labels values values' r t w.todo first last inside w.same
            (λ y. slice_index (relabelled labels r.from r.until label) y ≡ suc n) put.here

        at_work : Flooding O R n s (InRun r) (slice_index (relabelled labels r.from r.until label))
            → Flooding O R n s (InWork (r ∷ [])) (slice_index (relabelled labels r.from r.until label))
        at_work f = flood_work f (λ x h. (r, Contains-push [] r, h))

module _ (O : ℕ → Type 0) (R : ℕ → ℕ → Type 0) (size width s label : ℕ) (T : List ℕ → Type 0) (before : List Bool) (empty : List Run)
    (values : List Bool) (work : List Run) (w : Filling O R size width s label T before empty values work) where
  -- a run is taken off the list
  pub fill_pop : (p : Run) (rest : List Run) → work ≡ rest ++ p ∷ [] → Following O R size width p label w.labels values rest
  fill_pop p rest e = record {
    here = g.labelled p (subst (λ v. Contains v p) (sym e) (Contains-push rest p));
    growing = record {
      same = g.same;
      todo = g.todo;
      spreading = (
        g.spreading.0,
        g.spreading.1,
        g.spreading.2,
        flood_work g.spreading.3 (λ x c. elim (Contains-push_cases rest p c.0 (subst (λ v. Contains v c.0) e c.1)) [
          | inl i ↦ inr (c.0, i, c.2)
          | inr i ↦ inl (subst (λ r. InRun r x) (sym i) c.2)
        ]),
      );
      labelled = λ x c. g.labelled x (subst (λ v. Contains v x) (sym e) (Contains-append_left rest (p ∷ []) x c));
    };
  }
    where
      g : Growing O R size width label (InWork work) w.labels values work
      g = w.grown.growing

  -- the neighbours of its places have been labelled
  pub fill_more : (T' : List ℕ → Type 0) (labels : List ℕ) (values' : List Bool) (work' : List Run) → T' labels
      → Grown O R size width label w.labels labels values' work' → Filling O R size width s label T' before empty values' work'
  fill_more T' labels values' work' t h = record {
    n = w.n;
    next = w.next;
    start = w.start;
    labelling = w.labelling;
    labels = labels;
    told = t;
    seeded = h.kept s (let a = w.seeded in let b = w.next in omega arith) ∙ w.seeded;
    grown = record {
      kept = λ i l. let k = w.grown.kept i l in h.kept i (omega arith) ∙ k;
      growing = h.growing;
    };
  }

  -- no run is left on the list
  pub fill_end : (size' reach d : ℕ) (beside : ℕ → ℕ → Option ℕ) → IsRowNet size' width reach O R d beside → (work' : List Run) → length work ≡ 0
      → work' ≡ work → Searched O R size T values work' (s + 1) label
  fill_end size' reach d beside net work' e f = record {
    labels = w.labels;
    told = w.told;
    labelling = subst (Labelling O R size w.labels values work' (s + 1)) last
        (labelling_more O R size s w.n w.start w.labels before values empty work' w.labelling g.todo flooded w.grown.kept (w.seeded ∙ sym last)
        (g.same ∙ sym w.labelling.same) (f ∙ no_length work e));
  }
    where
      g : Growing O R size width label (InWork work) w.labels values work
      g = w.grown.growing

      last : w.n + 1 ≡ label
      last = let a = w.next in omega arith

      same : suc g.spreading.0 ≡ w.n + 1
      same = let a = last in let b = g.spreading.2 in omega arith

      flooded : Flooded O R (w.n + 1) (slice_index w.labels)
      flooded = subst (λ n. Flooded O R n (slice_index w.labels)) same (flood_end net.symmetric g.spreading.3 (λ x c. let l = c.1.1 in omega arith))
