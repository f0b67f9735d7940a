-- Each flat picture has contours: all cracks are gone through by number, and from each that is on no cycle yet its cycle is walked.
-- What is known of the contour of each walk is handed in; the laws of walks and of marks stand below.
use Rattle.std.proofs.Common.{◌≡◌, ℕ, zero, suc, ◌+◌, ◌*◌, ◌/◌, ◌%◌, ◌<◌, ◌≤◌, Bool, true, false, cond, eqb, refl, ap, sym, subst, arith, List, [], ◌∷◌, ◌++◌}
use Rattle.std.proofs.Common.{length, ◌⊎◌, inl, inr}
use Rattle.std.specs.Prelude.{◌≢◌, All}
use Rattle.std.proofs.lemmas.Bool.Decides.{nat_tests}
use Rattle.std.proofs.lemmas.List.Elements.{All-push, All-nil}
use native.Mathlib.Decide.{ℕ_discrete}
use Rattle.shape_terms.specs.Points.{box_count}
use Rattle.shape_terms.specs.Pictures.{Picture}
use Rattle.shape_terms.specs.Contours.{Crack, IsCrack, successor, contour_points}
use Rattle.shape_terms.specs.Traces.{Contour, AreContours}
use Rattle.shape_terms.specs.CrackNumbers.{crack_number, IsMarkedBesides, IsPassed}
use Rattle.shape_terms.proofs.Numbered.{number_once}
use Rattle.shape_terms.proofs.Walks.{walk}
use Rattle.shape_terms.proofs.Tracing.{Reached, reached_crack, reached_few}
use Rattle.shape_terms.proofs.Marking.{Marking, marking_first, marking_more}
use Rattle.shape_crack.specs.Terms.{side_of}
use Rattle.shape_crack.specs.Marked.{IsTaken}
use Rattle.shape_crack.proofs.Rows.{crack_or_not}
use Rattle.shape_crack.proofs.Rounds.{contour_from, cycle_marked}
use Rattle.shape_crack.proofs.Listing.{Listing, listing_none, listing_no_crack, listing_taken, listing_passed, listing_all}

-- ---- marks

-- the number n is marked besides
abbrev marked_too : ℕ → (ℕ → Bool) → ℕ → Bool
marked_too n old j = cond (eqb j n) true (old j)

marks_it : (n : ℕ) (old : ℕ → Bool) → IsMarkedBesides n old (marked_too n old)
marks_it n old = record { marked = here n; others = λ j d. other j d }
  where
    here : (n : ℕ) → cond (eqb n n) true (old n) ≡ true
    here n = grind (arith, nat_tests)

    other : (j : ℕ) → j ≢ n → cond (eqb j n) true (old j) ≡ old j
    other j d = grind (arith, nat_tests)

-- a walk passes a crack
pass : (sides : List ℕ) (c : Crack) (old : ℕ → Bool) → (new : ℕ → Bool) × IsPassed sides c old new
pass sides c old = elim (ℕ_discrete (c.side % 2) 0) as (λ _. (new : ℕ → Bool) × IsPassed sides c old new) [
  | yes e ↦ (marked_too (crack_number sides c) old, inl (e, marks_it (crack_number sides c) old))
  | no n ↦ (old, inr (n, refl))
]

-- ---- the walk from a crack comes back to it, and marks its cycle on the way

pub record Round (X : Picture) (start : Crack) (old : ℕ → Bool) : Type 0 where
  pub end : Crack
  pub steps : ℕ
  pub new : ℕ → Bool
  pub marking : Marking X start end steps old new
  pub same : end ≡ start

module _ (X : Picture) (axes : length X.sides ≡ 2) where
  back : (start c : Crack) (steps : ℕ) (old new : ℕ → Bool) → IsCrack X start → Marking X start c steps old new → (Round X start old) ⊎ (c ≡ start → ⊥)
  back start c steps old new k m = elim (ℕ_discrete (crack_number X.sides c) (crack_number X.sides start)) [
    | yes e ↦ inl (record { end = c; steps = steps; new = new; marking = m; same = number_once X c start (reached_crack X axes start c steps k m.reached) k e })
    | no n ↦ inr (λ e. n (ap (crack_number X.sides) e))
  ]

  go_round : (room : ℕ) (start c : Crack) (steps : ℕ) (old new : ℕ → Bool) → IsCrack X start → box_count X.sides * 4 ≤ steps + room
      → Marking X start c steps old new → Round X start old
  go_round zero start c steps old new k fits m = elim (back start c steps old new k m) [
    | inl r ↦ r
    | inr away ↦ absurd (let l = reached_few X axes start c steps k m.reached away in omega arith)
  ]
  go_round (suc room) start c steps old new k fits m = elim (back start c steps old new k m) [
    | inl r ↦ r
    | inr away ↦
        (let p = pass X.sides c new in
        go_round room start (successor X c) (steps + 1) old p.0 k (omega arith) (marking_more X axes start c steps old new p.0 k m away p.1))
  ]

  pub round_exists : (start : Crack) (old : ℕ → Bool) → IsCrack X start → Round X start old
  round_exists start old k =
      let p = pass X.sides start old in
      go_round (box_count X.sides * 4) start (successor X start) 1 old p.0 k (omega arith) (marking_first X start old p.0 p.1)

-- ---- the contours of all cracks with numbers below n

-- and what is known of each
pub record Walked (X : Picture) (P : Contour → Type 0) (n : ℕ) : Type 0 where
  pub marks : ℕ → Bool
  pub list : List Contour
  pub listing : Listing X n marks list
  pub known : All P list

-- the contour of a walk that came back
abbrev pub contour_walked : Picture → Crack → ℕ → Contour
contour_walked X start steps = record { start = start; points = contour_points X (walk X start steps) }

module _ (X : Picture) (axes : length X.sides ≡ 2) (P : Contour → Type 0)
    (each : (start end : Crack) (steps : ℕ) → IsCrack X start → Reached X start end steps → end ≡ start → P (contour_walked X start steps)) where
  take_level : (i s n : ℕ) → i < box_count X.sides → s < 4 → n ≡ i * 4 + s → s % 2 ≡ 0 → IsCrack X (side_of X.sides i s) → Walked X P n → Walked X P (n + 1)
  take_level i s n l side at level k w = by (side_of X.sides i s) k (w.marks (crack_number X.sides (side_of X.sides i s))) refl refl
    where
      by : (c : Crack) → IsCrack X c → (b : Bool) → w.marks (crack_number X.sides (side_of X.sides i s)) ≡ b → c ≡ side_of X.sides i s → Walked X P (n + 1)
      by c k true e f = record {
        marks = w.marks;
        list = w.list;
        listing = listing_taken X axes i s n l side at w.marks w.list w.listing w.marks w.list level (subst (IsCrack X) f k) (inl (e, refl, refl));
        known = w.known;
      }
      by c k false e f =
          let r = round_exists X axes c w.marks k in
          let t : IsTaken X c w.marks r.new w.list (w.list ++ contour_walked X c r.steps ∷ []) = inr (record {
            unmarked = subst (λ d. w.marks (crack_number X.sides d) ≡ false) (sym f) e;
            marked = cycle_marked X axes c r.end r.steps k r.marking.reached r.same w.marks r.new r.marking;
            contour = contour_walked X c r.steps;
            from = contour_from X axes c r.end r.steps k r.marking.reached r.same (contour_points X (walk X c r.steps)) refl;
            last = refl;
          }) in
          record {
            marks = r.new;
            list = w.list ++ contour_walked X c r.steps ∷ [];
            listing = listing_taken X axes i s n l side at w.marks w.list w.listing r.new (w.list ++ contour_walked X c r.steps ∷ []) level
                (subst (IsCrack X) f k)
                (subst (λ d. IsTaken X d w.marks r.new w.list (w.list ++ contour_walked X c r.steps ∷ [])) f t);
            known = All-push P w.list (contour_walked X c r.steps) w.known (each c r.end r.steps k r.marking.reached r.same);
          }

  take_side : (i s n : ℕ) → i < box_count X.sides → s < 4 → n ≡ i * 4 + s → Walked X P n → Walked X P (n + 1)
  take_side i s n l side at w = elim (ℕ_discrete (s % 2) 0) [
    | no o ↦ record {
      marks = w.marks;
      list = w.list;
      listing = listing_passed X axes i s n l side at w.marks w.list w.listing (one_or_three s side o);
      known = w.known;
    }
    | yes e ↦ elim (crack_or_not X (side_of X.sides i s) side) [
      | inl k ↦ take_level i s n l side at e k w
      | inr none ↦ record {
        marks = w.marks;
        list = w.list;
        listing = listing_no_crack X axes i s n l side at w.marks w.list w.listing none;
        known = w.known;
      }
    ]
  ]
    where
      one_or_three : (s : ℕ) → s < 4 → (s % 2 ≡ 0 → ⊥) → (s ≡ 1) ⊎ (s ≡ 3)
      one_or_three zero l o = absurd (o refl)
      one_or_three (suc zero) l o = inl refl
      one_or_three (suc (suc zero)) l o = absurd (o refl)
      one_or_three (suc (suc (suc zero))) l o = inr refl
      one_or_three (suc (suc (suc (suc s)))) l o = absurd (omega arith)

  walked : (n : ℕ) → n ≤ box_count X.sides * 4 → Walked X P n
  walked zero l = record { marks = λ j. false; list = []; listing = listing_none X axes (λ j. false) (λ j. refl); known = All-nil P }
  walked (suc n) l = subst (Walked X P) (let q : n + 1 ≡ suc n = omega arith in q)
      (take_side (n / 4) (n % 4) n (omega arith) (omega arith) (omega arith) (walked n (omega arith)))

  -- the picture has contours, and this is known of each
  pub contours_exist : (contours : List Contour) × AreContours X contours × All P contours
  contours_exist =
      let w = walked (box_count X.sides * 4) (omega arith) in
      (w.list, listing_all X axes (box_count X.sides * 4) w.marks w.list w.listing (omega arith), w.known)
