-- Lists of sites with one site more.
-- Lists alone; nothing is known of the sites.
use Rattle.std.proofs.Common.{◌≡◌, ◌⊎◌, inl, inr, ℕ, ◌+◌, ◌-◌, ◌<◌, ◌≤◌, List, [], ◌∷◌, ◌++◌, length, take, drop, ap, sym, ◌∙◌, subst, arith}
use Rattle.std.proofs.Math.ListN.{get_or-append}
use Rattle.std.proofs.Math.Seq.{get_or-append_seam}
use Rattle.std.proofs.lemmas.List.{length-append, length-drop, length-take-le, get_or-take, get_or-drop}
use Rattle.measuring.specs.declared.site.Site.{Site}
use Rattle.measuring.specs.Sites.{no_site, site_at, IsOneOf, AreSitesOf, IsSiteOf, AreLayered, AreInOrderOfNumbers}
use Rattle.measuring.specs.Layers.{AreUpTo}

pub one_more : (xs : List Site) (x : Site) → length (xs ++ x ∷ []) ≡ length xs + 1
one_more xs x = length-append xs (x ∷ [])

pub before : (xs : List Site) (x : Site) (k : ℕ) → k < length xs → site_at (xs ++ x ∷ []) k ≡ site_at xs k
before xs x k l = get_or-append xs (x ∷ []) no_site k l

pub behind : (xs : List Site) (x : Site) → site_at (xs ++ x ∷ []) (length xs) ≡ x
behind xs x = get_or-append_seam xs x [] no_site

-- what holds of each site of a list and of one more
pub each_more : (P : Site → Type 0) (xs : List Site) (x : Site) → ((k : ℕ) → k < length xs → P (site_at xs k)) → P x → (k : ℕ) → k < length (xs ++ x ∷ [])
    → P (site_at (xs ++ x ∷ []) k)
each_more P xs x h here k l =
    let many = one_more xs x in
    let split : (k < length xs) ⊎ (k ≡ length xs) = grind arith in
    elim split [
      | inl m ↦ subst P (sym (before xs x k m)) (h k m)
      | inr e ↦ subst (λ j. P (site_at (xs ++ x ∷ []) j)) (sym e) (subst P (sym (behind xs x)) here)
    ]

pub one_kept : (xs : List Site) (x p : Site) → IsOneOf xs p → IsOneOf (xs ++ x ∷ []) p
one_kept xs x p h = (let w = h.within in let many = one_more xs x in
    record { place = h.place; within = omega (arith, w, many); is = before xs x h.place w ∙ h.is })

pub one_new : (xs : List Site) (x : Site) → IsOneOf (xs ++ x ∷ []) x
one_new xs x = (let many = one_more xs x in record { place = length xs; within = omega (arith, many); is = behind xs x })

pub one_split : (xs : List Site) (x p : Site) → IsOneOf (xs ++ x ∷ []) p → IsOneOf xs p ⊎ (p ≡ x)
one_split xs x p h =
    let w = h.within in
    let many = one_more xs x in
    let split : (h.place < length xs) ⊎ (h.place ≡ length xs) = grind arith in
    elim split [
      | inl m ↦ inl (record { place = h.place; within = m; is = sym (before xs x h.place m) ∙ h.is })
      | inr e ↦ inr (sym h.is ∙ ap (site_at (xs ++ x ∷ [])) e ∙ behind xs x)
    ]

pub sites_more : (sides : List ℕ) (xs : List Site) (x : Site) → AreSitesOf sides xs → IsSiteOf sides x → AreSitesOf sides (xs ++ x ∷ [])
sites_more sides xs x h i = record { each = each_more (IsSiteOf sides) xs x h.each i }

pub order_more : (xs : List Site) (x : Site) → AreInOrderOfNumbers xs → ((k : ℕ) → k < length xs → (site_at xs k).number ≤ x.number)
    → AreInOrderOfNumbers (xs ++ x ∷ [])
order_more xs x h up = record {
  rising = λ i k l m.
      let many = one_more xs x in
      let split : (k < length xs) ⊎ (k ≡ length xs) = grind arith in
      elim split [
        | inl w ↦ (let a = ap (λ (t : Site). t.number) (before xs x i (omega (arith, l, w))) in let b = ap (λ (t : Site). t.number) (before xs x k w) in let r =
            h.rising i k l w in omega (arith, a, b, r))
        | inr e ↦ subst (λ j. (site_at (xs ++ x ∷ []) i).number ≤ (site_at (xs ++ x ∷ []) j).number) (sym e)
            (subst (λ (t : Site). (site_at (xs ++ x ∷ []) i).number ≤ t.number) (sym (behind xs x))
            (each_more (λ (t : Site). t.number ≤ x.number) xs x up (omega arith) i (omega (arith, l, m))))
      ];
}

-- a site that lies in no earlier layer
pub layered_more : (z : ℕ) (xs : List Site) (x : Site) → x.z ≡ z → AreLayered xs → AreUpTo z xs → AreLayered (xs ++ x ∷ []) × AreUpTo z (xs ++ x ∷ [])
layered_more z xs x is h up =
    let all : AreUpTo z (xs ++ x ∷ []) = record { each = each_more (λ (t : Site). t.z ≤ z) xs x up.each (omega (arith, is)) } in (
      record {
        rising = λ i k l m.
            let many = one_more xs x in
            let split : (k < length xs) ⊎ (k ≡ length xs) = grind arith in
            elim split [
              | inl w ↦ (let a = ap (λ (t : Site). t.z) (before xs x i (omega (arith, l, w))) in let b = ap (λ (t : Site). t.z) (before xs x k w) in let r =
                  h.rising i k l w in omega (arith, a, b, r))
              | inr e ↦ (
                  let a = all.each i (omega (arith, l, m)) in
                  let b : (site_at (xs ++ x ∷ []) k).z ≡ x.z = ap (λ j. (site_at (xs ++ x ∷ []) j).z) e ∙ ap (λ (t : Site). t.z) (behind xs x) in
                  omega (arith, a, b, is))
            ];
      },
      all,
    )

-- ---- a part of a list

pub part_length : (xs : List Site) (a b : ℕ) → a ≤ b → b ≤ length xs → length (take (b - a) (drop a xs)) ≡ b - a
part_length xs a b l m = (let d = length-drop a xs in length-take-le (b - a) (drop a xs) (omega (arith, d, l, m)))

pub part_at : (xs : List Site) (a b k : ℕ) → k < b - a → site_at (take (b - a) (drop a xs)) k ≡ site_at xs (a + k)
part_at xs a b k l = get_or-take (b - a) (drop a xs) k no_site l ∙ get_or-drop a xs k no_site
