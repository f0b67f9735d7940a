-- A line that is copied to a page with what stands behind it, and then its LF.
-- Laws over lists alone.
use Rattle.std.proofs.Common.{◌≡◌, ℕ, ◌+◌, ◌<◌, ◌≤◌, List, [], ◌∷◌, ◌++◌, length, take, set, sym, ap, ◌∙◌, subst, arith, append_assoc, length-append}
use Rattle.std.proofs.lemmas.List.{take-take, length-take-le, take_more_set}
use Rattle.std.proofs.lemmas.Slice.{take-put_mid}
use Rattle.std.proofs.Math.Seq.{take-append-add}
use borrow.Rule.Slice.PartMut.{put_mid}

-- the first k bytes that are put at a place stand there
front_put : (at n k : ℕ) (page part : List ℕ) → at ≤ length page → length part ≡ n → k ≤ n
    → take (at + k) (put_mid at n page part) ≡ take at page ++ take k part
front_put at n k page part l e f =
    let long : length (take at page) ≡ at = length-take-le at page l in
    sym (take-take (at + k) (at + n) (put_mid at n page part) (omega arith))
    ∙ ap (take (at + k)) (take-put_mid at n page part (at + n) (ap (λ m. at + m) (sym e)) l)
    ∙ subst (λ m. take (m + k) (take at page ++ part) ≡ take at page ++ take k part) long (take-append-add (take at page) part k)

pub line_put : (at n k : ℕ) (page part line : List ℕ) → at + n ≤ length page → length part ≡ n → k < n → take k part ≡ line
    → length (put_mid at n page part) ≡ length page
    → take (at + k + 1) (set (put_mid at n page part) (at + k) 10) ≡ take at page ++ (line ++ 10 ∷ [])
line_put at n k page part line l e f is long =
    take_more_set (put_mid at n page part) (at + k) 10 (omega (arith, long))
    ∙ ap (λ t. t ++ 10 ∷ []) (front_put at n k page part (omega arith) e (omega arith) ∙ ap (λ t. take at page ++ t) is)
    ∙ append_assoc (take at page) line (10 ∷ [])

-- the same of bytes behind which it is put: what then stands behind the LF is cut off
pub line_behind : (bytes more line : List ℕ) (e k : ℕ) → e ≡ length bytes + k → k < length more → take k more ≡ line
    → take (e + 1) (set (bytes ++ more) e 10) ≡ bytes ++ (line ++ 10 ∷ [])
line_behind bytes more line e k place l is =
    take_more_set (bytes ++ more) e 10 (omega (arith, length-append bytes more))
    ∙ ap (λ t. t ++ 10 ∷ []) (ap (λ n. take n (bytes ++ more)) place ∙ take-append-add bytes more k ∙ ap (λ t. bytes ++ t) is)
    ∙ append_assoc bytes line (10 ∷ [])
