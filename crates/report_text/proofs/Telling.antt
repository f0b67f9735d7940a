-- What is told is written in the end, or a front of it is and a write failed.
-- Laws of `IsTelling`, over plain variables: a call's own facts are handed in.
use Rattle.std.proofs.Common.{◌≡◌, ℕ, List, [], ◌++◌, Option, None, Some, Ok, Err, refl, sym, ap, ◌∙◌, subst, arith, take}
use Rattle.std.specs.Prelude.{IfSome, option_map}
use Rattle.std.proofs.lemmas.List.{append_assoc, append-nil}
use Rattle.shape_desk.specs.Desk.{DeskState, Rose, Puts, PutsFront, OnlyWrites, WritesText}
use Rattle.shape_desk.proofs.Writes.{PutsFront-after, Puts-more, OnlyWrites-more}
use Rattle.report_text.specs.Telling.{IsTelling, Tells, TellsMore}

-- ---- nothing is told so far

puts_nothing : (w : Option (List ℕ)) → Puts w w []
puts_nothing None = refl
puts_nothing (Some xs) = ap Some (sym (append-nil xs))

pub telling_none : (d : DeskState) → IsTelling d [] (Some []) d
telling_none d = record {
  front = record { front = []; rest = []; is = refl; puts = puts_nothing d.written };
  rest = refl;
  only = record { same_files = refl; same_left = λ p. refl; same_begun = λ p. refl; same_faults = refl; later = omega arith };
}

-- ---- more is told

abbrev front_more : {old new : Option (List ℕ)} {text : List ℕ} (more : List ℕ) → PutsFront old new text → PutsFront old new (text ++ more)
front_more more h = record { front = h.front; rest = h.rest ++ more; is = sym (append_assoc h.front h.rest more) ∙ ap (λ t. t ++ more) h.is; puts = h.puts }

-- the page takes more bytes
pub telling_held : (begun now : DeskState) (text held more : List ℕ) → IsTelling begun text (Some held) now
    → IsTelling begun (text ++ more) (Some (held ++ more)) now
telling_held begun now text held more h = record { front = front_more more h.front; rest = ap (λ r. r ++ more) h.rest; only = h.only }

-- once a write failed, any text is told
pub telling_failed : (begun now : DeskState) (text more : List ℕ) → IsTelling begun text None now → IsTelling begun (text ++ more) None now
telling_failed begun now text more h = record { front = front_more more h.front; rest = h.rest; only = h.only }

-- ---- the page is written

-- what the page holds was written
pub telling_written : (begun mid now : DeskState) (text held : List ℕ) → IsTelling begun text (Some held) mid → Puts mid.written now.written held
    → OnlyWrites mid now → IsTelling begun (text ++ []) (Some []) now
telling_written begun mid now text held h p o = record {
  front = record {
    front = text;
    rest = [];
    is = refl;
    puts = subst (Puts begun.written now.written) (ap (λ r. h.front.front ++ r) (sym h.rest) ∙ h.front.is)
        (Puts-more _ _ _ h.front.front held h.front.puts p);
  };
  rest = refl;
  only = OnlyWrites-more h.only o;
}

-- a front of it was
pub telling_cut : (begun mid now : DeskState) (text held : List ℕ) → IsTelling begun text (Some held) mid → PutsFront mid.written now.written held
    → Rose mid.write_faults now.write_faults → OnlyWrites mid now → IsTelling begun (text ++ []) None now
telling_cut begun mid now text held h p f o = telling_failed begun now text [] (record {
  front = subst (PutsFront begun.written now.written) (ap (λ r. h.front.front ++ r) (sym h.rest) ∙ h.front.is)
      (PutsFront-after _ _ _ h.front.front held h.front.puts p);
  rest = let l = h.only.later in omega (arith, l, f);
  only = OnlyWrites-more h.only o;
})

-- nothing more is told
pub telling_same : (begun now : DeskState) (text : List ℕ) (page : Option (List ℕ)) → IsTelling begun text page now → IsTelling begun (text ++ []) page now
telling_same begun now text page h = subst (λ t. IsTelling begun t page now) (sym (append-nil text)) h

-- nothing, and then more
pub telling_then : (begun now : DeskState) (text more : List ℕ) (page : Option (List ℕ)) → IsTelling begun ((text ++ []) ++ more) page now
    → IsTelling begun (text ++ more) page now
telling_then begun now text more page h = subst (λ t. IsTelling begun (t ++ more) page now) (append-nil text) h

pub telling_back : (begun now : DeskState) (text : List ℕ) (page : Option (List ℕ)) → IsTelling begun (text ++ []) page now → IsTelling begun text page now
telling_back begun now text page h = subst (λ t. IsTelling begun t page now) (append-nil text) h

-- ---- what a page is seen as

-- where none of its bytes waits
pub none_waits : (filled : Option ℕ) (bytes : List ℕ) → IfSome filled (λ n. n ≡ 0) → option_map (λ n. []) filled ≡ option_map (λ n. take n bytes) filled
none_waits None bytes e = refl
none_waits (Some n) bytes e = ap (λ k. Some (take k bytes)) (sym e)

-- where a front of them waits, which is lent
pub front_waits : (begun now : DeskState) (text : List ℕ) (filled : Option ℕ) (n : ℕ) (bytes lent : List ℕ) (page : Option (List ℕ))
    → option_map (λ k. take k bytes) filled ≡ page → filled ≡ Some n → lent ≡ bytes → IsTelling begun text page now
    → IsTelling begun text (Some (take n lent)) now
front_waits begun now text filled n bytes lent page e f l h =
    subst (λ p. IsTelling begun text p now) (sym e ∙ ap (option_map (λ k. take k bytes)) f ∙ ap (λ t. Some (take n t)) (sym l)) h

-- ---- the end

-- all was written
pub told_whole : {E : Type 0} (begun now : DeskState) (text : List ℕ) → IsTelling begun (text ++ []) (Some []) now
    → WritesText {E = E} text begun now (Ok record {})
told_whole begun now text h = record {
  text = record {
    ok = subst (Puts begun.written now.written)
        (sym (append-nil h.front.front) ∙ ap (λ r. h.front.front ++ r) (sym h.rest) ∙ h.front.is ∙ append-nil text) h.front.puts;
    err = tt;
  };
  failed = tt;
  only = h.only;
}

-- a front of it was
pub told_cut : {E : Type 0} (begun now : DeskState) (text : List ℕ) (e : E) → IsTelling begun text None now → WritesText text begun now (Err e)
told_cut begun now text e h = record { text = record { ok = tt; err = h.front }; failed = h.rest; only = h.only }

-- ---- texts of which something is so

-- more was told, and of the longer text something is so
pub tells_more : {Was IsSo : List ℕ → Type 0} {begun before after : DeskState} {old new : Option (List ℕ)} (more : List ℕ) → TellsMore more old new before after
    → ((text : List ℕ) → Was text → IsSo (text ++ more)) → Tells Was begun old before → Tells IsSo begun new after
tells_more more call f h = record { text = h.text ++ more; so = f h.text h.so; telling = call _ h.text h.telling }

-- of the text that was told more is so
pub tells_as : {Was IsSo : List ℕ → Type 0} {begun now : DeskState} {page : Option (List ℕ)} → ((text : List ℕ) → Was text → IsSo text)
    → Tells Was begun page now → Tells IsSo begun page now
tells_as f h = record { text = h.text; so = f h.text h.so; telling = h.telling }
