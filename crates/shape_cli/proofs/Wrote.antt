-- What was written of a report, from a page that told it to the end of the run.
-- Laws of `Wrote`, over plain variables.
use Rattle.std.proofs.Common.{◌≡◌, ◌++◌, ◌∙◌, ℕ, List, [], Option, Some, Result, Ok, Err, sym, ap}
use Rattle.std.specs.Prelude.{option_map}
use Rattle.shape_desk.specs.Desk.{DeskState, Puts, OnlyReads, WritesText}
use Rattle.shape_terms.specs.Pictures.{Picture}
use Rattle.shape_terms.specs.Thinning.{Rule}
use Rattle.shape_terms.specs.Shelves.{Named}
use Rattle.shape_cli.specs.Sources.{Source}
use Rattle.shape_cli.specs.Kinds.{Wanted, Makes}
use Rattle.shape_cli.specs.Commands.{Asked}
use Rattle.shape_cli.specs.Runs.{IsPictureOf, CutShort, Answered}
use Rattle.shape_cli.specs.Making.{WroteWhole, WroteFront, Wrote}
use Rattle.shape_cli.specs.declared.making.MakeFault.{MakeFault}
use Rattle.shape_cli.specs.declared.making.MakeFault.TheVariants as fault
use Rattle.shape_cli.specs.declared.outcome.Outcome.TheVariants as outcome
use Rattle.shape_cli.proofs.Endings.{cut_short, made}

-- what follows of a text follows of the one that was written
pub wrote_as : {Was IsSo : List ℕ → Type 0} (old new : DeskState) (r : Result (Unit {0}) MakeFault) → ((text : List ℕ) → Was text → IsSo text)
    → Wrote Was old new r → Wrote IsSo old new r
wrote_as old new (Ok u) f h = record { text = h.text; so = f h.text h.so; puts = h.puts; only = h.only }
wrote_as old new (Err fault.WriteFault) f h = record { text = h.text; so = f h.text h.so; puts = h.puts; cause = h.cause; only = h.only }
wrote_as old new (Err fault.NoMemory) f h = h

-- a text that was written whole, or of which a front was
pub wrote_whole : {E : Type 0} {IsSo : List ℕ → Type 0} (old new : DeskState) (text : List ℕ) (u : Unit {0}) → IsSo text
    → WritesText {E = E} text old new (Ok u) → WroteWhole IsSo old new
wrote_whole old new text u so w = record { text = text; so = so; puts = w.text.ok; only = w.only }

pub wrote_front : {E : Type 0} {IsSo : List ℕ → Type 0} (old new : DeskState) (text : List ℕ) (e : E) → IsSo text → WritesText text old new (Err e)
    → WroteFront IsSo old new
wrote_front old new text e so w = record { text = text; so = so; puts = w.text.err; cause = w.failed; only = w.only }

-- a desk to which nothing was written before holds the text that was written
pub text_written : (old new : Option (List ℕ)) (text all : List ℕ) → old ≡ Some [] → new ≡ Some all → Puts old new text → all ≡ text
text_written old new text all e f p = let same : Some all ≡ Some text = sym f ∙ p ∙ ap (option_map (λ xs. xs ++ text)) e in cc

-- ---- the end of a run, where `mid` is the desk before the first write

pub made_whole : (shelf : List (Named Rule)) (source : Source) (wanted : Wanted) (old mid new : DeskState) (X : Picture) → OnlyReads old mid
    → IsPictureOf old.files source X → WroteWhole (Makes shelf wanted X) mid new → Answered shelf (Asked.Make source wanted) old new outcome.Done
made_whole shelf source wanted old mid new X only opened w = made shelf source wanted old mid new X w.text only opened w.so w.puts

pub made_front : (shelf : List (Named Rule)) (source : Source) (wanted : Wanted) (old mid new : DeskState) (X : Picture) → OnlyReads old mid
    → IsPictureOf old.files source X → WroteFront (Makes shelf wanted X) mid new → CutShort shelf (Asked.Make source wanted) old new
made_front shelf source wanted old mid new X only opened w = cut_short shelf (Asked.Make source wanted) old mid new outcome.Done w.text only (X, opened, w.so)
    w.puts w.cause tt
