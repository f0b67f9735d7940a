-- A slip in the words of a command line: a word that stands where forms have words of their own, is none of them, and is near to one.
-- Which words forms have where is one case of each table.
use Rattle.std.specs.Prelude.{◌&&◌, ◌||◌, ◌==◌, ◌++◌, ℕ, List, [], ◌∷◌, codes, Bool, if◌then◌else◌, Option, None, Some, length, nat_eq, nat_lt, map}
use Rattle.std.specs.List.{list_any}
use Rattle.strsim.specs.Edits.{levenshtein_row}
use Rattle.shape_terms.specs.Shelves.{names_of}
use Rattle.text_terms.specs.Forms.{is_same}
use Rattle.draw_report.specs.Words.{labels_word, contours_word, measures_word}
use Rattle.masking.specs.Words.{mask_word}
use Rattle.masking.specs.declared.mask.Mask.TheVariants as mask
use Rattle.shape_cli.specs.Sources.{Kind, kind_word}
use Rattle.shape_cli.specs.Kinds.{ReportKind}
use Rattle.shape_cli.specs.Commands.{First, first_word, further_firsts}
use Rattle.shape_cli.specs.Rules.{program_rules}
use Rattle.shape.specs.Pages.{topic_word}
use Rattle.shape.specs.declared.page.Topic.TheVariants as topic
use Rattle.shape.specs.Products.{product_word}
use Rattle.shape.specs.declared.product.Product.TheVariants as product
use Rattle.shape.specs.declared.own_words.OwnWords.{OwnWords}
use Rattle.shape.specs.declared.own_words.OwnWords.TheVariants as own

-- ---- the nearest word

-- the least number of letters put in, taken out and changed that makes a form's word of a word
abbrev pub edits : (word form : List ℕ) → ℕ
edits word form = levenshtein_row nat_eq word form (length form)

-- so many edits make the one of the other, and a letter of the word stays
abbrev pub is_away : ℕ → (word form : List ℕ) → Bool
is_away n word form = (edits word form == n) && nat_lt n (length word)

-- the first of these forms' words that is so many edits away
abbrev pub first_away : ℕ → List ℕ → List (List ℕ) → Option (List ℕ)
first_away n word [] = None
first_away n word (form ∷ forms) = if is_away n word form then Some form else first_away n word forms

-- the first of two, where it is there
abbrev pub first_of_two : Option (List ℕ) → Option (List ℕ) → Option (List ℕ)
first_of_two None next = next
first_of_two (Some form) next = Some form

-- the word is one of these
abbrev pub is_among : List ℕ → List (List ℕ) → Bool
is_among word forms = list_any (is_same word) forms

-- what is nearest among forms' words to a word that is none of them: the first that is one edit away, else the first that is two away
abbrev pub nearest : List ℕ → List (List ℕ) → Option (List ℕ)
nearest word forms = if is_among word forms then None else first_of_two (first_away 1 word forms) (first_away 2 word forms)

-- ---- which words forms have where

-- the words with which forms begin that have pictures and volumes
abbrev pub source_firsts : List (List ℕ)
source_firsts = codes "analyse" ∷ codes "check" ∷ codes "balls" ∷ codes "checkballs" ∷ codes "trial" ∷ []

-- and of those that have flat pictures alone
abbrev pub flat_firsts : List (List ℕ)
flat_firsts = codes "edges" ∷ codes "checkedges" ∷ codes "pieces" ∷ codes "checkpieces" ∷ []

-- those behind such a first word
abbrev pub own_second : List ℕ → OwnWords
own_second w =
    if is_among w source_firsts then own.Source
    else (if is_among w flat_firsts then own.Flat
    else (if is_same w (product_word product.Drawing) then own.Drawing
    else (if is_same w (product_word product.Table) then own.Table
    else (if is_same w (product_word product.Mask) then own.Mask
    else (if is_same w (codes "help") then own.Topic
    else own.Free)))))

-- a rule is named behind the words of a source: its kind, for a volume three sides, and a file
abbrev pub ends_source : (kind : List ℕ) → (more : ℕ) → Bool
ends_source kind more = (is_same kind (kind_word Kind.Flat) && (more == 1)) || (is_same kind (kind_word Kind.Solid) && (more == 4))

-- those behind two words and so many more
abbrev pub own_later : (first second : List ℕ) → (more : ℕ) → OwnWords
own_later w v more =
    if is_same w (product_word product.Table) then own.Table
    else (if is_same w (codes "analyse") && ends_source v more then own.Rule else own.Free)

-- those behind such words
abbrev pub own_behind : List (List ℕ) → OwnWords
own_behind [] = own.First
own_behind (w ∷ []) = own_second w
own_behind (w ∷ v ∷ rest) = own_later w v (length rest)

-- which these are
abbrev pub own_texts : OwnWords → List (List ℕ)
own_texts own.First = map first_word (First.Make ReportKind.Analysis ∷ First.Check ReportKind.Analysis ∷ First.Trial ∷ further_firsts)
    ++ (map product_word (product.Drawing ∷ product.Table ∷ product.Mask ∷ []) ++ (codes "help" ∷ codes "--help" ∷ codes "--version" ∷ []))
own_texts own.Source = map kind_word (Kind.Flat ∷ Kind.Solid ∷ [])
own_texts own.Flat = map kind_word (Kind.Flat ∷ [])
own_texts own.Rule = names_of program_rules
own_texts own.Drawing = labels_word ∷ contours_word ∷ measures_word ∷ []
own_texts own.Table = codes "moments" ∷ codes "thickness" ∷ codes "spacing" ∷ codes "whole" ∷ []
own_texts own.Mask = map mask_word (mask.Skeleton ∷ mask.Object ∷ mask.Distances ∷ mask.Squares ∷ mask.Thickness ∷ [])
own_texts own.Topic = map topic_word (topic.Analyse ∷ topic.Check ∷ topic.Edges ∷ topic.CheckEdges ∷ topic.Pieces ∷ topic.CheckPieces ∷ topic.Balls
    ∷ topic.CheckBalls ∷ topic.Draw ∷ topic.Measure ∷ topic.Mask ∷ topic.Trial ∷ [])
own_texts own.Free = []

-- ---- slips

-- the word with its nearest one, where there is one, else another slip
abbrev pub slip_or : Option (List ℕ) → List ℕ → Option (List ℕ × List ℕ) → Option (List ℕ × List ℕ)
slip_or None word other = other
slip_or (Some form) word other = Some (word, form)

-- the first slip in words that stand behind others
abbrev pub slip_behind : (before words : List (List ℕ)) → Option (List ℕ × List ℕ)
slip_behind before [] = None
slip_behind before (word ∷ words) = slip_or (nearest word (own_texts (own_behind before))) word (slip_behind (before ++ word ∷ []) words)

-- the first slip in the words: the word, and the one that is nearest to it
abbrev pub slip_in : List (List ℕ) → Option (List ℕ × List ℕ)
slip_in words = slip_behind [] words

-- the slip that is told: that of words of no form, or of words of which one may have been taken for the name of a file
abbrev pub slip_told : (status : ℕ) → List (List ℕ) → Option (List ℕ × List ℕ)
slip_told status words = if (status == 2) || (status == 4) then slip_in words else None
