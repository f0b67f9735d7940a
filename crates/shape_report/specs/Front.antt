-- A line that stands at the front of bytes with its LF.
-- What is not found there may yet be a line.
use Rattle.std.specs.Prelude.{◌≡◌, ◌<◌, ℕ, List, take, get_or}
use Rattle.report_terms.specs.Lines as Terms
use Rattle.report_terms.specs.Lines.{IsLineOf, spelling}

-- the first n bytes are the spelling of this line, in reports of pictures with d axes, and LF follows
pub record IsFront (d : ℕ) (bytes : List ℕ) (n : ℕ) (l : Terms.Line) : Type 0 where
  pub fields : IsLineOf d l
  pub text : take n bytes ≡ spelling l
  pub lf : get_or bytes n 0 ≡ 10
  pub short : n < 64
