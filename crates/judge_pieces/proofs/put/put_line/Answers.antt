use Rattle.std.proofs.Common.{refl, subst}
use Rattle.text_terms.specs.Tables.{IsSplitOf}
use Rattle.piece_terms.specs.Lines.{table}
use Rattle.judge_pieces.specs.LineOf.{split_of}
use Rattle.judge_pieces.proofs.put.put_line.Goals as goal

pub put_piece-requires-clause-axis : goal.put_piece-requires-clause-axis
put_piece-requires-clause-axis c = (subst (λ l. IsSplitOf table (split_of l)) c.in-Piece.is c.requires.range).1.1.0

pub put_gap-requires-clause-range : goal.put_gap-requires-clause-range
put_gap-requires-clause-range c = subst (λ l. IsSplitOf table (split_of l)) c.in-Gap.is c.requires.range

pub returns-in-Pieces : goal.returns-in-Pieces
returns-in-Pieces c = rw c.in-Pieces.is c.put_pieces.ensures

pub returns-in-Chain : goal.returns-in-Chain
returns-in-Chain c = rw c.in-Chain.is c.put_chain.ensures

pub returns-in-Piece : goal.returns-in-Piece
returns-in-Piece c = rw c.in-Piece.is c.put_piece.ensures

pub returns-in-Gap : goal.returns-in-Gap
returns-in-Gap c = rw c.in-Gap.is c.put_gap.ensures

pub returns-in-End : goal.returns-in-End
returns-in-End c = rw (c.in-End.is, c.put.ensures, c.requires.empty) refl
