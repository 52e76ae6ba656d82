-- Where a text leaves the grammar, after whole policies.
use Rattle.std.specs.Prelude.{◌≡◌, ℕ, Bool, List, take, drop}
use Rattle.cedar_grammar.specs.Texts.{Accepted, LeavesGrammar}
use Rattle.cedar_cst.specs.PolicyReaders.{EndsPiece}
use Rattle.cedar_faults.specs.declared.expected.Leaving.{Leaving}

-- the text leaves the grammar there, and what comes before `rest` is accepted and ends a piece
pub record LeavesAfter (text : List ℕ) (l : Leaving) : Type 0 where
  pub deep : Bool
  pub leaves : LeavesGrammar text l.at deep
  pub from : ℕ
  pub rest : l.rest.now ≡ drop from text
  pub ends : EndsPiece text from
  pub accepted : Accepted (take from text)
