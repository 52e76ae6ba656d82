-- The refusal of a part is that of the whole.
use Rattle.std.specs.Prelude.{◌≡◌, Bool, true, List, Result, Ok, Err, IsErrAnd}
use Rattle.std.proofs.Common.{sym, ap, subst}
use Rattle.cedar_grammar.specs.Trees.{Label, Forest}
use Rattle.cedar_grammar.specs.Reader.Reading.{Reader, done, tree, both, choice}
use Rattle.cedar_grammar.proofs.Readers.Equations.{tree_fails, both_fails, both_then_fails, choice_yes}
use Rattle.cedar_reading.specs.declared.lexeme.Lexeme.{Lexeme}
use Rattle.cedar_reading.specs.declared.reading.Refusal.{Refusal}
use Rattle.cedar_reading.specs.Reading.{Fails}
use Rattle.cedar_reading.proofs.Steps.{passes}

-- what the exit of a `?` returns
pub refused : {X : Type 0} {result : Result X Refusal} {e : Refusal} → IsErrAnd result (λ f. f ≡ e)
    → result ≡ Err e
refused {result = Ok x} h = absurd h
refused {result = Err f} h = ap Err h

pub in_tree : (e : Refusal) (l : Label) (P : Reader Lexeme) (ts : List Lexeme) → Fails e (P ts)
    → Fails e (tree l P ts)
in_tree e l P ts h = passes _ _ _ h (tree_fails l P ts)

pub in_first : (e : Refusal) (P Q : Reader Lexeme) (ts : List Lexeme) → Fails e (P ts)
    → Fails e (both P Q ts)
in_first e P Q ts h = passes _ _ _ h (both_fails P Q ts)

pub in_second : (e : Refusal) (P Q : Reader Lexeme) (ts : List Lexeme) (f : Forest Label Lexeme)
    (r : List Lexeme) → P ts ≡ done f r → Fails e (Q r) → Fails e (both P Q ts)
in_second e P Q ts f r d h = passes _ _ _ h (λ x s. both_then_fails P Q ts f r x s d)

pub in_chosen : (e : Refusal) (b : Bool) (P Q : Reader Lexeme) (ts : List Lexeme) → b ≡ true
    → Fails e (P ts) → Fails e (choice b P Q ts)
in_chosen e b P Q ts d h = subst (Fails e) (sym (choice_yes b P Q ts d)) h

-- for what is read first
pub ruleset firsts = (in_tree, in_first)
