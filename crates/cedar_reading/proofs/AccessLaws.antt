-- One turn of the loop over accesses in a primary: a field and perhaps its call, or an index.
use Rattle.std.specs.Prelude.{◌≡◌, ◌&&◌, Bool, true, false, List, [], ◌∷◌}
use Rattle.std.proofs.Common.{refl, sym, ◌∙◌}
use Rattle.cedar_tokens.specs.declared.kind.Kind.TheVariants as K
use Rattle.cedar_tokens.specs.Kinds.{is, begins}
use Rattle.cedar_grammar.specs.Trees.{Label, Forest, none, branch}
use Rattle.cedar_grammar.specs.Reader.Reading.{Reader, done, stuck, choice, both, skip}
use Rattle.cedar_grammar.proofs.Readers.Equations.{both_done, both_fails, both_then_fails, choice_yes, choice_no}
use Rattle.cedar_grammar.specs.Erased.{access_parts}
use Rattle.cedar_reading.specs.Reading.{kind, Stands}
use Rattle.cedar_grammar.specs.NodeLists.{access_items}
use Rattle.cedar_reading.specs.declared.lexeme.Lexeme.{Lexeme}
use Rattle.cedar_grammar.specs.declared.tree.Node.{Node}
use Rattle.cedar_grammar.specs.declared.tree.MemAccess as MemAccess
use Rattle.cedar_reading.proofs.LeafTexts.{from_to}
use Rattle.cedar_reading.proofs.Rows.{row_node, row_nodes}

-- F reads a field, I an index and C a call
module _ (F I C : Reader Lexeme) where
  abbrev pub plain_reader : Reader Lexeme
  plain_reader ts = choice (begins kind (is K.Dot) ts) F I ts

  abbrev pub call_reader : Reader Lexeme
  call_reader ts = choice (begins kind (is K.LParen) ts) C skip ts

  abbrev pub turn_reader : Reader Lexeme
  turn_reader ts = choice (begins kind (is K.Dot) ts) (both F call_reader) I ts

  pub turn_fails : (ts : List Lexeme) (b : Bool) (r : List Lexeme) → plain_reader ts ≡ stuck b r
      → turn_reader ts ≡ stuck b r
  turn_fails ts b r e = go (begins kind (is K.Dot) ts) refl
    where
      go : (x : Bool) → begins kind (is K.Dot) ts ≡ x → turn_reader ts ≡ stuck b r
      go true h =
          choice_yes _ _ _ ts h ∙ both_fails F call_reader ts b r (sym (choice_yes _ F I ts h) ∙ e)
      go false h = choice_no _ _ _ ts h ∙ sym (choice_no _ F I ts h) ∙ e

  turn_index : (ts : List Lexeme) (f : Forest Label Lexeme) (r : List Lexeme)
      → begins kind (is K.Dot) ts ≡ false → plain_reader ts ≡ done f r → turn_reader ts ≡ done f r
  turn_index ts f r h e = choice_no _ _ _ ts h ∙ sym (choice_no _ F I ts h) ∙ e

  turn_field : (ts : List Lexeme) (f : Forest Label Lexeme) (r : List Lexeme)
      → begins kind (is K.Dot) ts ≡ true → plain_reader ts ≡ done (branch Label.access f none) r
      → begins kind (is K.LParen) r ≡ false → turn_reader ts ≡ done (branch Label.access f none) r
  turn_field ts f r h e i = choice_yes _ _ _ ts h ∙ both_done F call_reader ts
      (branch Label.access f none) r none r (sym (choice_yes _ F I ts h) ∙ e) (choice_no _ _ _ r i)

  turn_call : (ts : List Lexeme) (f : Forest Label Lexeme) (r : List Lexeme)
      (g : Forest Label Lexeme) (s : List Lexeme) → begins kind (is K.Dot) ts ≡ true
      → plain_reader ts ≡ done (branch Label.access f none) r → begins kind (is K.LParen) r ≡ true
      → C r ≡ done (branch Label.access g none) s
      → turn_reader ts ≡ done (branch Label.access f (branch Label.access g none)) s
  turn_call ts f r g s h e i d =
      choice_yes _ _ _ ts h ∙ both_done F call_reader ts (branch Label.access f none) r
      (branch Label.access g none) s (sym (choice_yes _ F I ts h) ∙ e) (choice_yes _ _ _ r i ∙ d)

  turn_call_fails : (ts : List Lexeme) (f : Forest Label Lexeme) (r : List Lexeme) (b : Bool)
      (s : List Lexeme) → begins kind (is K.Dot) ts ≡ true
      → plain_reader ts ≡ done (branch Label.access f none) r → begins kind (is K.LParen) r ≡ true
      → C r ≡ stuck b s
      → turn_reader ts ≡ stuck b s
  turn_call_fails ts f r b s h e i d =
      choice_yes _ _ _ ts h ∙ both_then_fails F call_reader ts (branch Label.access f none) r b s
      (sym (choice_yes _ F I ts h) ∙ e) (choice_yes _ _ _ r i ∙ d)

  -- b says whether a field was read
  pub turn_plain : (b : Bool) (ts : List Lexeme) (f : Forest Label Lexeme) (r : List Lexeme)
      → b ≡ begins kind (is K.Dot) ts → plain_reader ts ≡ done (branch Label.access f none) r
      → (b && begins kind (is K.LParen) r) ≡ false
      → turn_reader ts ≡ done (branch Label.access f none) r
  turn_plain true ts f r e d h = turn_field ts f r (sym e) d h
  turn_plain false ts f r e d h = turn_index ts (branch Label.access f none) r (sym e) d

  pub turn_called : (b : Bool) (ts : List Lexeme) (f : Forest Label Lexeme) (r : List Lexeme)
      (g : Forest Label Lexeme) (s : List Lexeme) → b ≡ begins kind (is K.Dot) ts
      → plain_reader ts ≡ done (branch Label.access f none) r
      → (b && begins kind (is K.LParen) r) ≡ true
      → C r ≡ done (branch Label.access g none) s
      → turn_reader ts ≡ done (branch Label.access f (branch Label.access g none)) s
  turn_called true ts f r g s e d h i = turn_call ts f r g s (sym e) d h i
  turn_called false ts f r g s e d h i = absurd cc

  pub turn_called_fails : (b : Bool) (ts : List Lexeme) (f : Forest Label Lexeme) (r : List Lexeme)
      (x : Bool) (s : List Lexeme) → b ≡ begins kind (is K.Dot) ts
      → plain_reader ts ≡ done (branch Label.access f none) r
      → (b && begins kind (is K.LParen) r) ≡ true → C r ≡ stuck x s
      → turn_reader ts ≡ stuck x s
  turn_called_fails true ts f r x s e d h i = turn_call_fails ts f r x s (sym e) d h i
  turn_called_fails false ts f r x s e d h i = absurd cc

-- a field and its call
pub two_accesses : (n m : Node MemAccess.MemAccess) (f g : Forest Label Lexeme)
    → Stands n.span (access_parts n.inner) f → Stands m.span (access_parts m.inner) g
    → Stands (from_to n.span m.span) (access_items (n ∷ m ∷ []))
    (branch Label.access f (branch Label.access g none))
two_accesses n m f g h i =
    row_nodes Label.access _ _ _ _ f _ refl h (row_node Label.access _ _ g refl i)
