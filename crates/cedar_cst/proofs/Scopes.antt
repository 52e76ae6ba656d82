-- The scope of a policy: its three variables in brackets.
use Rattle.std.specs.Prelude.{◌≡◌, Bool, true, false, List, [], ◌∷◌, codes}
use Rattle.std.proofs.Common.{refl, sym, ap, ◌∙◌}
use Rattle.cedar_tokens.specs.declared.kind.Kind.TheVariants as K
use Rattle.cedar_tokens.specs.Kinds.{is, begins}
use Rattle.cedar_grammar.specs.Trees.{Label, Forest, none, leaf, branch, join}
use Rattle.cedar_grammar.specs.Reader.Reading.{Answer, Reader, done, stuck, choice, both, skip, one}
use Rattle.cedar_grammar.proofs.Readers.Equations.{both_done, both_fails, both_then_fails, choice_yes, choice_no, join_assoc}
use Rattle.cedar_reading.specs.Reading.{kind, Stands, Skips}
use Rattle.cedar_cst.specs.ReadingItems.{StandsItems}
use Rattle.cedar_grammar.specs.NodeLists.{item_trees}
use Rattle.cedar_reading.specs.declared.lexeme.Lexeme.{Lexeme}
use Rattle.cedar_grammar.specs.declared.tree.Node.{Node}
use Rattle.cedar_grammar.specs.declared.tree.VariableDef.{VariableDef}
use Rattle.cedar_reading.proofs.Steps.{token_at, first_begins, is_itself}
use Rattle.cedar_reading.proofs.LeafTexts.{from_to}
use Rattle.cedar_cst.proofs.Bracketed.{row_brackets}
use Rattle.cedar_cst.proofs.Listed.{StandsOpen, no_items, next_item, last_item}
use Rattle.cedar_grammar.specs.Erased.{variable_parts}

-- three readers, one after another
pub both_assoc : (P Q R : Reader Lexeme) (ts : List Lexeme)
    → both P (both Q R) ts ≡ both (both P Q) R ts
both_assoc P Q R ts = first (P ts) refl
  where
    third : (f g : Forest Label Lexeme) (r s : List Lexeme) → P ts ≡ done f r → Q r ≡ done g s
        → (a : Answer Lexeme) → R s ≡ a → both P (both Q R) ts ≡ both (both P Q) R ts
    third f g r s e d (done h u) i =
        both_done P (both Q R) ts f r (join g h) u e (both_done Q R r g s h u d i)
        ∙ ap (λ z. done z u) (sym (join_assoc f g h))
        ∙ sym (both_done (both P Q) R ts (join f g) s h u (both_done P Q ts f r g s e d) i)
    third f g r s e d (stuck b u) i =
        both_then_fails P (both Q R) ts f r b u e (both_then_fails Q R r g s b u d i)
        ∙ sym (both_then_fails (both P Q) R ts (join f g) s b u (both_done P Q ts f r g s e d) i)

    second : (f : Forest Label Lexeme) (r : List Lexeme) → P ts ≡ done f r → (a : Answer Lexeme)
        → Q r ≡ a → both P (both Q R) ts ≡ both (both P Q) R ts
    second f r e (done g s) d = third f g r s e d (R s) refl
    second f r e (stuck b s) d = both_then_fails P (both Q R) ts f r b s e (both_fails Q R r b s d)
        ∙ sym (both_fails (both P Q) R ts b s (both_then_fails P Q ts f r b s e d))

    first : (a : Answer Lexeme) → P ts ≡ a → both P (both Q R) ts ≡ both (both P Q) R ts
    first (done f r) e = second f r e (Q r) refl
    first (stuck b r) e = both_fails P (both Q R) ts b r e
        ∙ sym (both_fails (both P Q) R ts b r (both_fails P Q ts b r e))

abbrev comma : Reader Lexeme
comma = one kind K.Comma

-- perhaps a comma, and the closing bracket
abbrev pub closing : Reader Lexeme
closing = both (λ ts. choice (begins kind (is K.Comma) ts) comma skip ts) (one kind K.RParen)

pub closing_plain : (ts : List Lexeme) (a : Answer Lexeme) → begins kind (is K.Comma) ts ≡ false
    → one kind K.RParen ts ≡ a → closing ts ≡ a
closing_plain ts (done f r) h e =
    both_done _ (one kind K.RParen) ts none ts f r (choice_no _ _ _ ts h) e
closing_plain ts (stuck b r) h e =
    both_then_fails _ (one kind K.RParen) ts none ts b r (choice_no _ _ _ ts h) e

pub comma_first : (ts : List Lexeme) (d : Lexeme) (rest : List Lexeme) → ts ≡ d ∷ rest
    → d.kind ≡ K.Comma
    → choice (begins kind (is K.Comma) ts) comma skip ts ≡ done (leaf d none) rest
comma_first ts d rest e k =
    choice_yes _ _ _ ts (first_begins (is K.Comma) ts d rest e ∙ is_itself K.Comma d.kind (sym k))
    ∙ token_at (is K.Comma) ts d rest e (is_itself K.Comma d.kind (sym k))

pub closing_done : (ts : List Lexeme) (d : Lexeme) (rest : List Lexeme) (f : Forest Label Lexeme)
    (r : List Lexeme) → ts ≡ d ∷ rest → d.kind ≡ K.Comma → one kind K.RParen rest ≡ done f r
    → closing ts ≡ done (leaf d f) r
closing_done ts d rest f r e k i =
    both_done _ (one kind K.RParen) ts (leaf d none) rest f r (comma_first ts d rest e k) i

pub closing_fails : (ts : List Lexeme) (d : Lexeme) (rest : List Lexeme) (b : Bool)
    (r : List Lexeme) → ts ≡ d ∷ rest → d.kind ≡ K.Comma → one kind K.RParen rest ≡ stuck b r
    → closing ts ≡ stuck b r
closing_fails ts d rest b r e k i =
    both_then_fails _ (one kind K.RParen) ts (leaf d none) rest b r (comma_first ts d rest e k) i

-- U, A and V read the variables
module _ (U A V : Reader Lexeme) where
  abbrev pub third_on : Reader Lexeme
  third_on = both V closing

  abbrev pub second_on : Reader Lexeme
  second_on = both A (both comma third_on)

  abbrev pub first_on : Reader Lexeme
  first_on = both U (both comma second_on)

  abbrev pub scope_reader : Reader Lexeme
  scope_reader = both (one kind K.LParen) first_on

  -- the exits
  pub first_fails : (ts rest : List Lexeme) (o : Lexeme) (b : Bool) (r : List Lexeme)
      → one kind K.LParen ts ≡ done (leaf o none) rest → both U comma rest ≡ stuck b r
      → scope_reader ts ≡ stuck b r
  first_fails ts rest o b r e h = both_then_fails (one kind K.LParen) first_on ts (leaf o none) rest
      b r e (both_assoc U comma second_on rest ∙ both_fails (both U comma) second_on rest b r h)

  pub second_fails : (ts rest two : List Lexeme) (o : Lexeme) (f : Forest Label Lexeme) (b : Bool)
      (r : List Lexeme) → one kind K.LParen ts ≡ done (leaf o none) rest
      → both U comma rest ≡ done f two → second_on two ≡ stuck b r → scope_reader ts ≡ stuck b r
  second_fails ts rest two o f b r e h i = both_then_fails (one kind K.LParen) first_on ts
      (leaf o none) rest b r e (both_assoc U comma second_on rest
      ∙ both_then_fails (both U comma) second_on rest f two b r h i)

  pub action_fails : (two : List Lexeme) (b : Bool) (r : List Lexeme) → both A comma two ≡ stuck b r
      → second_on two ≡ stuck b r
  action_fails two b r i =
      both_assoc A comma third_on two ∙ both_fails (both A comma) third_on two b r i

  pub third_fails : (two three : List Lexeme) (g : Forest Label Lexeme) (b : Bool) (r : List Lexeme)
      → both A comma two ≡ done g three → third_on three ≡ stuck b r → second_on two ≡ stuck b r
  third_fails two three g b r h i =
      both_assoc A comma third_on two ∙ both_then_fails (both A comma) third_on two g three b r h i

  pub scope_done : (ts rest two three four s : List Lexeme) (o : Lexeme)
      (f g h k : Forest Label Lexeme) → one kind K.LParen ts ≡ done (leaf o none) rest
      → both U comma rest ≡ done f two → both A comma two ≡ done g three → V three ≡ done h four
      → closing four ≡ done k s
      → scope_reader ts ≡ done (leaf o (join f (join g (join h k)))) s
  scope_done ts rest two three four s o f g h k e i j l m =
      both_done (one kind K.LParen) first_on ts (leaf o none) rest (join f (join g (join h k))) s e
      (both_assoc U comma second_on rest
      ∙ both_done (both U comma) second_on rest f two (join g (join h k)) s i
      (both_assoc A comma third_on two ∙ both_done (both A comma) third_on two g three
      (join h k) s j (both_done V closing three h four k s l m)))

-- the variables stand for what was read
module _ (u a v : Node VariableDef) (f g h : Forest Label Lexeme) (c d : Lexeme)
    (k : c.kind ≡ K.Comma) (l : d.kind ≡ K.Comma) (i : Stands u.span (variable_parts u.inner) f)
    (j : Stands a.span (variable_parts a.inner) g)
    (m : Stands v.span (variable_parts v.inner) h) where
  two_stand : StandsOpen Label.variable variable_parts (u ∷ (a ∷ []))
      (branch Label.variable f (leaf c (branch Label.variable g (leaf d none))))
  two_stand =
      next_item Label.variable variable_parts refl (u ∷ []) _ g a d l (next_item Label.variable
      variable_parts refl [] none f u c k (no_items Label.variable variable_parts) i) j

  pub three_stand : StandsItems (item_trees Label.variable variable_parts (u ∷ (a ∷ (v ∷ []))))
      (branch Label.variable f
      (leaf c (branch Label.variable g (leaf d (branch Label.variable h none)))))
  three_stand = last_item Label.variable variable_parts refl (u ∷ (a ∷ [])) _ h v two_stand m

  pub three_stand_comma : (e : Lexeme) → e.kind ≡ K.Comma → StandsItems (item_trees Label.variable
      variable_parts (u ∷ (a ∷ (v ∷ [])))) (branch Label.variable f
      (leaf c (branch Label.variable g (leaf d (branch Label.variable h (leaf e none))))))
  three_stand_comma e n =
      (next_item Label.variable variable_parts refl (u ∷ (a ∷ [])) _ h v e n two_stand m).closed

  -- with what follows the last of them
  pub closed_scope : (b : Bool) (old new r : List Lexeme) (o t : Lexeme) → Skips K.Comma old new b
      → o.kind ≡ K.LParen → one kind K.RParen new ≡ done (leaf t none) r → t.kind ≡ K.RParen
      → (q : Forest Label Lexeme) × (closing old ≡ done q r)
      × Stands (from_to o.span t.span) (leaf (codes "(") (join
      (item_trees Label.variable variable_parts (u ∷ (a ∷ (v ∷ [])))) (leaf (codes ")") none)))
      (leaf o (branch Label.variable f
      (leaf c (branch Label.variable g (leaf d (branch Label.variable h q))))))
  closed_scope false old new r o t s e n w = (
    leaf t none,
    closing_plain old (done (leaf t none) r) (sym s.0)
        (ap (one kind K.RParen) (sym (s.1 refl)) ∙ n),
    row_brackets o t K.LParen K.RParen
        (item_trees Label.variable variable_parts (u ∷ (a ∷ (v ∷ [])))) (branch Label.variable f
        (leaf c (branch Label.variable g (leaf d (branch Label.variable h none))))) e refl refl w
        refl refl refl three_stand,
  )
  closed_scope true old new r o t s e n w =
      let x = s.2 refl in (
        leaf x.0 (leaf t none),
        closing_done old x.0 new (leaf t none) r x.1 x.2 n,
        row_brackets o t K.LParen K.RParen
            (item_trees Label.variable variable_parts (u ∷ (a ∷ (v ∷ [])))) (branch Label.variable f
            (leaf c (branch Label.variable g (leaf d (branch Label.variable h (leaf x.0 none)))))) e
            refl refl w refl refl refl (three_stand_comma x.0 x.2),
      )

pub closing_stuck : (b : Bool) (old new : List Lexeme) (x : Bool) (r : List Lexeme)
    → Skips K.Comma old new b → one kind K.RParen new ≡ stuck x r → closing old ≡ stuck x r
closing_stuck false old new x r s i =
    closing_plain old (stuck x r) (sym s.0) (ap (one kind K.RParen) (sym (s.1 refl)) ∙ i)
closing_stuck true old new x r s i = let d = s.2 refl in closing_fails old d.0 new x r d.1 d.2 i
