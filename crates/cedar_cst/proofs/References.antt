-- Variables, entities, and paths with their calls.
use Rattle.std.specs.Prelude.{◌≡◌, ℕ, ◌||◌, ◌&&◌, not, Bool, true, false, List, [], ◌∷◌, Result, Ok, Err, Option, Some, None, Vec, box_value}
use Rattle.std.specs.declared.alloc.Global.{Global}
use Rattle.std.specs.Borrow.{Bor}
use Rattle.std.proofs.Common.{refl, sym, ap, ◌∙◌, subst}
use Rattle.std.proofs.lemmas.Bool.{false_from_ne_true, or_right, or_from, or_parts}
use Rattle.std.proofs.Math.Bool.{and-true}
use Rattle.cedar_tokens.specs.declared.kind.Kind.{Kind}
use Rattle.cedar_tokens.specs.declared.kind.Kind.TheVariants as K
use Rattle.cedar_tokens.specs.Kinds.{is, is_ident, is_variable, begins}
use Rattle.cedar_grammar.specs.Trees.{Label, Forest, none, leaf, branch, join}
use Rattle.cedar_grammar.specs.Reader.Reading.{Answer, Reader, done, stuck, after, choice, both, tree, skip, token}
use Rattle.cedar_grammar.specs.Reader.Rules.{reference, shaped_at}
use Rattle.cedar_grammar.specs.Reader.Lines.{call, call_parts}
use Rattle.cedar_grammar.proofs.Readers.Equations.{choice_yes, choice_no, both_first, both_done, both_fails, token_yes, token_no, token_end, tree_fails, onto}
use Rattle.cedar_grammar.proofs.Rules.Languages.{shaped_done, shaped_fails}
use Rattle.cedar_grammar.proofs.KindSets.{within_at}
use Rattle.cedar_grammar.specs.Erased.{access_parts, primary_parts, node}
use Rattle.cedar_reading.specs.Reading.{kind, Fails, Stands, GivesNode, PassesOn, IsNamePrimaryOf, last_end, name_parts}
use Rattle.cedar_grammar.specs.NodeLists.{access_items}
use Rattle.cedar_reading.specs.ReadingParts.{ident_reader, text_reader, words_on, words_then, GoesOn, Words, WordsEnd, GivesWords, IsEntityOf, Makes}
use Rattle.cedar_cst.specs.ReadingItems.{Boxed}
use Rattle.cedar_cst.specs.ReadingExprs.{at_depth, IsCalled, StandsItem, GivesItem}
use Rattle.cedar_reading.specs.declared.lexeme.Lexeme.{Lexeme}
use Rattle.cedar_reading.specs.declared.reading.Refusal.{Refusal}
use Rattle.cedar_reading.specs.declared.reading.Refusal.TheVariants.{Grammar, TooDeep, OutOfMemory}
use Rattle.cedar_grammar.specs.declared.tree.Node.{Node}
use Rattle.cedar_grammar.specs.declared.tree.Ident.{Ident}
use Rattle.cedar_grammar.specs.declared.tree.Name.{Name}
use Rattle.cedar_grammar.specs.declared.tree.Str.{Str}
use Rattle.cedar_grammar.specs.declared.tree.Primary as Primary
use Rattle.cedar_grammar.specs.declared.tree.MemAccess as MemAccess
use Rattle.cedar_reading.proofs.Rows.{row_node, row_nodes, row_parts, row_span}
use Rattle.cedar_reading.proofs.Steps.{passes, fails_as, token_not}
use Rattle.cedar_reading.proofs.Entities.{entity_stands}
use Rattle.cedar_reading.proofs.Tails.{tailed_end}

-- Two sets that agree on the first token.
token_same : (p q : Kind → Bool) (ts : List Lexeme) → begins kind p ts ≡ begins kind q ts
    → token kind p ts ≡ token kind q ts
token_same p q [] e = token_end kind p ∙ sym (token_end kind q)
token_same p q (t ∷ ts) e = go (q t.kind) refl
  where
    go : (b : Bool) → q t.kind ≡ b → token kind p (t ∷ ts) ≡ token kind q (t ∷ ts)
    go true i = token_yes kind p t ts (e ∙ i) ∙ sym (token_yes kind q t ts i)
    go false i = token_no kind p t ts (e ∙ i) ∙ sym (token_no kind q t ts i)

pub tree_same : (l : Label) (P Q : Reader Lexeme) (ts : List Lexeme) → P ts ≡ Q ts
    → tree l P ts ≡ tree l Q ts
unfolding tree
tree_same l P Q ts e = ap (λ (x : Answer Lexeme). after x (λ f r. done (branch l f none) r)) e

both_same : (P Q R : Reader Lexeme) (ts : List Lexeme) → P ts ≡ Q ts → both P R ts ≡ both Q R ts
unfolding both
both_same P Q R ts e =
    ap (λ (x : Answer Lexeme). after x (λ f r. after (R r) (λ g s. done (join f g) s))) e

word_same : (p : Kind → Bool) (ts : List Lexeme) → begins kind p ts ≡ begins kind is_ident ts
    → tree Label.ident (token kind p) ts ≡ ident_reader ts
word_same p ts e =
    tree_same Label.ident (token kind p) (token kind is_ident) ts (token_same p is_ident ts e)

abbrev other_word : Kind → Bool
other_word k = is_ident k && not (is_variable k)

variable_first : (ts : List Lexeme) → begins kind is_variable ts ≡ true
    → begins kind is_variable ts ≡ begins kind is_ident ts
variable_first [] h = absurd cc
variable_first (t ∷ ts) h = h ∙ sym (within_at is_variable is_ident refl t.kind h)

other_first : (ts : List Lexeme) → begins kind is_variable ts ≡ false
    → begins kind other_word ts ≡ begins kind is_ident ts
other_first [] h = refl
other_first (t ∷ ts) h = ap (λ b. is_ident t.kind && not b) h ∙ and-true (is_ident t.kind)

-- what follows a variable: more words, or its call
abbrev follows : Kind → Bool
follows k = is K.DoubleColon k || is K.LParen k

follows_words : (ts : List Lexeme) → begins kind (is K.DoubleColon) ts ≡ true
    → begins kind follows ts ≡ true
follows_words [] h = absurd cc
follows_words (t ∷ ts) h = ap (λ b. b || is K.LParen t.kind) h

follows_call : (ts : List Lexeme) → begins kind (is K.LParen) ts ≡ true
    → begins kind follows ts ≡ true
follows_call [] h = absurd cc
follows_call (t ∷ ts) h = or_right (is K.DoubleColon t.kind) (is K.LParen t.kind) h

follows_none : (ts : List Lexeme) → begins kind (is K.DoubleColon) ts ≡ false
    → begins kind (is K.LParen) ts ≡ false → begins kind follows ts ≡ false
follows_none [] h i = refl
follows_none (t ∷ ts) h i = or_from (is K.DoubleColon t.kind) (is K.LParen t.kind) h i

follows_either : (ts : List Lexeme) → begins kind follows ts ≡ false
    → begins kind (is K.DoubleColon) ts ≡ false
follows_either [] h = refl
follows_either (t ∷ ts) h = (or_parts (is K.DoubleColon t.kind) (is K.LParen t.kind) h).0

-- a refusal that the answer rules out is out of memory
never : (e : Refusal) (a b : Answer Lexeme) (f : Forest Label Lexeme) (r : List Lexeme) → Fails e a
    → a ≡ done f r → Fails e b
never (Grammar left) a b f r h k = absurd (let w : a ≡ stuck false h.0 = h.1 in cc)
never (TooDeep left) a b f r h k = absurd (let w : a ≡ stuck true h.0 = h.1 in cc)
never OutOfMemory a b f r h k = tt

-- a primary and its call
called_stands : (n : Node Primary.Primary) (call : Node MemAccess.MemAccess)
    (v : List (Node MemAccess.MemAccess)) (f g : Forest Label Lexeme) → v ≡ call ∷ []
    → Stands n.span (primary_parts n.inner) f → Stands call.span (access_parts call.inner) g
    → StandsItem n v (branch Label.primary f (branch Label.access g none))
called_stands n call v f g e h i = row_span _ _ _ _
    (ap (λ z. record { start = n.span.start; end = last_end n.span.end z }) (sym e))
    (row_parts _ _ _ _
    (ap (λ z. node Label.primary n.span (primary_parts n.inner) (access_items z)) e)
    (row_nodes Label.primary n.span call.span _ _ f (branch Label.access g none) refl h
    (row_node Label.access call.span _ g refl i)))

name_stands_for : (name : Node Name) (n : Node Primary.Primary) (row : Forest Label Lexeme)
    → IsNamePrimaryOf name n → Stands name.span (name_parts name.inner) row
    → Stands n.span (primary_parts n.inner) (branch Label.name row none)
name_stands_for name n row j h =
    row_span _ _ _ _ (sym j.1) (row_parts _ _ _ _ j.0 (row_node Label.name name.span _ row refl h))

-- C reads the call
module _ (C : Reader Lexeme) where
  abbrev on_variable : Reader Lexeme
  on_variable ts = choice (begins kind follows ts) (words_on C) skip ts

  abbrev words_reader : Reader Lexeme
  words_reader ts = choice (begins kind is_variable ts)
      (both (tree Label.ident (token kind is_variable)) on_variable)
      (both (tree Label.ident (token kind other_word)) (words_on C)) ts

  abbrev pub reference_reader : Reader Lexeme
  reference_reader = shaped_at words_reader

  reads_variable : (ts : List Lexeme) → begins kind is_variable ts ≡ true
      → words_reader ts ≡ both ident_reader on_variable ts
  reads_variable ts h = choice_yes _ _ _ ts h
      ∙ both_same _ ident_reader on_variable ts (word_same is_variable ts (variable_first ts h))

  reads_other : (ts : List Lexeme) → begins kind is_variable ts ≡ false
      → words_reader ts ≡ words_then C ts
  reads_other ts h = choice_no _ _ _ ts h
      ∙ both_same _ ident_reader (words_on C) ts (word_same other_word ts (other_first ts h))

  -- the first word is followed by its call or more words
  reads_on : (ts : List Lexeme) (f : Forest Label Lexeme) (r : List Lexeme)
      → ident_reader ts ≡ done f r → begins kind follows r ≡ true
      → words_reader ts ≡ words_then C ts
  reads_on ts f r e h = go (begins kind is_variable ts) refl
    where
      go : (b : Bool) → begins kind is_variable ts ≡ b → words_reader ts ≡ words_then C ts
      go true i = reads_variable ts i ∙ both_first ident_reader on_variable ts f r e
          ∙ ap (onto f) (choice_yes _ _ _ r h) ∙ sym (both_first ident_reader (words_on C) ts f r e)
      go false i = reads_other ts i

  reads_more : (ts : List Lexeme) → GoesOn ts → words_reader ts ≡ words_then C ts
  reads_more ts g = reads_on ts g.0 g.1 g.2 (follows_words g.1 g.3)

  reads_called : (name : Node Name) (row : Forest Label Lexeme) (ts rest : List Lexeme)
      → WordsEnd name None row ts rest → begins kind (is K.LParen) rest ≡ true
      → words_reader ts ≡ words_then C ts
  reads_called name row ts rest w h = go name.inner.path.items w.1
    where
      go : (ns : List (Node Ident)) → Words ns row ts rest → words_reader ts ≡ words_then C ts
      go [] k = reads_on ts row rest k (follows_call rest h)
      go (n ∷ ns) k = reads_more ts k

  -- How reading ends.
  pub reference_fails : (e : Refusal) (ts : List Lexeme) → GivesWords (Err e) ts
      → Fails e (reference_reader ts)
  reference_fails e ts h = passes e (words_reader ts) (reference_reader ts)
      (go (begins kind is_variable ts) refl) (λ b r i. shaped_fails words_reader ts b r i)
    where
      following : (f : Forest Label Lexeme) (r : List Lexeme) → ident_reader ts ≡ done f r
          → (c : Bool)
          → begins kind follows r ≡ c → Fails e (words_reader ts)
      following f r d true k =
          fails_as e (words_then C ts) (words_reader ts) (h C) (reads_on ts f r d k)
      following f r d false k =
          never e (words_then skip ts) (words_reader ts) (join f none) r (h skip)
          (both_done ident_reader (words_on skip) ts f r none r d
          (tailed_end K.DoubleColon is_ident ident_reader text_reader skip r (follows_either r k)))

      first : begins kind is_variable ts ≡ true → (a : Answer Lexeme) → ident_reader ts ≡ a
          → Fails e (words_reader ts)
      first i (done f r) d = following f r d (begins kind follows r) refl
      first i (stuck b r) d = fails_as e (words_then C ts) (words_reader ts) (h C)
          (reads_variable ts i ∙ both_fails ident_reader on_variable ts b r d
          ∙ sym (both_fails ident_reader (words_on C) ts b r d))

      go : (b : Bool) → begins kind is_variable ts ≡ b → Fails e (words_reader ts)
      go true i = first i (ident_reader ts) refl
      go false i = fails_as e (words_then C ts) (words_reader ts) (h C) (reads_other ts i)

  pub reference_entity : (name : Node Name) (o : Option (Node Str)) (eid : Node Str)
      (n : Node Primary.Primary) (rest : Bor (List Lexeme)) (ts : List Lexeme)
      → GivesWords (Ok ((name, o), rest)) ts → o ≡ Some eid → IsEntityOf name eid n
      → GivesNode Label.primary primary_parts (Ok (n, rest)) (reference_reader ts)
  reference_entity name o eid n rest ts h i j =
      let w = subst (λ z. WordsEnd name z h.0 ts rest.now) i h.3 in
      let g : Forest Label Lexeme = leaf w.0 (branch Label.str w.1 none) in (
        branch Label.ref (branch Label.name h.0 g) none,
        shaped_done words_reader ts (join h.0 g) rest.now (reads_more ts w.3 ∙ w.5 C)
            ∙ ap (λ z. done z rest.now) (h.1 g),
        entity_stands name eid n h.0 w.1 w.0 j w.2 h.2 w.4,
      )

  pub reference_called : (name : Node Name) (o : Option (Node Str)) (rest : Bor (List Lexeme))
      (read : Result (Node MemAccess.MemAccess × Bor (List Lexeme)) Refusal) (result : Result
      ((Boxed Primary.Primary × Vec (Node MemAccess.MemAccess) Global) × Bor (List Lexeme)) Refusal)
      (ts : List Lexeme) → GivesWords (Ok ((name, o), rest)) ts → o ≡ None
      → begins kind (is K.LParen) rest.now ≡ true
      → GivesNode Label.access access_parts read (C rest.now) → PassesOn read result
      → Makes (IsCalled name) read result → GivesItem result (reference_reader ts)
  reference_called name o rest (Ok x) (Ok y) ts h i l g p m =
      let w = subst (λ z. WordsEnd name z h.0 ts rest.now) i h.3 in
      let a : Forest Label Lexeme = branch Label.access g.0 none in
      let f : Forest Label Lexeme = branch Label.primary (branch Label.name h.0 none) a in (
        f,
        shaped_done words_reader ts (join h.0 a) x.1.now (reads_called name h.0 ts rest.now w l
            ∙ w.2 C ∙ ap (onto h.0) g.1) ∙ ap (λ z. done z x.1.now) (h.1 a)
            ∙ ap (λ (z : Bor (List Lexeme)). done f z.now) (sym p),
        called_stands (box_value y.0.0) x.0 y.0.1.items _ g.0 m.1
            (name_stands_for name (box_value y.0.0) h.0 m.0 h.2) g.2,
      )
  reference_called name o rest (Ok x) (Err q) ts h i l g p m = rw p tt
  reference_called name o rest (Err q) (Ok y) ts h i l g p m = absurd p
  reference_called name o rest (Err q) (Err u) ts h i l g p m =
      let w = subst (λ z. WordsEnd name z h.0 ts rest.now) i h.3 in
      rw p (passes q (C rest.now) _ g (λ b r d. shaped_fails words_reader ts b r
      (reads_called name h.0 ts rest.now w l ∙ w.2 C ∙ ap (onto h.0) d)))

  pub reference_variable : (name : Node Name) (o : Option (Node Str)) (n : Node Primary.Primary)
      (rest : Bor (List Lexeme)) (ts : List Lexeme) → GivesWords (Ok ((name, o), rest)) ts
      → o ≡ None → IsNamePrimaryOf name n → begins kind is_variable ts ≡ true
      → name.inner.path.items ≡ [] → begins kind (is K.LParen) rest.now ≡ false
      → GivesNode Label.primary primary_parts (Ok (n, rest)) (reference_reader ts)
  reference_variable name o n rest ts h i j b e l =
      let w = subst (λ z. WordsEnd name z h.0 ts rest.now) i h.3 in
      let k = subst (λ ns. Words ns h.0 ts rest.now) e w.1 in (
        branch Label.name h.0 none,
        shaped_done words_reader ts (join h.0 none) rest.now
            (reads_variable ts b ∙ both_done ident_reader on_variable ts h.0 rest.now none rest.now
            k (choice_no _ (words_on C) skip rest.now (follows_none rest.now w.0 l)))
            ∙ ap (λ z. done z rest.now) (h.1 none),
        name_stands_for name n h.0 j h.2,
      )

  -- a path alone that is no variable
  pub reference_stops : ((ts : List Lexeme) → begins kind (is K.LParen) ts ≡ false
      → C ts ≡ stuck false ts) → (e : Refusal) (name : Node Name) (o : Option (Node Str))
      (rest : Bor (List Lexeme)) (ts : List Lexeme) → GivesWords (Ok ((name, o), rest)) ts
      → o ≡ None
      → begins kind (is K.LParen) rest.now ≡ false
      → (begins kind is_variable ts ≡ true → name.inner.path.items ≡ [] → ⊥)
      → Fails e (stuck false rest.now) → Fails e (reference_reader ts)
  reference_stops refuses e name o rest ts h i l apart f =
      let w = subst (λ z. WordsEnd name z h.0 ts rest.now) i h.3 in
      fails_as e (stuck false rest.now) (reference_reader ts) f (shaped_fails words_reader ts false
      rest.now (go (begins kind is_variable ts) refl name.inner.path.items refl w.1 ∙ w.2 C
      ∙ ap (onto h.0) (refuses rest.now l)))
    where
      go : (b : Bool) → begins kind is_variable ts ≡ b → (ns : List (Node Ident))
          → name.inner.path.items ≡ ns → Words ns h.0 ts rest.now
          → words_reader ts ≡ words_then C ts
      go true k [] q x = absurd (apart k q)
      go true k (n ∷ ns) q x = reads_more ts x
      go false k ns q x = reads_other ts k

pub call_refuses : (d : ℕ) (ts : List Lexeme) → begins kind (is K.LParen) ts ≡ false
    → at_depth d call ts ≡ stuck false ts
call_refuses d ts h = tree_fails Label.access _ ts false ts (choice_no _ _ _ ts h)

-- without a word there is no reference
no_variable : (ts : List Lexeme) → begins kind is_ident ts ≡ false
    → begins kind is_variable ts ≡ false
no_variable [] h = refl
no_variable (t ∷ ts) h = false_from_ne_true (is_variable t.kind)
    (λ e. let w : true ≡ false = sym (within_at is_variable is_ident refl t.kind e) ∙ h in cc)

pub reference_none : (d : ℕ) (ts : List Lexeme) → begins kind is_ident ts ≡ false
    → at_depth d (reference call_parts) ts ≡ stuck false ts
reference_none d ts h = shaped_fails (words_reader (at_depth d call)) ts false ts
    (reads_other (at_depth d call) ts (no_variable ts h)
    ∙ both_fails ident_reader (words_on (at_depth d call)) ts false ts
    (tree_fails Label.ident (token kind is_ident) ts false ts (token_not is_ident ts h)))
