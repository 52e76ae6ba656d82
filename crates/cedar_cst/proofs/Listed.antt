-- Items with commas between them, and perhaps one after the last:
-- how they are read, and what stands for them.
use Rattle.std.specs.Prelude.{◌≡◌, ◌&&◌, Bool, true, false, List, [], ◌∷◌, ◌++◌, codes}
use Rattle.std.proofs.Common.{refl, sym, ap, ◌∙◌}
use Rattle.cedar_tokens.specs.declared.kind.Kind.{Kind}
use Rattle.cedar_tokens.specs.declared.kind.Kind.TheVariants as K
use Rattle.cedar_tokens.specs.Kinds.{is, is_closing, begins}
use Rattle.cedar_grammar.specs.Trees.{Label, Forest, none, leaf, branch, join}
use Rattle.cedar_grammar.specs.TrailingCommas.{without_trailing, drop_if}
use Rattle.cedar_grammar.specs.Reader.Reading.{Answer, Reader, done, stuck, choice, both, skip}
use Rattle.cedar_grammar.specs.Reader.Rules.{tailed}
use Rattle.cedar_grammar.proofs.Readers.Equations.{Takes, choice_yes, choice_no, both_first, both_fails, onto, onto_onto, join_none, join_assoc}
use Rattle.cedar_grammar.specs.Erased.{Erased, node}
use Rattle.cedar_reading.specs.Lexemes.{lexeme_nodes}
use Rattle.cedar_grammar.specs.NodeTrees.{is_node}
use Rattle.cedar_reading.specs.Reading.{kind, IsRight, AreRight, Stands}
use Rattle.cedar_cst.specs.ReadingItems.{StandsItems}
use Rattle.cedar_grammar.specs.NodeLists.{item_trees, more_trees}
use Rattle.cedar_reading.specs.declared.lexeme.Lexeme.{Lexeme}
use Rattle.cedar_grammar.specs.declared.tree.Node.{Node}
use Rattle.cedar_reading.proofs.Steps.{is_itself}
use Rattle.cedar_reading.proofs.LeafTexts.{nodes_node, value_is_fixed}
use Rattle.cedar_reading.proofs.Rows.{plain, right_join}
use Rattle.cedar_reading.proofs.Tails.{tailed_end, tailed_item, tailed_fails, tailed_last}

-- a comma before a closing bracket, and one before a tree
comma_dropped : (d t : Lexeme) → d.kind ≡ K.Comma → is_closing t.kind ≡ true
    → lexeme_nodes (leaf d (leaf t none)) ≡ lexeme_nodes (leaf t none)
comma_dropped d t e h =
    ap (λ b. plain (drop_if (b && is_closing t.kind) (leaf d (without_trailing kind (leaf t none)))
    (without_trailing kind (leaf t none)))) (is_itself K.Comma d.kind (sym e))
    ∙ ap (λ b. plain (drop_if b (leaf d (without_trailing kind (leaf t none)))
    (without_trailing kind (leaf t none)))) h

comma_kept : (d : Lexeme) (l : Label) (f g : Forest Label Lexeme) → d.kind ≡ K.Comma → IsRight d
    → lexeme_nodes (leaf d (branch l f g)) ≡ leaf (codes ",") (lexeme_nodes (branch l f g))
comma_kept d l f g e r =
    ap (λ b. plain (drop_if (b && false) (leaf d (without_trailing kind (branch l f g)))
    (without_trailing kind (branch l f g)))) (is_itself K.Comma d.kind (sym e))
    ∙ ap (λ u. leaf u (lexeme_nodes (branch l f g))) (value_is_fixed d K.Comma r e refl)

module _ {X : Type 0} (l : Label) (parts : X → Erased) where
  -- items with a comma after each
  abbrev pub with_commas : List (Node X) → Erased
  with_commas [] = none
  with_commas (n ∷ ns) = node l n.span (parts n.inner) (leaf (codes ",") (with_commas ns))

  more_last : (ns : List (Node X)) (n : Node X) (z : Erased)
      → leaf (codes ",") (join (with_commas ns) (node l n.span (parts n.inner) z))
      ≡ join (more_trees l parts (ns ++ n ∷ [])) z
  more_last [] n z = refl
  more_last (x ∷ ns) n z =
      ap (λ w. leaf (codes ",") (node l x.span (parts x.inner) w)) (more_last ns n z)

  items_last : (ns : List (Node X)) (n : Node X) (z : Erased) → join (with_commas ns) (node l n.span
      (parts n.inner) z) ≡ join (item_trees l parts (ns ++ n ∷ [])) z
  items_last [] n z = refl
  items_last (x ∷ ns) n z = ap (node l x.span (parts x.inner)) (more_last ns n z)

  commas_last : (ns : List (Node X)) (n : Node X) (z : Erased) → join (with_commas ns) (node l
      n.span (parts n.inner) (leaf (codes ",") z)) ≡ join (with_commas (ns ++ n ∷ [])) z
  commas_last [] n z = refl
  commas_last (x ∷ ns) n z =
      ap (λ w. node l x.span (parts x.inner) (leaf (codes ",") w)) (commas_last ns n z)

  -- the items read so far, each with its comma
  pub record StandsOpen (items : List (Node X)) (row : Forest Label Lexeme) : Type 0 where
    pub closed : StandsItems (item_trees l parts items) row
    pub further : (f g : Forest Label Lexeme) → AreRight row → lexeme_nodes (join row
        (branch l f g)) ≡ join (with_commas items) (lexeme_nodes (branch l f g))

  pub no_items : StandsOpen [] none
  no_items = record { closed = λ t c r. refl; further = λ f g r. refl }

  -- one more item, and what follows it
  item_next : is_node l ≡ true
      → (items : List (Node X)) (row f h : Forest Label Lexeme) (n : Node X) → StandsOpen items row
      → Stands n.span (parts n.inner) f → AreRight row → AreRight f
      → lexeme_nodes (join row (branch l f h))
      ≡ join (with_commas items) (node l n.span (parts n.inner) (lexeme_nodes h))
  item_next i items row f h n s g r k = s.further f h r
      ∙ ap (join (with_commas items)) (nodes_node l n.span (parts n.inner) f h i g k)

  pub last_item : is_node l ≡ true → (items : List (Node X)) (row f : Forest Label Lexeme)
      (n : Node X) → StandsOpen items row → Stands n.span (parts n.inner) f
      → StandsItems (item_trees l parts (items ++ n ∷ [])) (join row (branch l f none))
  last_item i items row f n s g t c r =
      let k = right_join row (branch l f none) r in
      ap lexeme_nodes (join_assoc row (branch l f none) (leaf t none))
      ∙ item_next i items row f (leaf t none) n s g k.0 k.1.0
      ∙ items_last items n (lexeme_nodes (leaf t none))

  pub next_item : is_node l ≡ true
      → (items : List (Node X)) (row f : Forest Label Lexeme) (n : Node X) (d : Lexeme)
      → d.kind ≡ K.Comma → StandsOpen items row → Stands n.span (parts n.inner) f
      → StandsOpen (items ++ n ∷ []) (join row (branch l f (leaf d none)))
  next_item i items row f n d e s g = record {
    closed = λ t c r. let k = right_join row (branch l f (leaf d none)) r in
        ap lexeme_nodes (join_assoc row (branch l f (leaf d none)) (leaf t none))
        ∙ item_next i items row f (leaf d (leaf t none)) n s g k.0 k.1.0
        ∙ ap (λ z. join (with_commas items) (node l n.span (parts n.inner) z))
        (comma_dropped d t e c) ∙ items_last items n (lexeme_nodes (leaf t none));
    further = λ h m r. let k = right_join row (branch l f (leaf d none)) r in
        ap lexeme_nodes (join_assoc row (branch l f (leaf d none)) (branch l h m))
        ∙ item_next i items row f (leaf d (branch l h m)) n s g k.0 k.1.0
        ∙ ap (λ z. join (with_commas items) (node l n.span (parts n.inner) z))
        (comma_kept d l h m e k.1.1.0) ∙ commas_last items n (lexeme_nodes (branch l h m));
  }

  -- P reads an item, and u says whether one begins
  module _ (u : Kind → Bool) (P : Reader Lexeme) where
    abbrev pub tail_reader : Reader Lexeme
    tail_reader = tailed kind K.Comma u P skip skip

    abbrev pub list_reader : Reader Lexeme
    list_reader ts = choice (begins kind u ts) (both P tail_reader) skip ts

    comma_reads : Takes P → (d : Lexeme) (ts : List Lexeme) → d.kind ≡ K.Comma
        → tail_reader (d ∷ ts) ≡ onto (leaf d none) (list_reader ts)
    comma_reads takes d ts e = go (begins kind u ts) refl (P ts) refl
      where
        t : is K.Comma d.kind ≡ true
        t = is_itself K.Comma d.kind (sym e)

        go : (b : Bool) → begins kind u ts ≡ b → (a : Answer Lexeme) → P ts ≡ a
            → tail_reader (d ∷ ts) ≡ onto (leaf d none) (list_reader ts)
        go false h a i = tailed_last K.Comma u P skip skip d ts t h ∙ ap (onto (leaf d none))
            (sym (choice_no (begins kind u ts) (both P tail_reader) skip ts h))
        go true h (done f r) i = tailed_item K.Comma u P skip skip takes d ts f r t h i
            ∙ sym (ap (onto (leaf d none)) (choice_yes (begins kind u ts) (both P tail_reader) skip
            ts h ∙ both_first P tail_reader ts f r i) ∙ onto_onto (leaf d none) f (tail_reader r))
        go true h (stuck b r) i = tailed_fails K.Comma u P skip skip d ts b r t h i ∙ sym
            (ap (onto (leaf d none)) (choice_yes (begins kind u ts) (both P tail_reader) skip ts h
            ∙ both_fails P tail_reader ts b r i))

    item_reads : (ts : List Lexeme) (f : Forest Label Lexeme) (r : List Lexeme)
        → begins kind u ts ≡ true → P ts ≡ done f r → list_reader ts ≡ onto f (tail_reader r)
    item_reads ts f r h e = choice_yes (begins kind u ts) (both P tail_reader) skip ts h
        ∙ both_first P tail_reader ts f r e

    -- the loop over the items
    pub record ItemsRead (ts : List Lexeme) (items : List (Node X))
        (rest : List Lexeme) : Type 0 where
      pub row : Forest Label Lexeme
      pub read : list_reader ts ≡ onto row (list_reader rest)
      pub stands : StandsOpen items row

    onto_none : (a : Answer Lexeme) → a ≡ onto none a
    onto_none (done f r) = refl
    onto_none (stuck b r) = refl

    pub items_first : (ts : List Lexeme) (items : List (Node X)) → items ≡ []
        → ItemsRead ts items ts
    items_first ts items e =
        rw e (record { row = none; read = onto_none (list_reader ts); stands = no_items })

    pub items_next : is_node l ≡ true → Takes P → (ts rest s s' : List Lexeme)
        (items more : List (Node X)) (n : Node X) (f : Forest Label Lexeme) (d : Lexeme)
        → ItemsRead ts items rest → begins kind u rest ≡ true → P rest ≡ done (branch l f none) s
        → Stands n.span (parts n.inner) f → s ≡ d ∷ s' → d.kind ≡ K.Comma → more ≡ items ++ n ∷ []
        → ItemsRead ts more s'
    items_next i takes ts rest s s' items more n f d p h e g j k m = rw m (record {
      row = join p.row (branch l f (leaf d none));
      read = p.read ∙ ap (onto p.row) (item_reads rest (branch l f none) s h e
          ∙ ap (λ z. onto (branch l f none) (tail_reader z)) j
          ∙ ap (onto (branch l f none)) (comma_reads takes d s' k)
          ∙ onto_onto (branch l f none) (leaf d none) (list_reader s'))
          ∙ onto_onto p.row (branch l f (leaf d none)) (list_reader s');
      stands = next_item i items p.row f n d k p.stands g;
    })

    -- the last item
    pub items_last_read : (ts rest s : List Lexeme) (items : List (Node X))
        (f : Forest Label Lexeme) → (p : ItemsRead ts items rest) → begins kind u rest ≡ true
        → P rest ≡ done (branch l f none) s → begins kind (is K.Comma) s ≡ false
        → list_reader ts ≡ done (join p.row (branch l f none)) s
    items_last_read ts rest s items f p h e k =
        p.read ∙ ap (onto p.row) (item_reads rest (branch l f none) s h e
        ∙ ap (onto (branch l f none)) (tailed_end K.Comma u P skip skip s k))

    pub items_stuck : (ts rest : List Lexeme) (items : List (Node X)) (b : Bool) (r : List Lexeme)
        → ItemsRead ts items rest → begins kind u rest ≡ true → P rest ≡ stuck b r
        → list_reader ts ≡ stuck b r
    items_stuck ts rest items b r p h e =
        p.read ∙ ap (onto p.row) (choice_yes (begins kind u rest) (both P tail_reader) skip rest h
        ∙ both_fails P tail_reader rest b r e)

    pub items_end : (ts rest : List Lexeme) (items : List (Node X)) → (p : ItemsRead ts items rest)
        → begins kind u rest ≡ false → list_reader ts ≡ done p.row rest
    items_end ts rest items p h =
        p.read ∙ ap (onto p.row) (choice_no (begins kind u rest) (both P tail_reader) skip rest h)
        ∙ ap (λ z. done z rest) (join_none p.row)
