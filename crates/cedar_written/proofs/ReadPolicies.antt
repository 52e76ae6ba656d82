-- From tokens with a document to typed policies, line by line.
use Rattle.std.proofs.Common.{◌≡◌, ℕ, ℤ, pos, Bool, true, false, ◌&&◌, ◌≤◌, ◌+◌, List, [], ◌∷◌, ◌++◌, length, map, refl, ap, sym, ◌∙◌, subst, inl, inr, ◌⊎◌, append_assoc, arith}
use Rattle.std.proofs.Math.Bool.{and-false}
use Rattle.std.proofs.lemmas.List.{length-append}
use Rattle.std.specs.List.{flat_map}
use Rattle.std.specs.Prelude.{IsTrue, ⊤}
use Prim.Native.String.{String}
use Rattle.cedar_tokens.specs.Units.{is_word}
use Rattle.cedar_tokens.specs.Listing.{Decorated}
use Rattle.cedar_tokens.specs.PlainList.{is_closing_bracket}
use Rattle.cedar_tokens.specs.TokenKinds.{other_kind}
use Rattle.cedar_layout.specs.Layout.{Doc, nil, nest, group, line, hard, ◌·◌}
use Rattle.cedar_layout.specs.Comments.{space, lead_of}
use Rattle.cedar_laws.specs.Leaves.{part_map}
use Rattle.cedar_layout.proofs.Values.{dot-nil, dot_assoc}
use Rattle.cedar_laws.specs.Table.{C, lead, tok as tok_of, trail, printed, bare_token, lines_of_first, table, part_table, literal_kind, is_bare, between_conds, scope as scope_doc, variables as variables_doc}
use Rattle.cedar_grammar.specs.Trees.{Label, Forest, none, leaf, branch, join, yield}
use Rattle.cedar_grammar.specs.Languages.{Lang, ◌⋄◌, ◌∪◌, Many, no_more, one_more, Maybe, Branch}
use Rattle.cedar_grammar.specs.Grammar as Gr
use Rattle.cedar_grammar.specs.TypedTrees as K
use Rattle.cedar_grammar.specs.TypedTrees.{Tree, PartKind, Clause, tree_yield, parts, part_yield, part_parts, map_first, policy_trees}
use Rattle.cedar_written.specs.Languages.{◌⋄◌ as ◌⊙◌, ◌∪◌ as ◌⊕◌}
use Rattle.cedar_written.specs.Languages as L
use Rattle.cedar_written.specs.Written as W
use Rattle.cedar_written.proofs.SameRows.{text}
use Rattle.cedar_written.proofs.Reading.{View, Reads, Agree, both, nothing, one, changed, labelled, optional, leaf_reads, ◌then◌, ◌or◌, as_view, in_language, branch_reads, mapped_reads, put_reads, after_put, before_put, closed, no_comma, maybe_reads, in_turn, Plain, Allows, plain_parts, first_closes}
use Rattle.cedar_written.proofs.ReadExpressions.{of, node, forest, tok, tok_then, string, path, entity, operand, args, expr}
use Rattle.cedar_written.proofs.Regrouped as R
use Rattle.cedar_written.proofs.FirstTokens.{with_lines, with_first}
use Rattle.cedar_grammar.proofs.Trees.Laws.{typed_leaves}

-- ---- groups after the leading lines of their first token

pub led_group_reads : {o : Bool} {X : L.Lang} {T U : Type 0} {v : View T} {Y : Lang (List ℕ)}
    (w : View U) (set : Decorated → T → U)
    → ((t : Decorated) (ts : List Decorated) (x : T) → bare_token t ∷ ts ≡ v.leaves x
    → (t ∷ ts ≡ w.leaves (set t x)) × (lead t · group (v.doc x) ≡ w.doc (set t x))
    × (v.trees x ≡ w.trees (set t x)))
    → Reads o X v Y → Reads o (L.LedGroup X) w Y
led_group_reads {o} {X} {T} {U} {v} {Y} w set same x = record { read = go }
  where
    go : (c : Bool) (ts : List Decorated) (d : Doc) → Allows o c → Plain c ts → L.LedGroup X ts d
        → (t : U) × (ts ≡ w.leaves t) × (d ≡ w.doc t) × Y (w.trees t)
    go c [] d a p y = absurd y
    go c (t ∷ ts) d a p (e, h, y) =
        let k = x.read c (bare_token t ∷ ts) e a p y in
        let q = same t ts k.0 k.1 in
        (set t k.0, q.0, h ∙ (ap (λ z. lead t · group z) k.2 ∙ q.1), subst Y q.2 k.3)

-- X any number of times
module _ {X : L.Lang} {T U : Type 0} {v : View T} {Y : Lang (List ℕ)} (w : View U) (z : U)
    (more : T → U → U)
    (z_is : ([] ≡ w.leaves z) × (nil ≡ w.doc z) × (none ≡ w.trees z))
    (more_is : Agree (both v w) w (λ t. more t.0 t.1)) (x : Reads false X v Y) where
  many_from : (c : Bool) (ts : List Decorated) (d : Doc) → Plain c ts → L.Many X ts d
      → (t : U) × (ts ≡ w.leaves t) × (d ≡ w.doc t) × Many Y (w.trees t)
  many_from c _ _ p L.no_more = (z, z_is.0, z_is.1, no_more _ (sym z_is.2))
  many_from c _ _ p (L.one_more us vs e f y m) =
      let pl = plain_parts c us vs p in
      let k = x.read (first_closes c vs) us e tt pl.0 y in
      let r = many_from c vs f pl.1 m in
      let q = more_is (k.0, r.0) in (
        more k.0 r.0,
        ap (λ z. z ++ vs) k.1 ∙ (ap (λ z. v.leaves k.0 ++ z) r.1 ∙ q.0),
        ap (λ z. z · f) k.2 ∙ (ap (λ z. v.doc k.0 · z) r.2 ∙ q.1),
        one_more _ (v.trees k.0) (w.trees r.0) (sym q.2) k.3 r.3,
      )

  pub many_reads : Reads false (L.Many X) w (Many Y)
  many_reads = record { read = λ c ts d a p y. many_from c ts d p y }

module _ (i : ℤ) where
  abbrev pub clause_forest : {k : PartKind} → Clause Decorated k → Forest Label (List ℕ)
  clause_forest p = part_parts other_kind (part_map (λ x. x.text) p)

  abbrev pub part : (k : PartKind) → View (Clause Decorated k)
  part k = record { leaves = part_yield; doc = part_table i; trees = λ t. clause_forest t }

  abbrev pub part_node : Label → (k : PartKind) → View (Clause Decorated k)
  part_node l k = labelled l (part k)

  -- ---- annotations
  annotation : Reads false W.Annotation (part_node Label.annotation K.annotation)
      (Gr.Annotation text)
  annotation = as_view (part_node Label.annotation K.annotation) clause clause_is
      (branch_reads Label.annotation
      (tok i "@" then word
      then (as_view ending (λ t. inl t) (λ t. (refl, refl, refl))
      (tok i "(" then branch_reads Label.str (string i) then tok_then i ")" hard)
      or as_view ending (λ t. inr t) (λ t. (refl, refl, refl)) (put_reads hard))))
    where
      word : Reads false W.AnyWord (labelled Label.ident (one nil)) (Gr.AnyWord text)
      word = branch_reads Label.ident (leaf_reads (λ t. IsTrue (is_word t)) nil)

      ending : View ((Decorated × (Decorated × Decorated)) ⊎ ⊤)
      ending = record {
        leaves = λ t. elim t [ inl x ↦ x.0 ∷ x.1.0 ∷ x.1.1 ∷ [] | inr u ↦ [] ];
        doc = λ t. elim t [ inl x ↦ printed x.0 · printed x.1.0 · C x.1.1 hard | inr u ↦ hard ];
        trees = λ t. elim t [
          | inl x ↦ leaf x.0.text
              (branch Label.str (leaf x.1.0.text none) (leaf x.1.1.text none))
          | inr u ↦ none
        ];
      }

      clause : Decorated × (Decorated × ((Decorated × (Decorated × Decorated)) ⊎ ⊤))
          → Clause Decorated K.annotation
      clause (a, (k, inl (l, (s, r)))) = K.annotation_value a k l s r
      clause (a, (k, inr u)) = K.annotation_bare a k

      clause_is : Agree (labelled Label.annotation
          (both (one nil) (both (labelled Label.ident (one nil)) ending)))
          (part_node Label.annotation K.annotation) clause
      clause_is (a, (k, inl (l, (s, r)))) = (refl, refl, refl)
      clause_is (a, (k, inr u)) = (refl, refl, refl)

  annotations : Reads false (L.Many W.Annotation) (part K.annotations) (Many (Gr.Annotation text))
  annotations = many_reads (part K.annotations) K.no_annotation K.annotations_more
      (refl, refl, refl) (λ t. (refl, refl, refl)) annotation

  -- ---- the scope
  slot_or : (s : String) → Reads false (W.Operand i (W.Tok s ⊕ W.Entity)) (node i Label.add K.add)
      (Gr.EntityOr text s)
  slot_or s =
      operand i (as_view (node i Label.primary K.primary) (λ t. K.slot t) (λ t. (refl, refl, refl))
      (branch_reads Label.primary (branch_reads Label.slot (tok i s))) or entity i)

  abbrev Typed : Type 0
  Typed = (Decorated × Tree Decorated K.name) ⊎ ⊤

  abbrev type_view : View (Decorated × Tree Decorated K.name)
  type_view = changed (λ d. group (nest i d))
      (both (changed (λ d. group (line · d)) (one nil))
      (changed (λ d. line · d) (node i Label.name K.name)))

  type_part : Reads false (W.TypePart i) type_view (Gr.Tok text "is" ⋄ Gr.Path text)
  type_part = mapped_reads group
      (mapped_reads (nest i) (mapped_reads group (after_put line (tok i "is"))
      then after_put line (path i)))

  -- a variable, and what it is compared with
  abbrev name_view : View Decorated
  name_view = labelled Label.ident (one nil)

  name : (v : String) → Reads false (W.Tok v) name_view (Branch Label.ident (Gr.Tok text v))
  name v = branch_reads Label.ident (tok i v)

  abbrev typed_view : View (Decorated × Typed)
  typed_view = both name_view (optional type_view)

  typed_variable : Decorated × Typed → Clause Decorated K.variable
  typed_variable (v, inl (o, n)) = K.variable_is v o n
  typed_variable (v, inr u) = K.variable_bare v

  typed_is : Agree typed_view (part K.variable) typed_variable
  unfolding typed_variable
  typed_is (v, inl (o, n)) = (refl, refl, refl)
  typed_is (v, inr u) = (refl, dot-nil (printed v), refl)

  compare : {X : L.Lang} {Y : Lang (List ℕ)} (v op : String)
      → Reads false X (node i Label.add K.add) Y
      → Reads false (W.Compared i (W.Tok v) op X) (part K.variable)
      ((Branch Label.ident (Gr.Tok text v) ⋄ Gr.Tok text op) ⋄ Y)
  compare v op x = led_group_reads (part K.variable) set same
      (mapped_reads group (name v then after_put line (tok i op))
      then mapped_reads (nest i) (after_put line x))
    where
      set : Decorated → (Decorated × Decorated) × Tree Decorated K.add → Clause Decorated K.variable
      set t x = K.variable_op t x.0.1 x.1

      same : (t : Decorated) (ts : List Decorated)
          (x : (Decorated × Decorated) × Tree Decorated K.add)
          → bare_token t ∷ ts ≡ x.0.0 ∷ x.0.1 ∷ tree_yield x.1
          → (t ∷ ts ≡ part_yield (set t x))
          × (lead t · group (group (printed x.0.0 · line · printed x.0.1)
          · nest i (line · table i x.1)) ≡ part_table i (set t x))
          × (branch Label.ident (leaf x.0.0.text none)
          (leaf x.0.1.text (branch Label.add (forest i x.1) none)) ≡ clause_forest (set t x))
      same t ts ((w, o), a) e =
          let f : bare_token t ≡ w = cc in
          let r : ts ≡ o ∷ tree_yield a = cc in (
            ap (λ z. t ∷ z) r,
            ap (λ z. lead t · group (group (printed z · line · printed o)
                · nest i (line · table i a))) (sym f),
            ap (λ (z : Decorated). branch Label.ident (leaf z.text none)
                (leaf o.text (branch Label.add (forest i a) none))) (sym f),
          )

  compare_typed : {X : L.Lang} {Y : Lang (List ℕ)} (v op : String)
      → Reads false X (node i Label.add K.add) Y
      → Reads false (W.Compared i (W.Tok v ⊙ L.Maybe (W.TypePart i)) op X) (part K.variable)
      (((Branch Label.ident (Gr.Tok text v) ⋄ Maybe (Gr.Tok text "is" ⋄ Gr.Path text))
      ⋄ Gr.Tok text op) ⋄ Y)
  compare_typed v op x = led_group_reads (part K.variable) set same
      (mapped_reads group ((name v then maybe_reads type_part) then after_put line (tok i op))
      then mapped_reads (nest i) (after_put line x))
    where
      set : Decorated → ((Decorated × Typed) × Decorated) × Tree Decorated K.add
          → Clause Decorated K.variable
      set t (((w, inl (o, n)), p), a) = K.variable_is_op t o n p a
      set t (((w, inr u), p), a) = K.variable_op t p a

      same : (t : Decorated) (ts : List Decorated)
          (x : ((Decorated × Typed) × Decorated) × Tree Decorated K.add)
          → bare_token t ∷ ts ≡ (typed_view.leaves x.0.0 ++ (x.0.1 ∷ [])) ++ tree_yield x.1
          → (t ∷ ts ≡ part_yield (set t x))
          × (lead t · group (group (typed_view.doc x.0.0 · line · printed x.0.1)
          · nest i (line · table i x.1)) ≡ part_table i (set t x))
          × (join (join (typed_view.trees x.0.0) (leaf x.0.1.text none))
          (branch Label.add (forest i x.1) none) ≡ clause_forest (set t x))
      same t ts (((w, inl (o, n)), p), a) e =
          let f : bare_token t ≡ w = cc in
          let r : ts ≡ o ∷ ((tree_yield n ++ (p ∷ [])) ++ tree_yield a) = cc in (
            ap (λ z. t ∷ z) (r ∙ ap (λ z. o ∷ z)
                (append_assoc (tree_yield n) (p ∷ []) (tree_yield a))),
            ap (λ z. lead t · group (group ((printed z · type_view.doc (o, n)) · line · printed p)
                · nest i (line · table i a))) (sym f),
            ap (λ (z : Decorated). branch Label.ident (leaf z.text none)
                (leaf o.text (branch Label.name (forest i n)
                (leaf p.text (branch Label.add (forest i a) none))))) (sym f),
          )
      same t ts (((w, inr u), p), a) e =
          let f : bare_token t ≡ w = cc in
          let r : ts ≡ p ∷ tree_yield a = cc in (
            ap (λ z. t ∷ z) r,
            ap (λ z. lead t · group (group (z · line · printed p) · nest i (line · table i a)))
                (dot-nil (printed w)) ∙ ap (λ z. lead t
                · group (group (printed z · line · printed p) · nest i (line · table i a))) (sym f),
            ap (λ (z : Decorated). branch Label.ident (leaf z.text none)
                (leaf p.text (branch Label.add (forest i a) none))) (sym f),
          )

  scoped : (v slot : String) → Reads false (W.Scoped i v slot) (part_node Label.variable K.variable)
      (Gr.Scoped text v slot)
  scoped v slot = branch_reads Label.variable
      (in_language (R.variables_back (Branch Label.ident (Gr.Tok text v)) _ _ _ _ _)
      (as_view (part K.variable) typed_variable typed_is (name v then maybe_reads type_part)
      or compare v "==" (slot_or slot) or compare_typed v "in" (slot_or slot)))

  -- ---- actions
  entity_operand : Reads false (W.Operand i W.Entity) (node i Label.add K.add)
      (Gr.Operand text (Gr.Entity text))
  entity_operand = operand i (entity i)

  entity_item : Reads false (W.Operand i W.Entity) (node i Label.expr K.expr) (Gr.EntityItem text)
  entity_item = as_view (node i Label.expr K.expr)
      (λ t. K.ors_expr (K.ors_one (K.ands_one (K.single t)))) (λ t. (refl, refl, refl))
      (branch_reads Label.expr (branch_reads Label.or
      (branch_reads Label.and (branch_reads Label.relation entity_operand))))

  entity_list : Reads false (W.Tok "[" ⊙ L.Nested (pos 1) (L.Maybe (W.Items (W.Operand i W.Entity)))
      ⊙ W.Tok "]") (node i Label.primary K.primary)
      (Branch Label.primary (Branch Label.list
      (Gr.Tok text "[" ⋄ Maybe (Gr.Items text (Gr.EntityItem text)) ⋄ Gr.Tok text "]")))
  entity_list = as_view (node i Label.primary K.primary) listed listed_is
      (branch_reads Label.primary (branch_reads Label.list
      (tok i "[" then closed "]" nil refl
      (mapped_reads (nest (pos 1)) (maybe_reads (args i entity_item))))))
    where
      listed : Decorated × ((Tree Decorated K.args ⊎ ⊤) × Decorated) → Tree Decorated K.primary
      listed (l, (inl a, r)) = K.list_of l a r
      listed (l, (inr u, r)) = K.list_empty l r

      listed_is : Agree (labelled Label.primary
          (labelled Label.list (both (one nil)
          (both (changed (nest (pos 1)) (optional (of i K.args))) (one nil)))))
          (node i Label.primary K.primary) listed
      listed_is (l, (inl a, r)) = (refl, refl, refl)
      listed_is (l, (inr u, r)) = (refl, refl, refl)

  action : Reads false (W.Action i) (part_node Label.variable K.variable) (Gr.Action text)
  action = branch_reads Label.variable
      (in_language (R.actions_back (Branch Label.ident (Gr.Tok text "action")) _ _ _ _)
      (as_view (part K.variable) (λ t. K.variable_bare t) (λ t. (refl, refl, refl)) (name "action")
      or compare "action" "==" entity_operand
      or compare "action" "in" (in_language (R.operands_back text _ _)
      (operand i (entity i or entity_list)))))

  -- ---- three variables
  abbrev Three : Type 0
  Three = Clause Decorated K.variable
      × (Decorated × (Clause Decorated K.variable × (Decorated × Clause Decorated K.variable)))

  abbrev three : (Doc → Doc → Decorated → Doc → Decorated → Doc → Doc) → View Three
  three f = record {
    leaves = λ t. part_yield
        t.0 ++ (t.1.0 ∷ (part_yield t.1.1.0 ++ (t.1.1.1.0 ∷ part_yield t.1.1.1.1)));
    doc = λ t. f nil (part_table i t.0) t.1.0 (part_table i t.1.1.0) t.1.1.1.0
        (part_table i t.1.1.1.1);
    trees = λ t. branch Label.variable (clause_forest t.0)
        (leaf t.1.0.text (branch Label.variable (clause_forest t.1.1.0)
        (leaf t.1.1.1.0.text (branch Label.variable (clause_forest t.1.1.1.1) none))));
  }

  abbrev ThreeTrees : Lang (List ℕ)
  ThreeTrees = Gr.Principal text ⋄ Gr.Tok text "," ⋄ Gr.Action text ⋄ Gr.Tok text ","
      ⋄ Gr.Resource text

  variables : (next : Doc) → Reads false (W.Variables i next)
      (three (λ _ p c a d r. variables_doc next p c a d r)) ThreeTrees
  variables next = as_view (three (λ _ p c a d r. variables_doc next p c a d r)) (λ t. t)
      (λ t. (refl, refl, refl))
      (scoped "principal" "?principal" then tok_then i "," next then action then tok_then i "," next
      then scoped "resource" "?resource")

  abbrev all_bare : Three → Bool
  all_bare t = is_bare t.0 && is_bare t.1.1.0 && is_bare t.1.1.1.1

  abbrev scope_view : View Three
  scope_view = record {
    leaves = (three (λ x p c a d r. x)).leaves;
    doc = λ t. scope_doc i (all_bare t) (part_table i t.0) t.1.0 (part_table i t.1.1.0) t.1.1.1.0
        (part_table i t.1.1.1.1);
    trees = (three (λ x p c a d r. x)).trees;
  }

  -- a bare variable has one token, and another has more
  variable_length : (p : Clause Decorated K.variable)
      → ((is_bare p ≡ true) × (length (part_yield p) ≡ 1))
      ⊎ ((is_bare p ≡ false) × (2 ≤ length (part_yield p)))
  variable_length (K.variable_bare v) = inl (refl, refl)
  variable_length (K.variable_is v o n) = inr (refl, omega arith)
  variable_length (K.variable_op v o a) = inr (refl, omega arith)
  variable_length (K.variable_is_op v o n p a) = inr (refl, omega arith)

  three_length : (t : Three) → length (scope_view.leaves t)
      ≡ length (part_yield t.0) + length (part_yield t.1.1.0) + length (part_yield t.1.1.1.1) + 2
  three_length (p, (c, (a, (d, r)))) =
      let e = length-append (part_yield p) (c ∷ (part_yield a ++ (d ∷ part_yield r))) in
      let f = length-append (part_yield a) (d ∷ part_yield r) in
      omega (arith, e, f)

  Counted : Bool → ℕ → Type 0
  Counted b n = ((b ≡ true) × (n ≡ 1)) ⊎ ((b ≡ false) × (2 ≤ n))

  five : (a b c : Bool) (l m n k : ℕ) → Counted a l → Counted b m → Counted c n → k ≡ l + m + n + 2
      → (((a && b && c) ≡ true) × (k ≡ 5)) ⊎ (((a && b && c) ≡ false) × ¬ (k ≡ 5))
  unfolding Counted
  five a b c l m n k (inl (x, p)) (inl (y, q)) (inl (z, r)) e =
      inl (ap (λ t. t && b && c) x ∙ (ap (λ t. t && c) y ∙ z), omega (arith, p, q, r, e))
  five a b c l m n k (inr (x, p)) (inl (y, q)) (inl (z, r)) e =
      inr (ap (λ t. t && b && c) x, λ f. omega (arith, p, q, r, e, f))
  five a b c l m n k (inr (x, p)) (inl (y, q)) (inr (z, r)) e =
      inr (ap (λ t. t && b && c) x, λ f. omega (arith, p, q, r, e, f))
  five a b c l m n k (inr (x, p)) (inr (y, q)) (inl (z, r)) e =
      inr (ap (λ t. t && b && c) x, λ f. omega (arith, p, q, r, e, f))
  five a b c l m n k (inr (x, p)) (inr (y, q)) (inr (z, r)) e =
      inr (ap (λ t. t && b && c) x, λ f. omega (arith, p, q, r, e, f))
  five a b c l m n k (inl (x, p)) (inr (y, q)) (inl (z, r)) e =
      inr (ap (λ t. t && c) (ap (λ t. a && t) y ∙ and-false a), λ f. omega (arith, p, q, r, e, f))
  five a b c l m n k (inl (x, p)) (inr (y, q)) (inr (z, r)) e =
      inr (ap (λ t. t && c) (ap (λ t. a && t) y ∙ and-false a), λ f. omega (arith, p, q, r, e, f))
  five a b c l m n k (inl (x, p)) (inl (y, q)) (inr (z, r)) e =
      inr (ap (λ t. a && b && t) z ∙ and-false (a && b), λ f. omega (arith, p, q, r, e, f))

  bare_is_five : (t : Three) → ((all_bare t ≡ true) × (length (scope_view.leaves t) ≡ 5))
      ⊎ ((all_bare t ≡ false) × ¬ (length (scope_view.leaves t) ≡ 5))
  unfolding Counted
  bare_is_five t = five (is_bare t.0) (is_bare t.1.1.0) (is_bare t.1.1.1.1) _ _ _ _
      (variable_length t.0) (variable_length t.1.1.0) (variable_length t.1.1.1.1) (three_length t)

  scope : Reads false (W.Scope i) scope_view ThreeTrees
  scope = record { read = go }
    where
      go : (c : Bool) (ts : List Decorated) (d : Doc) → Allows false c → Plain c ts → W.Scope i ts d
          → (t : Three) × (ts ≡ scope_view.leaves t) × (d ≡ scope_view.doc t)
          × ThreeTrees (scope_view.trees t)
      go c ts d a p (inl (n, y)) =
          let k = (mapped_reads group (mapped_reads (nest i) (variables space))).read c ts d a p
          y in (
            k.0,
            k.1,
            k.2 ∙ elim (bare_is_five k.0) [
              | inl e ↦
                  sym (ap (λ b. scope_doc i b (part_table i k.0.0) k.0.1.0 (part_table i k.0.1.1.0)
                  k.0.1.1.1.0 (part_table i k.0.1.1.1.1)) e.0)
              | inr e ↦ absurd (e.1 (ap length (sym k.1) ∙ n))
            ],
            k.3,
          )
      go c ts d a p (inr (n, y)) =
          let k = (before_put hard (mapped_reads (nest i) (after_put hard (variables hard)))).read c
          ts d a p y in (
            k.0,
            k.1,
            k.2 ∙ elim (bare_is_five k.0) [
              | inl e ↦ absurd (n (ap length k.1 ∙ e.1))
              | inr e ↦
                  sym (ap (λ b. scope_doc i b (part_table i k.0.0) k.0.1.0 (part_table i k.0.1.1.0)
                  k.0.1.1.1.0 (part_table i k.0.1.1.1.1)) e.0)
            ],
            k.3,
          )

  -- ---- conditions
  abbrev Block : Type 0
  Block = Decorated × (Tree Decorated K.expr × Decorated)

  -- an expression as a group after the leading lines of its first token
  abbrev body : View (Tree Decorated K.expr)
  body = record {
    leaves = tree_yield;
    doc = λ e. lead_of (lines_of_first (yield (parts literal_kind e)))
        · group (table i (map_first bare_token e));
    trees = λ e. branch Label.expr (forest i e) none;
  }

  bodies : (n : ℕ) → Reads false (L.LedGroup (W.Expr i n)) body (Gr.Expr text n)
  bodies n = led_group_reads body (λ t x. map_first (with_lines t.leading) x) same (expr i n)
    where
      same : (t : Decorated) (ts : List Decorated) (x : Tree Decorated K.expr)
          → bare_token t ∷ ts ≡ tree_yield x
          → (t ∷ ts ≡ tree_yield (map_first (with_lines t.leading) x))
          × (lead t · group (table i x) ≡ body.doc (map_first (with_lines t.leading) x))
          × (branch Label.expr (forest i x) none
          ≡ branch Label.expr (forest i (map_first (with_lines t.leading) x)) none)
      same t ts x e =
          let q = with_first x t ts e in (
            q.0,
            ap (λ z. lead t · group (table i z)) q.1
                ∙ ap (λ z. lead_of (lines_of_first z)
                · group (table i (map_first bare_token (map_first (with_lines t.leading) x))))
                (q.0 ∙ sym (typed_leaves literal_kind (map_first (with_lines t.leading) x))),
            ap (λ z. branch Label.expr (parts other_kind z) none) q.2,
          )

  abbrev block_view : View Block
  block_view = record {
    leaves = λ t. t.0 ∷ (tree_yield t.1.0 ++ (t.1.1 ∷ []));
    doc = λ t. lead t.0 · tok_of t.0
        · group (nest i (trail t.0 line · body.doc t.1.0) · line · C t.1.1 nil);
    trees = λ t. leaf t.0.text (branch Label.expr (forest i t.1.0) (leaf t.1.1.text none));
  }

  block : (n : ℕ) → Reads false (W.Block i n) block_view
      (Gr.Tok text "{" ⋄ Gr.Expr text n ⋄ Gr.Tok text "}")
  block n = record { read = go }
    where
      go : (c : Bool) (ts : List Decorated) (d : Doc) → Allows false c → Plain c ts
          → W.Block i n ts d
          → (t : Block) × (ts ≡ block_view.leaves t) × (d ≡ block_view.doc t)
          × (Gr.Tok text "{" ⋄ Gr.Expr text n ⋄ Gr.Tok text "}") (block_view.trees t)
      go c ts d a p (l, r, us, e, s, hl, y, hr, h) =
          let q = (plain_parts c us (r ∷ []) (subst (Plain c) s p).1).0 in
          let k = (bodies n).read (first_closes c (r ∷ [])) us e tt q y in (
            (l, (k.0, r)),
            s ∙ ap (λ z. l ∷ (z ++ (r ∷ []))) k.1,
            h ∙ ap (λ z. lead l · tok_of l · group (nest i (trail l line · z) · line · C r nil))
                k.2,
            (
              leaf l.text none,
              branch Label.expr (forest i k.0) (leaf r.text none),
              refl,
              (l.text, refl, hl),
              (
                branch Label.expr (forest i k.0) none,
                leaf r.text none,
                refl,
                k.3,
                (r.text, refl, hr),
              ),
            ),
          )

  cond : (n : ℕ) → Reads false (W.Cond i n) (part_node Label.condition K.cond) (Gr.Cond text n)
  cond n = led_group_reads (part_node Label.condition K.cond) set same
      (branch_reads Label.condition (branch_reads Label.ident
      (tok_then i "when" line or tok_then i "unless" line) then block n))
    where
      set : Decorated → Decorated × Block → Clause Decorated K.cond
      set t (k, (l, (e, r))) = K.cond_of t l e r

      same : (t : Decorated) (ts : List Decorated) (x : Decorated × Block)
          → bare_token t ∷ ts ≡ x.0 ∷ block_view.leaves x.1
          → (t ∷ ts ≡ part_yield (set t x))
          × (lead t · group (C x.0 line · block_view.doc x.1) ≡ part_table i (set t x))
          × (branch Label.condition (branch Label.ident (leaf x.0.text none) (block_view.trees x.1))
          none ≡ branch Label.condition (clause_forest (set t x)) none)
      same t ts (k, (l, (e, r))) y =
          let f : bare_token t ≡ k = cc in
          let g : ts ≡ l ∷ (tree_yield e ++ (r ∷ [])) = cc in (
            ap (λ z. t ∷ z) g,
            ap (λ z. lead t · group (C z line · block_view.doc (l, (e, r)))) (sym f),
            ap (λ (z : Decorated). branch Label.condition
                (branch Label.ident (leaf z.text none) (block_view.trees (l, (e, r)))) none)
                (sym f),
          )

  -- conditions, and the break before others
  abbrev after_cond : View (Clause Decorated K.conds)
  after_cond = record {
    leaves = part_yield;
    doc = λ m. between_conds m · part_table i m;
    trees = λ m. clause_forest m;
  }

  more_conds : (n : ℕ) → Reads false (L.Many (L.Put hard ⊙ W.Cond i n)) after_cond
      (Many (Gr.Cond text n))
  more_conds n = many_reads after_cond K.no_cond K.conds_more (refl, refl, refl)
      (λ t. (refl, refl, refl)) (after_put hard (cond n))

  -- ---- policies
  abbrev head_view : View (Decorated × Decorated)
  head_view = record {
    leaves = λ t. t.0 ∷ t.1 ∷ [];
    doc = λ t. lead t.0 · group (tok_of t.0 · trail t.0 nil · line · printed t.1);
    trees = λ t. branch Label.ident (leaf t.0.text none) (leaf t.1.text none);
  }

  head : Reads false (L.LedGroup ((W.Tok "permit" ⊕ W.Tok "forbid") ⊙ L.Put line ⊙ W.Tok "("))
      head_view (Branch Label.ident (Gr.Tok text "permit" ∪ Gr.Tok text "forbid") ⋄ Gr.Tok text "(")
  head = led_group_reads head_view (λ t x. (t, x.1)) same
      (branch_reads Label.ident (tok i "permit" or tok i "forbid") then after_put line (tok i "("))
    where
      same : (t : Decorated) (ts : List Decorated) (x : Decorated × Decorated)
          → bare_token t ∷ ts ≡ x.0 ∷ x.1 ∷ []
          → (t ∷ ts ≡ t ∷ x.1 ∷ []) × (lead t · group (printed x.0 · line · printed x.1)
          ≡ head_view.doc (t, x.1))
          × (branch Label.ident (leaf x.0.text none) (leaf x.1.text none)
          ≡ head_view.trees (t, x.1))
      same t ts (e, l) y =
          let f : bare_token t ≡ e = cc in
          let g : ts ≡ l ∷ [] = cc in (
            ap (λ z. t ∷ z) g,
            ap (λ z. lead t · group (printed z · line · printed l)) (sym f),
            ap (λ (z : Decorated). branch Label.ident (leaf z.text none) (leaf l.text none))
                (sym f),
          )

  abbrev end_view : View (Decorated × Clause Decorated K.conds)
  end_view = record {
    leaves = λ t. t.0 ∷ part_yield t.1;
    doc = λ t. C t.0 (between_conds t.1)
        · part_table i t.1;
    trees = λ t. leaf t.0.text (clause_forest t.1);
  }

  abbrev Ends : ℕ → L.Lang
  Ends n = W.Tok ")" ⊕ W.TokThen ")" hard ⊙ W.Cond i n ⊙ L.Many (L.Put hard ⊙ W.Cond i n)

  ends : (n : ℕ) → Reads false (Ends n) end_view
      (Gr.Tok text ")" ∪ Gr.Tok text ")" ⋄ Gr.Cond text n ⋄ Many (Gr.Cond text n))
  ends n = as_view end_view (λ q. (q, K.no_cond)) (λ q. (refl, sym (dot-nil (printed q)), refl))
      (tok i ")")
      or as_view end_view (λ t. (t.0, K.conds_more t.1.0 t.1.1)) (λ t. (refl, refl, refl))
      (tok_then i ")" hard then cond n then more_conds n)

  end_closes : (n : ℕ) (c : Bool) (ts : List Decorated) (d : Doc) → (Ends n ⊙ W.Tok ";") ts d
      → first_closes c ts ≡ true
  end_closes n c ts d (us, vs, e, f, s, h, inl (t, k, m, l), z) =
      ap (first_closes c) (s ∙ ap (λ z. z ++ vs) k) ∙ ap is_closing_bracket l
  end_closes n c ts d (us, vs, e, f, s, h, inr (us', vs', e', f', s', h', (t, k, m, l), y), z) =
      ap (first_closes c) (s ∙ ap (λ z. z ++ vs) (s' ∙ ap (λ z. z ++ vs') k))
      ∙ ap is_closing_bracket l

  policy : (n : ℕ) → Reads false (W.Policy i n) (part_node Label.policy K.policy) (Gr.Policy text n)
  policy n = branch_reads Label.policy
      (in_language (R.policies_back _ _ _ _ _ _ _ _ _ _ (Gr.Cond text n) _)
      (as_view (part K.policy) whole whole_is
      (annotations then head then scope
      then in_turn {p = true} (end_closes n) no_comma (ends n then tok i ";"))))
    where
      whole : Clause Decorated K.annotations
          × ((Decorated × Decorated) × (Three
          × (⊤ × ((Decorated × Clause Decorated K.conds) × Decorated)))) → Clause Decorated K.policy
      whole (ns, ((e, l), ((p, (c, (a, (d, r)))), (u, ((q, cs), s))))) =
          K.policy_of ns e l p c a d r q cs s

      whole_is : Agree (both (part K.annotations)
          (both head_view (both scope_view (both nothing (both end_view (one nil))))))
          (part K.policy) whole
      whole_is (ns, ((e, l), ((p, (c, (a, (d, r)))), (u, ((q, cs), s))))) = (
        ap (λ z. part_yield ns ++ (e ∷ l ∷ z))
            (append_assoc (part_yield p) (c ∷ (part_yield a ++ (d ∷ part_yield r)))
            (q ∷ (part_yield cs ++ (s ∷ [])))
            ∙ ap (λ z. part_yield p ++ (c ∷ z))
            (append_assoc (part_yield a) (d ∷ part_yield r) (q ∷ (part_yield cs ++ (s ∷ []))))),
        ap (λ z. part_table i ns · head_view.doc (e, l) · scope_view.doc (p, (c, (a, (d, r)))) · z)
            (dot_assoc (C q (between_conds cs)) (part_table i cs) (printed s)),
        refl,
      )

  abbrev pub policy_forests : List (Clause Decorated K.policy) → Forest Label (List ℕ)
  policy_forests ps = policy_trees other_kind (map (part_map (λ x. x.text)) ps)

  -- the policies of a list without trailing commas, their documents, and their trees over texts
  pub set : (n : ℕ) (c : Bool) (ts : List Decorated) (ds : List Doc) → Plain c ts
      → W.PolicySet i n ts ds
      → (ps : List (Clause Decorated K.policy)) × (ts ≡ flat_map part_yield ps)
      × (ds ≡ map (part_table i) ps) × Many (Gr.Policy text n) (policy_forests ps)
  set n c _ _ p W.no_policy = ([], refl, refl, no_more none refl)
  set n c _ _ p (W.a_policy ts us d ds y m) =
      let q = plain_parts c ts us p in
      let k = (policy n).read (first_closes c us) ts d tt q.0 y in
      let r = set n c us ds q.1 m in (
        k.0 ∷ r.0,
        ap (λ z. z ++ us) k.1 ∙ ap (λ z. part_yield k.0 ++ z) r.1,
        ap (λ z. z ∷ ds) k.2 ∙ ap (λ z. part_table i k.0 ∷ z) r.2,
        one_more _ (branch Label.policy (clause_forest k.0) none) (policy_forests r.0) refl k.3 r.3,
      )
