-- From tokens with a document to typed trees of expressions, line by line.
use Rattle.std.proofs.Common.{◌≡◌, ℕ, zero, suc, ℤ, pos, Bool, true, false, List, [], ◌∷◌, ◌++◌, refl, ap, sym, ◌∙◌, subst, inl, inr, ◌⊎◌, append-nil, append_assoc}
use Rattle.std.specs.Prelude.{IsTrue, ⊤, codes}
use Prim.Native.String.{String}
use Rattle.cedar_tokens.specs.Units.{is_number, is_string}
use Rattle.cedar_tokens.specs.Listing.{Decorated}
use Rattle.cedar_layout.specs.Layout.{Doc, nil, nest, group, line, line_or_nil, ◌·◌}
use Rattle.cedar_layout.specs.Comments.{space}
use Rattle.cedar_layout.proofs.Values.{dot-nil, dot_assoc}
use Rattle.cedar_laws.specs.Table.{C, printed, table, break_after_field, break_after_other}
use Rattle.cedar_grammar.specs.Trees.{Label, Forest, none, leaf, branch, join}
use Rattle.cedar_grammar.specs.Languages.{Lang, ◌⋄◌, ◌∪◌, Many, no_more, one_more, Maybe, Branch, Empty}
use Rattle.cedar_grammar.specs.Grammar as Gr
use Rattle.cedar_grammar.specs.TypedTrees as K
use Rattle.cedar_grammar.proofs.Readers.Equations.{join_none}
use Rattle.cedar_grammar.specs.TypedTrees.{Tree, NodeKind, tree_yield, tree_map, parts, literal_label}
use Rattle.std.specs.Prelude.{◌==◌, ◌&&◌, if◌then◌else◌}
use Rattle.std.specs.Char.{is_ascii_digit}
use Rattle.cedar_tokens.specs.Bytes.{quote}
use Rattle.cedar_tokens.specs.Units.{is_string_rest}
use Rattle.cedar_tokens.specs.TokenKinds.{other_kind}
use Rattle.cedar_tokens.specs.declared.kind.Kind.{Kind}
use Rattle.cedar_grammar.proofs.Typed.SameLabels.{label_of_first_byte}
use Rattle.cedar_grammar.proofs.Texts.Kinds.{number_kind}
use Rattle.cedar_written.specs.Languages.{◌⋄◌ as ◌⊙◌, ◌∪◌ as ◌⊕◌}
use Rattle.cedar_written.specs.Languages as L
use Rattle.cedar_written.specs.Written as W
use Rattle.cedar_written.proofs.SameRows.{text}
use Rattle.cedar_written.proofs.Reading.{View, Reads, Agree, both, one, changed, labelled, optional, leaf_reads, ◌then◌, ◌or◌, as_view, in_language, regrouped, branch_reads, mapped_reads, put_reads, after_put, before_put, room_reads, never_reads, closed, no_comma, maybe_reads, chain, Plain, Allows, plain_parts, first_closes}
use Rattle.cedar_written.proofs.Regrouped as R

module _ (i : ℤ) where
  -- the trees of a typed tree, over texts
  abbrev pub forest : {k : NodeKind} → Tree Decorated k → Forest Label (List ℕ)
  forest t = parts other_kind (tree_map (λ x. x.text) t)

  -- typed trees, and those that are nodes of their own
  abbrev pub of : (k : NodeKind) → View (Tree Decorated k)
  of k = record { leaves = tree_yield; doc = table i; trees = λ t. forest t }

  abbrev pub node : Label → (k : NodeKind) → View (Tree Decorated k)
  node l k = labelled l (of k)

  pub tok_then : {o : Bool} (s : String) (next : Doc)
      → Reads o (W.TokThen s next) (one next) (Gr.Tok text s)
  tok_then s next = leaf_reads (λ t. t ≡ codes s) next

  pub tok : {o : Bool} (s : String) → Reads o (W.Tok s) (one nil) (Gr.Tok text s)
  tok s = tok_then s nil

  pub string : {o : Bool} → Reads o W.STR (one nil) (Gr.Literal text)
  string = leaf_reads (λ t. IsTrue (is_string t)) nil

  pub ident : Reads false W.Ident (labelled Label.ident (one nil)) (Gr.Ident text)
  ident = branch_reads Label.ident (leaf_reads (λ t. IsTrue (Gr.is_identifier t)) nil)

  pub names : Reads false W.Path (of K.name)
      (Gr.Ident text ⋄ Many (Gr.Tok text "::" ⋄ Gr.Ident text))
  names = chain (λ c d. printed c · d) (of K.name) K.name_one K.name_more
      (λ c a f. dot_assoc (printed c) a f) (λ t. (refl, refl, refl)) (λ t a r. (refl, refl, refl))
      (tok "::" then ident) ident

  pub path : Reads false W.Path (node Label.name K.name) (Gr.Path text)
  path = branch_reads Label.name names

  pub entity : Reads false W.Entity (node Label.primary K.primary) (Gr.Entity text)
  entity = as_view (node Label.primary K.primary) (λ t. K.reference (K.ref_of t.0 t.1.0 t.1.1))
      (λ t. (refl, refl, refl))
      (branch_reads Label.primary (branch_reads Label.ref
      (path then tok "::" then branch_reads Label.str string)))

  -- items, before a closing bracket
  module _ (l : Label) (k c : NodeKind) (single : Tree Decorated k → Tree Decorated c)
      (more : Tree Decorated k → Decorated → Tree Decorated c → Tree Decorated c)
      (single_is : Agree (node l k) (of c) single)
      (more_is : (t : Tree Decorated k) (a : Decorated) (r : Tree Decorated c)
      → (tree_yield (more t a r) ≡ tree_yield t ++ (a ∷ tree_yield r))
      × (table i (more t a r) ≡ table i t · (printed a · line · table i r))
      × (forest (more t a r) ≡ branch l (forest t) (leaf a.text (forest r)))) where
    pub items_of : {X : L.Lang} {Y : Lang (List ℕ)} → Reads false X (node l k) Y
        → Reads true (W.Items X) (of c) (Gr.Items text Y)
    items_of {X} {Y} x = regrouped
        (in_language (R.unassoc Y _ _)
        (as_view (of c) (λ t. t.0) (λ t. (
          append-nil (tree_yield t.0),
          dot-nil (table i t.0),
          join_none (forest t.0),
        ))
        (chain (λ c d. printed c · line · d) (of c) single more
        (λ c a f. dot_assoc (printed c) (line · a) f) single_is more_is
        (tok "," then after_put line x) x then no_comma)))

  pub args : {X : L.Lang} {Y : Lang (List ℕ)} → Reads false X (node Label.expr K.expr) Y
      → Reads true (W.Items X) (of K.args) (Gr.Items text Y)
  args = items_of Label.expr K.expr K.args K.args_one K.args_more (λ t. (refl, refl, refl))
      (λ t a r. (refl, refl, refl))

  pub inits : {X : L.Lang} {Y : Lang (List ℕ)} → Reads false X (node Label.rec_init K.init) Y
      → Reads true (W.Items X) (of K.inits) (Gr.Items text Y)
  inits = items_of Label.rec_init K.init K.inits K.inits_one K.inits_more (λ t. (refl, refl, refl))
      (λ t a r. (refl, refl, refl))

  -- ---- accesses
  abbrev Called : Type 0
  Called = Decorated × (Tree Decorated K.args ⊎ ⊤) × Decorated

  abbrev called : View Called
  called = labelled Label.access (record {
    leaves = λ t. t.0 ∷ ((optional (of K.args)).leaves t.1 ++ (t.2 ∷ []));
    doc = λ t. printed t.0
        · (optional (changed (λ d. nest i (line_or_nil · d) · line_or_nil) (of K.args))).doc t.1
        · printed t.2;
    trees = λ t. leaf t.0.text (join ((optional (of K.args)).trees t.1) (leaf t.2.text none));
  })

  -- a field, perhaps called, or an index
  data Step : Type 0 where
    field_step : Decorated → Decorated → Step
    call_step : Decorated → Decorated → Called → Step
    index_step : Decorated → Decorated → Decorated → Step

  abbrev field_view : View (Decorated × Decorated)
  field_view = labelled Label.access (both (one nil) (labelled Label.ident (one nil)))

  abbrev steps : View Step
  steps = record {
    leaves = λ s. elim s [
      | field_step d x ↦ d ∷ x ∷ []
      | call_step d x t ↦ d ∷ x ∷ called.leaves t
      | index_step l x r ↦ l ∷ x ∷ r ∷ []
    ];
    doc = λ s. elim s [
      | field_step d x ↦ printed d · printed x
      | call_step d x t ↦ (printed d · printed x) · called.doc t
      | index_step l x r ↦ printed l · printed x
          · printed r
    ];
    trees = λ s. elim s [
      | field_step d x ↦ field_view.trees (d, x)
      | call_step d x t ↦ join (field_view.trees (d, x)) (called.trees t)
      | index_step l x r ↦
          branch Label.access (leaf l.text (branch Label.str (leaf x.text none) (leaf r.text none)))
          none
    ];
  }

  -- a call before other accesses, and a step before them
  called_before : Called → Tree Decorated K.accesses → Tree Decorated K.accesses
  called_before (l, inl a, r) m = K.call l a r m
  called_before (l, inr u, r) m = K.call_empty l r m

  step_before : Step → Tree Decorated K.accesses → Tree Decorated K.accesses
  step_before (field_step d x) m = K.field d x m
  step_before (call_step d x t) m = K.field d x (called_before t m)
  step_before (index_step l x r) m = K.index l x r m

  abbrev rest : Tree Decorated K.accesses → Doc
  rest m = break_after_other m · table i m

  called_is : (t : Called) (m : Tree Decorated K.accesses)
      → (called.leaves t ++ tree_yield m ≡ tree_yield (called_before t m))
      × (called.doc t · rest m ≡ table i (called_before t m))
      × (join (called.trees t) (forest m) ≡ forest (called_before t m))
      × (break_after_field (called_before t m) ≡ nil)
  unfolding called_before
  called_is (l, inl a, r) m = (
    ap (λ z. l ∷ z) (append_assoc (tree_yield a) (r ∷ []) (tree_yield m)),
    simp (dot_assoc),
    refl,
    refl,
  )
  called_is (l, inr u, r) m = (refl, simp (dot_assoc), refl, refl)

  step_is : (s : Step) (m : Tree Decorated K.accesses) → break_after_field m ≡ break_after_other m
      → (steps.leaves s ++ tree_yield m ≡ tree_yield (step_before s m))
      × (steps.doc s · rest m ≡ table i (step_before s m))
      × (join (steps.trees s) (forest m) ≡ forest (step_before s m))
      × (break_after_field (step_before s m) ≡ line_or_nil)
      × (break_after_other (step_before s m) ≡ line_or_nil)
  unfolding step_before
  step_is (field_step d x) m e = (
    refl,
    dot_assoc (printed d) (printed x) (rest m)
        ∙ ap (λ z. printed d · printed x · z · table i m) (sym e),
    refl,
    refl,
    refl,
  )
  step_is (call_step d x t) m e = let q = called_is t m in (
    ap (λ z. d ∷ x ∷ z) q.0,
    dot_assoc (printed d · printed x) (called.doc t) (rest m)
        ∙ (dot_assoc (printed d) (printed x) (called.doc t · rest m)
        ∙ (ap (λ z. printed d · printed x · z) q.1
        ∙ ap (λ z. printed d · printed x · z · table i (called_before t m)) (sym q.3))),
    ap (λ z. join (field_view.trees (d, x)) z) q.2,
    refl,
    refl,
  )
  step_is (index_step l x r) m e = (
    refl,
    dot_assoc (printed l) (printed x · printed r) (rest m)
        ∙ ap (λ z. printed l · z) (dot_assoc (printed x) (printed r) (rest m)),
    refl,
    refl,
    refl,
  )

  -- accesses that do not begin with a call
  abbrev Row : Type 0
  Row = (m : Tree Decorated K.accesses) × (break_after_field m ≡ break_after_other m)

  abbrev after_step : View Row
  after_step = record { leaves = λ m. tree_yield m.0; doc = λ m. rest m.0; trees = λ m. forest m.0 }

  abbrev row : View Row
  row = record { leaves = λ m. tree_yield m.0; doc = λ m. table i m.0; trees = λ m. forest m.0 }

  module _ {X : L.Lang} {Y : Lang (List ℕ)} (x : Reads false X steps Y) where
    rows_from : (c : Bool) (ts : List Decorated) (d : Doc) → Plain c ts
        → L.Many (L.Put line_or_nil ⊙ X) ts d
        → (m : Row) × (ts ≡ tree_yield m.0) × (d ≡ rest m.0) × Many Y (forest m.0)
    rows_from c _ _ p L.no_more = ((K.no_access, refl), refl, refl, no_more none refl)
    rows_from c _ _ p (L.one_more us vs e f y n) =
        let pl = plain_parts c us vs p in
        let k = (after_put line_or_nil x).read (first_closes c vs) us e tt pl.0 y in
        let r = rows_from c vs f pl.1 n in
        let q = step_is k.0 r.0.0 r.0.1 in (
          (step_before k.0 r.0.0, q.3 ∙ sym q.4),
          ap (λ z. z ++ vs) k.1 ∙ (ap (λ z. steps.leaves k.0 ++ z) r.1 ∙ q.0),
          ap (λ z. z · f) k.2 ∙ (ap (λ z. line_or_nil · (steps.doc k.0 · z)) r.2
              ∙ (ap (λ z. line_or_nil · z) q.1
              ∙ ap (λ z. z · table i (step_before k.0 r.0.0)) (sym q.4))),
          one_more _ (steps.trees k.0) (forest r.0.0) (sym q.2) k.3 r.3,
        )

    pub after_steps : Reads false (L.Many (L.Put line_or_nil ⊙ X)) after_step (Many Y)
    after_steps = record { read = λ c ts d a p y. rows_from c ts d p y }

    pub step_row : Reads false (L.Maybe (X ⊙ L.Many (L.Put line_or_nil ⊙ X))) row (Many Y)
    step_row = in_language (R.rolled Y) (record { read = go })
      where
        go : (c : Bool) (ts : List Decorated) (d : Doc) → Allows false c → Plain c ts
            → L.Maybe (X ⊙ L.Many (L.Put line_or_nil ⊙ X)) ts d
            → (m : Row) × (ts ≡ row.leaves m) × (d ≡ row.doc m) × Maybe (Y ⋄ Many Y) (row.trees m)
        go c ts d a p (inr (s, h)) = ((K.no_access, refl), s, h, inr refl)
        go c ts d a p (inl y) =
            let k = (x then after_steps).read c ts d a p y in
            let q = step_is k.0.0 k.0.1.0 k.0.1.1 in (
              (step_before k.0.0 k.0.1.0, q.3 ∙ sym q.4),
              k.1 ∙ q.0,
              k.2 ∙ q.1,
              inl (subst (Y ⋄ Many Y) q.2 k.3),
            )

  accessed : {F X : L.Lang} {Yf Y : Lang (List ℕ)} → Reads false F (node Label.primary K.primary) Yf
      → Reads false X steps Y → Reads false (W.Accessed i F X) (of K.member) (Yf ⋄ Many Y)
  accessed f x = as_view (of K.member) (λ t. K.member_of t.0 t.1.0) (λ t. (refl, refl, refl))
      (mapped_reads group (f then mapped_reads (nest i) (step_row x)))

  -- ---- operands
  operand_of : {X : L.Lang} {Y : Lang (List ℕ)} → Reads false X (of K.member) Y
      → Reads false (L.Group (L.Group X)) (node Label.add K.add) (Gr.Operand text Y)
  operand_of x = as_view (node Label.add K.add)
      (λ t. K.add_of (K.sums_one (K.mult_of (K.products_one (K.unsigned t)))))
      (λ t. (refl, refl, refl))
      (branch_reads Label.add (mapped_reads group
      (branch_reads Label.mult (mapped_reads group
      (branch_reads Label.unary (branch_reads Label.member x))))))

  no_step : Reads false (L.Maybe (L.Never ⊙ L.Many (L.Put line_or_nil ⊙ L.Never))) row Empty
  no_step = record { read = go }
    where
      go : (c : Bool) (ts : List Decorated) (d : Doc) → Allows false c → Plain c ts
          → L.Maybe (L.Never ⊙ L.Many (L.Put line_or_nil ⊙ L.Never)) ts d
          → (m : Row) × (ts ≡ row.leaves m) × (d ≡ row.doc m) × Empty (row.trees m)
      go c ts d a p (inr (s, h)) = ((K.no_access, refl), s, h, refl)
      go c ts d a p (inl (us, vs, e, f, s, h, n, m)) = absurd n

  pub operand : {X : L.Lang} {Y : Lang (List ℕ)} → Reads false X (node Label.primary K.primary) Y
      → Reads false (W.Operand i X) (node Label.add K.add) (Gr.Operand text Y)
  operand {Y = Y} x = operand_of
      (in_language (R.only Y) (as_view (of K.member) (λ t. K.member_of t.0 t.1.0)
      (λ t. (refl, refl, refl)) (mapped_reads group (x then mapped_reads (nest i) no_step))))

  -- ---- primaries
  literal : (l : Label) {X : L.Lang} {Y : Lang (List ℕ)} → Reads false X (one nil) Y
      → ((a : List ℕ) → Y (leaf a none) → l ≡ literal_label (other_kind a))
      → Reads false X (node Label.primary K.primary) (Branch Label.primary (Branch l Y))
  literal l {Y = Y} x same = record {
    read = λ c ts d a p y.
        (let k = x.read c ts d a p y in (
          K.literal k.0,
          k.1,
          k.2,
          (
            branch (literal_label (other_kind k.0.text)) (leaf k.0.text none) none,
            refl,
            (
              leaf k.0.text none,
              ap (λ z. branch z (leaf k.0.text none) none)
                  (sym (same k.0.text k.3)),
              k.3,
            ),
          ),
        ));
  }

  named : {X : L.Lang} {Y : Lang (List ℕ)} → Reads false X (one nil) Y
      → Reads false X (node Label.primary K.primary)
      (Branch Label.primary (Branch Label.name (Branch Label.ident Y)))
  named x = as_view (node Label.primary K.primary) (λ t. K.named (K.name_one t))
      (λ t. (refl, refl, refl)) (branch_reads Label.primary
      (branch_reads Label.name (branch_reads Label.ident x)))

  first_true : (x y : Bool) → (x && y) ≡ true → x ≡ true
  first_true true y h = refl
  first_true false y h = h

  quoted : (t : List ℕ) → is_string t ≡ true → literal_label (other_kind t) ≡ Label.string
  quoted [] h = absurd cc
  quoted (b ∷ bs) h = let q = first_true (b == quote) (is_string_rest bs) h in
      ap (λ (z : Bool). literal_label
      (if z then Kind.Str else (if is_ascii_digit b then Kind.Number else Kind.Identifier))) q

  string_label : (a : List ℕ) → Gr.Literal text (leaf a none)
      → Label.string ≡ literal_label (other_kind a)
  string_label a (b, e, h) = let s : a ≡ b = cc in sym (quoted a (ap is_string s ∙ h))

  number_label : (a : List ℕ) → Gr.NUMBER text (leaf a none)
      → Label.number ≡ literal_label (other_kind a)
  number_label a (b, e, h) = let s : a ≡ b = cc in
      sym (label_of_first_byte a ∙ ap literal_label (number_kind a (ap is_number s ∙ h)))

  boolean_label : (a : List ℕ) → (Gr.Tok text "true" ∪ Gr.Tok text "false") (leaf a none)
      → Label.boolean ≡ literal_label (other_kind a)
  boolean_label a (inl (b, e, h)) = let s : a ≡ b = cc in
      sym (ap (λ z. literal_label (other_kind z)) (s ∙ h))
  boolean_label a (inr (b, e, h)) = let s : a ≡ b = cc in
      sym (ap (λ z. literal_label (other_kind z)) (s ∙ h))

  field : Reads false W.Field field_view (Gr.Field text)
  field = branch_reads Label.access (tok "." then ident)

  has_field : Reads false (L.Group (L.Group (W.Accessed i W.Ident W.Field))) (node Label.add K.add)
      (Gr.HasField text)
  has_field =
      operand_of
      (accessed (as_view (node Label.primary K.primary) (λ t. K.named (K.name_one t))
      (λ t. (refl, refl, refl)) (branch_reads Label.primary (branch_reads Label.name ident)))
      (as_view steps (λ t. field_step t.0 t.1) (λ t. (refl, refl, refl)) field))

  str_operand : Reads false (W.Operand i W.STR) (node Label.add K.add) (Gr.StrOperand text)
  str_operand = operand (literal Label.string string string_label)

  -- ---- signs
  all_printed : List Decorated → Doc
  all_printed [] = nil
  all_printed (x ∷ xs) = printed x · all_printed xs

  all_leaves : List Decorated → Forest Label (List ℕ)
  all_leaves [] = none
  all_leaves (x ∷ xs) = leaf x.text (all_leaves xs)

  abbrev row_of_signs : View (List Decorated)
  row_of_signs = record { leaves = λ xs. xs; doc = all_printed; trees = all_leaves }

  maybe_signs : {X : L.Lang} {Y : Lang (List ℕ)} → Reads false X row_of_signs Y
      → Reads false (L.Maybe X) row_of_signs (Maybe Y)
  unfolding all_printed all_leaves
  maybe_signs x = x or as_view row_of_signs (λ t. []) (λ t. (refl, refl, refl)) (put_reads nil)

  signs : (s : String) → Reads false (W.Signs s) row_of_signs (Gr.Signs text s)
  unfolding all_printed all_leaves
  signs s =
      more (more
      (more (as_view row_of_signs (λ t. t ∷ []) (λ t. (refl, sym (dot-nil (printed t)), refl))
      (tok s))))
    where
      more : {X : L.Lang} {Y : Lang (List ℕ)} → Reads false X row_of_signs Y
          → Reads false (W.Tok s ⊙ L.Maybe X) row_of_signs (Gr.Tok text s ⋄ Maybe Y)
      more x = as_view row_of_signs (λ t. t.0 ∷ t.1) (λ t. (refl, refl, refl))
          (tok s then maybe_signs x)

  with_signs : List Decorated × Tree Decorated K.member → Tree Decorated K.unary
  with_signs ([], m) = K.unsigned m
  with_signs (x ∷ xs, m) = K.signed x (with_signs (xs, m))

  with_signs_is : Agree (both row_of_signs (node Label.member K.member)) (of K.unary) with_signs
  unfolding all_printed all_leaves with_signs
  with_signs_is ([], m) = (refl, refl, refl)
  with_signs_is (x ∷ xs, m) = let q = with_signs_is (xs, m) in (
    ap (λ z. x ∷ z) q.0,
    dot_assoc (printed x) (all_printed xs) (table i m)
        ∙ ap (λ z. printed x · z) q.1,
    ap (λ z. leaf x.text z) q.2,
  )

  relop : Reads false W.Relop (one nil) (Gr.Relop text)
  relop = tok "<" or tok "<=" or tok ">" or tok ">=" or tok "!=" or tok "==" or tok "in"

  module _ (room : Bool) {Inner : Lang (List ℕ)} {Rows : L.Lang}
      (inner : Reads false Rows (node Label.expr K.expr) Inner) where
    call : Reads false (W.Call i room Rows) called (Gr.Call text room Inner)
    call = as_view called (λ t. (t.0, t.1.0, t.1.1)) (λ t. (refl, refl, refl))
        (branch_reads Label.access (room_reads room (tok "(" then closed ")" nil refl
        (as_view inside (λ t. inl t) (λ t. (refl, refl, refl))
        (before_put line_or_nil (mapped_reads (nest i) (after_put line_or_nil (args inner))))
        or as_view inside (λ t. inr t) (λ t. (refl, refl, refl)) (put_reads nil)))))
      where
        inside : View (Tree Decorated K.args ⊎ ⊤)
        inside = optional (changed (λ d. nest i (line_or_nil · d) · line_or_nil) (of K.args))

    access : Reads false (W.Access i room Rows) steps (Gr.Access text room Inner)
    access = as_view steps step (λ t. same t) (field then maybe_reads call)
        or as_view steps (λ t. index_step t.0 t.1.0 t.1.1) (λ t. (refl, refl, refl))
        (branch_reads Label.access (tok "[" then branch_reads Label.str string then tok "]"))
      where
        step : (Decorated × Decorated) × (Called ⊎ ⊤) → Step
        step ((d, x), inl t) = call_step d x t
        step ((d, x), inr u) = field_step d x

        same : Agree (both field_view (optional called)) steps step
        same ((d, x), inl t) = (refl, refl, refl)
        same ((d, x), inr u) = (refl, dot-nil (printed d · printed x), refl)

    init : Reads false (W.Init i room Rows) (node Label.rec_init K.init) (Gr.Init text room Inner)
    init = as_view (node Label.rec_init K.init) (λ t. K.init_of t.0 t.1.0 t.1.1)
        (λ t. (refl, refl, refl)) (branch_reads Label.rec_init
        ((as_view (node Label.primary K.primary) (λ t. K.named (K.name_one t))
        (λ t. (refl, refl, refl)) (branch_reads Label.primary (branch_reads Label.name ident))
        or literal Label.string string string_label) then tok ":" then after_put space inner))

    primary : Reads false (W.Primary i room Rows) (node Label.primary K.primary)
        (R.Primaries text room Inner)
    primary = literal Label.boolean (tok "true" or tok "false") boolean_label
        or literal Label.number (leaf_reads (λ t. IsTrue (is_number t)) nil) number_label
        or literal Label.string string string_label
        or as_view here (λ t. K.parens t.0 t.1.0 t.1.1) (λ t. (refl, refl, refl))
        (node_reads (branch_reads Label.parens
        (room_reads room (mapped_reads group
        (tok "(" then mapped_reads (nest (pos 1)) inner then tok ")")))))
        or as_view here listed (λ t. listed_is t)
        (node_reads (branch_reads Label.list
        (room_reads room (tok "[" then closed "]" nil refl
        (mapped_reads (nest (pos 1)) (maybe_reads (args inner)))))))
        or as_view here recorded (λ t. recorded_is t)
        (node_reads (branch_reads Label.fields
        (room_reads room (tok "{" then closed "}" nil refl
        (maybe_reads (mapped_reads (nest i)
        (mapped_reads group (after_put line (before_put line (inits init))))))))))
        or named (tok "principal" or tok "action" or tok "resource" or tok "context")
        or entity
      where
        here : View (Tree Decorated K.primary)
        here = node Label.primary K.primary

        node_reads : {o : Bool} {X : L.Lang} {T : Type 0} {v : View T} {Y : Lang (List ℕ)}
            → Reads o X v Y → Reads o X (labelled Label.primary v) (Branch Label.primary Y)
        node_reads x = branch_reads Label.primary x

        listed : Decorated × ((Tree Decorated K.args ⊎ ⊤) × Decorated) → Tree Decorated K.primary
        listed (l, (inl a, r)) = K.list_of l a r
        listed (l, (inr u, r)) = K.list_empty l r

        listed_is : Agree (labelled Label.primary
            (labelled Label.list (both (one nil)
            (both (changed (nest (pos 1)) (optional (of K.args))) (one nil))))) here listed
        listed_is (l, (inl a, r)) = (refl, refl, refl)
        listed_is (l, (inr u, r)) = (refl, refl, refl)

        recorded : Decorated × ((Tree Decorated K.inits ⊎ ⊤) × Decorated) → Tree Decorated K.primary
        recorded (l, (inl a, r)) = K.record_of l a r
        recorded (l, (inr u, r)) = K.record_empty l r

        recorded_is : Agree (labelled Label.primary
            (labelled Label.fields (both (one nil)
            (both (optional (changed (λ d. nest i (group (line · d · line))) (of K.inits)))
            (one nil))))) here recorded
        recorded_is (l, (inl a, r)) = (refl, refl, refl)
        recorded_is (l, (inr u, r)) = (refl, refl, refl)

    member : Reads false (W.Member i room Rows) (node Label.member K.member)
        (Gr.Member text room Inner)
    member = branch_reads Label.member
        (in_language (R.members_back (Gr.Primary text room Inner) _ _ _ (Gr.Access text room Inner)
        (R.primaries_back text room Inner))
        (accessed primary access or as_view (of K.member) path_call path_call_is
        (mapped_reads group (branch_reads Label.primary path
        then mapped_reads (nest i) (call then after_steps access)))))
      where
        path_call : Tree Decorated K.name × (Called × Row) → Tree Decorated K.member
        path_call (n, (t, m)) = K.member_of (K.named n) (called_before t m.0)

        path_call_is : Agree (changed group
            (both (labelled Label.primary (node Label.name K.name))
            (changed (nest i) (both called after_step)))) (of K.member) path_call
        path_call_is (n, (t, m)) = let q = called_is t m.0 in (
          ap (λ z. tree_yield n ++ z) q.0,
          ap (λ z. group (table i n · nest i z)) q.1,
          ap (λ z. branch Label.primary (branch Label.name (forest n) none) z) q.2,
        )

    unary : Reads false (W.Unary i room Rows) (node Label.unary K.unary) (Gr.Unary text room Inner)
    unary = branch_reads Label.unary
        (as_view (of K.unary) with_signs with_signs_is
        (maybe_signs (signs "!" or signs "-") then member))

    mult : Reads false (W.Mult i room Rows) (node Label.mult K.mult) (Gr.Mult text room Inner)
    mult = as_view (node Label.mult K.mult) K.mult_of (λ t. (refl, refl, refl))
        (branch_reads Label.mult (mapped_reads group
        (chain (λ o d. space · printed o · line · d) (of K.products) K.products_one K.products_more
        (λ o a f. ap (λ z. space · z) (dot_assoc (printed o) (line · a) f))
        (λ t. (refl, refl, refl)) (λ t a r. (refl, refl, refl))
        (after_put space (tok "*" then after_put line unary)) unary)))

    add : Reads false (W.Add i room Rows) (node Label.add K.add) (Gr.Add text room Inner)
    add = as_view (node Label.add K.add) K.add_of (λ t. (refl, refl, refl))
        (branch_reads Label.add (mapped_reads group
        (chain (λ o d. space · printed o · line · d) (of K.sums) K.sums_one K.sums_more
        (λ o a f. ap (λ z. space · z) (dot_assoc (printed o) (line · a) f))
        (λ t. (refl, refl, refl)) (λ t a r. (refl, refl, refl))
        (after_put space ((tok "+" or tok "-") then after_put line mult)) mult)))

    relation : Reads false (W.Relation i room Rows) (node Label.relation K.relation)
        (Gr.Relation text room Inner)
    relation = branch_reads Label.relation
        (in_language (R.relations_back (Gr.Add text room Inner) _ _ _ _)
        (as_view (of K.relation) compared compared_is
        (add then maybe_reads (branch_reads Label.compare
        (after_put space (relop then after_put space add))))
        or as_view (of K.relation) (λ t. K.has_or_like t.0 t.1.0 t.1.1) (λ t. (refl, refl, refl))
        (mapped_reads group (add then after_put line
        (branch_reads Label.has_or_like
        (tok "has" then after_put line (mapped_reads (nest i) (str_operand or has_field))))))
        or as_view (of K.relation) (λ t. K.has_or_like t.0 t.1.0 t.1.1) (λ t. (refl, refl, refl))
        (mapped_reads group (add then after_put line
        (branch_reads Label.has_or_like
        (tok "like" then after_put line (mapped_reads (nest i) str_operand)))))
        or as_view (of K.relation) typed typed_is
        (mapped_reads group (add then after_put space
        (branch_reads Label.is_type (tok "is"
        then after_put space (mapped_reads (nest i) path
        then maybe_reads (after_put line
        (tok "in" then after_put space (mapped_reads (nest i) add))))))))))
      where
        compared : Tree Decorated K.add × ((Decorated × Tree Decorated K.add) ⊎ ⊤)
            → Tree Decorated K.relation
        compared (a, inl t) = K.compare a t.0 t.1
        compared (a, inr u) = K.single a

        compared_is : Agree (both (node Label.add K.add)
            (optional (labelled Label.compare
            (changed (λ d. space · d) (both (one nil)
            (changed (λ d. space · d) (node Label.add K.add))))))) (of K.relation) compared
        compared_is (a, inl t) = (refl, refl, refl)
        compared_is (a, inr u) = (append-nil (tree_yield a), dot-nil (table i a), refl)

        typed : Tree Decorated K.add × (Decorated
            × (Tree Decorated K.name × ((Decorated × Tree Decorated K.add) ⊎ ⊤)))
            → Tree Decorated K.relation
        typed (a, (o, (n, inl t))) = K.is_in a o n t.0 t.1
        typed (a, (o, (n, inr u))) = K.is_type a o n

        typed_is : Agree (changed group
            (both (node Label.add K.add) (changed (λ d. space · d)
            (labelled Label.is_type (both (one nil)
            (changed (λ d. space · d) (both (changed (nest i) (node Label.name K.name))
            (optional (changed (λ d. line · d)
            (both (one nil) (changed (λ d. space · d)
            (changed (nest i) (node Label.add K.add))))))))))))) (of K.relation) typed
        typed_is (a, (o, (n, inl t))) = (refl, refl, refl)
        typed_is (a, (o, (n, inr u))) =
            (ap (λ z. tree_yield a ++ (o ∷ z)) (append-nil (tree_yield n)), refl, refl)

    and : Reads false (W.And i room Rows) (node Label.and K.ands) (Gr.And text room Inner)
    and = branch_reads Label.and (chain (λ o d. space · C o line · d) (of K.ands) K.ands_one
        K.ands_more (λ o a f. ap (λ z. space · z) (dot_assoc (C o line) a f))
        (λ t. (refl, refl, refl)) (λ t a r. (refl, refl, refl))
        (after_put space (tok_then "&&" line then relation)) relation)

    or_chain : Reads false (W.Or i room Rows) (node Label.or K.ors) (Gr.Or text room Inner)
    or_chain = branch_reads Label.or
        (chain (λ o d. space · C o line · d) (of K.ors) K.ors_one K.ors_more
        (λ o a f. ap (λ z. space · z) (dot_assoc (C o line) a f)) (λ t. (refl, refl, refl))
        (λ t a r. (refl, refl, refl))
        (after_put space (tok_then "||" line then and)) and)

    below : Reads false (W.Below i room Rows)
        (changed (λ d. nest i (line · d)) (node Label.expr K.expr)) Inner
    below = mapped_reads (nest i) (after_put line inner)

    expr_in : Reads false (W.ExprIn i room Rows) (node Label.expr K.expr)
        (Gr.ExprIn text room Inner)
    expr_in = branch_reads Label.expr (as_view (of K.expr) if_tree (λ t. (refl, refl, refl))
        (room_reads room (mapped_reads group
        (tok "if" then below then after_put line
        (tok "then" then below then after_put line (tok "else" then below)))))
        or as_view (of K.expr) K.ors_expr (λ t. (refl, refl, refl)) or_chain)
      where
        if_tree : Decorated × (Tree Decorated K.expr
            × (Decorated × (Tree Decorated K.expr × (Decorated × Tree Decorated K.expr))))
            → Tree Decorated K.expr
        if_tree t = K.if_expr t.0 t.1.0 t.1.1.0 t.1.1.1.0 t.1.1.1.1.0 t.1.1.1.1.1

  pub expr : (n : ℕ) → Reads false (W.Expr i n) (node Label.expr K.expr) (Gr.Expr text n)
  expr zero = expr_in false never_reads
  expr (suc n) = expr_in true (expr n)
