-- What is done with the tokens of a node: they are read whole, and the marks of the document that their line has are written.
use Rattle.std.proofs.Common.{◌≡◌, ℕ, zero, suc, ℤ, pos, ◌+◌, Bool, true, false, List, [], ◌∷◌, ◌++◌, length, refl, sym, ap, ◌∙◌, subst, arith, inl, inr, append-nil}
use Rattle.std.specs.Prelude.{IsTrue, codes, ◌⊎◌, ⊤}
use Prim.Native.String.{String}
use Rattle.cedar_tokens.specs.Listing.{Decorated}
use Rattle.cedar_tokens.specs.declared.kind.Kind.TheVariants as K
use Rattle.cedar_layout.specs.Layout.{Doc, nil, ◌·◌}
use Rattle.cedar_layout.specs.Layout as D
use Rattle.cedar_layout.proofs.Values.{dot-nil}
use Rattle.cedar_grammar.specs.Grammar.{is_identifier}
use Rattle.cedar_grammar.specs.Reader.Rules.{expr_first}
use Rattle.cedar_grammar.proofs.Rules.Meanings.{expr_clash}
use Rattle.cedar_written.specs.Languages.{◌⋄◌ as ◌⊙◌, ◌∪◌ as ◌⊕◌}
use Rattle.cedar_written.specs.Languages as L
use Rattle.cedar_written.specs.Written as W
use Rattle.cedar_written.specs.NodeLines as N
use Rattle.cedar_written.specs.NodeLines.{has_room}
use Rattle.cedar_print.specs.WrittenMarks.{Mark, AreMarks, none}
use Rattle.cedar_writer.specs.Rules.{Rule, ◌▸◌, ◌∥◌, one_of, group as group_of, tok as tok_of}
use Rattle.cedar_writer.specs.Lines as lines
use Rattle.cedar_writer.specs.Parts.{some_arguments, some_exprs, some_inits, slot_operand, some_entities, entities_operand, scoped, action}
use Rattle.cedar_writer.specs.Bare.{any_kind, is_slot, is_bare}
use Rattle.cedar_writer.specs.Languages.{Lang, Never, Token, means, Expr}
use Rattle.cedar_writer.specs.Writing.{State, going, refused, lost, refuse, run, expr_to}
use Rattle.cedar_writer.specs.Depths.{alone, inside, at_depth}
use Rattle.cedar_writer.specs.NodeRules as node
use Rattle.cedar_writer.specs.NodeRules.{lang_of, node_to}
use Rattle.cedar_writer.specs.Outcomes.{HasEnded, EndsSo, HasRoom}
use Rattle.cedar_writer.specs.declared.node.Line.{Line}
use Rattle.cedar_writer.specs.declared.node.Line.TheVariants as V
use Rattle.cedar_writer.specs.declared.writer.Outcome.{Outcome}
use Rattle.cedar_writer.specs.declared.writer.Outcome.TheVariants as Ended
use Rattle.cedar_writer.proofs.Tests.{decided, policy_decided, expr_decided}
use Rattle.cedar_writer.proofs.Complete.{Starts, Complete, run_complete, expr_begun, expr_complete}
use Rattle.cedar_writer.proofs.MoreRoom.{more, Roomier, Ample, run_ample, refuse_ample, expr_ample}
use Rattle.cedar_writer.proofs.Sound.{IsSteady, Sound, run_sound, too_deep_steady, too_deep_sound, expr_steady, expr_sound, same_tokens, same_marks}
use Rattle.cedar_writer.proofs.Moves.{Keeps, Moves, refuse_keeps, refuse_moves, expr_keeps, expr_moves}
use Rattle.cedar_writer.proofs.Loops.{inside_keeps, inside_moves}
use Rattle.cedar_writer.proofs.SameRows.{Same, Tokens, within, token_same, ◌either◌, ◌then◌, ◌or◌, never, put, many, group, nest, tok, word, as_set}
use Rattle.cedar_writer.proofs.Regrouped as G
use Rattle.cedar_writer.proofs.LineRows as rows
use Rattle.cedar_writer.proofs.PolicyRows as policies
use Rattle.cedar_writer.proofs.Lines as same
use Rattle.cedar_writer.proofs.NotBare as bare

-- with any room, P reads these tokens whole and writes the marks of this document, unless there is too little
abbrev pub Writes : (State → State) → List Decorated → Doc → Type 0
Writes P ts d = (es : List Mark) × AreMarks es d
    × ((r : ℕ) → (P (going ts [] r) ≡ lost) ⊎ ((q : ℕ) × (P (going ts [] r) ≡ going [] es q)))

-- P reads these tokens whole if they are a row of X, and writes the marks of a document that they have; and not if they are none
pub record Reads (P : State → State) (X : List Decorated → Doc → Type 0) (ts : List Decorated) : Type 0 where
  pub writes : (d : Doc) → X ts d → Writes P ts d
  pub wrote : Tokens ts → (ns : List Mark) (r q : ℕ) → P (going ts [] r) ≡ going [] ns q → (d : Doc) × AreMarks ns d × X ts d

true_false : true ≡ false → ⊥
true_false e = absurd cc

unmore : (k : ℕ) (s : State) {us : List Decorated} {ms : List Mark} {r : ℕ} → going us ms r ≡ more k s
    → (q : ℕ) × (s ≡ going us ms q)
unmore k (going ts ns q) {us = us} e =
    (q, ap (λ z. going z ns q) (sym (same_tokens e)) ∙ ap (λ z. going us z q) (sym (same_marks e)))
unmore k (refused b ts) e = absurd cc
unmore k lost e = absurd cc

module _ (room : Bool) (E : State → State) (X : Lang) (b : Starts X false expr_first) (c : Complete E X expr_clash) (e : Ample E)
    (steady : IsSteady E) (keeps : Keeps E) (moves : Moves E) (sound : Sound E X) where
  row_writes : (R : Rule) → IsTrue (decided R) → {Z : L.Lang} → Same Z (means room X R)
      → (ts : List Decorated) (d : Doc) → Z ts d → Writes (run room E R) ts d
  row_writes R h t ts d z =
      let y = t.there ts d z in (
        y.0,
        y.1,
        λ r. go y.0 r ((run_ample room E e R).at (length y.0) (going ts [] r))
            (run_complete room E X b c R h ts y.0 [] [] r y.2 tt),
      )
    where
      go : (es : List Mark) (r : ℕ)
          → Roomier (length es) (run room E R (going ts [] r)) (run room E R (going ts [] (r + length es)))
          → run room E R (going (ts ++ []) [] (length es + r)) ≡ going [] es r
          → (run room E R (going ts [] r) ≡ lost) ⊎ ((q : ℕ) × (run room E R (going ts [] r) ≡ going [] es q))
      go es r (inl q) k = inl q
      go es r (inr q) k =
          let same : length es + r ≡ r + length es = omega arith in
          inr (unmore (length es) (run room E R (going ts [] r)) (sym k
          ∙ (ap (λ z. run room E R (going z [] (length es + r))) (append-nil ts)
          ∙ (ap (λ z. run room E R (going ts [] z)) same ∙ q))))

  rule_reads : (R : Rule) → IsTrue (decided R) → {Z : L.Lang} → Same Z (means room X R) → (ts : List Decorated)
      → Reads (run room E R) Z ts
  rule_reads R h t ts = record {
    writes = row_writes R h t ts;
    wrote = λ k ns r q e.
        (let x = run_sound room E X steady keeps moves sound R h ts [] [] ns r q e in
        let same : x.tokens ≡ ts = sym (x.split ∙ append-nil x.tokens) in
        let y = t.back ts x.marks k (subst (λ z. means room X R z x.marks) same x.row) in
        (y.0, subst (λ z. AreMarks z y.0) (sym x.written) y.1, y.2));
  }

no_rows : Starts Never false expr_first
no_rows ts d x = absurd x

none_read : Complete (refuse true) Never expr_clash
none_read ts d us m r x s = absurd x

-- a line without expressions
lone : (R : Rule) → IsTrue (decided R) → {Z : L.Lang} → Same Z (means false Never R) → (ts : List Decorated)
    → Reads (alone R) Z ts
lone R h t = rule_reads false (refuse true) Never no_rows none_read (refuse_ample true) too_deep_steady (refuse_keeps true)
    (refuse_moves true) too_deep_sound R h t

any_token : Same N.AnyToken (Token any_kind [] [])
any_token = token_same (λ t. ⊤) any_kind [] nil none (λ t h. refl) (λ t k h. tt)

module _ (i : ℤ) where
  -- ---- what may be inside a bracket or an if
  abbrev Inner : ℕ → Lang
  Inner zero = Never
  Inner (suc n) = Expr i n

  inner : (n : ℕ) → Same (N.Inside i n) (Inner n)
  inner zero = never
  inner (suc n) = rows.expr i n

  starts : (n : ℕ) → Starts (Inner n) false expr_first
  starts zero = no_rows
  starts (suc n) = expr_begun i n

  reads : (n : ℕ) → Complete (inside i n) (Inner n) expr_clash
  reads zero = none_read
  reads (suc n) = expr_complete i n

  ample : (n : ℕ) → Ample (inside i n)
  ample zero = refuse_ample true
  ample (suc n) = expr_ample i n

  steady : (n : ℕ) → IsSteady (inside i n)
  steady zero = too_deep_steady
  steady (suc n) = expr_steady i n

  sound : (n : ℕ) → Sound (inside i n) (Inner n)
  sound zero = too_deep_sound
  sound (suc n) = expr_sound i n

  deep : (n : ℕ) (R : Rule) → IsTrue (decided R) → {Z : L.Lang} → Same Z (means (has_room n) (Inner n) R) → (ts : List Decorated)
      → Reads (at_depth i n R) Z ts
  deep n R h t = rule_reads (has_room n) (inside i n) (Inner n) (starts n) (reads n) (ample n) (steady n) (inside_keeps i n)
      (inside_moves i n) (sound n) R h t

  around : (n : ℕ) (R : Rule) → IsTrue (decided R) → {Z : L.Lang} → Same Z (means true (Expr i n) R) → (ts : List Decorated)
      → Reads (run true (expr_to i n) R) Z ts
  around n R h t = rule_reads true (expr_to i n) (Expr i n) (expr_begun i n) (expr_complete i n) (expr_ample i n) (expr_steady i n)
      (expr_keeps i n) (expr_moves i n) (expr_sound i n) R h t

  expr_reads : (n : ℕ) (ts : List Decorated) → Reads (expr_to i n) (W.ExprIn i (has_room n) (N.Inside i n)) ts
  expr_reads zero = lone (lines.expr i) (expr_decided i) (rows.expr_in i false never)
  expr_reads (suc n) = around n (lines.expr i) (expr_decided i) (rows.expr_in i true (rows.expr i n))

  -- ---- rules by the names of those below them
  variable_is : node.variable i ≡ (lines.principal i ∥ lines.action i ∥ lines.resource i)
  unfolding slot_operand some_entities entities_operand scoped action
  variable_is = refl

  access_is : node.one_access i ≡ (lines.field ∥ lines.call i ∥ (tok_of K.LBracket ▸ lines.str ▸ tok_of K.RBracket))
  unfolding some_arguments
  access_is = refl

  primary_is : node.primary i ≡ (lines.literal i ∥ one_of is_slot ∥ node.path_or_entity)
  unfolding some_exprs some_inits
  primary_is = refl

  -- ---- operands of no expression
  slots : Same N.Slot (means false Never (one_of is_slot))
  slots = (as_set is_slot refl refl (word "?principal" K.PrincipalSlot refl either word "?resource" K.ResourceSlot refl)).same

  bares : Same (N.Bare i) (means false Never (node.bare_member i))
  bares = group (slots then nest i (rows.no_accesses i false never))
      or rows.accessed i false never rows.ident (rows.field i false never)

  module _ (n : ℕ) where
    -- ---- primaries
    abbrev Literals : L.Lang
    Literals = (W.Tok "true" ⊕ W.Tok "false") ⊕ W.NUMBER ⊕ W.STR
        ⊕ W.Deeper i (has_room n) (N.Inside i n) (L.Group (W.Tok "(" ⊙ L.Nested (pos 1) (N.Inside i n) ⊙ W.Tok ")"))
        ⊕ W.Deeper i (has_room n) (N.Inside i n) (W.Tok "[" ⊙ L.Nested (pos 1) (L.Maybe (W.Items (N.Inside i n))) ⊙ W.Tok "]")
        ⊕ W.Deeper i (has_room n) (N.Inside i n) (W.Tok "{"
        ⊙ L.Maybe (L.Nested i (L.Group (L.Put D.line ⊙ W.Items (W.Init i (has_room n) (N.Inside i n)) ⊙ L.Put D.line))) ⊙ W.Tok "}")

    -- Path ['::' STR]
    abbrev PathOrEntity : L.Lang
    PathOrEntity = W.Ident ⊙ L.Many (W.Tok "::" ⊙ W.Ident) ⊙ (W.Tok "::" ⊙ W.STR ⊕ L.Put nil)

    literals : Same Literals (means (has_room n) (Inner n) (lines.literal i))
    literals = (word "true" K.True refl either word "false" K.False refl).same or rows.number or rows.str
        or rows.parens i (has_room n) (inner n) or rows.list i (has_room n) (inner n) or rows.fields i (has_room n) (inner n)

    paths : Same PathOrEntity (means (has_room n) (Inner n) node.path_or_entity)
    paths = rows.ident then many (rows.colons then rows.ident) then (rows.colons then rows.str or put [] nil none)

    one_word : (s : String) → IsTrue (is_identifier (codes s)) → (ts : List Decorated) (d : Doc) → W.Tok s ts d → PathOrEntity ts d
    one_word s h ts d (t, e, c, p) = (
      ts,
      [],
      d,
      nil · nil,
      sym (append-nil ts),
      sym (dot-nil d),
      (t, e, c, subst (λ z. IsTrue (is_identifier z)) (sym p) h),
      ([], [], nil, nil, refl, refl, L.no_more, inr (refl, refl)),
    )

    sorted : (ts : List Decorated) (d : Doc) → N.AnyPrimary i (has_room n) (N.Inside i n) ts d
        → (Literals ⊕ N.Slot ⊕ PathOrEntity) ts d
    sorted ts d (inl (inl x)) = inl (inl x)
    sorted ts d (inl (inr (inl x))) = inl (inr (inl x))
    sorted ts d (inl (inr (inr (inl x)))) = inl (inr (inr (inl x)))
    sorted ts d (inl (inr (inr (inr (inl x))))) = inl (inr (inr (inr (inl x))))
    sorted ts d (inl (inr (inr (inr (inr (inl x)))))) = inl (inr (inr (inr (inr (inl x)))))
    sorted ts d (inl (inr (inr (inr (inr (inr (inl x))))))) = inl (inr (inr (inr (inr (inr x)))))
    sorted ts d (inl (inr (inr (inr (inr (inr (inr (inl x)))))))) = inr (inr (variable x))
      where
        variable : (W.Tok "principal" ⊕ W.Tok "action" ⊕ W.Tok "resource" ⊕ W.Tok "context") ts d → PathOrEntity ts d
        variable (inl x) = one_word "principal" refl ts d x
        variable (inr (inl x)) = one_word "action" refl ts d x
        variable (inr (inr (inl x))) = one_word "resource" refl ts d x
        variable (inr (inr (inr x))) = one_word "context" refl ts d x
    sorted ts d (inl (inr (inr (inr (inr (inr (inr (inr x)))))))) =
        let (us, vs, e, f, s, c, y, (us', vs', e', f', s', c', m, z)) = G.right _ _ _ ts d x in
        inr (inr (us, vs, e, f, s, c, y, (us', vs', e', f', s', c', m, inl z)))
    sorted ts d (inr (inl x)) = inr (inl x)
    sorted ts d (inr (inr (us, vs, e, f, s, c, y, m))) = inr (inr (
      us,
      vs,
      e,
      f,
      s,
      c,
      y,
      (vs, [], f, nil, sym (append-nil vs), sym (dot-nil f), m, inr (refl, refl)),
    ))

    unsorted : (ts : List Decorated) (d : Doc) → (Literals ⊕ N.Slot ⊕ PathOrEntity) ts d
        → N.AnyPrimary i (has_room n) (N.Inside i n) ts d
    unsorted ts d (inl (inl x)) = inl (inl x)
    unsorted ts d (inl (inr (inl x))) = inl (inr (inl x))
    unsorted ts d (inl (inr (inr (inl x)))) = inl (inr (inr (inl x)))
    unsorted ts d (inl (inr (inr (inr (inl x))))) = inl (inr (inr (inr (inl x))))
    unsorted ts d (inl (inr (inr (inr (inr (inl x)))))) = inl (inr (inr (inr (inr (inl x)))))
    unsorted ts d (inl (inr (inr (inr (inr (inr x)))))) = inl (inr (inr (inr (inr (inr (inl x))))))
    unsorted ts d (inr (inl x)) = inr (inl x)
    unsorted ts d (inr (inr (us, vs, e, f, s, c, y, (us', vs', e', f', s', c', m, inl z)))) =
        inl (inr (inr (inr (inr (inr (inr (inr (G.left _ _ _ ts d (us, vs, e, f, s, c, y, (us', vs', e', f', s', c', m, z))))))))))
    unsorted ts d (inr (inr (us, vs, e, f, s, c, y, (us', vs', e', f', s', c', m, inr (p, q))))) =
        let rest : vs ≡ us' = s' ∙ (ap (λ z. us' ++ z) p ∙ append-nil us') in
        let doc : f ≡ e' = c' ∙ (ap (λ z. e' · z) q ∙ dot-nil e') in
        inr (inr (
          us,
          vs,
          e,
          f,
          s,
          c,
          y,
          subst (λ z. L.Many (W.Tok "::" ⊙ W.Ident) z f) (sym rest)
              (subst (λ z. L.Many (W.Tok "::" ⊙ W.Ident) us' z) (sym doc) m),
        ))

    primaries : Same (N.AnyPrimary i (has_room n) (N.Inside i n)) (means (has_room n) (Inner n) (lines.literal i ∥ one_of is_slot ∥ node.path_or_entity))
    primaries = within unsorted_to sorted_to (literals or slots_at or paths)
      where
        slots_at : Same N.Slot (means (has_room n) (Inner n) (one_of is_slot))
        slots_at = slots

        unsorted_to : (ts : List Decorated) (d : Doc) → N.AnyPrimary i (has_room n) (N.Inside i n) ts d → (Literals ⊕ N.Slot ⊕ PathOrEntity) ts d
        unsorted_to = sorted

        sorted_to : (ts : List Decorated) (d : Doc) → (Literals ⊕ N.Slot ⊕ PathOrEntity) ts d → N.AnyPrimary i (has_room n) (N.Inside i n) ts d
        sorted_to = unsorted

    -- ---- each line
    abbrev Line_reads : Line → Type 0
    Line_reads l = (ts : List Decorated) → Reads (node_to i n l (is_bare ts)) (lang_of i n l) ts

    by : {R S : Rule} {Z : L.Lang} → R ≡ S → (ts : List Decorated) → Reads (at_depth i n S) Z ts → Reads (at_depth i n R) Z ts
    by {Z = Z} e ts w = subst (λ z. Reads (at_depth i n z) Z ts) (sym e) w

    -- an operand of an expression, or of none
    either_way : (l : Line) (X Y : L.Lang) (ts : List Decorated) → Reads (node_to i n l false) X ts → Reads (node_to i n l true) Y ts
        → ((d : Doc) → X ts d → is_bare ts ≡ false) → ((d : Doc) → Y ts d → (is_bare ts ≡ true) ⊎ X ts d)
        → Reads (node_to i n l (is_bare ts)) (X ⊕ Y) ts
    either_way l X Y ts x y f g = go (is_bare ts) refl
      where
        go : (b : Bool) → is_bare ts ≡ b → Reads (node_to i n l b) (X ⊕ Y) ts
        go false e = record {
          writes = λ d z. elim z [
            | inl u ↦ x.writes d u
            | inr u ↦ elim (g d u) [ inl k ↦ absurd (true_false (sym k ∙ e)) | inr v ↦ x.writes d v ]
          ];
          wrote = λ k ns r q h. (let a = x.wrote k ns r q h in (a.0, a.1, inl a.2));
        }
        go true e = record {
          writes = λ d z. elim z [
            | inl u ↦ absurd (true_false (sym e ∙ f d u))
            | inr u ↦ y.writes d u
          ];
          wrote = λ k ns r q h. (let a = y.wrote k ns r q h in (a.0, a.1, inr a.2));
        }

    abbrev In : L.Lang
    In = N.Inside i n

    member : Line_reads V.Member
    member ts = either_way V.Member (W.Member i (has_room n) In) (N.Bare i) ts
        (by (same.member_is i) ts (deep n (lines.member i) refl (rows.member i (has_room n) (inner n)) ts))
        (lone (node.bare_member i) refl bares ts)
        (bare.member_not_bare i (has_room n) In ts) (bare.bare_or_member i (has_room n) In ts)

    unary : Line_reads V.Unary
    unary ts = either_way V.Unary (W.Unary i (has_room n) In) (N.Bare i) ts
        (by (same.unary_is i) ts (deep n (lines.unary i) refl (rows.unary i (has_room n) (inner n)) ts))
        (lone (node.bare_member i) refl bares ts)
        (bare.unary_not_bare i (has_room n) In ts) (bare.bare_or_unary i (has_room n) In ts)

    mult : Line_reads V.Mult
    mult ts = either_way V.Mult (W.Mult i (has_room n) In) (L.Group (N.Bare i)) ts
        (by (same.mult_is i) ts (deep n (lines.mult i) refl (rows.mult i (has_room n) (inner n)) ts))
        (lone (group_of (node.bare_member i)) refl (group bares) ts)
        (bare.mult_not_bare i (has_room n) In ts) (bare.bare_or_mult i (has_room n) In ts)

    add : Line_reads V.Add
    add ts = either_way V.Add (W.Add i (has_room n) In) (L.Group (L.Group (N.Bare i))) ts
        (by (same.add_is i) ts (deep n (lines.add i) refl (rows.add i (has_room n) (inner n)) ts))
        (lone (group_of (group_of (node.bare_member i))) refl (group (group bares)) ts)
        (bare.add_not_bare i (has_room n) In ts) (bare.bare_or_add i (has_room n) In ts)

    variable : Line_reads V.Variable
    variable ts = subst (λ z. Reads (alone z) (lang_of i n V.Variable) ts) (sym variable_is)
        (lone (lines.principal i ∥ lines.action i ∥ lines.resource i) refl
        (rows.scoped i false never "principal" "?principal" K.Principal K.PrincipalSlot refl refl or rows.action i false never
        or rows.scoped i false never "resource" "?resource" K.Resource K.ResourceSlot refl refl) ts)

    access : Line_reads V.Access
    access ts = by access_is ts (deep n (lines.field ∥ lines.call i ∥ (tok_of K.LBracket ▸ lines.str ▸ tok_of K.RBracket)) refl
        (rows.field i (has_room n) (inner n) or rows.call i (has_room n) (inner n)
        or tok "[" K.LBracket refl then rows.str then tok "]" K.RBracket refl) ts)

    pub line_reads : (l : Line) → Line_reads l
    line_reads V.Policy ts = around n (lines.policy i) (policy_decided i) (policies.policy i n) ts
    line_reads V.Annotation ts = lone lines.annotation refl (rows.annotation i false never) ts
    line_reads V.Variable ts = variable ts
    line_reads V.Condition ts = around n (lines.cond i) refl (rows.cond i n) ts
    line_reads V.Expr ts = expr_reads n ts
    line_reads V.Or ts = by (same.or_is i) ts (deep n (lines.or i) refl (rows.or_chain i (has_room n) (inner n)) ts)
    line_reads V.And ts = by (same.and_is i) ts (deep n (lines.and i) refl (rows.and i (has_room n) (inner n)) ts)
    line_reads V.Relation ts = by (same.relation_is i) ts (deep n (lines.relation i) refl (rows.relation i (has_room n) (inner n)) ts)
    line_reads V.Add ts = add ts
    line_reads V.Mult ts = mult ts
    line_reads V.Unary ts = unary ts
    line_reads V.Member ts = member ts
    line_reads V.Access ts = access ts
    line_reads V.Primary ts = by primary_is ts (deep n (lines.literal i ∥ one_of is_slot ∥ node.path_or_entity) refl primaries ts)
    line_reads V.Init ts = deep n (lines.init i) refl (rows.init i (has_room n) (inner n)) ts
    line_reads V.Name ts = lone lines.path refl (rows.path i false never) ts
    line_reads V.Ref ts = lone lines.entity refl (rows.entity i false never) ts
    line_reads V.Tokens ts = lone node.apart refl (any_token then many (rows.blank then any_token)) ts

-- how that ends
pub node_ends : (i : ℤ) (n : ℕ) (l : Line) (ts : List Decorated) (d : Doc) (ms : List Mark) (o : Outcome)
    → lang_of i n l ts d → EndsSo i n l (is_bare ts) ts ms o → HasRoom o
    → (o ≡ Ended.Written 0) × AreMarks ms d
node_ends i n l ts d ms o x (room, h) k =
    let w = (line_reads i n l ts).writes d x in go (node_to i n l (is_bare ts) (going ts [] room)) o w.0 w.1 (w.2 room) h k
  where
    go : (s : State) (o : Outcome) (es : List Mark) → AreMarks es d → (s ≡ lost) ⊎ ((q : ℕ) × (s ≡ going [] es q)) → HasEnded s ms o
        → HasRoom o → (o ≡ Ended.Written 0) × AreMarks ms d
    go s (Ended.Written left) es a (inl e) (us, r, f, g) k = absurd cc
    go s (Ended.Written left) es a (inr (q, e)) (us, r, f, g) k =
        let whole : going [] es q ≡ going us ms r = sym e ∙ f in
        let none_left : 0 ≡ left = ap length (same_tokens whole) ∙ g in
        (ap Ended.Written (sym none_left), subst (λ z. AreMarks z d) (same_marks whole) a)
    go s (Ended.Refused deep left) es a (inl e) (us, f, g) k = absurd cc
    go s (Ended.Refused deep left) es a (inr (q, e)) (us, f, g) k = absurd cc
    go s Ended.OutOfRoom es a w h k = absurd k

-- and what was read whole is a row
pub node_wrote : (i : ℤ) (n : ℕ) (l : Line) (ts : List Decorated) (ms : List Mark) → Tokens ts → EndsSo i n l (is_bare ts) ts ms (Ended.Written 0)
    → (d : Doc) × AreMarks ms d × lang_of i n l ts d
node_wrote i n l ts ms k (room, (us, r, e, h)) = (line_reads i n l ts).wrote k ms room r
    (e ∙ ap (λ z. going z ms r) (none_left us h))
  where
    none_left : (us : List Decorated) → length us ≡ 0 → us ≡ []
    none_left [] h = refl
    none_left (u ∷ us) h = absurd (omega (arith, h))
