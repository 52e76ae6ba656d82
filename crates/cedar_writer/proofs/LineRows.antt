-- The rules have the rows of the written grammar, line by line.
use Rattle.std.proofs.Common.{◌≡◌, ℕ, zero, suc, ℤ, pos, Bool, true, false, List, [], ◌∷◌, ◌++◌, refl, ap, sym, ◌∙◌, subst, inl, inr, append_assoc, append-nil}
use Rattle.std.specs.Prelude.{IsTrue, codes}
use Prim.Native.String.{String}
use Rattle.cedar_tokens.specs.Units.{is_word, is_number, is_string}
use Rattle.cedar_tokens.specs.Listing.{Decorated, token_value}
use Rattle.cedar_tokens.specs.declared.kind.Kind.{Kind}
use Rattle.cedar_tokens.specs.declared.kind.Kind.TheVariants as K
use Rattle.cedar_tokens.specs.Kinds.{is, is_any_word, is_ident, is_variable, is_comparison}
use Rattle.cedar_layout.specs.Layout.{Doc, nil, ◌·◌}
use Rattle.cedar_layout.specs.Layout as D
use Rattle.cedar_layout.specs.Comments.{space}
use Rattle.cedar_grammar.specs.Grammar.{is_identifier}
use Rattle.cedar_grammar.proofs.Texts.Tests.{has_text, number_agrees, string_agrees, any_word_agrees, ident_agrees, word_is_token, number_is_token, string_is_token, ident_is_token}
use Rattle.cedar_laws.specs.Table as T
use Rattle.cedar_laws.specs.Table.{bare_token}
use Rattle.cedar_written.specs.Languages.{◌⋄◌ as ◌⊙◌, ◌∪◌ as ◌⊕◌}
use Rattle.cedar_written.specs.Languages as L
use Rattle.cedar_written.specs.Written as W
use Rattle.cedar_print.specs.WrittenMarks.{Mark, AreMarks, none, both, a_text, a_line, a_line_or_nil, a_hard, a_nest, a_group, begin, end_group, end_nothing, end_nest}
use Rattle.cedar_print.specs.WrittenMarks as M
use Rattle.cedar_writer.specs.Rules as R
use Rattle.cedar_writer.specs.Rules.{◌▸◌}
use Rattle.cedar_writer.specs.Lines as l
use Rattle.cedar_writer.specs.Languages.{Lang, Many, Deeper, ◌⋄◌, ◌∪◌, Never, Put, Token, Lifted, means, Expr}
use Rattle.cedar_writer.proofs.SameRows.{Same, Tokens, tokens_parts, kind_is, text_is, token_same, token_marks, lead_marks, trail_marks, tok, tok_then, word, word_then, as_set, Between, ◌either◌, ◌then◌, ◌or◌, never, put, maybe, many, with_room, group, nest, enclosed, within, written, ungrouped, lifted, led_group}
use Rattle.cedar_writer.proofs.Regrouped as G

pub line : Same (L.Put D.line) (Put (M.line ∷ []))
line = put (M.line ∷ []) D.line a_line

pub hard : Same (L.Put D.hard) (Put (M.hard ∷ []))
hard = put (M.hard ∷ []) D.hard a_hard

pub blank : Same (L.Put space) (Put (M.space ∷ []))
blank = put (M.space ∷ []) space (a_text _)

pub line_or_nil : Same (L.Put D.line_or_nil) (Put (M.line_or_nil ∷ []))
line_or_nil = put (M.line_or_nil ∷ []) D.line_or_nil a_line_or_nil

pub str : Same W.STR (Token (is K.Str) [] [])
str = token_same (λ t. IsTrue (is_string t)) (is K.Str) [] nil none
    (λ t h. string_agrees t (string_is_token t h) ∙ h) (λ t k h. sym (string_agrees t k) ∙ h)

pub number : Same W.NUMBER (Token (is K.Number) [] [])
number = token_same (λ t. IsTrue (is_number t)) (is K.Number) [] nil none
    (λ t h. number_agrees t (number_is_token t h) ∙ h) (λ t k h. sym (number_agrees t k) ∙ h)

pub any_word : Same W.AnyWord (Token is_any_word [] [])
any_word = token_same (λ t. IsTrue (is_word t)) is_any_word [] nil none
    (λ t h. any_word_agrees t (word_is_token t h) ∙ h) (λ t k h. sym (any_word_agrees t k) ∙ h)

pub ident : Same W.Ident (Token is_ident [] [])
ident = token_same (λ t. IsTrue (is_identifier t)) is_ident [] nil none
    (λ t h. ident_agrees t (ident_is_token t h) ∙ h) (λ t k h. sym (ident_agrees t k) ∙ h)

-- what is followed by nothing
pub alone : {X : L.Lang} {Y : Lang} → Same X Y → Same X (Y ⋄ Put [])
alone {X} {Y} x = written off on x
  where
    off : G.Into (Y ⋄ Put []) Y
    off ts ms (us, vs, e, f, s, c, y, (p, q)) =
        let a : us ≡ ts = sym (s ∙ (ap (λ z. us ++ z) p ∙ append-nil us)) in
        subst (λ z. Y ts z) (sym (c ∙ (ap (λ z. e ++ z) q ∙ append-nil e))) (subst (λ z. Y z e) a y)

    on : G.Into Y (Y ⋄ Put [])
    on ts ms y = (ts, [], ms, [], sym (append-nil ts), sym (append-nil ms), y, (refl, refl))

-- a second alternative without rows
pub or_never : {X : L.Lang} {Y : Lang} → Same X Y → Same X (Y ∪ Never)
or_never x = written (λ ts ms y. elim y [ inl z ↦ z | inr z ↦ absurd z ]) (λ ts ms y. inl y) x

pub comma : Same (W.Tok ",") (Token (is K.Comma) [] [])
comma = tok "," K.Comma refl

pub colons : Same (W.Tok "::") (Token (is K.DoubleColon) [] [])
colons = tok "::" K.DoubleColon refl

pub items : {X : L.Lang} {Y : Lang} → Same X Y
    → Same (W.Items X) (Y ⋄ Many (Token (is K.Comma) [] [] ⋄ Put (M.line ∷ []) ⋄ Y)
    ⋄ (Token (is K.Comma) [] [] ⋄ Put [] ∪ Put []))
items x = x then many (comma then line then x) then maybe (alone comma)

module _ (i : ℤ) (room : Bool) {Rows : L.Lang} {E : Lang} (inner : Same Rows E) where
  abbrev Means : R.Rule → Lang
  Means r = means room E r

  pub path : Same W.Path (Means l.path)
  path = ident then many (colons then ident)

  pub entity : Same W.Entity (Means l.entity)
  entity = within (G.right _ _ _) (G.left _ _ _)
      (ident then many (colons then ident) then or_never (colons then str))

  pub annotation : Same W.Annotation (Means l.annotation)
  annotation = tok "@" K.At refl then any_word
      then (tok "(" K.LParen refl then str then tok_then ")" K.RParen _ D.hard a_hard refl or hard)

  pub field : Same W.Field (Means l.field)
  field = tok "." K.Dot refl then ident

  signs : (s : String) (k : Kind) → has_text k (codes s) ≡ true
      → Same (W.Signs s) (Means (R.signs k))
  signs s k h = let t = tok s k h in t then maybe (t then maybe (t then maybe t))

  relop : Same W.Relop (Means l.relop)
  relop = (as_set is_comparison refl refl (word "<" K.Lt refl either word "<=" K.Le refl either word
      ">" K.Gt refl either word ">=" K.Ge refl
      either word "!=" K.NotEqual refl either word "==" K.Equal refl either word "in" K.In
      refl)).same

  abbrev AccessesOf : Lang → Lang
  AccessesOf Y = Between (M.nest i) end_nest (Y ⋄ Many (Put (M.line_or_nil ∷ []) ⋄ Y) ∪ Put [])

  abbrev OperandOf : Lang → Lang
  OperandOf Y = Between begin end_group (Between begin end_group
      (Between begin end_group (Y ⋄ Between (M.nest i) end_nest (Put []))))

  abbrev ComparedOf : Kind → Lang → Lang
  ComparedOf k Y = (Put (M.line ∷ []) ⋄ Token (is k) [] []) ⋄ Put (end_group ∷ []) ⋄ Between
      (M.nest i) end_nest (Put (M.line ∷ []) ⋄ Y)
      ⋄ Put (end_group ∷ [])

  accesses : {X : L.Lang} {Y : Lang} → Same X Y → Same (L.Nested i
      (L.Maybe (X ⊙ L.Many (L.Put D.line_or_nil ⊙ X)))) (AccessesOf Y)
  accesses x = nest i (maybe (x then many (line_or_nil then x)))

  pub accessed : {F X : L.Lang} {Y Z : Lang} → Same F Y → Same X Z
      → Same (W.Accessed i F X) (Between begin end_group (Y ⋄ AccessesOf Z))
  accessed f x = group (f then accesses x)

  pub no_accesses : Same (L.Maybe (L.Never ⊙ L.Many (L.Put D.line_or_nil ⊙ L.Never))) (Put [])
  no_accesses = within to (λ ts d y. inr y) (put [] nil none)
    where
      to : G.To (L.Maybe (L.Never ⊙ L.Many (L.Put D.line_or_nil ⊙ L.Never))) (L.Put nil)
      to ts d (inl (us, vs, e, f, s, c, x, y)) = absurd x
      to ts d (inr y) = y

  pub operand : {X : L.Lang} {Y : Lang} → Same X Y → Same (W.Operand i X) (OperandOf Y)
  operand x = group (group (group (x then nest i no_accesses)))

  -- ---- the scope
  type_part : Same (W.TypePart i) (Means (l.type_part i))
  type_part = group (nest i (group (line then tok "is" K.Is refl) then line then path))

  module _ (s : String) (k : Kind) (h : has_text k (codes s) ≡ true) where
    -- a variable alone, or with its type
    bare : Same (W.Tok s) (Lifted (G.Opened (Means (R.tok k) ⋄ Means l.ungrouped)))
    bare = within (G.led_alone _ nil) (G.led_alone_back _ nil)
        (lifted (written (G.alone_back _) (G.alone _) (ungrouped (ungrouped (tok s k h)))))

    typed : Same (W.Tok s ⊙ L.Maybe (W.TypePart i))
        (Lifted (G.Opened ((Means (R.tok k) ⋄ Means (R.maybe (l.type_part i))) ⋄ Means
        l.ungrouped)))
    typed = within (G.led _ nil _) (G.led_back _ nil _)
        (lifted (written (G.alone_back _) (G.alone _)
        (ungrouped (ungrouped (tok s k h then maybe type_part)))))

  -- one that is compared
  compared : {X Y : L.Lang} {V Z : Lang} (op : String) (k : Kind) → has_text k (codes op) ≡ true
      → Same X V → Same Y Z
      → Same (W.Compared i X op Y) (Lifted (G.Opened (V ⋄ ComparedOf k Z)))
  compared op k h x y = written (G.lifted_into _ _ (G.grouped_back _ _ _))
      (G.lifted_into _ _ (G.grouped _ _ _))
      (led_group (group (x then line then tok op k h) then nest i (line then y)))

  pub scoped : (v slot : String) (k s : Kind) → has_text k (codes v) ≡ true
      → has_text s (codes slot) ≡ true
      → Same (W.Scoped i v slot) (Means (l.scoped i k s))
  scoped v slot k s h j = written (G.typed_back _ _ _ _ _) (G.typed _ _ _ _ _)
      (typed v k h or compared "==" K.Equal refl (tok v k h) (operand (tok slot s j or entity))
      or compared "in" K.In refl (tok v k h then maybe type_part)
      (operand (tok slot s j or entity)))

  pub action : Same (W.Action i) (Means (l.action i))
  action = written (G.untyped_back _ _ _ _) (G.untyped _ _ _ _)
      (bare "action" K.Action refl or compared "==" K.Equal refl (tok "action" K.Action refl)
      (operand entity)
      or compared "in" K.In refl (tok "action" K.Action refl) (operand (entity
      or tok "[" K.LBracket refl then nest (pos 1) (maybe (items (operand entity))) then tok "]"
      K.RBracket refl)))

  variables : (m : Mark) (d : Doc) → AreMarks (m ∷ []) d
      → Same (W.Variables i d) (Means (l.variables i m))
  variables m d h = scoped "principal" "?principal" K.Principal K.PrincipalSlot refl refl
      then tok_then "," K.Comma (m ∷ []) d h refl then action then tok_then "," K.Comma (m ∷ []) d h
      refl
      then scoped "resource" "?resource" K.Resource K.ResourceSlot refl refl

  pub bare_scope : Same (L.Group (L.Nested i (W.Variables i space))) (Means (l.bare_scope i))
  bare_scope = within to from (enclosed (begin ∷ M.nest i ∷ []) (end_nest ∷ end_group ∷ [])
      (λ d. D.group (D.nest i d)) marks
      (variables M.space space (a_text _)))
    where
      marks : (ms : List Mark) (d : Doc) → AreMarks ms d
          → AreMarks (begin ∷ M.nest i ∷ (ms ++ (end_nest ∷ end_group ∷ []))) (D.group (D.nest i d))
      marks ms d h = subst (λ z. AreMarks (begin ∷ M.nest i ∷ z) (D.group (D.nest i d)))
          (append_assoc ms (end_nest ∷ []) (end_group ∷ []))
          (a_group (M.nest i ∷ (ms ++ (end_nest ∷ []))) (D.nest i d) (a_nest i ms d h))

      to : G.To (L.Group (L.Nested i (W.Variables i space)))
          (L.Mapped (λ d. D.group (D.nest i d)) (W.Variables i space))
      to ts d (e, c, (f, h, x)) = (f, c ∙ ap D.group h, x)

      from : G.To (L.Mapped (λ d. D.group (D.nest i d)) (W.Variables i space))
          (L.Group (L.Nested i (W.Variables i space)))
      from ts d (e, c, x) = (D.nest i e, c, (e, refl, x))

  pub broken_scope : Same (L.Nested i (L.Put D.hard ⊙ W.Variables i D.hard) ⊙ L.Put D.hard)
      (Means (l.broken_scope i))
  broken_scope = within to from (enclosed (M.nest i ∷ M.hard ∷ []) (end_nest ∷ M.hard ∷ [])
      (λ d. D.nest i (D.hard · d) · D.hard) marks
      (variables M.hard D.hard a_hard))
    where
      marks : (ms : List Mark) (d : Doc) → AreMarks ms d
          → AreMarks (M.nest i ∷ M.hard ∷ (ms ++ (end_nest ∷ M.hard ∷ [])))
          (D.nest i (D.hard · d) · D.hard)
      marks ms d h = subst (λ z. AreMarks (M.nest i ∷ M.hard ∷ z) (D.nest i (D.hard · d) · D.hard))
          (append_assoc ms (end_nest ∷ []) (M.hard ∷ []))
          (both (M.nest i ∷ ((M.hard ∷ ms) ++ (end_nest ∷ []))) (M.hard ∷ [])
          (D.nest i (D.hard · d)) D.hard
          (a_nest i (M.hard ∷ ms) (D.hard · d) (both (M.hard ∷ []) ms D.hard d a_hard h)) a_hard)

      to : G.To (L.Nested i (L.Put D.hard ⊙ W.Variables i D.hard) ⊙ L.Put D.hard)
          (L.Mapped (λ d. D.nest i (D.hard · d) · D.hard) (W.Variables i D.hard))
      to ts d (us, vs, e, f, s, c, (e', c', (us2, vs2, e2, f2, s2, c2, (p, q), x)), (p', q')) = (
        f2,
        c ∙ (ap (λ z. z · f) (c' ∙ ap (D.nest i) (c2 ∙ ap (λ z. z · f2) q))
            ∙ ap (λ z. D.nest i (D.hard · f2) · z) q'),
        subst (λ z. W.Variables i D.hard z f2)
            (sym (s ∙ (ap (λ z. us ++ z) p' ∙ (append-nil us ∙ (s2 ∙ ap (λ z. z ++ vs2) p))))) x,
      )

      from : G.To (L.Mapped (λ d. D.nest i (D.hard · d) · D.hard) (W.Variables i D.hard))
          (L.Nested i (L.Put D.hard ⊙ W.Variables i D.hard) ⊙ L.Put D.hard)
      from ts d (e, c, x) = (
        ts,
        [],
        D.nest i (D.hard · e),
        D.hard,
        sym (append-nil ts),
        c,
        (D.hard · e, refl, ([], ts, D.hard, e, refl, refl, (refl, refl), x)),
        (refl, refl),
      )

  -- ---- expressions
  -- an opening token, alone or in a group
  opening : {X : L.Lang} {Y : Lang} → Same X Y → Same (λ ts d. IsTrue room
      × X ts d) (Deeper room (Put [] ⋄ Y))
  opening {X} {Y} x = with_room room (written off on x)
    where
      off : G.Into (Put [] ⋄ Y) Y
      off ts ms (us, vs, e, f, s, c, (p, q), y) =
          subst (λ z. Y z ms) (sym (s ∙ ap (λ z. z ++ vs) p))
          (subst (λ z. Y vs z) (sym (c ∙ ap (λ z. z ++ f) q)) y)

      on : G.Into Y (Put [] ⋄ Y)
      on ts ms y = ([], ts, [], ms, refl, refl, (refl, refl), y)

  group_opening : {T X : L.Lang} {Y Z : Lang} → Same T Y → Same X Z
      → Same (λ ts d. IsTrue room × L.Group (T ⊙ X) ts d)
      (Deeper room (Put (begin ∷ []) ⋄ Y ⋄ Z ⋄ Put (end_group ∷ [])))
  group_opening t x = with_room room (written (G.second _ _ _ (G.unassoc _ _ _))
      (G.second _ _ _ (G.assoc _ _ _)) (group (t then x)))

  pub call : Same (W.Call i room Rows) (Means (l.call i))
  call = opening (tok "(" K.LParen refl
      then maybe (nest i (line_or_nil then items inner) then line_or_nil) then tok ")" K.RParen
      refl)

  pub init : Same (W.Init i room Rows) (Means (l.init i))
  init = (ident or str) then tok ":" K.Colon refl then blank then inner

  pub parens : Same (W.Deeper i room Rows (L.Group (W.Tok "(" ⊙ L.Nested (pos 1) Rows ⊙ W.Tok ")")))
      (Means (l.parens i))
  parens = group_opening (tok "(" K.LParen refl) (nest (pos 1) inner then tok ")" K.RParen refl)

  pub list : Same (W.Deeper i room Rows (W.Tok "[" ⊙ L.Nested (pos 1) (L.Maybe (W.Items Rows)) ⊙ W.Tok
      "]")) (Means (l.list i))
  list = opening (tok "[" K.LBracket refl then nest (pos 1) (maybe (items inner)) then tok "]"
      K.RBracket refl)

  pub fields : Same (W.Deeper i room Rows (W.Tok "{"
      ⊙ L.Maybe (L.Nested i (L.Group (L.Put D.line ⊙ W.Items (W.Init i room Rows) ⊙ L.Put D.line)))
      ⊙ W.Tok "}")) (Means (l.fields i))
  fields = opening (tok "{" K.LBrace refl then maybe (nest i
      (group (line then items init then line)))
      then tok "}" K.RBrace refl)

  pub access : Same (W.Access i room Rows) (Means (l.access i))
  access = field then maybe call or tok "[" K.LBracket refl then str then tok "]" K.RBracket refl

  pub member : Same (W.Member i room Rows) (Means (l.member i))
  member = within (G.members _ _ _ _ _ _ _ _ _ _ _ _ _) (G.members_back _ _ _ _ _ _ _ _ _ _ _ _ _)
      (group (written (G.words_back _ _ _) (G.words _ _ _)
      (((word "true" K.True refl either word "false" K.False refl).same or number or str or parens
      or list or fields)
      then accesses access
      or (as_set is_variable refl refl (word "principal" K.Principal refl either word "action"
      K.Action refl either word "resource" K.Resource refl
      either word "context" K.Context refl)).same then accesses access
      or ident then many (colons then ident) then (colons then str then accesses access
      or nest i (call then many (line_or_nil then access))))))

  pub unary : Same (W.Unary i room Rows) (Means (l.unary i))
  unary = maybe (signs "!" K.Neg refl or signs "-" K.Dash refl) then member

  pub mult : Same (W.Mult i room Rows) (Means (l.mult i))
  mult = group (unary then many (blank then tok "*" K.Mul refl then line then unary))

  pub add : Same (W.Add i room Rows) (Means (l.add i))
  add = group (mult then many (blank then (word "+" K.Add refl either word "-" K.Dash refl).same
      then line then mult))

  pub relation : Same (W.Relation i room Rows) (Means (l.relation i))
  relation = within (G.relations _ _ _ _ _) (G.relations_back _ _ _ _ _)
      (G.late add (line then tok "has" K.Has refl then line then nest i
      (operand str or group (group (accessed ident field)))
      or line then tok "like" K.Like refl then line then nest i (operand str)
      or blank then tok "is" K.Is refl then blank then nest i path
      then maybe (line then tok "in" K.In refl then blank then nest i add))
      (maybe (blank then relop then blank then add)))

  pub and : Same (W.And i room Rows) (Means (l.and i))
  and = relation then many (blank then tok_then "&&" K.And _ D.line a_line refl then relation)

  pub or_chain : Same (W.Or i room Rows) (Means (l.or i))
  or_chain = and then many (blank then tok_then "||" K.Or _ D.line a_line refl then and)

  below : Same (W.Below i room Rows) (Means (l.below i))
  below = nest i (line then inner)

  pub expr_in : Same (W.ExprIn i room Rows) (Means (l.expr i))
  expr_in = group_opening (tok "if" K.If refl) (below then line then tok "then" K.Then refl then
      below
      then line then tok "else" K.Else refl then below) or or_chain

pub expr : (i : ℤ) (n : ℕ) → Same (W.Expr i n) (Expr i n)
expr i zero = expr_in i false never
expr i (suc n) = expr_in i true (expr i n)

-- ---- conditions
module _ (i : ℤ) (n : ℕ) where
  abbrev Meaning : R.Rule → Lang
  Meaning r = means true (Expr i n) r

  -- the marks of a block, as its tokens write them and as they are those of its document
  block_marks : (a : List Mark) (x : Mark) (t e r : List Mark)
      → (a ++ (x ∷ begin ∷ M.nest i ∷ t)) ++ (e ++ (end_nest ∷ M.line ∷ (r ++ (end_group ∷ []))))
      ≡ a ++ (x ∷ begin ∷ (((M.nest i ∷ ((t ++ e) ++ (end_nest ∷ []))) ++ (M.line ∷ r)) ++
      (end_group ∷ [])))
  block_marks a x t e r =
      append_assoc a (x ∷ begin ∷ M.nest i ∷ t) (e ++ (end_nest ∷ M.line ∷ (r ++ (end_group ∷ []))))
      ∙ ap (λ z. a ++ (x ∷ begin ∷ M.nest i ∷ z))
      (sym (append_assoc t e (end_nest ∷ M.line ∷ (r ++ (end_group ∷ []))))
      ∙ (sym (append_assoc (t ++ e) (end_nest ∷ []) (M.line ∷ (r ++ (end_group ∷ []))))
      ∙ sym (append_assoc ((t ++ e) ++ (end_nest ∷ [])) (M.line ∷ r) (end_group ∷ []))))

  -- the document of a block
  abbrev BlockDoc : Decorated → Decorated → Doc → Doc
  BlockDoc b c e = T.lead b · T.tok b · D.group (D.nest i (T.trail b D.line · e) · D.line · T.C c
      nil)

  block_document : (b c : Decorated) (em : List Mark) (e : Doc) → AreMarks em e
      → AreMarks (M.marks_of b (begin ∷ M.nest i ∷ []) (M.line ∷ [])
      ++ (em ++ (end_nest ∷ M.line ∷ (M.marks_of c [] [] ++ (end_group ∷ [])))))
      (BlockDoc b c e)
  block_document b c em e h =
      let t = M.trail_of b.trailing (M.line ∷ []) in
      let r = M.marks_of c [] [] in
      subst (λ z. AreMarks z (BlockDoc b c e))
      (sym (block_marks (M.lead_of b.leading) (M.text (token_value b.text)) t em r))
      (both (M.lead_of b.leading) _ (T.lead b) _ (lead_marks b.leading)
      (both (M.text (token_value b.text) ∷ []) _ (T.tok b) _ (a_text _)
      (a_group ((M.nest i ∷ ((t ++ em) ++ (end_nest ∷ []))) ++ (M.line ∷ r)) _
      (both (M.nest i ∷ ((t ++ em) ++ (end_nest ∷ []))) (M.line ∷ r)
      (D.nest i (T.trail b D.line · e)) _
      (a_nest i (t ++ em) _ (both t em (T.trail b D.line) e
      (trail_marks b.trailing (M.line ∷ []) D.line a_line) h))
      (both (M.line ∷ []) r D.line _ a_line (token_marks c [] nil none))))))

  block : Same (W.Block i n) (Meaning (l.block i))
  block = record { there = there; back = back }
    where
      there : (ts : List Decorated) (d : Doc) → W.Block i n ts d
          → (ms : List Mark) × AreMarks ms d × Meaning (l.block i) ts ms
      there ts d (b, c, us, e, s, p, y, q, h) =
          let a = (led_group (expr i n)).there us e y in (
            M.marks_of b (begin ∷ M.nest i ∷ []) (M.line ∷ [])
                ++ (a.0 ++ (end_nest ∷ M.line ∷ (M.marks_of c [] [] ++ (end_group ∷ [])))),
            subst (AreMarks _) (sym h) (block_document b c a.0 e a.1),
            (
              b ∷ [],
              us ++ (c ∷ []),
              _,
              _,
              s,
              refl,
              (b, refl, refl, kind_is "{" K.LBrace refl b.text p),
              (
                us,
                c ∷ [],
                a.0,
                _,
                refl,
                refl,
                a.2,
                (
                  [],
                  c ∷ [],
                  end_nest ∷ [],
                  _,
                  refl,
                  refl,
                  (refl, refl),
                  (
                    [],
                    c ∷ [],
                    M.line ∷ [],
                    _,
                    refl,
                    refl,
                    (refl, refl),
                    (
                      c ∷ [],
                      [],
                      M.marks_of c [] [],
                      end_group ∷ [],
                      refl,
                      refl,
                      (c, refl, refl, kind_is "}" K.RBrace refl c.text q),
                      (refl, refl),
                    ),
                  ),
                ),
              ),
            ),
          )

      back : (ts : List Decorated) (ms : List Mark) → Tokens ts → Meaning (l.block i) ts ms
          → (d : Doc) × AreMarks ms d × W.Block i n ts d
      back ts ms k (
        u0,
        v0,
        e0,
        f0,
        s0,
        c0,
        (b, bs, bm, bk),
        (
          us,
          v1,
          e1,
          f1,
          s1,
          c1,
          y,
          (
            u2,
            v2,
            e2,
            f2,
            s2,
            c2,
            (p2, q2),
            (u3, v3, e3, f3, s3, c3, (p3, q3), (u4, v4, e4, f4, s4, c4, (c, cs, cm, ck), (p5, q5))),
          ),
        ),
      ) =
          let split : ts ≡ b ∷ (us ++ (c ∷ [])) = s0 ∙ (ap (λ z. z ++ v0) bs
          ∙ ap (λ z. b ∷ z) (s1 ∙ ap (λ z. us ++ z)
          (s2 ∙ (ap (λ z. z ++ v2) p2 ∙ (s3 ∙ (ap (λ z. z ++ v3) p3
          ∙ (s4 ∙ (ap (λ z. z ++ v4) cs ∙ ap (λ z. c ∷ z) p5)))))))) in
          let marks : ms ≡ M.marks_of b (begin ∷ M.nest i ∷ []) (M.line ∷ [])
          ++ (e1 ++ (end_nest ∷ M.line ∷ (M.marks_of c [] [] ++ (end_group ∷ [])))) = c0
          ∙ (ap (λ z. z ++ f0) bm
          ∙ ap (λ z. M.marks_of b (begin ∷ M.nest i ∷ []) (M.line ∷ []) ++ z) (c1
          ∙ ap (λ z. e1 ++ z)
          (c2 ∙ (ap (λ z. z ++ f2) q2 ∙ ap (λ z. end_nest ∷ z) (c3
          ∙ (ap (λ z. z ++ f3) q3 ∙ ap (λ z. M.line ∷ z)
          (c4 ∙ (ap (λ z. z ++ f4) cm ∙ ap (λ z. M.marks_of c [] [] ++ z) q5)))))))) in
          let all = subst Tokens split k in
          let parts = tokens_parts us (c ∷ []) all.1 in
          let a = (led_group (expr i n)).back us e1 parts.0 y in (
            BlockDoc b c a.0,
            subst (λ z. AreMarks z (BlockDoc b c a.0)) (sym marks) (block_document b c e1 a.0 a.1),
            (
              b,
              c,
              us,
              a.0,
              split,
              text_is "{" K.LBrace refl b.text bk,
              a.2,
              text_is "}" K.RBrace refl c.text ck,
              refl {a = BlockDoc b c a.0},
            ),
          )

  pub cond : Same (W.Cond i n) (Meaning (l.cond i))
  cond = led_group ((word_then "when" K.When (M.line ∷ []) D.line a_line refl either word_then
      "unless" K.Unless (M.line ∷ []) D.line a_line refl).same then block)
