-- The grammar over texts is the grammar over kinds, line by line.
use Rattle.std.proofs.Common.{◌≡◌, ℕ, zero, suc, Bool, true, false, ◌||◌, List, refl, sym, subst}
use Rattle.std.specs.Prelude.{codes}
use Prim.Native.String.{String}
use Rattle.cedar_tokens.specs.Units.{is_word, is_number, is_string}
use Rattle.cedar_tokens.specs.declared.kind.Kind.{Kind}
use Rattle.cedar_tokens.specs.declared.kind.Kind.TheVariants as K
use Rattle.cedar_tokens.specs.Kinds.{is, is_any_word, is_ident, is_comparison, is_boolean, is_variable, is_effect, is_cond_word}
use Rattle.cedar_grammar.specs.Trees.{Label}
use Rattle.cedar_grammar.specs.Languages.{Lang, ◌∪◌, Of}
use Rattle.cedar_grammar.specs.KindGrammar as G
use Rattle.cedar_tokens.specs.TokenKinds.{kind_of}
use Rattle.cedar_grammar.specs.Grammar as T
use Rattle.cedar_grammar.specs.Laws.{AreTokens, GrammarsAgree, TextsAreTokens}
use Rattle.cedar_grammar.proofs.Texts.Tests.{has_text, number_agrees, string_agrees, any_word_agrees, ident_agrees, number_is_token, string_is_token, word_is_token, ident_is_token}
use Rattle.cedar_grammar.proofs.Texts.Languages.{Same, same_leaf, same_tok, one, ◌either◌, same_set, ◌then◌, ◌or◌, maybe, many, same_branch, same_never, same_room}

module _ {A : Type 0} (text : A → List ℕ) where
  abbrev kind : A → Kind
  kind a = kind_of (text a)

  tok : (s : String) (k : Kind) → has_text k (codes s) ≡ true
      → Same text (T.Tok text s) (G.One kind k)
  tok s k h = same_tok text s k h

  comma : Same text (T.Tok text ",") (G.One kind K.Comma)
  comma = tok "," K.Comma refl

  number : Same text (T.NUMBER text) (G.One kind K.Number)
  number = same_leaf text (is K.Number) is_number number_is_token number_agrees

  literal : Same text (T.Literal text) (G.One kind K.Str)
  literal = same_leaf text (is K.Str) is_string string_is_token string_agrees

  str : Same text (T.STR text) (G.STR kind)
  str = same_branch Label.str literal

  any_word : Same text (T.AnyWord text) (G.Word kind is_any_word)
  any_word =
      same_branch Label.ident (same_leaf text is_any_word is_word word_is_token any_word_agrees)

  ident : Same text (T.Ident text) (G.Ident kind)
  ident =
      same_branch Label.ident (same_leaf text is_ident T.is_identifier ident_is_token ident_agrees)

  items : {X Y : Lang A} → Same text X Y → Same text (T.Items text X) (G.Items kind Y)
  items s = s then many (comma then s) then maybe comma

  path : Same text (T.Path text) (G.Path kind)
  path = same_branch Label.name (ident then many (tok "::" K.DoubleColon refl then ident))

  entity : Same text (T.Entity text) (G.Entity kind)
  entity = same_branch Label.primary
      (same_branch Label.ref (path then tok "::" K.DoubleColon refl then str))

  operand : {X Y : Lang A} → Same text X Y → Same text (T.Operand text X) (G.Operand kind Y)
  operand s = same_branch Label.add
      (same_branch Label.mult (same_branch Label.unary (same_branch Label.member s)))

  -- ---- scopes and annotations

  entity_or : (s : String) (k : Kind) → has_text k (codes s) ≡ true
      → Same text (T.EntityOr text s) (G.EntityOr kind k)
  entity_or s k h =
      operand (same_branch Label.primary (same_branch Label.slot (tok s k h)) or entity)

  scoped : (v : String) (k : Kind) → has_text k (codes v) ≡ true → (s : String) (l : Kind)
      → has_text l (codes s) ≡ true → Same text (T.Scoped text v s) (G.Scoped kind k l)
  scoped v k h s l i = same_branch Label.variable (same_branch Label.ident (tok v k h)
      then maybe
      (tok "==" K.Equal refl then entity_or s l i or tok "is" K.Is refl then path then maybe
      (tok "in" K.In refl then entity_or s l i) or tok "in" K.In refl then entity_or s l i))

  principal : Same text (T.Principal text) (G.Principal kind)
  principal = scoped "principal" K.Principal refl "?principal" K.PrincipalSlot refl

  resource : Same text (T.Resource text) (G.Resource kind)
  resource = scoped "resource" K.Resource refl "?resource" K.ResourceSlot refl

  entity_item : Same text (T.EntityItem text) (G.EntityItem kind)
  entity_item = same_branch Label.expr
      (same_branch Label.or (same_branch Label.and (same_branch Label.relation (operand entity))))

  action : Same text (T.Action text) (G.Action kind)
  action = same_branch Label.variable (same_branch Label.ident (tok "action" K.Action refl)
      then maybe (tok "==" K.Equal refl then operand entity
      or tok "in" K.In refl
      then (operand (same_branch Label.primary (same_branch Label.list (tok "[" K.LBracket refl
      then maybe (items entity_item) then tok "]" K.RBracket refl))) or operand entity)))

  annotation : Same text (T.Annotation text) (G.Annotation kind)
  annotation = same_branch Label.annotation (tok "@" K.At refl then any_word
      then maybe (tok "(" K.LParen refl then str then tok ")" K.RParen refl))

  -- ---- expressions

  signs : (s : String) (k : Kind) → has_text k (codes s) ≡ true
      → Same text (T.Signs text s) (G.Signs kind k)
  signs s k h = let t = tok s k h in t then maybe (t then maybe (t then maybe t))

  field : Same text (T.Field text) (G.Field kind)
  field = same_branch Label.access (tok "." K.Dot refl then ident)

  has_field : Same text (T.HasField text) (G.HasField kind)
  has_field = operand (same_branch Label.primary (same_branch Label.name ident) then many field)

  str_operand : Same text (T.StrOperand text) (G.StrOperand kind)
  str_operand = operand (same_branch Label.primary (same_branch Label.string literal))

  boolean : Same text (T.Tok text "true" ∪ T.Tok text "false") (Of kind is_boolean)
  boolean = same_set
      (one text "true" K.True refl either one text "false" K.False refl) is_boolean refl refl

  variable : Same text (T.Tok text "principal" ∪ T.Tok text "action" ∪ T.Tok text "resource"
      ∪ T.Tok text "context") (Of kind is_variable)
  variable = same_set
      (one text "principal" K.Principal refl either one text "action" K.Action refl either one text
      "resource" K.Resource refl either one text "context" K.Context refl) is_variable refl refl

  sum_sign : Same text (T.Tok text "+" ∪ T.Tok text "-") (Of kind (λ k. is K.Add k || is K.Dash k))
  sum_sign = same_set (one text "+" K.Add refl either one text "-" K.Dash refl)
      (λ k. is K.Add k || is K.Dash k) refl refl

  relop : Same text (T.Relop text) (Of kind is_comparison)
  relop = same_set (one text "<" K.Lt refl either one text "<=" K.Le refl either one text ">" K.Gt
      refl either one text ">=" K.Ge refl either one text "!=" K.NotEqual refl either one text "=="
      K.Equal refl either one text "in" K.In refl) is_comparison refl refl

  module _ (room : Bool) (X Y : Lang A) (inner : Same text X Y) where
    deeper : {X' Y' : Lang A} (s : String) (k : Kind) → has_text k (codes s) ≡ true
        → Same text X' Y' → Same text (T.Deeper text room X s X') (G.Deeper kind room Y k Y')
    deeper s k h x = same_room room (tok s k h then x)

    call : Same text (T.Call text room X) (G.Call kind room Y)
    call = same_branch Label.access
        (deeper "(" K.LParen refl (maybe (items inner) then tok ")" K.RParen refl))

    init : Same text (T.Init text room X) (G.Init kind room Y)
    init = same_branch Label.rec_init
        ((same_branch Label.primary (same_branch Label.name ident) or same_branch Label.primary
        (same_branch Label.string literal)) then tok ":" K.Colon refl then inner)

    primary : Same text (T.Primary text room X) (G.Primary kind room Y)
    primary = same_branch Label.primary (same_branch Label.boolean boolean)
        or same_branch Label.primary (same_branch Label.number number)
        or same_branch Label.primary (same_branch Label.string literal)
        or same_branch Label.primary
        (same_branch Label.parens (deeper "(" K.LParen refl (inner then tok ")" K.RParen refl)))
        or same_branch Label.primary (same_branch Label.list
        (deeper "[" K.LBracket refl (maybe (items inner) then tok "]" K.RBracket refl)))
        or same_branch Label.primary (same_branch Label.fields
        (deeper "{" K.LBrace refl (maybe (items init) then tok "}" K.RBrace refl)))
        or same_branch Label.primary (same_branch Label.name (same_branch Label.ident variable)) or
        entity or same_branch Label.primary path then call

    access : Same text (T.Access text room X) (G.Access kind room Y)
    access = field then maybe call or same_branch Label.access
        (tok "[" K.LBracket refl then str then tok "]" K.RBracket refl)

    member : Same text (T.Member text room X) (G.Member kind room Y)
    member = same_branch Label.member (primary then many access)

    unary : Same text (T.Unary text room X) (G.Unary kind room Y)
    unary =
        same_branch Label.unary (maybe (signs "!" K.Neg refl or signs "-" K.Dash refl) then member)

    mult : Same text (T.Mult text room X) (G.Mult kind room Y)
    mult = same_branch Label.mult (unary then many (tok "*" K.Mul refl then unary))

    add : Same text (T.Add text room X) (G.Add kind room Y)
    add = same_branch Label.add (mult then many (sum_sign then mult))

    relation : Same text (T.Relation text room X) (G.Relation kind room Y)
    relation =
        same_branch Label.relation (add then maybe (same_branch Label.compare (relop then add)
        or same_branch Label.has_or_like (tok "has" K.Has refl then (str_operand or has_field))
        or same_branch Label.has_or_like (tok "like" K.Like refl then str_operand)
        or same_branch Label.is_type
        (tok "is" K.Is refl then path then maybe (tok "in" K.In refl then add))))

    and : Same text (T.And text room X) (G.And kind room Y)
    and = same_branch Label.and (relation then many (tok "&&" K.And refl then relation))

    or_chain : Same text (T.Or text room X) (G.Or kind room Y)
    or_chain = same_branch Label.or (and then many (tok "||" K.Or refl then and))

    expr_in : Same text (T.ExprIn text room X) (G.ExprIn kind room Y)
    expr_in = same_branch Label.expr (deeper "if" K.If refl (inner then tok "then" K.Then refl
        then inner then tok "else" K.Else refl then inner) or or_chain)

  expr : (d : ℕ) → Same text (T.Expr text d) (G.Expr kind d)
  expr zero = expr_in false _ _ same_never
  expr (suc d) = expr_in true _ _ (expr d)

  -- ---- policies

  cond_word : Same text (T.Tok text "when" ∪ T.Tok text "unless") (Of kind is_cond_word)
  cond_word = same_set
      (one text "when" K.When refl either one text "unless" K.Unless refl) is_cond_word refl refl

  effect : Same text (T.Tok text "permit" ∪ T.Tok text "forbid") (Of kind is_effect)
  effect = same_set
      (one text "permit" K.Permit refl either one text "forbid" K.Forbid refl) is_effect refl refl

  condition : (d : ℕ) → Same text (T.Cond text d) (G.Cond kind d)
  condition d = same_branch Label.condition (same_branch Label.ident cond_word
      then tok "{" K.LBrace refl then expr d then tok "}" K.RBrace refl)

  policy : (d : ℕ) → Same text (T.Policy text d) (G.Policy kind d)
  policy d = same_branch Label.policy (many annotation then same_branch Label.ident effect
      then tok "(" K.LParen refl then principal then comma then action then comma then resource
      then maybe comma then tok ")" K.RParen refl
      then many (condition d) then tok ";" K.SemiColon refl)

  policies : (d : ℕ) → Same text (T.PolicySet text d) (G.PolicySet kind d)
  policies d = same_branch Label.policies (many (policy d))

  pub grammars_agree : GrammarsAgree text
  grammars_agree d ts f all = (
    λ g. record { shape = (policies d).kinds f g.shape; leaves = g.leaves },
    λ g. record {
      shape = (policies d).texts f (subst (AreTokens text) (sym g.leaves) all) g.shape;
      leaves = g.leaves;
    },
  )

  pub texts_are_tokens : TextsAreTokens text
  texts_are_tokens d ts f g = subst (AreTokens text) g.leaves ((policies d).tokens f g.shape)
