-- The grammar over kinds of tokens, as the parser reads it: line by line that over texts, by the law `grammars_agree`.
use Rattle.std.specs.Prelude.{◌≡◌, ℕ, zero, suc, Bool, true, false, ◌||◌, IsTrue, List}
use Rattle.cedar_tokens.specs.declared.kind.Kind.{Kind}
use Rattle.cedar_tokens.specs.Kinds.{is, is_any_word, is_ident, is_comparison, is_boolean, is_variable, is_effect, is_cond_word}
use Rattle.cedar_grammar.specs.Trees.{Label, Forest, yield}
use Rattle.cedar_grammar.specs.Languages.{Lang, ◌⋄◌, ◌∪◌, Many, Maybe, Branch, Never, Of}

module _ {A : Type 0} (kind : A → Kind) where
  -- a token of that kind
  abbrev pub One : Kind → Lang A
  One k = Of kind (is k)

  -- a word whose kind is in the set
  abbrev pub Word : (Kind → Bool) → Lang A
  Word p = Branch Label.ident (Of kind p)

  -- IDENT
  abbrev pub Ident : Lang A
  Ident = Word is_ident

  -- STR
  abbrev pub STR : Lang A
  STR = Branch Label.str (One Kind.Str)

  -- X {',' X} [',']
  abbrev pub Items : Lang A → Lang A
  Items X = X ⋄ Many (One Kind.Comma ⋄ X) ⋄ Maybe (One Kind.Comma)

  -- Path = IDENT {'::' IDENT}
  abbrev pub Path : Lang A
  Path = Branch Label.name (Ident ⋄ Many (One Kind.DoubleColon ⋄ Ident))

  -- Entity = Path '::' STR
  abbrev pub Entity : Lang A
  Entity = Branch Label.primary (Branch Label.ref (Path ⋄ One Kind.DoubleColon ⋄ STR))

  -- an operand that is X alone, without operators and signs
  abbrev pub Operand : Lang A → Lang A
  Operand X = Branch Label.add (Branch Label.mult (Branch Label.unary (Branch Label.member X)))

  -- Entity | '?principal', or with '?resource'
  abbrev pub EntityOr : Kind → Lang A
  EntityOr slot = Operand (Branch Label.primary (Branch Label.slot (One slot)) ∪ Entity)

  -- variable [ '==' PE | 'is' Path ['in' PE] | 'in' PE ]
  abbrev pub Scoped : Kind → Kind → Lang A
  Scoped variable slot = Branch Label.variable (Word (is variable)
      ⋄ Maybe (One Kind.Equal ⋄ EntityOr slot ∪ One Kind.Is ⋄ Path ⋄ Maybe (One Kind.In ⋄ EntityOr slot) ∪ One Kind.In ⋄ EntityOr slot))

  -- Principal = 'principal' [ '==' PE | 'is' Path ['in' PE] | 'in' PE ]      PE = Entity | '?principal'
  abbrev pub Principal : Lang A
  Principal = Scoped Kind.Principal Kind.PrincipalSlot

  -- Resource = 'resource' [ '==' RE | 'is' Path ['in' RE] | 'in' RE ]      RE = Entity | '?resource'
  abbrev pub Resource : Lang A
  Resource = Scoped Kind.Resource Kind.ResourceSlot

  -- an entity of an action's list, as an expression
  abbrev pub EntityItem : Lang A
  EntityItem = Branch Label.expr (Branch Label.or (Branch Label.and (Branch Label.relation (Operand Entity))))

  -- Action = 'action' [ '==' Entity | 'in' (Entity | '[' [Entity {',' Entity} [',']] ']') ]
  abbrev pub Action : Lang A
  Action = Branch Label.variable (Word (is Kind.Action) ⋄ Maybe (One Kind.Equal ⋄ Operand Entity
      ∪ One Kind.In ⋄ (Operand (Branch Label.primary (Branch Label.list (One Kind.LBracket ⋄ Maybe (Items EntityItem) ⋄ One Kind.RBracket))) ∪ Operand Entity)))

  -- Annotation = '@' anyword ['(' STR ')']
  abbrev pub Annotation : Lang A
  Annotation = Branch Label.annotation (One Kind.At ⋄ Word is_any_word ⋄ Maybe (One Kind.LParen ⋄ STR ⋄ One Kind.RParen))

  -- one to four of these signs
  abbrev pub Signs : Kind → Lang A
  Signs k = One k ⋄ Maybe (One k ⋄ Maybe (One k ⋄ Maybe (One k)))

  -- '.' IDENT
  abbrev pub Field : Lang A
  Field = Branch Label.access (One Kind.Dot ⋄ Ident)

  -- IDENT {'.' IDENT}
  abbrev pub HasField : Lang A
  HasField = Operand (Branch Label.primary (Branch Label.name Ident) ⋄ Many Field)

  -- STR as an operand
  abbrev pub StrOperand : Lang A
  StrOperand = Operand (Branch Label.primary (Branch Label.string (One Kind.Str)))

  -- Expressions: room says whether an if or a bracket is allowed here, and Inner is what may be inside it.
  module _ (room : Bool) (Inner : Lang A) where
    -- an if or an opening bracket and what follows it: each costs one level of nesting
    abbrev pub Deeper : Kind → Lang A → Lang A
    Deeper opening X f = IsTrue room × (One opening ⋄ X) f

    -- Exprs = Expr {',' Expr} [',']
    abbrev pub Exprs : Lang A
    Exprs = Items Inner

    -- '(' [Exprs] ')' after a path or a field
    abbrev pub Call : Lang A
    Call = Branch Label.access (Deeper Kind.LParen (Maybe Exprs ⋄ One Kind.RParen))

    -- Init = (IDENT | STR) ':' Expr
    abbrev pub Init : Lang A
    Init = Branch Label.rec_init ((Branch Label.primary (Branch Label.name Ident) ∪ Branch Label.primary (Branch Label.string (One Kind.Str))) ⋄ One Kind.Colon ⋄ Inner)

    -- Primary = 'true' | 'false' | NUMBER | STR | '(' Expr ')' | '[' [Exprs] ']' | '{' [Init {',' Init} [',']] '}'
    --         | 'principal' | 'action' | 'resource' | 'context' | Entity | Path '(' [Exprs] ')'
    abbrev pub Primary : Lang A
    Primary = Branch Label.primary (Branch Label.boolean (Of kind is_boolean))
        ∪ Branch Label.primary (Branch Label.number (One Kind.Number))
        ∪ Branch Label.primary (Branch Label.string (One Kind.Str))
        ∪ Branch Label.primary (Branch Label.parens (Deeper Kind.LParen (Inner ⋄ One Kind.RParen)))
        ∪ Branch Label.primary (Branch Label.list (Deeper Kind.LBracket (Maybe Exprs ⋄ One Kind.RBracket)))
        ∪ Branch Label.primary (Branch Label.fields (Deeper Kind.LBrace (Maybe (Items Init) ⋄ One Kind.RBrace)))
        ∪ Branch Label.primary (Branch Label.name (Word is_variable)) ∪ Entity ∪ Branch Label.primary Path ⋄ Call

    -- Access = '.' IDENT ['(' [Exprs] ')'] | '[' STR ']'
    abbrev pub Access : Lang A
    Access = Field ⋄ Maybe Call ∪ Branch Label.access (One Kind.LBracket ⋄ STR ⋄ One Kind.RBracket)

    -- Member = Primary {Access}
    abbrev pub Member : Lang A
    Member = Branch Label.member (Primary ⋄ Many Access)

    -- Unary = [one to four '!', or one to four '-'] Member
    abbrev pub Unary : Lang A
    Unary = Branch Label.unary (Maybe (Signs Kind.Neg ∪ Signs Kind.Dash) ⋄ Member)

    -- Mult = Unary {'*' Unary}
    abbrev pub Mult : Lang A
    Mult = Branch Label.mult (Unary ⋄ Many (One Kind.Mul ⋄ Unary))

    -- Add = Mult {('+'|'-') Mult}
    abbrev pub Add : Lang A
    Add = Branch Label.add (Mult ⋄ Many (Of kind (λ k. is Kind.Add k || is Kind.Dash k) ⋄ Mult))

    -- Relation = Add [relop Add] | Add 'has' (STR | IDENT {'.' IDENT}) | Add 'like' STR | Add 'is' Path ['in' Add]
    -- relop    = '<' | '<=' | '>' | '>=' | '!=' | '==' | 'in'
    abbrev pub Relation : Lang A
    Relation = Branch Label.relation (Add ⋄ Maybe (Branch Label.compare (Of kind is_comparison ⋄ Add)
        ∪ Branch Label.has_or_like (One Kind.Has ⋄ (StrOperand ∪ HasField))
        ∪ Branch Label.has_or_like (One Kind.Like ⋄ StrOperand)
        ∪ Branch Label.is_type (One Kind.Is ⋄ Path ⋄ Maybe (One Kind.In ⋄ Add))))

    -- And = Relation {'&&' Relation}
    abbrev pub And : Lang A
    And = Branch Label.and (Relation ⋄ Many (One Kind.And ⋄ Relation))

    -- Or = And {'||' And}
    abbrev pub Or : Lang A
    Or = Branch Label.or (And ⋄ Many (One Kind.Or ⋄ And))

    -- Expr = 'if' Expr 'then' Expr 'else' Expr | Or
    abbrev pub ExprIn : Lang A
    ExprIn = Branch Label.expr (Deeper Kind.If (Inner ⋄ One Kind.Then ⋄ Inner ⋄ One Kind.Else ⋄ Inner) ∪ Or)

  -- expressions with at most d ifs and brackets nested in each other
  abbrev pub Expr : ℕ → Lang A
  Expr zero = ExprIn false Never
  Expr (suc d) = ExprIn true (Expr d)

  -- Cond = ('when'|'unless') '{' Expr '}'
  abbrev pub Cond : ℕ → Lang A
  Cond d = Branch Label.condition (Word is_cond_word ⋄ One Kind.LBrace ⋄ Expr d ⋄ One Kind.RBrace)

  -- Policy = {Annotation} ('permit'|'forbid') '(' Principal ',' Action ',' Resource [','] ')' {Cond} ';'
  abbrev pub Policy : ℕ → Lang A
  Policy d = Branch Label.policy (Many Annotation ⋄ Word is_effect
      ⋄ One Kind.LParen ⋄ Principal ⋄ One Kind.Comma ⋄ Action ⋄ One Kind.Comma ⋄ Resource ⋄ Maybe (One Kind.Comma) ⋄ One Kind.RParen
      ⋄ Many (Cond d) ⋄ One Kind.SemiColon)

  -- PolicySet = {Policy}
  abbrev pub PolicySet : ℕ → Lang A
  PolicySet d = Branch Label.policies (Many (Policy d))

  -- the tree stands for the tokens, nested at most d deep
  pub record G (d : ℕ) (tree : Forest Label A) (tokens : List A) : Type 0 where
    pub shape : PolicySet d tree
    pub leaves : yield tree ≡ tokens

  -- the same without a limit
  abbrev pub Unlimited : Forest Label A → List A → Type 0
  Unlimited tree tokens = (d : ℕ) × G d tree tokens
