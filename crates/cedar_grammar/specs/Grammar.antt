-- The grammar over the texts of tokens: a definition for each line of the written grammar, which is quoted above it.
-- In a written line {X} is any number of X, [X] is one or none, and a quoted sign is the token with this text.
-- A token is a leaf; every other part is a tree with a label. A path that is called is a name followed by an access.
use Rattle.std.specs.Prelude.{◌≡◌, ℕ, zero, suc, Bool, true, false, ◌&&◌, not, IsTrue, List, [], ◌∷◌, codes}
use Prim.Native.String.{String}
use Rattle.cedar_tokens.specs.Units.{is_word, is_number, is_string, is_one_of}
use Rattle.cedar_grammar.specs.Trees.{Label, Forest, none, leaf, yield}
use Rattle.cedar_grammar.specs.Languages.{Lang, ◌⋄◌, ◌∪◌, Many, Maybe, Branch, Never}

-- true false if then else in is like has
abbrev pub reserved : List (List ℕ)
reserved = codes "true" ∷ codes "false" ∷ codes "if" ∷ codes "then" ∷ codes "else"
    ∷ codes "in" ∷ codes "is" ∷ codes "like" ∷ codes "has" ∷ []

-- a word that is none of them
abbrev pub is_identifier : List ℕ → Bool
is_identifier t = is_word t && not (is_one_of reserved t)

module _ {A : Type 0} (text : A → List ℕ) where
  -- a token whose text satisfies this
  abbrev pub Leaf : (List ℕ → Type 0) → Lang A
  Leaf P f = (a : A) × (f ≡ leaf a none) × P (text a)

  -- the token with this text
  abbrev pub Tok : String → Lang A
  Tok s = Leaf (λ t. t ≡ codes s)

  -- NUMBER
  abbrev pub NUMBER : Lang A
  NUMBER = Leaf (λ t. IsTrue (is_number t))

  -- STR, as a literal and elsewhere
  abbrev pub Literal : Lang A
  Literal = Leaf (λ t. IsTrue (is_string t))

  abbrev pub STR : Lang A
  STR = Branch Label.str Literal

  -- every word
  abbrev pub AnyWord : Lang A
  AnyWord = Branch Label.ident (Leaf (λ t. IsTrue (is_word t)))

  -- IDENT = every word but true false if then else in is like has
  abbrev pub Ident : Lang A
  Ident = Branch Label.ident (Leaf (λ t. IsTrue (is_identifier t)))

  -- X {',' X} [',']
  abbrev pub Items : Lang A → Lang A
  Items X = X ⋄ Many (Tok "," ⋄ X) ⋄ Maybe (Tok ",")

  -- Path = IDENT {'::' IDENT}
  abbrev pub Path : Lang A
  Path = Branch Label.name (Ident ⋄ Many (Tok "::" ⋄ Ident))

  -- Entity = Path '::' STR
  abbrev pub Entity : Lang A
  Entity = Branch Label.primary (Branch Label.ref (Path ⋄ Tok "::" ⋄ STR))

  -- an operand that is X alone, without operators and signs
  abbrev pub Operand : Lang A → Lang A
  Operand X = Branch Label.add (Branch Label.mult (Branch Label.unary (Branch Label.member X)))

  -- Entity | slot
  abbrev pub EntityOr : String → Lang A
  EntityOr slot = Operand (Branch Label.primary (Branch Label.slot (Tok slot)) ∪ Entity)

  -- variable [ '==' PE | 'is' Path ['in' PE] | 'in' PE ]      PE = Entity | slot
  abbrev pub Scoped : String → String → Lang A
  Scoped variable slot = Branch Label.variable (Branch Label.ident (Tok variable)
      ⋄ Maybe (Tok "==" ⋄ EntityOr slot ∪ Tok "is" ⋄ Path ⋄ Maybe (Tok "in" ⋄ EntityOr slot) ∪ Tok "in" ⋄ EntityOr slot))

  -- Principal = 'principal' [ '==' PE | 'is' Path ['in' PE] | 'in' PE ]      PE = Entity | '?principal'
  abbrev pub Principal : Lang A
  Principal = Scoped "principal" "?principal"

  -- Resource = 'resource' [ '==' RE | 'is' Path ['in' RE] | 'in' RE ]      RE = Entity | '?resource'
  abbrev pub Resource : Lang A
  Resource = Scoped "resource" "?resource"

  -- Entity as an expression
  abbrev pub EntityItem : Lang A
  EntityItem = Branch Label.expr (Branch Label.or (Branch Label.and (Branch Label.relation (Operand Entity))))

  -- Action = 'action' [ '==' Entity | 'in' (Entity | '[' [Entity {',' Entity} [',']] ']') ]
  abbrev pub Action : Lang A
  Action = Branch Label.variable (Branch Label.ident (Tok "action") ⋄ Maybe (Tok "==" ⋄ Operand Entity
      ∪ Tok "in" ⋄ (Operand (Branch Label.primary (Branch Label.list (Tok "[" ⋄ Maybe (Items EntityItem) ⋄ Tok "]"))) ∪ Operand Entity)))

  -- Annotation = '@' anyword ['(' STR ')']
  abbrev pub Annotation : Lang A
  Annotation = Branch Label.annotation (Tok "@" ⋄ AnyWord ⋄ Maybe (Tok "(" ⋄ STR ⋄ Tok ")"))

  -- one to four of this sign
  abbrev pub Signs : String → Lang A
  Signs s = Tok s ⋄ Maybe (Tok s ⋄ Maybe (Tok s ⋄ Maybe (Tok s)))

  -- '.' IDENT
  abbrev pub Field : Lang A
  Field = Branch Label.access (Tok "." ⋄ Ident)

  -- IDENT {'.' IDENT}
  abbrev pub HasField : Lang A
  HasField = Operand (Branch Label.primary (Branch Label.name Ident) ⋄ Many Field)

  -- STR as an operand
  abbrev pub StrOperand : Lang A
  StrOperand = Operand (Branch Label.primary (Branch Label.string Literal))

  -- relop = '<' | '<=' | '>' | '>=' | '!=' | '==' | 'in'
  abbrev pub Relop : Lang A
  Relop = Tok "<" ∪ Tok "<=" ∪ Tok ">" ∪ Tok ">=" ∪ Tok "!=" ∪ Tok "==" ∪ Tok "in"

  -- Expressions: room says whether an if or a bracket is allowed here, and Inner is what may be inside it.
  module _ (room : Bool) (Inner : Lang A) where
    -- an if or an opening bracket and what follows it: each costs one level of nesting
    abbrev pub Deeper : String → Lang A → Lang A
    Deeper opening X f = IsTrue room × (Tok opening ⋄ X) f

    -- Exprs = Expr {',' Expr} [',']
    abbrev pub Exprs : Lang A
    Exprs = Items Inner

    -- '(' [Exprs] ')' after a path or a field
    abbrev pub Call : Lang A
    Call = Branch Label.access (Deeper "(" (Maybe Exprs ⋄ Tok ")"))

    -- Init = (IDENT | STR) ':' Expr
    abbrev pub Init : Lang A
    Init = Branch Label.rec_init ((Branch Label.primary (Branch Label.name Ident) ∪ Branch Label.primary (Branch Label.string Literal)) ⋄ Tok ":" ⋄ Inner)

    -- Primary = 'true' | 'false' | NUMBER | STR | '(' Expr ')' | '[' [Exprs] ']' | '{' [Init {',' Init} [',']] '}'
    --         | 'principal' | 'action' | 'resource' | 'context' | Entity | Path '(' [Exprs] ')'
    abbrev pub Primary : Lang A
    Primary = Branch Label.primary (Branch Label.boolean (Tok "true" ∪ Tok "false"))
        ∪ Branch Label.primary (Branch Label.number NUMBER)
        ∪ Branch Label.primary (Branch Label.string Literal)
        ∪ Branch Label.primary (Branch Label.parens (Deeper "(" (Inner ⋄ Tok ")")))
        ∪ Branch Label.primary (Branch Label.list (Deeper "[" (Maybe Exprs ⋄ Tok "]")))
        ∪ Branch Label.primary (Branch Label.fields (Deeper "{" (Maybe (Items Init) ⋄ Tok "}")))
        ∪ Branch Label.primary (Branch Label.name (Branch Label.ident (Tok "principal" ∪ Tok "action" ∪ Tok "resource" ∪ Tok "context")))
        ∪ Entity ∪ Branch Label.primary Path ⋄ Call

    -- Access = '.' IDENT ['(' [Exprs] ')'] | '[' STR ']'
    abbrev pub Access : Lang A
    Access = Field ⋄ Maybe Call ∪ Branch Label.access (Tok "[" ⋄ STR ⋄ Tok "]")

    -- Member = Primary {Access}
    abbrev pub Member : Lang A
    Member = Branch Label.member (Primary ⋄ Many Access)

    -- Unary = [one to four '!', or one to four '-'] Member
    abbrev pub Unary : Lang A
    Unary = Branch Label.unary (Maybe (Signs "!" ∪ Signs "-") ⋄ Member)

    -- Mult = Unary {'*' Unary}
    abbrev pub Mult : Lang A
    Mult = Branch Label.mult (Unary ⋄ Many (Tok "*" ⋄ Unary))

    -- Add = Mult {('+'|'-') Mult}
    abbrev pub Add : Lang A
    Add = Branch Label.add (Mult ⋄ Many ((Tok "+" ∪ Tok "-") ⋄ Mult))

    -- Relation = Add [relop Add] | Add 'has' (STR | IDENT {'.' IDENT}) | Add 'like' STR | Add 'is' Path ['in' Add]
    abbrev pub Relation : Lang A
    Relation = Branch Label.relation (Add ⋄ Maybe (Branch Label.compare (Relop ⋄ Add)
        ∪ Branch Label.has_or_like (Tok "has" ⋄ (StrOperand ∪ HasField))
        ∪ Branch Label.has_or_like (Tok "like" ⋄ StrOperand)
        ∪ Branch Label.is_type (Tok "is" ⋄ Path ⋄ Maybe (Tok "in" ⋄ Add))))

    -- And = Relation {'&&' Relation}
    abbrev pub And : Lang A
    And = Branch Label.and (Relation ⋄ Many (Tok "&&" ⋄ Relation))

    -- Or = And {'||' And}
    abbrev pub Or : Lang A
    Or = Branch Label.or (And ⋄ Many (Tok "||" ⋄ And))

    -- Expr = 'if' Expr 'then' Expr 'else' Expr | Or
    abbrev pub ExprIn : Lang A
    ExprIn = Branch Label.expr (Deeper "if" (Inner ⋄ Tok "then" ⋄ Inner ⋄ Tok "else" ⋄ Inner) ∪ Or)

  -- expressions with at most d ifs and brackets nested in each other
  abbrev pub Expr : ℕ → Lang A
  Expr zero = ExprIn false Never
  Expr (suc d) = ExprIn true (Expr d)

  -- Cond = ('when'|'unless') '{' Expr '}'
  abbrev pub Cond : ℕ → Lang A
  Cond d = Branch Label.condition (Branch Label.ident (Tok "when" ∪ Tok "unless") ⋄ Tok "{" ⋄ Expr d ⋄ Tok "}")

  -- Policy = {Annotation} ('permit'|'forbid') '(' Principal ',' Action ',' Resource [','] ')' {Cond} ';'
  abbrev pub Policy : ℕ → Lang A
  Policy d = Branch Label.policy (Many Annotation ⋄ Branch Label.ident (Tok "permit" ∪ Tok "forbid")
      ⋄ Tok "(" ⋄ Principal ⋄ Tok "," ⋄ Action ⋄ Tok "," ⋄ Resource ⋄ Maybe (Tok ",") ⋄ Tok ")"
      ⋄ Many (Cond d) ⋄ Tok ";")

  -- PolicySet = {Policy}
  abbrev pub PolicySet : ℕ → Lang A
  PolicySet d = Branch Label.policies (Many (Policy d))

  -- the tree stands for the tokens, nested at most d deep
  pub record IsSyntaxTree (d : ℕ) (tree : Forest Label A) (tokens : List A) : Type 0 where
    pub shape : PolicySet d tree
    pub leaves : yield tree ≡ tokens
