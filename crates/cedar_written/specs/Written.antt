-- The written grammar with its documents: a definition for each line of the grammar, which is quoted above it. Between
-- the parts of the line it has what the document has there, so it is also the row of the table for this line.
-- In a quoted line {X} is any number of X, [X] is one or none, and a quoted sign is the token with this text.
use Rattle.std.specs.Prelude.{◌≡◌, ◌⊎◌, ℕ, zero, suc, ℤ, pos, Bool, true, false, IsTrue, List, [], ◌∷◌, ◌++◌, length, codes}
use Prim.Native.String.{String}
use Rattle.cedar_tokens.specs.Units.{is_word, is_number, is_string}
use Rattle.cedar_tokens.specs.Listing.{Decorated}
use Rattle.cedar_layout.specs.Layout.{Doc, nil, nest, group, line, line_or_nil, hard, ◌·◌}
use Rattle.cedar_layout.specs.Comments.{space}
use Rattle.cedar_grammar.specs.Grammar.{is_identifier}
use Rattle.cedar_laws.specs.Table.{lead, tok, trail, C}
use Rattle.cedar_written.specs.Languages.{Lang, ◌⋄◌, ◌∪◌, Never, Put, Maybe, Many, Token, Group, Nested, LedGroup}

-- ---- tokens, and what has no indentation

-- the token with this text; `next` takes the place of a missing trailing text
abbrev pub TokThen : String → Doc → Lang
TokThen s next = Token (λ t. t ≡ codes s) next

-- the token with this text
abbrev pub Tok : String → Lang
Tok s = TokThen s nil

-- NUMBER
abbrev pub NUMBER : Lang
NUMBER = Token (λ t. IsTrue (is_number t)) nil

-- STR
abbrev pub STR : Lang
STR = Token (λ t. IsTrue (is_string t)) nil

-- every word
abbrev pub AnyWord : Lang
AnyWord = Token (λ t. IsTrue (is_word t)) nil

-- IDENT = every word but true false if then else in is like has
abbrev pub Ident : Lang
Ident = Token (λ t. IsTrue (is_identifier t)) nil

-- X {',' X} [',']
abbrev pub Items : Lang → Lang
Items X = X ⋄ Many (Tok "," ⋄ Put line ⋄ X) ⋄ Maybe (Tok ",")

-- Path = IDENT {'::' IDENT}
abbrev pub Path : Lang
Path = Ident ⋄ Many (Tok "::" ⋄ Ident)

-- Entity = Path '::' STR
abbrev pub Entity : Lang
Entity = Path ⋄ Tok "::" ⋄ STR

-- Annotation = '@' anyword ['(' STR ')']
abbrev pub Annotation : Lang
Annotation = Tok "@" ⋄ AnyWord ⋄ (Tok "(" ⋄ STR ⋄ TokThen ")" hard ∪ Put hard)

-- '.' IDENT
abbrev pub Field : Lang
Field = Tok "." ⋄ Ident

-- one to four of this sign
abbrev pub Signs : String → Lang
Signs s = Tok s ⋄ Maybe (Tok s ⋄ Maybe (Tok s ⋄ Maybe (Tok s)))

-- relop = '<' | '<=' | '>' | '>=' | '!=' | '==' | 'in'
abbrev pub Relop : Lang
Relop = Tok "<" ∪ Tok "<=" ∪ Tok ">" ∪ Tok ">=" ∪ Tok "!=" ∪ Tok "==" ∪ Tok "in"

module _ (i : ℤ) where
  -- First {X}, with a possible break before each X but the first
  abbrev pub Accessed : Lang → Lang → Lang
  Accessed First X = Group (First ⋄ Nested i (Maybe (X ⋄ Many (Put line_or_nil ⋄ X))))

  -- an operand that is X alone, without operators, signs and accesses
  abbrev pub Operand : Lang → Lang
  Operand X = Group (Group (Accessed X Never))

  -- ---- the scope

  -- the type part of a variable: 'is' Path
  abbrev pub TypePart : Lang
  TypePart = Group (Nested i (Group (Put line ⋄ Tok "is") ⋄ Put line ⋄ Path))

  -- X op Y, of a variable
  abbrev pub Compared : Lang → String → Lang → Lang
  Compared X op Y = LedGroup (Group (X ⋄ Put line ⋄ Tok op) ⋄ Nested i (Put line ⋄ Y))

  -- variable [ '==' VE | 'is' Path ['in' VE] | 'in' VE ]      VE = Entity | slot
  abbrev pub Scoped : String → String → Lang
  Scoped variable slot = Tok variable ⋄ Maybe TypePart
      ∪ Compared (Tok variable) "==" (Operand (Tok slot ∪ Entity))
      ∪ Compared (Tok variable ⋄ Maybe TypePart) "in" (Operand (Tok slot ∪ Entity))

  -- Principal = 'principal' [ '==' PE | 'is' Path ['in' PE] | 'in' PE ]      PE = Entity | '?principal'
  abbrev pub Principal : Lang
  Principal = Scoped "principal" "?principal"

  -- Resource = 'resource' [ '==' RE | 'is' Path ['in' RE] | 'in' RE ]      RE = Entity | '?resource'
  abbrev pub Resource : Lang
  Resource = Scoped "resource" "?resource"

  -- Action = 'action' [ '==' Entity | 'in' (Entity | '[' [Entity {',' Entity} [',']] ']') ]
  abbrev pub Action : Lang
  Action = Tok "action"
      ∪ Compared (Tok "action") "==" (Operand Entity)
      ∪ Compared (Tok "action") "in"
      (Operand (Entity ∪ Tok "[" ⋄ Nested (pos 1) (Maybe (Items (Operand Entity))) ⋄ Tok "]"))

  -- Principal ',' Action ',' Resource, with `next` in place of a missing trailing text after a comma
  abbrev pub Variables : Doc → Lang
  Variables next = Principal ⋄ TokThen "," next ⋄ Action ⋄ TokThen "," next ⋄ Resource

  -- The same between its brackets. Three bare variables, which are five tokens with their commas, are on one line if
  -- they fit; others are on a line each.
  abbrev pub Scope : Lang
  Scope ts d = ((length ts ≡ 5) × Group (Nested i (Variables space)) ts d)
      ⊎ (¬ (length ts ≡ 5) × (Nested i (Put hard ⋄ Variables hard) ⋄ Put hard) ts d)

  -- ---- expressions: room says whether an if or a bracket is allowed here, and Inner is what may be inside it
  module _ (room : Bool) (Inner : Lang) where
    -- an if or a pair of brackets: each costs one level of nesting
    abbrev pub Deeper : Lang → Lang
    Deeper X ts d = IsTrue room × X ts d

    -- '(' [Exprs] ')' after a path or a field      Exprs = Expr {',' Expr} [',']
    abbrev pub Call : Lang
    Call = Deeper (Tok "(" ⋄ Maybe (Nested i (Put line_or_nil ⋄ Items Inner) ⋄ Put line_or_nil) ⋄ Tok ")")

    -- Init = (IDENT | STR) ':' Expr
    abbrev pub Init : Lang
    Init = (Ident ∪ STR) ⋄ Tok ":" ⋄ Put space ⋄ Inner

    -- Primary = 'true' | 'false' | NUMBER | STR | '(' Expr ')' | '[' [Exprs] ']' | '{' [Init {',' Init} [',']] '}'
    --         | 'principal' | 'action' | 'resource' | 'context' | Entity      (a called path is in Member)
    abbrev pub Primary : Lang
    Primary = (Tok "true" ∪ Tok "false") ∪ NUMBER ∪ STR
        ∪ Deeper (Group (Tok "(" ⋄ Nested (pos 1) Inner ⋄ Tok ")"))
        ∪ Deeper (Tok "[" ⋄ Nested (pos 1) (Maybe (Items Inner)) ⋄ Tok "]")
        ∪ Deeper (Tok "{" ⋄ Maybe (Nested i (Group (Put line ⋄ Items Init ⋄ Put line))) ⋄ Tok "}")
        ∪ (Tok "principal" ∪ Tok "action" ∪ Tok "resource" ∪ Tok "context") ∪ Entity

    -- Access = '.' IDENT ['(' [Exprs] ')'] | '[' STR ']'
    abbrev pub Access : Lang
    Access = Field ⋄ Maybe Call ∪ Tok "[" ⋄ STR ⋄ Tok "]"

    -- Member = Primary {Access} | Path '(' [Exprs] ')' {Access}
    abbrev pub Member : Lang
    Member = Accessed Primary Access ∪ Group (Path ⋄ Nested i (Call ⋄ Many (Put line_or_nil ⋄ Access)))

    -- Unary = [one to four '!', or one to four '-'] Member
    abbrev pub Unary : Lang
    Unary = Maybe (Signs "!" ∪ Signs "-") ⋄ Member

    -- Mult = Unary {'*' Unary}
    abbrev pub Mult : Lang
    Mult = Group (Unary ⋄ Many (Put space ⋄ Tok "*" ⋄ Put line ⋄ Unary))

    -- Add = Mult {('+'|'-') Mult}
    abbrev pub Add : Lang
    Add = Group (Mult ⋄ Many (Put space ⋄ (Tok "+" ∪ Tok "-") ⋄ Put line ⋄ Mult))

    -- Relation = Add [relop Add] | Add 'has' (STR | IDENT {'.' IDENT}) | Add 'like' STR | Add 'is' Path ['in' Add]
    abbrev pub Relation : Lang
    Relation = Add ⋄ Maybe (Put space ⋄ Relop ⋄ Put space ⋄ Add)
        ∪ Group (Add ⋄ Put line ⋄ Tok "has" ⋄ Put line ⋄ Nested i (Operand STR ∪ Group (Group (Accessed Ident Field))))
        ∪ Group (Add ⋄ Put line ⋄ Tok "like" ⋄ Put line ⋄ Nested i (Operand STR))
        ∪ Group (Add ⋄ Put space ⋄ Tok "is" ⋄ Put space ⋄ Nested i Path
        ⋄ Maybe (Put line ⋄ Tok "in" ⋄ Put space ⋄ Nested i Add))

    -- And = Relation {'&&' Relation}
    abbrev pub And : Lang
    And = Relation ⋄ Many (Put space ⋄ TokThen "&&" line ⋄ Relation)

    -- Or = And {'||' And}
    abbrev pub Or : Lang
    Or = And ⋄ Many (Put space ⋄ TokThen "||" line ⋄ And)

    -- an expression after `if`, `then` or `else`
    abbrev pub Below : Lang
    Below = Nested i (Put line ⋄ Inner)

    -- Expr = 'if' Expr 'then' Expr 'else' Expr | Or
    abbrev pub ExprIn : Lang
    ExprIn = Deeper (Group (Tok "if" ⋄ Below ⋄ Put line ⋄ Tok "then" ⋄ Below ⋄ Put line ⋄ Tok "else" ⋄ Below)) ∪ Or

  -- expressions with at most n ifs and brackets nested in each other
  abbrev pub Expr : ℕ → Lang
  Expr zero = ExprIn false Never
  Expr (suc n) = ExprIn true (Expr n)

  -- ---- policies

  -- '{' Expr '}', with a group that begins after the text of the first bracket
  abbrev pub Block : ℕ → Lang
  Block n ts d = (l r : Decorated) × (us : List Decorated) × (e : Doc) × (ts ≡ l ∷ (us ++ (r ∷ [])))
      × (l.text ≡ codes "{") × LedGroup (Expr n) us e × (r.text ≡ codes "}")
      × (d ≡ lead l · tok l · group (nest i (trail l line · e) · line · C r nil))

  -- Cond = ('when'|'unless') '{' Expr '}'
  abbrev pub Cond : ℕ → Lang
  Cond n = LedGroup ((TokThen "when" line ∪ TokThen "unless" line) ⋄ Block n)

  -- Policy = {Annotation} ('permit'|'forbid') '(' Principal ',' Action ',' Resource [','] ')' {Cond} ';'
  abbrev pub Policy : ℕ → Lang
  Policy n = Many Annotation ⋄ LedGroup ((Tok "permit" ∪ Tok "forbid") ⋄ Put line ⋄ Tok "(") ⋄ Scope ⋄ Maybe (Tok ",")
      ⋄ (Tok ")" ∪ TokThen ")" hard ⋄ Cond n ⋄ Many (Put hard ⋄ Cond n)) ⋄ Tok ";"

  -- PolicySet = {Policy}, with the document of each policy
  pub data PolicySet (n : ℕ) : List Decorated → List Doc → Type 0 where
    no_policy : PolicySet n [] []
    a_policy : (ts us : List Decorated) (d : Doc) (ds : List Doc)
        → Policy n ts d → PolicySet n us ds → PolicySet n (ts ++ us) (d ∷ ds)
