-- Kinds of tokens, and sets of them.
use Rattle.std.specs.Prelude.{ℕ, Bool, false, ◌||◌, nat_eq, List, [], ◌∷◌}
use Rattle.cedar_tokens.specs.declared.kind.Kind.{Kind}
use Rattle.cedar_tokens.specs.declared.kind.Words.{Words}
use Rattle.cedar_tokens.specs.declared.kind.Kind.TheVariants.{True, False, If, Then, Else, In, Is, Like, Has, Permit, Forbid, When, Unless, Principal, Action, Resource, Context, Identifier, PrincipalSlot, ResourceSlot, Number, Str, At, Dot, Comma, SemiColon, Colon, DoubleColon, LParen, RParen, LBrace, RBrace, LBracket, RBracket, Equal, NotEqual, Lt, Le, Gt, Ge, Or, And, Add, Dash, Mul, Div, Modulo, Neg}

-- a number for each kind
abbrev pub code : Kind → ℕ
code True = 0
code False = 1
code If = 2
code Then = 3
code Else = 4
code In = 5
code Is = 6
code Like = 7
code Has = 8
code Permit = 9
code Forbid = 10
code When = 11
code Unless = 12
code Principal = 13
code Action = 14
code Resource = 15
code Context = 16
code Identifier = 17
code PrincipalSlot = 18
code ResourceSlot = 19
code Number = 20
code Str = 21
code At = 22
code Dot = 23
code Comma = 24
code SemiColon = 25
code Colon = 26
code DoubleColon = 27
code LParen = 28
code RParen = 29
code LBrace = 30
code RBrace = 31
code LBracket = 32
code RBracket = 33
code Equal = 34
code NotEqual = 35
code Lt = 36
code Le = 37
code Gt = 38
code Ge = 39
code Or = 40
code And = 41
code Add = 42
code Dash = 43
code Mul = 44
code Div = 45
code Modulo = 46
code Neg = 47

-- the kind is that one
abbrev pub is : Kind → Kind → Bool
is k x = nat_eq (code x) (code k)

-- < <= > >= != == in
abbrev pub is_comparison : Kind → Bool
is_comparison x = is Lt x || is Le x || is Gt x || is Ge x || is NotEqual x || is Equal x || is In x

abbrev pub is_boolean : Kind → Bool
is_boolean x = is True x || is False x

-- principal action resource context
abbrev pub is_variable : Kind → Bool
is_variable x = is Principal x || is Action x || is Resource x || is Context x

-- permit forbid
abbrev pub is_effect : Kind → Bool
is_effect x = is Permit x || is Forbid x

-- when unless
abbrev pub is_cond_word : Kind → Bool
is_cond_word x = is When x || is Unless x

-- every word but true false if then else in is like has
abbrev pub is_ident : Kind → Bool
is_ident x = is_variable x || is_effect x || is_cond_word x || is Identifier x

-- a keyword or an identifier
abbrev pub is_any_word : Kind → Bool
is_any_word x = is_ident x || is_boolean x || is If x || is Then x || is Else x || is In x || is Is x || is Like x || is Has x

-- the kinds of these words
abbrev pub set_of : Words → Kind → Bool
set_of Words.Identifier = is_ident
set_of Words.Any = is_any_word
set_of Words.Effect = is_effect
set_of Words.Condition = is_cond_word

-- ( [ {
abbrev pub is_opening : Kind → Bool
is_opening x = is LParen x || is LBracket x || is LBrace x

-- ) ] }
abbrev pub is_closing : Kind → Bool
is_closing x = is RParen x || is RBracket x || is RBrace x

-- what closes a bracket of a kind
abbrev pub is_closed_by : Kind → Kind → Bool
is_closed_by LParen x = is RParen x
is_closed_by LBracket x = is RBracket x
is_closed_by LBrace x = is RBrace x
is_closed_by k x = false

-- the first token's kind is in the set
abbrev pub begins : {A : Type 0} → (A → Kind) → (Kind → Bool) → List A → Bool
begins kind p [] = false
begins kind p (a ∷ ts) = p (kind a)
