-- What a message names: kinds of tokens that share a word, or one kind.
use Rattle.std.specs.Prelude.{◌≡◌, Bool, not, ◌||◌, IsTrue, List, [], ◌∷◌, ◌++◌, Contains, All, Any}
use Rattle.std.specs.List.{filter}
use Rattle.cedar_tokens.specs.declared.kind.Kind.{Kind}
use Rattle.cedar_tokens.specs.declared.kind.Kind.TheVariants as K
use Rattle.cedar_tokens.specs.Kinds.{is, is_boolean, is_ident, is_any_word, is_effect, is_cond_word, is_comparison, is_opening}
use Rattle.cedar_grammar.specs.Reader.Rules.{expr_first}
use Rattle.cedar_faults.specs.declared.kinds.Name.{Name}
use Rattle.cedar_faults.specs.declared.kinds.Name.TheVariants.{Policy, Condition, Word, Expression, Operand, FlatOperand, Identifier, Operator, ArithmeticOrLogical, Token}

-- the start of an operand without signs and brackets
abbrev pub is_flat : Kind → Bool
is_flat x = is_ident x || is_boolean x || is K.Number x || is K.Str x

-- + - * && ||
abbrev pub is_arithmetic_or_logical : Kind → Bool
is_arithmetic_or_logical x = is K.Add x || is K.Dash x || is K.Mul x || is K.And x || is K.Or x

-- < <= > >= != == in has like is
abbrev pub is_relational : Kind → Bool
is_relational x = is_comparison x || is K.Has x || is K.Like x || is K.Is x

-- tokens of this kind are among those named
abbrev pub names : Name → Kind → Bool
names Policy x = is K.At x || is_effect x
names Condition x = is_cond_word x
names Word x = is_any_word x
names Expression x = expr_first x
names Operand x = is_flat x || is_opening x
names FlatOperand x = is_flat x
names Identifier x = is_ident x
names Operator x = is_arithmetic_or_logical x || is_relational x
names ArithmeticOrLogical x = is_arithmetic_or_logical x
names (Token k) x = is k x

-- all the named kinds are in the list
abbrev pub AreIn : List Kind → Name → Type 0
AreIn kinds name = (k : Kind) → IsTrue (names name k) → Contains kinds k

-- the names of several kinds: of two that share kinds, the one with more of them comes first
abbrev pub groups : List Name
groups = Word ∷ Expression ∷ Operand ∷ FlatOperand ∷ Operator ∷ ArithmeticOrLogical ∷ Identifier ∷ Policy ∷ Condition ∷ []

-- the name of a kind of the list: of the groups and the kind alone, the first that names it and only kinds of the list
pub record IsNameOf (kinds : List Kind) (kind : Kind) (name : Name) : Type 0 where
  pub named : IsTrue (names name kind)
  pub within : AreIn kinds name
  pub before : List Name
  pub after : List Name
  pub place : before ++ name ∷ after ≡ groups ++ Token kind ∷ []
  pub first : All (λ group. IsTrue (names group kind) → ¬ (AreIn kinds group)) before

-- the names of some kinds of the list: that of the first of them, and those of the others that it doesn't name
abbrev pub AreNamesOf : List Kind → List Kind → List Name → Type 0
AreNamesOf kinds some [] = some ≡ []
AreNamesOf kinds some (name ∷ more) = (first : Kind) × (others : List Kind) × (some ≡ first ∷ others) × IsNameOf kinds first name × AreNamesOf kinds (filter (λ k. not (names name k)) others) more

-- each name names only kinds of the list, and each kind of the list has a name; which names these are, and their order
pub record AreNamed (kinds : List Kind) (all : List Name) : Type 0 where
  pub within : All (AreIn kinds) all
  pub named : (k : Kind) → Contains kinds k → Any (λ name. IsTrue (names name k)) all
  pub exact : AreNamesOf kinds kinds all
