-- Sets of kinds that the tests of the grammar's lines are made of.
use Rattle.std.specs.Prelude.{Bool, ◌||◌}
use Rattle.cedar_tokens.specs.declared.kind.Kind.{Kind}
use Rattle.cedar_tokens.specs.declared.kind.Kind.TheVariants as K
use Rattle.cedar_tokens.specs.Kinds.{is, is_any_word, is_ident, is_variable, is_boolean, is_comparison, is_effect, is_cond_word}
use Rattle.cedar_grammar.specs.Reader.Rules.{expr_first}
use Rattle.cedar_writer.specs.Lines.{is_name}
use Rattle.cedar_writer.specs.Bare.{any_kind, is_slot}
use Rattle.cedar_writer.specs.declared.sets.Set.{Set}
use Rattle.cedar_writer.specs.declared.sets.Set.TheVariants.{Only, Ident, AnyWord, Variable, Name, Boolean, Comparison, Effect, Condition, SumSign, Key, Accessing, Testing, Literal, Referring, Expression, AfterScope, Slot, Any}

-- the kind is in the set
abbrev pub contains : Set → Kind → Bool
contains (Only kind) = is kind
contains Ident = is_ident
contains AnyWord = is_any_word
contains Variable = is_variable
contains Name = is_name
contains Boolean = is_boolean
contains Comparison = is_comparison
contains Effect = is_effect
contains Condition = is_cond_word
contains SumSign = λ k. is K.Add k || is K.Dash k
contains Key = λ k. is_ident k || is K.Str k
contains Accessing = λ k. is K.Dot k || is K.LBracket k
contains Testing = λ k. is K.Has k || (is K.Like k || is K.Is k)
contains Literal = λ k. is_boolean k || (is K.Number k || (is K.Str k || (is K.LParen k || (is K.LBracket k || is K.LBrace k))))
contains Referring = λ k. is K.DoubleColon k || is K.LParen k
contains Expression = expr_first
contains AfterScope = λ k. is K.Comma k || is K.RParen k
contains Slot = is_slot
contains Any = any_kind
