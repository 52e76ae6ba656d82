-- Rules: what the lines of the grammar are made of, as data. A rule says which tokens are read, and which marks are written.
use Rattle.std.specs.Prelude.{ℤ, Bool, List, [], ◌∷◌}
use Rattle.cedar_tokens.specs.declared.kind.Kind.{Kind}
use Rattle.cedar_tokens.specs.Kinds.{is}
use Rattle.cedar_print.specs.WrittenMarks.{Mark}
use Rattle.cedar_print.specs.WrittenMarks as M

pub data Rule : Type 0 where
  -- nothing is read: not even that; what may be inside a bracket or an if
  never inner : Rule
  -- no token, and these marks
  put : List Mark → Rule
  -- a token of one of these kinds between its comments, with marks after its text, and others in place of a missing trailing text
  token : (Kind → Bool) → List Mark → List Mark → Rule
  -- one after the other; the first if it begins, and else the second
  then either : Rule → Rule → Rule
  -- any number of times
  star : Rule → Rule
  -- `tail s x y z`: a token of the kind s and x any number of times, and then a token of the kind s and y, or z
  tail : Kind → Rule → Rule → Rule → Rule
  -- `deeper k ms a`: these marks, a token of this kind and a: an if or a pair of brackets, which costs one level of nesting
  deeper : Kind → List Mark → Rule → Rule
  -- the leading lines of the first token, and then the rule, which finds none there
  lifted : Rule → Rule
  -- `fork p m n a b`: a token of p, with m in place of a missing trailing text if a follows, and with n if b does
  fork : (Kind → Bool) → List Mark → List Mark → Rule → Rule → Rule
  -- `peek q a b`: a if the next tokens are of these kinds, and b if not
  peek : List (Kind → Bool) → Rule → Rule → Rule

infixr 24 ◌▸◌
infixr 22 ◌∥◌
abbrev pub ◌▸◌ : Rule → Rule → Rule
a ▸ b = then a b

abbrev pub ◌∥◌ : Rule → Rule → Rule
a ∥ b = either a b

-- ---- what stands between tokens

abbrev pub nothing : Rule
nothing = put []

abbrev pub space : Rule
space = put (M.space ∷ [])

abbrev pub line : Rule
line = put (M.line ∷ [])

abbrev pub line_or_nil : Rule
line_or_nil = put (M.line_or_nil ∷ [])

abbrev pub hard : Rule
hard = put (M.hard ∷ [])

-- ---- groups and nests

abbrev pub begin : Rule
begin = put (M.begin ∷ [])

abbrev pub end_group : Rule
end_group = put (M.end_group ∷ [])

abbrev pub end_nothing : Rule
end_nothing = put (M.end_nothing ∷ [])

abbrev pub end_nest : Rule
end_nest = put (M.end_nest ∷ [])

abbrev pub group : Rule → Rule
group a = begin ▸ a ▸ end_group

-- a, indented by n more columns
abbrev pub nest : ℤ → Rule → Rule
nest n a = put (M.nest n ∷ []) ▸ a ▸ end_nest

-- a, in a group with b if b follows, and alone with c if not
abbrev pub late : Rule → Rule → Rule → Rule
late a b c = begin ▸ a ▸ (b ▸ end_group ∥ c ▸ end_nothing)

-- ---- tokens

-- a token of this kind; `next` takes the place of a missing trailing text
abbrev pub tok_then : Kind → Mark → Rule
tok_then k next = token (is k) [] (next ∷ [])

abbrev pub tok : Kind → Rule
tok k = token (is k) [] []

abbrev pub one_of : (Kind → Bool) → Rule
one_of p = token p [] []

abbrev pub maybe : Rule → Rule
maybe a = a ∥ nothing

-- one to four of this kind
abbrev pub signs : Kind → Rule
signs k = tok k ▸ maybe (tok k ▸ maybe (tok k ▸ maybe (tok k)))
