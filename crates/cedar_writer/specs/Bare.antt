-- A slot in the scope, or fields after `has`: how an operand begins that no expression is.
use Rattle.std.specs.Prelude.{Bool, true, false, ◌||◌, ◌&&◌, not, List, [], ◌∷◌}
use Rattle.cedar_tokens.specs.Listing.{Decorated}
use Rattle.cedar_tokens.specs.declared.kind.Kind.{Kind}
use Rattle.cedar_tokens.specs.declared.kind.Kind.TheVariants as K
use Rattle.cedar_tokens.specs.Kinds.{is}
use Rattle.cedar_grammar.specs.Laws.{kind_of_decorated}
use Rattle.cedar_writer.specs.Lines.{is_name}

abbrev pub any_kind : Kind → Bool
any_kind k = true

abbrev pub is_slot : Kind → Bool
is_slot k = is K.PrincipalSlot k || is K.ResourceSlot k

-- a `::` or a `(` comes, which goes on with a path
abbrev pub refers : List Decorated → Bool
refers [] = false
refers (t ∷ ts) = is K.DoubleColon (kind_of_decorated t) || is K.LParen (kind_of_decorated t)

-- a slot, or a name that goes on with neither
abbrev pub is_bare : List Decorated → Bool
is_bare [] = false
is_bare (t ∷ ts) = is_slot (kind_of_decorated t) || (is_name (kind_of_decorated t) && not (refers ts))
