-- Sets of kinds.
use Rattle.std.specs.Prelude.{Bool, true, false, ◌||◌}
use Rattle.cedar_tokens.specs.declared.kind.Kind.{Kind}

abbrev pub no_kind : Kind → Bool
no_kind k = false

-- the first set, joined with the second if the truth value is true
abbrev pub joined : Bool → (Kind → Bool) → (Kind → Bool) → Kind → Bool
joined false p q = p
joined true p q = λ k. p k || q k
