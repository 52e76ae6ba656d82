-- The search for a token by its edges. No public contract uses it.
use Rattle.std.specs.Prelude.{ℕ, Bool}
use Rattle.cedar_tokens.specs.declared.token.Span.{Span}
use Rattle.cedar_layout.specs.Lookups.{Shown, starts_at, ends_at, starts_from}
use Rattle.cedar_layout.specs.declared.utils.lookups.Edge.{Edge}
use Rattle.cedar_layout.specs.declared.utils.lookups.Edge.TheVariants.{Start, End}
use Rattle.cedar_layout.specs.declared.utils.lookups.Sought.{Sought}
use Rattle.cedar_layout.specs.declared.utils.lookups.Sought.TheVariants.{StartsAt, EndsAt, StartsFrom}

-- where this edge of a span is
abbrev pub edge_of : Edge → Span → ℕ
edge_of Start s = s.start
edge_of End s = s.end

-- the token is the one looked for, or the first of several
abbrev pub is_sought : Sought → Shown → Bool
is_sought (StartsAt p) = starts_at p
is_sought (EndsAt p) = ends_at p
is_sought (StartsFrom p) = starts_from p
