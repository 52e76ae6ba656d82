-- Which tokens a node needs.
use Rattle.std.specs.Prelude.{◌==◌, ◌&&◌, ◌||◌, ℕ, List, Bool, true, length, map, nat_le, Option, Some}
use Rattle.std.specs.List.{filter, list_any}
use Rattle.cedar_tokens.specs.declared.token.Span.{Span}
use Rattle.cedar_tokens.specs.declared.token.WrappedToken.{WrappedToken}
use Rattle.cedar_grammar.specs.Trees.{Label, none, leaf, branch}
use Rattle.cedar_grammar.specs.Erased.{Erased}
use Rattle.cedar_documents.specs.Items.{signs_before, start_of_node}

-- where the tokens are
abbrev pub places : List WrappedToken → List Span
places ts = map (λ t. t.span) ts

-- whether a token starts at this byte
abbrev pub starts : ℕ → List Span → Bool
starts p places = list_any (λ s. s.start == p) places

-- how many tokens are between two bytes
abbrev pub count_between : ℕ → ℕ → List Span → ℕ
count_between p q places = length (filter (λ s. nat_le p s.start && nat_le s.end q) places)

-- what a node itself needs: if it is one token, a token that starts where it does; if it has signs, as many tokens between its start and its member's
abbrev pub has_own : List Span → Label → Option Span → Erased → Bool
has_own places Label.ident (Some s) f = starts s.start places
has_own places Label.str (Some s) f = starts s.start places
has_own places Label.boolean (Some s) f = starts s.start places
has_own places Label.number (Some s) f = starts s.start places
has_own places Label.string (Some s) f = starts s.start places
has_own places Label.slot (Some s) f = starts s.start places
has_own places Label.unary (Some s) f = signs_before f == 0 || count_between s.start (start_of_node f) places == signs_before f
has_own places l s f = true

-- every node of these trees has its tokens among those at these places
abbrev pub has_its_tokens : List Span → Erased → Bool
has_its_tokens places none = true
has_its_tokens places (leaf text f) = has_its_tokens places f
has_its_tokens places (branch l f g) = has_own places l.0 l.1 f && (has_its_tokens places f && has_its_tokens places g)
