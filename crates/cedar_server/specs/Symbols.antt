-- The names of policies, and the symbols of a text.
use Rattle.std.specs.Prelude.{◌≡◌, ◌≢◌, ◌+◌, ℕ, Bool, ◌&&◌, ◌||◌, not, nat_lt, if◌then◌else◌, List, [], ◌∷◌, ◌++◌, length, take, drop, codes, All, slice_get, string_bytes, Option, Some, None, ⊤}
use Rattle.std.specs.Str.{trim}
use Rattle.cedar_tokens.specs.Bytes.{quote}
use Rattle.cedar_tokens.specs.Units.{is_token}
use Rattle.cedar_tokens.specs.Split.{SplitsInto}
use Rattle.cedar_tokens.specs.Kinds.{is}
use Rattle.cedar_tokens.specs.TokenKinds.{kind_of}
use Rattle.cedar_tokens.specs.declared.kind.Kind.{Kind}
use Rattle.cedar_tokens.specs.declared.token.Span.{Span}
use Rattle.cedar_grammar.specs.Texts.{Accepted}
use Rattle.cedar_grammar.specs.declared.tree.Node.{Node}
use Rattle.cedar_grammar.specs.declared.tree.Annotation.{Annotation}
use Rattle.cedar_grammar.specs.declared.tree.Policy.{Policy}
use Rattle.cedar_grammar.specs.declared.tree.Policies.{Policies}
use Rattle.cedar_grammar.specs.declared.tree.Str.{Str}
use Rattle.cedar_grammar.specs.NodeTrees.{IsTreeOf}
use Rattle.cedar_server.specs.Sections.{IsSection, HasNoSection}
use Rattle.cedar_server.specs.declared.symbols.Symbol.{Symbol}

-- a string with this text between its quotes
abbrev pub IsQuoted : List ℕ → List ℕ → Type 0
IsQuoted text string = string ≡ quote ∷ text ++ quote ∷ []

-- the annotation is `@id`, with more than blanks in its string, which has this text and this place
pub record IsId (a : Annotation) (text : List ℕ) (place : Span) : Type 0 where
  pub key : a.key.inner.0.now ≡ codes "id"
  pub value : Node Str
  pub has : a.value ≡ Some value
  pub quoted : IsQuoted text value.inner.0.now
  pub seen : trim text ≢ []
  pub at : place ≡ value.span

abbrev pub IsNoId : Node Annotation → Type 0
IsNoId a = (text : List ℕ) (place : Span) → ¬ (IsId a.inner text place)

-- no space is before , ) ] :: and after ( [ ::
abbrev pub is_tight_before : Kind → Bool
is_tight_before k = is Kind.Comma k || is Kind.RParen k || is Kind.RBracket k || is Kind.DoubleColon k

abbrev pub is_tight_after : Kind → Bool
is_tight_after k = is Kind.LParen k || is Kind.LBracket k || is Kind.DoubleColon k

-- what is between two tokens on one line
abbrev pub space_between : Option Kind → Kind → List ℕ
space_between None k = []
space_between (Some before) k = if is_tight_after before || is_tight_before k then [] else codes " "

-- the tokens from the byte `start` through the first `)` on one line; the units begin at the byte `at`, after a token of the kind
-- `before` that is on that line
unfoldable pub head : ℕ → ℕ → Option Kind → List (List ℕ) → List ℕ
head start at before [] = []
head start at before (u ∷ us) =
    if is_token u && not (nat_lt at start)
    then space_between before (kind_of u) ++ u ++ (if is Kind.RParen (kind_of u) then [] else head start (at + length u) (Some (kind_of u)) us)
    else head start (at + length u) before us

-- the name of a policy of this section, and its place: its first `@id`; or, without one, its effect and scope on one line, at the
-- effect
pub data IsNameOf (section : List ℕ) (p : Policy) (name : List ℕ) (place : Span) : Type 0 where
  by_id : (k : ℕ) (a : Node Annotation) → slice_get p.annotations.items k ≡ Some a → All IsNoId (take k p.annotations.items) → IsId a.inner name place
      → IsNameOf section p name place
  by_head : (units : List (List ℕ)) → All IsNoId p.annotations.items → SplitsInto section units → name ≡ head p.effect.span.start 0 None units
      → place ≡ p.effect.span → IsNameOf section p name place

abbrev pub moved : ℕ → Span → Span
moved by s = record { start = by + s.start; end = by + s.end }

-- the symbol of a policy of a section that begins at the byte `from`
pub record IsSymbolOf (section : List ℕ) (from : ℕ) (p : Node Policy) (s : Symbol) : Type 0 where
  pub place : Span
  pub named : IsNameOf section p.inner (string_bytes s.name) place
  pub at : s.place ≡ moved from place
  pub span : s.span ≡ moved from p.span

abbrev pub AreSymbolsOf : List ℕ → ℕ → List (Node Policy) → List Symbol → Type 0
AreSymbolsOf section from [] [] = ⊤
AreSymbolsOf section from (p ∷ ps) (s ∷ ss) = IsSymbolOf section from p s × AreSymbolsOf section from ps ss
AreSymbolsOf section from ps ss = ⊥

-- the symbols of a text from the byte `from` on: those of the policies of each section that is accepted
pub data AreSymbolsFrom (text : List ℕ) : ℕ → List Symbol → Type 0 where
  none : (from : ℕ) → HasNoSection (drop from text) → AreSymbolsFrom text from []
  accepted : (from n : ℕ) (p : Policies) (ss more : List Symbol) → IsSection (drop from text) n → IsTreeOf (take n (drop from text)) p
      → AreSymbolsOf (take n (drop from text)) from p.policies.items ss → AreSymbolsFrom text (from + n) more → AreSymbolsFrom text from (ss ++ more)
  faulty : (from n : ℕ) (more : List Symbol) → IsSection (drop from text) n → ¬ (Accepted (take n (drop from text)))
      → AreSymbolsFrom text (from + n) more → AreSymbolsFrom text from more

abbrev pub AreSymbols : List ℕ → List Symbol → Type 0
AreSymbols text ss = AreSymbolsFrom text 0 ss
