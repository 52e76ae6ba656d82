-- The blocks of a text, and those around a place.
use Rattle.std.specs.Prelude.{◌≡◌, ◌+◌, ℕ, Bool, true, ◌&&◌, ◌||◌, nat_le, nat_lt, if◌then◌else◌, List, [], ◌∷◌, ◌++◌, length, Option, Some, None}
use Rattle.std.specs.Option.{unwrap_or}
use Rattle.cedar_tokens.specs.Units.{is_token, is_comment}
use Rattle.cedar_tokens.specs.Kinds.{is, is_any_word, is_opening, is_closing, is_closed_by}
use Rattle.cedar_tokens.specs.TokenKinds.{kind_of}
use Rattle.cedar_tokens.specs.declared.kind.Kind.{Kind}
use Rattle.cedar_tokens.specs.declared.token.Span.{Span}
use Rattle.cedar_server.specs.Parts.{AreParts}
use Rattle.cedar_server.specs.declared.selections.Opened.{Opened}

-- words, slots, strings and numbers
abbrev pub is_word : Kind → Bool
is_word k = is_any_word k || is Kind.PrincipalSlot k || is Kind.ResourceSlot k || is Kind.Str k || is Kind.Number k

-- the innermost bracket that is closed by this one, and those around it; of the open brackets the innermost comes first
abbrev pub closed_by : Kind → List Opened → Option (Opened × List Opened)
closed_by k [] = None
closed_by k (o ∷ os) = if is_closed_by o.kind k then Some (o, os) else closed_by k os

-- the brackets that are open at a place, and where the first token since the last `;` begins
pub record Nesting : Type 0 where
  pub opened : List Opened
  pub start : Option ℕ

-- what is between two brackets, and the same with them
abbrev pub pair_blocks : Option (Opened × List Opened) → Span → List Span
pair_blocks None s = []
pair_blocks (Some (o, os)) s = record { start = o.part.end; end = s.start } ∷ record { start = o.part.start; end = s.end } ∷ []

abbrev pub outside : Option (Opened × List Opened) → List Opened → List Opened
outside None opened = opened
outside (Some (o, os)) opened = os

-- the blocks that a token ends: a word itself; what is between brackets, and with them; and what a `;` ends, from its first token
abbrev pub token_blocks : Nesting → Kind → Span → List Span
token_blocks a k s =
    if is_word k then s ∷ []
    else (if is_opening k then []
    else (if is_closing k then pair_blocks (closed_by k a.opened) s
    else (if is Kind.SemiColon k then record { start = unwrap_or a.start s.start; end = s.end } ∷ [] else [])))

-- what is around after a token
abbrev pub after_token : Nesting → Kind → Span → Nesting
after_token a k s =
    if is_word k then record { opened = a.opened; start = Some (unwrap_or a.start s.start) }
    else (if is_opening k then record { opened = record { kind = k; part = s } ∷ a.opened; start = Some (unwrap_or a.start s.start) }
    else (if is_closing k then record { opened = outside (closed_by k a.opened) a.opened; start = Some (unwrap_or a.start s.start) }
    else (if is Kind.SemiColon k then record { opened = []; start = None } else record { opened = a.opened; start = Some (unwrap_or a.start s.start) })))

-- the same of a part of the text; a comment is a block
abbrev pub part_blocks : Nesting → List ℕ → Span → List Span
part_blocks a u s = if is_token u then token_blocks a (kind_of u) s else (if is_comment u then s ∷ [] else [])

abbrev pub after_part : Nesting → List ℕ → Span → Nesting
after_part a u s = if is_token u then after_token a (kind_of u) s else a

-- what the end of the text ends: what is after the last `;`, from its first token, and the whole text
abbrev pub last_blocks : Option ℕ → ℕ → List Span
last_blocks None n = record { start = 0; end = n } ∷ []
last_blocks (Some start) n = record { start = start; end = n } ∷ record { start = 0; end = n } ∷ []

-- the blocks of parts in the order of their ends; the parts begin at the byte `at`
unfoldable pub blocks : ℕ → Nesting → List (List ℕ) → List Span
blocks at a [] = last_blocks a.start at
blocks at a (u ∷ us) =
    part_blocks a u (record { start = at; end = at + length u })
    ++ blocks (at + length u) (after_part a u (record { start = at; end = at + length u })) us

abbrev pub at_start : Nesting
at_start = record { opened = []; start = None }

-- the blocks of a text
abbrev pub AreBlocks : List ℕ → List Span → Type 0
AreBlocks text bs = (parts : List (List ℕ)) × AreParts text parts × (bs ≡ blocks 0 at_start parts)

-- the place is in the block, or at one of its ends
abbrev pub touches : ℕ → Span → Bool
touches at s = nat_le s.start at && nat_le at s.end

-- the block has all of the one before, and more
abbrev pub grows : Option Span → Span → Bool
grows None s = true
grows (Some inner) s = nat_le s.start inner.start && nat_le inner.end s.end && (nat_lt s.start inner.start || nat_lt inner.end s.end)

-- of these blocks, those around a place: the first one that it touches, and then each that it touches and that grows
unfoldable pub around : ℕ → Option Span → List Span → List Span
around at last [] = []
around at last (s ∷ ss) = if touches at s && grows last s then s ∷ around at (Some s) ss else around at last ss

-- the blocks of a text around a place, from the innermost out
abbrev pub IsSelection : List ℕ → ℕ → List Span → Type 0
IsSelection text at ss = (bs : List Span) × AreBlocks text bs × (ss ≡ around at None bs)
