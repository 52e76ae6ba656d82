-- The bracket that is still open at a fault.
use Rattle.std.specs.Prelude.{ℕ, ◌+◌, Bool, true, not, ◌&&◌, ◌||◌, ◌==◌, if◌then◌else◌, List, [], ◌∷◌, ◌++◌, length, Option, Some, None, codes}
use Rattle.std.specs.Borrow.{Bor}
use Rattle.std.specs.List.{filter}
use Rattle.std.specs.Option.{option_or}
use Rattle.cedar_tokens.specs.declared.kind.Kind.{Kind}
use Rattle.cedar_tokens.specs.declared.kind.Kind.TheVariants.{SemiColon}
use Rattle.cedar_tokens.specs.Kinds.{is, is_opening, is_closing, is_closed_by}
use Rattle.cedar_tokens.specs.TokenKinds.{kind_of}
use Rattle.cedar_faults.specs.Samples.{sample}
use Rattle.cedar_faults.specs.declared.brackets.Bracket.{Bracket}

-- a bracket of either kind
abbrev pub is_bracket : Kind → Bool
is_bracket x = is_opening x || is_closing x

-- the brackets among units, in order; the units begin at the byte `at`
unfoldable pub brackets : ℕ → List (List ℕ) → List Bracket
brackets at [] = []
brackets at (u ∷ us) =
    if is_bracket (kind_of u) then record { part = record { start = at; end = at + length u }; kind = kind_of u } ∷ brackets (at + length u) us
    else brackets (at + length u) us

-- as many of these brackets close as open
abbrev pub are_balanced : List Bracket → Bool
are_balanced bs = length (filter (λ b. is_opening b.kind) bs) == length (filter (λ b. is_closing b.kind) bs)

-- the innermost bracket that is still open after all of these: the last that opens and after which as many close as open
abbrev pub innermost : List Bracket → Option Bracket
innermost [] = None
innermost (b ∷ bs) = option_or (innermost bs) (if is_opening b.kind && are_balanced bs then Some b else None)

-- a token that leaves a bracket of a kind open: a `;`, or a closing bracket of another kind
abbrev pub passes_over : Kind → Kind → Bool
passes_over k x = is SemiColon x || (is_closing x && not (is_closed_by k x))

-- the end of the text leaves any bracket open
abbrev pub leaves_open : Option (Bor (List ℕ)) → Kind → Bool
leaves_open None k = true
leaves_open (Some found) k = passes_over k (kind_of found.now)

-- the bracket, if what is found leaves it open
abbrev pub if_left_open : Option (Bor (List ℕ)) → Option Bracket → Option Bracket
if_left_open found None = None
if_left_open found (Some b) = if leaves_open found b.kind then Some b else None

-- the innermost bracket that is open after these units, if what is found leaves it open
abbrev pub left_open : Option (Bor (List ℕ)) → List (List ℕ) → Option Bracket
left_open found units = if_left_open found (innermost (brackets 0 units))

-- what is said of a bracket that isn't closed
abbrev pub told_open : Bracket → List ℕ
told_open b = codes "this '" ++ sample b.kind ++ codes "' is not closed"
