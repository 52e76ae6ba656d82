-- Each text is accepted or refused, and for one reason.
use Rattle.std.specs.Prelude.{◌≡◌, ◌⊎◌, ℕ, List}
use Rattle.cedar_tokens.specs.Split.{SplitsInto}
use Rattle.cedar_grammar.specs.declared.error.FormatError.{FormatError}
use Rattle.cedar_written.specs.Texts.{Accepted}
use Rattle.cedar_written.specs.Refusals.{Refuses}

-- a text that splits is accepted or refused
abbrev pub TextIsJudged : Type 0
TextIsJudged = (text : List ℕ) (units : List (List ℕ)) → SplitsInto text units
    → Accepted text ⊎ ((e : FormatError) × Refuses text e)

-- an accepted text is not refused
abbrev pub AcceptedIsNotRefused : Type 0
AcceptedIsNotRefused = (text : List ℕ) (e : FormatError) → Accepted text → ¬ (Refuses text e)

-- a text has at most one refusal: one place and one kind
abbrev pub RefusalIsUnique : Type 0
RefusalIsUnique = (text : List ℕ) (d e : FormatError) → Refuses text d → Refuses text e → d ≡ e
