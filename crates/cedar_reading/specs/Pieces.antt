-- Where a text is split into pieces: after a `;` and the rest of its line.
use Rattle.std.specs.Prelude.{◌≡◌, ◌⊎◌, ℕ, Bool, false, ◌==◌, List, [], ◌∷◌, ◌++◌, length, drop, codes}
use Rattle.std.specs.List.{list_any, sum_by}
use Rattle.std.specs.Str.{bytes_eq}
use Rattle.cedar_tokens.specs.Units.{is_token, IsToken, IsFirstUnit, BeginsNoUnit}
use Rattle.cedar_tokens.specs.Split.{Scans}
use Rattle.cedar_tokens.specs.Bytes.{line_feed}

abbrev pub is_semicolon : List ℕ → Bool
is_semicolon u = bytes_eq (codes ";") u

-- no line feed is among these units
abbrev pub HaveNoFeed : List (List ℕ) → Type 0
HaveNoFeed units = list_any (λ u. list_any (λ b. b == line_feed) u) units ≡ false

-- the last unit is the only line feed
abbrev pub EndInFeed : List (List ℕ) → Type 0
EndInFeed units = (front : List (List ℕ)) × (units ≡ front ++ ((line_feed ∷ []) ∷ [])) × HaveNoFeed front

-- a token begins here, or no unit: the text ends here, or has its fault here
abbrev pub BeginsNoBlank : List ℕ → Type 0
BeginsNoBlank rest = BeginsNoUnit rest ⊎ ((u : List ℕ) × IsFirstUnit rest u × IsToken u)

-- the rest of a token's line, before `rest`: its blanks and comments through the line feed, or up to what is neither
pub record IsRestOfLine (line : List (List ℕ)) (rest : List ℕ) : Type 0 where
  pub no_token : list_any is_token line ≡ false
  pub ends : EndInFeed line ⊎ (HaveNoFeed line × BeginsNoBlank rest)

-- the text's first n bytes are whole units, the rest of a line
pub record EndsLine (text : List ℕ) (n : ℕ) : Type 0 where
  pub line : List (List ℕ)
  pub scans : Scans line text (drop n text)
  pub place : n ≡ sum_by length line
  pub rest : IsRestOfLine line (drop n text)

-- the text's first n bytes are whole units, of which the last token is a `;`, with the rest of its line after it
pub record IsPiece (text : List ℕ) (n : ℕ) : Type 0 where
  pub before : List (List ℕ)
  pub line : List (List ℕ)
  pub scans : Scans (before ++ (codes ";" ∷ line)) text (drop n text)
  pub place : n ≡ sum_by length (before ++ (codes ";" ∷ line))
  pub rest_of_line : IsRestOfLine line (drop n text)

-- the same through the first `;` of the text
pub record IsFirstPiece (text : List ℕ) (n : ℕ) : Type 0 where
  pub piece : IsPiece text n
  pub first : list_any is_semicolon piece.before ≡ false

-- no `;` comes before the text's end or its fault
pub record HasNoPiece (text : List ℕ) : Type 0 where
  pub units : List (List ℕ)
  pub rest : List ℕ
  pub scans : Scans units text rest
  pub stops : BeginsNoUnit rest
  pub none : list_any is_semicolon units ≡ false
