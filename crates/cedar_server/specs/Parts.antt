-- How any text is read: unit by unit, and by single characters where no unit begins.
use Rattle.std.specs.Prelude.{◌≡◌, ◌⊎◌, ◌<◌, ℕ, true, false, List, [], ◌∷◌, length, take, drop}
use Rattle.std.specs.Str.{IsCharBoundary}
use Rattle.cedar_tokens.specs.Units.{is_token, is_comment, IsFirstUnit, BeginsNoUnit}
use Rattle.cedar_server.specs.declared.parts.PartKind.{PartKind}
use Rattle.cedar_server.specs.declared.parts.PartKind.TheVariants.{Token, Comment, Other}

-- u is the first character of the text: the bytes up to the next place where a character may begin
pub record IsFirstCharacter (text u : List ℕ) : Type 0 where
  pub nonempty : 0 < length u
  pub bytes : u ≡ take (length u) text
  pub boundary : IsCharBoundary text (length u)
  pub nearest : (i : ℕ) → 0 < i → i < length u → ¬ (IsCharBoundary text i)

-- u is the part at the start of the text: the unit there, or a character if no unit begins there
abbrev pub IsPart : List ℕ → List ℕ → Type 0
IsPart text u = IsFirstUnit text u ⊎ (BeginsNoUnit text × IsFirstCharacter text u)

-- the text begins with these parts, one after the other, and then `rest` is left
abbrev pub Reads : List (List ℕ) → List ℕ → List ℕ → Type 0
Reads [] text rest = text ≡ rest
Reads (u ∷ us) text rest = IsPart text u × Reads us (drop (length u) text) rest

-- the text is these parts
abbrev pub AreParts : List ℕ → List (List ℕ) → Type 0
AreParts text parts = Reads parts text []

-- the part is a token, a comment or neither
abbrev pub HasPartKind : PartKind → List ℕ → Type 0
HasPartKind Token u = is_token u ≡ true
HasPartKind Comment u = (is_token u ≡ false) × (is_comment u ≡ true)
HasPartKind Other u = (is_token u ≡ false) × (is_comment u ≡ false)
