-- The sections of any text: each through a `;`.
use Rattle.std.specs.Prelude.{◌≡◌, ℕ, Bool, false, List, [], ◌∷◌, ◌++◌, length, drop, codes}
use Rattle.std.specs.List.{list_any, sum_by}
use Rattle.std.specs.Str.{bytes_eq}
use Rattle.cedar_server.specs.Parts.{Reads, AreParts}

abbrev pub is_semicolon : List ℕ → Bool
is_semicolon u = bytes_eq (codes ";") u

-- the text's first n bytes are parts of which only the last is a `;`
pub record IsSection (text : List ℕ) (n : ℕ) : Type 0 where
  pub before : List (List ℕ)
  pub reads : Reads (before ++ codes ";" ∷ []) text (drop n text)
  pub place : n ≡ sum_by length (before ++ codes ";" ∷ [])
  pub first : list_any is_semicolon before ≡ false

-- no part of the text is a `;`
pub record HasNoSection (text : List ℕ) : Type 0 where
  pub parts : List (List ℕ)
  pub are : AreParts text parts
  pub none : list_any is_semicolon parts ≡ false
