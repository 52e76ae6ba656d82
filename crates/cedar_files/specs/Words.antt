-- The words of the command line.
use Rattle.std.specs.Prelude.{◌≡◌, ◌≢◌, ◌++◌, ◌∷◌, [], ℕ, List, Bool, Option, Some, None, codes, find, map, nat_eq, not, option_map, string_bytes, ◌&&◌, is_none}
use Rattle.std.specs.BTreeMap.{get_by_text}
use Rattle.std.specs.List.{filter_map, starts_with, take_while}
use Rattle.std.specs.Str.{IsUtf8, bytes_eq}
use Rattle.cedar_files.specs.declared.words.Word.{Word}
use Rattle.cedar_files.specs.declared.words.Word.TheVariants.{Text, Bytes}
use Rattle.cedar_files.specs.declared.words.Words.{Words}

-- the word is this text
abbrev pub IsText : Word → List ℕ → Type 0
IsText (Text own) text = own.now ≡ text
IsText (Bytes bytes) text = ⊥

-- the words, each as a text that is passed on for it
abbrev pub texts_of : Words → List (List ℕ)
texts_of w = map string_bytes w.texts.items

-- the word that a text stands in for, if it isn't a word itself
abbrev pub odd_bytes : Words → List ℕ → Option (List ℕ)
odd_bytes w text = option_map (λ bytes. bytes.items) (get_by_text w.odd text)

-- a text stands for this word: for itself, or for bytes that aren't UTF-8
abbrev pub StandsFor : Words → List ℕ → Word → Type 0
StandsFor w text (Text own) = (odd_bytes w text ≡ None) × (own.now ≡ text)
StandsFor w text (Bytes bytes) = odd_bytes w text ≡ Some bytes.now

-- the word `--`, after which there are no options
abbrev pub ends_options : (List ℕ → Option (List ℕ)) → List ℕ → Bool
ends_options odd text = is_none (odd text) && bytes_eq text (codes "--")

-- the first word that isn't UTF-8 and begins with a dash, of those before a word `--`; `odd` gives the bytes that a text stands for
abbrev pub odd_option_of : (List ℕ → Option (List ℕ)) → List (List ℕ) → Option (List ℕ)
odd_option_of odd texts = find (λ bytes. starts_with nat_eq bytes (codes "-"))
    (filter_map odd (take_while (λ text. not (ends_options odd text)) texts))

-- the same of all words
abbrev pub first_odd_option : Words → Option (List ℕ)
first_odd_option w = odd_option_of (odd_bytes w) (texts_of w)

-- a word is added: one that is UTF-8 as itself, and any other one by a text that begins with a zero byte and stands for it from
-- then on
pub record AddsWord (old : Words) (bytes : List ℕ) (new : Words) : Type 0 where
  pub text : List ℕ
  pub texts : texts_of new ≡ texts_of old ++ (text ∷ [])
  pub itself : IsUtf8 bytes → text ≡ bytes
  pub begins : ¬ (IsUtf8 bytes) → (rest : List ℕ) × (text ≡ 0 ∷ rest)
  pub stands_in : ¬ (IsUtf8 bytes) → odd_bytes new text ≡ Some bytes
  pub others : (other : List ℕ) → IsUtf8 bytes → odd_bytes new other ≡ odd_bytes old other
  pub odd_others : (other : List ℕ) → other ≢ text → odd_bytes new other ≡ odd_bytes old other
