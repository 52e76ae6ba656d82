-- How the atoms of a document print tokens with their comments.
use Rattle.std.proofs.Common.{◌≡◌, ℕ, List, [], ◌∷◌, ◌++◌, false, replicate}
use Rattle.cedar_tokens.specs.Bytes.{line_feed, space_character}
use Rattle.cedar_tokens.specs.Listing.{Decorated, token_value}
use Rattle.cedar_layout.specs.Layout.{Atom, word, space_or_break, nothing_or_break, must_break}
use Rattle.cedar_laws.specs.Neighbours.{glues, first_or}
use Rattle.cedar_laws.specs.Fit.{before_of, after_of}

-- a line feed and the indentation
abbrev pub break : ℕ → List ℕ
break n = line_feed ∷ replicate n space_character

-- s prints the atoms: a break is a line feed and spaces;
-- a line may be a space, a line_or_nil nothing
pub data Prints : List Atom → List ℕ → Type 0 where
  p_nil : Prints [] []
  p_word : {w : List ℕ} {xs : List Atom} {s : List ℕ} → Prints xs s → Prints (word w ∷ xs) (w ++ s)
  p_line : {xs : List Atom} {s : List ℕ} → Prints xs s
      → Prints (space_or_break ∷ xs) (space_character ∷ s)
  p_line_break : {xs : List Atom} {s : List ℕ} (n : ℕ) → Prints xs s
      → Prints (space_or_break ∷ xs) (break n ++ s)
  p_nothing : {xs : List Atom} {s : List ℕ} → Prints xs s → Prints (nothing_or_break ∷ xs) s
  p_nil_break : {xs : List Atom} {s : List ℕ} (n : ℕ) → Prints xs s
      → Prints (nothing_or_break ∷ xs) (break n ++ s)
  p_hard : {xs : List Atom} {s : List ℕ} (n : ℕ) → Prints xs s
      → Prints (must_break ∷ xs) (break n ++ s)

abbrev pub line_atoms : List (List ℕ) → List Atom
line_atoms [] = []
line_atoms (l ∷ ls) = word l ∷ must_break ∷ line_atoms ls

abbrev pub lead_atoms : List (List ℕ) → List Atom
lead_atoms [] = []
lead_atoms (l ∷ ls) = must_break ∷ line_atoms (l ∷ ls)

abbrev pub trail_atoms : List ℕ → List Atom
trail_atoms [] = []
trail_atoms (c ∷ cs) = word (space_character ∷ []) ∷ word (c ∷ cs) ∷ must_break ∷ []

-- The atoms print these tokens,
-- each with its leading lines before it and its trailing text after it, and blanks between;
-- no token glues to what precedes it. c comes before the atoms,
-- d is at worst the last character after them.
pub data Weave : ℕ → List Decorated → List Atom → ℕ → Type 0 where
  done : {c : ℕ} → Weave c [] [] c
  w_space : {c d : ℕ} {ts : List Decorated} {xs : List Atom} → Weave space_character ts xs d
      → Weave c ts (word (space_character ∷ []) ∷ xs) d
  w_line : {c d : ℕ} {ts : List Decorated} {xs : List Atom} → Weave space_character ts xs d
      → Weave c ts (space_or_break ∷ xs) d
  w_line_or_nil : {c d : ℕ} {ts : List Decorated} {xs : List Atom} → Weave c ts xs d
      → Weave c ts (nothing_or_break ∷ xs) d
  w_hard : {c d : ℕ} {ts : List Decorated} {xs : List Atom} → Weave space_character ts xs d
      → Weave c ts (must_break ∷ xs) d
  w_token : {c d : ℕ} {ts : List Decorated} {xs : List Atom} (t : Decorated)
      → glues (before_of c t.leading) (first_or space_character (token_value t.text)) ≡ false
      → Weave (after_of (token_value t.text) t.trailing) ts xs d → Weave c (t
      ∷ ts) (lead_atoms t.leading ++ (word (token_value t.text) ∷ (trail_atoms t.trailing ++ xs))) d
