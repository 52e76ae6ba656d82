-- Paths read from left to right: what was read so far, and what it turns out to be.
use Rattle.std.specs.Prelude.{Bool, true, false}
use Rattle.cedar_grammar.specs.Trees.{Label, Forest, none, leaf, branch, join, str, access, primary, name, ref}

abbrev pub pick : {A : Type 0} → Bool → A → A → A
pick true x y = x
pick false x y = y

abbrev pub is_text : Label → Bool
is_text str = true
is_text l = false

abbrev pub is_access : Label → Bool
is_access access = true
is_access l = false

abbrev pub text_first : {A : Type 0} → Forest Label A → Bool
text_first none = false
text_first (leaf a f) = false
text_first (branch l f g) = is_text l

-- The identifiers and marks read, and what follows them: with a string an entity, with a call or nothing a name.
abbrev pub gather : {A : Type 0} → Forest Label A → Forest Label A → Forest Label A
gather read none = branch primary (branch name read none) none
gather read (leaf a f) = pick (text_first f) (branch primary (branch ref (branch name read (leaf a f)) none) none) (gather (join read (leaf a none)) f)
gather read (branch l f g) = pick (is_access l) (branch primary (branch name read none) (branch l f g)) (gather (join read (branch l f none)) g)
