-- Rules: what the lines of the grammar are made of, and what reads them, by the next token alone.
use Rattle.std.specs.Prelude.{ℕ, zero, suc, Bool, true, false, ◌||◌, ◌&&◌, not, length}
use Rattle.cedar_tokens.specs.declared.kind.Kind.{Kind}
use Rattle.cedar_tokens.specs.declared.kind.Kind.TheVariants as K
use Rattle.cedar_tokens.specs.Kinds.{is, is_ident, is_variable, begins}
use Rattle.cedar_grammar.specs.Reader.Sets.{no_kind, joined}
use Rattle.cedar_grammar.specs.Trees.{Label, none}
use Rattle.cedar_grammar.specs.Trees as L
use Rattle.cedar_grammar.specs.Reader.Reading.{Reader, done, stuck, after, choice, both, skip, tree, nest, repeat, token, one}
use Rattle.cedar_grammar.specs.Reader.Regroup.{gather}

pub data Rule : Type 0 where
  never empty inner : Rule
  leaf_of : (Kind → Bool) → Rule
  nested : Kind → Rule → Rule
  then either : Rule → Rule → Rule
  star : Rule → Rule
  tail : Kind → Rule → Rule → Rule → Rule
  node : Label → Rule → Rule
  shaped : Rule → Rule
  items : Rule → Rule
  entity : Rule
  reference : Rule → Rule

-- the kinds that an expression begins with
abbrev pub expr_first : Kind → Bool
expr_first x = is K.If x || is K.Neg x || is K.Dash x || is K.True x || is K.False x || is K.Number x || is K.Str x || is_ident x || is K.LParen x || is K.LBracket x || is K.LBrace x

-- the rule contains the empty list
abbrev pub nullable : Rule → Bool
nullable never = false
nullable empty = true
nullable inner = false
nullable (leaf_of p) = false
nullable (nested k a) = false
nullable (then a b) = nullable a && nullable b
nullable (either a b) = nullable b
nullable (star a) = true
nullable (tail s x y z) = nullable z
nullable (node l a) = nullable a
nullable (shaped a) = nullable a
nullable (items a) = false
nullable entity = false
nullable (reference c) = false

-- the kinds that the rule's lists begin with
abbrev pub first : Rule → Kind → Bool
first never = no_kind
first empty = no_kind
first inner = expr_first
first (leaf_of p) = p
first (nested k a) = is k
first (then a b) = joined (nullable a) (first a) (first b)
first (either a b) = λ k. first a k || first b k
first (star a) = first a
first (tail s x y z) = λ k. is s k || first z k
first (node l a) = first a
first (shaped a) = first a
first (items a) = first a
first entity = is_ident
first (reference c) = is_ident

module _ {A : Type 0} where
  abbrev pub refuse : Reader A
  refuse ts = stuck false ts

  abbrev pub shaped_at : Reader A → Reader A
  shaped_at P ts = after (P ts) (λ f r. done (gather none f) r)

module _ {A : Type 0} (kind : A → Kind) where
  -- S followed by X and so on, or S followed by Y; or else Z
  abbrev pub tail_to : Kind → (Kind → Bool) → Reader A → Reader A → Reader A → ℕ → Reader A
  tail_to s u X Y Z zero ts = Z ts
  tail_to s u X Y Z (suc n) ts = choice (begins kind (is s) ts) (both (one kind s) (λ rs. choice (begins kind u rs) (both X (tail_to s u X Y Z n)) Y rs)) Z ts

  unfoldable pub tailed : Kind → (Kind → Bool) → Reader A → Reader A → Reader A → Reader A
  tailed s u X Y Z ts = tail_to s u X Y Z (suc (length ts)) ts

  abbrev pub nested_at : Bool → Kind → Reader A → Reader A
  nested_at room k P ts = choice (begins kind (is k) ts) (nest room (both (one kind k) P)) refuse ts

  -- what reads the rule, where room says whether a bracket or an if is allowed, and E reads what it may contain
  abbrev pub read : Bool → Reader A → Rule → Reader A
  read room E never = refuse
  read room E empty = skip
  read room E inner = E
  read room E (leaf_of p) = token kind p
  read room E (nested k a) = nested_at room k (read room E a)
  read room E (then a b) = both (read room E a) (read room E b)
  read room E (either a b) = λ ts. choice (begins kind (first a) ts) (read room E a) (read room E b) ts
  read room E (star a) = repeat (begins kind (first a)) (read room E a)
  read room E (tail s x y z) = tailed s (first x) (read room E x) (read room E y) (read room E z)
  read room E (node l a) = tree l (read room E a)
  read room E (shaped a) = shaped_at (read room E a)
  read room E (items a) = refuse
  read room E entity = refuse
  read room E (reference c) = refuse

-- The written forms, as they are read.
abbrev pub word_of : (Kind → Bool) → Rule
word_of p = node L.ident (leaf_of p)

abbrev pub text_rule : Rule
text_rule = node L.str (leaf_of (is K.Str))

abbrev pub core : Rule → Rule
core never = never
core empty = empty
core inner = inner
core (leaf_of p) = leaf_of p
core (nested k a) = nested k (core a)
core (then a b) = then (core a) (core b)
core (either a b) = either (core a) (core b)
core (star a) = star (core a)
core (tail s x y z) = tail s (core x) (core y) (core z)
core (node l a) = node l (core a)
core (shaped a) = shaped (core a)
core (items a) = then (core a) (tail K.Comma (core a) empty empty)
core entity = shaped (then (word_of is_ident) (tail K.DoubleColon (word_of is_ident) text_rule never))
core (reference c) = shaped (either (then (word_of is_variable) (either (tail K.DoubleColon (word_of is_ident) text_rule (node L.access (core c))) empty))
    (then (word_of (λ k. is_ident k && not (is_variable k))) (tail K.DoubleColon (word_of is_ident) text_rule (node L.access (core c)))))
