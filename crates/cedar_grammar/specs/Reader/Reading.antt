-- Reading from left to right: what a list of tokens begins with, and where it fails.
use Rattle.std.specs.Prelude.{ℕ, zero, suc, Bool, true, false, List, [], ◌∷◌, length}
use Rattle.cedar_tokens.specs.declared.kind.Kind.{Kind}
use Rattle.cedar_tokens.specs.Kinds.{is}
use Rattle.cedar_grammar.specs.Trees.{Label, Forest, none, leaf, branch, join}

-- Trees and the tokens after them; or the tokens from the failing one on, and whether only the depth failed.
pub data Answer (A : Type 0) : Type 0 where
  done : Forest Label A → List A → Answer A
  stuck : Bool → List A → Answer A

abbrev pub Reader : Type 0 → Type 0
Reader A = List A → Answer A

abbrev pub after : {A : Type 0} → Answer A → (Forest Label A → List A → Answer A) → Answer A
after (done f ts) k = k f ts
after (stuck b ts) k = stuck b ts

unfoldable pub choice : {A : Type 0} → Bool → Reader A → Reader A → Reader A
choice true P Q ts = P ts
choice false P Q ts = Q ts

unfoldable pub both : {A : Type 0} → Reader A → Reader A → Reader A
both P Q ts = after (P ts) (λ f r. after (Q r) (λ g s. done (join f g) s))

abbrev pub skip : {A : Type 0} → Reader A
skip ts = done none ts

unfoldable pub tree : {A : Type 0} → Label → Reader A → Reader A
tree l P ts = after (P ts) (λ f r. done (branch l f none) r)

abbrev pub too_deep : {A : Type 0} → Reader A
too_deep ts = stuck true ts

-- A bracket or an if is read where there is room for it.
unfoldable pub nest : {A : Type 0} → Bool → Reader A → Reader A
nest room P ts = choice room P too_deep ts

-- as long as the test holds; the number bounds the turns, and one more than the tokens is enough
unfoldable pub many : {A : Type 0} → (List A → Bool) → Reader A → ℕ → Reader A
many t P zero ts = skip ts
many t P (suc n) ts = choice (t ts) (both P (many t P n)) skip ts

unfoldable pub repeat : {A : Type 0} → (List A → Bool) → Reader A → Reader A
repeat t P ts = many t P (suc (length ts)) ts

module _ {A : Type 0} (kind : A → Kind) where
  unfoldable pub token : (Kind → Bool) → Reader A
  token p [] = stuck false []
  token p (a ∷ ts) = choice (p (kind a)) (λ _. done (leaf a none) ts) (λ _. stuck false (a ∷ ts)) ts

  abbrev pub one : Kind → Reader A
  one k = token (is k)
