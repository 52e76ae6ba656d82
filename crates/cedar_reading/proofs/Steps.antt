-- Steps of reading: what the tests of tokens mean,
-- how a refusal is passed on, and what the text of a leaf is.
use Rattle.std.specs.Prelude.{◌≡◌, ℕ, not, Bool, true, false, List, [], ◌∷◌, length, Some, Result}
use Rattle.std.proofs.Common.{refl, sym, ap, ◌∙◌, arith, subst}
use denote.Enum.Bare.{sameb, same_true}
use Rattle.cedar_tokens.specs.declared.kind.Kind.{Kind}
use Rattle.cedar_tokens.specs.contracts.kind.Kind.{the_type}
use Rattle.cedar_tokens.specs.declared.kind.Kind.TheVariants as K
use Rattle.cedar_tokens.specs.declared.kind.Words.{Words}
use Rattle.cedar_tokens.specs.Kinds.{is, is_any_word, is_ident, is_effect, is_cond_word, set_of, begins}
use Rattle.cedar_grammar.specs.Trees.{Label, none, leaf, branch}
use Rattle.cedar_grammar.specs.Reader.Reading.{Answer, done, stuck, token, tree}
use Rattle.cedar_grammar.proofs.KindSets.{every, kinds, every_kind, apart_at}
use Rattle.cedar_grammar.proofs.Readers.Equations.{token_yes, token_no, token_end, tree_done, tree_fails}
use Rattle.std.specs.Borrow.{Bor}
use Rattle.cedar_reading.specs.declared.lexeme.Lexeme.{Lexeme}
use Rattle.cedar_grammar.specs.declared.tree.Node.{Node}
use Rattle.cedar_grammar.specs.declared.tree.Ident.{Ident}
use Rattle.cedar_grammar.specs.declared.tree.Str.{Str}
use Rattle.cedar_reading.proofs.LeafTexts.{nodes_own, covers_leaf}
use Rattle.cedar_reading.specs.declared.reading.Refusal.{Refusal}
use Rattle.cedar_reading.specs.declared.reading.Refusal.TheVariants.{Grammar, TooDeep, OutOfMemory}
use Rattle.cedar_grammar.specs.Erased.{Erased}
use Rattle.cedar_reading.specs.Reading.{kind, Fails, Stands, GivesNode, IsIdentOf, IsStrOf, ident_parts, str_parts}

abbrev agree : Bool → Bool → Bool
agree true y = y
agree false y = not y

agreed : (x y : Bool) → agree x y ≡ true → x ≡ y
agreed true y h = sym h
agreed false true h = absurd cc
agreed false false h = refl

-- the test of two kinds
pub kind_test : (a b : Kind) → sameb the_type a b ≡ is a b
kind_test a b = agreed _ _ (every_kind (λ b. agree (sameb the_type a b) (is a b))
    (every_kind (λ a. every (λ b. agree (sameb the_type a b) (is a b)) kinds) refl a) b)

pub kind_is : (a b : Kind) → is a b ≡ true → a ≡ b
kind_is a b e = same_true the_type tt a b (kind_test a b ∙ e)

pub is_itself : (a b : Kind) → a ≡ b → is a b ≡ true
is_itself a b e = sym (ap (is a) e) ∙ every_kind (λ k. is k k) refl a

-- the first token of a list
pub token_at : (p : Kind → Bool) (ts : List Lexeme) (t : Lexeme) (r : List Lexeme) → ts ≡ t ∷ r
    → p t.kind ≡ true → token kind p ts ≡ done (leaf t none) r
token_at p ts t r e h = ap (token kind p) e ∙ token_yes kind p t r h

pub token_not : (p : Kind → Bool) (ts : List Lexeme) → begins kind p ts ≡ false
    → token kind p ts ≡ stuck false ts
token_not p [] h = token_end kind p
token_not p (t ∷ r) h = token_no kind p t r h

pub none_begins : (p : Kind → Bool) (ts : List Lexeme) → length ts ≡ 0 → begins kind p ts ≡ false
none_begins p [] h = refl
none_begins p (t ∷ r) h = absurd (omega (arith, h))

pub first_begins : (p : Kind → Bool) (ts : List Lexeme) (t : Lexeme) (r : List Lexeme) → ts ≡ t ∷ r
    → begins kind p ts ≡ p t.kind
first_begins p ts t r e = ap (begins kind p) e

-- if what is read first is refused, so is the whole
pub passes : (e : Refusal) (a b : Answer Lexeme) → Fails e a
    → ((x : Bool) (r : List Lexeme) → a ≡ stuck x r → b ≡ stuck x r) → Fails e b
passes (Grammar left) a b h k = (h.0, k false h.0 h.1, h.2)
passes (TooDeep left) a b h k = (h.0, k true h.0 h.1, h.2)
passes OutOfMemory a b h k = tt

pub fails_as : (e : Refusal) (a b : Answer Lexeme) → Fails e a → b ≡ a → Fails e b
fails_as e a b h k = subst (Fails e) (sym k) h

pub gives_as : {X : Type 0} (l : Label) (parts : X → Erased)
    (result : Result (Node X × Bor (List Lexeme)) Refusal) (a b : Answer Lexeme)
    → GivesNode l parts result a → b ≡ a → GivesNode l parts result b
gives_as l parts result a b h k = subst (GivesNode l parts result) (sym k) h

-- one token as a node
pub tree_not : (l : Label) (p : Kind → Bool) (e : Refusal) (ts : List Lexeme)
    → Fails e (stuck false ts) → begins kind p ts ≡ false → Fails e (tree l (token kind p) ts)
tree_not l p e ts h b = fails_as e (stuck false ts) (tree l (token kind p) ts) h
    (tree_fails l (token kind p) ts false ts (token_not p ts b))

pub tree_at : (l : Label) (p : Kind → Bool) (ts : List Lexeme) (t : Lexeme) (r : List Lexeme)
    → ts ≡ t ∷ r → p t.kind ≡ true → tree l (token kind p) ts ≡ done (branch l (leaf t none) none) r
tree_at l p ts t r e h = tree_done l (token kind p) ts (leaf t none) r (token_at p ts t r e h)

-- the set contains neither commas nor numbers
pub word_stands : (p : Kind → Bool) (t : Lexeme) (n : Node Ident) → IsIdentOf t n → p t.kind ≡ true
    → ((k : Kind) → p k ≡ true → (is K.Comma k ≡ false) × (is K.Number k ≡ false))
    → Stands n.span (ident_parts n.inner) (leaf t none)
word_stands p t n h k apart = record {
  same = λ r. ap (λ (u : Bor (List ℕ)). leaf u.now none) h.0
      ∙ sym (nodes_own t t.kind none r.0 refl (apart t.kind k).0 (apart t.kind k).1);
  place = covers_leaf t t.kind refl (apart t.kind k).0 ∙ ap Some (sym h.1);
}

pub str_stands : (t : Lexeme) (n : Node Str) → IsStrOf t n → t.kind ≡ K.Str
    → Stands n.span (str_parts n.inner) (leaf t none)
str_stands t n h k = record {
  same = λ r.
      ap (λ (u : Bor (List ℕ)). leaf u.now none) h.0 ∙ sym (nodes_own t K.Str none r.0 k refl refl);
  place = covers_leaf t K.Str k refl ∙ ap Some (sym h.1);
}

-- no set of words contains commas or numbers
pub words_apart : (w : Words) (k : Kind) → set_of w k ≡ true
    → (is K.Comma k ≡ false) × (is K.Number k ≡ false)
words_apart Words.Identifier k h =
    (apart_at is_ident (is K.Comma) refl k h, apart_at is_ident (is K.Number) refl k h)
words_apart Words.Any k h =
    (apart_at is_any_word (is K.Comma) refl k h, apart_at is_any_word (is K.Number) refl k h)
words_apart Words.Effect k h =
    (apart_at is_effect (is K.Comma) refl k h, apart_at is_effect (is K.Number) refl k h)
words_apart Words.Condition k h =
    (apart_at is_cond_word (is K.Comma) refl k h, apart_at is_cond_word (is K.Number) refl k h)
