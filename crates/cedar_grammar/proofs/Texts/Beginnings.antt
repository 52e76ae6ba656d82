-- What begins a list of the grammar over texts, and of the grammar over kinds.
use Rattle.std.proofs.Common.{◌≡◌, ℕ, Bool, true, false, cond, ◌==◌, List, [], ◌∷◌, ◌++◌, refl, ap, sym, ◌∙◌, subst}
use Rattle.std.specs.Prelude.{◌↔◌, codes}
use Rattle.std.specs.Char.{is_ascii_digit}
use Rattle.std.proofs.lemmas.Bool.{both_ways, false_from_ne_true}
use Rattle.cedar_tokens.specs.Units.{IsToken, is_token, is_one_of}
use Rattle.cedar_tokens.specs.declared.kind.Kind.TheVariants as K
use Rattle.cedar_tokens.specs.TokenKinds.{fixed_tokens, other_kind, kind_of}
use Rattle.cedar_grammar.specs.KindGrammar.{G}
use Rattle.cedar_grammar.proofs.Rules.Maps.{each, relabel}
use Rattle.cedar_grammar.proofs.Trees.Relabelling.{relabelled}
use Rattle.cedar_grammar.specs.Laws.{AreTokens}
use Rattle.cedar_grammar.specs.Beginnings.{Begins}
use Rattle.cedar_grammar.specs.Reader.Hopeless.{BeginsByKinds}
use Rattle.cedar_grammar.proofs.Texts.Tests.{fixed_texts, fixed_is_token, other_kind_of}
use Rattle.cedar_grammar.proofs.Texts.Languages.{whole}
use Rattle.cedar_grammar.proofs.Texts.Grammars.{grammars_agree, texts_are_tokens}
use Rattle.cedar_tokens.specs.Bytes.{quote}

-- a token of the kind that the table's other texts have
abbrev stand_in : List ℕ → List ℕ
stand_in [] = codes "a"
stand_in (b ∷ bs) =
    cond (b == quote) (codes "\"\"") (cond (is_ascii_digit b) (codes "1") (codes "a"))

stand_in_kind : (t : List ℕ) → kind_of (stand_in t) ≡ other_kind t
stand_in_kind [] = refl
stand_in_kind (b ∷ bs) = go (b == quote) (is_ascii_digit b)
  where
    go : (c d : Bool) → kind_of (cond c (codes "\"\"") (cond d (codes "1") (codes "a")))
        ≡ cond c K.Str (cond d K.Number K.Identifier)
    go true d = refl
    go false true = refl
    go false false = refl

stand_in_token : (t : List ℕ) → IsToken (stand_in t)
stand_in_token [] = refl
stand_in_token (b ∷ bs) = go (b == quote) (is_ascii_digit b)
  where
    go : (c d : Bool) → IsToken (cond c (codes "\"\"") (cond d (codes "1") (codes "a")))
    go true d = refl
    go false true = refl
    go false false = refl

not_fixed : (t : List ℕ) → is_token t ≡ false → is_one_of fixed_texts t ≡ false
not_fixed t h = false_from_ne_true (is_one_of fixed_texts t)
    (λ e. both_ways (is_token t) h (fixed_is_token t e))

-- a token of the kind of any text, and the text itself where it is one
abbrev as_token : List ℕ → List ℕ
as_token t = cond (is_token t) t (stand_in t)

as_token_kind : (t : List ℕ) → kind_of (as_token t) ≡ kind_of t
as_token_kind t = go (is_token t) refl
  where
    go : (b : Bool) → is_token t ≡ b → kind_of (cond b t (stand_in t)) ≡ kind_of t
    go true e = refl
    go false e = stand_in_kind t ∙ sym (other_kind_of fixed_tokens t (not_fixed t e))

is_as_token : (t : List ℕ) → IsToken (as_token t)
is_as_token t = go (is_token t) refl
  where
    go : (b : Bool) → is_token t ≡ b → IsToken (cond b t (stand_in t))
    go true e = e
    go false e = stand_in_token t

token_kept : (t : List ℕ) → IsToken t → as_token t ≡ t
token_kept t h = ap (λ b. cond b t (stand_in t)) h

are_tokens : (ts : List (List ℕ)) → AreTokens (λ t. t) (each as_token ts)
are_tokens [] = tt
are_tokens (t ∷ ts) = (is_as_token t, are_tokens ts)

front_kept : (front rest : List (List ℕ)) → AreTokens (λ t. t) front
    → each as_token (front ++ rest) ≡ front ++ each as_token rest
front_kept [] rest h = refl
front_kept (t ∷ ts) rest h = ap (λ z. z ∷ each as_token (ts ++ rest)) (token_kept t h.0)
    ∙ ap (λ z. t ∷ z) (front_kept ts rest h.1)

-- tokens begin a list of the grammar over texts if and only if they begin one of the grammar over kinds
pub beginnings_agree : (d : ℕ) (front : List (List ℕ)) → AreTokens (λ t. t) front
    → Begins d front ↔ BeginsByKinds kind_of d front
beginnings_agree d front h = (
  λ b. record {
    rest = b.rest;
    tree = b.tree;
    grammar = (grammars_agree (λ t. t) d (front ++ b.rest) b.tree
        (texts_are_tokens (λ t. t) d (front ++ b.rest) b.tree b.grammar)).0 b.grammar;
  },
  λ b. record {
    rest = each as_token b.rest;
    tree = relabel as_token b.tree;
    grammar = (grammars_agree (λ t. t) d (front ++ each as_token b.rest) (relabel as_token b.tree)
        (whole (λ t. t) front (each as_token b.rest) h (are_tokens b.rest))).1
        (subst (λ ts. G kind_of d (relabel as_token b.tree) ts) (front_kept front b.rest h)
        (relabelled as_token kind_of kind_of as_token_kind d b.tree (front ++ b.rest) b.grammar));
  },
)
