-- The classes of the tokens and comments so far.
use Rattle.std.proofs.Common.{◌≡◌, ◌+◌, ℕ, true, false, List, [], ◌∷◌, ◌++◌, length, refl, ap, sym, ◌∙◌, Option, Some, None, subst}
use Rattle.std.proofs.lemmas.List.{append_assoc, append-nil}
use Rattle.cedar_tokens.specs.Units.{is_token, is_comment}
use Rattle.cedar_tokens.specs.TokenKinds.{kind_of}
use Rattle.cedar_tokens.specs.declared.kind.Kind.{Kind}
use Rattle.cedar_server.specs.Parts.{IsPart, AreParts}
use Rattle.cedar_server.specs.Classes.{class_of}
use Rattle.cedar_server.specs.Semantic.{semantic, AreSemantic, AreSemanticTokens}
use Rattle.cedar_server.specs.Inside.Ahead.{HasAhead}
use Rattle.cedar_server.specs.declared.classes.Class.{Class}
use Rattle.cedar_server.specs.declared.semantic.SemanticToken.{SemanticToken}
use Rattle.cedar_server.proofs.Reading.{more_parts}

-- whatever follows these is followed by all of the text's
abbrev pub SemanticSoFar : List ℕ → ℕ → Option Kind → List ℕ → List SemanticToken → Type 0
SemanticSoFar text at before rest tokens = (more : List SemanticToken) → AreSemantic at before rest more
    → AreSemanticTokens text (tokens ++ more)

pub none_so_far : (text : List ℕ) → SemanticSoFar text 0 None text []
none_so_far text more a = a

no_parts : (at : ℕ) (before : Option Kind) → semantic at before [] ≡ []
unfolding semantic
no_parts at before = refl

pub all_so_far : (text : List ℕ) (at : ℕ) (before : Option Kind) (rest : List ℕ) (tokens : List SemanticToken)
    → rest ≡ [] → SemanticSoFar text at before rest tokens → AreSemanticTokens text tokens
all_so_far text at before rest tokens e s =
    subst (AreSemanticTokens text) (append-nil tokens) (s [] (record { parts = []; are = e; value = sym (no_parts at before) }))

module _ (text rest u new : List ℕ) (at : ℕ) (before : Option Kind) (tokens : List SemanticToken)
    (s : SemanticSoFar text at before rest tokens) (p : IsPart rest u) (e : rest ≡ u ++ new) where
  skips : (us : List (List ℕ)) → is_token u ≡ false → is_comment u ≡ false
      → semantic at before (u ∷ us) ≡ semantic (at + length u) before us
  unfolding semantic
  skips us t c = rw (t, c) refl

  comments : (us : List (List ℕ)) → is_token u ≡ false → is_comment u ≡ true
      → semantic at before (u ∷ us) ≡ record { span = record { start = at; end = at + length u }; class = Class.Comment } ∷ semantic (at + length u) before us
  unfolding semantic
  comments us t c = rw (t, c) refl

  pub skip_so_far : is_token u ≡ false → is_comment u ≡ false → SemanticSoFar text (at + length u) before new tokens
  skip_so_far t c more a = s more (record {
    parts = u ∷ a.parts;
    are = more_parts rest u new a.parts p e a.are;
    value = a.value ∙ sym (skips a.parts t c);
  })

  -- one more token or comment
  abbrev pub With : Class → List SemanticToken → Type 0
  With class now = now ≡ tokens ++ record { span = record { start = at; end = at + length u }; class = class } ∷ []

  pub comment_so_far : (class : Class) (old : Option Kind) (now : List SemanticToken) → is_token u ≡ false → is_comment u ≡ true
      → class ≡ Class.Comment → old ≡ before → With class now → SemanticSoFar text (at + length u) old new now
  comment_so_far class old now t c f b w = rw (b, w, f) go
    where
      go : SemanticSoFar text (at + length u) before new (tokens ++ record { span = record { start = at; end = at + length u }; class = Class.Comment } ∷ [])
      go more a = rw append_assoc (s (record { span = record { start = at; end = at + length u }; class = Class.Comment } ∷ more) (record {
        parts = u ∷ a.parts;
        are = more_parts rest u new a.parts p e a.are;
        value = ap (λ z. record { span = record { start = at; end = at + length u }; class = Class.Comment } ∷ z) a.value ∙ sym (comments a.parts t c);
      }))

  module _ (next second : Option Kind) (ahead : HasAhead new next second) where
    abbrev here : SemanticToken
    here = record { span = record { start = at; end = at + length u }; class = class_of (record { before = before; next = next; second = second }) (kind_of u) }

    classed : (us : List (List ℕ)) → is_token u ≡ true → AreParts new us
        → semantic at before (u ∷ us) ≡ here ∷ semantic (at + length u) (Some (kind_of u)) us
    unfolding semantic
    classed us t a = rw (t, (ahead us a).0, (ahead us a).1) refl

    pub token_so_far : (k : Kind) (class : Class) (latest : Option Kind) (now : List SemanticToken) → is_token u ≡ true → k ≡ kind_of u
        → class ≡ class_of (record { before = before; next = next; second = second }) k → latest ≡ Some k
        → With class now → SemanticSoFar text (at + length u) latest new now
    token_so_far k class latest now t g f b w = rw (b, w, f, g) go
      where
        go : SemanticSoFar text (at + length u) (Some (kind_of u)) new (tokens ++ here ∷ [])
        go more a = rw append_assoc (s (here ∷ more) (record {
          parts = u ∷ a.parts;
          are = more_parts rest u new a.parts p e a.are;
          value = ap (λ z. here ∷ z) a.value ∙ sym (classed a.parts t a.are);
        }))
