-- The document of a text's first policy.
use Rattle.std.specs.Prelude.{◌≡◌, [], ◌∷◌, ℤ, ℕ, List, Contains, MatchOption, None, Ok, Option, Some}
use Rattle.std.specs.Option.{IsSomeAnd, option_copied}
use Rattle.std.specs.List.{slice_get}
use Rattle.std.specs.Borrow.{Bor}
use Rattle.std.proofs.Common.{refl, sym, ap, ◌∙◌, subst}
use Rattle.std.proofs.Math.Nat.{zero-lt-suc}
use Rattle.std.proofs.lemmas.Option.{same_Some}
use Rattle.cedar_tokens.specs.declared.token.WrappedToken.{WrappedToken}
use Rattle.cedar_grammar.specs.Trees.{Label}
use Rattle.cedar_layout.specs.Layout.{Doc}
use Rattle.cedar_layout.specs.Lookups.{Shown}
use Rattle.cedar_layout.specs.Value.{doc_of}
use Rattle.cedar_layout.specs.declared.layout.Document.{Document}
use Rattle.cedar_grammar.specs.Erased.{policy_parts}
use Rattle.cedar_grammar.specs.NodeTrees.{IsTreeOf}
use Rattle.cedar_grammar.specs.declared.tree.Node.{Node}
use Rattle.cedar_grammar.specs.declared.tree.Policies.{Policies}
use Rattle.cedar_grammar.specs.declared.tree.Policy.{Policy}
use Rattle.cedar_documents.specs.OwnTokens.{IsShownAs, PoliciesMeetTheirTokens, StandTogether}
use Rattle.cedar_documents.specs.ShownNodes.{ShowsPart}
use Rattle.cedar_examples.specs.Documents.{ArePlainTokensOf, IsDocumentIn, IsFirstDocument}

-- what `first` returns for a list without items, and for one with some
pub no_first : {X : Type 0} (xs : List X) (r : Option (Bor X)) → r ≡ None
    → option_copied r ≡ slice_get xs 0 → xs ≡ []
no_first [] r n e = refl
no_first (x ∷ xs) r n e = let h : None ≡ Some x = sym (ap option_copied n) ∙ e in absurd cc

pub the_first : {X : Type 0} (xs : List X) (r : Option (Bor X)) (p : Bor X) → r ≡ Some p
    → option_copied r ≡ slice_get xs 0 → (others : List X) × (xs ≡ p.now ∷ others)
the_first [] r p s e = let h : Some p.now ≡ None = sym (ap option_copied s) ∙ e in absurd cc
the_first (x ∷ xs) r p s e =
    (xs, ap (λ z. z ∷ xs) (same_Some _ _ (sym (sym (ap option_copied s) ∙ e))))

-- if a document is given, it is the table's, and one is given
given : (text : List ℕ) (indent : ℤ) (items : List (Node Policy)) (n : Node Policy)
    (others : List (Node Policy)) (tokens : List WrappedToken) (own : List Shown) (doc : Doc)
    (Rest : Document → Type 0) → items ≡ n ∷ others → ArePlainTokensOf text tokens
    → StandTogether tokens own
    → IsShownAs Label.policy n.span (policy_parts n.inner) indent own doc
    → (answer : Option Document) → IsSomeAnd answer (λ d. (doc_of d ≡ doc) × Rest d)
    → MatchOption answer (items ≡ []) (λ d. (first : Node Policy) × (more : List (Node Policy))
    × (items ≡ first ∷ more) × IsDocumentIn text indent first d)
given text indent items n others tokens own doc Rest e plain together shown None s = absurd s
given text indent items n others tokens own doc Rest e plain together shown (Some d) s = (
  n,
  others,
  e,
  record {
    tokens = tokens;
    are_plain = plain;
    own = own;
    together = together;
    shown = subst (λ z. IsShownAs Label.policy n.span (policy_parts n.inner) indent own z)
        (sym s.0) shown;
  },
)

-- the document of the first policy, from what `to_doc` says about its own tokens
pub documented : (law : PoliciesMeetTheirTokens) (text : List ℕ) (tree : Policies)
    (tokens new : List WrappedToken) (plain : ArePlainTokensOf text tokens) (indent : ℤ)
    (n : Node Policy) (others : List (Node Policy)) (answer : Option Document) → IsTreeOf text tree
    → tree.policies.items ≡ n ∷ others
    → ((own : List Shown) (doc : Doc) → IsShownAs Label.policy n.span
    (policy_parts n.inner) indent own doc → ShowsPart (Ok answer) tokens new own doc)
    → IsFirstDocument indent text answer
documented law text tree tokens new plain indent n others answer is e shows =
    let at : Contains tree.policies.items n =
    subst (λ z. Contains z n) (sym e) (0, zero-lt-suc _, refl) in
    let (own, doc, shown, together) = law text tree tokens is plain.are_tokens n at indent in (
      tree,
      is,
      given text indent tree.policies.items n others tokens own doc _ e plain together shown answer
          (shows own doc shown together.0 together.1 together.2),
    )
