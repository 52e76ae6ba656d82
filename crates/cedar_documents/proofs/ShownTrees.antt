-- The typed policies whose leaves are a context's tokens.
use Rattle.std.proofs.Common.{◌≡◌, List, [], ◌∷◌, map, Some, None, refl, sym, ap, ◌∙◌}
use Rattle.std.specs.Prelude.{if◌then◌else◌}
use Rattle.std.specs.List.{flat_map}
use Rattle.cedar_tokens.specs.Listing.{token_value}
use Rattle.cedar_tokens.specs.declared.token.Span.{Span}
use Rattle.cedar_grammar.specs.Trees.{Label, Forest, none, leaf, branch, yield}
use Rattle.cedar_grammar.specs.KindGrammar.{G}
use Rattle.cedar_grammar.specs.Texts.{greatest_depth}
use Rattle.cedar_grammar.specs.Placed.{Placed, kind_of_placed}
use Rattle.cedar_grammar.specs.TrailingCommas.{plain, without_trailing}
use Rattle.cedar_grammar.specs.TypedTrees.{Clause, policy, set_tree, part_yield}
use Rattle.cedar_grammar.specs.Reader.Reading.{Answer, done, stuck}
use Rattle.cedar_grammar.specs.Reader.Lines.{set_to}
use Rattle.cedar_grammar.proofs.Rules.Maps.{each, relabel, answer_of, set_agrees}
use Rattle.cedar_grammar.proofs.WholeLaws.{set_complete}
use Rattle.cedar_grammar.proofs.Trees.Relabelling.{relabel_yield, each_map}
use Rattle.cedar_layout.specs.Lookups.{Shown}
use Rattle.cedar_grammar.specs.NodeTrees.{is_node, spanned, span_of, end_of}
use Rattle.cedar_tokens.specs.TokenKinds.{kind_of}
use Rattle.cedar_tokens.specs.declared.kind.Kind.{Kind}
use Rattle.cedar_documents.specs.Taking.{text_of, nodes_of}
use Rattle.cedar_grammar.proofs.Typed.PlainLists.{policies_of}

abbrev pub kind_of_shown : Shown → Kind
kind_of_shown t = kind_of (text_of t)

-- a token's text and its place
abbrev pub place_of : Shown → Placed
place_of t = record { text = text_of t; span = t.span }

-- ---- the nodes are those of the tokens with their places

end_same : (s : Span) (ts : List Shown) → end_of (λ (t : Placed). t.text) (λ t.
    t.span) s (each place_of ts) ≡ end_of text_of (λ t. t.span) s ts
end_same s [] = refl
end_same s (t ∷ ts) = end_same t.span ts

span_same : (ts : List Shown) → span_of (λ (t : Placed). t.text) (λ t. t.span) (each place_of ts)
    ≡ span_of text_of (λ t. t.span) ts
span_same [] = refl
span_same (t ∷ ts) = ap (λ e. Some (record { start = t.span.start; end = e })) (end_same t.span ts)

nodes_same : (f : Forest Label Shown)
    → spanned (λ (t : Placed). t.text) (λ t. t.span) (relabel place_of f) ≡ nodes_of f
nodes_same none = refl
nodes_same (leaf t f) = ap (λ z. leaf (token_value (text_of t)) z) (nodes_same f)
nodes_same (branch l f g) =
    ap
    (λ z. branch (l, if is_node l then z else None) (spanned (λ (t : Placed). t.text) (λ t. t.span)
    (relabel place_of f)) (spanned (λ (t : Placed). t.text) (λ t. t.span) (relabel place_of g)))
    (ap (λ z. span_of (λ (t : Placed). t.text) (λ t. t.span) z)
    (relabel_yield place_of f) ∙ span_same (yield f))
    ∙ ap (λ z. branch (l, if is_node l then span_of text_of (λ t. t.span) (yield f) else None) z
    (spanned (λ (t : Placed). t.text) (λ t. t.span) (relabel place_of g))) (nodes_same f)
    ∙ ap (λ z. branch (l, if is_node l then span_of text_of (λ t. t.span) (yield f) else None)
    (nodes_of f) z) (nodes_same g)

-- ---- tokens whose places are a list of the grammar without trailing commas

pub record TypedOver (f : Forest Label Placed) (ts : List Shown) : Type 0 where
  pub policies : List (Clause Shown policy)
  pub leaves : flat_map part_yield policies ≡ ts
  pub grammar : G kind_of_shown greatest_depth (set_tree kind_of_shown policies) ts
  pub plain : without_trailing kind_of_shown (set_tree kind_of_shown policies)
      ≡ set_tree kind_of_shown policies
  pub nodes : nodes_of (set_tree kind_of_shown policies)
      ≡ spanned (λ (t : Placed). t.text) (λ t. t.span) f

pub typed_over : (ts : List Shown) (f : Forest Label Placed)
    → G kind_of_placed greatest_depth f (map place_of ts) → plain kind_of_shown ts ≡ ts
    → TypedOver f ts
typed_over ts f h same = go (set_to kind_of_shown greatest_depth ts) refl (sym agrees ∙ read)
  where
    read : set_to kind_of_placed greatest_depth (each place_of ts) ≡ done f []
    read = ap (set_to kind_of_placed greatest_depth) (each_map place_of ts ∙ sym h.leaves)
        ∙ set_complete kind_of_placed greatest_depth f h.shape

    agrees : set_to kind_of_placed greatest_depth (each place_of ts)
        ≡ answer_of place_of (set_to kind_of_shown greatest_depth ts)
    agrees = set_agrees place_of kind_of_shown kind_of_placed (λ t. refl) greatest_depth ts

    go : (a : Answer Shown) → set_to kind_of_shown greatest_depth ts ≡ a
        → answer_of place_of a ≡ done f [] → TypedOver f ts
    go (stuck b r) e q = absurd cc
    go (done g (a ∷ r)) e q = absurd cc
    go (done g []) e q =
        let h = policies_of kind_of_shown ts g e same in
        let r : relabel place_of g ≡ f = cc in
        record {
          policies = h.policies;
          leaves = h.leaves;
          grammar = h.grammar;
          plain = h.plain;
          nodes = ap nodes_of h.is ∙ sym (nodes_same g)
              ∙ ap (λ z. spanned (λ (t : Placed). t.text) (λ t. t.span) z) r;
        }
