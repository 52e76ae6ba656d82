-- A text's output has the text's policies, so the check of a result never fails.
use Rattle.std.proofs.Common.{◌≡◌, ℕ, ℤ, List, map, refl, sym, ap, ◌∙◌, subst}
use Rattle.std.specs.Str.{IsUtf8}
use Rattle.cedar_tokens.specs.Listing.{Decorated, Listing, IsListing, listing, token_value}
use Rattle.cedar_tokens.specs.PlainList.{plain_list}
use Rattle.cedar_grammar.specs.Trees.{Label, Forest, none, leaf, branch}
use Rattle.cedar_grammar.specs.KindGrammar.{G, PolicySet}
use Rattle.cedar_tokens.specs.TokenKinds.{kind_of}
use Rattle.cedar_grammar.specs.Texts.{greatest_depth}
use Rattle.cedar_grammar.specs.Placed.{Placed, placed, kind_of_placed}
use Rattle.cedar_grammar.specs.TrailingCommas.{plain, without_trailing}
use Rattle.cedar_grammar.proofs.Texts.Placed.{tree_by_kinds}
use Rattle.cedar_grammar.proofs.Plain.ByTexts.{plain_same}
use Rattle.cedar_grammar.proofs.Rules.Maps.{relabel}
use Rattle.cedar_grammar.proofs.Plain.Grammar.{plain_is_in_the_grammar}
use Rattle.cedar_grammar.proofs.Trees.Relabelling.{relabelled, map_map}
use Rattle.cedar_grammar.proofs.Trees.Laws.{list_has_one_tree}
use Rattle.cedar_grammar.specs.Erased.{erase, without_spans, SameTree}
use Rattle.cedar_grammar.specs.TreeLaws.{NodesHaveThePlainTexts}
use Rattle.cedar_grammar.specs.NodeTrees.{IsTreeOf, spanned}
use Rattle.cedar_grammar.specs.declared.tree.Policies.{Policies}
use Rattle.cedar_laws.specs.Canonical.{IsOutputOf, OutputHasTheList}
use Rattle.cedar_laws.proofs.Grammatical.{value_kind}
use Rattle.cedar_policy_formatter.specs.Texts.{plain_values}
use Rattle.cedar_policy_formatter.proofs.Leaves.{leaves_without_spans}

-- a token's text by value
abbrev pub value_of : Placed → List ℕ
value_of t = token_value t.text

-- trees with spans, once these are removed, are the trees of the tokens' values
pub spanless : (f : Forest Label Placed)
    → without_spans (spanned (λ (t : Placed). t.text) (λ t. t.span) f) ≡ relabel value_of f
spanless none = refl
spanless (leaf t f) = ap (leaf (value_of t)) (spanless f)
spanless (branch l f g) =
    ap (λ z. branch l z (without_spans (spanned (λ (t : Placed). t.text) (λ t. t.span) g)))
    (spanless f) ∙ ap (branch l (relabel value_of f)) (spanless g)

-- the tree of a text without spans is one of the grammar, over the values of the plain list
values_tree : NodesHaveThePlainTexts → (text : List ℕ) (p : Policies) (l : Listing)
    → IsTreeOf text p → IsListing text l
    → G kind_of greatest_depth (without_spans (erase p)) (plain_values l)
values_tree texts text p l t is_list =
    let f = without_trailing kind_of_placed t.tree in
    let g = plain_is_in_the_grammar kind_of_placed greatest_depth (placed t.units) t.tree
    (tree_by_kinds t.units t.tree t.grammar) in
    let r = relabelled value_of kind_of_placed kind_of (λ t. value_kind t.text) greatest_depth f
    (plain kind_of_placed (placed t.units)) g in
    let e : without_spans (erase p) ≡ relabel value_of f =
    ap without_spans (t.nodes ∙ ap (spanned (λ (t : Placed). t.text) (λ (t : Placed). t.span))
    (plain_same (λ (t : Placed). t.text) t.tree)) ∙ spanless f in
    record {
      shape = subst (λ z. PolicySet kind_of greatest_depth z) (sym e) r.shape;
      leaves = leaves_without_spans (erase p) ∙ texts text p l t is_list;
    }

-- the output's tokens are those of the text's plain list by value
pub listed_values : OutputHasTheList → (w : ℕ) (i : ℤ) (x y : List ℕ) → IsUtf8 x
    → (o : IsOutputOf w i x y) (m : Listing) → IsListing y m
    → map (λ (d : Decorated). token_value d.text) m.tokens ≡ plain_values o.list
listed_values has_list w i x y utf8 o m is_m =
    let h = has_list w i x y m utf8 o is_m in
    let by : Decorated → Decorated =
    λ d. record { text = token_value d.text; leading = d.leading; trailing = d.trailing } in
    sym (map_map (λ (d : Decorated). d.text) by m.tokens)
    ∙ ap (λ z. map (λ (d : Decorated). d.text) z.tokens) h.0
    ∙ map_map (λ (d : Decorated). d.text) by (plain_list o.list.tokens)

-- and so are those of its own plain list
pub same_values : OutputHasTheList → (w : ℕ) (i : ℤ) (x y : List ℕ) → IsUtf8 x
    → (o : IsOutputOf w i x y) (m : Listing) → IsListing y m → plain_values m ≡ plain_values o.list
same_values has_list w i x y utf8 o m is_m =
    ap (λ z. map (λ (d : Decorated). token_value d.text) z.tokens)
    (has_list w i x y m utf8 o is_m).1 ∙ listed_values has_list w i x y utf8 o m is_m

module _ (texts : NodesHaveThePlainTexts) (has_list : OutputHasTheList) (w : ℕ) (i : ℤ)
    (x y : List ℕ) (utf8 : IsUtf8 x) (o : IsOutputOf w i x y) where
  -- so it has the text's policies
  pub same_policies : (t p : Policies) → IsTreeOf x t → IsTreeOf y p → SameTree p t
  same_policies t p a b =
      let m = listing b.units in
      let is_m : IsListing y m = record { units = b.units; split = b.split; value = refl } in
      let g = values_tree texts y p m b is_m in
      list_has_one_tree kind_of greatest_depth greatest_depth (plain_values o.list)
      (without_spans (erase p)) (without_spans (erase t))
      (subst (λ z. G kind_of greatest_depth (without_spans (erase p)) z)
      (same_values has_list w i x y utf8 o m is_m) g) (values_tree texts x t o.list a o.is_list)
