-- The tree of nodes of a text:
-- the text is accepted, and the tree's leaves are the plain list's texts.
use Rattle.std.specs.Prelude.{◌≡◌, ℕ, ◌+◌, Bool, true, false, List, [], ◌∷◌, ◌++◌, length, map, if◌then◌else◌}
use Rattle.std.proofs.Common.{refl, sym, ap, ◌∙◌, subst}
use Rattle.cedar_tokens.specs.Units.{is_token}
use Rattle.cedar_tokens.specs.Split.{SplitIsUnique}
use Rattle.cedar_tokens.specs.Listing.{Decorated, token_value}
use Rattle.cedar_tokens.specs.PlainList.{plain_list}
use Rattle.cedar_tokens.specs.Places.{token_spans}
use Rattle.cedar_grammar.specs.Trees.{Label, Forest, none, leaf, branch, yield}
use Rattle.cedar_grammar.specs.KindGrammar.{G}
use Rattle.cedar_tokens.specs.TokenKinds.{kind_of}
use Rattle.cedar_grammar.specs.TrailingCommas.{plain, without_trailing}
use Rattle.cedar_grammar.specs.Texts.{greatest_depth, only_tokens}
use Rattle.cedar_grammar.specs.Placed.{Placed, with_places, placed, kind_of_placed}
use Rattle.cedar_grammar.specs.PlainTrees.{plain_trees}
use Rattle.cedar_grammar.proofs.Texts.Accepted.{is_accepted}
use Rattle.cedar_grammar.proofs.Texts.Placed.{tree_by_kinds}
use Rattle.cedar_grammar.proofs.Plain.ByTexts.{plain_same}
use Rattle.cedar_grammar.specs.Erased.{erase}
use Rattle.cedar_grammar.specs.NodeTrees.{spanned}
use Rattle.cedar_grammar.specs.TreeLaws.{TreeIsOfAccepted, TreeOfNodesIsUnique, NodesHaveThePlainTexts}
use Rattle.cedar_grammar.proofs.Rules.Maps.{each, relabel}
use Rattle.cedar_grammar.proofs.Plain.Leaves.{plain_leaves}
use Rattle.cedar_grammar.proofs.Trees.Laws.{list_has_one_tree}
use Rattle.cedar_grammar.proofs.Texts.Kinds.{plain_texts_agree}
use Rattle.cedar_grammar.proofs.Trees.Relabelling.{relabelled, plain_each, each_map, map_map}
use Rattle.cedar_grammar.proofs.Texts.Listings.{listing_texts}

-- the tokens with their places are the tokens
pub placed_texts : (units : List (List ℕ)) (p : ℕ) → each (λ (t : Placed).
    t.text) (with_places (only_tokens units) (token_spans p units)) ≡ only_tokens units
unfolding token_spans
placed_texts [] p = refl
placed_texts (u ∷ us) p = go (placed_texts us (p + length u)) (is_token u)
  where
    go : each (λ (t : Placed). t.text) (with_places (only_tokens us)
        (token_spans (p + length u) us)) ≡ only_tokens us → (b : Bool)
        → each (λ (t : Placed). t.text) (with_places (if b then u
        ∷ only_tokens us else only_tokens us) (if b then record { start = p; end = p + length u }
        ∷ token_spans (p + length u) us else token_spans (p + length u) us))
        ≡ (if b then u ∷ only_tokens us else only_tokens us)
    go h true = ap (λ z. u ∷ z) h
    go h false = h

pub tree_is_of_accepted : TreeIsOfAccepted
tree_is_of_accepted text p t =
    let g = relabelled (λ (t : Placed). t.text) kind_of_placed kind_of
    (λ _. refl) greatest_depth t.tree (placed t.units) (tree_by_kinds t.units t.tree t.grammar) in (
      relabel (λ (t : Placed). t.text) t.tree,
      is_accepted text (relabel (λ (t : Placed). t.text) t.tree) t.units t.split t.fitting
          (subst (λ z. G kind_of greatest_depth (relabel (λ (t : Placed). t.text) t.tree) z)
          (placed_texts t.units 0) g),
    )

-- the units are the same, so the tree is, and so are the nodes with their spans
pub tree_of_nodes_is_unique : SplitIsUnique → TreeOfNodesIsUnique
tree_of_nodes_is_unique unique text p q x y =
    let units : x.units ≡ y.units = unique text x.units y.units x.split y.split in
    let moved : G kind_of_placed greatest_depth x.tree (placed y.units) =
    subst (λ z. G kind_of_placed greatest_depth x.tree (placed z)) units
    (tree_by_kinds x.units x.tree x.grammar) in
    let tree : x.tree ≡ y.tree = list_has_one_tree kind_of_placed greatest_depth greatest_depth
    (placed y.units) x.tree y.tree moved (tree_by_kinds y.units y.tree y.grammar) in
    x.nodes ∙ ap (λ z. spanned (λ t. t.text) (λ t. t.span) (plain_trees (λ t. t.text) z)) tree
    ∙ sym y.nodes

-- the leaves of the tree with spans
map_append : {A B : Type 0} → (h : A → B) (xs ys : List A) → map h (xs ++ ys) ≡ map h xs ++ map h ys
map_append h [] ys = refl
map_append h (x ∷ xs) ys = ap (λ z. h x ∷ z) (map_append h xs ys)

spanned_leaves : (f : Forest Label Placed) → yield (spanned (λ t. t.text) (λ t. t.span) f)
    ≡ map (λ (t : Placed). token_value t.text) (yield f)
spanned_leaves none = refl
spanned_leaves (leaf t f) = ap (λ z. token_value t.text ∷ z) (spanned_leaves f)
spanned_leaves (branch l f g) =
    ap (λ z. z ++ yield (spanned (λ t. t.text) (λ t. t.span) g)) (spanned_leaves f)
    ∙ ap (λ z. map (λ (t : Placed). token_value t.text) (yield f) ++ z) (spanned_leaves g)
    ∙ sym (map_append (λ (t : Placed). token_value t.text) (yield f) (yield g))

pub nodes_have_the_plain_texts : SplitIsUnique → NodesHaveThePlainTexts
nodes_have_the_plain_texts unique text p l t is_list =
    let units : t.units ≡ is_list.units = unique text t.units is_list.units t.split is_list.split in
    let texts : map (λ d. d.text) l.tokens ≡ only_tokens t.units =
    ap (λ z. map (λ d. d.text) z.tokens) is_list.value ∙ listing_texts is_list.units
    ∙ ap only_tokens (sym units) in
    let first : yield (erase p)
    ≡ map (λ (t : Placed). token_value t.text) (plain kind_of_placed (placed t.units)) =
    ap yield (t.nodes
    ∙ ap (spanned (λ t. t.text) (λ t. t.span)) (plain_same (λ (t : Placed). t.text) t.tree))
    ∙ spanned_leaves (without_trailing kind_of_placed t.tree)
    ∙ ap (map (λ (t : Placed). token_value t.text))
    (plain_leaves kind_of_placed greatest_depth t.tree
    (tree_by_kinds t.units t.tree t.grammar).shape ∙ ap (plain kind_of_placed) t.grammar.leaves) in
    let second : map (λ (t : Placed). t.text) (plain kind_of_placed (placed t.units))
    ≡ plain kind_of (only_tokens t.units) =
    sym (each_map (λ (t : Placed). t.text) (plain kind_of_placed (placed t.units)))
    ∙ sym (plain_each (λ (t : Placed). t.text) kind_of_placed kind_of (λ _. refl) (placed t.units))
    ∙ ap (plain kind_of) (placed_texts t.units 0) in
    first
    ∙ sym (map_map token_value (λ (t : Placed). t.text) (plain kind_of_placed (placed t.units)))
    ∙ ap (map token_value) (second ∙ sym (plain_texts_agree l.tokens ∙ ap (plain kind_of) texts))
    ∙ map_map token_value (λ (d : Decorated). d.text) (plain_list l.tokens)
