-- An output is a text of its text's policies:
-- its tree has their nodes, with the spans they have in the output.
use Rattle.std.proofs.Common.{◌≡◌, ℕ, Bool, true, false, List, [], ◌∷◌, map, refl, ap, sym, ◌∙◌, subst, append-nil}
use Rattle.std.specs.Prelude.{if◌then◌else◌, Option, Some, None}
use Rattle.cedar_tokens.specs.Listing.{Decorated, Listing, IsListing, listing, token_value}
use Rattle.cedar_tokens.specs.PlainList.{plain_list}
use Rattle.cedar_tokens.specs.declared.token.Span.{Span}
use Rattle.cedar_tokens.proofs.Scanning.{listing_unique}
use Rattle.cedar_grammar.specs.Trees.{Label, Forest, none, leaf, branch, yield}
use Rattle.cedar_grammar.specs.KindGrammar.{G}
use Rattle.cedar_tokens.specs.TokenKinds.{kind_of}
use Rattle.cedar_grammar.specs.Texts.{Accepted, greatest_depth, only_tokens}
use Rattle.cedar_grammar.specs.Placed.{Placed, placed, kind_of_placed}
use Rattle.cedar_grammar.specs.TrailingCommas.{plain, without_trailing}
use Rattle.cedar_grammar.specs.Reader.Reading.{Answer, done, stuck}
use Rattle.cedar_grammar.specs.Reader.Lines.{set_to}
use Rattle.cedar_grammar.specs.PlainTrees.{plain_trees}
use Rattle.cedar_grammar.proofs.Texts.Placed.{tree_by_kinds, tree_by_texts}
use Rattle.cedar_grammar.proofs.Plain.ByTexts.{plain_same}
use Rattle.cedar_grammar.proofs.Texts.Accepted.{kinds_of}
use Rattle.cedar_grammar.proofs.Rules.Maps.{each, relabel, answer_of, set_agrees}
use Rattle.cedar_grammar.proofs.WholeLaws.{set_sound, set_complete}
use Rattle.cedar_grammar.proofs.Trees.Laws.{list_has_one_tree}
use Rattle.cedar_grammar.proofs.Plain.Grammar.{plain_is_in_the_grammar}
use Rattle.cedar_grammar.proofs.Texts.Kinds.{plain_texts_agree}
use Rattle.cedar_grammar.proofs.Trees.Relabelling.{relabelled, relabel_yield, plain_each, each_map, map_map}
use Rattle.cedar_grammar.proofs.Texts.Listings.{listing_texts}
use Rattle.cedar_grammar.specs.Erased.{erase, Erased, without_spans}
use Rattle.cedar_grammar.specs.NodeTrees.{IsTreeOf, is_node, span_of, spanned}
use Rattle.cedar_grammar.specs.TreeLaws.{NodesHaveThePlainTexts}
use Rattle.cedar_laws.specs.Canonical.{OutputHasTheList, OutputIsAccepted}
use Rattle.cedar_written.specs.Laws.{OutputsAreTheTables}
use Rattle.cedar_laws.proofs.Grammatical.{value_kind}
use Rattle.cedar_policy_formatter.specs.Texts.{HasNodes, KeptPoliciesHaveTheSameTokens, plain_values}
use Rattle.cedar_policy_formatter.specs.OutputPolicies.{OutputsKeepThePolicies, OutputsKeepTheTrees}
use Rattle.cedar_policy_formatter.proofs.SamePolicies.{value_of, spanless, same_values, same_policies}
use Rattle.cedar_grammar.proofs.NodeLaws.{placed_texts}
use Rattle.cedar_grammar.proofs.Respanned.{Alike, no_trees, a_leaf, a_node, a_variant, respanned}

abbrev text_of : Placed → List ℕ
text_of t = t.text

abbrev place_of : Placed → Span
place_of t = t.span

-- ---- trees of one list with different places

data BothSpans : Option Span → Option Span → Type 0 where
  no_spans : BothSpans None None
  two_spans : (s t : Span) → BothSpans (Some s) (Some t)

both_spans : (ts us : List Placed) → each value_of ts ≡ each value_of us
    → BothSpans (span_of text_of place_of ts) (span_of text_of place_of us)
both_spans [] [] e = no_spans
both_spans [] (u ∷ us) e = absurd cc
both_spans (t ∷ ts) [] e = absurd cc
both_spans (t ∷ ts) (u ∷ us) e = two_spans _ _

alike_branch : (l : Label) (o p : Option Span) {f g h k : Erased} → BothSpans o p → Alike f h
    → Alike g k → Alike (branch (l, o) f g) (branch (l, p) h k)
alike_branch l o p no_spans a b = a_variant l a b
alike_branch l o p (two_spans s t) a b = a_node l s t a b

yields : (f : Forest Label Placed) → yield (relabel value_of f) ≡ each value_of (yield f)
yields f = relabel_yield value_of f

spanned_alike : (f g : Forest Label Placed) → relabel value_of f ≡ relabel value_of g
    → Alike (spanned text_of place_of f) (spanned text_of place_of g)
spanned_alike none none e = no_trees
spanned_alike none (leaf u g) e = absurd cc
spanned_alike none (branch m g k) e = absurd cc
spanned_alike (leaf t f) none e = absurd cc
spanned_alike (leaf t f) (leaf u g) e =
    let v : value_of t ≡ value_of u = cc in
    let r : relabel value_of f ≡ relabel value_of g = cc in
    subst (λ z. Alike (leaf (value_of t) (spanned text_of place_of f))
    (leaf z (spanned text_of place_of g))) v (a_leaf (value_of t) (spanned_alike f g r))
spanned_alike (leaf t f) (branch m g k) e = absurd cc
spanned_alike (branch l f h) none e = absurd cc
spanned_alike (branch l f h) (leaf u g) e = absurd cc
spanned_alike (branch l f h) (branch m g k) e =
    let s : l ≡ m = cc in
    let a : relabel value_of f ≡ relabel value_of g = cc in
    let b : relabel value_of h ≡ relabel value_of k = cc in
    let y : each value_of (yield f) ≡ each value_of (yield g) =
    sym (yields f) ∙ (ap yield a ∙ yields g) in
    subst (λ z. Alike (spanned text_of place_of (branch l f h))
    (branch (z, if is_node z then span_of text_of place_of (yield g) else None)
    (spanned text_of place_of g) (spanned text_of place_of k))) s
    (alike_branch l _ _ (go (is_node l) (both_spans (yield f) (yield g) y)) (spanned_alike f g a)
    (spanned_alike h k b))
  where
    go : (t : Bool) → {o p : Option Span} → BothSpans o p
        → BothSpans (if t then o else None) (if t then p else None)
    go true b = b
    go false b = no_spans

-- ---- the tree of an accepted text with places

placed_tree : (units : List (List ℕ)) (f : Forest Label (List ℕ))
    → G kind_of greatest_depth f (only_tokens units)
    → (g : Forest Label Placed) × G kind_of_placed greatest_depth g (placed units)
placed_tree units f a =
    go (set_to kind_of_placed greatest_depth (placed units)) refl (sym agrees ∙ read)
  where
    read : set_to kind_of greatest_depth (each text_of (placed units)) ≡ done f []
    read = ap (set_to kind_of greatest_depth) (placed_texts units 0 ∙ sym a.leaves)
        ∙ set_complete kind_of greatest_depth f a.shape

    agrees : set_to kind_of greatest_depth (each text_of (placed units))
        ≡ answer_of text_of (set_to kind_of_placed greatest_depth (placed units))
    agrees = set_agrees text_of kind_of_placed kind_of (λ t. refl) greatest_depth (placed units)

    go : (b : Answer Placed) → set_to kind_of_placed greatest_depth (placed units) ≡ b
        → answer_of text_of b ≡ done f []
        → (g : Forest Label Placed) × G kind_of_placed greatest_depth g (placed units)
    go (stuck b r) e q = absurd cc
    go (done g (t ∷ r)) e q = absurd cc
    go (done g []) e q =
        let k = set_sound kind_of_placed greatest_depth (placed units) g [] e in
        (g, record { shape = k.among; leaves = sym (k.tokens ∙ append-nil (yield g)) })

-- by value it is the tree of the values of the plain list
values_tree : (units : List (List ℕ)) (f : Forest Label Placed)
    → G kind_of_placed greatest_depth f (placed units) → G kind_of greatest_depth
    (relabel value_of (without_trailing kind_of_placed f)) (plain_values (listing units))
values_tree units f a =
    let g = plain_is_in_the_grammar kind_of_placed greatest_depth (placed units) f a in
    let r = relabelled value_of kind_of_placed kind_of (λ t. value_kind t.text) greatest_depth
    (without_trailing kind_of_placed f) (plain kind_of_placed (placed units)) g in
    let texts : map text_of (plain kind_of_placed (placed units))
    ≡ map (λ (d : Decorated). d.text) (plain_list (listing units).tokens) =
    sym (each_map text_of (plain kind_of_placed (placed units)))
    ∙ (sym (plain_each text_of kind_of_placed kind_of (λ _. refl) (placed units))
    ∙ (ap (plain kind_of) (placed_texts units 0 ∙ sym (listing_texts units))
    ∙ sym (plain_texts_agree (listing units).tokens))) in
    let same : each value_of (plain kind_of_placed (placed units)) ≡ plain_values (listing units) =
    each_map value_of (plain kind_of_placed (placed units))
    ∙ (sym (map_map token_value text_of (plain kind_of_placed (placed units)))
    ∙ (ap (map token_value) texts
    ∙ map_map token_value (λ (d : Decorated). d.text) (plain_list (listing units).tokens))) in
    subst (λ z. G kind_of greatest_depth (relabel value_of (without_trailing kind_of_placed f)) z)
    same r

-- the nodes of a tree without trailing commas
plain_nodes : (nodes : Erased) (tree : Forest Label Placed)
    → nodes ≡ spanned text_of place_of (plain_trees text_of tree)
    → nodes ≡ spanned text_of place_of (without_trailing kind_of_placed tree)
plain_nodes nodes tree e = e ∙ ap (spanned text_of place_of) (plain_same text_of tree)

-- ---- the law

pub outputs_keep_the_policies : OutputsAreTheTables → NodesHaveThePlainTexts → OutputIsAccepted
    → OutputHasTheList → OutputsKeepThePolicies
outputs_keep_the_policies tables texts accepted has_list w i x y p u written t =
    let o = tables w i x y written in
    let a = accepted w i x y u o in
    let units = (a.1).units in
    let f = placed_tree units a.0 (kinds_of a.1) in
    let fx = without_trailing kind_of_placed t.tree in
    let fy = without_trailing kind_of_placed f.0 in
    let ly : IsListing y (listing units) =
    record { units = units; split = (a.1).split; value = refl } in
    let lx : IsListing x (listing t.units) =
    record { units = t.units; split = t.split; value = refl } in
    let same : plain_values (listing units) ≡ plain_values (listing t.units) =
    same_values has_list w i x y u o (listing units) ly
    ∙ ap plain_values (listing_unique x o.list (listing t.units) o.is_list lx) in
    let e : relabel value_of fy ≡ relabel value_of fx =
    list_has_one_tree kind_of greatest_depth greatest_depth (plain_values (listing t.units))
    (relabel value_of fy) (relabel value_of fx)
    (subst (λ z. G kind_of greatest_depth (relabel value_of fy) z) same (values_tree units f.0 f.1))
    (values_tree t.units t.tree (tree_by_kinds t.units t.tree t.grammar)) in
    let q = respanned p (subst (λ z. Alike (spanned text_of place_of fy) z)
    (sym (plain_nodes (erase p) t.tree t.nodes)) (spanned_alike fy fx e)) in
    let s : IsTreeOf y q.0 = record {
      units = units;
      split = (a.1).split;
      fitting = (a.1).fitting;
      tree = f.0;
      grammar = tree_by_texts units f.0 f.1;
      nodes = q.1 ∙ ap (spanned text_of place_of) (sym (plain_same text_of f.0));
    } in
    (q.0, s, same_policies texts has_list w i x y u o p q.0 t s)

-- ---- for texts without policies in memory

-- the tree of nodes of an accepted text
nodes_of_accepted : (text : List ℕ) → Accepted text → (f : Erased) × HasNodes text f
nodes_of_accepted text a =
    let units = (a.1).units in
    let f = placed_tree units a.0 (kinds_of a.1) in (
      spanned text_of place_of (plain_trees text_of f.0),
      record {
        units = units;
        split = (a.1).split;
        fitting = (a.1).fitting;
        tree = f.0;
        grammar = tree_by_texts units f.0 f.1;
        value = refl;
      },
    )

-- the tree by value, and its leaves
abbrev by_value : {text : List ℕ} {f : Erased} → HasNodes text f → Forest Label (List ℕ)
by_value x = relabel value_of (without_trailing kind_of_placed x.tree)

by_value_is : {text : List ℕ} (f : Erased) (x : HasNodes text f) → without_spans f ≡ by_value x
by_value_is f x = ap without_spans (plain_nodes f x.tree x.value)
    ∙ spanless (without_trailing kind_of_placed x.tree)

values_are : (text : List ℕ) (f : Erased) (l : Listing) (x : HasNodes text f) → IsListing text l
    → plain_values l ≡ yield (by_value x)
values_are text f l x is_list =
    let lx : IsListing text (listing x.units) =
    record { units = x.units; split = x.split; value = refl } in
    ap plain_values (listing_unique text l (listing x.units) is_list lx)
    ∙ sym (values_tree x.units x.tree (tree_by_kinds x.units x.tree x.grammar)).leaves

-- an output has the policies of its text
pub outputs_keep_the_trees : OutputsAreTheTables → OutputIsAccepted → OutputHasTheList
    → OutputsKeepTheTrees
outputs_keep_the_trees tables accepted has_list w i x y u written =
    let o = tables w i x y written in
    let f = nodes_of_accepted x o.accepted in
    let g = nodes_of_accepted y (accepted w i x y u o) in
    let ly : IsListing y (listing g.1.units) =
    record { units = g.1.units; split = g.1.split; value = refl } in
    let lx : IsListing x (listing f.1.units) =
    record { units = f.1.units; split = f.1.split; value = refl } in
    let same : plain_values (listing f.1.units) ≡ plain_values (listing g.1.units) =
    ap plain_values (listing_unique x (listing f.1.units) o.list lx o.is_list)
    ∙ sym (same_values has_list w i x y u o (listing g.1.units) ly) in
    let e : by_value f.1 ≡ by_value g.1 =
    list_has_one_tree kind_of greatest_depth greatest_depth (plain_values (listing g.1.units))
    (by_value f.1) (by_value g.1)
    (subst (λ z. G kind_of greatest_depth (by_value f.1) z) same
    (values_tree f.1.units f.1.tree (tree_by_kinds f.1.units f.1.tree f.1.grammar)))
    (values_tree g.1.units g.1.tree (tree_by_kinds g.1.units g.1.tree g.1.grammar)) in
    (f.0, g.0, f.1, g.1, by_value_is f.0 f.1 ∙ e ∙ sym (by_value_is g.0 g.1))

pub kept_policies_have_the_same_tokens : KeptPoliciesHaveTheSameTokens
kept_policies_have_the_same_tokens a b l m (f, g, x, y, same) i j =
    values_are a f l x i ∙ ap yield (sym (by_value_is f x) ∙ same ∙ by_value_is g y)
    ∙ sym (values_are b g m y j)
