-- The typed policies of a text, over the tokens its stream gives once trailing commas are dropped.
use Rattle.std.proofs.Common.{◌≡◌, ℕ, None, List, [], ◌∷◌, map, length, Bool, true, false, refl, sym, ap, ◌∙◌, subst}
use Rattle.std.specs.Prelude.{if◌then◌else◌, ◌&&◌}
use Rattle.std.specs.List.{flat_map}
use Rattle.cedar_tokens.specs.Split.{SplitsInto}
use Rattle.cedar_tokens.specs.Listing.{Decorated, Listing, IsListing}
use Rattle.cedar_tokens.specs.Places.{AreTokenSpans, token_spans}
use Rattle.cedar_tokens.specs.PlainList.{is_trailing_comma, kept_tokens}
use Rattle.cedar_tokens.specs.Tokens.{bare, decorated, token_text}
use Rattle.cedar_tokens.specs.declared.token.Span.{Span}
use Rattle.cedar_tokens.specs.declared.token.Token.{Token}
use Rattle.cedar_tokens.specs.declared.token.WrappedToken.{WrappedToken}
use Rattle.cedar_tokens.proofs.Scanning.{split_unique}
use Rattle.cedar_grammar.specs.Trees.{Label, none, branch}
use Rattle.cedar_tokens.specs.declared.kind.Kind.TheVariants as K
use Rattle.cedar_tokens.specs.Kinds.{is, is_closing}
use Rattle.cedar_tokens.specs.TokenKinds.{kind_of}
use Rattle.cedar_grammar.specs.KindGrammar.{G}
use Rattle.cedar_grammar.specs.Texts.{greatest_depth, only_tokens}
use Rattle.cedar_grammar.specs.Placed.{Placed, placed, with_places, kind_of_placed}
use Rattle.cedar_grammar.specs.TrailingCommas.{plain, drop_if, without_trailing}
use Rattle.cedar_grammar.specs.TypedTrees.{Clause, policy, set_tree, policy_trees, part_yield}
use Rattle.cedar_grammar.proofs.Texts.Placed.{tree_by_kinds}
use Rattle.cedar_grammar.proofs.Plain.ByTexts.{plain_same}
use Rattle.cedar_grammar.proofs.Plain.Grammar.{plain_is_in_the_grammar}
use Rattle.cedar_grammar.proofs.Plain.CommaPairs.{plain_is_plain}
use Rattle.cedar_grammar.proofs.Texts.Kinds.{trailing_agrees}
use Rattle.cedar_grammar.proofs.Texts.Listings.{listing_texts}
use Rattle.cedar_grammar.proofs.Trees.Relabelling.{plain_each, each_map, map_map}
use Rattle.cedar_layout.specs.Lookups.{Shown, shown}
use Rattle.cedar_grammar.specs.Erased as erased
use Rattle.cedar_grammar.specs.NodeTrees.{spanned, IsTreeOf}
use Rattle.cedar_grammar.specs.declared.tree.Policies.{Policies}
use Rattle.cedar_documents.specs.Taking.{nodes_of}
use Rattle.cedar_laws.proofs.Grammatical.{plain_of_length, map_length}
use Rattle.cedar_documents.proofs.ShownTrees.{kind_of_shown, typed_over, place_of}

-- ---- the tokens with their places

abbrev with_place : Token × Span → Placed
with_place t = record { text = token_text t.0; span = t.1 }

places_of_bare : (ws : List WrappedToken)
    → map place_of (map shown ws) ≡ map with_place (map bare ws)
places_of_bare [] = refl
places_of_bare (w ∷ ws) = ap (λ z. place_of (shown w) ∷ z) (places_of_bare ws)

places_zipped : (ws : List WrappedToken) → map place_of (map shown ws)
    ≡ with_places (map (λ w. token_text w.token) ws) (map (λ w. w.span) ws)
places_zipped [] = refl
places_zipped (w ∷ ws) = ap (λ z. place_of (shown w) ∷ z) (places_zipped ws)

-- the stream's tokens are those of the text, at their places
stream_places : (text : List ℕ) (ws : List WrappedToken) (l : Listing) (units : List (List ℕ))
    → SplitsInto text units → IsListing text l → l.tokens ≡ map decorated ws
    → AreTokenSpans text (map (λ w. w.span) ws) → map place_of (map shown ws) ≡ placed units
stream_places text ws l units split is_list e spans =
    let u : is_list.units ≡ units = split_unique text is_list.units units is_list.split split in
    let v : spans.units ≡ units = split_unique text spans.units units spans.split split in
    let texts : map (λ w. token_text w.token) ws ≡ only_tokens units =
    sym (map_map (λ (d : Decorated). d.text) decorated ws)
    ∙ ap (map (λ (d : Decorated). d.text)) (sym e)
    ∙ ap (λ (m : Listing). map (λ d. d.text) m.tokens) is_list.value ∙ listing_texts is_list.units
    ∙ ap only_tokens u in
    places_zipped ws ∙ ap (λ z. with_places z (map (λ w. w.span) ws)) texts
    ∙ ap (with_places (only_tokens units)) (spans.value ∙ ap (token_spans 0) v)

-- without its trailing commas, a list of tokens has the remaining places
kept_places : (ws : List WrappedToken)
    → map place_of (map shown (kept_tokens ws)) ≡ plain kind_of_placed (map place_of (map shown ws))
kept_places [] = refl
kept_places (c ∷ []) = go (is K.Comma (kind_of (token_text c.token)))
  where
    go : (b : Bool) → place_of (shown c) ∷ [] ≡ drop_if (b && false) (place_of (shown c) ∷ []) []
    go true = refl
    go false = refl
kept_places (c ∷ (b ∷ ws)) = go (is_trailing_comma (decorated c) (decorated b))
    (trailing_agrees (decorated c) (decorated b)) (kept_places (b ∷ ws))
  where
    go : (t : Bool) → t ≡ (is K.Comma (kind_of (token_text c.token))
        && is_closing (kind_of (token_text b.token))) → map place_of (map shown
        (kept_tokens (b ∷ ws))) ≡ plain kind_of_placed (map place_of (map shown (b ∷ ws)))
        → map place_of (map shown (if t then kept_tokens (b ∷ ws) else c ∷ kept_tokens (b ∷ ws)))
        ≡ plain kind_of_placed (map place_of (map shown (c ∷ (b ∷ ws))))
    go true e h = h ∙ ap (λ t. drop_if t (place_of (shown c) ∷ plain kind_of_placed (map place_of
        (map shown (b ∷ ws)))) (plain kind_of_placed (map place_of (map shown (b ∷ ws))))) e
    go false e h = ap (λ z. place_of (shown c) ∷ z) h ∙ ap (λ t.
        drop_if t (place_of (shown c) ∷ plain kind_of_placed (map place_of (map shown (b ∷ ws))))
        (plain kind_of_placed (map place_of (map shown (b ∷ ws))))) e

-- ---- the typed policies

-- the typed policies whose leaves are these tokens:
-- they have the policies' nodes and no trailing comma
pub record NodesOver (p : Policies) (ts : List Shown) : Type 0 where
  pub policies : List (Clause Shown policy)
  pub leaves : flat_map part_yield policies ≡ ts
  pub nodes : erased.policy_trees p.policies.items ≡ nodes_of (policy_trees kind_of_shown policies)
  pub grammar : G kind_of_shown greatest_depth (set_tree kind_of_shown policies) ts
  pub plain : without_trailing kind_of_shown (set_tree kind_of_shown policies)
      ≡ set_tree kind_of_shown policies

pub nodes_over : (text : List ℕ) (p : Policies) (l : Listing) (old new : List WrappedToken)
    → IsTreeOf text p → IsListing text l → l.tokens ≡ map decorated old
    → AreTokenSpans text (map (λ w. w.span) old)
    → map bare new ≡ map bare (kept_tokens old) → NodesOver p (map shown new)
nodes_over text p l old new t is_list e spans kept =
    let ts = map shown new in
    let all = placed t.units in
    let f = without_trailing kind_of_placed t.tree in
    let at : map place_of ts ≡ plain kind_of_placed all = places_of_bare new
    ∙ ap (map with_place) kept ∙ sym (places_of_bare (kept_tokens old)) ∙ kept_places old
    ∙ ap (plain kind_of_placed) (stream_places text old l t.units t.split is_list e spans) in
    let g : G kind_of_placed greatest_depth f (plain kind_of_placed all) = plain_is_in_the_grammar
    kind_of_placed greatest_depth all t.tree (tree_by_kinds t.units t.tree t.grammar) in
    let twice : plain kind_of_placed (plain kind_of_placed all) ≡ plain kind_of_placed all =
    plain_is_plain kind_of_placed greatest_depth all t.tree
    (tree_by_kinds t.units t.tree t.grammar) in
    let same_places : map place_of (plain kind_of_shown ts) ≡ map place_of ts =
    sym (each_map place_of (plain kind_of_shown ts))
    ∙ sym (plain_each place_of kind_of_shown kind_of_placed (λ _. refl) ts)
    ∙ ap (plain kind_of_placed) (each_map place_of ts ∙ at) ∙ twice ∙ sym at in
    let same : plain kind_of_shown ts ≡ ts =
    plain_of_length kind_of_shown ts (sym (map_length place_of (plain kind_of_shown ts))
    ∙ ap length same_places ∙ map_length place_of ts) in
    let r = typed_over ts f (subst (λ z. G kind_of_placed greatest_depth f z) (sym at) g) same in
    let whole : branch (Label.policies, None) (erased.policy_trees p.policies.items) none
    ≡ branch (Label.policies, None) (nodes_of (policy_trees kind_of_shown r.policies)) none =
    t.nodes ∙ (ap (spanned (λ (t : Placed). t.text) (λ (t : Placed). t.span))
    (plain_same (λ (t : Placed). t.text) t.tree) ∙ sym r.nodes) in
    record {
      policies = r.policies;
      leaves = r.leaves;
      nodes = cc;
      grammar = r.grammar;
      plain = r.plain;
    }
