-- Each node of an accepted text is made of consecutive tokens, which are a row of its line.
use Rattle.std.proofs.Common.{◌≡◌, ℕ, zero, suc, List, [], ◌∷◌, ◌++◌, map, length, Option, Some, None, true, false, Bool, refl, sym, ap, ◌∙◌, subst, arith, append_assoc, append-nil, ◌<◌, inl, inr}
use Rattle.std.specs.Prelude.{if◌then◌else◌, slice_index_or}
use Rattle.cedar_tokens.specs.Listing.{Listing, IsListing, token_value}
use Rattle.cedar_tokens.specs.PlainList.{is_trailing_comma, kept_tokens}
use Rattle.cedar_tokens.specs.TokenKinds.{kind_of}
use Rattle.cedar_tokens.specs.Tokens.{bare, decorated, token_text}
use Rattle.cedar_tokens.specs.declared.token.Token.{Token}
use Rattle.cedar_tokens.specs.declared.token.Span.{Span}
use Rattle.cedar_tokens.specs.declared.token.WrappedToken.{WrappedToken}
use Rattle.cedar_grammar.specs.Laws.{AreTokens}
use Rattle.cedar_grammar.specs.Texts.{greatest_depth}
use Rattle.cedar_grammar.specs.Trees.{Label, Forest, none, leaf, branch, yield}
use Rattle.cedar_grammar.specs.TypedTrees.{policy_trees, set_tree}
use Rattle.cedar_grammar.proofs.Rules.Maps.{each, relabel}
use Rattle.cedar_grammar.proofs.Trees.Laws.{typed_leaves_agree}
use Rattle.cedar_grammar.proofs.Trees.Relabelling.{relabelled, relabel_yield}
use Rattle.cedar_grammar.proofs.Texts.Grammars.{grammars_agree}
use Rattle.cedar_layout.specs.Lookups.{Shown, shown}
use Rattle.cedar_grammar.specs.Erased.{Erased, policy_parts}
use Rattle.cedar_grammar.specs.Erased as erased
use Rattle.cedar_grammar.specs.NodeTrees.{is_node, span_of}
use Rattle.cedar_grammar.specs.declared.tree.Node.{Node}
use Rattle.cedar_grammar.specs.declared.tree.Policy.{Policy}
use Rattle.cedar_laws.proofs.Grammatical.{value_kind}
use Rattle.cedar_laws.proofs.Listed.{value_token}
use Rattle.cedar_written.specs.NodeLines.{line_of}
use Rattle.cedar_written.proofs.SameRows.{text, texts}
use Rattle.cedar_written.proofs.Covered.{All}
use Rattle.cedar_written.proofs.NodeRows.{trees_of, covered}
use Rattle.cedar_written.proofs.NodeLines.{node_row}
use Rattle.cedar_writer.proofs.OnePolicy.{are_tokens}
use Rattle.cedar_documents.specs.OwnTokens.{Holds, MeetsItsTokens, NodesMeetTheirTokens, PoliciesMeetTheirTokens, StandTogether}
use Rattle.cedar_documents.specs.ShownNodes.{AreSigned}
use Rattle.cedar_documents.specs.Taking.{by_value, nodes_of, text_of}
use Rattle.cedar_documents.proofs.OwnTokens.{signed_of}
use Rattle.cedar_documents.proofs.ShownTrees.{kind_of_shown}
use Rattle.cedar_documents.proofs.StreamTrees.{nodes_over}
use Rattle.cedar_documents.proofs.TypedNodes.{typed_policies}

-- a token's text, where a number has no leading zeros
abbrev value : Shown → List ℕ
value t = token_value (text_of t)

values : (ts : List Shown) → texts (map by_value ts) ≡ each value ts
values [] = refl
values (t ∷ ts) = ap (λ z. value t ∷ z) (values ts)

-- ---- the texts of the tokens are tokens, and so are their values

abbrev wrapped_text : WrappedToken → List ℕ
wrapped_text w = token_text w.token

abbrev AllTokens : List (List ℕ) → Type 0
AllTokens ts = AreTokens (λ t. t) ts

streamed : (ws : List WrappedToken) → AreTokens (λ t. t.text) (map decorated ws) → AllTokens (map wrapped_text ws)
streamed [] a = tt
streamed (w ∷ ws) a = (a.0, streamed ws a.1)

kept_all : (ws : List WrappedToken) → AllTokens (map wrapped_text ws) → AllTokens (map wrapped_text (kept_tokens ws))
kept_all [] a = tt
kept_all (c ∷ []) a = a
kept_all (c ∷ (b ∷ ws)) a = go (is_trailing_comma (decorated c) (decorated b)) (kept_all (b ∷ ws) a.1)
  where
    go : (t : Bool) → AllTokens (map wrapped_text (kept_tokens (b ∷ ws)))
        → AllTokens (map wrapped_text (if t then kept_tokens (b ∷ ws) else c ∷ kept_tokens (b ∷ ws)))
    go true x = x
    go false x = (a.0, x)

bare_texts : (ws : List WrappedToken) → map wrapped_text ws ≡ map (λ p. token_text p.0) (map bare ws)
bare_texts [] = refl
bare_texts (w ∷ ws) = ap (λ z. wrapped_text w ∷ z) (bare_texts ws)

by_values : (ws : List WrappedToken) → AllTokens (map wrapped_text ws) → AllTokens (each value (map shown ws))
by_values [] a = tt
by_values (w ∷ ws) a = (value_token (wrapped_text w) a.0, by_values ws a.1)

values_are_tokens : (text : List ℕ) (stream tokens : List WrappedToken) (closing : List (List ℕ))
    → IsListing text (record { tokens = map decorated stream; closing = closing })
    → map bare tokens ≡ map bare (kept_tokens stream) → AllTokens (each value (map shown tokens))
values_are_tokens text stream tokens closing is kept = by_values tokens
    (subst AllTokens (bare_texts (kept_tokens stream) ∙ (ap (map (λ (p : Token × Span). token_text p.0)) (sym kept) ∙ sym (bare_texts tokens)))
    (kept_all stream (streamed stream
    (are_tokens text (record { tokens = map decorated stream; closing = closing }) is))))

-- a node has a span
has_span : (b : Bool) (x : Option Span) (s : Span) → (if b then x else None) ≡ Some s → b ≡ true
has_span true x s e = refl
has_span false x s e = absurd cc

module _ (tokens : List WrappedToken) where
  front : (xs ys : List Shown) → StandTogether tokens (xs ++ ys) → StandTogether tokens xs
  front xs ys (b, a, e) = (b, ys ++ a, e ∙ ap (λ z. b ++ z) (append_assoc xs ys a))

  back : (xs ys : List Shown) → StandTogether tokens (xs ++ ys) → StandTogether tokens ys
  back xs ys (b, a, e) =
      (b ++ xs, a, e ∙ ap (λ z. b ++ z) (append_assoc xs ys a) ∙ sym (append_assoc b xs (ys ++ a)))

  -- every node in trees of the grammar
  held : (f : Forest Label Shown) → All (trees_of greatest_depth) (relabel value f) → AreSigned f
      → StandTogether tokens (yield f) → (l : Label) (s : Span) (inner : Erased) → Holds (nodes_of f) l s inner
      → MeetsItsTokens tokens l s inner
  held none a k w l s inner h = absurd h
  held (leaf x f) a k w l s inner h = held f a k (back (x ∷ []) (yield f) w) l s inner h
  held (branch m f g) a k w l s inner (inl (e, q)) = λ i.
      (let one : Forest Label Shown = branch m f none in
      let place : Label × Option Span = (m, if is_node m then span_of text_of (λ (t : Shown). t.span) (yield f) else None) in
      let whole : branch (l, Some s) inner none ≡ nodes_of one =
      ap (λ z. branch z inner none) (sym e) ∙ ap (λ z. branch place z none) (sym q) in
      let row = node_row i greatest_depth m (relabel value one)
      (has_span (is_node m) (span_of text_of (λ (t : Shown). t.span) (yield f)) s (ap (λ z. z.1) e)) a.0
      (map by_value (yield one)) (values (yield one) ∙ sym (relabel_yield value one)) in (
        yield one,
        row.0,
        (
          (one, whole, refl, (k.0, k.1, tt)),
          subst (λ z. line_of i greatest_depth z (map by_value (yield one)) row.0) (ap (λ z. z.0) e) row.1,
        ),
        subst (StandTogether tokens) (sym (append-nil (yield f))) (front (yield f) (yield g) w),
      ))
  held (branch m f g) a k w l s inner (inr (inl h)) = held f a.1 k.1 (front (yield f) (yield g) w) l s inner h
  held (branch m f g) a k w l s inner (inr (inr h)) = held g a.2 k.2 (back (yield f) (yield g) w) l s inner h

pub nodes_met : NodesMeetTheirTokens
nodes_met text p tokens tree of l s inner h =
    let list : Listing = record { tokens = map decorated of.stream; closing = of.closing } in
    let o = nodes_over text p list of.stream tokens tree of.listing refl of.spans of.kept in
    let trees = policy_trees kind_of_shown o.policies in
    let valued = relabelled value kind_of_shown kind_of (λ t. value_kind (text_of t)) greatest_depth
    (set_tree kind_of_shown o.policies) (map shown tokens) o.grammar in
    let grammar = (grammars_agree (λ t. t) greatest_depth (each value (map shown tokens))
    (relabel value (set_tree kind_of_shown o.policies))
    (values_are_tokens text of.stream tokens of.closing of.listing of.kept)).1 valued in
    let all = covered 127 (relabel value (set_tree kind_of_shown o.policies)) grammar.shape in
    held tokens trees all.1 (signed_of trees (typed_policies o.policies))
    ([], [], sym o.leaves ∙ sym (typed_leaves_agree kind_of_shown o.policies)) l s inner
    (subst (λ z. Holds z l s inner) o.nodes h)

-- a policy is one of the trees
policy_held : (ns : List (Node Policy)) (n : Node Policy) (k : ℕ) → k < length ns
    → slice_index_or ns k n ≡ n
    → Holds (erased.policy_trees ns) Label.policy n.span (policy_parts n.inner)
policy_held [] n k h e = absurd (omega (arith, h))
policy_held (m ∷ ns) n zero h e =
    inl (ap (λ z. (Label.policy, Some z.span)) e, ap (λ z. policy_parts z.inner) e)
policy_held (m ∷ ns) n (suc k) h e = inr (inr (policy_held ns n k (omega (arith, h)) e))

pub policies_met : PoliciesMeetTheirTokens
policies_met text p tokens tree of n (k, h, e) = nodes_met text p tokens tree of Label.policy n.span
    (policy_parts n.inner) (policy_held p.policies.items n k h e)
