-- The nodes of an accepted text have their ends in it.
use Rattle.std.proofs.Common.{◌≡◌, ◌<◌, ◌≤◌, ◌+◌, ℕ, zero, suc, Bool, true, false, List, [], ◌∷◌, length, drop, sym, arith, subst, Option, Some, None, get_or}
use Rattle.std.specs.Prelude.{codes, IfSome, if◌then◌else◌, ◌&&◌, slice_get}
use Rattle.std.specs.List.{AllByRecursion}
use Rattle.std.specs.Str.{IsUtf8, IsCharBoundary}
use Rattle.std.proofs.lemmas.List.{drop-drop, length-drop}
use Rattle.std.proofs.lemmas.Option.{same_Some}
use Rattle.std.proofs.lemmas.Str.{IsUtf8-drop, IsCharBoundary-from_drop}
use Rattle.cedar_tokens.specs.Units.{is_token}
use Rattle.cedar_tokens.specs.Split.{SplitsInto}
use Rattle.cedar_tokens.specs.Places.{token_spans}
use Rattle.cedar_tokens.specs.declared.token.Span.{Span}
use Rattle.cedar_tokens.proofs.FirstUnit.{unit_boundary}
use Rattle.cedar_tokens.proofs.Prefixes.{begins_fits}
use Rattle.cedar_tokens.proofs.Lists.{All-append, All-parts}
use Rattle.cedar_tokens.specs.PlainList.{is_comma}
use Rattle.cedar_grammar.specs.Trees.{Label, Forest, none, leaf, branch, yield, join}
use Rattle.cedar_grammar.specs.Placed.{Placed, placed, with_places}
use Rattle.cedar_grammar.specs.PlainTrees.{closes, plain_trees}
use Rattle.cedar_grammar.specs.Texts.{only_tokens}
use Rattle.cedar_grammar.specs.declared.tree.Node.{Node}
use Rattle.cedar_grammar.specs.declared.tree.Policy.{Policy}
use Rattle.cedar_grammar.specs.declared.tree.Policies.{Policies}
use Rattle.cedar_grammar.specs.declared.tree.Annotation.{Annotation}
use Rattle.cedar_grammar.specs.declared.tree.Cond.{Cond}
use Rattle.cedar_grammar.specs.declared.tree.Str.{Str}
use Rattle.cedar_grammar.specs.NodeTrees.{is_node, end_of, span_of, spanned, IsTreeOf}
use Rattle.cedar_grammar.specs.Erased.{Erased, policy_trees, annotation_trees, cond_trees, annotation_parts, value_parts, variable_items, scope_variables}
use Rattle.cedar_server.specs.Inside.Heads.{IsFirstId}
use Rattle.cedar_server.specs.Inside.StandingParts.{Stands, EachSpan, PolicyStands}

-- the tokens among units have their ends in the text
tokens_stand : (text : List ℕ) (at : ℕ) (us : List (List ℕ)) → IsUtf8 text → IsCharBoundary text at → at ≤ length text
    → SplitsInto (drop at text) us → AllByRecursion (Stands text) (token_spans at us)
unfolding token_spans
tokens_stand text at [] utf8 b l s = tt
tokens_stand text at (u ∷ us) utf8 b l s = go (is_token u) (tokens_stand text (at + length u) us utf8 next within left)
  where
    utf8_left : IsUtf8 (drop at text)
    utf8_left = IsUtf8-drop text at utf8 b

    within : at + length u ≤ length text
    within = omega (arith, begins_fits (drop at text) u s.0.begins, length-drop at text, l)

    cut : drop (length u) (drop at text) ≡ drop (at + length u) text
    cut = drop-drop (length u) at text

    next : IsCharBoundary text (at + length u)
    next = IsCharBoundary-from_drop text (at + length u) within
        (subst IsUtf8 cut (IsUtf8-drop (drop at text) (length u) utf8_left (unit_boundary (drop at text) u utf8_left s.0)))

    left : SplitsInto (drop (at + length u) text) us
    left = subst (λ z. SplitsInto z us) cut s.1

    go : (x : Bool) → AllByRecursion (Stands text) (token_spans (at + length u) us) → AllByRecursion (Stands text) (if x
        then record { start = at; end = at + length u } ∷ token_spans (at + length u) us
        else token_spans (at + length u) us)
    go true others = (record { start = b; end = next }, others)
    go false others = others

placed_stand : (text : List ℕ) (ts : List (List ℕ)) (ss : List Span) → AllByRecursion (Stands text) ss
    → AllByRecursion (λ (t : Placed). Stands text t.span) (with_places ts ss)
placed_stand text [] ss a = tt
placed_stand text (t ∷ ts) [] a = tt
placed_stand text (t ∷ ts) (s ∷ ss) a = (a.0, placed_stand text ts ss a.1)

abbrev EachToken : List ℕ → List Placed → Type 0
EachToken text ts = AllByRecursion (λ (t : Placed). Stands text t.span) ts

end_stands : (text : List ℕ) (s : Span) (ts : List Placed) → IsCharBoundary text s.end → EachToken text ts
    → IsCharBoundary text (end_of (λ t. t.text) (λ t. t.span) s ts)
end_stands text s [] e a = e
end_stands text s (t ∷ ts) e a = end_stands text t.span ts a.0.end a.1

span_stands : (text : List ℕ) (l : Label) (ts : List Placed) → EachToken text ts
    → IfSome (if is_node l then span_of (λ t. t.text) (λ t. t.span) ts else None) (Stands text)
span_stands text l ts a = go (is_node l) ts a
  where
    go : (x : Bool) (us : List Placed) → EachToken text us
        → IfSome (if x then span_of (λ t. t.text) (λ t. t.span) us else None) (Stands text)
    go false us a = tt
    go true [] a = tt
    go true (u ∷ us) a = record { start = a.0.start; end = end_stands text u.span us a.0.end a.1 }

nodes_stand : (text : List ℕ) (f : Forest Label Placed) → EachToken text (yield f)
    → EachSpan (Stands text) (spanned (λ t. t.text) (λ t. t.span) f)
nodes_stand text none a = tt
nodes_stand text (leaf t f) a = nodes_stand text f a.1
nodes_stand text (branch l f g) a =
    let p = All-parts (λ (t : Placed). Stands text t.span) (yield f) (yield g) a in
    (span_stands text l (yield f) p.0, nodes_stand text f p.0, nodes_stand text g p.1)

plain_stand : (text : List ℕ) (f : Forest Label Placed) → EachToken text (yield f)
    → EachToken text (yield (plain_trees (λ t. t.text) f))
plain_stand text none a = tt
plain_stand text (leaf t f) a = go (is_comma t.text && closes (λ t. t.text) f) (plain_stand text f a.1)
  where
    go : (x : Bool) → EachToken text (yield (plain_trees (λ t. t.text) f)) → EachToken text (yield (if x then plain_trees (λ t. t.text) f else leaf t (plain_trees (λ t. t.text) f)))
    go true others = others
    go false others = (a.0, others)
plain_stand text (branch l f g) a =
    let p = All-parts (λ (t : Placed). Stands text t.span) (yield f) (yield g) a in
    All-append (λ (t : Placed). Stands text t.span) (yield (plain_trees (λ t. t.text) f)) (yield (plain_trees (λ t. t.text) g))
    (plain_stand text f p.0) (plain_stand text g p.1)

-- the nodes of policies
pub policies_stand : (text : List ℕ) (p : Policies) → IsUtf8 text → IsTreeOf text p
    → EachSpan (Stands text) (policy_trees p.policies.items)
policies_stand text p utf8 t =
    let tokens : EachToken text (placed t.units) = placed_stand text (only_tokens t.units) (token_spans 0 t.units)
    (tokens_stand text 0 t.units utf8 (IsCharBoundary-from_drop text 0 (omega arith) utf8) (omega arith) t.split) in
    let leaves : EachToken text (yield t.tree) = subst (EachToken text) (sym t.grammar.leaves) tokens in
    let all = nodes_stand text (plain_trees (λ t. t.text) t.tree) (plain_stand text t.tree leaves) in
    (subst (EachSpan (Stands text)) (sym t.nodes) all).1

pub policy_stands : (text : List ℕ) (p : Policies) (k : ℕ) (d : Node Policy) → IsUtf8 text → IsTreeOf text p
    → k < length p.policies.items → PolicyStands text (get_or p.policies.items k d)
policy_stands text p k d utf8 t l = record {
  splits = (t.units, t.split);
  nodes = at_place p.policies.items k l (policies_stand text p utf8 t);
}
  where
    at_place : (ps : List (Node Policy)) (k : ℕ) → k < length ps → EachSpan (Stands text) (policy_trees ps)
        → EachSpan (Stands text) (policy_trees (get_or ps k d ∷ []))
    at_place [] k l e = absurd (omega (arith, l))
    at_place (p ∷ ps) zero l e = (e.0, e.1, tt)
    at_place (p ∷ ps) (suc k) l e = at_place ps k (omega (arith, l)) e.2

after_annotations : (P : Span → Type 0) (ns : List (Node Annotation)) (others : Erased)
    → EachSpan P (annotation_trees ns others) → EachSpan P others
after_annotations P [] others e = e
after_annotations P (n ∷ ns) others e = after_annotations P ns others e.2

pub effect_stands : (text : List ℕ) (p : Node Policy) → PolicyStands text p → Stands text p.inner.effect.span
effect_stands text p s = (after_annotations (Stands text) p.inner.annotations.items _ s.nodes.1).0

annotation_parts_at : (P : Span → Type 0) (ns : List (Node Annotation)) (others : Erased) (k : ℕ) (a : Node Annotation)
    → slice_get ns k ≡ Some a → EachSpan P (annotation_trees ns others) → EachSpan P (annotation_parts a.inner)
annotation_parts_at P [] others k a g e = absurd cc
annotation_parts_at P (n ∷ ns) others zero a g e = subst (λ (z : Node Annotation). EachSpan P (annotation_parts z.inner)) (same_Some n a g) e.1
annotation_parts_at P (n ∷ ns) others (suc k) a g e = annotation_parts_at P ns others k a g e.2

value_stands : (P : Span → Type 0) (v : Option (Node Str)) (s : Node Str) → v ≡ Some s → EachSpan P (value_parts v) → P s.span
value_stands P None s h e = absurd cc
value_stands P (Some t) s h e = subst (λ (z : Node Str). P z.span) (same_Some t s h) e.0

pub id_stands : (text : List ℕ) (p : Node Policy) (id : List ℕ) (place : Span) → PolicyStands text p
    → IsFirstId p.inner.annotations.items id place → Stands text place
id_stands text p id place s f =
    let parts = annotation_parts_at (Stands text) p.inner.annotations.items _ f.k f.a f.at s.nodes.1 in
    subst (Stands text) (sym f.is.at) (value_stands (Stands text) f.a.inner.value f.is.value f.is.has parts.2)

joined : (P : Span → Type 0) (f g : Erased) → EachSpan P (join f g) → EachSpan P g
joined P none g e = e
joined P (leaf t f) g e = joined P f g e
joined P (branch l f h) g e = joined P h g e.2

cond_at : (P : Span → Type 0) (ns : List (Node Cond)) (others : Erased) (k : ℕ) (d : Node Cond) → k < length ns
    → EachSpan P (cond_trees ns others) → P (get_or ns k d).span
cond_at P [] others k d l e = absurd (omega (arith, l))
cond_at P (n ∷ ns) others zero d l e = e.0
cond_at P (n ∷ ns) others (suc k) d l e = cond_at P ns others k d (omega (arith, l)) e.2

pub cond_stands : (text : List ℕ) (p : Node Policy) (k : ℕ) (d : Node Cond) → PolicyStands text p
    → k < length p.inner.conds.items → Stands text (get_or p.inner.conds.items k d).span
cond_stands text p k d s l =
    let after = after_annotations (Stands text) p.inner.annotations.items _ s.nodes.1 in
    let conds = joined (Stands text) (variable_items (scope_variables p.inner)) (cond_trees p.inner.conds.items (leaf (codes ";") none)) after.2 in
    cond_at (Stands text) p.inner.conds.items (leaf (codes ";") none) k d l conds
