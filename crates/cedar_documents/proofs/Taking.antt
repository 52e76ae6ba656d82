-- What a node lists of its tokens: its tokens follow it, and it needs what the node needs.
use Rattle.std.proofs.Common.{◌≡◌, Bool, true, false, List, [], ◌∷◌, ◌++◌, Option, Some, None, refl, sym, ap, ◌∙◌, subst}
use Rattle.std.specs.Prelude.{◌&&◌, if◌then◌else◌}
use Rattle.std.proofs.Math.Bool.{and-true}
use Rattle.cedar_tokens.specs.declared.token.Span.{Span}
use Rattle.cedar_grammar.specs.Trees.{Label, Forest, none, leaf, branch, yield}
use Rattle.cedar_layout.specs.Lookups.{Shown}
use Rattle.cedar_grammar.specs.Erased.{Erased}
use Rattle.cedar_grammar.specs.NodeTrees.{end_of, is_node, span_of}
use Rattle.cedar_documents.specs.Found.{has_its_tokens, has_own}
use Rattle.cedar_documents.specs.Items.{Item, token, at, needed, signs, listed, of_node}
use Rattle.cedar_documents.specs.Taking.{BeginsAt, Follow, has, has_all, nodes_of, text_of}

-- ---- what is needed

and-assoc : (a b c : Bool) → (a && (b && c)) ≡ ((a && b) && c)
and-assoc true b c = refl
and-assoc false b c = refl

has_all-append : (P : List Span) (is js : List Item)
    → has_all P (is ++ js) ≡ (has_all P is && has_all P js)
has_all-append P [] js = refl
has_all-append P (i ∷ is) js = ap (λ z. has P i && z) (has_all-append P is js)
    ∙ and-assoc (has P i) (has_all P is) (has_all P js)

has_node : (P : List Span) (l : Label) (s : Option Span) (f : Erased)
    → has_all P (of_node l s f) ≡ has_own P l s f
has_node P Label.ident None f = refl
has_node P Label.str None f = refl
has_node P Label.boolean None f = refl
has_node P Label.number None f = refl
has_node P Label.string None f = refl
has_node P Label.slot None f = refl
has_node P Label.unary None f = refl
has_node P l None f = refl
has_node P Label.ident (Some s) f = and-true _
has_node P Label.str (Some s) f = and-true _
has_node P Label.boolean (Some s) f = and-true _
has_node P Label.number (Some s) f = and-true _
has_node P Label.string (Some s) f = and-true _
has_node P Label.slot (Some s) f = and-true _
has_node P Label.unary (Some s) f = and-true _
has_node P l (Some s) f = refl

-- the tokens that the items need are those that the nodes need
pub has_all_listed : (P : List Span) (e : Erased) → has_all P (listed e) ≡ has_its_tokens P e
has_all_listed P none = refl
has_all_listed P (leaf text f) = has_all_listed P f
has_all_listed P (branch l f g) =
    has_all-append P (of_node l.0 l.1 f) (listed f ++ listed g)
    ∙ (ap (λ z. z && has_all P (listed f ++ listed g)) (has_node P l.0 l.1 f)
    ∙ ap (λ z. has_own P l.0 l.1 f && z) (has_all-append P (listed f) (listed g)
    ∙ (ap (λ z. z && has_all P (listed g)) (has_all_listed P f)
    ∙ ap (λ z. has_its_tokens P f && z) (has_all_listed P g))))

-- ---- the tokens

follow-append : (is js : List Item) (ts us : List Shown) → Follow is ts → Follow js us
    → Follow (is ++ js) (ts ++ us)
follow-append [] js ts us f g = subst (λ z. Follow js (z ++ us)) (sym f) g
follow-append (token s ∷ is) js [] us f g = absurd f
follow-append (token s ∷ is) js (t ∷ ts) us f g = (f.0, follow-append is js ts us f.1 g)
follow-append (at p ∷ is) js [] us f g = absurd f
follow-append (at p ∷ is) js (t ∷ ts) us f g = (f.0, follow-append is js (t ∷ ts) us f.1 g)
follow-append (needed p ∷ is) js [] us f g = absurd f
follow-append (needed p ∷ is) js (t ∷ ts) us f g = (f.0, follow-append is js (t ∷ ts) us f.1 g)
follow-append (signs n p q ∷ is) js ts us f g = follow-append is js ts us f g

-- the span of tokens begins where the first of them does
abbrev StartsAt : Option Span → List Shown → Type 0
StartsAt None ts = Unit {0}
StartsAt (Some s) [] = ⊥
StartsAt (Some s) (t ∷ ts) = t.span.start ≡ s.start

node_follows : (l : Label) (s : Option Span) (e : Erased) (is : List Item) (ts : List Shown)
    → StartsAt s ts → Follow is ts → Follow (of_node l s e ++ is) ts
node_follows l None e is ts h f = f
node_follows l (Some s) e is [] h f = absurd h
node_follows Label.ident (Some s) e is (t ∷ ts) h f = (h, f)
node_follows Label.str (Some s) e is (t ∷ ts) h f = (h, f)
node_follows Label.boolean (Some s) e is (t ∷ ts) h f = (h, f)
node_follows Label.number (Some s) e is (t ∷ ts) h f = (h, f)
node_follows Label.string (Some s) e is (t ∷ ts) h f = (h, f)
node_follows Label.slot (Some s) e is (t ∷ ts) h f = (h, f)
node_follows Label.unary (Some s) e is (t ∷ ts) h f = (h, f)
node_follows l (Some s) e is (t ∷ ts) h f = (h, f)

spans_start : (b : Bool) (ts us : List Shown)
    → StartsAt (if b then span_of text_of (λ t. t.span) ts else None) (ts ++ us)
spans_start false ts us = tt
spans_start true [] us = tt
spans_start true (t ∷ ts) us = refl

-- the tokens of trees are what the trees list
pub follows : (f : Forest Label Shown) → Follow (listed (nodes_of f)) (yield f)
follows none = refl
follows (leaf t f) = (refl, follows f)
follows (branch l f g) = node_follows l
    (if is_node l then span_of text_of (λ (t : Shown). t.span) (yield f) else None) (nodes_of f)
    (listed (nodes_of f) ++ listed (nodes_of g)) (yield f ++ yield g)
    (spans_start (is_node l) (yield f) (yield g))
    (follow-append (listed (nodes_of f)) (listed (nodes_of g)) (yield f) (yield g) (follows f)
    (follows g))

-- ---- where the first token is

node_begins : (l : Label) (s : Span) (e : Erased) (is : List Item)
    → BeginsAt (of_node l (Some s) e ++ is)
node_begins Label.ident s e is = tt
node_begins Label.str s e is = tt
node_begins Label.boolean s e is = tt
node_begins Label.number s e is = tt
node_begins Label.string s e is = tt
node_begins Label.slot s e is = tt
node_begins Label.unary s e is = tt
node_begins l s e is = tt

-- a node with tokens lists first where it begins
pub begins_at : (l : Label) (f g : Forest Label Shown) (t : Shown) (ts : List Shown)
    → is_node l ≡ true → yield f ≡ t ∷ ts → BeginsAt (listed (nodes_of (branch l f g)))
begins_at l f g t ts n e =
    subst (λ b. BeginsAt (of_node l (if b then span_of text_of (λ (u : Shown). u.span) (yield f)
    else None) (nodes_of f) ++ (listed (nodes_of f) ++ listed (nodes_of g)))) (sym n)
    (subst (λ us. BeginsAt (of_node l (span_of text_of (λ (u : Shown). u.span) us) (nodes_of f)
    ++ (listed (nodes_of f) ++ listed (nodes_of g)))) (sym e)
    (node_begins l record { start = t.span.start; end = end_of text_of (λ (u : Shown). u.span) t.span ts }
    (nodes_of f) (listed (nodes_of f) ++ listed (nodes_of g))))
