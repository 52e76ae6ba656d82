-- A part whose own tokens are consecutive has its tokens.
use Rattle.std.proofs.Common.{◌≡◌, ℕ, suc, cond, Bool, true, false, List, [], ◌∷◌, ◌++◌, map, length, Option, Some, None, ◌==◌, ◌||◌, refl, sym, ap, ◌∙◌, subst}
use Rattle.std.specs.Prelude.{◌&&◌, nat_le, if◌then◌else◌}
use Rattle.std.specs.List.{filter}
use Rattle.std.proofs.lemmas.List.{append_assoc}
use Rattle.std.proofs.Math.Bool.{or-true}
use Rattle.std.proofs.lemmas.Bool.{eq-eqb}
use Rattle.cedar_tokens.specs.Places.{InOrderFrom}
use Rattle.cedar_tokens.specs.declared.token.Span.{Span}
use Rattle.cedar_grammar.specs.Trees.{Label, Forest, none, leaf, branch, yield}
use Rattle.cedar_grammar.specs.TypedTrees.{Tree, Clause, parts, part_parts, name_one, name_more, ref_of, literal, slot, reference, named, parens, list_empty, list_of, record_empty, record_of, member_of, unsigned, signed}
use Rattle.cedar_grammar.specs.TypedTrees as kind
use Rattle.cedar_layout.specs.Lookups.{Shown, stands_in}
use Rattle.cedar_grammar.specs.NodeTrees.{end_of, is_node, span_of}
use Rattle.cedar_documents.specs.Found.{count_between, has_its_tokens, has_own, starts}
use Rattle.cedar_documents.specs.Items.{signs_before, start_of_node}
use Rattle.cedar_documents.specs.ShownNodes.{HasToken, IsSigned, HasMember, AreSigned}
use Rattle.cedar_documents.proofs.Between.{those_between}
use Rattle.cedar_documents.proofs.TypedNodes.{AreTyped, IsTyped}
use Rattle.cedar_documents.specs.Taking.{nodes_of, text_of}
use Rattle.cedar_documents.proofs.ShownTrees.{kind_of_shown}

and_true : (b c : Bool) → b ≡ true → (b && c) ≡ c
and_true b c h = ap (λ z. z && c) h

-- the tokens ts are consecutive among others, which are at these places
pub record Within (P : List Span) (ts : List Shown) : Type 0 where
  pub before : List Shown
  pub after : List Shown
  pub all : P ≡ map (λ t. t.span) (before ++ (ts ++ after))
  pub order : InOrderFrom 0 P

module _ {P : List Span} where
  front : (xs ys : List Shown) → Within P (xs ++ ys) → Within P xs
  front xs ys w = record {
    before = w.before;
    after = ys ++ w.after;
    all = w.all
        ∙ ap (λ z. map (λ (t : Shown). t.span) (w.before ++ z)) (append_assoc xs ys w.after);
    order = w.order;
  }

  back : (xs ys : List Shown) → Within P (xs ++ ys) → Within P ys
  back xs ys w = record {
    before = w.before ++ xs;
    after = w.after;
    all = w.all ∙ ap (λ z. map (λ (t : Shown). t.span) (w.before ++ z)) (append_assoc xs ys w.after)
        ∙ ap (map (λ (t : Shown). t.span)) (sym (append_assoc w.before xs (ys ++ w.after)));
    order = w.order;
  }

starts_among : (x : Shown) (b a : List Shown)
    → starts x.span.start (map (λ t. t.span) (b ++ (x ∷ a))) ≡ true
starts_among x [] a = ap (λ z. z || starts x.span.start (map (λ (t : Shown). t.span) a))
    (eq-eqb x.span.start x.span.start refl)
starts_among x (y ∷ b) a = ap (λ z. (y.span.start == x.span.start) || z) (starts_among x b a)
    ∙ or-true (y.span.start == x.span.start)

pub first_starts : {P : List Span} (x : Shown) (ts : List Shown) → Within P (x ∷ ts)
    → starts x.span.start P ≡ true
first_starts x ts w = ap (starts x.span.start) w.all ∙ starts_among x w.before (ts ++ w.after)

-- ---- signs

-- the tokens before the member, and the first token of the member
record AtMember (f : Forest Label Shown) : Type 0 where
  signs : List Shown
  first : Shown
  others : List Shown
  tokens : yield f ≡ signs ++ (first ∷ others)
  count : signs_before (nodes_of f) ≡ length signs
  start : start_of_node (nodes_of f) ≡ first.span.start

at_member : (f : Forest Label Shown) → IsSigned f → AtMember f
at_member none w = absurd w
at_member (leaf x f) w = let r = at_member f w in record {
  signs = x ∷ r.signs;
  first = r.first;
  others = r.others;
  tokens = ap (λ z. x ∷ z) r.tokens;
  count = ap suc r.count;
  start = r.start;
}
at_member (branch l f g) (m, n, w) = record {
  signs = [];
  first = w.0;
  others = w.1 ++ yield g;
  tokens = ap (λ z. z ++ yield g) w.2;
  count = refl;
  start = ap (λ k. start_of_node
      (branch (k, if is_node k then span_of text_of (λ (t : Shown). t.span) (yield f) else None)
      (nodes_of f) (nodes_of g))) m ∙ ap (λ z. start_of_node (branch
      (Label.member, span_of text_of (λ (t : Shown). t.span) z) (nodes_of f) (nodes_of g))) w.2;
}

-- how many of the tokens are in a span
counted : (s : Span) (ts : List Shown)
    → count_between s.start s.end (map (λ t. t.span) ts) ≡ length (filter (stands_in s) ts)
counted s [] = refl
counted s (t ∷ ts) = go (stands_in s t) (counted s ts)
  where
    go : (b : Bool)
        → count_between s.start s.end (map (λ t. t.span) ts) ≡ length (filter (stands_in s) ts)
        → length (cond b
        (t.span ∷ filter (λ u. nat_le s.start u.start && nat_le u.end s.end) (map (λ t. t.span) ts))
        (filter (λ u. nat_le s.start u.start && nat_le u.end s.end) (map (λ t. t.span) ts)))
        ≡ length (cond b (t ∷ filter (stands_in s) ts) (filter (stands_in s) ts))
    go true e = ap suc e
    go false e = e

-- there are as many tokens between the start of the signs and their member as there are signs
signs_between : {P : List Span} (x : Shown) (ss : List Shown) (m : Shown) (ms : List Shown)
    → Within P ((x ∷ ss) ++ (m ∷ ms)) → count_between x.span.start m.span.start P ≡ length (x ∷ ss)
signs_between {P = P} x ss m ms w =
    let s : Span = record { start = x.span.start; end = m.span.start } in
    let a = w.after in
    let e : w.before ++ (((x ∷ ss) ++ (m ∷ ms)) ++ a) ≡ w.before ++ (x ∷ (ss ++ (m ∷ (ms ++ a)))) =
    ap (λ z. w.before ++ z) (append_assoc (x ∷ ss) (m ∷ ms) a) in
    let at : P ≡ map (λ t. t.span) (w.before ++ (x ∷ (ss ++ (m ∷ (ms ++ a))))) =
    w.all ∙ ap (map (λ (t : Shown). t.span)) e in
    let among =
    those_between s w.before ss (ms ++ a) x m refl refl (subst (λ z. InOrderFrom 0 z) at w.order) in
    ap (count_between x.span.start m.span.start) at
    ∙ counted s (w.before ++ (x ∷ (ss ++ (m ∷ (ms ++ a))))) ∙ ap length among.0

some_or : (n : ℕ) (b : Bool) → b ≡ true → ((n == 0) || b) ≡ true
some_or n b e = ap (λ z. (n == 0) || z) e ∙ or-true (n == 0)

signs_are_there : {P : List Span} (f : Forest Label Shown) → IsSigned f → Within P (yield f)
    → has_own P Label.unary (span_of text_of (λ t. t.span) (yield f)) (nodes_of f) ≡ true
signs_are_there {P = P} f w i =
    let r = at_member f w in go r.signs r.first r.others r.tokens r.count r.start
  where
    go : (ss : List Shown) (m : Shown) (ms : List Shown) → yield f ≡ ss ++ (m ∷ ms)
        → signs_before (nodes_of f) ≡ length ss → start_of_node (nodes_of f) ≡ m.span.start
        → has_own P Label.unary (span_of text_of (λ t. t.span) (yield f)) (nodes_of f) ≡ true
    go [] m ms e n q =
        ap (λ z. has_own P Label.unary (span_of text_of (λ (t : Shown). t.span) z) (nodes_of f)) e
        ∙ ap (λ k. (k == 0) || (count_between m.span.start (start_of_node (nodes_of f)) P == k)) n
    go (x ∷ ss) m ms e n q =
        let k = signs_between x ss m ms (subst (λ z. Within P z) e i) in
        ap (λ z. has_own P Label.unary (span_of text_of (λ (t : Shown). t.span) z) (nodes_of f)) e
        ∙ some_or (signs_before (nodes_of f)) _ (ap (λ z. count_between x.span.start z P
        == signs_before (nodes_of f)) q ∙ ap (λ z. z == signs_before (nodes_of f)) k
        ∙ ap (λ z. length (x ∷ ss) == z) n ∙ eq-eqb (length (x ∷ ss)) (length (x ∷ ss)) refl)

-- ---- every node

one_token : {P : List Span} (l : Label) (ts : List Shown) → Within P ts → (g : Forest Label Shown)
    → (own : Option Span → Bool) → own None ≡ true → ((s : Span) → own (Some s) ≡ starts s.start P)
    → own (span_of text_of (λ t. t.span) ts) ≡ true
one_token l [] w g own n f = n
one_token l (x ∷ ts) w g own n f =
    f record { start = x.span.start; end = end_of text_of (λ (t : Shown). t.span) x.span ts }
    ∙ first_starts x ts w

owned : {P : List Span} (l : Label) (f : Forest Label Shown) → HasMember l f → Within P (yield f)
    → has_own P l (if is_node l then span_of text_of (λ t. t.span) (yield f)
    else None) (nodes_of f) ≡ true
owned {P = P} Label.ident f o w =
    one_token Label.ident (yield f) w f (λ s. has_own P Label.ident s (nodes_of f)) refl (λ s. refl)
owned {P = P} Label.str f o w =
    one_token Label.str (yield f) w f (λ s. has_own P Label.str s (nodes_of f)) refl (λ s. refl)
owned {P = P} Label.boolean f o w = one_token Label.boolean (yield f) w f
    (λ s. has_own P Label.boolean s (nodes_of f)) refl (λ s. refl)
owned {P = P} Label.number f o w = one_token Label.number (yield f) w f
    (λ s. has_own P Label.number s (nodes_of f)) refl (λ s. refl)
owned {P = P} Label.string f o w = one_token Label.string (yield f) w f
    (λ s. has_own P Label.string s (nodes_of f)) refl (λ s. refl)
owned {P = P} Label.slot f o w =
    one_token Label.slot (yield f) w f (λ s. has_own P Label.slot s (nodes_of f)) refl (λ s. refl)
owned Label.unary f o w = signs_are_there f o w
owned l f o w = refl

-- trees whose tokens are consecutive have their tokens
pub has_them : {P : List Span} (f : Forest Label Shown) → AreSigned f → Within P (yield f)
    → has_its_tokens P (nodes_of f) ≡ true
has_them none s w = refl
has_them (leaf x f) s w = has_them f s (back (x ∷ []) (yield f) w)
has_them {P = P} (branch l f g) s w =
    let a = owned l f s.0 (front (yield f) (yield g) w) in
    let b = has_them f s.1 (front (yield f) (yield g) w) in
    let c = has_them g s.2 (back (yield f) (yield g) w) in
    and_true (has_own P l (if is_node l then span_of text_of (λ (t : Shown). t.span) (yield f)
    else None) (nodes_of f)) _ a ∙ and_true (has_its_tokens P (nodes_of f)) _ b ∙ c

-- ---- typed trees

nonempty_front : (xs ys : List Shown) → ((x : Shown) × (ts : List Shown) × (xs ≡ x ∷ ts))
    → (x : Shown) × (ts : List Shown) × (xs ++ ys ≡ x ∷ ts)
nonempty_front xs ys (x, ts, e) = (x, ts ++ ys, ap (λ z. z ++ ys) e)

name_token : (t : Tree Shown kind.name) → HasToken (parts kind_of_shown t)
name_token (name_one x) = (x, [], refl)
name_token (name_more x c r) = (x, _, refl)

ref_token : (t : Tree Shown kind.ref) → HasToken (parts kind_of_shown t)
ref_token (ref_of n c s) = nonempty_front (yield (parts kind_of_shown n)) _ (name_token n)

primary_token : (t : Tree Shown kind.primary) → HasToken (parts kind_of_shown t)
primary_token (literal x) = (x, [], refl)
primary_token (slot x) = (x, [], refl)
primary_token (reference r) = nonempty_front (yield (parts kind_of_shown r)) [] (ref_token r)
primary_token (named n) = nonempty_front (yield (parts kind_of_shown n)) [] (name_token n)
primary_token (parens l e r) = (l, _, refl)
primary_token (list_empty l r) = (l, _, refl)
primary_token (list_of l a r) = (l, _, refl)
primary_token (record_empty l r) = (l, _, refl)
primary_token (record_of l a r) = (l, _, refl)

member_token : (t : Tree Shown kind.member) → HasToken (parts kind_of_shown t)
member_token (member_of p m) =
    nonempty_front (yield (parts kind_of_shown p)) (yield (parts kind_of_shown m)) (primary_token p)

pub unary_signed : (t : Tree Shown kind.unary) → IsSigned (parts kind_of_shown t)
unary_signed (unsigned m) = (refl, refl, member_token m)
unary_signed (signed s u) = unary_signed u

-- the parts of a typed unary are signs and a member
own_of : (l : Label) (f : Forest Label Shown) → IsTyped l f → HasMember l f
own_of Label.unary f (t, e) = subst IsSigned (sym e) (unary_signed t)
own_of l f t = tt

pub signed_of : (f : Forest Label Shown) → AreTyped f → AreSigned f
signed_of none t = tt
signed_of (leaf x f) t = signed_of f t
signed_of (branch l f g) t = (own_of l f t.0, signed_of f t.1, signed_of g t.2)
