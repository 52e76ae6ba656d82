-- What is listed of trees in a row.
use Rattle.std.proofs.Common.{◌≡◌, ◌≤◌, length, drop, ℕ, Bool, true, false, codes, zero, suc, List, [], ◌∷◌, ◌++◌, replicate, Option, Some, None, refl, sym, ap, ◌∙◌, append_assoc, append-nil}
use Rattle.std.proofs.lemmas.List.{drop_all}
use Rattle.cedar_grammar.specs.Trees.{Label, none, leaf, branch, join}
use Rattle.cedar_tokens.specs.declared.token.Span.{Span}
use Rattle.cedar_grammar.specs.Erased.{Erased, cond_trees, ident_tree, node, scope_variables, sign_leaves, times, variable_items, variant}
use Rattle.cedar_grammar.specs.declared.tree.Policy.{Policy}
use Rattle.cedar_grammar.specs.NodeLists.{item_trees, more_trees}
use Rattle.cedar_grammar.specs.declared.tree.Node.{Node}
use Rattle.cedar_grammar.specs.declared.tree.NegOp.{NegOp}
use Rattle.cedar_grammar.specs.declared.tree.NegOp.TheVariants.{Bang, Dash}
use Rattle.cedar_documents.specs.Items.{Item, at, signs, token, of_node, listed, sign_count, signs_before, start_of_node}

pub listed-join : (f g : Erased) → listed (join f g) ≡ listed f ++ listed g
listed-join none g = refl
listed-join (leaf x f) g = ap (λ xs. token x ∷ xs) (listed-join f g)
listed-join (branch l f h) g =
    ap (λ xs. of_node l.0 l.1 f ++ (listed f ++ xs)) (listed-join h g)
    ∙ ap (λ xs. of_node l.0 l.1 f ++ xs) (sym (append_assoc (listed f) (listed h) (listed g)))
    ∙ sym (append_assoc (of_node l.0 l.1 f) (listed f ++ listed h) (listed g))

pub listed-times : (n : ℕ) (text : List ℕ) (f : Erased)
    → listed (times n text f) ≡ replicate n (token text) ++ listed f
listed-times zero text f = refl
listed-times (suc n) text f = ap (λ xs. token text ∷ xs) (listed-times n text f)

abbrev sign_text : Option NegOp → List ℕ
sign_text (Some (Bang n)) = codes "!"
sign_text _ = codes "-"

pub listed_signs : (op : Option NegOp)
    → listed (sign_leaves op none) ≡ replicate (sign_count op) (token (sign_text op))
listed_signs None = refl
listed_signs (Some (Bang zero)) = refl
listed_signs (Some (Bang (suc n))) = listed-times (suc n) _ none ∙ append-nil _
listed_signs (Some (Dash zero)) = refl
listed_signs (Some (Dash (suc n))) = listed-times (suc n) _ none ∙ append-nil _

-- the items that are left, with a comma before the next one unless it is the first
abbrev pub left : {X : Type 0} → Label → (X → Erased) → Bool → List (Node X) → Erased
left l parts true ns = item_trees l parts ns
left l parts false ns = more_trees l parts ns

-- signs and their member
signs_then : (op : Option NegOp) (f : Erased)
    → listed (sign_leaves op f) ≡ listed (sign_leaves op none) ++ listed f
signs_then None f = refl
signs_then (Some (Bang zero)) f = refl
signs_then (Some (Bang (suc n))) f = listed-times (suc n) (codes "!") f
    ∙ ap (λ (xs : List Item). xs ++ listed f) (sym (listed-times (suc n) (codes "!") none ∙
    append-nil (replicate (suc n) (token (codes "!")))))
signs_then (Some (Dash zero)) f = refl
signs_then (Some (Dash (suc n))) f = listed-times (suc n) (codes "-") f
    ∙ ap (λ (xs : List Item). xs ++ listed f) (sym (listed-times (suc n) (codes "-") none ∙
    append-nil (replicate (suc n) (token (codes "-")))))

counted : (n : ℕ) (text : List ℕ) (f : Erased) → signs_before f ≡ 0
    → signs_before (times n text f) ≡ n
counted zero text f e = e
counted (suc n) text f e = ap suc (counted n text f e)

passed : (n : ℕ) (text : List ℕ) (f : Erased)
    → start_of_node (times n text f) ≡ start_of_node f
passed zero text f = refl
passed (suc n) text f = passed n text f

signs_are : (op : Option NegOp) (s : Span) (f : Erased)
    → signs_before (sign_leaves op (node Label.member s f none)) ≡ sign_count op
signs_are None s f = refl
signs_are (Some (Bang zero)) s f = refl
signs_are (Some (Bang (suc n))) s f = counted (suc n) (codes "!") _ refl
signs_are (Some (Dash zero)) s f = refl
signs_are (Some (Dash (suc n))) s f = counted (suc n) (codes "-") _ refl

member_at : (op : Option NegOp) (s : Span) (f : Erased)
    → start_of_node (sign_leaves op (node Label.member s f none)) ≡ s.start
member_at None s f = refl
member_at (Some (Bang zero)) s f = refl
member_at (Some (Bang (suc n))) s f = passed (suc n) (codes "!") _
member_at (Some (Dash zero)) s f = refl
member_at (Some (Dash (suc n))) s f = passed (suc n) (codes "-") _

pub listed_unary : (span : Span) (op : Option NegOp) (s : Span) (f : Erased)
    → listed (node Label.unary span (sign_leaves op (node Label.member s f none)) none)
    ≡ at span.start ∷ signs (sign_count op) span.start s.start
    ∷ (listed (sign_leaves op none) ++ listed (node Label.member s f none))
listed_unary span op s f =
    let g = sign_leaves op (node Label.member s f none) in
    ap (λ n. at span.start ∷ signs n span.start (start_of_node g) ∷ (listed g ++ []))
    (signs_are op s f)
    ∙ ap (λ p. at span.start ∷ signs (sign_count op) span.start p ∷ (listed g ++ []))
    (member_at op s f)
    ∙ ap (λ xs. at span.start ∷ signs (sign_count op) span.start s.start ∷ xs)
    (append-nil (listed g) ∙ signs_then op (node Label.member s f none))

-- ---- what is listed in turn

listed_node : (l : Label) (s : Span) (p g : Erased)
    → listed (node l s p none) ++ listed g ≡ listed (node l s p g)
listed_node l s p g =
    let a = of_node l (Some s) p in
    append_assoc a (listed p ++ []) (listed g)
    ∙ ap (λ (xs : List Item). a ++ (xs ++ listed g)) (append-nil (listed p))

-- an item, and the first of the nodes in a row
pub begin_row : (out : List Item) (x : Item) {mid new : List Item} {l : Label} {s : Span} {p :
    Erased}
    → (g whole : Erased) → mid ≡ out ++ x ∷ [] → new ≡ mid ++ listed (node l s p none)
    → whole ≡ node l s p g → new ++ listed g ≡ out ++ x ∷ listed whole
begin_row out x {l = l} {s = s} {p = p} g whole e f w =
    ap (λ (xs : List Item). xs ++ listed g)
    (f ∙ ap (λ (xs : List Item). xs ++ listed (node l s p none)) e)
    ∙ append_assoc (out ++ x ∷ []) (listed (node l s p none)) (listed g)
    ∙ ap (λ (xs : List Item). (out ++ x ∷ []) ++ xs) (listed_node l s p g)
    ∙ append_assoc out (x ∷ []) (listed (node l s p g))
    ∙ ap (λ (f : Erased). out ++ x ∷ listed f) (sym w)

one : (out : List Item) (x : Item) (xs : List Item) → (out ++ x ∷ []) ++ xs ≡ out ++ x ∷ xs
one out x xs = append_assoc out (x ∷ []) xs

-- signs and their member
pub unary_done : (out : List Item) {a b d new : List Item} (span : Span) (op : Option NegOp) (s :
    Span) (p u : Erased)
    → a ≡ out ++ at span.start ∷ [] → b ≡ a ++ signs (sign_count op) span.start s.start ∷ []
    → d ≡ b ++ listed (sign_leaves op none) → new ≡ d ++ listed (node Label.member s p none)
    → u ≡ sign_leaves op (node Label.member s p none)
    → new ≡ out ++ listed (node Label.unary span u none)
unary_done out span op s p u e f g h w =
    let m = listed (node Label.member s p none) in
    let ss = listed (sign_leaves op none) in
    let x = signs (sign_count op) span.start s.start in
    h ∙ ap (λ (xs : List Item). xs ++ m) (g ∙ ap (λ (xs : List Item). xs ++ ss)
    (f ∙ ap (λ (xs : List Item). xs ++ x ∷ []) e))
    ∙ append_assoc ((out ++ at span.start ∷ []) ++ x ∷ []) ss m
    ∙ one (out ++ at span.start ∷ []) x (ss ++ m) ∙ one out (at span.start) (x ∷ (ss ++ m))
    ∙ ap (λ (xs : List Item). out ++ xs) (sym (listed_unary span op s p))
    ∙ ap (λ (z : Erased). out ++ listed (node Label.unary span z none)) (sym w)

-- what is between two tokens
pub enclosed : (out : List Item) (x : Item) {a b d new : List Item} (first last : List ℕ) (f :
    Erased)
    → a ≡ out ++ x ∷ [] → b ≡ a ++ token first ∷ [] → d ≡ b ++ listed f
    → new ≡ d ++ token last ∷ []
    → new ≡ out ++ x ∷ listed (leaf first (join f (leaf last none)))
enclosed out x first last f e g h k =
    k ∙ ap (λ (xs : List Item). xs ++ token last ∷ []) (h ∙ ap (λ (xs : List Item). xs ++ listed f)
    (g ∙ ap (λ (xs : List Item). xs ++ token first ∷ []) e))
    ∙ append_assoc ((out ++ x ∷ []) ++ token first ∷ []) (listed f) (token last ∷ [])
    ∙ one (out ++ x ∷ []) (token first) (listed f ++ token last ∷ [])
    ∙ one out x (token first ∷ (listed f ++ token last ∷ []))
    ∙ ap (λ (xs : List Item). out ++ x ∷ token first ∷ xs) (sym (listed-join f (leaf last none)))

-- after an item, trees are listed as others that they are seen as
pub seen : (out : List Item) (x : Item) (p : Erased) {f : Erased} → p ≡ f
    → out ++ x ∷ listed f ≡ out ++ x ∷ (listed p ++ [])
seen out x p e = ap (λ (g : Erased). out ++ x ∷ listed g) (sym e)
    ∙ ap (λ (xs : List Item). out ++ x ∷ xs) (sym (append-nil (listed p)))

pub seen_variant : (out : List Item) (x : Item) (l : Label) (p : Erased) {f : Erased}
    → p ≡ variant l f none → out ++ x ∷ listed f ≡ out ++ x ∷ (listed p ++ [])
seen_variant out x l p {f = f} e =
    ap (λ (xs : List Item). out ++ x ∷ xs) (sym (append-nil (listed f)))
    ∙ ap (λ (g : Erased). out ++ x ∷ listed g) (sym e)
    ∙ ap (λ (xs : List Item). out ++ x ∷ xs) (sym (append-nil (listed p)))

-- what follows the annotations of a policy
abbrev pub after_annotations : Policy → Erased
after_annotations p = ident_tree p.effect (leaf (codes "(")
    (join (variable_items (scope_variables p)) (leaf (codes ")")
    (cond_trees p.conds.items (leaf (codes ";") none)))))

nothing_left : {X : Type 0} (l : Label) (parts : X → Erased) (b : Bool) → listed (left l parts b
    []) ≡ []
nothing_left l parts true = refl
nothing_left l parts false = refl

-- after the last item all are listed
pub ended : {X : Type 0} (l : Label) (parts : X → Erased) (b : Bool) (ns : List (Node X)) (k : ℕ)
    (out : List Item) {xs : List Item} → length ns ≤ k
    → out ++ listed (left l parts b (drop k ns)) ≡ xs → out ≡ xs
ended l parts b ns k out h e = sym (append-nil out)
    ∙ ap (λ (ys : List Item). out ++ ys) (sym (nothing_left l parts b))
    ∙ ap (λ ms. out ++ listed (left l parts b ms)) (sym (drop_all k ns h)) ∙ e
