-- The derived `==` of nodes is true exactly where their trees without spans are equal.
use Rattle.std.specs.Prelude.{◌≡◌, Bool, ℕ, true, false, List, [], ◌∷◌, codes, Option, Some, None, Decides, ◌&&◌}
use Rattle.std.proofs.Common.{refl, sym, ap, ap₂, ◌∙◌, eqb, cond, zero, suc, arith}
use Rattle.std.specs.Option.{option_eq}
use Rattle.std.specs.Cmp.Lexicographic.{other_text}
use Rattle.std.specs.Str.{bytes_eq}
use Rattle.std.proofs.lemmas.Bool.Decides.{Decides-and, Decides-eqb, not_from_Decides, nat_tests}
use Rattle.std.proofs.Math.Bool.{and_assoc}
use lib.Pointwise.{pointwise, bytes_decides}
use Rattle.cedar_grammar.specs.declared.tree.Node.{Node}
use Rattle.cedar_grammar.specs.declared.tree.Expr as Expr
use Rattle.cedar_grammar.specs.declared.tree.Or as Or
use Rattle.cedar_grammar.specs.declared.tree.Relation as Relation
use Rattle.cedar_grammar.specs.declared.tree.MemAccess as MemAccess
use Rattle.cedar_grammar.specs.declared.tree.Primary as Primary
use Rattle.cedar_grammar.specs.declared.tree.And as And
use Rattle.cedar_grammar.specs.declared.tree.Add as Add
use Rattle.cedar_grammar.specs.declared.tree.Mult as Mult
use Rattle.cedar_grammar.specs.declared.tree.Unary as Unary
use Rattle.cedar_grammar.specs.declared.tree.Member as Member
use Rattle.cedar_grammar.specs.declared.tree.RecInit as RecInit
use Rattle.cedar_grammar.specs.declared.tree.Policies.{Policies}
use Rattle.cedar_grammar.specs.declared.tree.Policy.{Policy}
use Rattle.cedar_grammar.specs.declared.tree.Annotation.{Annotation}
use Rattle.cedar_grammar.specs.declared.tree.VariableDef.{VariableDef}
use Rattle.cedar_grammar.specs.declared.tree.Cond.{Cond}
use Rattle.cedar_grammar.specs.declared.tree.Literal.{Literal}
use Rattle.cedar_grammar.specs.declared.tree.Slot.{Slot}
use Rattle.cedar_grammar.specs.declared.tree.RelOp.{RelOp}
use Rattle.cedar_grammar.specs.declared.tree.AddOp.{AddOp}
use Rattle.cedar_grammar.specs.declared.tree.MultOp.{MultOp}
use Rattle.cedar_grammar.specs.declared.tree.NegOp.{NegOp}
use Rattle.cedar_grammar.specs.declared.tree.Ident.{Ident}
use Rattle.cedar_grammar.specs.declared.tree.Name.{Name}
use Rattle.cedar_grammar.specs.declared.tree.Str.{Str}
use Rattle.cedar_grammar.specs.declared.tree.Ref.{Ref}
use Rattle.cedar_tokens.specs.declared.token.Span.{Span}
use Rattle.cedar_grammar.specs.declared.tree.Expr.TheBlock as B
use Rattle.cedar_grammar.specs.contracts.tree.ExprPartialEq.TheImpl as expr_eq
use Rattle.cedar_grammar.specs.contracts.tree.ExprPartialEq.TheImpl.Laws as expr_laws
use Rattle.cedar_grammar.specs.contracts.tree.OrPartialEq.TheImpl.Laws as or_laws
use Rattle.cedar_grammar.specs.contracts.tree.AndPartialEq.TheImpl as and_eq
use Rattle.cedar_grammar.specs.contracts.tree.AndPartialEq.TheImpl.Laws as and_laws
use Rattle.cedar_grammar.specs.contracts.tree.RelationPartialEq.TheImpl as relation_eq
use Rattle.cedar_grammar.specs.contracts.tree.RelationPartialEq.TheImpl.Laws as relation_laws
use Rattle.cedar_grammar.specs.contracts.tree.AddPartialEq.TheImpl as add_eq
use Rattle.cedar_grammar.specs.contracts.tree.AddPartialEq.TheImpl.Laws as add_laws
use Rattle.cedar_grammar.specs.contracts.tree.MultPartialEq.TheImpl as mult_eq
use Rattle.cedar_grammar.specs.contracts.tree.MultPartialEq.TheImpl.Laws as mult_laws
use Rattle.cedar_grammar.specs.contracts.tree.UnaryPartialEq.TheImpl as unary_eq
use Rattle.cedar_grammar.specs.contracts.tree.UnaryPartialEq.TheImpl.Laws as unary_laws
use Rattle.cedar_grammar.specs.contracts.tree.MemberPartialEq.TheImpl.Laws as member_laws
use Rattle.cedar_grammar.specs.contracts.tree.MemAccessPartialEq.TheImpl as access_eq
use Rattle.cedar_grammar.specs.contracts.tree.MemAccessPartialEq.TheImpl.Laws as access_laws
use Rattle.cedar_grammar.specs.contracts.tree.PrimaryPartialEq.TheImpl.Laws as primary_laws
use Rattle.cedar_grammar.specs.contracts.tree.RecInitPartialEq.TheImpl as init_eq
use Rattle.cedar_grammar.specs.contracts.tree.RecInitPartialEq.TheImpl.Laws as init_laws
use Rattle.cedar_grammar.specs.contracts.tree.LiteralPartialEq.TheImpl as literal_eq
use Rattle.cedar_grammar.specs.contracts.tree.SlotPartialEq.TheImpl as slot_eq
use Rattle.cedar_grammar.specs.contracts.tree.RelOpPartialEq.TheImpl as relop_eq
use Rattle.cedar_grammar.specs.contracts.tree.AddOpPartialEq.TheImpl as addop_eq
use Rattle.cedar_grammar.specs.contracts.tree.MultOpPartialEq.TheImpl as multop_eq
use Rattle.cedar_grammar.specs.contracts.tree.NegOpPartialEq.TheImpl as negop_eq
use Rattle.cedar_grammar.specs.contracts.tree.IdentPartialEq.TheImpl as ident_eq
use Rattle.cedar_grammar.specs.contracts.tree.NamePartialEq.TheImpl as name_eq
use Rattle.cedar_grammar.specs.contracts.tree.StrPartialEq.TheImpl as str_eq
use Rattle.cedar_grammar.specs.contracts.tree.RefPartialEq.TheImpl as ref_eq
use Rattle.cedar_grammar.specs.contracts.tree.AnnotationPartialEq.TheImpl as annotation_eq
use Rattle.cedar_grammar.specs.contracts.tree.VariableDefPartialEq.TheImpl as variable_eq
use Rattle.cedar_grammar.specs.contracts.tree.CondPartialEq.TheImpl as cond_eq
use Rattle.cedar_grammar.specs.contracts.tree.PolicyPartialEq.TheImpl as policy_eq
use Rattle.cedar_grammar.specs.contracts.tree.PoliciesPartialEq.TheImpl as policies_eq
use Rattle.cedar_grammar.specs.Erased.{Erased, node, ident_tree, path_parts, ref_tree, variant_label, literal_text, slot_text, relop_text, addop_text, times, signs_or, sign_leaves, expr_parts, or_parts, or_rest, and_rest, relation_parts, add_parts, add_rest, mult_parts, mult_rest, unary_parts, access_trees, access_parts, expr_items, more_items, primary_parts, init_items, more_inits, value_parts, annotation_trees, type_parts, operator_parts, variable_parts, cond_trees, policy_parts, policy_trees, without_spans, SameTree}
use Rattle.cedar_grammar.specs.Trees.{Label, Forest, none, leaf, branch, join}
use Rattle.cedar_grammar.specs.Trees as L
use Rattle.cedar_grammar.proofs.Trees.Unlike.{number_of, is_literal, no_literal, alike, differ as rows_differ, ins, nxt, lab, hd, last_same}

abbrev Bare : Type 0
Bare = Forest Label (List ℕ)

-- b is true exactly where the trees are the same without spans
abbrev Tells : Bool → Erased → Erased → Type 0
Tells b f g = Decides b (without_spans f ≡ without_spans g)

-- a test decides what another one decides
by : {P Q : Type 0} {b c : Bool} → b ≡ c → Decides c P → (P → Q) → (Q → P) → Decides b Q
by e d f g = (λ h. f (d.0 (sym e ∙ h)), λ q. e ∙ d.1 (g q))

-- false, where the trees differ
no : {Q : Type 0} {b : Bool} → b ≡ false → (Q → ⊥) → Decides b Q
no e f = (λ h. let k : true ≡ false = sym h ∙ e in cc, λ q. absurd (f q))

-- tests of the parts of a tree decide whether the whole is equal
and : {P Q : Type 0} {x y : Bool} → Decides x P → Decides y Q → Decides (x && y) (P × Q)
and {x = x} {y = y} d e = Decides-and x y d e

text : {b : Bool} {s t : List ℕ} {f : Bare} → Decides b (s ≡ t) → Decides b (leaf s f ≡ leaf t f)
text {f = f} d = by refl d (ap (λ z. leaf z f)) (ap (hd []))

under : {b : Bool} {s : List ℕ} {f g : Bare} → Decides b (f ≡ g) → Decides b (leaf s f ≡ leaf s g)
under {s = s} d = by refl d (ap (leaf s)) (ap nxt)

texts : {b c : Bool} {s t : List ℕ} {f g : Bare} → Decides b (s ≡ t) → Decides c (f ≡ g)
    → Decides (b && c) (leaf s f ≡ leaf t g)
texts d e = by refl (and d e) (λ p. ap₂ leaf p.0 p.1) (λ h. (ap (hd []) h, ap nxt h))

one : {b : Bool} {l : Label} {f g h : Bare} → Decides b (f ≡ g)
    → Decides b (branch l f h ≡ branch l g h)
one {l = l} {h = h} d = by refl d (ap (λ z. branch l z h)) (ap ins)

two : {b c : Bool} {l : Label} {f g h k : Bare} → Decides b (f ≡ g) → Decides c (h ≡ k)
    → Decides (b && c) (branch l f h ≡ branch l g k)
two {l = l} d e = by refl (and d e) (λ p. ap₂ (branch l) p.0 p.1) (λ h. (ap ins h, ap nxt h))

after : {b : Bool} {l : Label} {f g h : Bare} → Decides b (g ≡ h)
    → Decides b (branch l f g ≡ branch l f h)
after {l = l} {f = f} d = by refl d (ap (branch l f)) (ap nxt)

at : {b c : Bool} {Q : Type 0} → b ≡ c → Decides c Q → Decides b Q
at e d = by e d (λ q. q) (λ q. q)

yes : {Q : Type 0} {b : Bool} → b ≡ true → Q → Decides b Q
yes e q = (λ h. q, λ h. e)

same_end : Decides true (◌≡◌ {A = Bare} none none)
same_end = yes refl refl

-- Trees that differ.
differ : (f g : Bare) → alike bytes_eq f g ≡ false → f ≡ g → ⊥
differ f g n e = rows_differ bytes_eq (λ s. (bytes_decides s s).1 refl) f g n e

-- Operators, slots and literals.
relops : (x y : RelOp) → Decides (relop_eq.ghosts.eq x y) (relop_text x ≡ relop_text y)
relops RelOp.Less RelOp.Less = yes refl refl
relops RelOp.LessEq RelOp.LessEq = yes refl refl
relops RelOp.Greater RelOp.Greater = yes refl refl
relops RelOp.GreaterEq RelOp.GreaterEq = yes refl refl
relops RelOp.NotEq RelOp.NotEq = yes refl refl
relops RelOp.Eq RelOp.Eq = yes refl refl
relops RelOp.In RelOp.In = yes refl refl
relops x y = no refl (other_text _ _ refl)

addops : (x y : AddOp) → Decides (addop_eq.ghosts.eq x y) (addop_text x ≡ addop_text y)
addops AddOp.Plus AddOp.Plus = yes refl refl
addops AddOp.Minus AddOp.Minus = yes refl refl
addops x y = no refl (other_text _ _ refl)

slots : (x y : Slot) → Decides (slot_eq.ghosts.eq x y) (slot_text x ≡ slot_text y)
slots Slot.Principal Slot.Principal = yes refl refl
slots Slot.Resource Slot.Resource = yes refl refl
slots x y = no refl (other_text _ _ refl)

abbrev literal_tree : Literal → Bare
literal_tree x = branch (variant_label x) (leaf (literal_text x) none) none

literals : (x y : Literal) → Decides (literal_eq.ghosts.eq x y) (literal_tree x ≡ literal_tree y)
literals Literal.True Literal.True = yes refl refl
literals Literal.False Literal.False = yes refl refl
literals (Literal.Num s) (Literal.Num t) = one (text (bytes_decides s.now t.now))
literals (Literal.Str s) (Literal.Str t) = one (text (bytes_decides s.now t.now))
literals x y = no refl (differ _ _ refl)

literal_is : (x : Literal) → is_literal (variant_label x) ≡ true
literal_is Literal.True = refl
literal_is Literal.False = refl
literal_is (Literal.Num t) = refl
literal_is (Literal.Str t) = refl

-- Signs.
abbrev same_signs : Option NegOp → Option NegOp → Bool
same_signs = option_eq negop_eq.ghosts.eq

eqb_suc : (n m : ℕ) → eqb (suc n) (suc m) ≡ eqb n m
eqb_suc n m = grind (arith, nat_tests)

eqb_apart : (n : ℕ) → eqb zero (suc n) ≡ false
eqb_apart n = grind (arith, nat_tests)

eqb_apart_back : (n : ℕ) → eqb (suc n) zero ≡ false
eqb_apart_back n = grind (arith, nat_tests)

-- which signs stand first
abbrev sign_of : Bare → ℕ
sign_of none = 0
sign_of (leaf s f) = cond (bytes_eq s (codes "!")) 1 2
sign_of (branch l f g) = number_of l

abbrev sign : Option NegOp → ℕ
sign None = 0
sign (Some (NegOp.Bang n)) = 1
sign (Some (NegOp.Dash n)) = 2

sign_is : (x : Option NegOp) (s : Span) (f : Erased)
    → sign_of (without_spans (sign_leaves x (node L.member s f none))) ≡ sign x
sign_is None s f = refl
sign_is (Some (NegOp.Bang zero)) s f = refl
sign_is (Some (NegOp.Bang (suc n))) s f = refl
sign_is (Some (NegOp.Dash zero)) s f = refl
sign_is (Some (NegOp.Dash (suc n))) s f = refl

runs : (n m : ℕ) (w : List ℕ) (s t : Span) (f g : Erased) {b : Bool} → Tells b f g
    → Tells (eqb n m && b) (times n w (node L.member s f none)) (times m w (node L.member t g none))
runs zero zero w s t f g d = one d
runs zero (suc m) w s t f g {b = b} d = no (ap (λ z. z && b) (eqb_apart m)) (differ _ _ refl)
runs (suc n) zero w s t f g {b = b} d = no (ap (λ z. z && b) (eqb_apart_back n)) (differ _ _ refl)
runs (suc n) (suc m) w s t f g {b = b} d =
    at (ap (λ z. z && b) (eqb_suc n m)) (under (runs n m w s t f g d))

counts : (l : Label) (n m : ℕ) (w : List ℕ) (s t : Span) (f g : Erased) {b : Bool} → Tells b f g
    → Tells (eqb n m && b) (signs_or l n w (node L.member s f none))
    (signs_or l m w (node L.member t g none))
counts l zero zero w s t f g d = after (one d)
counts l zero (suc m) w s t f g {b = b} d = no (ap (λ z. z && b) (eqb_apart m)) (differ _ _ refl)
counts l (suc n) zero w s t f g {b = b} d =
    no (ap (λ z. z && b) (eqb_apart_back n)) (differ _ _ refl)
counts l (suc n) (suc m) w s t f g d = runs (suc n) (suc m) w s t f g d

signs : (x y : Option NegOp) (s t : Span) (f g : Erased) {b : Bool} → Tells b f g
    → Tells (same_signs x y && b) (sign_leaves x (node L.member s f none))
    (sign_leaves y (node L.member t g none))
signs None None s t f g d = one d
signs (Some (NegOp.Bang n)) (Some (NegOp.Bang m)) s t f g d =
    counts L.bang n m (codes "!") s t f g d
signs (Some (NegOp.Dash n)) (Some (NegOp.Dash m)) s t f g d =
    counts L.dash n m (codes "-") s t f g d
signs None (Some (NegOp.Bang m)) s t f g d = no refl (λ h.
    not_from_Decides _ (Decides-eqb 0 1) refl (ap sign_of h ∙ sign_is (Some (NegOp.Bang m)) t g))
signs x y s t f g d = no refl (λ h. not_from_Decides _ (Decides-eqb (sign x) (sign y)) refl
    (sym (sign_is x s f) ∙ ap sign_of h ∙ sign_is y t g))

-- Names.
idents : (x y : Ident) → Decides (ident_eq.ghosts.eq x y) (x.0.now ≡ y.0.now)
idents x y = bytes_decides x.0.now y.0.now

strs : (x y : Str) → Decides (str_eq.ghosts.eq x y) (x.0.now ≡ y.0.now)
strs x y = bytes_decides x.0.now y.0.now

abbrev same_ident : Node Ident → Node Ident → Bool
same_ident x y = ident_eq.ghosts.eq x.inner y.inner

paths : (xs ys : List (Node Ident)) (a b : Node Ident)
    → Tells (pointwise same_ident xs ys && same_ident a b) (path_parts xs a) (path_parts ys b)
paths [] [] a b = one (text (idents a.inner b.inner))
paths [] (y ∷ ys) a b = no refl (differ _ _ refl)
paths (x ∷ xs) [] a b = no refl (differ _ _ refl)
paths (x ∷ xs) (y ∷ ys) a b = at (and_assoc (same_ident x y) _ _)
    (two (text (idents x.inner y.inner)) (under (paths xs ys a b)))

names : (x y : Name) → Tells (name_eq.ghosts.eq x y) (path_parts x.path.items x.name)
    (path_parts y.path.items y.name)
names x y = paths x.path.items y.path.items x.name y.name

refs : (x y : Node Ref)
    → Tells (ref_eq.ghosts.eq x.inner y.inner) (ref_tree x none) (ref_tree y none)
refs x y = one (two (names x.inner.path.inner y.inner.path.inner)
    (under (one (text (strs x.inner.eid.inner y.inner.eid.inner)))))

ws_join : (f g : Erased) → without_spans (join f g) ≡ join (without_spans f) (without_spans g)
ws_join none g = refl
ws_join (leaf t f) g = ap (leaf t) (ws_join f g)
ws_join (branch l f h) g = ap (branch l.0 (without_spans f)) (ws_join h g)

closed : (f g : Erased) (t : List ℕ) {b : Bool} → Tells b f g
    → Tells b (join f (leaf t none)) (join g (leaf t none))
closed f g t d = by refl d (λ e. ws_join f _ ∙ ap (λ z. join z (leaf t none)) e ∙ sym (ws_join g _))
    (λ e. (last_same _ _ t t (sym (ws_join f _) ∙ e ∙ ws_join g _)).0)

-- a list whose items are in a row
shown : {X : Type 0} (E : X → X → Bool) {xs us ys vs : List X} {Q : Type 0} → xs ≡ us → ys ≡ vs
    → Decides (pointwise E us vs) Q → Decides (pointwise E xs ys) Q
shown E e f d = at (ap₂ (pointwise E) e f) d

abbrev same_and : Node And.And → Node And.And → Bool
same_and x y = and_eq.ghosts.eq x.inner y.inner

abbrev same_relation : Node Relation.Relation → Node Relation.Relation → Bool
same_relation x y = relation_eq.ghosts.eq x.inner y.inner

abbrev same_mult : (AddOp × Node Mult.Mult) → (AddOp × Node Mult.Mult) → Bool
same_mult x y = addop_eq.ghosts.eq x.0 y.0 && mult_eq.ghosts.eq x.1.inner y.1.inner

abbrev same_unary : (MultOp × Node Unary.Unary) → (MultOp × Node Unary.Unary) → Bool
same_unary x y = multop_eq.ghosts.eq x.0 y.0 && unary_eq.ghosts.eq x.1.inner y.1.inner

abbrev same_access : Node MemAccess.MemAccess → Node MemAccess.MemAccess → Bool
same_access x y = access_eq.ghosts.eq x.inner y.inner

abbrev same_expr : Node Expr.Expr → Node Expr.Expr → Bool
same_expr x y = expr_eq.ghosts.eq x.inner y.inner

abbrev same_init : Node RecInit.RecInit → Node RecInit.RecInit → Bool
same_init x y = init_eq.ghosts.eq x.inner y.inner

-- Expressions and what they are made of.
mutual
  unfolding Expr.out-Expr Relation.out-Relation Or.out-Or Add.out-Add Mult.out-Mult Unary.out-Unary
      MemAccess.out-MemAccess Primary.out-Primary denote.Hole.Carrier.out

  exprs : (x y : Expr.Expr) → Tells (expr_laws.unfolded x y) (expr_parts x) (expr_parts y)
  exprs (Expr.If' p a s q b t r c u) (Expr.If' p' a' s' q' b' t' r' c' u') =
      under (two (at (expr_laws.is _ _) (exprs a a')) (under (two
      (at (expr_laws.is _ _) (exprs b b')) (under (one (at (expr_laws.is _ _) (exprs c c')))))))
  exprs (Expr.Or' p o s) (Expr.Or' p' o' s') = one (at (or_laws.is _ _) (ors o o'))
  exprs x y = no refl (differ _ _ refl)

  ors : (x y : Or.Or) → Tells (or_laws.unfolded x y) (or_parts x) (or_parts y)
  ors (Or.Or' r s v row t w rest) (Or.Or' r' s' v' row' t' w' rest') =
      two (at (and_laws.is _ _) (two (at (relation_laws.is _ _) (relations r r'))
      (shown same_relation (B.items_shown-the_row-And-extended-2-3 v row)
      (B.items_shown-the_row-And-extended-2-3 v' row') (more_relations _ _ row row'))))
      (shown same_and (B.items_shown-the_row-Or-extended-2-6 w rest)
      (B.items_shown-the_row-Or-extended-2-6 w' rest') (more_ands _ _ rest rest'))

  more_ands : (m n : _) (k : Or.Row_of-Or-extended-2 m) (j : Or.Row_of-Or-extended-2 n)
      → Tells (pointwise same_and (Or.items-the_row-Or-extended-2 m k)
      (Or.items-the_row-Or-extended-2 n j)) (or_rest k) (or_rest j)
  more_ands m n Or.end_of-Or-extended-2 Or.end_of-Or-extended-2 = same_end
  more_ands m n (Or.more_of-Or-extended-2 r s v row t rest)
      (Or.more_of-Or-extended-2 r' s' v' row' t' rest') =
      under (two (at (and_laws.is _ _) (two (at (relation_laws.is _ _) (relations r r'))
      (shown same_relation (B.items_shown-the_row-And-extended-2-3 v row)
      (B.items_shown-the_row-And-extended-2-3 v' row') (more_relations _ _ row row'))))
      (more_ands _ _ rest rest'))
  more_ands m n k j = no refl (differ _ _ refl)

  more_relations : (m n : _) (k : And.Row_of-And-extended-2 m) (j : And.Row_of-And-extended-2 n)
      → Tells (pointwise same_relation (And.items-the_row-And-extended-2 m k)
      (And.items-the_row-And-extended-2 n j)) (and_rest k) (and_rest j)
  more_relations m n And.end_of-And-extended-2 And.end_of-And-extended-2 = same_end
  more_relations m n (And.more_of-And-extended-2 r s rest)
      (And.more_of-And-extended-2 r' s' rest') =
      under (two (at (relation_laws.is _ _) (relations r r')) (more_relations _ _ rest rest'))
  more_relations m n k j = no refl (differ _ _ refl)

  relations : (x y : Relation.Relation)
      → Tells (relation_laws.unfolded x y) (relation_parts x) (relation_parts y)
  relations (Relation.Common' a s Relation.Relation-Common-1-None')
      (Relation.Common' a' s' Relation.Relation-Common-1-None') =
      two (at (add_laws.is _ _) (adds a a')) same_end
  relations (Relation.Common' a s (Relation.Relation-Common-1-Some' op b t))
      (Relation.Common' a' s' (Relation.Relation-Common-1-Some' op' b' t')) =
      two (at (add_laws.is _ _) (adds a a'))
      (one (texts (relops op op') (one (at (add_laws.is _ _) (adds b b')))))
  relations (Relation.Common' a s Relation.Relation-Common-1-None')
      (Relation.Common' a' s' (Relation.Relation-Common-1-Some' op' b' t')) =
      two (at (add_laws.is _ _) (adds a a')) (no refl (differ _ _ refl))
  relations (Relation.Common' a s (Relation.Relation-Common-1-Some' op b t))
      (Relation.Common' a' s' Relation.Relation-Common-1-None') =
      two (at (add_laws.is _ _) (adds a a')) (no refl (differ _ _ refl))
  relations (Relation.Has' a s b t) (Relation.Has' a' s' b' t') =
      two (at (add_laws.is _ _) (adds a a')) (one (under (one (at (add_laws.is _ _) (adds b b')))))
  relations (Relation.Like' a s b t) (Relation.Like' a' s' b' t') =
      two (at (add_laws.is _ _) (adds a a')) (one (under (one (at (add_laws.is _ _) (adds b b')))))
  relations (Relation.IsIn' a s n Relation.Relation-IsIn-2-None')
      (Relation.IsIn' a' s' n' Relation.Relation-IsIn-2-None') =
      two (at (add_laws.is _ _) (adds a a')) (one (under (two (names n.inner n'.inner) same_end)))
  relations (Relation.IsIn' a s n (Relation.Relation-IsIn-2-Some' b t))
      (Relation.IsIn' a' s' n' (Relation.Relation-IsIn-2-Some' b' t')) =
      two (at (add_laws.is _ _) (adds a a'))
      (one (under (two (names n.inner n'.inner) (under (one (at (add_laws.is _ _) (adds b b')))))))
  relations (Relation.IsIn' a s n Relation.Relation-IsIn-2-None')
      (Relation.IsIn' a' s' n' (Relation.Relation-IsIn-2-Some' b' t')) =
      two (at (add_laws.is _ _) (adds a a'))
      (one (under (two (names n.inner n'.inner) (no refl (differ _ _ refl)))))
  relations (Relation.IsIn' a s n (Relation.Relation-IsIn-2-Some' b t))
      (Relation.IsIn' a' s' n' Relation.Relation-IsIn-2-None') =
      two (at (add_laws.is _ _) (adds a a'))
      (one (under (two (names n.inner n'.inner) (no refl (differ _ _ refl)))))
  relations x (Relation.Common' a s Relation.Relation-Common-1-None') = no refl (differ _ _ refl)
  relations x y = no refl (differ _ _ refl)

  adds : (x y : Add.Add) → Tells (add_laws.unfolded x y) (add_parts x) (add_parts y)
  adds (Add.Add' m s v rest) (Add.Add' m' s' v' rest') = two (at (mult_laws.is _ _) (mults m m'))
      (shown same_mult (B.items_shown-the_row-Add-extended-4-2 v rest)
      (B.items_shown-the_row-Add-extended-4-2 v' rest') (more_mults _ _ rest rest'))

  more_mults : (m n : _) (k : Add.Row_of-Add-extended-4 m) (j : Add.Row_of-Add-extended-4 n)
      → Tells (pointwise same_mult (Add.items-the_row-Add-extended-4 m k)
      (Add.items-the_row-Add-extended-4 n j)) (add_rest k) (add_rest j)
  more_mults m n Add.end_of-Add-extended-4 Add.end_of-Add-extended-4 = same_end
  more_mults m n (Add.more_of-Add-extended-4 op u s rest)
      (Add.more_of-Add-extended-4 op' u' s' rest') = at (and_assoc (addop_eq.ghosts.eq op op') _ _)
      (texts (addops op op') (two (at (mult_laws.is _ _) (mults u u')) (more_mults _ _ rest rest')))
  more_mults m n k j = no refl (differ _ _ refl)

  mults : (x y : Mult.Mult) → Tells (mult_laws.unfolded x y) (mult_parts x) (mult_parts y)
  mults (Mult.Mult' u s v rest) (Mult.Mult' u' s' v' rest') =
      two (at (unary_laws.is _ _) (unaries u u'))
      (shown same_unary (B.items_shown-the_row-Mult-extended-4-5 v rest)
      (B.items_shown-the_row-Mult-extended-4-5 v' rest') (more_unaries _ _ rest rest'))

  more_unaries : (m n : _) (k : Mult.Row_of-Mult-extended-4 m) (j : Mult.Row_of-Mult-extended-4 n)
      → Tells (pointwise same_unary (Mult.items-the_row-Mult-extended-4 m k)
      (Mult.items-the_row-Mult-extended-4 n j)) (mult_rest k) (mult_rest j)
  more_unaries m n Mult.end_of-Mult-extended-4 Mult.end_of-Mult-extended-4 = same_end
  more_unaries m n (Mult.more_of-Mult-extended-4 MultOp.Times u s rest)
      (Mult.more_of-Mult-extended-4 MultOp.Times u' s' rest') =
      under (two (at (unary_laws.is _ _) (unaries u u')) (more_unaries _ _ rest rest'))
  more_unaries m n k j = no refl (differ _ _ refl)

  unaries : (x y : Unary.Unary) → Tells (unary_laws.unfolded x y) (unary_parts x) (unary_parts y)
  unaries (Unary.Unary' op p s v row t) (Unary.Unary' op' p' s' v' row' t') =
      signs op op' _ _ _ _ (at (member_laws.is _ _) (two (at (primary_laws.is _ _) (primaries p p'))
      (shown same_access (B.items_shown-the_row-Member-access-2-4 v row)
      (B.items_shown-the_row-Member-access-2-4 v' row') (accesses _ _ row row'))))

  accesses : (m n : _) (k : Member.Row_of-Member-access-2 m) (j : Member.Row_of-Member-access-2 n)
      → Tells (pointwise same_access (Member.items-the_row-Member-access-2 m k)
      (Member.items-the_row-Member-access-2 n j)) (access_trees k) (access_trees j)
  accesses m n Member.end_of-Member-access-2 Member.end_of-Member-access-2 = same_end
  accesses m n (Member.more_of-Member-access-2 a s rest)
      (Member.more_of-Member-access-2 a' s' rest') =
      two (at (access_laws.is _ _) (access a a')) (accesses _ _ rest rest')
  accesses m n k j = no refl (differ _ _ refl)

  access : (x y : MemAccess.MemAccess)
      → Tells (access_laws.unfolded x y) (access_parts x) (access_parts y)
  access (MemAccess.Field n) (MemAccess.Field n') = under (one (text (idents n.inner n'.inner)))
  access (MemAccess.Call' v row) (MemAccess.Call' v' row') = under (closed (expr_items row)
      (expr_items row') _ (shown same_expr (B.items_shown-the_row-MemAccess-Call-0-2-0 v row)
      (B.items_shown-the_row-MemAccess-Call-0-2-0 v' row') (items _ _ row row')))
  access (MemAccess.Index n) (MemAccess.Index n') = under (one (text (strs n.inner n'.inner)))
  access x y = no refl (differ _ _ refl)

  items : (m n : _) (k : MemAccess.Row_of-MemAccess-Call-0-2 m)
      (j : MemAccess.Row_of-MemAccess-Call-0-2 n)
      → Tells (pointwise same_expr (MemAccess.items-the_row-MemAccess-Call-0-2 m k)
      (MemAccess.items-the_row-MemAccess-Call-0-2 n j)) (expr_items k) (expr_items j)
  items m n MemAccess.end_of-MemAccess-Call-0-2 MemAccess.end_of-MemAccess-Call-0-2 = same_end
  items m n (MemAccess.more_of-MemAccess-Call-0-2 e s rest)
      (MemAccess.more_of-MemAccess-Call-0-2 e' s' rest') =
      two (at (expr_laws.is _ _) (exprs e e')) (more_exprs _ _ rest rest')
  items m n k j = no refl (differ _ _ refl)

  more_exprs : (m n : _) (k : MemAccess.Row_of-MemAccess-Call-0-2 m)
      (j : MemAccess.Row_of-MemAccess-Call-0-2 n)
      → Tells (pointwise same_expr (MemAccess.items-the_row-MemAccess-Call-0-2 m k)
      (MemAccess.items-the_row-MemAccess-Call-0-2 n j)) (more_items k) (more_items j)
  more_exprs m n MemAccess.end_of-MemAccess-Call-0-2 MemAccess.end_of-MemAccess-Call-0-2 = same_end
  more_exprs m n (MemAccess.more_of-MemAccess-Call-0-2 e s rest)
      (MemAccess.more_of-MemAccess-Call-0-2 e' s' rest') =
      under (two (at (expr_laws.is _ _) (exprs e e')) (more_exprs _ _ rest rest'))
  more_exprs m n k j = no refl (differ _ _ refl)

  primaries : (x y : Primary.Primary)
      → Tells (primary_laws.unfolded x y) (primary_parts x) (primary_parts y)
  primaries (Primary.Literal n) (Primary.Literal n') = literals n.inner n'.inner
  primaries (Primary.Literal n) y = no refl (λ h. no_literal (literal_is n.inner) (ap lab h) refl)
  primaries x (Primary.Literal n) =
      no refl (λ h. no_literal (literal_is n.inner) (ap lab (sym h)) refl)
  primaries (Primary.Ref n) (Primary.Ref n') = refs n n'
  primaries (Primary.Name n) (Primary.Name n') = one (names n.inner n'.inner)
  primaries (Primary.Slot n) (Primary.Slot n') = one (text (slots n.inner n'.inner))
  primaries (Primary.Expr' p e s) (Primary.Expr' p' e' s') =
      one (under (one (at (expr_laws.is _ _) (exprs e e'))))
  primaries (Primary.EList' v row) (Primary.EList' v' row') = one (under (closed (expr_items row)
      (expr_items row') _ (shown same_expr (B.items_shown-the_row-MemAccess-Call-0-2-0 v row)
      (B.items_shown-the_row-MemAccess-Call-0-2-0 v' row') (items _ _ row row'))))
  primaries (Primary.RInits' v row) (Primary.RInits' v' row') = one (under (closed (init_items row)
      (init_items row') _ (shown same_init (B.items_shown-the_row-Primary-RInits-0-2-1 v row)
      (B.items_shown-the_row-Primary-RInits-0-2-1 v' row') (inits _ _ row row'))))
  primaries x y = no refl (differ _ _ refl)

  inits : (m n : _) (k : Primary.Row_of-Primary-RInits-0-2 m)
      (j : Primary.Row_of-Primary-RInits-0-2 n)
      → Tells (pointwise same_init (Primary.items-the_row-Primary-RInits-0-2 m k)
      (Primary.items-the_row-Primary-RInits-0-2 n j)) (init_items k) (init_items j)
  inits m n Primary.end_of-Primary-RInits-0-2 Primary.end_of-Primary-RInits-0-2 = same_end
  inits m n (Primary.more_of-Primary-RInits-0-2 p s e t u rest)
      (Primary.more_of-Primary-RInits-0-2 p' s' e' t' u' rest') =
      two (at (init_laws.is _ _) (two (at (primary_laws.is _ _) (primaries p p'))
      (under (one (at (expr_laws.is _ _) (exprs e e')))))) (more_fields _ _ rest rest')
  inits m n k j = no refl (differ _ _ refl)

  more_fields : (m n : _) (k : Primary.Row_of-Primary-RInits-0-2 m)
      (j : Primary.Row_of-Primary-RInits-0-2 n)
      → Tells (pointwise same_init (Primary.items-the_row-Primary-RInits-0-2 m k)
      (Primary.items-the_row-Primary-RInits-0-2 n j)) (more_inits k) (more_inits j)
  more_fields m n Primary.end_of-Primary-RInits-0-2 Primary.end_of-Primary-RInits-0-2 = same_end
  more_fields m n (Primary.more_of-Primary-RInits-0-2 p s e t u rest)
      (Primary.more_of-Primary-RInits-0-2 p' s' e' t' u' rest') =
      under (two (at (init_laws.is _ _) (two (at (primary_laws.is _ _) (primaries p p'))
      (under (one (at (expr_laws.is _ _) (exprs e e')))))) (more_fields _ _ rest rest'))
  more_fields m n k j = no refl (differ _ _ refl)

-- The parts of policies.
abbrev same_str : Node Str → Node Str → Bool
same_str x y = str_eq.ghosts.eq x.inner y.inner

values : (x y : Option (Node Str)) → Tells (option_eq same_str x y) (value_parts x) (value_parts y)
values None None = same_end
values (Some x) (Some y) = under (one (text (strs x.inner y.inner)))
values x y = no refl (differ _ _ refl)

abbrev same_annotation : Node Annotation → Node Annotation → Bool
same_annotation x y = annotation_eq.ghosts.eq x.inner y.inner

annotations : (xs ys : List (Node Annotation)) (a b : Node Ident) (f g : Erased) {c : Bool}
    → Tells c f g → Tells (pointwise same_annotation xs ys && (same_ident a b && c))
    (annotation_trees xs (ident_tree a f)) (annotation_trees ys (ident_tree b g))
annotations [] [] a b f g d = two (text (idents a.inner b.inner)) d
annotations (x ∷ xs) (y ∷ ys) a b f g d = at (and_assoc (same_annotation x y) _ _) (two (under
    (two (text (idents x.inner.key.inner y.inner.key.inner)) (values x.inner.value y.inner.value)))
    (annotations xs ys a b f g d))
annotations xs ys a b f g d = no refl (differ _ _ refl)

abbrev same_operator : (RelOp × Node Add.Add) → (RelOp × Node Add.Add) → Bool
same_operator x y = relop_eq.ghosts.eq x.0 y.0 && add_eq.ghosts.eq x.1.inner y.1.inner

operators : (x y : Option (RelOp × Node Add.Add))
    → Tells (option_eq same_operator x y) (operator_parts x) (operator_parts y)
operators None None = same_end
operators (Some x) (Some y) =
    texts (relops x.0 y.0) (one (at (add_laws.is _ _) (adds x.1.inner y.1.inner)))
operators x y = no refl (differ _ _ refl)

abbrev same_name : Node Name → Node Name → Bool
same_name x y = name_eq.ghosts.eq x.inner y.inner

types : (x y : Option (Node Name)) (o p : Option (RelOp × Node Add.Add))
    → Tells (option_eq same_name x y && option_eq same_operator o p)
    (type_parts x (operator_parts o)) (type_parts y (operator_parts p))
types None None o p = operators o p
types (Some x) (Some y) o p = under (two (names x.inner y.inner) (operators o p))
types None (Some y) None p = no refl (differ _ _ refl)
types (Some x) None o None = no refl (differ _ _ refl)
types x y o p = no refl (λ h. differ _ _ refl (ap nxt h))

abbrev same_variable : Node VariableDef → Node VariableDef → Bool
same_variable x y = variable_eq.ghosts.eq x.inner y.inner

variables : (x y : Node VariableDef)
    → Tells (same_variable x y) (variable_parts x.inner) (variable_parts y.inner)
variables x y = two (text (idents x.inner.variable.inner y.inner.variable.inner))
    (types x.inner.entity_type y.inner.entity_type x.inner.ineq y.inner.ineq)

abbrev same_cond : Node Cond → Node Cond → Bool
same_cond x y = cond_eq.ghosts.eq x.inner y.inner

conds : (xs ys : List (Node Cond)) → Tells (pointwise same_cond xs ys)
    (cond_trees xs (leaf (codes ";") none)) (cond_trees ys (leaf (codes ";") none))
conds [] [] = yes refl refl
conds (x ∷ xs) (y ∷ ys) = two (two (text (idents x.inner.cond.inner y.inner.cond.inner)) (under
    (one (at (expr_laws.is _ _) (exprs x.inner.expr.inner y.inner.expr.inner))))) (conds xs ys)
conds xs ys = no refl (differ _ _ refl)

three : (a b c d : Bool) {Q : Type 0} → Decides (a && (b && (c && d))) Q
    → Decides (((a && b) && c) && d) Q
three a b c d h = at (and_assoc (a && b) c d ∙ and_assoc a b (c && d)) h

policy : (x y : Node Policy)
    → Tells (policy_eq.ghosts.eq x.inner y.inner) (policy_parts x.inner) (policy_parts y.inner)
policy x y =
    let a = x.inner.variables in let b = y.inner.variables in
    annotations x.inner.annotations.items y.inner.annotations.items x.inner.effect
    y.inner.effect _ _
    (under (three (same_variable a.0 b.0) (same_variable a.1 b.1) (same_variable a.2 b.2) _
    (two (variables a.0 b.0) (under (two (variables a.1 b.1)
    (under (two (variables a.2 b.2) (under (conds x.inner.conds.items y.inner.conds.items)))))))))

policies : (xs ys : List (Node Policy)) → Tells (pointwise
    (λ x y. policy_eq.ghosts.eq x.inner y.inner) xs ys) (policy_trees xs) (policy_trees ys)
policies [] [] = same_end
policies (x ∷ xs) (y ∷ ys) = two (policy x y) (policies xs ys)
policies xs ys = no refl (differ _ _ refl)

pub same_tree : (x y : Policies) → Decides (policies_eq.ghosts.eq x y) (SameTree x y)
same_tree x y = one (policies x.policies.items y.policies.items)
