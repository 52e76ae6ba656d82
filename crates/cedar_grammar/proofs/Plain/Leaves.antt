-- The leaves of a policy set's tree without trailing commas are its list without them.
use Rattle.std.specs.Prelude.{◌≡◌, ℕ, zero, suc, Bool, true, false, ◌||◌, ◌&&◌, not, IsTrue, List, [], ◌∷◌, ◌++◌, ◌⊎◌, nat_eq}
use Rattle.std.proofs.Common.{refl, sym, ap, ◌∙◌, inl, inr, append_assoc, append-nil, subst}
use Rattle.std.proofs.lemmas.Bool.{and_from, or_left, or_right, and_left, not-true}
use borrow.Author.Tests.{eqb-true}
use Rattle.cedar_grammar.proofs.KindSets.{apart, apart_at}
use Rattle.cedar_tokens.specs.declared.kind.Kind.{Kind}
use Rattle.cedar_tokens.specs.declared.kind.Kind.TheVariants as K
use Rattle.cedar_tokens.specs.Kinds.{is, code, is_variable, begins, is_closing}
use Rattle.cedar_grammar.specs.Trees.{Label, Forest, none, leaf, yield, join}
use Rattle.cedar_grammar.specs.Trees as L
use Rattle.cedar_grammar.specs.Languages.{Lang, Many, no_more, one_more}
use Rattle.cedar_grammar.specs.KindGrammar as G
use Rattle.cedar_grammar.specs.Reader.Rules.{Rule, never, empty, inner, leaf_of, nested, then, either, star, tail, node, shaped, items, entity, reference, text_rule, word_of}
use Rattle.cedar_grammar.proofs.Rules.Meanings.{means}
use Rattle.cedar_grammar.specs.Reader.Lines.{path, expr_rule, policy_rule}
use Rattle.cedar_grammar.specs.TrailingCommas.{drop_if, plain, closes_next, without_trailing}
use Rattle.cedar_grammar.proofs.Readers.Equations.{join_none, join_assoc}
use Rattle.cedar_grammar.proofs.Readers.Languages.{yield_join_more}
use Rattle.cedar_grammar.proofs.Booleans.{and_first, and_second, implied}

-- the written forms spelled out
abbrev pub spelled : Rule → Rule
spelled never = never
spelled empty = empty
spelled inner = inner
spelled (leaf_of p) = leaf_of p
spelled (nested k a) = nested k (spelled a)
spelled (then a b) = then (spelled a) (spelled b)
spelled (either a b) = either (spelled a) (spelled b)
spelled (star a) = star (spelled a)
spelled (tail s x y z) = tail s x y z
spelled (node l a) = node l (spelled a)
spelled (shaped a) = shaped a
spelled (items a) = then (spelled a)
    (then (star (then (leaf_of (is K.Comma)) (spelled a))) (either (leaf_of (is K.Comma)) empty))
spelled entity =
    node L.primary (node L.ref (then path (then (leaf_of (is K.DoubleColon)) text_rule)))
spelled (reference c) = either (node L.primary (node L.name (word_of is_variable)))
    (either (node L.primary (node L.ref (then path (then (leaf_of (is K.DoubleColon)) text_rule))))
    (then (node L.primary path) (node L.access (spelled c))))

-- the rule has the empty list
abbrev pub can_be_empty : Rule → Bool
can_be_empty never = false
can_be_empty empty = true
can_be_empty inner = false
can_be_empty (leaf_of p) = false
can_be_empty (nested k a) = false
can_be_empty (then a b) = can_be_empty a && can_be_empty b
can_be_empty (either a b) = can_be_empty a || can_be_empty b
can_be_empty (star a) = true
can_be_empty (node l a) = can_be_empty a
can_be_empty r = true

-- no list of the rule begins with a closing bracket
abbrev opens : Rule → Bool
opens never = true
opens empty = true
opens inner = true
opens (leaf_of p) = apart p is_closing
opens (nested k a) = not (is_closing k)
opens (then a b) = opens a && (not (can_be_empty a) || opens b)
opens (either a b) = opens a && opens b
opens (star a) = opens a
opens (node l a) = opens a
opens r = false

-- a row of the rule may end in a comma of its own
abbrev ends_in_comma : Rule → Bool
ends_in_comma never = false
ends_in_comma empty = false
ends_in_comma inner = false
ends_in_comma (leaf_of p) = not (apart p (is K.Comma))
ends_in_comma (nested k a) = is K.Comma k || ends_in_comma a
ends_in_comma (then a b) = ends_in_comma b || (can_be_empty b && ends_in_comma a)
ends_in_comma (either a b) = ends_in_comma a || ends_in_comma b
ends_in_comma (star a) = ends_in_comma a
ends_in_comma (node l a) = false
ends_in_comma r = true

-- Each tree of the rule has leaves, begins with no closing bracket and ends in no comma.
abbrev tidy : Rule → Bool
tidy never = true
tidy empty = true
tidy inner = true
tidy (leaf_of p) = true
tidy (nested k a) = not (is K.Comma k) && tidy a
tidy (then a b) = tidy a && tidy b
tidy (either a b) = tidy a && tidy b
tidy (star a) = tidy a
tidy (node l a) = tidy a && (opens a && (not (can_be_empty a) && not (ends_in_comma a)))
tidy r = false

module _ {A : Type 0} (kind : A → Kind) where
  -- before the tokens r
  abbrev pub Even : Forest Label A → List A → Type 0
  Even g r = plain kind (yield g ++ r) ≡ yield (without_trailing kind g) ++ plain kind r

  abbrev pub Seen : Forest Label A → List A → Type 0
  Seen g r = begins kind is_closing (yield g ++ r) ≡ closes_next kind g

  abbrev pub Unclosed : List A → Type 0
  Unclosed r = begins kind is_closing r ≡ false

  -- the laws of an expression's trees
  pub record Apart (X : Lang A) : Type 0 where
    pub unclosed : (f : Forest Label A) (r : List A) → X f → Unclosed (yield f ++ r)
    pub even : (f g : Forest Label A) (r : List A) → X f → Even g r → Even (join f g) r
    pub seen : (f g : Forest Label A) (r : List A) → X f → Seen (join f g) r

  module _ (room : Bool) (X : Lang A) (x : Apart X) where
    many_unclosed : (Y : Lang A) (e : Bool) → ((f : Forest Label A) (r : List A) → Y f
        → (IsTrue e → Unclosed r) → Unclosed (yield f ++ r)) → (f : Forest Label A) (r : List A)
        → Many Y f → Unclosed r → Unclosed (yield f ++ r)
    many_unclosed Y e h f r (no_more i d) k = ap (λ z. begins kind is_closing (yield z ++ r)) d ∙ k
    many_unclosed Y e h f r (one_more i g j d y m) k =
        ap (λ z. begins kind is_closing (yield z ++ r)) d
        ∙ ap (begins kind is_closing) (yield_join_more g j r)
        ∙ h g (yield j ++ r) y (λ _. many_unclosed Y e h j r m k)

    rule_unclosed : (R : Rule) → IsTrue (opens R) → (f : Forest Label A) (r : List A)
        → means kind room X R f → (IsTrue (can_be_empty R) → Unclosed r) → Unclosed (yield f ++ r)
    rule_unclosed never d f r m k = absurd m
    rule_unclosed empty d f r m k = ap (λ z. begins kind is_closing (yield z ++ r)) m ∙ k refl
    rule_unclosed inner d f r m k = x.unclosed f r m
    rule_unclosed (leaf_of p) d f r (a, e, m) k =
        ap (λ z. begins kind is_closing (yield z ++ r)) e ∙ apart_at p is_closing d (kind a) m
    rule_unclosed (nested q b) d f r (o, (g, i, e, (a, c, m), y)) k =
        ap (λ z. begins kind is_closing (yield z ++ r)) (e ∙ ap (λ z. join z i) c) ∙ ap
        (λ z. nat_eq z (code K.RParen) || nat_eq z (code K.RBracket) || nat_eq z (code K.RBrace))
        (eqb-true (code (kind a)) (code q) m) ∙ not-true (is_closing q) d
    rule_unclosed (then a b) d f r (g, i, e, m, y) k =
        ap (λ z. begins kind is_closing (yield z ++ r)) e
        ∙ ap (begins kind is_closing) (yield_join_more g i r)
        ∙ rule_unclosed a (and_first (opens a) _ d) g (yield i ++ r) m
        (λ ea. rule_unclosed b (implied (can_be_empty a) (opens b) (and_second (opens a) _ d) ea) i
        r y (λ eb. k (and_from (can_be_empty a) (can_be_empty b) ea eb)))
    rule_unclosed (either a b) d f r (inl m) k = rule_unclosed a (and_first (opens a) _ d) f r m
        (λ e. k (or_left (can_be_empty a) (can_be_empty b) e))
    rule_unclosed (either a b) d f r (inr m) k = rule_unclosed b (and_second (opens a) _ d) f r m
        (λ e. k (or_right (can_be_empty a) (can_be_empty b) e))
    rule_unclosed (star a) d f r m k = many_unclosed (means kind room X a) (can_be_empty a)
        (λ f r m k. rule_unclosed a d f r m k) f r m (k refl)
    rule_unclosed (node l a) d f r (g, e, m) k = ap (λ z. begins kind is_closing (yield z ++ r)) e
        ∙ ap (λ z. begins kind is_closing (z ++ r)) (append-nil (yield g))
        ∙ rule_unclosed a d g r m k
    rule_unclosed R d f r m k = absurd cc

    many_seen : (Y : Lang A) (e : Bool)
        → ((f g : Forest Label A) (r : List A) → Y f → (IsTrue e → Seen g r) → Seen (join f g) r)
        → (f g : Forest Label A) (r : List A) → Many Y f → Seen g r → Seen (join f g) r
    many_seen Y e h f g r (no_more i d) k = subst (λ z. Seen (join z g) r) (sym d) k
    many_seen Y e h f g r (one_more i u v d y m) k =
        subst (λ z. Seen z r) (sym (ap (λ z. join z g) d ∙ join_assoc u v g))
        (h u (join v g) r y (λ _. many_seen Y e h v g r m k))

    rule_seen : (R : Rule) → IsTrue (tidy R) → (f g : Forest Label A) (r : List A)
        → means kind room X R f → (IsTrue (can_be_empty R) → Seen g r) → Seen (join f g) r
    rule_seen never d f g r m k = absurd m
    rule_seen empty d f g r m k = subst (λ z. Seen (join z g) r) (sym m) (k refl)
    rule_seen inner d f g r m k = x.seen f g r m
    rule_seen (leaf_of p) d f g r (a, e, m) k = subst (λ z. Seen (join z g) r) (sym e) refl
    rule_seen (nested q b) d f g r (o, (u, i, e, (a, c, m), y)) k =
        subst (λ z. Seen (join z g) r) (sym (e ∙ ap (λ z. join z i) c)) refl
    rule_seen (then a b) d f g r (u, v, e, m, y) k =
        subst (λ z. Seen z r) (sym (ap (λ z. join z g) e ∙ join_assoc u v g))
        (rule_seen a (and_first (tidy a) _ d) u (join v g) r m (λ ea. rule_seen b (and_second
        (tidy a) _ d) v g r y (λ eb. k (and_from (can_be_empty a) (can_be_empty b) ea eb))))
    rule_seen (either a b) d f g r (inl m) k = rule_seen a (and_first (tidy a) _ d) f g r m
        (λ e. k (or_left (can_be_empty a) (can_be_empty b) e))
    rule_seen (either a b) d f g r (inr m) k = rule_seen b (and_second (tidy a) _ d) f g r m
        (λ e. k (or_right (can_be_empty a) (can_be_empty b) e))
    rule_seen (star a) d f g r m k = many_seen (means kind room X a) (can_be_empty a)
        (λ f g r m k. rule_seen a d f g r m k) f g r m (k refl)
    rule_seen (node l a) d f g r (u, e, m) k =
        let d1 = and_second (tidy a) _ d in
        let full = not-true (can_be_empty a) (and_first _ _ (and_second (opens a) _ d1)) in
        subst (λ z. Seen (join z g) r) (sym e)
        (ap (begins kind is_closing) (append_assoc (yield u) (yield g) r)
        ∙ rule_unclosed a (and_first (opens a) _ d1) u (yield g ++ r) m (λ i. absurd cc))
    rule_seen R d f g r m k = absurd cc

    drop_even : (c : Bool) (a : A) (p q : List A) (w : Forest Label A) → p ≡ yield w ++ q
        → drop_if c (a ∷ p) p ≡ yield (drop_if c (leaf a w) w) ++ q
    drop_even true a p q w e = e
    drop_even false a p q w e = ap (λ z. a ∷ z) e

    leaf_even : (a : A) (g : Forest Label A) (r : List A) → (is K.Comma (kind a) ≡ false) ⊎ Seen g r
        → Even g r → Even (leaf a g) r
    leaf_even a g r (inr s) e = ap (λ c. drop_if (is K.Comma (kind a) && c)
        (a ∷ plain kind (yield g ++ r)) (plain kind (yield g ++ r))) s
        ∙ drop_even (is K.Comma (kind a) && closes_next kind g) a (plain kind (yield g ++ r))
        (plain kind r) (without_trailing kind g) e
    leaf_even a g r (inl n) e =
        ap (λ c. drop_if c (a ∷ plain kind (yield g ++ r)) (plain kind (yield g ++ r))) (and_left _
        (begins kind is_closing (yield g ++ r)) n ∙ sym (and_left _ (closes_next kind g) n))
        ∙ drop_even (is K.Comma (kind a) && closes_next kind g) a (plain kind (yield g ++ r))
        (plain kind r) (without_trailing kind g) e

    comma_or : (p : Kind → Bool) (a : A) (g : Forest Label A) (r : List A) → IsTrue (p (kind a))
        → (IsTrue (not (apart p (is K.Comma))) → Seen g r) → (b : Bool) → apart p (is K.Comma) ≡ b
        → (is K.Comma (kind a) ≡ false) ⊎ Seen g r
    comma_or p a g r m k true e = inl (apart_at p (is K.Comma) e (kind a) m)
    comma_or p a g r m k false e = inr (k (ap not e))

    many_even : (Y : Lang A) (n e : Bool)
        → ((f g : Forest Label A) (r : List A) → Y f → (IsTrue e → Seen g r) → Seen (join f g) r)
        → ((f g : Forest Label A) (r : List A) → Y f → (IsTrue n → Seen g r) → Even g r
        → Even (join f g) r)
        → (f g : Forest Label A) (r : List A) → Many Y f → (IsTrue n → Seen g r) → Even g r
        → Even (join f g) r
    many_even Y n e s h f g r (no_more i d) k v = subst (λ z. Even (join z g) r) (sym d) v
    many_even Y n e s h f g r (one_more i u w d y m) k v =
        subst (λ z. Even z r) (sym (ap (λ z. join z g) d ∙ join_assoc u w g))
        (h u (join w g) r y (λ c. many_seen Y e s w g r m (k c)) (many_even Y n e s h w g r m k v))

    rule_even : (R : Rule) → IsTrue (tidy R) → (f g : Forest Label A) (r : List A)
        → means kind room X R f → (IsTrue (ends_in_comma R) → Seen g r) → Even g r
        → Even (join f g) r
    rule_even never d f g r m k v = absurd m
    rule_even empty d f g r m k v = subst (λ z. Even (join z g) r) (sym m) v
    rule_even inner d f g r m k v = x.even f g r m v
    rule_even (leaf_of p) d f g r (a, e, m) k v = subst (λ z. Even (join z g) r) (sym e)
        (leaf_even a g r (comma_or p a g r m k (apart p (is K.Comma)) refl) v)
    rule_even (nested q b) d f g r (o, (u, i, e, (a, c, m), y)) k v =
        subst (λ z. Even (join z g) r) (sym (e ∙ ap (λ z. join z i) c))
        (leaf_even a (join i g) r (inl (ap (λ z. nat_eq z (code K.Comma))
        (eqb-true (code (kind a)) (code q) m) ∙ not-true (is K.Comma q) (and_first _ _ d)))
        (rule_even b (and_second (not (is K.Comma q)) _ d) i g r y
        (λ h. k (or_right (is K.Comma q) (ends_in_comma b) h)) v))
    rule_even (then a b) d f g r (u, w, e, m, y) k v =
        subst (λ z. Even z r) (sym (ap (λ z. join z g) e ∙ join_assoc u w g))
        (rule_even a (and_first (tidy a) _ d) u (join w g) r m
        (λ ea. rule_seen b (and_second (tidy a) _ d) w g r y (λ eb.
        k (or_right (ends_in_comma b) _ (and_from (can_be_empty b) (ends_in_comma a) eb ea))))
        (rule_even b (and_second (tidy a) _ d) w g r y
        (λ eb. k (or_left (ends_in_comma b) _ eb)) v))
    rule_even (either a b) d f g r (inl m) k v = rule_even a (and_first (tidy a) _ d) f g r m
        (λ e. k (or_left (ends_in_comma a) (ends_in_comma b) e)) v
    rule_even (either a b) d f g r (inr m) k v = rule_even b (and_second (tidy a) _ d) f g r m
        (λ e. k (or_right (ends_in_comma a) (ends_in_comma b) e)) v
    rule_even (star a) d f g r m k v = many_even (means kind room X a) (ends_in_comma a)
        (can_be_empty a) (λ f g r m k. rule_seen a d f g r m k)
        (λ f g r m k v. rule_even a d f g r m k v) f g r m k v
    rule_even (node l a) d f g r (u, e, m) k v =
        let d1 = and_second (tidy a) _ d in
        let bare = not-true (ends_in_comma a)
        (and_second (not (can_be_empty a)) _ (and_second (opens a) _ d1)) in
        let h : Even (join u none) (yield g ++ r) =
        rule_even a (and_first (tidy a) _ d) u none (yield g ++ r) m (λ i. absurd cc) refl in
        let h2 : Even u (yield g ++ r) = subst (λ z. Even z (yield g ++ r)) (join_none u) h in
        subst (λ z. Even (join z g) r) (sym e)
        (ap (plain kind) (append_assoc (yield u) (yield g) r) ∙ h2
        ∙ ap (λ z. yield (without_trailing kind u) ++ z) v ∙ sym (append_assoc
        (yield (without_trailing kind u)) (yield (without_trailing kind g)) (plain kind r)))
    rule_even R d f g r m k v = absurd cc

  never_apart : Apart (λ f. ⊥)
  never_apart = record {
    unclosed = λ f r m. absurd m;
    even = λ f g r m v. absurd m;
    seen = λ f g r m. absurd m;
  }

  expr_up : (room : Bool) (X : Lang A) → Apart X → Apart (G.ExprIn kind room X)
  expr_up room X x = record {
    unclosed = λ f r m. rule_unclosed room X x (spelled expr_rule) refl f r m (λ e. absurd cc);
    even = λ f g r m v. rule_even room X x (spelled expr_rule) refl f g r m (λ e. absurd cc) v;
    seen = λ f g r m. rule_seen room X x (spelled expr_rule) refl f g r m (λ e. absurd cc);
  }

  expr_apart : (d : ℕ) → Apart (G.Expr kind d)
  expr_apart zero = expr_up false (λ f. ⊥) never_apart
  expr_apart (suc d) = expr_up true (G.Expr kind d) (expr_apart d)

  -- The leaves of the tree without trailing commas are the plain list.
  pub plain_leaves : (d : ℕ) (f : Forest Label A) → G.PolicySet kind d f
      → yield (without_trailing kind f) ≡ plain kind (yield f)
  plain_leaves d f (u, e, m) =
      let h : Even (join u none) [] = rule_even true (G.Expr kind d) (expr_apart d)
      (star (spelled policy_rule)) refl u none [] m (λ i. absurd cc) refl in
      let h2 : Even u [] = subst (λ z. Even z []) (join_none u) h in
      ap (λ z. yield (without_trailing kind z)) e ∙ append-nil (yield (without_trailing kind u))
      ∙ sym (append-nil (yield (without_trailing kind u))) ∙ sym h2
      ∙ ap (plain kind) (append-nil (yield u)) ∙ ap (plain kind) (sym (append-nil (yield u)))
      ∙ ap (λ z. plain kind (yield z)) (sym e)
