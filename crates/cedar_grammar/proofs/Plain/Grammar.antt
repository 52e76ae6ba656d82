-- A tree of the grammar without its trailing commas is a tree of the grammar.
use Rattle.std.specs.Prelude.{◌≡◌, ℕ, zero, suc, Bool, true, false, ◌||◌, ◌&&◌, not, IsTrue, nat_eq}
use Rattle.std.proofs.Common.{refl, sym, ap, ◌∙◌, inl, inr}
use Rattle.std.proofs.lemmas.Bool.{and_from, or_left, or_right, not-true, both_ways}
use Rattle.std.proofs.Math.Bool.{and-false}
use Rattle.cedar_grammar.proofs.KindSets.{apart, apart_at}
use Rattle.cedar_tokens.specs.declared.kind.Kind.{Kind}
use Rattle.cedar_tokens.specs.declared.kind.Kind.TheVariants as K
use Rattle.cedar_tokens.specs.Kinds.{is, code, is_closing}
use borrow.Author.Tests.{eqb-true}
use Rattle.cedar_grammar.specs.Trees.{Label, Forest, none, leaf, branch, join}
use Rattle.cedar_grammar.specs.Trees as L
use Rattle.cedar_grammar.specs.Languages.{Lang, Many, no_more, one_more}
use Rattle.cedar_grammar.specs.KindGrammar as G
use Rattle.cedar_grammar.specs.TrailingCommas.{drop_if, closes_next, plain, without_trailing}
use Rattle.cedar_grammar.specs.Reader.Rules.{Rule, never, empty, inner, leaf_of, nested, then, either, star, node}
use Rattle.cedar_grammar.proofs.Rules.Meanings.{means}
use Rattle.cedar_grammar.specs.Reader.Lines.{expr_rule, policy_rule}
use Rattle.cedar_grammar.specs.Laws.{PlainIsInTheGrammar}
use Rattle.cedar_grammar.proofs.Readers.Equations.{join_none, join_assoc}
use Rattle.cedar_grammar.proofs.Plain.Leaves.{spelled, can_be_empty, plain_leaves}
use Rattle.cedar_grammar.proofs.Typed.Chains.{not_comma, opening_kept}
use Rattle.cedar_grammar.proofs.Booleans.{and_first, and_second, implied}

-- a row of the rule may end in a comma of its own that has to stay
abbrev keeps : Rule → Bool
keeps never = false
keeps empty = false
keeps inner = false
keeps (leaf_of p) = not (apart p (is K.Comma))
keeps (nested k a) = is K.Comma k || keeps a
keeps (then a b) = keeps b || (can_be_empty b && keeps a)
keeps (either (leaf_of p) empty) = false
keeps (either a b) = keeps a || keeps b
keeps (star a) = keeps a
keeps (node l a) = false
keeps r = true

-- no row of the rule begins with a closing bracket
abbrev starts : Rule → Bool
starts never = true
starts empty = true
starts inner = true
starts (leaf_of p) = apart p is_closing
starts (nested k a) = not (is_closing k)
starts (then a b) = starts a && (not (can_be_empty a) || starts b)
starts (either a b) = starts a && starts b
starts (star a) = starts a
starts (node l a) = true
starts r = false

-- a comma that has to stay precedes no closing bracket
abbrev fit : Rule → Bool
fit never = true
fit empty = true
fit inner = true
fit (leaf_of p) = true
fit (nested k a) = not (is K.Comma k) && fit a
fit (then a b) = fit a && (fit b && (not (keeps a) || starts b))
fit (either (leaf_of p) empty) = true
fit (either a b) = fit a && fit b
fit (star a) = fit a && not (keeps a)
fit (node l a) = fit a
fit r = false

module _ {A : Type 0} (kind : A → Kind) where
  abbrev wt : Forest Label A → Forest Label A
  wt f = without_trailing kind f

  -- the row f of the language, before g, is still a row of it without its trailing commas
  abbrev Kept : Lang A → Forest Label A → Forest Label A → Type 0
  Kept X f g = (h : Forest Label A) × X h × (wt (join f g) ≡ join h (wt g))

  record Inner (X : Lang A) : Type 0 where
    pub opens : (f g : Forest Label A) → X f → closes_next kind (join f g) ≡ false
    pub kept : (f g : Forest Label A) → X f → Kept X f g

  closing_not : (q : Kind) (a : A) → IsTrue (is q (kind a)) → IsTrue (not (is_closing q))
      → is_closing (kind a) ≡ false
  closing_not q a m d = ap (λ z. nat_eq z (code K.RParen) || nat_eq z (code K.RBracket)
      || nat_eq z (code K.RBrace)) (eqb-true (code (kind a)) (code q) m) ∙ not-true (is_closing q) d

  module _ (room : Bool) (X : Lang A) (x : Inner X) where
    many_starts : (Y : Lang A) → ((f g : Forest Label A) → Y f → closes_next kind g ≡ false
        → closes_next kind (join f g) ≡ false)
        → (f g : Forest Label A) → Many Y f → closes_next kind g ≡ false
        → closes_next kind (join f g) ≡ false
    many_starts Y s f g (no_more i e) k = ap (λ z. closes_next kind (join z g)) e ∙ k
    many_starts Y s f g (one_more i u v e y m) k = ap (λ z. closes_next kind (join z g)) e
        ∙ ap (closes_next kind) (join_assoc u v g) ∙ s u (join v g) y (many_starts Y s v g m k)

    rule_starts : (R : Rule) → IsTrue (starts R) → (f g : Forest Label A) → means kind room X R f
        → (IsTrue (can_be_empty R) → closes_next kind g ≡ false)
        → closes_next kind (join f g) ≡ false
    rule_starts never d f g m k = absurd m
    rule_starts empty d f g m k = ap (λ z. closes_next kind (join z g)) m ∙ k refl
    rule_starts inner d f g m k = x.opens f g m
    rule_starts (leaf_of p) d f g (a, e, m) k =
        ap (λ z. closes_next kind (join z g)) e ∙ apart_at p is_closing d (kind a) m
    rule_starts (nested q b) d f g (o, (u, i, e, (a, c, m), y)) k =
        ap (λ z. closes_next kind (join z g)) (e ∙ ap (λ z. join z i) c) ∙ closing_not q a m d
    rule_starts (then a b) d f g (u, v, e, m, y) k =
        ap (λ z. closes_next kind (join z g)) e ∙ ap (closes_next kind) (join_assoc u v g)
        ∙ rule_starts a (and_first (starts a) _ d) u (join v g) m
        (λ ea. rule_starts b (implied (can_be_empty a) (starts b) (and_second (starts a) _ d) ea) v
        g y (λ eb. k (and_from (can_be_empty a) (can_be_empty b) ea eb)))
    rule_starts (either a b) d f g (inl m) k = rule_starts a (and_first (starts a) _ d) f g m
        (λ e. k (or_left (can_be_empty a) (can_be_empty b) e))
    rule_starts (either a b) d f g (inr m) k = rule_starts b (and_second (starts a) _ d) f g m
        (λ e. k (or_right (can_be_empty a) (can_be_empty b) e))
    rule_starts (star a) d f g m k =
        many_starts (means kind room X a) (λ f g y k. rule_starts a d f g y (λ _. k)) f g m (k refl)
    rule_starts (node l a) d f g (u, e, m) k = ap (λ z. closes_next kind (join z g)) e
    rule_starts R d f g m k = absurd cc

    then_kept : (Y Z : Lang A) (u v f g : Forest Label A) → f ≡ join u v → Kept Y u (join v g)
        → Kept Z v g → (h : Forest Label A) × (i : Forest Label A) × Y h × Z i × (wt (join f g)
        ≡ join (join h i) (wt g))
    then_kept Y Z u v f g e (h, y, p) (i, z, q) = (
      h,
      i,
      y,
      z,
      ap (λ w. wt (join w g)) e ∙ ap wt (join_assoc u v g) ∙ p ∙ ap (join h) q
          ∙ sym (join_assoc h i (wt g)),
    )

    many_kept : (Y : Lang A) → ((f g : Forest Label A) → Y f → Kept Y f g) → (f g : Forest Label A)
        → Many Y f → Kept (Many Y) f g
    many_kept Y s f g (no_more i e) = (none, no_more none refl, ap (λ z. wt (join z g)) e)
    many_kept Y s f g (one_more i u v e y m) =
        let r = then_kept Y (Many Y) u v f g e (s u (join v g) y) (many_kept Y s v g m) in
        (join r.0 r.1, one_more (join r.0 r.1) r.0 r.1 refl r.2 r.3, r.4)

    mark_kept : (p : Kind → Bool) (a : A) (g : Forest Label A) → IsTrue (p (kind a))
        → (IsTrue (not (apart p (is K.Comma))) → closes_next kind g ≡ false)
        → wt (leaf a g) ≡ leaf a (wt g)
    mark_kept p a g m k = go (apart p (is K.Comma)) refl
      where
        go : (b : Bool) → apart p (is K.Comma) ≡ b → wt (leaf a g) ≡ leaf a (wt g)
        go true e = opening_kept kind a g (apart_at p (is K.Comma) e (kind a) m)
        go false e =
            ap (λ c. drop_if (is K.Comma (kind a) && c) (leaf a (wt g)) (wt g)) (k (ap not e))
            ∙ ap (λ c. drop_if c (leaf a (wt g)) (wt g)) (and-false (is K.Comma (kind a)))

    rule_kept : (R : Rule) → IsTrue (fit R) → (f g : Forest Label A) → means kind room X R f
        → (IsTrue (keeps R) → closes_next kind g ≡ false) → Kept (means kind room X R) f g
    rule_kept never d f g m k = absurd m
    rule_kept empty d f g m k = (none, refl, ap (λ z. wt (join z g)) m)
    rule_kept inner d f g m k = x.kept f g m
    rule_kept (leaf_of p) d f g (a, e, m) k =
        (leaf a none, (a, refl, m), ap (λ z. wt (join z g)) e ∙ mark_kept p a g m k)
    rule_kept (nested q b) d f g (o, (u, i, e, (a, c, m), y)) k =
        let r = rule_kept b (and_second (not (is K.Comma q)) _ d) i g y
        (λ h. k (or_right (is K.Comma q) (keeps b) h)) in (
          leaf a r.0,
          (o, (leaf a none, r.0, refl, (a, refl, m), r.1)),
          ap (λ z. wt (join z g)) (e ∙ ap (λ z. join z i) c) ∙ opening_kept kind a (join i g)
              (not_comma kind q a m (not-true (is K.Comma q) (and_first _ _ d))) ∙ ap (leaf a) r.2,
        )
    rule_kept (then a b) d f g (u, v, e, m, y) k =
        let d1 = and_second (fit a) _ d in
        let p = rule_kept a (and_first (fit a) _ d) u (join v g) m
        (λ ka. rule_starts b (implied (keeps a) (starts b) (and_second (fit b) _ d1) ka) v g y
        (λ eb. k (or_right (keeps b) _ (and_from (can_be_empty b) (keeps a) eb ka)))) in
        let q = rule_kept b (and_first (fit b) _ d1) v g y (λ kb. k (or_left (keeps b) _ kb)) in
        let r = then_kept (means kind room X a) (means kind room X b) u v f g e p q in
        (join r.0 r.1, (r.0, r.1, refl, r.2, r.3), r.4)
    rule_kept (either (leaf_of p) empty) d f g (inr m) k =
        (none, inr refl, ap (λ z. wt (join z g)) m)
    rule_kept (either (leaf_of p) empty) d f g (inl (a, e, m)) k =
        go (is K.Comma (kind a) && closes_next kind g) refl
      where
        go : (b : Bool) → (is K.Comma (kind a) && closes_next kind g) ≡ b
            → Kept (means kind room X (either (leaf_of p) empty)) f g
        go true h = (
          none,
          inr refl,
          ap (λ z. wt (join z g)) e ∙ ap (λ c. drop_if c (leaf a (wt g)) (wt g)) h,
        )
        go false h = (
          leaf a none,
          inl (a, refl, m),
          ap (λ z. wt (join z g)) e ∙ ap (λ c. drop_if c (leaf a (wt g)) (wt g)) h,
        )
    rule_kept (either a b) d f g (inl m) k =
        let r =
        rule_kept a (and_first (fit a) (fit b) d) f g m (λ h. k (or_left (keeps a) (keeps b) h)) in
        (r.0, inl r.1, r.2)
    rule_kept (either a b) d f g (inr m) k =
        let r = rule_kept b (and_second (fit a) (fit b) d) f g m
        (λ h. k (or_right (keeps a) (keeps b) h)) in (r.0, inr r.1, r.2)
    rule_kept (star a) d f g m k =
        many_kept (means kind room X a) (λ f g y. rule_kept a (and_first (fit a) _ d) f g y
        (λ h. absurd (both_ways (keeps a) (not-true (keeps a) (and_second (fit a) _ d)) h))) f g m
    rule_kept (node l a) d f g (u, e, m) k =
        let r = rule_kept a d u none m (λ _. refl) in (
          branch l r.0 none,
          (r.0, refl, r.1),
          ap (λ z. wt (join z g)) e
              ∙ ap (λ z. branch l z (wt g)) (ap wt (sym (join_none u)) ∙ r.2 ∙ join_none r.0),
        )
    rule_kept R d f g m k = absurd cc

  never_inner : Inner (λ f. ⊥)
  never_inner = record { opens = λ f g m. absurd m; kept = λ f g m. absurd m }

  expr_up : (room : Bool) (X : Lang A) → Inner X → Inner (G.ExprIn kind room X)
  expr_up room X x = record {
    opens = λ f g (u, e, m). ap (λ z. closes_next kind (join z g)) e;
    kept = λ f g m. rule_kept room X x (spelled expr_rule) refl f g m (λ h. absurd cc);
  }

  expr_inner : (d : ℕ) → Inner (G.Expr kind d)
  expr_inner zero = expr_up false (λ f. ⊥) never_inner
  expr_inner (suc d) = expr_up true (G.Expr kind d) (expr_inner d)

  pub plain_is_in_the_grammar : PlainIsInTheGrammar kind
  plain_is_in_the_grammar d ts f g = go g.shape
    where
      go : G.PolicySet kind d f → G.G kind d (wt f) (plain kind ts)
      go (u, e, m) =
          let r = rule_kept true (G.Expr kind d) (expr_inner d)
          (star (spelled policy_rule)) refl u none m (λ h. absurd cc) in
          record {
            shape = (
              r.0,
              ap wt e ∙ ap (λ z. branch L.policies z none) (ap wt (sym (join_none u)) ∙ r.2
                  ∙ join_none r.0),
              r.1,
            );
            leaves = plain_leaves kind d f g.shape ∙ ap (plain kind) g.leaves;
          }
