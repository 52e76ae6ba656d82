-- No two commas stand next to each other in a list of the grammar,
-- so its plain list has no trailing comma.
use Rattle.std.specs.Prelude.{◌≡◌, ℕ, zero, suc, Bool, true, false, ◌||◌, ◌&&◌, not, IsTrue, nat_eq, List, [], ◌∷◌, ◌++◌, ◌⊎◌}
use Rattle.std.proofs.Common.{refl, sym, ap, ◌∙◌, inl, inr, append_assoc, append-nil, subst}
use Rattle.std.proofs.lemmas.Bool.{and_from, or_left, or_right, not-true, not-false, both_ways}
use Rattle.std.proofs.Math.Bool.{and-false}
use borrow.Author.Tests.{eqb-true}
use Rattle.cedar_grammar.proofs.KindSets.{apart, apart_at}
use Rattle.cedar_tokens.specs.declared.kind.Kind.{Kind}
use Rattle.cedar_tokens.specs.declared.kind.Kind.TheVariants as K
use Rattle.cedar_tokens.specs.Kinds.{is, code, is_closing, begins}
use Rattle.cedar_grammar.specs.Trees.{Label, Forest, yield, join}
use Rattle.cedar_grammar.specs.Languages.{Lang, Many, no_more, one_more}
use Rattle.cedar_grammar.specs.KindGrammar as G
use Rattle.cedar_grammar.specs.TrailingCommas.{drop_if, plain}
use Rattle.cedar_grammar.specs.Reader.Rules.{Rule, never, empty, inner, leaf_of, nested, then, either, star, node}
use Rattle.cedar_grammar.proofs.Rules.Meanings.{means}
use Rattle.cedar_grammar.specs.Reader.Lines.{expr_rule, policy_rule}
use Rattle.cedar_tokens.specs.PlainList.{NoNeighbours}
use Rattle.cedar_grammar.specs.Laws.{CommasStandAlone, PlainIsPlain}
use Rattle.cedar_grammar.proofs.Readers.Languages.{yield_join}
use Rattle.cedar_grammar.proofs.Plain.Leaves.{spelled, can_be_empty}
use Rattle.cedar_grammar.proofs.Booleans.{and_first, and_second, neither_first, neither_second, implied, and_second_false}

-- a list of the rule may begin with a comma, may end with one
abbrev opening : Rule → Bool
opening never = false
opening empty = false
opening inner = false
opening (leaf_of p) = not (apart p (is K.Comma))
opening (nested k a) = is K.Comma k
opening (then a b) = opening a || (can_be_empty a && opening b)
opening (either a b) = opening a || opening b
opening (star a) = opening a
opening (node l a) = opening a
opening r = true

abbrev last : Rule → Bool
last never = false
last empty = false
last inner = false
last (leaf_of p) = not (apart p (is K.Comma))
last (nested k a) = is K.Comma k || last a
last (then a b) = last b || (can_be_empty b && last a)
last (either a b) = last a || last b
last (star a) = last a
last (node l a) = last a
last r = true

-- where one part may end with a comma, the next begins with none
abbrev no_comma_pair : Rule → Bool
no_comma_pair never = true
no_comma_pair empty = true
no_comma_pair inner = true
no_comma_pair (leaf_of p) = true
no_comma_pair (nested k a) = not (is K.Comma k) && no_comma_pair a
no_comma_pair (then a b) = no_comma_pair a && (no_comma_pair b && (not (last a) || not (opening b)))
no_comma_pair (either a b) = no_comma_pair a && no_comma_pair b
no_comma_pair (star a) = no_comma_pair a && not (last a)
no_comma_pair (node l a) = no_comma_pair a
no_comma_pair r = false

abbrev NoTwoCommas : {A : Type 0} → (A → Kind) → List A → Type 0
NoTwoCommas kind ts = NoNeighbours (λ a. is K.Comma (kind a)) ts

module _ {A : Type 0} (kind : A → Kind) where
  abbrev comma : List A → Bool
  comma ts = begins kind (is K.Comma) ts

  record Inner (X : Lang A) : Type 0 where
    pub opens : (f : Forest Label A) (r : List A) → X f → comma (yield f ++ r) ≡ false
    pub alone : (f : Forest Label A) (r : List A) → X f → NoTwoCommas kind r
        → NoTwoCommas kind (yield f ++ r)

  join_more : (f g : Forest Label A) (r : List A)
      → yield (join f g) ++ r ≡ yield f ++ (yield g ++ r)
  join_more f g r = ap (λ x. x ++ r) (yield_join f g) ∙ append_assoc (yield f) (yield g) r

  module _ (room : Bool) (X : Lang A) (x : Inner X) where
    many_opens : (Y : Lang A)
        → ((f : Forest Label A) (r : List A) → Y f → comma r ≡ false → comma (yield f ++ r) ≡ false)
        → (f : Forest Label A) (r : List A) → Many Y f → comma r ≡ false
        → comma (yield f ++ r) ≡ false
    many_opens Y s f r (no_more i e) k = ap (λ z. comma (yield z ++ r)) e ∙ k
    many_opens Y s f r (one_more i u v e y m) k = ap (λ z. comma (yield z ++ r)) e
        ∙ ap comma (join_more u v r) ∙ s u (yield v ++ r) y (many_opens Y s v r m k)

    rule_opens : (R : Rule) → opening R ≡ false → (f : Forest Label A) (r : List A)
        → means kind room X R f → (IsTrue (can_be_empty R) → comma r ≡ false)
        → comma (yield f ++ r) ≡ false
    rule_opens never d f r m k = absurd m
    rule_opens empty d f r m k = ap (λ z. comma (yield z ++ r)) m ∙ k refl
    rule_opens inner d f r m k = x.opens f r m
    rule_opens (leaf_of p) d f r (a, e, m) k = ap (λ z. comma (yield z ++ r)) e
        ∙ apart_at p (is K.Comma) (not-false (apart p (is K.Comma)) d) (kind a) m
    rule_opens (nested q b) d f r (o, (u, i, e, (a, c, m), y)) k =
        ap (λ z. comma (yield z ++ r)) (e ∙ ap (λ z. join z i) c)
        ∙ ap (λ z. nat_eq z (code K.Comma)) (eqb-true (code (kind a)) (code q) m) ∙ d
    rule_opens (then a b) d f r (u, v, e, m, y) k =
        ap (λ z. comma (yield z ++ r)) e ∙ ap comma (join_more u v r)
        ∙ rule_opens a (neither_first (opening a) _ d) u (yield v ++ r) m
        (λ ea. rule_opens b (and_second_false (can_be_empty a) (opening b) (neither_second
        (opening a) _ d) ea) v r y (λ eb. k (and_from (can_be_empty a) (can_be_empty b) ea eb)))
    rule_opens (either a b) d f r (inl m) k = rule_opens a (neither_first (opening a) (opening b) d)
        f r m (λ e. k (or_left (can_be_empty a) (can_be_empty b) e))
    rule_opens (either a b) d f r (inr m) k =
        rule_opens b (neither_second (opening a) (opening b) d) f r m
        (λ e. k (or_right (can_be_empty a) (can_be_empty b) e))
    rule_opens (star a) d f r m k =
        many_opens (means kind room X a) (λ f r y h. rule_opens a d f r y (λ _. h)) f r m (k refl)
    rule_opens (node l a) d f r (u, e, m) k = ap (λ z. comma (yield z ++ r)) e
        ∙ ap (λ z. comma (z ++ r)) (append-nil (yield u)) ∙ rule_opens a d u r m k
    rule_opens R d f r m k = absurd cc

    many_alone : (Y : Lang A) → ((f : Forest Label A) (r : List A) → Y f → NoTwoCommas kind r
        → NoTwoCommas kind (yield f ++ r)) → (f : Forest Label A) (r : List A) → Many Y f
        → NoTwoCommas kind r → NoTwoCommas kind (yield f ++ r)
    many_alone Y s f r (no_more i e) k = subst (λ z. NoTwoCommas kind (yield z ++ r)) (sym e) k
    many_alone Y s f r (one_more i u v e y m) k =
        subst (NoTwoCommas kind) (sym (ap (λ z. yield z ++ r) e ∙ join_more u v r))
        (s u (yield v ++ r) y (many_alone Y s v r m k))

    mark_alone : (p : Kind → Bool) (a : A) (r : List A) → IsTrue (p (kind a))
        → (IsTrue (not (apart p (is K.Comma))) → comma r ≡ false)
        → (is K.Comma (kind a) && comma r) ≡ false
    mark_alone p a r m k = go (apart p (is K.Comma)) refl
      where
        go : (b : Bool) → apart p (is K.Comma) ≡ b → (is K.Comma (kind a) && comma r) ≡ false
        go true e = ap (λ c. c && comma r) (apart_at p (is K.Comma) e (kind a) m)
        go false e =
            ap (λ c. is K.Comma (kind a) && c) (k (ap not e)) ∙ and-false (is K.Comma (kind a))

    rule_alone : (R : Rule) → IsTrue (no_comma_pair R) → (f : Forest Label A) (r : List A)
        → means kind room X R f → NoTwoCommas kind r → (IsTrue (last R) → comma r ≡ false)
        → NoTwoCommas kind (yield f ++ r)
    rule_alone never d f r m n k = absurd m
    rule_alone empty d f r m n k = subst (λ z. NoTwoCommas kind (yield z ++ r)) (sym m) n
    rule_alone inner d f r m n k = x.alone f r m n
    rule_alone (leaf_of p) d f r (a, e, m) n k =
        subst (λ z. NoTwoCommas kind (yield z ++ r)) (sym e) (mark_alone p a r m k, n)
    rule_alone (nested q b) d f r (o, (u, i, e, (a, c, m), y)) n k =
        subst (λ z. NoTwoCommas kind (yield z ++ r)) (sym (e ∙ ap (λ z. join z i) c)) (
          ap (λ z. nat_eq z (code K.Comma) && comma (yield i ++ r))
              (eqb-true (code (kind a)) (code q)
              m) ∙ ap (λ z. z && comma (yield i ++ r)) (not-true (is K.Comma q) (and_first _ _ d)),
          rule_alone b (and_second (not (is K.Comma q)) _ d) i r y n
              (λ h. k (or_right (is K.Comma q) (last b) h)),
        )
    rule_alone (then a b) d f r (u, v, e, m, y) n k =
        let d1 = and_second (no_comma_pair a) _ d in
        subst (NoTwoCommas kind) (sym (ap (λ z. yield z ++ r) e ∙ join_more u v r))
        (rule_alone a (and_first (no_comma_pair a) _ d) u (yield v ++ r) m
        (rule_alone b (and_first (no_comma_pair b) _ d1) v r y n (λ h. k (or_left (last b) _ h)))
        (λ la. rule_opens b
        (not-true (opening b) (implied (last a) (not (opening b))
        (and_second (no_comma_pair b) _ d1) la))
        v r y (λ eb. k (or_right (last b) _ (and_from (can_be_empty b) (last a) eb la)))))
    rule_alone (either a b) d f r (inl m) n k = rule_alone a
        (and_first (no_comma_pair a) (no_comma_pair b) d) f r m n
        (λ h. k (or_left (last a) (last b) h))
    rule_alone (either a b) d f r (inr m) n k = rule_alone b
        (and_second (no_comma_pair a) (no_comma_pair b) d) f r m n
        (λ h. k (or_right (last a) (last b) h))
    rule_alone (star a) d f r m n k = many_alone (means kind room X a)
        (λ f r y h. rule_alone a (and_first (no_comma_pair a) _ d) f r y h (λ l.
        absurd (both_ways (last a) (not-true (last a) (and_second (no_comma_pair a) _ d)) l))) f r m
        n
    rule_alone (node l a) d f r (u, e, m) n k = subst (NoTwoCommas kind)
        (sym (ap (λ z. yield z ++ r) e ∙ ap (λ z. z ++ r) (append-nil (yield u))))
        (rule_alone a d u r m n k)
    rule_alone R d f r m n k = absurd cc

  never_inner : Inner (λ f. ⊥)
  never_inner = record { opens = λ f r m. absurd m; alone = λ f r m n. absurd m }

  expr_up : (room : Bool) (X : Lang A) → Inner X → Inner (G.ExprIn kind room X)
  expr_up room X x = record {
    opens = λ f r m. rule_opens room X x (spelled expr_rule) refl f r m (λ h. absurd cc);
    alone = λ f r m n. rule_alone room X x (spelled expr_rule) refl f r m n (λ h. absurd cc);
  }

  expr_inner : (d : ℕ) → Inner (G.Expr kind d)
  expr_inner zero = expr_up false (λ f. ⊥) never_inner
  expr_inner (suc d) = expr_up true (G.Expr kind d) (expr_inner d)

  pub commas_stand_alone : CommasStandAlone kind
  commas_stand_alone d ts f g = go g.shape
    where
      go : G.PolicySet kind d f → NoTwoCommas kind ts
      go (u, e, m) =
          let h = rule_alone true (G.Expr kind d) (expr_inner d)
          (star (spelled policy_rule)) refl u [] m tt (λ h. absurd cc) in
          subst (NoTwoCommas kind) (sym (ap yield e) ∙ g.leaves) h

  -- if a list has no two commas next to each other, its plain list has no trailing comma
  plain_begins : (ts : List A) → NoTwoCommas kind ts → begins kind is_closing (plain kind ts) ≡ true
      → (begins kind is_closing ts ≡ true) ⊎ (comma ts ≡ true)
  plain_begins [] n h = absurd (let z : false ≡ true = h in cc)
  plain_begins (a ∷ ts) n h = go (is K.Comma (kind a)) refl
    where
      go : (b : Bool) → is K.Comma (kind a) ≡ b
          → (is_closing (kind a) ≡ true) ⊎ (is K.Comma (kind a) ≡ true)
      go true e = inr e
      go false e = inl (sym (ap (λ z. begins kind is_closing
          (drop_if (z && begins kind is_closing ts) (a ∷ plain kind ts) (plain kind ts))) e) ∙ h)

  kept_plain : (a : A) (ts : List A) → NoTwoCommas kind (a ∷ ts)
      → (is K.Comma (kind a) && begins kind is_closing ts) ≡ false
      → (is K.Comma (kind a) && begins kind is_closing (plain kind ts)) ≡ false
  kept_plain a ts n e = go (is K.Comma (kind a)) refl
    where
      go : (b : Bool) → is K.Comma (kind a) ≡ b
          → (is K.Comma (kind a) && begins kind is_closing (plain kind ts)) ≡ false
      go false h = ap (λ z. z && begins kind is_closing (plain kind ts)) h
      go true h = inside (begins kind is_closing (plain kind ts)) refl
        where
          closing : begins kind is_closing ts ≡ false
          closing = sym (ap (λ z. z && begins kind is_closing ts) h) ∙ e

          second : comma ts ≡ false
          second = sym (ap (λ z. z && comma ts) h) ∙ n.0

          inside : (b : Bool) → begins kind is_closing (plain kind ts) ≡ b
              → (is K.Comma (kind a) && begins kind is_closing (plain kind ts)) ≡ false
          inside false i = ap (λ z. is K.Comma (kind a) && z) i ∙ and-false (is K.Comma (kind a))
          inside true i = absurd (which (plain_begins ts n.1 i))
            where
              which : (begins kind is_closing ts ≡ true) ⊎ (comma ts ≡ true) → ⊥
              which (inl j) = let z : true ≡ false = sym j ∙ closing in cc
              which (inr j) = let z : true ≡ false = sym j ∙ second in cc

  plain_plain : (ts : List A) → NoTwoCommas kind ts → plain kind (plain kind ts) ≡ plain kind ts
  plain_plain [] n = refl
  plain_plain (a ∷ ts) n =
      go (plain_plain ts n.1) (is K.Comma (kind a) && begins kind is_closing ts) refl
    where
      go : plain kind (plain kind ts) ≡ plain kind ts → (b : Bool)
          → (is K.Comma (kind a) && begins kind is_closing ts) ≡ b
          → plain kind (drop_if b (a ∷ plain kind ts) (plain kind ts))
          ≡ drop_if b (a ∷ plain kind ts) (plain kind ts)
      go i true e = i
      go i false e =
          ap (λ b. drop_if b (a ∷ plain kind (plain kind ts)) (plain kind (plain kind ts)))
          (kept_plain a ts n e) ∙ ap (λ z. a ∷ z) i

  pub plain_is_plain : PlainIsPlain kind
  plain_is_plain d ts f g = plain_plain ts (commas_stand_alone d ts f g)
