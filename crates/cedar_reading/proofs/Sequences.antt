-- A policy's tokens end with their only `;`, so a list of the grammar splits after each `;`.
use Rattle.std.specs.Prelude.{◌≡◌, ℕ, zero, suc, Bool, true, false, ◌||◌, ◌&&◌, not, IsTrue, nat_eq, List, [], ◌∷◌, ◌++◌, ◌⊎◌}
use Rattle.std.specs.List.{list_any}
use Rattle.std.proofs.Common.{refl, sym, ap, ◌∙◌, inl, inr, append_assoc, append-nil, subst}
use Rattle.std.proofs.lemmas.List.{append_cancel_left}
use Rattle.std.proofs.lemmas.List.Folds.{list_any-append}
use Rattle.std.proofs.lemmas.Bool.{or_from}
use borrow.Author.Tests.{eqb-true}
use Rattle.cedar_tokens.specs.declared.kind.Kind.{Kind}
use Rattle.cedar_tokens.specs.declared.kind.Kind.TheVariants as K
use Rattle.cedar_tokens.specs.Kinds.{is, code}
use Rattle.cedar_grammar.specs.Trees.{Label, Forest, none, branch, yield, join}
use Rattle.cedar_grammar.specs.Trees as L
use Rattle.cedar_grammar.specs.Languages.{Lang, Many, no_more, one_more}
use Rattle.cedar_grammar.specs.KindGrammar as G
use Rattle.cedar_grammar.specs.Reader.Rules.{Rule, never, empty, inner, leaf_of, nested, then, either, star, tail, node, shaped, items, entity, reference}
use Rattle.cedar_grammar.specs.Reader.Lines.{expr_rule, policy_rule}
use Rattle.cedar_grammar.proofs.KindSets.{apart, within, apart_at, within_at}
use Rattle.cedar_grammar.proofs.Booleans.{and_first as and_left, and_second as and_right, neither_second as or_right}
use Rattle.std.proofs.lemmas.Bool.{not-true as not_true}
use Rattle.cedar_grammar.proofs.Readers.Languages.{yield_join}
use Rattle.cedar_grammar.proofs.Readers.Equations.{join_none}
use Rattle.cedar_grammar.proofs.Plain.Leaves.{spelled}
use Rattle.cedar_grammar.proofs.Rules.Meanings.{means}
use Rattle.cedar_grammar.proofs.Texts.Cuts.{cuts}

-- no list of the rule has a `;`
abbrev free : Rule → Bool
free never = true
free empty = true
free inner = true
free (leaf_of p) = apart p (is K.SemiColon)
free (nested k a) = not (is K.SemiColon k) && free a
free (then a b) = free a && free b
free (either a b) = free a && free b
free (star a) = free a
free (node l a) = free a
free r = false

-- each list of the rule ends with its only `;`
abbrev ended : Rule → Bool
ended (leaf_of p) = within p (is K.SemiColon)
ended (then a b) = free a && ended b
ended (node l a) = ended a
ended r = false

module _ {A : Type 0} (kind : A → Kind) where
  abbrev semicolon : A → Bool
  semicolon t = is K.SemiColon (kind t)

  abbrev some : List A → Bool
  some ts = list_any (λ t. is K.SemiColon (kind t)) ts

  some_join : (f g : Forest Label A) → some (yield f) ≡ false → some (yield g) ≡ false
      → some (yield (join f g)) ≡ false
  some_join f g x y = ap some (yield_join f g) ∙ (list_any-append semicolon (yield f) (yield g)
      ∙ or_from (some (yield f)) (some (yield g)) x y)

  abbrev Free : Lang A → Type 0
  Free X = (f : Forest Label A) → X f → some (yield f) ≡ false

  many_free : (Y : Lang A) → Free Y → Free (Many Y)
  many_free Y s f (no_more i e) = ap (λ z. some (yield z)) e
  many_free Y s f (one_more i u v e y m) =
      ap (λ z. some (yield z)) e ∙ some_join u v (s u y) (many_free Y s v m)

  -- the tokens before the last, and the last
  record Ended (ts : List A) : Type 0 where
    pub front : List A
    pub last : A
    pub whole : ts ≡ front ++ (last ∷ [])
    pub none : some front ≡ false
    pub is_one : IsTrue (semicolon last)

  module _ (room : Bool) (X : Lang A) (x : Free X) where
    rule_free : (R : Rule) → IsTrue (free R) → Free (means kind room X R)
    rule_free never d f m = absurd m
    rule_free empty d f m = ap (λ z. some (yield z)) m
    rule_free inner d f m = x f m
    rule_free (leaf_of p) d f (a, e, m) = ap (λ z. some (yield z)) e
        ∙ or_from (semicolon a) false (apart_at p (is K.SemiColon) d (kind a) m) refl
    rule_free (nested q b) d f (o, (u, i, e, (a, c, m), y)) =
        ap (λ z. some (yield z)) (e ∙ ap (λ z. join z i) c)
        ∙ or_from (semicolon a) (some (yield i)) (ap (λ z. nat_eq z (code K.SemiColon))
        (eqb-true (code (kind a)) (code q) m) ∙ not_true (is K.SemiColon q) (and_left _ _ d))
        (rule_free b (and_right (not (is K.SemiColon q)) _ d) i y)
    rule_free (then a b) d f (u, v, e, m, y) = ap (λ z. some (yield z)) e ∙ some_join u v
        (rule_free a (and_left (free a) _ d) u m) (rule_free b (and_right (free a) _ d) v y)
    rule_free (either a b) d f (inl m) = rule_free a (and_left (free a) _ d) f m
    rule_free (either a b) d f (inr m) = rule_free b (and_right (free a) _ d) f m
    rule_free (star a) d f m = many_free (means kind room X a) (λ f y. rule_free a d f y) f m
    rule_free (node l a) d f (u, e, m) =
        ap (λ z. some (yield z)) e ∙ ap some (append-nil (yield u)) ∙ rule_free a d u m
    rule_free (tail s a b c) d f m = absurd cc
    rule_free (shaped a) d f m = absurd cc
    rule_free (items a) d f m = absurd cc
    rule_free entity d f m = absurd cc
    rule_free (reference c) d f m = absurd cc

    rule_ended : (R : Rule) → IsTrue (ended R) → (f : Forest Label A) → means kind room X R f
        → Ended (yield f)
    rule_ended (leaf_of p) d f (a, e, m) = record {
      front = [];
      last = a;
      whole = ap yield e;
      none = refl;
      is_one = within_at p (is K.SemiColon) d (kind a) m;
    }
    rule_ended (then a b) d f (u, v, e, m, y) =
        let z = rule_ended b (and_right (free a) _ d) v y in
        record {
          front = yield u ++ z.front;
          last = z.last;
          whole = ap yield e ∙ yield_join u v ∙ ap (λ w. yield u ++ w) z.whole
              ∙ sym (append_assoc (yield u) z.front (z.last ∷ []));
          none = list_any-append semicolon (yield u) z.front ∙ or_from (some (yield u))
              (some z.front) (rule_free a (and_left (free a) _ d) u m) z.none;
          is_one = z.is_one;
        }
    rule_ended (node l a) d f (u, e, m) =
        subst Ended (sym (ap yield e ∙ append-nil (yield u))) (rule_ended a d u m)
    rule_ended never d f m = absurd m
    rule_ended empty d f m = absurd cc
    rule_ended inner d f m = absurd cc
    rule_ended (nested q b) d f m = absurd cc
    rule_ended (either a b) d f m = absurd cc
    rule_ended (star a) d f m = absurd cc
    rule_ended (tail s a b c) d f m = absurd cc
    rule_ended (shaped a) d f m = absurd cc
    rule_ended (items a) d f m = absurd cc
    rule_ended entity d f m = absurd cc
    rule_ended (reference c) d f m = absurd cc

  expr_free : (d : ℕ) → Free (G.Expr kind d)
  expr_free zero f m = rule_free false (λ f. ⊥) (λ f m. absurd m) (spelled expr_rule) refl f m
  expr_free (suc d) f m = rule_free true (G.Expr kind d) (expr_free d) (spelled expr_rule) refl f m

  policy_ended : (d : ℕ) (f : Forest Label A) → G.Policy kind d f → Ended (yield f)
  policy_ended d f m = rule_ended true (G.Expr kind d) (expr_free d) (spelled policy_rule) refl f m

  -- a row of lists, each with its only `;` at its end
  module _ (Y : Lang A) (y : (f : Forest Label A) → Y f → Ended (yield f)) where
    abbrev Row : List A → Type 0
    Row ts = (f : Forest Label A) × Many Y f × (yield f ≡ ts)

    row_none : Row []
    row_none = (none, no_more none refl, refl)

    row_more : (u : Forest Label A) (ts : List A) → Y u → Row ts → Row (yield u ++ ts)
    row_more u ts m r = (
      join u r.0,
      one_more (join u r.0) u r.0 refl m r.1,
      yield_join u r.0 ∙ ap (λ w. yield u ++ w) r.2,
    )

    row_join : (f : Forest Label A) (b : List A) → Many Y f → Row b → Row (yield f ++ b)
    row_join f b (no_more i e) r = subst (λ z. Row (yield z ++ b)) (sym e) r
    row_join f b (one_more i u v e m n) r =
        subst Row (sym (ap (λ z. yield z ++ b) e ∙ ap (λ w. w ++ b) (yield_join u v)
        ∙ append_assoc (yield u) (yield v) b)) (row_more u (yield v ++ b) m (row_join v b n r))

    not_among : (a : List A) (s : A) (e : List A) → IsTrue (semicolon s)
        → some (a ++ (s ∷ e)) ≡ false → ⊥
    not_among [] s e t h = let k : true ≡ false = sym (ap (λ b. b || some e) t) ∙ h in cc
    not_among (c ∷ a) s e t h = not_among a s e t (or_right (semicolon c) (some (a ++ (s ∷ e))) h)

    row_parts : (f : Forest Label A) → Many Y f → (a : List A) (s : A) (b : List A)
        → IsTrue (semicolon s) → yield f ≡ a ++ (s ∷ b) → Row (a ++ (s ∷ [])) × Row b
    row_parts f (no_more i e) a s b t h = absurd (nothing a (sym (ap yield e) ∙ h))
      where
        nothing : (a : List A) → ◌≡◌ {A = List A} [] (a ++ (s ∷ b)) → ⊥
        nothing [] h = cc
        nothing (c ∷ a) h = cc
    row_parts f (one_more i u v e m n) a s b t h =
        go (λ c r. row_parts v n c s b t r) (cuts z.front a z.last s (yield v) b same)
      where
        z : Ended (yield u)
        z = y u m

        same : z.front ++ (z.last ∷ yield v) ≡ a ++ (s ∷ b)
        same = sym (append_assoc z.front (z.last ∷ []) (yield v))
            ∙ ap (λ w. w ++ yield v) (sym z.whole) ∙ sym (yield_join u v) ∙ sym (ap yield e) ∙ h

        go : ((c : List A) → yield v ≡ c ++ (s ∷ b) → Row (c ++ (s ∷ [])) × Row b)
            → ((z.front ≡ a) × (z.last ≡ s)) ⊎ (((e : List A) × (a ≡ z.front ++ (z.last ∷ e)))
            ⊎ ((e : List A) × (z.front ≡ a ++ (s ∷ e))))
            → Row (a ++ (s ∷ [])) × Row b
        go again (inl (p, q)) =
            let whole : yield u ++ [] ≡ a ++ (s ∷ []) = append-nil (yield u) ∙ z.whole
            ∙ ap (λ w. w ++ (z.last ∷ [])) p ∙ ap (λ w. a ++ (w ∷ [])) q in
            let k : a ++ (s ∷ yield v) ≡ a ++ (s ∷ b) = ap (λ w. w ++ (s ∷ yield v)) (sym p)
            ∙ ap (λ w. z.front ++ (w ∷ yield v)) (sym q) ∙ same in
            let l : s ∷ yield v ≡ s ∷ b = append_cancel_left a (s ∷ yield v) (s ∷ b) k in
            let rest : yield v ≡ b = cc in
            (subst Row whole (row_more u [] m row_none), (v, n, rest))
        go again (inr (inl (c, p))) =
            let k : z.front ++ (z.last ∷ yield v) ≡ z.front ++ (z.last ∷ (c ++ (s ∷ b))) =
            same ∙ ap (λ w. w ++ (s ∷ b)) p ∙ append_assoc z.front (z.last ∷ c) (s ∷ b) in
            let l : z.last ∷ yield v ≡ z.last ∷ (c ++ (s ∷ b)) =
            append_cancel_left z.front (z.last ∷ yield v) (z.last ∷ (c ++ (s ∷ b))) k in
            let rest : yield v ≡ c ++ (s ∷ b) = cc in
            let r = again c rest in
            let whole : yield u ++ (c ++ (s ∷ [])) ≡ a ++ (s ∷ []) =
            ap (λ w. w ++ (c ++ (s ∷ []))) z.whole
            ∙ append_assoc z.front (z.last ∷ []) (c ++ (s ∷ []))
            ∙ sym (append_assoc z.front (z.last ∷ c) (s ∷ [])) ∙ ap (λ w. w ++ (s ∷ [])) (sym p) in
            (subst Row whole (row_more u (c ++ (s ∷ [])) m r.0), r.1)
        go again (inr (inr (c, p))) = absurd (not_among a s c t (sym (ap some p) ∙ z.none))

    row_empty : (f : Forest Label A) → Many Y f → some (yield f) ≡ false → yield f ≡ []
    row_empty f (no_more i e) h = ap yield e
    row_empty f (one_more i u v e m n) h =
        absurd (not_among z.front z.last (yield v) z.is_one (sym (ap some same) ∙ h))
      where
        z : Ended (yield u)
        z = y u m

        same : yield f ≡ z.front ++ (z.last ∷ yield v)
        same = ap yield e ∙ yield_join u v ∙ ap (λ w. w ++ yield v) z.whole
            ∙ append_assoc z.front (z.last ∷ []) (yield v)

    -- a row without such a token is empty
    no_row : (f : Forest Label A) → Many Y f → some (yield f) ≡ false → f ≡ none
    no_row f (no_more i e) h = e
    no_row f (one_more i u v e m n) h =
        absurd (nothing (sym (ap yield e ∙ yield_join u v ∙ ap (λ w. w ++ yield v) z.whole)
        ∙ row_empty f (one_more f u v e m n) h))
      where
        z : Ended (yield u)
        z = y u m

        filled : (a b : List A) (s : A) → (a ++ (s ∷ [])) ++ b ≡ [] → ⊥
        filled [] b s k = cc
        filled (c ∷ a) b s k = cc

        nothing : (z.front ++ (z.last ∷ [])) ++ yield v ≡ [] → ⊥
        nothing k = filled z.front (yield v) z.last k

    -- a row whose only such token is its last consists of one list
    one_row : (f : Forest Label A) (a : List A) (s : A) → Many Y f → IsTrue (semicolon s)
        → some a ≡ false → yield f ≡ a ++ (s ∷ []) → (u : Forest Label A) × (f ≡ u) × Y u
    one_row f a s (no_more i e) t h k = absurd (nothing a (sym (ap yield e) ∙ k))
      where
        nothing : (a : List A) → ◌≡◌ {A = List A} [] (a ++ (s ∷ [])) → ⊥
        nothing [] h = cc
        nothing (c ∷ a) h = cc
    one_row f a s (one_more i u v e m n) t h k = go (cuts z.front a z.last s (yield v) [] same)
      where
        z : Ended (yield u)
        z = y u m

        same : z.front ++ (z.last ∷ yield v) ≡ a ++ (s ∷ [])
        same = sym (append_assoc z.front (z.last ∷ []) (yield v))
            ∙ ap (λ w. w ++ yield v) (sym z.whole) ∙ sym (yield_join u v) ∙ sym (ap yield e) ∙ k

        go : ((z.front ≡ a) × (z.last ≡ s)) ⊎ (((e : List A) × (a ≡ z.front ++ (z.last ∷ e)))
            ⊎ ((e : List A) × (z.front ≡ a ++ (s ∷ e)))) → (u : Forest Label A) × (f ≡ u) × Y u
        go (inl (p, q)) =
            let l : a ++ (s ∷ yield v) ≡ a ++ (s ∷ []) = ap (λ w. w ++ (s ∷ yield v)) (sym p)
            ∙ ap (λ w. z.front ++ (w ∷ yield v)) (sym q) ∙ same in
            let r : s ∷ yield v ≡ s ∷ [] = append_cancel_left a (s ∷ yield v) (s ∷ []) l in
            let rest : yield v ≡ [] = cc in
            let none_left : v ≡ none = no_row v n (ap some rest) in
            (u, e ∙ ap (λ w. join u w) none_left ∙ join_none u, m)
        go (inr (inl (c, p))) = absurd (not_among z.front z.last c z.is_one (sym (ap some p) ∙ h))
        go (inr (inr (c, p))) = absurd (not_among a s c t (sym (ap some p) ∙ z.none))

  listed : (d : ℕ) (ts : List A) → Row (G.Policy kind d) (policy_ended d) ts
      → (f : Forest Label A) × G.G kind d f ts
  listed d ts r = (
    branch L.policies r.0 none,
    record { shape = (r.0, refl, r.1); leaves = append-nil (yield r.0) ∙ r.2 },
  )

  leaves_of : (f g : Forest Label A) (ts : List A) → f ≡ branch L.policies g none → yield f ≡ ts
      → yield g ≡ ts
  leaves_of f g ts e h = sym (append-nil (yield g)) ∙ sym (ap yield e) ∙ h

  -- a list of the grammar splits after each `;` into two
  pub list_parts : (d : ℕ) (tree : Forest Label A) (a : List A) (s : A) (b : List A)
      → IsTrue (is K.SemiColon (kind s)) → G.G kind d tree (a ++ (s ∷ b))
      → ((f : Forest Label A) × G.G kind d f (a ++ (s ∷ []))) × ((g : Forest Label A)
      × G.G kind d g b)
  list_parts d tree a s b t g = go g.shape
    where
      go : G.PolicySet kind d tree → ((f : Forest Label A) × G.G kind d f (a ++ (s ∷ [])))
          × ((g : Forest Label A) × G.G kind d g b)
      go (u, e, m) =
          let r = row_parts (G.Policy kind d) (policy_ended d) u m a s b t
          (leaves_of tree u (a ++ (s ∷ b)) e g.leaves) in
          (listed d (a ++ (s ∷ [])) r.0, listed d b r.1)

  -- two lists of the grammar, one after the other, are one
  pub lists_join : (d : ℕ) (f g : Forest Label A) (a b : List A) → G.G kind d f a → G.G kind d g b
      → (h : Forest Label A) × G.G kind d h (a ++ b)
  lists_join d f g a b x y = go x.shape y.shape
    where
      go : G.PolicySet kind d f → G.PolicySet kind d g
          → (h : Forest Label A) × G.G kind d h (a ++ b)
      go (u, e, m) (v, i, n) =
          let r =
          row_join (G.Policy kind d) (policy_ended d) u b m (v, n, leaves_of g v b i y.leaves) in
          listed d (a ++ b) (subst (Row (G.Policy kind d) (policy_ended d))
          (ap (λ w. w ++ b) (leaves_of f u a e x.leaves)) r)

  -- the empty list is one
  pub no_list : (d : ℕ) → (f : Forest Label A) × G.G kind d f []
  no_list d = listed d [] (row_none (G.Policy kind d) (policy_ended d))

  -- a list of the grammar without `;` is empty
  pub no_semicolon : (d : ℕ) (tree : Forest Label A) (ts : List A)
      → list_any (λ t. is K.SemiColon (kind t)) ts ≡ false → G.G kind d tree ts → ts ≡ []
  no_semicolon d tree ts h g = go g.shape
    where
      go : G.PolicySet kind d tree → ts ≡ []
      go (u, e, m) =
          let same = leaves_of tree u ts e g.leaves in
          sym same ∙ row_empty (G.Policy kind d) (policy_ended d) u m (ap some same ∙ h)

  -- policies without a `;` are none
  pub no_policies : (d : ℕ) (f : Forest Label A) → Many (G.Policy kind d) f
      → list_any (λ t. is K.SemiColon (kind t)) (yield f) ≡ false → f ≡ none
  no_policies d f m h = no_row (G.Policy kind d) (policy_ended d) f m h

  -- policies whose only `;` is their last token are one
  pub one_policy : (d : ℕ) (f : Forest Label A) (a : List A) (s : A) → Many (G.Policy kind d) f
      → IsTrue (is K.SemiColon (kind s)) → list_any (λ t. is K.SemiColon (kind t)) a ≡ false
      → yield f ≡ a ++ (s ∷ [])
      → (g : Forest Label A) × (f ≡ branch L.policy g none)
  one_policy d f a s m t h k =
      let r = one_row (G.Policy kind d) (policy_ended d) f a s m t h k in (r.2.0, r.1 ∙ r.2.1)
