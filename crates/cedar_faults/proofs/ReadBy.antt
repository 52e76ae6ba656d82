-- A rule is read on by what is found for the next token.
use Rattle.std.specs.Prelude.{◌≡◌, ℕ, zero, suc, ◌<◌, ◌≤◌, Bool, true, false, ◌||◌, ◌&&◌, not, IsTrue, List, [], ◌∷◌, ◌++◌, length}
use Rattle.std.proofs.Common.{refl, sym, ap, ◌∙◌, arith}
use Rattle.std.proofs.lemmas.Bool.{not-true, false_from_ne_true}
use Rattle.cedar_tokens.specs.declared.kind.Kind.{Kind}
use Rattle.cedar_tokens.specs.declared.kind.Kind.TheVariants as K
use Rattle.cedar_tokens.specs.Kinds.{is, begins}
use Rattle.cedar_grammar.specs.Trees.{Label, Forest, none, leaf, branch, join}
use Rattle.cedar_grammar.specs.Reader.Reading.{Answer, Reader, done, stuck, after, choice, both, tree, nest, too_deep, many, repeat, token, one}
use Rattle.cedar_grammar.specs.Reader.Lines.{◌▸◌, one_of, expr_to, expr_rule, or_rule}
use Rattle.cedar_grammar.specs.Reader.Rules.{Rule, never, empty, inner, leaf_of, nested, then, either, star, tail, node, shaped, items, entity, reference, expr_first, nullable, first, refuse, shaped_at, tail_to, tailed, nested_at, read, core}
use Rattle.cedar_grammar.specs.Reader.Sets.{joined}
use Rattle.cedar_grammar.specs.KindGrammar as G
use Rattle.cedar_grammar.proofs.Booleans.{and_first, and_second}
use Rattle.cedar_grammar.proofs.Readers.Equations.{choice_yes, choice_no, both_first, both_fails, Takes, Keeps, repeat_step, repeat_end, repeat_fails, token_yes, token_no}
use Rattle.cedar_grammar.proofs.Rules.Meanings.{decided}
use Rattle.cedar_grammar.proofs.Rules.Languages.{read_takes}
use Rattle.cedar_grammar.proofs.Rules.Places.{tail_more}
use Rattle.cedar_grammar.proofs.Rules.Tests.{expr_decided, expr_begins}
use Rattle.cedar_grammar.proofs.KindSets.{within_at}
use Rattle.cedar_grammar.proofs.WholeLaws.{expr_fits}
use Rattle.cedar_faults.specs.Inside.Reaching.{Reach, past, stops_at, reach, on, room, inside, reads}
use Rattle.cedar_faults.proofs.Branches.{flat, RuleWay, taking, nesting, opening, each_followed, only_if, branches}
use Rattle.cedar_faults.proofs.RuleReading.{on_same, on_past, reach_kept, reach_both, reach_tree, reach_shaped, reads_all, reads_append, reads_flat, Found, here, held, denied, absent, way_found, if_here, pick, or_else, follow, is_found, pick_append, pick_follow, found_first, or_past, by, by_found, by_follow, or_else_found, or_else_absent}

abbrev pub κ : Kind → Kind
κ k = k

abbrev pub if_so : {A : Type 0} → Bool → A → A → A
if_so true x y = x
if_so false x y = y

-- what reads a rule, with n levels left
abbrev pub at : ℕ → Rule → Reader Kind
at n r = read κ (room n) (inside n) r

takes_at : (n : ℕ) (r : Rule) → IsTrue (decided r) → nullable r ≡ false → Takes (at n r)
takes_at zero r d e = read_takes κ false too_deep (λ f. ⊥) (λ f x. absurd x)
    (λ ts f v w. absurd cc) (λ f v x s. absurd x) r d e
takes_at (suc n) r d e = let h = expr_fits κ n in read_takes κ true (expr_to κ n)
    (G.Expr κ n) h.begun h.sound h.complete r d e

star_yes : (n : ℕ) (a : Rule) → Takes (at n a) → (ts : List Kind) → begins κ (first a) ts ≡ true
    → reads n (star a) ts ≡ on (reads n a ts) (reads n (star a))
star_yes n a takes ts h = go (at n a ts) refl
  where
    go : (x : Answer Kind) → at n a ts ≡ x → reads n (star a) ts ≡ on (reads n a ts) (reads n
        (star a))
    go (done f r) e = ap reach (repeat_step (begins κ (first a)) (at n a) takes ts f r h e)
        ∙ reach_kept (join f) (repeat (begins κ (first a)) (at n a) r)
        ∙ sym (ap (λ x. on (reach x) (reads n (star a))) e)
    go (stuck b r) e = ap reach (repeat_fails (begins κ (first a)) (at n a) ts b r h e)
        ∙ sym (ap (λ x. on (reach x) (reads n (star a))) e)

-- after the sign of a tail
sign_read : (n : ℕ) (s : Kind) (x y z : Rule) → Takes (at n x) → nullable x ≡ false → (k : Kind)
    (ts : List Kind) → is s k ≡ true
    → reads n (tail s x y z) (k ∷ ts) ≡ reads n (either (then x (tail s x y z)) y) ts
unfolding tailed
sign_read n s x y z takes e k ts h = ap reach (choice_yes (is s k) _ _ (k ∷ ts) h)
    ∙ reach_both (one κ s) _ (k ∷ ts)
    ∙ ap (λ v. on (reach v) (λ r. reach (next (suc (length ts)) r))) (token_yes κ (is s) k ts h)
    ∙ again (begins κ (first x) ts) refl
  where
    next : ℕ → Reader Kind
    next m rs = choice (begins κ (first x) rs) (both (at n x) (tail_to κ s (first x) (at n x)
        (at n y) (at n z) m)) (at n y) rs

    keeps : Keeps (at n x)
    keeps us f r i = let less = takes us f r i in omega (arith, less)

    same : begins κ (first (then x (tail s x y z))) ts ≡ begins κ (first x) ts
    same = ap (λ m. begins κ (joined m (first x) (first (tail s x y z))) ts) e

    turns : (a : Answer Kind) → at n x ts ≡ a
        → on (reach (at n x ts)) (λ r. reach (tail_to κ s (first x) (at n x) (at n y) (at n z)
        (suc (length ts)) r)) ≡ on (reach (at n x ts)) (λ r. reads n (tail s x y z) r)
    turns (done f r) i = let less : length r < length ts = takes ts f r i in
        ap (λ a. on (reach a) (λ r. reach (tail_to κ s (first x) (at n x) (at n y) (at n z) (suc
        (length ts)) r))) i
        ∙ ap reach (tail_more κ s (first x) (at n x) (at n y) (at n z) keeps (suc (length ts))
        (suc (length r)) r (omega arith) (omega arith))
        ∙ sym (ap (λ a. on (reach a) (λ r. reads n (tail s x y z) r)) i)
    turns (stuck b r) i = ap (λ a. on (reach a) (λ r. reach (tail_to κ s (first x) (at n x)
        (at n y) (at n z) (suc (length ts)) r))) i
        ∙ sym (ap (λ a. on (reach a) (λ r. reads n (tail s x y z) r)) i)

    again : (b : Bool) → begins κ (first x) ts ≡ b → reach (next (suc (length ts)) ts) ≡ reads n
        (either (then x (tail s x y z)) y) ts
    again true i = ap reach (choice_yes (begins κ (first x) ts) _ _ ts i) ∙ reach_both (at n x) _ ts
        ∙ turns (at n x ts) refl ∙ sym (reach_both (at n x) (at n (tail s x y z)) ts)
        ∙ sym (ap reach (choice_yes (begins κ (first (then x (tail s x y z))) ts) (both (at n x)
        (at n (tail s x y z))) (at n y) ts (same ∙ i)))
    again false i = ap reach (choice_no (begins κ (first x) ts) _ _ ts i)
        ∙ sym (ap reach (choice_no (begins κ (first (then x (tail s x y z))) ts) (both (at n x)
        (at n (tail s x y z))) (at n y) ts (same ∙ i)))

nested_read : (n : ℕ) (j : Kind) (a : Rule) (k : Kind) (ts : List Kind) → is j k ≡ true
    → reads n (nested j a) (k ∷ ts) ≡ by n k ts false (way_found (room n) (nesting (flat a)))
unfolding nest
nested_read n j a k ts h = ap reach (choice_yes (is j k) _ _ (k ∷ ts) h) ∙ go (room n)
  where
    go : (b : Bool) → reach (choice b (both (one κ j) (at n a)) too_deep
        (k ∷ ts)) ≡ by n k ts false (way_found b (nesting (flat a)))
    go true = ap reach (choice_yes true (both (one κ j) (at n a)) too_deep (k ∷ ts) refl)
        ∙ reach_both (one κ j) (at n a) (k ∷ ts) ∙ ap (λ v. on (reach v) (reads n a))
        (token_yes κ (is j) k ts h)
        ∙ reads_flat n a ts
    go false = ap reach (choice_no false (both (one κ j) (at n a)) too_deep (k ∷ ts) refl)

-- an expression inside isn't read from another token
abbrev Waits : ℕ → Type 0
Waits n = (k : Kind) (ts : List Kind) → expr_first k ≡ false → reads n inner (k ∷ ts) ≡ stops_at
    (k ∷ ts)

module _ (n : ℕ) (waits : Waits n) (k : Kind) (ts : List Kind) where
  abbrev pub found : Rule → Found
  found r = pick (room n) (branches r) k

  then_by : (m : Bool) (a c : Rule) → reads n c (k ∷ ts) ≡ by n k ts (nullable c) (found c) →
      (f : Found)
      → on (by n k ts m f) (reads n c) ≡ by n k ts (m && nullable c) (or_else (follow (flat c) f)
      (pick (room n) (only_if m (branches c)) k))
  then_by m a c e (here rs) = on_same (reads_all n rs ts) (reads n c) (reads_all n (flat c))
      (reads_flat n c) ∙ sym (reads_append n rs (flat c) ts)
  then_by m a c e (held rs) = on_same (reads_all n rs (k ∷ ts)) (reads n c) (reads_all n
      (flat c)) (reads_flat n c) ∙ sym (reads_append n rs (flat c) (k ∷ ts))
  then_by m a c e denied = refl
  then_by true a c e absent = e
  then_by false a c e absent = refl

  then_read : (a c : Rule) → reads n a (k ∷ ts) ≡ by n k ts (nullable a) (found a) → reads n c
      (k ∷ ts) ≡ by n k ts (nullable c) (found c)
      → reads n (then a c) (k ∷ ts) ≡ by n k ts (nullable (then a c)) (found (then a c))
  then_read a c e i = reach_both (at n a) (at n c) (k ∷ ts) ∙ ap (λ x. on x (reads n c)) e
      ∙ then_by (nullable a) a c i (found a)
      ∙ sym (ap (by n k ts (nullable a && nullable c)) (pick_append (room n) (each_followed
      (flat c) (branches a)) (only_if (nullable a) (branches c)) k
      ∙ ap (λ f. or_else f (pick (room n) (only_if (nullable a) (branches c)) k)) (pick_follow
      (room n) (flat c) (branches a) k)))

  either_read : (a c : Rule) → is_found (found a) ≡ first a k → reads n a (k ∷ ts) ≡ by n k ts
      (nullable a) (found a)
      → reads n c (k ∷ ts) ≡ by n k ts (nullable c) (found c) → reads n (either a c)
      (k ∷ ts) ≡ by n k ts (nullable c) (found (either a c))
  either_read a c q e i = go (first a k) refl ∙ sym (ap (by n k ts (nullable c)) (pick_append
      (room n) (branches a) (branches c) k))
    where
      go : (b : Bool) → first a k ≡ b → reads n (either a c) (k ∷ ts) ≡ by n k ts (nullable c)
          (or_else (found a) (found c))
      go true h = ap reach (choice_yes (first a k) (at n a) (at n c) (k ∷ ts) h) ∙ e
          ∙ by_found n k ts (nullable a) (nullable c) (found a) (q ∙ h)
          ∙ sym (ap (by n k ts (nullable c)) (or_else_found n k ts (found a) (found c) (q ∙ h)))
      go false h = ap reach (choice_no (first a k) (at n a) (at n c) (k ∷ ts) h) ∙ i
          ∙ sym (ap (by n k ts (nullable c)) (or_else_absent n k ts (found a) (found c) (q ∙ h)))

  star_read : (a : Rule) → Takes (at n a) → is_found (found a) ≡ first a k → reads n a
      (k ∷ ts) ≡ by n k ts (nullable a) (found a)
      → reads n (star a) (k ∷ ts) ≡ by n k ts true (found (star a))
  star_read a takes q e = go (first a k) refl ∙ sym (ap (by n k ts true) (pick_follow (room n)
      (star a ∷ []) (branches a) k))
    where
      no_follow : (f : Found) → is_found f ≡ false → past (k ∷ ts) ≡ by n k ts true (follow
          (star a ∷ []) f)
      no_follow absent h = refl
      no_follow (here rs) h = absurd cc
      no_follow (held rs) h = absurd cc
      no_follow denied h = absurd cc

      go : (b : Bool) → first a k ≡ b → reads n (star a) (k ∷ ts) ≡ by n k ts true (follow
          (star a ∷ []) (found a))
      go true h = star_yes n a takes (k ∷ ts) h ∙ on_same (reads n a (k ∷ ts)) (reads n (star a))
          (reads_all n (star a ∷ [])) (λ r. sym (on_past (reads n (star a) r)))
          ∙ ap (λ x. on x (reads_all n (star a ∷ []))) e ∙ by_follow n k ts (nullable a) true
          (star a ∷ []) (found a) (q ∙ h)
      go false h = ap reach (repeat_end (begins κ (first a)) (at n a) (k ∷ ts) h) ∙ no_follow
          (found a) (q ∙ h)

  pub reads_by : (r : Rule) → IsTrue (decided r) → reads n r (k ∷ ts) ≡ by n k ts (nullable r)
      (found r)
  unfolding tailed
  reads_by never d = refl
  reads_by empty d = refl
  reads_by inner d = go (expr_first k) refl
    where
      go : (b : Bool) → expr_first k ≡ b → reads n inner (k ∷ ts) ≡ by n k ts false (if_here b
          (held (inner ∷ [])) absent)
      go true h = sym (on_past (reads n inner (k ∷ ts)))
      go false h = waits k ts h
  reads_by (leaf_of p) d = go (p k) refl
    where
      go : (b : Bool) → p k ≡ b → reads n (leaf_of p) (k ∷ ts) ≡ by n k ts false (if_here b
          (here []) absent)
      go true h = ap reach (token_yes κ p k ts h)
      go false h = ap reach (token_no κ p k ts h)
  reads_by (nested j a) d = go (is j k) refl
    where
      go : (b : Bool) → is j k ≡ b → reads n (nested j a) (k ∷ ts) ≡ by n k ts false (if_here b
          (way_found (room n) (nesting (flat a))) absent)
      go true h = nested_read n j a k ts h
      go false h = ap reach (choice_no (is j k) _ _ (k ∷ ts) h)
  reads_by (then a c) d = then_read a c (reads_by a (and_first (decided a) _ d)) (reads_by c
      (and_first (decided c) _ (and_second (decided a) _ d)))
  reads_by (either a c) d = let e = and_first (decided a) _ d in
      either_read a c (found_first (room n) a k e) (reads_by a e) (reads_by c (and_first
      (decided c) _ (and_second (decided a) _ d)))
  reads_by (star a) d = let e = and_first (decided a) _ d in
      let m : nullable a ≡ false = not-true (nullable a) (and_first (not (nullable a)) _
      (and_second (decided a) _ d)) in
      star_read a (takes_at n a e m) (found_first (room n) a k e) (reads_by a e)
  reads_by (tail s x y z) d = go (reads_by z (and_first (decided z) _ (and_second (decided y) _
      (and_second (decided x) _ d)))) (is s k) refl
    where
      e : IsTrue (decided x)
      e = and_first (decided x) _ d

      m : nullable x ≡ false
      m = not-true (nullable x) (and_first (not (nullable x)) _ (and_second (decided z) _
          (and_second (decided y) _ (and_second (decided x) _ d))))

      go : reads n z (k ∷ ts) ≡ by n k ts (nullable z) (found z) → (b : Bool) → is s k ≡ b
          → reads n (tail s x y z) (k ∷ ts) ≡ by n k ts (nullable z) (if_here b (here (either
          (then x (tail s x y z)) y ∷ [])) (found z))
      go i true h = sign_read n s x y z (takes_at n x e m) m k ts h ∙ sym (on_past (reads n
          (either (then x (tail s x y z)) y) ts))
      go i false h = ap reach (choice_no (is s k) _ _ (k ∷ ts) h) ∙ i
  reads_by (node l a) d = reach_tree l (at n a) (k ∷ ts) ∙ reads_by a d
  reads_by (shaped a) d = reach_shaped (at n a) (k ∷ ts) ∙ reads_by a d
  reads_by (items a) d = absurd cc
  reads_by entity d = absurd cc
  reads_by (reference a) d = absurd cc

-- an expression is read one level higher
pub expr_is : (d : ℕ) → expr_to κ d ≡ at d (core expr_rule)
expr_is zero = refl
expr_is (suc d) = refl

pub waits : (n : ℕ) → Waits n
waits zero k ts e = refl
waits (suc d) k ts e = ap (λ (P : Reader Kind). reach (P (k ∷ ts))) (expr_is d)
    ∙ reads_by d (waits d) k ts (core expr_rule) expr_decided
    ∙ none_found (found d (waits d) k ts (core expr_rule)) (found_first (room d)
    (core expr_rule) k expr_decided ∙ not_first)
  where
    not_first : first (core expr_rule) k ≡ false
    not_first = false_from_ne_true (first (core expr_rule) k)
        (λ h. let w : expr_first k ≡ true = within_at (first
        (core expr_rule)) expr_first expr_begins k h in absurd cc)

    none_found : (f : Found) → is_found f ≡ false → by d k ts false f ≡ stops_at (k ∷ ts)
    none_found absent h = refl
    none_found (here rs) h = absurd cc
    none_found (held rs) h = absurd cc
    none_found denied h = absurd cc

-- an expression is an if or operands
pub expr_read : (n : ℕ) (k : Kind) (ts : List Kind) → (b : Bool) → is K.If k ≡ b
    → reads n (core expr_rule) (k ∷ ts) ≡ if_so b (by n k ts false (way_found (room n) (nesting
    (flat (core (inner ▸ one_of K.Then ▸ inner ▸ one_of K.Else ▸ inner)))))) (reads n
    (core or_rule) (k ∷ ts))
expr_read n k ts true h = reach_tree Label.expr _ (k ∷ ts) ∙ ap reach (choice_yes (is K.If k) _ _
    (k ∷ ts) h) ∙ nested_read n K.If (core
    (inner ▸ one_of K.Then ▸ inner ▸ one_of K.Else ▸ inner)) k ts h
expr_read n k ts false h = reach_tree Label.expr _ (k ∷ ts) ∙ ap reach (choice_no (is K.If k) _ _
    (k ∷ ts) h)
