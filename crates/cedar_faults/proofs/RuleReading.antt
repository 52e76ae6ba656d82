-- Rules are read by what they begin with.
use Rattle.std.specs.Prelude.{◌≡◌, ℕ, zero, suc, ◌<◌, ◌≤◌, Bool, true, false, ◌||◌, ◌&&◌, not, IsTrue, List, [], ◌∷◌, ◌++◌, length}
use Rattle.std.proofs.Common.{refl, sym, ap, ◌∙◌, arith, append_assoc, append-nil}
use Rattle.std.proofs.lemmas.Bool.{not-true}
use Rattle.cedar_tokens.specs.declared.kind.Kind.{Kind}
use Rattle.cedar_tokens.specs.Kinds.{is, begins}
use Rattle.cedar_grammar.specs.Trees.{Label, Forest, none, leaf, branch, join}
use Rattle.cedar_grammar.specs.Reader.Reading.{Answer, Reader, done, stuck, after, choice, both, tree, nest, too_deep, many, repeat, token, one}
use Rattle.cedar_grammar.specs.Reader.Regroup.{gather}
use Rattle.cedar_grammar.specs.Reader.Lines.{expr_to, expr_rule}
use Rattle.cedar_grammar.specs.Reader.Rules.{Rule, never, empty, inner, leaf_of, nested, then, either, star, tail, node, shaped, items, entity, reference, expr_first, nullable, first, refuse, shaped_at, tail_to, tailed, nested_at, read, core}
use Rattle.cedar_grammar.specs.Reader.Sets.{joined}
use Rattle.cedar_grammar.specs.KindGrammar as G
use Rattle.cedar_grammar.proofs.Booleans.{and_first, and_second}
use Rattle.cedar_grammar.proofs.Readers.Equations.{choice_yes, choice_no, both_first, both_fails, Takes, Keeps, many_more, many_step, many_fails, repeat_end, repeat_fails, token_yes, token_no}
use Rattle.cedar_grammar.proofs.Rules.Meanings.{decided}
use Rattle.cedar_grammar.proofs.Rules.Languages.{read_takes}
use Rattle.cedar_grammar.proofs.Rules.Places.{tail_more}
use Rattle.cedar_grammar.proofs.Rules.Tests.{expr_decided, expr_begins}
use Rattle.cedar_grammar.proofs.KindSets.{within_at}
use Rattle.cedar_grammar.proofs.WholeLaws.{expr_fits}
use Rattle.cedar_faults.specs.Inside.Reaching.{Reach, past, stops_at, reach, on, room, inside, reads}
use Rattle.cedar_faults.proofs.Branches.{flat, RuleWay, taking, nesting, opening, followed, each_followed, only_if, branches}

abbrev κ : Kind → Kind
κ k = k

-- one reader after another
pub on_on : (x : Reach) (K L : List Kind → Reach) → on (on x K) L ≡ on x (λ r. on (K r) L)
on_on (past ts) K L = refl
on_on (stops_at ts) K L = refl

pub on_past : (x : Reach) → on x past ≡ x
on_past (past ts) = refl
on_past (stops_at ts) = refl

pub on_same : (x : Reach) (K L : List Kind → Reach) → ((r : List Kind) → K r ≡ L r)
    → on x K ≡ on x L
on_same (past ts) K L h = h ts
on_same (stops_at ts) K L h = refl

pub reach_kept : (h : Forest Label Kind → Forest Label Kind) (a : Answer Kind) → reach (after a
    (λ g s. done (h g) s)) ≡ reach a
reach_kept h (done g s) = refl
reach_kept h (stuck b s) = refl

pub reach_both : (P Q : Reader Kind) (ts : List Kind) → reach (both P Q ts) ≡ on (reach (P ts))
    (λ r. reach (Q r))
unfolding both
reach_both P Q ts = go (P ts)
  where
    go : (a : Answer Kind) → reach (after a (λ f r. after (Q r) (λ g s. done (join f g) s))) ≡ on
        (reach a) (λ r. reach (Q r))
    go (done f r) = reach_kept (join f) (Q r)
    go (stuck b r) = refl

pub reach_tree : (l : Label) (P : Reader Kind) (ts : List Kind) → reach (tree l P ts) ≡ reach (P ts)
unfolding tree
reach_tree l P ts = go (P ts)
  where
    go : (a : Answer Kind) → reach (after a (λ f r. done (branch l f none) r)) ≡ reach a
    go (done f r) = refl
    go (stuck b r) = refl

pub reach_shaped : (P : Reader Kind) (ts : List Kind) → reach (shaped_at P ts) ≡ reach (P ts)
reach_shaped P ts = go (P ts)
  where
    go : (a : Answer Kind) → reach (after a (λ f r. done (gather none f) r)) ≡ reach a
    go (done f r) = refl
    go (stuck b r) = refl

-- rules one after the other
abbrev pub reads_all : ℕ → List Rule → List Kind → Reach
reads_all n [] ts = past ts
reads_all n (r ∷ rs) ts = on (reads n r ts) (reads_all n rs)

pub reads_append : (n : ℕ) (rs qs : List Rule) (ts : List Kind) → reads_all n (rs ++ qs) ts ≡ on
    (reads_all n rs ts) (reads_all n qs)
reads_append n [] qs ts = refl
reads_append n (r ∷ rs) qs ts = on_same (reads n r ts) (reads_all n (rs ++ qs)) _
    (λ s. reads_append n rs qs s)
    ∙ sym (on_on (reads n r ts) (reads_all n rs) (reads_all n qs))

alone : (n : ℕ) (r : Rule) (ts : List Kind) → reads n r ts ≡ reads_all n (r ∷ []) ts
alone n r ts = sym (on_past (reads n r ts))

pub reads_flat : (n : ℕ) (r : Rule) (ts : List Kind) → reads n r ts ≡ reads_all n (flat r) ts
reads_flat n never ts = alone n never ts
reads_flat n empty ts = refl
reads_flat n inner ts = alone n inner ts
reads_flat n (leaf_of p) ts = alone n (leaf_of p) ts
reads_flat n (nested k a) ts = alone n (nested k a) ts
reads_flat n (then a b) ts = reach_both (read κ (room n) (inside n) a) (read κ (room n)
    (inside n) b) ts
    ∙ ap (λ x. on x (reads n b)) (reads_flat n a ts)
    ∙ on_same (reads_all n (flat a) ts) (reads n b) (reads_all n (flat b)) (λ s. reads_flat n b s)
    ∙ sym (reads_append n (flat a) (flat b) ts)
reads_flat n (either a b) ts = alone n (either a b) ts
reads_flat n (star a) ts = alone n (star a) ts
reads_flat n (tail s x y z) ts = alone n (tail s x y z) ts
reads_flat n (node l a) ts = reach_tree l (read κ (room n) (inside n) a) ts ∙ reads_flat n a ts
reads_flat n (shaped a) ts = reach_shaped (read κ (room n) (inside n) a) ts ∙ reads_flat n a ts
reads_flat n (items a) ts = alone n (items a) ts
reads_flat n entity ts = alone n entity ts
reads_flat n (reference a) ts = alone n (reference a) ts

-- what is found for a token among branches
pub data Found : Type 0 where
  here held : List Rule → Found
  denied absent : Found

abbrev pub way_found : Bool → RuleWay → Found
way_found b (taking rs) = here rs
way_found true (nesting rs) = here rs
way_found false (nesting rs) = denied
way_found b (opening rs) = held rs

abbrev pub if_here : Bool → Found → Found → Found
if_here true f g = f
if_here false f g = g

abbrev pub pick : Bool → List ((Kind → Bool) × RuleWay) → Kind → Found
pick b [] k = absent
pick b ((p, w) ∷ bs) k = if_here (p k) (way_found b w) (pick b bs k)

abbrev pub or_else : Found → Found → Found
or_else absent g = g
or_else (here rs) g = here rs
or_else (held rs) g = held rs
or_else denied g = denied

abbrev pub follow : List Rule → Found → Found
follow more (here rs) = here (rs ++ more)
follow more (held rs) = held (rs ++ more)
follow more denied = denied
follow more absent = absent

abbrev pub is_found : Found → Bool
is_found absent = false
is_found f = true

found_way : (b : Bool) (w : RuleWay) → is_found (way_found b w) ≡ true
found_way b (taking rs) = refl
found_way true (nesting rs) = refl
found_way false (nesting rs) = refl
found_way b (opening rs) = refl

way_else : (b : Bool) (w : RuleWay) (g : Found) → or_else (way_found b w) g ≡ way_found b w
way_else b (taking rs) g = refl
way_else true (nesting rs) g = refl
way_else false (nesting rs) g = refl
way_else b (opening rs) g = refl

way_follow : (b : Bool) (w : RuleWay) (more : List Rule) → way_found b
    (followed more w) ≡ follow more (way_found b w)
way_follow b (taking rs) more = refl
way_follow true (nesting rs) more = refl
way_follow false (nesting rs) more = refl
way_follow b (opening rs) more = refl

pub pick_append : (b : Bool) (xs ys : List ((Kind → Bool) × RuleWay)) (k : Kind) → pick b
    (xs ++ ys) k ≡ or_else (pick b xs k) (pick b ys k)
pick_append b [] ys k = refl
pick_append b ((p, w) ∷ xs) ys k = go (pick_append b xs ys k) (p k)
  where
    go : pick b (xs ++ ys) k ≡ or_else (pick b xs k) (pick b ys k) → (c : Bool) → if_here c
        (way_found b w) (pick b (xs ++ ys) k) ≡ or_else (if_here c (way_found b w) (pick b xs k))
        (pick b ys k)
    go again true = sym (way_else b w (pick b ys k))
    go again false = again

pub pick_follow : (b : Bool) (more : List Rule) (xs : List ((Kind → Bool) × RuleWay)) (k : Kind)
    → pick b (each_followed more xs) k ≡ follow more (pick b xs k)
pick_follow b more [] k = refl
pick_follow b more ((p, w) ∷ xs) k = go (pick_follow b more xs k) (p k)
  where
    go : pick b (each_followed more xs) k ≡ follow more (pick b xs k) → (c : Bool) → if_here c
        (way_found b (followed more w)) (pick b (each_followed more xs) k) ≡ follow more
        (if_here c (way_found b w) (pick b xs k))
    go again true = way_follow b w more
    go again false = again

found_or : (f g : Found) → is_found (or_else f g) ≡ (is_found f || is_found g)
found_or absent g = refl
found_or (here rs) g = refl
found_or (held rs) g = refl
found_or denied g = refl

found_follow : (more : List Rule) (f : Found) → is_found (follow more f) ≡ is_found f
found_follow more absent = refl
found_follow more (here rs) = refl
found_follow more (held rs) = refl
found_follow more denied = refl

or_false : (b : Bool) → (b || false) ≡ b
or_false true = refl
or_false false = refl

-- a token is found if and only if the rule begins with its kind
pub found_first : (b : Bool) (r : Rule) (k : Kind) → IsTrue (decided r) → is_found (pick b
    (branches r) k) ≡ first r k
found_first b never k d = refl
found_first b empty k d = refl
found_first b inner k d = go (expr_first k)
  where
    go : (c : Bool) → is_found (if_here c (held (inner ∷ [])) absent) ≡ c
    go true = refl
    go false = refl
found_first b (leaf_of p) k d = go (p k)
  where
    go : (c : Bool) → is_found (if_here c (here []) absent) ≡ c
    go true = refl
    go false = refl
found_first b (nested j a) k d = go (is j k)
  where
    go : (c : Bool) → is_found (if_here c (way_found b (nesting (flat a))) absent) ≡ c
    go true = found_way b (nesting (flat a))
    go false = refl
found_first b (then a c) k d =
    ap is_found (pick_append b (each_followed (flat c) (branches a)) (only_if (nullable a)
    (branches c)) k)
    ∙ found_or (pick b (each_followed (flat c) (branches a)) k) (pick b (only_if (nullable a)
    (branches c)) k)
    ∙ ap (λ x. x || is_found (pick b (only_if (nullable a) (branches c)) k)) (ap is_found
    (pick_follow b (flat c) (branches a) k)
    ∙ found_follow (flat c) (pick b (branches a) k) ∙ found_first b a k (and_first (decided a) _ d))
    ∙ go (found_first b c k (and_first (decided c) _ (and_second (decided a) _ d))) (nullable a)
  where
    go : is_found (pick b (branches c) k) ≡ first c k → (n : Bool) → (first a k || is_found
        (pick b (only_if n (branches c)) k)) ≡ joined n (first a) (first c) k
    go again true = ap (λ x. first a k || x) again
    go again false = or_false (first a k)
found_first b (either a c) k d =
    ap is_found (pick_append b (branches a) (branches c) k)
    ∙ found_or (pick b (branches a) k) (pick b (branches c) k)
    ∙ ap (λ x. x || is_found (pick b (branches c) k)) (found_first b a k (and_first
    (decided a) _ d))
    ∙ ap (λ x. first a k || x) (found_first b c k (and_first (decided c) _ (and_second
    (decided a) _ d)))
found_first b (star a) k d = ap is_found (pick_follow b (star a ∷ []) (branches a) k)
    ∙ found_follow (star a ∷ []) (pick b (branches a) k) ∙ found_first b a k (and_first
    (decided a) _ d)
found_first b (tail s x y z) k d = go (found_first b z k (and_first (decided z) _ (and_second
    (decided y) _ (and_second (decided x) _ d)))) (is s k)
  where
    go : is_found (pick b (branches z) k) ≡ first z k → (c : Bool) → is_found (if_here c (here
        (either (then x (tail s x y z)) y ∷ [])) (pick b (branches z) k)) ≡ (c || first z k)
    go again true = refl
    go again false = again
found_first b (node l a) k d = found_first b a k d
found_first b (shaped a) k d = found_first b a k d
found_first b (items a) k d = absurd cc
found_first b entity k d = absurd cc
found_first b (reference a) k d = absurd cc

-- the depth, the token and those after it
module _ (n : ℕ) (k : Kind) (ts : List Kind) where
  abbrev pub or_past : Bool → Reach
  or_past true = past (k ∷ ts)
  or_past false = stops_at (k ∷ ts)

  -- how far a rule is read, by what is found
  abbrev pub by : Bool → Found → Reach
  by m (here rs) = reads_all n rs ts
  by m (held rs) = reads_all n rs (k ∷ ts)
  by m denied = stops_at (k ∷ ts)
  by m absent = or_past m

  pub by_found : (m o : Bool) (f : Found) → is_found f ≡ true → by m f ≡ by o f
  by_found m o (here rs) e = refl
  by_found m o (held rs) e = refl
  by_found m o denied e = refl
  by_found m o absent e = absurd cc

  pub by_follow : (m o : Bool) (more : List Rule) (f : Found) → is_found f ≡ true → on (by m f)
      (reads_all n more) ≡ by o (follow more f)
  by_follow m o more (here rs) e = sym (reads_append n rs more ts)
  by_follow m o more (held rs) e = sym (reads_append n rs more (k ∷ ts))
  by_follow m o more denied e = refl
  by_follow m o more absent e = absurd cc

  pub or_else_found : (f g : Found) → is_found f ≡ true → or_else f g ≡ f
  or_else_found (here rs) g e = refl
  or_else_found (held rs) g e = refl
  or_else_found denied g e = refl
  or_else_found absent g e = absurd cc

  pub or_else_absent : (f g : Found) → is_found f ≡ false → or_else f g ≡ g
  or_else_absent absent g e = refl
  or_else_absent (here rs) g e = absurd cc
  or_else_absent (held rs) g e = absurd cc
  or_else_absent denied g e = absurd cc
