-- A policy: what reads it, and what stands for it.
use Rattle.std.specs.Prelude.{◌≡◌, ℕ, suc, Bool, true, false, List, [], ◌∷◌, ◌⊎◌, length, Result, Ok, Err, Some, Vec, codes}
use Rattle.std.specs.declared.alloc.Global.{Global}
use Rattle.std.specs.Borrow.{Bor}
use Rattle.std.proofs.Common.{refl, sym, ap, ◌∙◌, inl, inr}
use Rattle.cedar_tokens.specs.declared.token.Span.{Span}
use Rattle.cedar_tokens.specs.declared.kind.Kind.{Kind}
use Rattle.cedar_tokens.specs.declared.kind.Kind.TheVariants as K
use Rattle.cedar_tokens.specs.Kinds.{is, begins, is_effect}
use Rattle.cedar_grammar.specs.Trees.{Label, Forest, none, leaf, branch, join}
use Rattle.cedar_grammar.specs.TrailingCommas.{closes_next}
use Rattle.cedar_grammar.specs.Reader.Reading.{Answer, Reader, done, stuck, after, choice, both, skip, tree, one, many, repeat}
use Rattle.cedar_grammar.specs.Reader.Rules.{star, word_of, read, core}
use Rattle.cedar_grammar.specs.Reader.Lines.{annotation_rule, scoped, action, cond_rule}
use Rattle.cedar_grammar.proofs.Readers.Equations.{both_first, both_done, both_fails, both_then_fails, tree_done, tree_fails, many_step, many_fails, many_end}
use Rattle.cedar_grammar.specs.Erased.{Erased, ident_tree, annotation_trees, cond_trees, policy_parts, policy_trees, annotation_parts, cond_parts, variable_parts}
use Rattle.cedar_grammar.specs.NodeTrees.{span_of}
use Rattle.cedar_reading.specs.Reading.{kind, flat, Fails, Stands, StandsMany, GivesMany, FollowedBy, node_trees, ident_parts}
use Rattle.cedar_reading.specs.ReadingParts.{scope_rule}
use Rattle.cedar_grammar.specs.NodeLists.{item_trees}
use Rattle.cedar_reading.specs.Lexemes.{lexeme_nodes}
use Rattle.cedar_reading.specs.declared.lexeme.Lexeme.{Lexeme}
use Rattle.cedar_reading.specs.declared.reading.Refusal.{Refusal}
use Rattle.cedar_grammar.specs.declared.tree.Node.{Node}
use Rattle.cedar_grammar.specs.declared.tree.Annotation.{Annotation}
use Rattle.cedar_grammar.specs.declared.tree.Cond.{Cond}
use Rattle.cedar_grammar.specs.declared.tree.Policy.{Policy}
use Rattle.cedar_reading.proofs.LeafTexts.{Covers, kept, from_to}
use Rattle.cedar_reading.proofs.Rows.{row_token, row_nodes, row_parts, row_join, many_join, closes_join, no_closing}
use Rattle.cedar_reading.proofs.Steps.{passes}
use Rattle.cedar_cst.proofs.Scopes.{both_assoc, closing, first_on, second_on, third_on, scope_reader}

-- Nodes in a row, and the token that closes them.
module _ {X : Type 0} (l : Label) (parts : X → Erased) (k : Kind) (P : Reader Lexeme)
    (ts : List Lexeme) where
  pub many_followed_fails : (read : Result (Vec (Node X) Global × Bor (List Lexeme)) Refusal)
      (e : Refusal) → GivesMany l parts read (P ts) → FollowedBy k read (Err e)
      → Fails e (both P (one kind k) ts)
  many_followed_fails (Ok x) e g c = passes e (one kind k x.1.now) _ c
      (λ b r i. both_then_fails P (one kind k) ts g.0 x.1.now b r g.1 i)
  many_followed_fails (Err f) e g c =
      rw c (passes f (P ts) _ g (λ b r i. both_fails P (one kind k) ts b r i))

  pub many_followed_done : (read : Result (Vec (Node X) Global × Bor (List Lexeme)) Refusal)
      (y : (Vec (Node X) Global × ℕ) × Bor (List Lexeme)) → GivesMany l parts read (P ts)
      → FollowedBy k read (Ok y)
      → (f : Forest Label Lexeme) × (t : Lexeme) × (middle : List Lexeme) × (P ts ≡ done f middle)
      × (both P (one kind k) ts ≡ done (join f (leaf t none)) y.1.now) × (t.kind ≡ k)
      × StandsMany (node_trees l parts y.0.0.items) f × (y.0.1 ≡ t.span.end)
  many_followed_done (Ok x) y g c = (
    g.0,
    c.1,
    x.1.now,
    g.1,
    both_done P (one kind k) ts g.0 x.1.now (leaf c.1 none) y.1.now g.1 c.2,
    c.3,
    rw c.0 g.2,
    c.4,
  )
  many_followed_done (Err f) y g c = absurd c

-- A row of nodes does not begin with a closing bracket.
opens_turn : (t : List Lexeme → Bool) (l : Label) (P : Reader Lexeme) (n : ℕ) (ts : List Lexeme)
    (f : Forest Label Lexeme) (r : List Lexeme) → (b : Bool) → t ts ≡ b → (a : Answer Lexeme)
    → P ts ≡ a
    → ((s : List Lexeme) → (x : Answer Lexeme) × (many t (tree l P) n s ≡ x))
    → many t (tree l P) (suc n) ts ≡ done f r → closes_next kind f ≡ false
opens_turn t l P n ts f r false h a i w e =
    let q = many_end t (tree l P) (suc n) ts h in
    let same : f ≡ none = cc in
    rw same refl
opens_turn t l P n ts f r true h (stuck b s) i w e =
    let q = many_fails t (tree l P) n ts b s h (tree_fails l P ts b s i) in absurd cc
opens_turn t l P n ts f r true h (done g s) i w e = go (w s).0 (w s).1
  where
    go : (x : Answer Lexeme) → many t (tree l P) n s ≡ x → closes_next kind f ≡ false
    go (done k u) m =
        let q = many_step t (tree l P) n ts (branch l g none) s h (tree_done l P ts g s i)
        ∙ ap (λ (x : Answer Lexeme). after x (λ k u. done (join (branch l g none) k) u)) m in
        let same : f ≡ branch l g k = cc in rw same refl
    go (stuck b u) m =
        let q = many_step t (tree l P) n ts (branch l g none) s h (tree_done l P ts g s i)
        ∙ ap (λ (x : Answer Lexeme). after x (λ k u. done (join (branch l g none) k) u)) m in
        absurd cc

pub repeat_opens : (t : List Lexeme → Bool) (l : Label) (P : Reader Lexeme) (ts : List Lexeme)
    (f : Forest Label Lexeme) (r : List Lexeme) → repeat t (tree l P) ts ≡ done f r
    → closes_next kind f ≡ false
unfolding repeat
repeat_opens t l P ts f r e = opens_turn t l P (length ts) ts f r (t ts) refl (P ts) refl
    (λ s. (many t (tree l P) (length ts) s, refl)) e

-- The scope as one reader, and what follows it.
both_same : (P X Y : Reader Lexeme) → ((r : List Lexeme) → X r ≡ Y r) → (ts : List Lexeme)
    → both P X ts ≡ both P Y ts
both_same P X Y h ts = go (P ts) refl
  where
    go : (a : Answer Lexeme) → P ts ≡ a → both P X ts ≡ both P Y ts
    go (done f r) e = both_first P X ts f r e
        ∙ ap (λ (x : Answer Lexeme). after x (λ g s. done (join f g) s)) (h r)
        ∙ sym (both_first P Y ts f r e)
    go (stuck b r) e = both_fails P X ts b r e ∙ sym (both_fails P Y ts b r e)

through : (P X Q C : Reader Lexeme) → ((r : List Lexeme) → X r ≡ both Q C r) → (ts : List Lexeme)
    → both P X ts ≡ both (both P Q) C ts
through P X Q C h ts = both_same P X (both Q C) h ts ∙ both_assoc P Q C ts

abbrev comma : Reader Lexeme
comma = one kind K.Comma

abbrev maybe_comma : Reader Lexeme
maybe_comma ts = choice (begins kind (is K.Comma) ts) comma skip ts

module _ (U A V C : Reader Lexeme) where
  abbrev last_then : Reader Lexeme
  last_then = both V (both maybe_comma (both (one kind K.RParen) C))

  abbrev action_then : Reader Lexeme
  action_then = both A (both comma last_then)

  abbrev first_then : Reader Lexeme
  first_then = both U (both comma action_then)

  last_regroups : (ts : List Lexeme) → last_then ts ≡ both (third_on U A V) C ts
  last_regroups = through V (both maybe_comma (both (one kind K.RParen) C)) closing C
      (both_assoc maybe_comma (one kind K.RParen) C)

  action_regroups : (ts : List Lexeme) → action_then ts ≡ both (second_on U A V) C ts
  action_regroups = through A (both comma last_then) (both comma (third_on U A V)) C
      (through comma last_then (third_on U A V) C last_regroups)

  first_regroups : (ts : List Lexeme) → first_then ts ≡ both (first_on U A V) C ts
  first_regroups = through U (both comma action_then) (both comma (second_on U A V)) C
      (through comma action_then (second_on U A V) C action_regroups)

  pub scope_regroups : (ts : List Lexeme)
      → both (one kind K.LParen) first_then ts ≡ both (scope_reader U A V) C ts
  scope_regroups = through (one kind K.LParen) first_then (first_on U A V) C first_regroups

abbrev pub annotations_reader : Reader Lexeme
annotations_reader = flat (star annotation_rule)

abbrev pub effect_reader : Reader Lexeme
effect_reader = flat (word_of is_effect)

abbrev principal_reader : Reader Lexeme
principal_reader = flat (scoped K.Principal K.PrincipalSlot)

abbrev action_reader : Reader Lexeme
action_reader = flat action

abbrev resource_reader : Reader Lexeme
resource_reader = flat (scoped K.Resource K.ResourceSlot)

-- E reads an expression of a condition
module _ (E : Reader Lexeme) where
  abbrev pub conds_reader : Reader Lexeme
  conds_reader = read kind true E (core (star cond_rule))

  abbrev pub ending : Reader Lexeme
  ending = both conds_reader (one kind K.SemiColon)

  abbrev scoped_then : Reader Lexeme
  scoped_then =
      both (one kind K.LParen) (first_then principal_reader action_reader resource_reader ending)

  abbrev effect_then : Reader Lexeme
  effect_then = both effect_reader scoped_then

  abbrev pub policy_reader : Reader Lexeme
  policy_reader = tree Label.policy (both annotations_reader effect_then)

  scope_then : (ts : List Lexeme) → scoped_then ts ≡ both (flat scope_rule) ending ts
  scope_then = scope_regroups principal_reader action_reader resource_reader ending

  pub annotations_fail : (ts : List Lexeme) (b : Bool) (s : List Lexeme)
      → annotations_reader ts ≡ stuck b s → policy_reader ts ≡ stuck b s
  annotations_fail ts b s e =
      tree_fails Label.policy _ ts b s (both_fails annotations_reader effect_then ts b s e)

  pub effect_fails : (ts one : List Lexeme) (f : Forest Label Lexeme) (b : Bool) (s : List Lexeme)
      → annotations_reader ts ≡ done f one → effect_reader one ≡ stuck b s
      → policy_reader ts ≡ stuck b s
  effect_fails ts one f b s e i =
      tree_fails Label.policy _ ts b s (both_then_fails annotations_reader effect_then ts f one b s
      e (both_fails effect_reader scoped_then one b s i))

  then_fails : (ts one two : List Lexeme) (f g : Forest Label Lexeme) (b : Bool) (s : List Lexeme)
      → annotations_reader ts ≡ done f one → effect_reader one ≡ done g two
      → both (flat scope_rule) ending two ≡ stuck b s → policy_reader ts ≡ stuck b s
  then_fails ts one two f g b s e i j =
      tree_fails Label.policy _ ts b s (both_then_fails annotations_reader effect_then ts f one b s
      e (both_then_fails effect_reader scoped_then one g two b s i (scope_then two ∙ j)))

  pub scope_fails : (ts one two : List Lexeme) (f g : Forest Label Lexeme) (b : Bool)
      (s : List Lexeme) → annotations_reader ts ≡ done f one → effect_reader one ≡ done g two
      → flat scope_rule two ≡ stuck b s → policy_reader ts ≡ stuck b s
  scope_fails ts one two f g b s e i j =
      then_fails ts one two f g b s e i (both_fails (flat scope_rule) ending two b s j)

  pub ending_fails : (ts one two three : List Lexeme) (f g h : Forest Label Lexeme) (b : Bool)
      (s : List Lexeme) → annotations_reader ts ≡ done f one → effect_reader one ≡ done g two
      → flat scope_rule two ≡ done h three → ending three ≡ stuck b s → policy_reader ts ≡ stuck b s
  ending_fails ts one two three f g h b s e i j k = then_fails ts one two f g b s e i
      (both_then_fails (flat scope_rule) ending two h three b s j k)

  pub policy_done : (ts one two three s : List Lexeme) (f g h k : Forest Label Lexeme)
      → annotations_reader ts ≡ done f one
      → effect_reader one ≡ done (branch Label.ident g none) two
      → flat scope_rule two ≡ done h three → ending three ≡ done k s
      → policy_reader ts
      ≡ done (branch Label.policy (join f (branch Label.ident g (join h k))) none) s
  policy_done ts one two three s f g h k e i j m =
      tree_done Label.policy _ ts _ s (both_done annotations_reader effect_then ts f one _ s e
      (both_done effect_reader scoped_then one (branch Label.ident g none) two (join h k) s i
      (scope_then two ∙ both_done (flat scope_rule) ending two h three k s j m)))

-- What stands for a policy.
annotation_row : (ns : List (Node Annotation)) (z : Erased)
    → annotation_trees ns z ≡ join (node_trees Label.annotation annotation_parts ns) z
annotation_row [] z = refl
annotation_row (n ∷ ns) z =
    ap (branch (Label.annotation, Some n.span) (annotation_parts n.inner)) (annotation_row ns z)

cond_row : (ns : List (Node Cond)) (z : Erased)
    → cond_trees ns z ≡ join (node_trees Label.condition cond_parts ns) z
cond_row [] z = refl
cond_row (n ∷ ns) z =
    ap (branch (Label.condition, Some n.span) (cond_parts n.inner)) (cond_row ns z)

-- a row of nodes, possibly empty, before another row
many_row : (u : Span) (p q : Erased) (f g : Forest Label Lexeme) → closes_next kind g ≡ false
    → StandsMany p f → Stands u q g → (s : Span) × (s.end ≡ u.end) × Stands s (join p q) (join f g)
many_row u p q f g h a b = go a.place
  where
    go : (f ≡ none) ⊎ ((s : Span) × Covers s (kept f))
        → (s : Span) × (s.end ≡ u.end) × Stands s (join p q) (join f g)
    go (inl e) = (
      u,
      refl,
      record {
        same = (many_join u p q f g h a b).same;
        place = ap (λ z. span_of (λ (l : Lexeme). l.text.now) (λ (l : Lexeme). l.span)
            (kept (join z g))) e ∙ b.place;
      },
    )
    go (inr (s, c)) =
        let k = row_join s u (lexeme_nodes f) q f g h (record { same = λ r. refl; place = c }) b in
        (from_to s u, refl, record { same = (many_join u p q f g h a b).same; place = k.place })

abbrev scope_row : Policy → Erased
scope_row p = leaf (codes "(") (join (item_trees Label.variable variable_parts
    (p.variables.0 ∷ p.variables.1 ∷ p.variables.2 ∷ [])) (leaf (codes ")") none))

policy_row : (p : Policy) → policy_parts p ≡ join (node_trees Label.annotation annotation_parts
    p.annotations.items) (ident_tree p.effect (join (scope_row p)
    (join (node_trees Label.condition cond_parts p.conds.items) (leaf (codes ";") none))))
policy_row p = annotation_row p.annotations.items _
    ∙ ap (λ z. join (node_trees Label.annotation annotation_parts p.annotations.items)
    (ident_tree p.effect (join (scope_row p) z))) (cond_row p.conds.items (leaf (codes ";") none))

pub policy_stands : (p : Policy) (s : Span) (f g h k : Forest Label Lexeme) (t : Lexeme)
    → StandsMany (node_trees Label.annotation annotation_parts p.annotations.items) f
    → Stands p.effect.span (ident_parts p.effect.inner) g → Stands s (scope_row p) h
    → StandsMany (node_trees Label.condition cond_parts p.conds.items) k
    → closes_next kind k ≡ false → t.kind ≡ K.SemiColon
    → (u : Span) × (u.end ≡ t.span.end)
    × Stands u (policy_parts p) (join f (branch Label.ident g (join h (join k (leaf t none)))))
policy_stands p s f g h k t a e v c o i =
    let d = many_row t.span _ _ k (leaf t none) (no_closing t K.SemiColon i refl) c
    (row_token t K.SemiColon i refl refl) in
    let m = row_join s d.0 _ _ h (join k (leaf t none))
    (closes_join k (leaf t none) (no_closing t K.SemiColon i refl) ∙ o) v d.2 in
    let n = row_nodes Label.ident p.effect.span _ _ _ g _ refl e m in
    let w = many_row _ _ _ f (branch Label.ident g (join h (join k (leaf t none)))) refl a n in
    (w.0, w.1 ∙ d.1, row_parts w.0 _ _ _ (policy_row p) w.2)

-- Policies in a row.
pub policies_row : (ns : List (Node Policy))
    → policy_trees ns ≡ node_trees Label.policy policy_parts ns
policies_row [] = refl
policies_row (n ∷ ns) =
    ap (branch (Label.policy, Some n.span) (policy_parts n.inner)) (policies_row ns)

pub span_ends : (s : Span) (a b : ℕ) → a ≡ s.start → s.end ≡ b → s ≡ record { start = a; end = b }
span_ends s a b h k =
    ap (λ z. record { start = z; end = s.end }) (sym h) ∙ ap (λ z. record { start = a; end = z }) k
