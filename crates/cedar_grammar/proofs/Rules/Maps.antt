-- Readers commute with a change of the leaves that keeps their kinds.
use Rattle.std.specs.Prelude.{◌≡◌, ℕ, zero, suc, Bool, true, false, List, [], ◌∷◌, length}
use Rattle.std.proofs.Common.{refl, sym, ap, ◌∙◌}
use Rattle.cedar_tokens.specs.declared.kind.Kind.{Kind}
use Rattle.cedar_tokens.specs.Kinds.{is, begins}
use Rattle.cedar_grammar.specs.Trees.{Label, Forest, none, leaf, branch, join}
use Rattle.cedar_grammar.specs.Trees as L
use Rattle.cedar_grammar.specs.Reader.Reading.{Answer, Reader, done, stuck, after, choice, both, skip, tree, nest, too_deep, many, repeat, token, one}
use Rattle.cedar_grammar.specs.Reader.Regroup.{gather, pick, text_first, is_access}
use Rattle.cedar_grammar.specs.Reader.Rules.{Rule, never, empty, inner, leaf_of, nested, then, either, star, tail, node, shaped, first, refuse, shaped_at, tail_to, tailed, nested_at, read, core}
use Rattle.cedar_grammar.proofs.Readers.Equations.{choice_yes, choice_no, both_first, both_fails, tree_done, tree_fails, token_yes, token_no, token_end}
use Rattle.cedar_grammar.proofs.Rules.Languages.{shaped_done, shaped_fails}
use Rattle.cedar_grammar.specs.Reader.Lines.{expr_rule, set_rule, expr_to, set_to}

module _ {A B : Type 0} (h : A → B) where
  abbrev pub each : List A → List B
  each [] = []
  each (a ∷ ts) = h a ∷ each ts

  abbrev pub relabel : Forest Label A → Forest Label B
  relabel none = none
  relabel (leaf a f) = leaf (h a) (relabel f)
  relabel (branch l f g) = branch l (relabel f) (relabel g)

  abbrev pub answer_of : Answer A → Answer B
  answer_of (done f r) = done (relabel f) (each r)
  answer_of (stuck b r) = stuck b (each r)

  pub each_length : (ts : List A) → length (each ts) ≡ length ts
  each_length [] = refl
  each_length (a ∷ ts) = ap suc (each_length ts)

  pub relabel_join : (f g : Forest Label A) → relabel (join f g) ≡ join (relabel f) (relabel g)
  relabel_join none g = refl
  relabel_join (leaf a f) g = ap (leaf (h a)) (relabel_join f g)
  relabel_join (branch l f k) g = ap (branch l (relabel f)) (relabel_join k g)

  relabel_pick : (b : Bool) (x y : Forest Label A)
      → relabel (pick b x y) ≡ pick b (relabel x) (relabel y)
  relabel_pick true x y = refl
  relabel_pick false x y = refl

  text_kept : (f : Forest Label A) → text_first (relabel f) ≡ text_first f
  text_kept none = refl
  text_kept (leaf a f) = refl
  text_kept (branch l f g) = refl

  relabel_gather : (read' f : Forest Label A)
      → relabel (gather read' f) ≡ gather (relabel read') (relabel f)
  relabel_gather r none = refl
  relabel_gather r (leaf a f) = relabel_pick (text_first f) _ _
      ∙ ap (λ z. pick (text_first f) (relabel
      (branch L.primary (branch L.ref (branch L.name r (leaf a f)) none) none)) z) (relabel_gather
      (join r (leaf a none)) f ∙ ap (λ z. gather z (relabel f)) (relabel_join r (leaf a none)))
      ∙ ap (λ b. pick b (relabel (branch L.primary (branch L.ref (branch L.name r (leaf a f)) none)
      none)) (gather (join (relabel r) (leaf (h a) none)) (relabel f))) (sym (text_kept f))
  relabel_gather r (branch l f g) = relabel_pick (is_access l) _ _
      ∙ ap (λ z.
      pick (is_access l) (relabel (branch L.primary (branch L.name r none) (branch l f g))) z)
      (relabel_gather (join r (branch l f none)) g
      ∙ ap (λ z. gather z (relabel g)) (relabel_join r (branch l f none)))

  -- The second reader does on the changed tokens what the first does.
  abbrev pub Agree : Reader A → Reader B → Type 0
  Agree P Q = (ts : List A) → Q (each ts) ≡ answer_of (P ts)

  agree_at : (P : Reader A) (Q : Reader B) → Agree P Q → (ts : List A) (a : Answer A) → P ts ≡ a
      → Q (each ts) ≡ answer_of a
  agree_at P Q p ts a e = p ts ∙ ap answer_of e

  onto_agree : (f : Forest Label A) (a : Answer A) → after (answer_of a) (λ g s.
      done (join (relabel f) g) s) ≡ answer_of (after a (λ g s. done (join f g) s))
  onto_agree f (done g s) = ap (λ z. done z (each s)) (sym (relabel_join f g))
  onto_agree f (stuck b s) = refl

  both_agree : (P P' : Reader A) (Q Q' : Reader B) → Agree P Q → Agree P' Q'
      → Agree (both P P') (both Q Q')
  both_agree P P' Q Q' p q ts = go (P ts) refl
    where
      go : (a : Answer A) → P ts ≡ a → both Q Q' (each ts) ≡ answer_of (both P P' ts)
      go (done f r) e =
          both_first Q Q' (each ts) (relabel f) (each r) (agree_at P Q p ts (done f r) e)
          ∙ ap (λ (x : Answer B). after x (λ g s. done (join (relabel f) g) s)) (q r)
          ∙ onto_agree f (P' r) ∙ ap answer_of (sym (both_first P P' ts f r e))
      go (stuck b r) e = both_fails Q Q' (each ts) b (each r) (agree_at P Q p ts (stuck b r) e)
          ∙ ap answer_of (sym (both_fails P P' ts b r e))

  tree_agree : (l : Label) (P : Reader A) (Q : Reader B) → Agree P Q → Agree (tree l P) (tree l Q)
  tree_agree l P Q p ts = go (P ts) refl
    where
      go : (a : Answer A) → P ts ≡ a → tree l Q (each ts) ≡ answer_of (tree l P ts)
      go (done f r) e =
          tree_done l Q (each ts) (relabel f) (each r) (agree_at P Q p ts (done f r) e)
          ∙ ap answer_of (sym (tree_done l P ts f r e))
      go (stuck b r) e = tree_fails l Q (each ts) b (each r) (agree_at P Q p ts (stuck b r) e)
          ∙ ap answer_of (sym (tree_fails l P ts b r e))

  shaped_agree : (P : Reader A) (Q : Reader B) → Agree P Q → Agree (shaped_at P) (shaped_at Q)
  shaped_agree P Q p ts = go (P ts) refl
    where
      go : (a : Answer A) → P ts ≡ a → shaped_at Q (each ts) ≡ answer_of (shaped_at P ts)
      go (done f r) e =
          shaped_done Q (each ts) (relabel f) (each r) (agree_at P Q p ts (done f r) e)
          ∙ ap (λ z. done z (each r)) (sym (relabel_gather none f))
          ∙ ap answer_of (sym (shaped_done P ts f r e))
      go (stuck b r) e = shaped_fails Q (each ts) b (each r) (agree_at P Q p ts (stuck b r) e)
          ∙ ap answer_of (sym (shaped_fails P ts b r e))

  choice_agree : (t : List A → Bool) (u : List B → Bool) → ((ts : List A) → u (each ts) ≡ t ts)
      → (P P' : Reader A) (Q Q' : Reader B) → Agree P Q → Agree P' Q'
      → Agree (λ ts. choice (t ts) P P' ts) (λ ts. choice (u ts) Q Q' ts)
  choice_agree t u same P P' Q Q' p q ts = go (t ts) refl
    where
      go : (b : Bool) → t ts ≡ b
          → choice (u (each ts)) Q Q' (each ts) ≡ answer_of (choice (t ts) P P' ts)
      go true e = choice_yes (u (each ts)) Q Q' (each ts) (same ts ∙ e) ∙ p ts
          ∙ ap answer_of (sym (choice_yes (t ts) P P' ts e))
      go false e = choice_no (u (each ts)) Q Q' (each ts) (same ts ∙ e) ∙ q ts
          ∙ ap answer_of (sym (choice_no (t ts) P P' ts e))

  many_agree : (t : List A → Bool) (u : List B → Bool) → ((ts : List A) → u (each ts) ≡ t ts)
      → (P : Reader A) (Q : Reader B) → Agree P Q → (n : ℕ) → Agree (many t P n) (many u Q n)
  unfolding many
  many_agree t u same P Q p zero ts = refl
  many_agree t u same P Q p (suc n) ts =
      choice_agree t u same (both P (many t P n)) skip (both Q (many u Q n)) skip
      (both_agree P (many t P n) Q (many u Q n) p (many_agree t u same P Q p n)) (λ ts. refl) ts

  repeat_agree : (t : List A → Bool) (u : List B → Bool) → ((ts : List A) → u (each ts) ≡ t ts)
      → (P : Reader A) (Q : Reader B) → Agree P Q → Agree (repeat t P) (repeat u Q)
  unfolding repeat
  repeat_agree t u same P Q p ts = ap (λ n. many u Q (suc n) (each ts)) (each_length ts)
      ∙ many_agree t u same P Q p (suc (length ts)) ts

  nest_agree : (room : Bool) (P : Reader A) (Q : Reader B) → Agree P Q
      → Agree (nest room P) (nest room Q)
  unfolding nest
  nest_agree room P Q p ts =
      choice_agree (λ _. room) (λ _. room) (λ _. refl) P too_deep Q too_deep p (λ ts. refl) ts

  module _ (kind : A → Kind) (kind' : B → Kind) (same : (a : A) → kind' (h a) ≡ kind a) where
    begins_agree : (p : Kind → Bool) (ts : List A) → begins kind' p (each ts) ≡ begins kind p ts
    begins_agree p [] = refl
    begins_agree p (a ∷ ts) = ap p (same a)

    token_agree : (p : Kind → Bool) → Agree (token kind p) (token kind' p)
    token_agree p [] = token_end kind' p ∙ ap answer_of (sym (token_end kind p))
    token_agree p (a ∷ ts) = go (p (kind a)) refl
      where
        go : (b : Bool) → p (kind a) ≡ b
            → token kind' p (each (a ∷ ts)) ≡ answer_of (token kind p (a ∷ ts))
        go true e = token_yes kind' p (h a) (each ts) (ap p (same a) ∙ e)
            ∙ ap answer_of (sym (token_yes kind p a ts e))
        go false e = token_no kind' p (h a) (each ts) (ap p (same a) ∙ e)
            ∙ ap answer_of (sym (token_no kind p a ts e))

    nested_agree : (room : Bool) (k : Kind) (P : Reader A) (Q : Reader B) → Agree P Q
        → Agree (nested_at kind room k P) (nested_at kind' room k Q)
    nested_agree room k P Q p = choice_agree (begins kind (is k)) (begins kind' (is k))
        (begins_agree (is k)) _ refuse _ refuse
        (nest_agree room _ _ (both_agree (one kind k) P (one kind' k) Q (token_agree (is k)) p))
        (λ ts. refl)

    tail_agree : (s : Kind) (u : Kind → Bool) (P P' P'' : Reader A) (Q Q' Q'' : Reader B)
        → Agree P Q → Agree P' Q' → Agree P'' Q'' → (n : ℕ)
        → Agree (tail_to kind s u P P' P'' n) (tail_to kind' s u Q Q' Q'' n)
    tail_agree s u P P' P'' Q Q' Q'' p q r zero ts = r ts
    tail_agree s u P P' P'' Q Q' Q'' p q r (suc n) ts =
        choice_agree (begins kind (is s)) (begins kind' (is s)) (begins_agree (is s)) _ P'' _ Q''
        (both_agree (one kind s)
        (λ rs. choice (begins kind u rs) (both P (tail_to kind s u P P' P'' n)) P' rs) (one kind' s)
        (λ rs. choice (begins kind' u rs) (both Q (tail_to kind' s u Q Q' Q'' n)) Q' rs)
        (token_agree (is s))
        (choice_agree (begins kind u) (begins kind' u) (begins_agree u) _ P' _ Q'
        (both_agree P _ Q _ p (tail_agree s u P P' P'' Q Q' Q'' p q r n)) q)) r ts

    tailed_agree : (s : Kind) (u : Kind → Bool) (P P' P'' : Reader A) (Q Q' Q'' : Reader B)
        → Agree P Q → Agree P' Q' → Agree P'' Q''
        → Agree (tailed kind s u P P' P'') (tailed kind' s u Q Q' Q'')
    unfolding tailed
    tailed_agree s u P P' P'' Q Q' Q'' p q r ts =
        ap (λ n. tail_to kind' s u Q Q' Q'' (suc n) (each ts)) (each_length ts)
        ∙ tail_agree s u P P' P'' Q Q' Q'' p q r (suc (length ts)) ts

    module _ (room : Bool) (E : Reader A) (F : Reader B) (e : Agree E F) where
      pub read_agree : (R : Rule) → Agree (read kind room E R) (read kind' room F R)
      read_agree never = λ ts. refl
      read_agree empty = λ ts. refl
      read_agree inner = e
      read_agree (leaf_of p) = token_agree p
      read_agree (nested k a) = nested_agree room k _ _ (read_agree a)
      read_agree (then a b) = both_agree _ _ _ _ (read_agree a) (read_agree b)
      read_agree (either a b) = choice_agree (begins kind (first a)) (begins kind' (first a))
          (begins_agree (first a)) _ _ _ _ (read_agree a) (read_agree b)
      read_agree (star a) = repeat_agree (begins kind (first a)) (begins kind' (first a))
          (begins_agree (first a)) _ _ (read_agree a)
      read_agree (tail s x y z) =
          tailed_agree s (first x) _ _ _ _ _ _ (read_agree x) (read_agree y) (read_agree z)
      read_agree (node l a) = tree_agree l _ _ (read_agree a)
      read_agree (shaped a) = shaped_agree (read kind room E a) (read kind' room F a) (read_agree a)
      read_agree R = λ ts. refl

    pub expr_agrees : (d : ℕ) → Agree (expr_to kind d) (expr_to kind' d)
    expr_agrees zero = read_agree false too_deep too_deep (λ ts. refl) (core expr_rule)
    expr_agrees (suc d) =
        read_agree true (expr_to kind d) (expr_to kind' d) (expr_agrees d) (core expr_rule)

    -- The reader of policy sets gives the same answer for the changed tokens.
    pub set_agrees : (d : ℕ) → Agree (set_to kind d) (set_to kind' d)
    set_agrees d =
        read_agree true (expr_to kind d) (expr_to kind' d) (expr_agrees d) (core set_rule)
