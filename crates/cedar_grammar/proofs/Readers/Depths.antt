-- With more room a reader does the same, except that it goes on where it failed only by depth.
use Rattle.std.specs.Prelude.{◌≡◌, ℕ, zero, suc, ◌<◌, Bool, true, false, List, [], ◌∷◌, length}
use Rattle.std.proofs.Common.{refl, sym, ap, ◌∙◌, arith, length-append, subst}
use Rattle.cedar_tokens.specs.declared.kind.Kind.{Kind}
use Rattle.cedar_grammar.specs.Trees.{Label, Forest, yield}
use Rattle.cedar_grammar.specs.Reader.Reading.{Answer, Reader, done, stuck, choice, both, skip, tree, nest, too_deep, many, repeat, token}
use Rattle.cedar_tokens.specs.Kinds.{begins}
use Rattle.cedar_grammar.proofs.Readers.Equations.{choice_yes, choice_no, both_done, both_fails, both_then_fails, tree_done, tree_fails, token_yes, token_no, token_end, token_begins}
use Rattle.cedar_grammar.proofs.Readers.Places.{Local}

module _ {A : Type 0} where
  -- fewer than n tokens are left, after a success or from the failing one on
  abbrev pub Beyond : Answer A → ℕ → Type 0
  Beyond (done f s) n = length s < n
  Beyond (stuck b s) n = length s < n

  pub local_beyond : (P : Reader A) → Local P → (ts : List A) → Beyond (P ts) (suc (length ts))
  local_beyond P p ts = go (P ts) refl
    where
      go : (a : Answer A) → P ts ≡ a → Beyond a (suc (length ts))
      go (done f r) e =
          let x = ap length (p.success ts f r e).tokens ∙ length-append (yield f) r in
          omega (arith, x)
      go (stuck b r) e =
          let k = p.failure ts b r e in
          let x = ap length k.tokens ∙ length-append k.front r in
          omega (arith, x)

  pub record DeeperAt (P Q : Reader A) (ts : List A) : Type 0 where
    pub success : (f : Forest Label A) (r : List A) → P ts ≡ done f r → Q ts ≡ done f r
    pub plain : (r : List A) → P ts ≡ stuck false r → Q ts ≡ stuck false r
    pub deep : (r : List A) → P ts ≡ stuck true r → Beyond (Q ts) (length r)

  abbrev pub Deeper : Reader A → Reader A → Type 0
  Deeper P Q = (ts : List A) → DeeperAt P Q ts

  both_beyond : (P Q : Reader A) → Local Q → (ts : List A) (n : ℕ) → Beyond (P ts) n
      → Beyond (both P Q ts) n
  both_beyond P Q q ts n h = go (P ts) refl h
    where
      after_first : (g : Forest Label A) (s : List A) → P ts ≡ done g s → length s < n
          → (a : Answer A) → Q s ≡ a → Beyond a (suc (length s)) → Beyond (both P Q ts) n
      after_first g s d h (done i u) k b =
          subst (λ x. Beyond x n) (sym (both_done P Q ts g s i u d k))
          (let y : length u < suc (length s) = b in let z : length u < n = omega arith in z)
      after_first g s d h (stuck c u) k b =
          subst (λ x. Beyond x n) (sym (both_then_fails P Q ts g s c u d k))
          (let y : length u < suc (length s) = b in let z : length u < n = omega arith in z)

      go : (a : Answer A) → P ts ≡ a → Beyond (P ts) n → Beyond (both P Q ts) n
      go (done g s) d h = after_first g s d
          (let x = subst (λ x. Beyond x n) d h in x) (Q s) refl (local_beyond Q q s)
      go (stuck c s) d h =
          subst (λ x. Beyond x n) (sym (both_fails P Q ts c s d)) (subst (λ x. Beyond x n) d h)

  both_beyond_second : (P Q : Reader A) (ts : List A) (g : Forest Label A) (s : List A) (n : ℕ)
      → P ts ≡ done g s → Beyond (Q s) n → Beyond (both P Q ts) n
  both_beyond_second P Q ts g s n d h = go (Q s) refl h
    where
      go : (a : Answer A) → Q s ≡ a → Beyond (Q s) n → Beyond (both P Q ts) n
      go (done i u) k h =
          subst (λ x. Beyond x n) (sym (both_done P Q ts g s i u d k)) (subst (λ x. Beyond x n) k h)
      go (stuck c u) k h = subst (λ x. Beyond x n) (sym (both_then_fails P Q ts g s c u d k))
          (subst (λ x. Beyond x n) k h)

  pub both_deeper : (P Q P' Q' : Reader A) → Deeper P P' → Deeper Q Q' → Local Q'
      → Deeper (both P Q) (both P' Q')
  both_deeper P Q P' Q' p q l ts = go (P ts) refl
    where
      inner : (g : Forest Label A) (s : List A) → P ts ≡ done g s → (c : Answer A) → Q s ≡ c
          → DeeperAt (both P Q) (both P' Q') ts
      inner g s d (done h u) k =
          let w = both_done P Q ts g s h u d k in
          let w' = both_done P' Q' ts g s h u ((p ts).success g s d) ((q s).success h u k) in
          record {
            success = λ f r e. w' ∙ sym w ∙ e;
            plain = λ r e. absurd cc;
            deep = λ r e. absurd cc;
          }
      inner g s d (stuck false u) k =
          let w = both_then_fails P Q ts g s false u d k in
          let w' = both_then_fails P' Q' ts g s false u ((p ts).success g s d) ((q s).plain u k) in
          record {
            success = λ f r e. absurd cc;
            plain = λ r e. w' ∙ sym w ∙ e;
            deep = λ r e. absurd cc;
          }
      inner g s d (stuck true u) k =
          let w = both_then_fails P Q ts g s true u d k in
          record {
            success = λ f r e. absurd cc;
            plain = λ r e. absurd cc;
            deep = λ r e. let same : u ≡ r = cc in
                both_beyond_second P' Q' ts g s (length r) ((p ts).success g s d)
                (subst (λ x. Beyond (Q' s) (length x)) same ((q s).deep u k));
          }

      go : (a : Answer A) → P ts ≡ a → DeeperAt (both P Q) (both P' Q') ts
      go (done g s) d = inner g s d (Q s) refl
      go (stuck false s) d =
          let w = both_fails P Q ts false s d in
          let w' = both_fails P' Q' ts false s ((p ts).plain s d) in
          record {
            success = λ f r e. absurd cc;
            plain = λ r e. w' ∙ sym w ∙ e;
            deep = λ r e. absurd cc;
          }
      go (stuck true s) d =
          let w = both_fails P Q ts true s d in
          record {
            success = λ f r e. absurd cc;
            plain = λ r e. absurd cc;
            deep = λ r e. let same : s ≡ r = cc in both_beyond P' Q' l ts (length r)
                (subst (λ x. Beyond (P' ts) (length x)) same ((p ts).deep s d));
          }

  tree_beyond : (l : Label) (P : Reader A) (ts : List A) (n : ℕ) → Beyond (P ts) n
      → Beyond (tree l P ts) n
  tree_beyond l P ts n h = go (P ts) refl h
    where
      go : (a : Answer A) → P ts ≡ a → Beyond (P ts) n → Beyond (tree l P ts) n
      go (done g s) d h =
          subst (λ x. Beyond x n) (sym (tree_done l P ts g s d)) (subst (λ x. Beyond x n) d h)
      go (stuck c s) d h =
          subst (λ x. Beyond x n) (sym (tree_fails l P ts c s d)) (subst (λ x. Beyond x n) d h)

  pub tree_deeper : (l : Label) (P Q : Reader A) (ts : List A) → DeeperAt P Q ts
      → DeeperAt (tree l P) (tree l Q) ts
  tree_deeper l P Q ts p = go (P ts) refl
    where
      go : (a : Answer A) → P ts ≡ a → DeeperAt (tree l P) (tree l Q) ts
      go (done g s) d =
          let w = tree_done l P ts g s d in
          let w' = tree_done l Q ts g s (p.success g s d) in
          record {
            success = λ f r e. w' ∙ sym w ∙ e;
            plain = λ r e. absurd cc;
            deep = λ r e. absurd cc;
          }
      go (stuck false s) d =
          let w = tree_fails l P ts false s d in
          let w' = tree_fails l Q ts false s (p.plain s d) in
          record {
            success = λ f r e. absurd cc;
            plain = λ r e. w' ∙ sym w ∙ e;
            deep = λ r e. absurd cc;
          }
      go (stuck true s) d =
          let w = tree_fails l P ts true s d in
          record {
            success = λ f r e. absurd cc;
            plain = λ r e. absurd cc;
            deep = λ r e. let same : s ≡ r = cc in tree_beyond l Q ts (length r)
                (subst (λ x. Beyond (Q ts) (length x)) same (p.deep s d));
          }

  moved : (P Q P' Q' : Reader A) (ts : List A) → P' ts ≡ P ts → Q' ts ≡ Q ts → DeeperAt P Q ts
      → DeeperAt P' Q' ts
  moved P Q P' Q' ts e d p = record {
    success = λ f r h. d ∙ p.success f r (sym e ∙ h);
    plain = λ r h. d ∙ p.plain r (sym e ∙ h);
    deep = λ r h. subst (λ x. Beyond x (length r)) (sym d) (p.deep r (sym e ∙ h));
  }

  pub choice_deeper : (t : List A → Bool) (P Q P' Q' : Reader A)
      → ((ts : List A) → t ts ≡ true → DeeperAt P P' ts) → Deeper Q Q'
      → Deeper (λ ts. choice (t ts) P Q ts) (λ ts. choice (t ts) P' Q' ts)
  choice_deeper t P Q P' Q' p q ts = go (t ts) refl
    where
      go : (b : Bool) → t ts ≡ b
          → DeeperAt (λ ts. choice (t ts) P Q ts) (λ ts. choice (t ts) P' Q' ts) ts
      go true h = moved P P' (λ ts. choice (t ts) P Q ts) (λ ts. choice (t ts) P' Q' ts) ts
          (choice_yes (t ts) P Q ts h) (choice_yes (t ts) P' Q' ts h) (p ts h)
      go false h = moved Q Q' (λ ts. choice (t ts) P Q ts) (λ ts. choice (t ts) P' Q' ts) ts
          (choice_no (t ts) P Q ts h) (choice_no (t ts) P' Q' ts h) (q ts)

  -- where there was no room and now there is
  pub nest_opens : (P Q : Reader A) (ts : List A) → Beyond (Q ts) (length ts)
      → DeeperAt (nest false P) (nest true Q) ts
  unfolding nest
  nest_opens P Q ts h =
      let w = choice_no false P too_deep ts refl in
      let w' = choice_yes true Q too_deep ts refl in
      record {
        success = λ f r e. absurd cc;
        plain = λ r e. absurd cc;
        deep = λ r e. let same : ts ≡ r = cc in subst (λ x. Beyond x (length r)) (sym w')
            (subst (λ x. Beyond (Q ts) (length x)) same h);
      }

  pub nest_stays : (P Q : Reader A) (ts : List A) → DeeperAt P Q ts
      → DeeperAt (nest true P) (nest true Q) ts
  unfolding nest
  nest_stays P Q ts p = moved P Q (nest true P) (nest true Q) ts
      (choice_yes true P too_deep ts refl) (choice_yes true Q too_deep ts refl) p

  skip_deeper : Deeper skip (skip {A = A})
  skip_deeper ts =
      record { success = λ f r e. e; plain = λ r e. absurd cc; deep = λ r e. absurd cc }

  many_deeper : (t : List A → Bool) (P Q : Reader A) → Deeper P Q → ((n : ℕ) → Local (many t Q n))
      → (n : ℕ) → Deeper (many t P n) (many t Q n)
  unfolding many
  many_deeper t P Q p l zero ts =
      record { success = λ f r e. e; plain = λ r e. absurd cc; deep = λ r e. absurd cc }
  many_deeper t P Q p l (suc n) ts =
      choice_deeper t (both P (many t P n)) skip (both Q (many t Q n)) skip
      (λ ts _. both_deeper P (many t P n) Q (many t Q n) p (many_deeper t P Q p l n) (l n) ts)
      skip_deeper ts

  pub repeat_deeper : (t : List A → Bool) (P Q : Reader A) → Deeper P Q
      → ((n : ℕ) → Local (many t Q n)) → Deeper (repeat t P) (repeat t Q)
  unfolding repeat
  repeat_deeper t P Q p l ts =
      let x = many_deeper t P Q p l (suc (length ts)) ts in
      record { success = x.success; plain = x.plain; deep = x.deep }

module _ {A : Type 0} (kind : A → Kind) where
  pub token_deeper : (p : Kind → Bool) → Deeper (token kind p) (token kind p)
  token_deeper p ts =
      record { success = λ f r e. e; plain = λ r e. e; deep = λ r e. absurd (never ts r e) }
    where
      never : (ts r : List A) → token kind p ts ≡ stuck true r → ⊥
      never [] r e = let d = token_end kind p in cc
      never (a ∷ ts) r e = go (p (kind a)) refl
        where
          go : (b : Bool) → p (kind a) ≡ b → ⊥
          go true h = let d = token_yes kind p a ts h in cc
          go false h = let d = token_no kind p a ts h in cc

  -- a construct that begins with a present token reads past it
  pub opening_beyond : (p : Kind → Bool) (Q : Reader A) → Local Q → (ts : List A)
      → begins kind p ts ≡ true → Beyond (both (token kind p) Q ts) (length ts)
  opening_beyond p Q q ts h =
      let t = token_begins kind p ts h in
      both_beyond (token kind p) Q q ts (length ts) (subst (λ x. Beyond x (length ts)) (sym t.3)
      (let e = ap length t.2 in let z : length t.1 < length ts = omega (arith, e) in z))
