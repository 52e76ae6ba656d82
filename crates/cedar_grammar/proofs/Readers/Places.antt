-- Where a reader stops depends on the tokens through that place alone.
use Rattle.std.specs.Prelude.{◌≡◌, ℕ, zero, suc, ◌<◌, Bool, true, false, List, [], ◌∷◌, ◌++◌, length}
use Rattle.std.proofs.Common.{refl, sym, ap, ◌∙◌, arith, append_assoc, append-nil}
use Rattle.cedar_tokens.specs.declared.kind.Kind.{Kind}
use Rattle.cedar_grammar.specs.Trees.{Label, Forest, none, leaf, branch, yield, join}
use Rattle.cedar_grammar.specs.Reader.Reading.{Answer, Reader, done, stuck, after, choice, both, skip, tree, nest, too_deep, many, repeat, token}
use Rattle.cedar_tokens.specs.Kinds.{begins}
use Rattle.cedar_grammar.proofs.Readers.Equations.{choice_yes, choice_no, both_done, both_fails, both_then_fails, tree_done, tree_fails, Takes, many_step, many_end, many_fails, repeat_step, repeat_end, repeat_fails, token_yes, token_no, token_end}
use Rattle.cedar_grammar.proofs.Readers.Languages.{yield_join_more}

module _ {A : Type 0} where
  -- the same first token
  pub record Alike (r s : List A) : Type 0 where
    pub first : A
    pub left : List A
    pub right : List A
    pub on_left : r ≡ first ∷ left
    pub on_right : s ≡ first ∷ right

  pub alike_after : (x : List A) (r s : List A) → Alike r s → Alike (x ++ r) (x ++ s)
  alike_after [] r s h = h
  alike_after (a ∷ x) r s h =
      record { first = a; left = x ++ r; right = x ++ s; on_left = refl; on_right = refl }

  alike_of : (q q' r s : List A) → q ≡ r → q' ≡ s → Alike r s → Alike q q'
  alike_of q q' r s e d h = record {
    first = h.first;
    left = h.left;
    right = h.right;
    on_left = e ∙ h.on_left;
    on_right = d ∙ h.on_right;
  }

  -- After a success, what follows the next token doesn't matter.
  pub record Success (P : Reader A) (ts : List A) (f : Forest Label A) (r : List A) : Type 0 where
    pub tokens : ts ≡ yield f ++ r
    pub again : (s : List A) → Alike r s → P (yield f ++ s) ≡ done f s

  -- Nor does what follows the token at which it failed.
  pub record Failure (P : Reader A) (ts : List A) (b : Bool) (r : List A) : Type 0 where
    pub front : List A
    pub tokens : ts ≡ front ++ r
    pub again : (s : List A) → Alike r s → P (front ++ s) ≡ stuck b s

  pub record Local (P : Reader A) : Type 0 where
    pub success : (ts : List A) (f : Forest Label A) (r : List A) → P ts ≡ done f r
        → Success P ts f r
    pub failure : (ts : List A) (b : Bool) (r : List A) → P ts ≡ stuck b r → Failure P ts b r

  -- a test that looks only at the first token
  abbrev pub LooksAhead : (List A → Bool) → Type 0
  LooksAhead t = (r s : List A) → Alike r s → t r ≡ t s

  pub both_local : (P Q : Reader A) → Local P → Local Q → Local (both P Q)
  both_local P Q p q = record {
    success = λ ts f r e. good ts f r e (P ts) refl;
    failure = λ ts b r e. bad ts b r e (P ts) refl;
  }
    where
      good2 : (ts : List A) (f : Forest Label A) (r : List A) → both P Q ts ≡ done f r
          → (g : Forest Label A) (s : List A) → P ts ≡ done g s → (b : Answer A) → Q s ≡ b
          → Success (both P Q) ts f r
      good2 ts f r e g s d (done h u) k =
          let w = both_done P Q ts g s h u d k in
          let tree : f ≡ join g h = cc in
          let rest : u ≡ r = cc in
          let x = p.success ts g s d in
          let y = q.success s h u k in
          record {
            tokens = x.tokens ∙ ap (λ z. yield g ++ z) (y.tokens ∙ ap (λ z. yield h ++ z) rest)
                ∙ sym (yield_join_more g h r) ∙ ap (λ z. yield z ++ r) (sym tree);
            again = λ v l.
                let m : Alike u v = alike_of u v r v rest refl l in
                let n : Alike s (yield h ++ v) = alike_of s (yield h ++ v) (yield h ++ u)
                (yield h ++ v) y.tokens refl (alike_after (yield h) u v m) in
                ap (λ z. both P Q (yield z ++ v)) tree ∙ ap (both P Q) (yield_join_more g h v)
                ∙ both_done P Q (yield g ++ (yield h ++ v)) g (yield h ++ v) h v
                (x.again (yield h ++ v) n) (y.again v m)
                ∙ ap (λ z. done z v) (sym tree);
          }
      good2 ts f r e g s d (stuck b u) k = let w = both_then_fails P Q ts g s b u d k in absurd cc

      good : (ts : List A) (f : Forest Label A) (r : List A) → both P Q ts ≡ done f r
          → (a : Answer A) → P ts ≡ a → Success (both P Q) ts f r
      good ts f r e (done g s) d = good2 ts f r e g s d (Q s) refl
      good ts f r e (stuck b s) d = let w = both_fails P Q ts b s d in absurd cc

      bad2 : (ts : List A) (b : Bool) (r : List A) → both P Q ts ≡ stuck b r → (g : Forest Label A)
          (s : List A) → P ts ≡ done g s → (c : Answer A) → Q s ≡ c → Failure (both P Q) ts b r
      bad2 ts b r e g s d (done h u) k = let w = both_done P Q ts g s h u d k in absurd cc
      bad2 ts b r e g s d (stuck c u) k =
          let w = both_then_fails P Q ts g s c u d k in
          let deep : c ≡ b = cc in
          let rest : u ≡ r = cc in
          let x = p.success ts g s d in
          let y = q.failure s c u k in
          record {
            front = yield g ++ y.front;
            tokens = x.tokens ∙ ap (λ z. yield g ++ z) (y.tokens ∙ ap (λ z. y.front ++ z) rest)
                ∙ sym (append_assoc (yield g) y.front r);
            again = λ v l.
                let m : Alike u v = alike_of u v r v rest refl l in
                let n : Alike s (y.front ++ v) = alike_of s (y.front ++ v) (y.front ++ u)
                (y.front ++ v) y.tokens refl (alike_after y.front u v m) in
                ap (both P Q) (append_assoc (yield g) y.front v) ∙ both_then_fails P Q (yield g
                ++ (y.front ++ v)) g (y.front ++ v) c v (x.again (y.front ++ v) n) (y.again v m)
                ∙ ap (λ z. stuck z v) deep;
          }

      bad : (ts : List A) (b : Bool) (r : List A) → both P Q ts ≡ stuck b r → (a : Answer A)
          → P ts ≡ a → Failure (both P Q) ts b r
      bad ts b r e (done g s) d = bad2 ts b r e g s d (Q s) refl
      bad ts b r e (stuck c s) d =
          let w = both_fails P Q ts c s d in
          let deep : c ≡ b = cc in
          let rest : s ≡ r = cc in
          let y = p.failure ts c s d in
          record {
            front = y.front;
            tokens = y.tokens ∙ ap (λ z. y.front ++ z) rest;
            again = λ v l. both_fails P Q (y.front
                ++ v) c v (y.again v (alike_of s v r v rest refl l)) ∙ ap (λ z. stuck z v) deep;
          }

  yield_tree : (l : Label) (f : Forest Label A) (r : List A)
      → yield (branch l f none) ++ r ≡ yield f ++ r
  yield_tree l f r = ap (λ x. x ++ r) (append-nil (yield f))

  pub tree_local : (l : Label) (P : Reader A) → Local P → Local (tree l P)
  tree_local l P p = record {
    success = λ ts f r e. good ts f r e (P ts) refl;
    failure = λ ts b r e. bad ts b r e (P ts) refl;
  }
    where
      good : (ts : List A) (f : Forest Label A) (r : List A) → tree l P ts ≡ done f r
          → (a : Answer A) → P ts ≡ a → Success (tree l P) ts f r
      good ts f r e (done g s) d =
          let w = tree_done l P ts g s d in
          let t : f ≡ branch l g none = cc in
          let rest : s ≡ r = cc in
          let x = p.success ts g s d in
          record {
            tokens = x.tokens ∙ ap (λ z. yield g ++ z) rest ∙ sym (yield_tree l g r)
                ∙ ap (λ z. yield z ++ r) (sym t);
            again = λ v h. ap (λ z. tree l P (yield z ++ v)) t ∙ ap (tree l P) (yield_tree l g v)
                ∙ tree_done l P (yield g ++ v) g v (x.again v (alike_of s v r v rest refl h))
                ∙ ap (λ z. done z v) (sym t);
          }
      good ts f r e (stuck b s) d = let w = tree_fails l P ts b s d in absurd cc

      bad : (ts : List A) (b : Bool) (r : List A) → tree l P ts ≡ stuck b r → (a : Answer A)
          → P ts ≡ a → Failure (tree l P) ts b r
      bad ts b r e (done g s) d = let w = tree_done l P ts g s d in absurd cc
      bad ts b r e (stuck c s) d =
          let w = tree_fails l P ts c s d in
          let deep : c ≡ b = cc in
          let rest : s ≡ r = cc in
          let y = p.failure ts c s d in
          record {
            front = y.front;
            tokens = y.tokens ∙ ap (λ z. y.front ++ z) rest;
            again = λ v h. tree_fails l P (y.front
                ++ v) c v (y.again v (alike_of s v r v rest refl h)) ∙ ap (λ z. stuck z v) deep;
          }

  pub choice_local : (t : List A → Bool) (P Q : Reader A) → LooksAhead t → Local P → Local Q
      → Local (λ ts. choice (t ts) P Q ts)
  choice_local t P Q look p q = record {
    success = λ ts f r e. good ts f r e (t ts) refl;
    failure = λ ts b r e. bad ts b r e (t ts) refl;
  }
    where
      kept : (ts x r v : List A) → ts ≡ x ++ r → Alike r v → (b : Bool) → t ts ≡ b → t (x ++ v) ≡ b
      kept ts x r v e l b h = look (x ++ v) ts (alike_sym ts (x ++ v)
          (alike_of ts (x ++ v) (x ++ r) (x ++ v) e refl (alike_after x r v l))) ∙ h
        where
          alike_sym : (r s : List A) → Alike r s → Alike s r
          alike_sym r s h = record {
            first = h.first;
            left = h.right;
            right = h.left;
            on_left = h.on_right;
            on_right = h.on_left;
          }

      good : (ts : List A) (f : Forest Label A) (r : List A) → choice (t ts) P Q ts ≡ done f r
          → (b : Bool) → t ts ≡ b → Success (λ ts. choice (t ts) P Q ts) ts f r
      good ts f r e true h =
          let x = p.success ts f r (sym (choice_yes (t ts) P Q ts h) ∙ e) in
          record {
            tokens = x.tokens;
            again = λ v l. choice_yes (t (yield f ++ v)) P Q (yield f
                ++ v) (kept ts (yield f) r v x.tokens l true h) ∙ x.again v l;
          }
      good ts f r e false h =
          let x = q.success ts f r (sym (choice_no (t ts) P Q ts h) ∙ e) in
          record {
            tokens = x.tokens;
            again = λ v l. choice_no (t (yield f ++ v)) P Q (yield f
                ++ v) (kept ts (yield f) r v x.tokens l false h) ∙ x.again v l;
          }

      bad : (ts : List A) (b : Bool) (r : List A) → choice (t ts) P Q ts ≡ stuck b r → (c : Bool)
          → t ts ≡ c → Failure (λ ts. choice (t ts) P Q ts) ts b r
      bad ts b r e true h =
          let x = p.failure ts b r (sym (choice_yes (t ts) P Q ts h) ∙ e) in
          record {
            front = x.front;
            tokens = x.tokens;
            again = λ v l. choice_yes (t (x.front ++ v)) P Q (x.front
                ++ v) (kept ts x.front r v x.tokens l true h) ∙ x.again v l;
          }
      bad ts b r e false h =
          let x = q.failure ts b r (sym (choice_no (t ts) P Q ts h) ∙ e) in
          record {
            front = x.front;
            tokens = x.tokens;
            again = λ v l. choice_no (t (x.front ++ v)) P Q (x.front
                ++ v) (kept ts x.front r v x.tokens l false h) ∙ x.again v l;
          }

  pub skip_local : Local skip
  skip_local = record {
    success = λ ts f r e. let a : none ≡ f = cc in let b : ts ≡ r = cc in record {
      tokens = b ∙ ap (λ z. yield z ++ r) a;
      again = λ v h. ap (λ z. skip (yield z ++ v)) (sym a) ∙ ap (λ z. done z v) a;
    };
    failure = λ ts b r e. absurd cc;
  }

  pub deep_local : Local too_deep
  deep_local = record {
    success = λ ts f r e. absurd cc;
    failure = λ ts b r e. let a : true ≡ b = cc in
        let d : ts ≡ r = cc in
        record { front = []; tokens = d; again = λ v h. ap (λ z. stuck z v) a };
  }

  pub nest_local : (room : Bool) (P : Reader A) → Local P → Local (nest room P)
  unfolding nest
  nest_local room P p = choice_local (λ _. room) P too_deep (λ r s h. refl) p deep_local

  alike_back : (r s : List A) → Alike r s → Alike s r
  alike_back r s h = record {
    first = h.first;
    left = h.right;
    right = h.left;
    on_left = h.on_right;
    on_right = h.on_left;
  }

  test_kept : (t : List A → Bool) → LooksAhead t → (ts x r v : List A) → ts ≡ x ++ r → Alike r v
      → (b : Bool) → t ts ≡ b → t (x ++ v) ≡ b
  test_kept t look ts x r v e l b h = look (x ++ v) ts (alike_back ts (x ++ v)
      (alike_of ts (x ++ v) (x ++ r) (x ++ v) e refl (alike_after x r v l))) ∙ h

  module _ (t : List A → Bool) (P : Reader A) (takes : Takes P) (look : LooksAhead t)
      (p : Local P) where
    many_good_step : (n : ℕ) (ts : List A) (f : Forest Label A) (r : List A)
        → many t P (suc n) ts ≡ done f r → (b : Bool) → t ts ≡ b → (a : Answer A) → P ts ≡ a
        → ((g : Forest Label A) (s : List A) → P ts ≡ done g s → (h : Forest Label A) (u : List A)
        → many t P n s ≡ done h u → Success (repeat t P) s h u)
        → ((s : List A) → (x : Answer A) × (many t P n s ≡ x)) → Success (repeat t P) ts f r
    many_good_step n ts f r e false h a d again w =
        let q = many_end t P (suc n) ts h in
        let x : none ≡ f = cc in
        let y : ts ≡ r = cc in
        record {
          tokens = y ∙ ap (λ z. yield z ++ r) x;
          again = λ v l. ap (λ z. repeat t P (yield z ++ v)) (sym x)
              ∙ repeat_end t P v (test_kept t look ts [] r v y l false h) ∙ ap (λ z. done z v) x;
        }
    many_good_step n ts f r e true h (stuck c s) d again w =
        let q = many_fails t P n ts c s h d in absurd cc
    many_good_step n ts f r e true h (done g s) d again w = go (w s).0 (w s).1
      where
        go : (x : Answer A) → many t P n s ≡ x → Success (repeat t P) ts f r
        go (stuck c u) m =
            let q = many_step t P n ts g s h d
            ∙ ap (λ (x : Answer A). after x (λ i s. done (join g i) s)) m in absurd cc
        go (done i u) m =
            let q = many_step t P n ts g s h d
            ∙ ap (λ (x : Answer A). after x (λ i s. done (join g i) s)) m in
            let x : f ≡ join g i = cc in
            let y : u ≡ r = cc in
            let k = p.success ts g s d in
            let o = again g s d i u m in
            record {
              tokens = k.tokens ∙ ap (λ z. yield g ++ z) (o.tokens ∙ ap (λ z. yield i ++ z) y)
                  ∙ sym (yield_join_more g i r) ∙ ap (λ z. yield z ++ r) (sym x);
              again = λ v l.
                  let l' : Alike u v = alike_of u v r v y refl l in
                  let l'' : Alike s (yield i ++ v) = alike_of s (yield i ++ v) (yield i ++ u)
                  (yield i ++ v) o.tokens refl (alike_after (yield i) u v l') in
                  ap (λ z. repeat t P (yield z ++ v)) x ∙ ap (repeat t P) (yield_join_more g i v)
                  ∙ repeat_step t P takes (yield g ++ (yield i ++ v)) g (yield i ++ v)
                  (test_kept t look ts (yield g) s (yield i ++ v) k.tokens l'' true h)
                  (k.again (yield i ++ v) l'')
                  ∙ ap (λ (x : Answer A). after x (λ i s. done (join g i) s)) (o.again v l')
                  ∙ ap (λ z. done z v) (sym x);
            }

    many_bad_step : (n : ℕ) (ts : List A) (b : Bool) (r : List A) → many t P (suc n) ts ≡ stuck b r
        → (x : Bool) → t ts ≡ x → (a : Answer A) → P ts ≡ a
        → ((g : Forest Label A) (s : List A) → P ts ≡ done g s → (c : Bool) (u : List A)
        → many t P n s ≡ stuck c u → Failure (repeat t P) s c u)
        → ((s : List A) → (x : Answer A) × (many t P n s ≡ x)) → Failure (repeat t P) ts b r
    many_bad_step n ts b r e false h a d again w = let q = many_end t P (suc n) ts h in absurd cc
    many_bad_step n ts b r e true h (stuck c s) d again w =
        let q = many_fails t P n ts c s h d in
        let x : c ≡ b = cc in
        let y : s ≡ r = cc in
        let k = p.failure ts c s d in
        record {
          front = k.front;
          tokens = k.tokens ∙ ap (λ z. k.front ++ z) y;
          again = λ v l.
              let l' : Alike s v = alike_of s v r v y refl l in
              repeat_fails t P (k.front ++ v) c v (test_kept t look ts k.front s v k.tokens l' true
              h) (k.again v l') ∙ ap (λ z. stuck z v) x;
        }
    many_bad_step n ts b r e true h (done g s) d again w = go (w s).0 (w s).1
      where
        go : (x : Answer A) → many t P n s ≡ x → Failure (repeat t P) ts b r
        go (done i u) m =
            let q = many_step t P n ts g s h d
            ∙ ap (λ (x : Answer A). after x (λ i s. done (join g i) s)) m in absurd cc
        go (stuck c u) m =
            let q = many_step t P n ts g s h d
            ∙ ap (λ (x : Answer A). after x (λ i s. done (join g i) s)) m in
            let x : c ≡ b = cc in
            let y : u ≡ r = cc in
            let k = p.success ts g s d in
            let o = again g s d c u m in
            record {
              front = yield g ++ o.front;
              tokens = k.tokens ∙ ap (λ z. yield g ++ z) (o.tokens ∙ ap (λ z. o.front ++ z) y)
                  ∙ sym (append_assoc (yield g) o.front r);
              again = λ v l.
                  let l' : Alike u v = alike_of u v r v y refl l in
                  let l'' : Alike s (o.front ++ v) = alike_of s (o.front ++ v) (o.front ++ u)
                  (o.front ++ v) o.tokens refl (alike_after o.front u v l') in
                  ap (repeat t P) (append_assoc (yield g) o.front v)
                  ∙ repeat_step t P takes (yield g ++ (o.front ++ v)) g (o.front ++ v)
                  (test_kept t look ts (yield g) s (o.front ++ v) k.tokens l'' true h)
                  (k.again (o.front ++ v) l'')
                  ∙ ap (λ (x : Answer A). after x (λ i s. done (join g i) s)) (o.again v l')
                  ∙ ap (λ z. stuck z v) x;
            }

    many_good : (n : ℕ) (ts : List A) (f : Forest Label A) (r : List A) → length ts < n
        → many t P n ts ≡ done f r → Success (repeat t P) ts f r
    many_good zero ts f r k e = absurd (omega arith)
    many_good (suc n) ts f r k e = many_good_step n ts f r e (t ts) refl (P ts) refl
        (λ g s d h u m. let z : length s < length ts = takes ts g s d in
        many_good n s h u (omega arith) m) (λ s. (many t P n s, refl))

    many_bad : (n : ℕ) (ts : List A) (b : Bool) (r : List A) → length ts < n
        → many t P n ts ≡ stuck b r → Failure (repeat t P) ts b r
    many_bad zero ts b r k e = absurd (omega arith)
    many_bad (suc n) ts b r k e = many_bad_step n ts b r e (t ts) refl (P ts) refl
        (λ g s d c u m. let z : length s < length ts = takes ts g s d in
        many_bad n s c u (omega arith) m) (λ s. (many t P n s, refl))

    repeat_is : (ts : List A) → many t P (suc (length ts)) ts ≡ repeat t P ts
    unfolding repeat
    repeat_is ts = refl

    pub repeat_local : Local (repeat t P)
    repeat_local = record {
      success = λ ts f r e. many_good (suc (length ts)) ts f r (omega arith) (repeat_is ts ∙ e);
      failure = λ ts b r e. many_bad (suc (length ts)) ts b r (omega arith) (repeat_is ts ∙ e);
    }

module _ {A : Type 0} (kind : A → Kind) where
  pub begins_looks : (p : Kind → Bool) → LooksAhead (begins kind p)
  begins_looks p r s h = ap (begins kind p) h.on_left ∙ ap (begins kind p) (sym h.on_right)

  pub token_local : (p : Kind → Bool) → Local (token kind p)
  token_local p = record { success = good; failure = bad }
    where
      good : (ts : List A) (f : Forest Label A) (r : List A) → token kind p ts ≡ done f r
          → Success (token kind p) ts f r
      good [] f r e = let d = token_end kind p in absurd cc
      good (a ∷ ts) f r e = go (p (kind a)) refl
        where
          go : (b : Bool) → p (kind a) ≡ b → Success (token kind p) (a ∷ ts) f r
          go true h =
              let d = token_yes kind p a ts h in
              let t : f ≡ leaf a none = cc in
              let rest : ts ≡ r = cc in
              record {
                tokens = ap (λ z. a ∷ z) rest ∙ ap (λ z. yield z ++ r) (sym t);
                again = λ v l. ap (λ z. token kind p (yield z ++ v)) t ∙ token_yes kind p a v h
                    ∙ ap (λ z. done z v) (sym t);
              }
          go false h = let d = token_no kind p a ts h in absurd cc

      bad : (ts : List A) (b : Bool) (r : List A) → token kind p ts ≡ stuck b r
          → Failure (token kind p) ts b r
      bad [] b r e =
          let d = token_end kind p in
          let rest : r ≡ [] = cc in
          record {
            front = [];
            tokens = sym rest;
            again = λ v l. let x : [] ≡ l.first ∷ l.left = sym rest ∙ l.on_left in absurd cc;
          }
      bad (a ∷ ts) b r e = go (p (kind a)) refl
        where
          go : (c : Bool) → p (kind a) ≡ c → Failure (token kind p) (a ∷ ts) b r
          go true h = let d = token_yes kind p a ts h in absurd cc
          go false h =
              let d = token_no kind p a ts h in
              let deep : false ≡ b = cc in
              let rest : a ∷ ts ≡ r = cc in
              record {
                front = [];
                tokens = rest;
                again = λ v l.
                    let x : a ∷ ts ≡ l.first ∷ l.left = rest ∙ l.on_left in
                    let y : l.first ≡ a = cc in
                    let z : v ≡ a ∷ l.right = l.on_right ∙ ap (λ u. u ∷ l.right) y in
                    ap (token kind p) z ∙ token_no kind p a l.right h
                    ∙ ap (λ u. stuck false u) (sym z) ∙ ap (λ u. stuck u v) deep;
              }
