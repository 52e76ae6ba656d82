-- Where a rule's reader stops depends on the tokens through that place alone.
use Rattle.std.specs.Prelude.{◌≡◌, ℕ, zero, suc, ◌<◌, ◌≤◌, ◌+◌, Bool, true, false, IsTrue, List, [], ◌++◌, length}
use Rattle.std.proofs.Common.{refl, sym, ap, ◌∙◌, arith}
use Rattle.std.proofs.lemmas.Bool.{not-true}
use Rattle.cedar_tokens.specs.declared.kind.Kind.{Kind}
use Rattle.cedar_tokens.specs.Kinds.{is, begins}
use Rattle.cedar_grammar.specs.Trees.{Label, Forest, none, leaf, yield, join}
use Rattle.cedar_grammar.specs.Languages.{Lang}
use Rattle.cedar_grammar.specs.Reader.Reading.{Answer, Reader, done, stuck, after, choice, both, one}
use Rattle.cedar_grammar.specs.Reader.Regroup.{gather}
use Rattle.cedar_grammar.proofs.Rules.Regrouping.{gather_yield}
use Rattle.cedar_grammar.specs.Reader.Rules.{Rule, never, empty, inner, leaf_of, nested, then, either, star, tail, node, shaped, expr_first, nullable, first, refuse, shaped_at, tail_to, tailed, nested_at, read}
use Rattle.cedar_grammar.proofs.Rules.Meanings.{decided, means}
use Rattle.cedar_grammar.proofs.Readers.Equations.{choice_yes, choice_no, both_first, both_fails, Keeps, token_begins}
use Rattle.cedar_grammar.proofs.Readers.Languages.{Sound}
use Rattle.cedar_grammar.proofs.Readers.Places.{Alike, Success, Failure, Local, both_local, tree_local, choice_local, skip_local, nest_local, repeat_local, begins_looks, token_local}
use Rattle.cedar_grammar.proofs.Rules.Languages.{Begun, shaped_done, shaped_fails, keeps_of, takes_of, read_sound, means_begun}
use Rattle.cedar_grammar.proofs.Booleans.{and_first, and_second}
use Rattle.std.proofs.lemmas.List.{append_cancel_right}

module _ {A : Type 0} where
  pub refuse_local : Local (refuse {A = A})
  refuse_local = record {
    success = λ ts f r e. absurd cc;
    failure = λ ts b r e. let a : false ≡ b = cc in
        let d : ts ≡ r = cc in
        record { front = []; tokens = d; again = λ v h. ap (λ z. stuck z v) a };
  }

  alike_same : (s r v : List A) → s ≡ r → Alike r v → Alike s v
  alike_same s r v e h = record {
    first = h.first;
    left = h.left;
    right = h.right;
    on_left = e ∙ h.on_left;
    on_right = h.on_right;
  }

  shaped_local : (P : Reader A) → Local P → Local (shaped_at P)
  shaped_local P p = record {
    success = λ ts f r e. good ts f r e (P ts) refl;
    failure = λ ts b r e. bad ts b r e (P ts) refl;
  }
    where
      good : (ts : List A) (f : Forest Label A) (r : List A) → shaped_at P ts ≡ done f r
          → (a : Answer A) → P ts ≡ a → Success (shaped_at P) ts f r
      good ts f r e (done g s) d =
          let w = shaped_done P ts g s d in
          let t : f ≡ gather none g = cc in
          let rest : s ≡ r = cc in
          let x = p.success ts g s d in
          let y : yield f ≡ yield g = ap yield t ∙ gather_yield none g in
          record {
            tokens = x.tokens ∙ ap (λ z. yield g ++ z) rest ∙ ap (λ z. z ++ r) (sym y);
            again = λ v h. ap (λ z. shaped_at P (z ++ v)) y ∙ shaped_done P (yield g
                ++ v) g v (x.again v (alike_same s r v rest h)) ∙ ap (λ z. done z v) (sym t);
          }
      good ts f r e (stuck b s) d = let w = shaped_fails P ts b s d in absurd cc

      bad : (ts : List A) (b : Bool) (r : List A) → shaped_at P ts ≡ stuck b r → (a : Answer A)
          → P ts ≡ a → Failure (shaped_at P) ts b r
      bad ts b r e (done g s) d = let w = shaped_done P ts g s d in absurd cc
      bad ts b r e (stuck c s) d =
          let w = shaped_fails P ts c s d in
          let deep : c ≡ b = cc in
          let rest : s ≡ r = cc in
          let y = p.failure ts c s d in
          record {
            front = y.front;
            tokens = y.tokens ∙ ap (λ z. y.front ++ z) rest;
            again = λ v h. shaped_fails P (y.front ++ v) c v (y.again v (alike_same s r v rest h))
                ∙ ap (λ z. stuck z v) deep;
          }

  both_second : (P Q Q' : Reader A) (ts : List A) (f : Forest Label A) (r : List A)
      → P ts ≡ done f r → Q r ≡ Q' r → both P Q ts ≡ both P Q' ts
  both_second P Q Q' ts f r e d = both_first P Q ts f r e
      ∙ ap (λ (x : Answer A). after x (λ g s. done (join f g) s)) d ∙ sym (both_first P Q' ts f r e)

  both_alike : (P Q Q' : Reader A) (ts : List A)
      → ((f : Forest Label A) (r : List A) → P ts ≡ done f r → Q r ≡ Q' r) → (a : Answer A)
      → P ts ≡ a → both P Q ts ≡ both P Q' ts
  both_alike P Q Q' ts h (done f r) e = both_second P Q Q' ts f r e (h f r e)
  both_alike P Q Q' ts h (stuck b r) e = both_fails P Q ts b r e ∙ sym (both_fails P Q' ts b r e)

  choice_alike : (b : Bool) (P P' Q : Reader A) (ts : List A) → (b ≡ true → P ts ≡ P' ts)
      → (c : Bool) → b ≡ c → choice b P Q ts ≡ choice b P' Q ts
  choice_alike b P P' Q ts h true e = choice_yes b P Q ts e ∙ h e ∙ sym (choice_yes b P' Q ts e)
  choice_alike b P P' Q ts h false e = choice_no b P Q ts e ∙ sym (choice_no b P' Q ts e)

module _ {A : Type 0} (kind : A → Kind) where
  module _ (s : Kind) (u : Kind → Bool) (P Q R : Reader A) where
    -- More turns than tokens change nothing.
    pub tail_more : Keeps P → (n m : ℕ) (ts : List A) → length ts < n → length ts < m
        → tail_to kind s u P Q R n ts ≡ tail_to kind s u P Q R m ts
    tail_more keeps zero m ts h k = absurd (omega arith)
    tail_more keeps (suc n) zero ts h k = absurd (omega arith)
    tail_more keeps (suc n) (suc m) ts h k = choice_alike (begins kind (is s) ts) _ _ R ts
        (λ t. let x = token_begins kind (is s) ts t in
        both_second (one kind s) _ _ ts (leaf x.0 none) x.1 x.3
        (choice_alike (begins kind u x.1) _ _ Q x.1
        (λ _. both_alike P (tail_to kind s u P Q R n) (tail_to kind s u P Q R m) x.1
        (λ f r e. let shorter : length r ≤ length x.1 = keeps x.1 f r e in let less = ap length
        x.2 in tail_more keeps n m r (omega (arith, less)) (omega (arith, less))) (P x.1) refl)
        (begins kind u x.1) refl))
        (begins kind (is s) ts) refl

    pub tail_to_local : Local P → Local Q → Local R → (n : ℕ) → Local (tail_to kind s u P Q R n)
    tail_to_local p q r zero = r
    tail_to_local p q r (suc n) = choice_local (begins kind (is s)) _ R (begins_looks kind (is s))
        (both_local (one kind s) _ (token_local kind (is s)) (choice_local (begins kind u) _ Q
        (begins_looks kind u) (both_local P _ p (tail_to_local p q r n)) q)) r

    tailed_is : (n : ℕ) (ts : List A) → Keeps P → length ts < n
        → tailed kind s u P Q R ts ≡ tail_to kind s u P Q R n ts
    unfolding tailed
    tailed_is n ts keeps h = tail_more keeps (suc (length ts)) n ts (omega arith) h

    tailed_local : Keeps P → Local P → Local Q → Local R → Local (tailed kind s u P Q R)
    tailed_local keeps p q r = record { success = good; failure = bad }
      where
        good : (ts : List A) (f : Forest Label A) (v : List A) → tailed kind s u P Q R ts ≡ done f v
            → Success (tailed kind s u P Q R) ts f v
        good ts f v e = record {
          tokens = ((tail_to_local p q r (suc (length ts))).success ts f v
              (sym (tailed_is (suc (length ts)) ts keeps (omega arith)) ∙ e)).tokens;
          again = λ w h.
              let n = suc (length ts + length (yield f ++ w)) in
              let x = (tail_to_local p q r n).success ts f v
              (sym (tailed_is n ts keeps (omega arith)) ∙ e) in
              tailed_is n (yield f ++ w) keeps (omega arith) ∙ x.again w h;
        }

        bad : (ts : List A) (b : Bool) (v : List A) → tailed kind s u P Q R ts ≡ stuck b v
            → Failure (tailed kind s u P Q R) ts b v
        bad ts b v e =
            let o = (tail_to_local p q r (suc (length ts))).failure ts b v
            (sym (tailed_is (suc (length ts)) ts keeps (omega arith)) ∙ e) in
            record {
              front = o.front;
              tokens = o.tokens;
              again = λ w h. tailed_is (suc (length ts + length (o.front ++ w)))
                  (o.front ++ w) keeps (omega arith)
                  ∙ tail_again ts b v o.front o.tokens (suc (length ts + length (o.front ++ w)))
                  (sym (tailed_is (suc (length ts + length (o.front ++ w))) ts keeps (omega arith))
                  ∙ e) w h;
            }
          where
            tail_again : (ts : List A) (b : Bool) (v front : List A) → ts ≡ front ++ v → (n : ℕ)
                → tail_to kind s u P Q R n ts ≡ stuck b v → (w : List A) → Alike v w
                → tail_to kind s u P Q R n (front ++ w) ≡ stuck b w
            tail_again ts b v front t n e w h =
                let x = (tail_to_local p q r n).failure ts b v e in
                let same : x.front ≡ front = append_cancel_right x.front front v (sym x.tokens
                ∙ t) in
                ap (λ z. tail_to kind s u P Q R n (z ++ w)) (sym same) ∙ x.again w h

  pub nested_local : (room : Bool) (k : Kind) (P : Reader A) → Local P
      → Local (nested_at kind room k P)
  nested_local room k P p = choice_local (begins kind (is k)) _ refuse (begins_looks kind (is k))
      (nest_local room _ (both_local _ _ (token_local kind (is k)) p)) refuse_local

  module _ (room : Bool) (E : Reader A) (X : Lang A)
      (h : (f : Forest Label A) → X f → Begun kind false expr_first (yield f)) (s : Sound E X)
      (l : Local E) where
    pub read_local : (R : Rule) → IsTrue (decided R) → Local (read kind room E R)
    read_local never d = refuse_local
    read_local empty d = skip_local
    read_local inner d = l
    read_local (leaf_of p) d = token_local kind p
    read_local (nested k a) d = nested_local room k _ (read_local a d)
    read_local (then a b) d = both_local _ _ (read_local a (and_first (decided a) _ d))
        (read_local b (and_first (decided b) _ (and_second (decided a) _ d)))
    read_local (either a b) d = choice_local (begins kind (first a)) _ _
        (begins_looks kind (first a)) (read_local a (and_first (decided a) _ d))
        (read_local b (and_first (decided b) _ (and_second (decided a) _ d)))
    read_local (star a) d =
        let da = and_first (decided a) _ d in
        let n = not-true (nullable a) (and_first _ _ (and_second (decided a) _ d)) in
        repeat_local (begins kind (first a)) (read kind room E a)
        (takes_of kind (read kind room E a) (means kind room X a) (nullable a) (first a) n
        (read_sound kind room E X s a) (means_begun kind room X h a da))
        (begins_looks kind (first a)) (read_local a da)
    read_local (tail k x y z) d =
        let d1 = and_second (decided x) _ d in
        let d2 = and_second (decided y) _ d1 in
        tailed_local k (first x) (read kind room E x) (read kind room E y) (read kind room E z)
        (keeps_of kind (read kind room E x) (means kind room X x) (read_sound kind room E X s x))
        (read_local x (and_first (decided x) _ d)) (read_local y (and_first (decided y) _ d1))
        (read_local z (and_first (decided z) _ d2))
    read_local (node l a) d = tree_local l _ (read_local a d)
    read_local (shaped a) d = shaped_local (read kind room E a) (read_local a d)
    read_local R d = refuse_local
