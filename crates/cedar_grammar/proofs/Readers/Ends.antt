-- What was read before a failure can be completed;
-- what fails only by depth goes on where there is room.
use Rattle.std.specs.Prelude.{◌≡◌, ℕ, zero, suc, Bool, true, false, List, [], ◌∷◌, ◌++◌, length, IsTrue, ◌⊎◌}
use Rattle.std.proofs.Common.{refl, sym, ap, ◌∙◌, append_assoc, append-nil, inl, inr}
use Rattle.cedar_tokens.specs.declared.kind.Kind.{Kind}
use Rattle.cedar_grammar.specs.Trees.{Label, Forest, none, branch, yield, join}
use Rattle.cedar_grammar.specs.Languages.{Lang, ◌⋄◌, Many, no_more, one_more, Branch, Of}
use Rattle.cedar_grammar.specs.Reader.Reading.{Answer, Reader, done, stuck, choice, both, skip, tree, nest, too_deep, many, repeat, token}
use Rattle.cedar_grammar.proofs.Readers.Equations.{choice_yes, choice_no, both_done, both_fails, both_then_fails, tree_done, tree_fails, token_yes, token_no, token_end}
use Rattle.cedar_grammar.proofs.Readers.Languages.{IsRead, Sound, yield_join}

module _ {A : Type 0} where
  -- a tree of the language whose leaves begin with what was read
  pub record Completed (X : Lang A) (front : List A) : Type 0 where
    pub trees : Forest Label A
    pub rest : List A
    pub among : X trees
    pub leaves : yield trees ≡ front ++ rest

  -- What precedes the place of a failure: nothing, or what can be completed.
  pub record Halt (X : Lang A) (ts r : List A) : Type 0 where
    pub front : List A
    pub tokens : ts ≡ front ++ r
    pub completed : (front ≡ []) ⊎ Completed X front

  abbrev pub Completes : Reader A → Lang A → Type 0
  Completes P X = (ts : List A) (b : Bool) (r : List A) → P ts ≡ stuck b r → Halt X ts r

  abbrev pub Inhabited : Lang A → Type 0
  Inhabited X = (f : Forest Label A) × X f

  pub halt_more : (X Y : Lang A) → ((f : Forest Label A) → X f → Y f) → (ts r : List A)
      → Halt X ts r → Halt Y ts r
  halt_more X Y h ts r k = record { front = k.front; tokens = k.tokens; completed = go k.completed }
    where
      go : (k.front ≡ []) ⊎ Completed X k.front → (k.front ≡ []) ⊎ Completed Y k.front
      go (inl e) = inl e
      go (inr c) = inr
          (record { trees = c.trees; rest = c.rest; among = h c.trees c.among; leaves = c.leaves })

  -- where something can always be completed, nothing can be too
  pub halt_whole : (X : Lang A) → Inhabited X → (ts r : List A) → Halt X ts r
      → (front : List A) × (ts ≡ front ++ r) × Completed X front
  halt_whole X least ts r k = (k.front, k.tokens, go k.completed)
    where
      go : (k.front ≡ []) ⊎ Completed X k.front → Completed X k.front
      go (inl e) = record {
        trees = least.0;
        rest = yield least.0;
        among = least.1;
        leaves = ap (λ z. z ++ yield least.0) (sym e);
      }
      go (inr c) = c

  pub both_completes : (P Q : Reader A) (X Y : Lang A) → Sound P X → Completes P X → Completes Q Y
      → Inhabited Y → Completes (both P Q) (X ⋄ Y)
  both_completes P Q X Y sound p q least ts b r e = go (P ts) refl
    where
      first : (k : Halt X ts r) → (k.front ≡ []) ⊎ Completed X k.front → Halt (X ⋄ Y) ts r
      first k (inl z) = record { front = k.front; tokens = k.tokens; completed = inl z }
      first k (inr c) = record {
        front = k.front;
        tokens = k.tokens;
        completed = inr (record {
          trees = join c.trees least.0;
          rest = c.rest ++ yield least.0;
          among = (c.trees, least.0, refl, c.among, least.1);
          leaves = yield_join c.trees least.0 ∙ ap (λ z. z ++ yield least.0) c.leaves
              ∙ append_assoc k.front c.rest (yield least.0);
        });
      }

      second : (g : Forest Label A) (s : List A) → IsRead X ts g s → (k : Halt Y s r)
          → (f : Forest Label A) (c : List A) → Y f → yield f ≡ k.front ++ c → Halt (X ⋄ Y) ts r
      second g s x k f c y l = record {
        front = yield g ++ k.front;
        tokens =
            x.tokens ∙ ap (λ z. yield g ++ z) k.tokens ∙ sym (append_assoc (yield g) k.front r);
        completed = inr (record {
          trees = join g f;
          rest = c;
          among = (g, f, refl, x.among, y);
          leaves =
              yield_join g f ∙ ap (λ z. yield g ++ z) l ∙ sym (append_assoc (yield g) k.front c);
        });
      }

      inner : (g : Forest Label A) (s : List A) → P ts ≡ done g s → (c : Answer A) → Q s ≡ c
          → Halt (X ⋄ Y) ts r
      inner g s d (done h u) k = let w = both_done P Q ts g s h u d k in absurd cc
      inner g s d (stuck c u) k =
          let w = both_then_fails P Q ts g s c u d k in
          let rest : u ≡ r = cc in
          let h = q s b r
          (let deep : c ≡ b = cc in k ∙ ap (λ z. stuck z u) deep ∙ ap (λ z. stuck b z) rest) in
          let o = halt_whole Y least s r h in
          second g s (sound ts g s d) (record { front = o.0; tokens = o.1; completed = inr o.2 })
          (o.2).trees (o.2).rest (o.2).among (o.2).leaves

      go : (a : Answer A) → P ts ≡ a → Halt (X ⋄ Y) ts r
      go (done g s) d = inner g s d (Q s) refl
      go (stuck c s) d =
          let w = both_fails P Q ts c s d in
          let k = p ts b r (let deep : c ≡ b = cc in let rest : s ≡ r = cc in
          d ∙ ap (λ z. stuck z s) deep ∙ ap (λ z. stuck b z) rest) in
          first k k.completed

  pub tree_completes : (l : Label) (P : Reader A) (X : Lang A) → Completes P X
      → Completes (tree l P) (Branch l X)
  tree_completes l P X p ts b r e = go (P ts) refl
    where
      up : (k : Halt X ts r) → (k.front ≡ []) ⊎ Completed X k.front → Halt (Branch l X) ts r
      up k (inl z) = record { front = k.front; tokens = k.tokens; completed = inl z }
      up k (inr c) = record {
        front = k.front;
        tokens = k.tokens;
        completed = inr (record {
          trees = branch l c.trees none;
          rest = c.rest;
          among = (c.trees, refl, c.among);
          leaves = append-nil (yield c.trees) ∙ c.leaves;
        });
      }

      go : (a : Answer A) → P ts ≡ a → Halt (Branch l X) ts r
      go (done g s) d = let w = tree_done l P ts g s d in absurd cc
      go (stuck c s) d =
          let w = tree_fails l P ts c s d in
          let k = p ts b r (let deep : c ≡ b = cc in let rest : s ≡ r = cc in
          d ∙ ap (λ z. stuck z s) deep ∙ ap (λ z. stuck b z) rest) in
          up k k.completed

  pub choice_completes : (t : List A → Bool) (P Q : Reader A) (X : Lang A) → Completes P X
      → Completes Q X → Completes (λ ts. choice (t ts) P Q ts) X
  choice_completes t P Q X p q ts b r e = go (t ts) refl
    where
      go : (c : Bool) → t ts ≡ c → Halt X ts r
      go true h = p ts b r (sym (choice_yes (t ts) P Q ts h) ∙ e)
      go false h = q ts b r (sym (choice_no (t ts) P Q ts h) ∙ e)

  pub deep_completes : (X : Lang A) → Completes too_deep X
  deep_completes X ts b r e =
      let d : ts ≡ r = cc in record { front = []; tokens = d; completed = inl refl }

  pub nest_completes : (room : Bool) (P : Reader A) (X : Lang A) → (IsTrue room → Completes P X)
      → Completes (nest room P) (λ f. IsTrue room × X f)
  unfolding nest
  nest_completes true P X p ts b r e = halt_more X (λ f. IsTrue true × X f) (λ f x. (refl, x)) ts r
      (p refl ts b r (sym (choice_yes true P too_deep ts refl) ∙ e))
  nest_completes false P X p ts b r e =
      deep_completes (λ f. IsTrue false × X f) ts b r (sym (choice_no false P too_deep ts refl) ∙ e)

  many_completes : (t : List A → Bool) (P : Reader A) (X : Lang A) → Sound P X → Completes P X
      → (n : ℕ) → Completes (many t P n) (Many X)
  unfolding many
  many_completes t P X s p zero ts b r e = absurd cc
  many_completes t P X s p (suc n) ts b r e = choice_completes t (both P (many t P n)) skip (Many X)
      (λ ts b r e. halt_more (X ⋄ Many X) (Many X) (λ f (g, h, e, x, m). one_more f g h e x m) ts r
      (both_completes P (many t P n) X (Many X) s p (many_completes t P X s p n)
      (none, no_more none refl) ts b r e))
      (λ ts b r e. absurd cc) ts b r e

  pub repeat_completes : (t : List A → Bool) (P : Reader A) (X : Lang A) → Sound P X → Completes P X
      → Completes (repeat t P) (Many X)
  unfolding repeat
  repeat_completes t P X s p ts b r e = many_completes t P X s p (suc (length ts)) ts b r e

module _ {A : Type 0} (kind : A → Kind) where
  pub token_completes : (p : Kind → Bool) → Completes (token kind p) (Of kind p)
  token_completes p [] b r e =
      let d = token_end kind p in
      let x : [] ≡ r = cc in
      record { front = []; tokens = x; completed = inl refl }
  token_completes p (a ∷ ts) b r e = go (p (kind a)) refl
    where
      go : (c : Bool) → p (kind a) ≡ c → Halt (Of kind p) (a ∷ ts) r
      go true h = let d = token_yes kind p a ts h in absurd cc
      go false h =
          let d = token_no kind p a ts h in
          let x : a ∷ ts ≡ r = cc in
          record { front = []; tokens = x; completed = inl refl }
