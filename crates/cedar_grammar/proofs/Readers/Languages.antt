-- Readers against languages: what is read is in the language, and what is in it is read.
use Rattle.std.specs.Prelude.{◌≡◌, ℕ, zero, suc, Bool, true, false, List, [], ◌∷◌, ◌++◌, length, IsTrue}
use Rattle.std.proofs.Common.{refl, sym, ap, ◌∙◌, append_assoc, inl, inr}
use Rattle.cedar_tokens.specs.declared.kind.Kind.{Kind}
use Rattle.cedar_grammar.specs.Trees.{Label, Forest, none, leaf, branch, yield, join}
use Rattle.cedar_grammar.specs.Languages.{Lang, ◌⋄◌, ◌∪◌, Many, no_more, one_more, Branch, Of}
use Rattle.cedar_grammar.specs.Reader.Reading.{Answer, Reader, done, stuck, after, choice, both, skip, tree, nest, too_deep, many, repeat, token}
use Rattle.cedar_grammar.proofs.Readers.Equations.{choice_yes, choice_no, both_done, both_fails, both_then_fails, tree_done, tree_fails, Takes, repeat_step, repeat_end, token_yes, token_no, token_end}

append_none : {A : Type 0} → (xs : List A) → xs ++ [] ≡ xs
append_none [] = refl
append_none (x ∷ xs) = ap (λ ys. x ∷ ys) (append_none xs)

pub yield_join : {L A : Type 0} → (f g : Forest L A) → yield (join f g) ≡ yield f ++ yield g
yield_join none g = refl
yield_join (leaf a f) g = ap (λ x. a ∷ x) (yield_join f g)
yield_join (branch l f h) g =
    ap (λ x. yield f ++ x) (yield_join h g) ∙ sym (append_assoc (yield f) (yield h) (yield g))

pub yield_join_more : {L A : Type 0} → (f g : Forest L A) (r : List A)
    → yield (join f g) ++ r ≡ yield f ++ (yield g ++ r)
yield_join_more f g r = ap (λ x. x ++ r) (yield_join f g) ∙ append_assoc (yield f) (yield g) r

yield_tree : {L A : Type 0} → (l : L) (f : Forest L A) (r : List A)
    → yield (branch l f none) ++ r ≡ yield f ++ r
yield_tree l f r = ap (λ x. x ++ r) (append_none (yield f))

module _ {A : Type 0} where
  -- What is read is in the language, and is what the tokens begin with.
  pub record IsRead (X : Lang A) (ts : List A) (f : Forest Label A) (r : List A) : Type 0 where
    pub among : X f
    pub tokens : ts ≡ yield f ++ r

  abbrev pub Sound : Reader A → Lang A → Type 0
  Sound P X = (ts : List A) (f : Forest Label A) (r : List A) → P ts ≡ done f r → IsRead X ts f r

  -- What is in the language is read, where what follows does not continue it.
  abbrev pub Complete : Reader A → Lang A → (List A → Type 0) → Type 0
  Complete P X Stop = (f : Forest Label A) (r : List A) → X f → Stop r → P (yield f ++ r) ≡ done f r

  pub sound_more : (P : Reader A) (X Y : Lang A) → ((f : Forest Label A) → X f → Y f) → Sound P X
      → Sound P Y
  sound_more P X Y h p ts f r e =
      let q = p ts f r e in record { among = h f q.among; tokens = q.tokens }

  pub both_sound : (P Q : Reader A) (X Y : Lang A) → Sound P X → Sound Q Y
      → Sound (both P Q) (X ⋄ Y)
  both_sound P Q X Y p q ts f r e = go (P ts) refl
    where
      inner : (g : Forest Label A) (s : List A) → P ts ≡ done g s → (b : Answer A) → Q s ≡ b
          → IsRead (X ⋄ Y) ts f r
      inner g s d (done h u) k =
          let w = both_done P Q ts g s h u d k in
          let tree : f ≡ join g h = cc in
          let rest : u ≡ r = cc in
          let x = p ts g s d in
          let y = q s h u k in
          record {
            among = (g, h, tree, x.among, y.among);
            tokens = x.tokens ∙ ap (λ z. yield g ++ z) (y.tokens ∙ ap (λ z. yield h ++ z) rest)
                ∙ sym (yield_join_more g h r) ∙ ap (λ z. yield z ++ r) (sym tree);
          }
      inner g s d (stuck b u) k = let w = both_then_fails P Q ts g s b u d k in absurd cc

      go : (a : Answer A) → P ts ≡ a → IsRead (X ⋄ Y) ts f r
      go (done g s) d = inner g s d (Q s) refl
      go (stuck b s) d = let w = both_fails P Q ts b s d in absurd cc

  pub both_complete : (P Q : Reader A) (X Y : Lang A) (S T : List A → Type 0) → Complete P X S
      → Complete Q Y T
      → ((g : Forest Label A) (r : List A) → Y g → T r → S (yield g ++ r))
      → Complete (both P Q) (X ⋄ Y) T
  both_complete P Q X Y S T p q next f r (g, h, e, x, y) t =
      ap (λ z. both P Q (yield z ++ r)) e ∙ ap (both P Q) (yield_join_more g h r)
      ∙ both_done P Q (yield g ++ (yield h ++ r)) g (yield h ++ r) h r
      (p g (yield h ++ r) x (next h r y t)) (q h r y t) ∙ ap (λ z. done z r) (sym e)

  pub tree_sound : (l : Label) (P : Reader A) (X : Lang A) → Sound P X
      → Sound (tree l P) (Branch l X)
  tree_sound l P X p ts f r e = go (P ts) refl
    where
      go : (a : Answer A) → P ts ≡ a → IsRead (Branch l X) ts f r
      go (done g s) d =
          let w = tree_done l P ts g s d in
          let tree : f ≡ branch l g none = cc in
          let rest : s ≡ r = cc in
          let x = p ts g s d in
          record {
            among = (g, tree, x.among);
            tokens = x.tokens ∙ ap (λ z. yield g ++ z) rest ∙ sym (yield_tree l g r)
                ∙ ap (λ z. yield z ++ r) (sym tree);
          }
      go (stuck b s) d = let w = tree_fails l P ts b s d in absurd cc

  pub tree_complete : (l : Label) (P : Reader A) (X : Lang A) (S : List A → Type 0) → Complete P X S
      → Complete (tree l P) (Branch l X) S
  tree_complete l P X S p f r (g, e, x) s =
      ap (λ z. tree l P (yield z ++ r)) e ∙ ap (tree l P) (yield_tree l g r)
      ∙ tree_done l P (yield g ++ r) g r (p g r x s) ∙ ap (λ z. done z r) (sym e)

  pub choice_sound : (t : List A → Bool) (P Q : Reader A) (X : Lang A) → Sound P X → Sound Q X
      → Sound (λ ts. choice (t ts) P Q ts) X
  choice_sound t P Q X p q ts f r e = go (t ts) refl
    where
      go : (b : Bool) → t ts ≡ b → IsRead X ts f r
      go true h = p ts f r (sym (choice_yes (t ts) P Q ts h) ∙ e)
      go false h = q ts f r (sym (choice_no (t ts) P Q ts h) ∙ e)

  pub choice_complete : (t : List A → Bool) (P Q : Reader A) (X Y : Lang A) (S : List A → Type 0)
      → Complete P X S → Complete Q Y S
      → ((f : Forest Label A) (r : List A) → X f → S r → t (yield f ++ r) ≡ true)
      → ((f : Forest Label A) (r : List A) → Y f → S r → t (yield f ++ r) ≡ false)
      → Complete (λ ts. choice (t ts) P Q ts) (X ∪ Y) S
  choice_complete t P Q X Y S p q h k f r (inl x) s =
      choice_yes (t (yield f ++ r)) P Q (yield f ++ r) (h f r x s) ∙ p f r x s
  choice_complete t P Q X Y S p q h k f r (inr y) s =
      choice_no (t (yield f ++ r)) P Q (yield f ++ r) (k f r y s) ∙ q f r y s

  pub nest_sound : (room : Bool) (P : Reader A) (X : Lang A) → (IsTrue room → Sound P X)
      → Sound (nest room P) (λ f. IsTrue room × X f)
  unfolding nest
  nest_sound true P X p ts f r e =
      let q = p refl ts f r (sym (choice_yes true P too_deep ts refl) ∙ e) in
      record { among = (refl, q.among); tokens = q.tokens }
  nest_sound false P X p ts f r e = let w = choice_no false P too_deep ts refl in absurd cc

  pub nest_complete : (room : Bool) (P : Reader A) (X : Lang A) (S : List A → Type 0)
      → (IsTrue room → Complete P X S) → Complete (nest room P) (λ f. IsTrue room × X f) S
  unfolding nest
  nest_complete room P X S p f r (h, x) s =
      choice_yes room P too_deep (yield f ++ r) h ∙ p h f r x s

  many_sound_step : (t : List A → Bool) (P : Reader A) (X : Lang A) → Sound P X → (n : ℕ)
      → Sound (many t P n) (Many X) → Sound (many t P (suc n)) (Many X)
  unfolding many
  many_sound_step t P X p n again = choice_sound t (both P (many t P n)) skip (Many X)
      (sound_more (both P (many t P n)) (X ⋄ Many X) (Many X)
      (λ f (g, h, e, x, m). one_more f g h e x m) (both_sound P (many t P n) X (Many X) p again))
      (λ ts f r e. record {
        among = no_more f (let z : f ≡ none = cc in z);
        tokens = let a : none ≡ f = cc in let b : ts ≡ r = cc in b ∙ ap (λ z. yield z ++ r) a;
      })

  pub many_sound : (t : List A → Bool) (P : Reader A) (X : Lang A) → Sound P X → (n : ℕ)
      → Sound (many t P n) (Many X)
  unfolding many
  many_sound t P X p zero ts f r e = record {
    among = no_more f (let z : f ≡ none = cc in z);
    tokens = let a : none ≡ f = cc in let b : ts ≡ r = cc in b ∙ ap (λ z. yield z ++ r) a;
  }
  many_sound t P X p (suc n) ts f r e = many_sound_step t P X p n (many_sound t P X p n) ts f r e

  pub repeat_sound : (t : List A → Bool) (P : Reader A) (X : Lang A) → Sound P X
      → Sound (repeat t P) (Many X)
  unfolding repeat
  repeat_sound t P X p ts f r e = many_sound t P X p (suc (length ts)) ts f r e

  pub repeat_complete : (t : List A → Bool) (P : Reader A) (X : Lang A) (S T : List A → Type 0)
      → Takes P → Complete P X S
      → ((f : Forest Label A) (r : List A) → X f → t (yield f ++ r) ≡ true)
      → ((r : List A) → T r → t r ≡ false)
      → ((g : Forest Label A) (r : List A) → Many X g → T r → S (yield g ++ r))
      → (f : Forest Label A) (r : List A) → Many X f → T r → repeat t P (yield f ++ r) ≡ done f r
  repeat_complete t P X S T takes p has stop next f r (no_more i e) k =
      ap (λ z. repeat t P (yield z ++ r)) e ∙ repeat_end t P r (stop r k)
      ∙ ap (λ z. done z r) (sym e)
  repeat_complete t P X S T takes p has stop next f r (one_more i g h e x m) k =
      ap (λ z. repeat t P (yield z ++ r)) e ∙ ap (repeat t P) (yield_join_more g h r)
      ∙ repeat_step t P takes (yield g ++ (yield h ++ r)) g (yield h ++ r) (has g (yield h ++ r) x)
      (p g (yield h ++ r) x (next h r m k))
      ∙ ap (λ (z : Answer A). after z (λ i s. done (join g i) s))
      (repeat_complete t P X S T takes p has stop next h r m k) ∙ ap (λ z. done z r) (sym e)

module _ {A : Type 0} (kind : A → Kind) where
  pub token_sound : (p : Kind → Bool) → Sound (token kind p) (Of kind p)
  token_sound p [] f r e = let d = token_end kind p in absurd cc
  token_sound p (a ∷ ts) f r e = go (p (kind a)) refl
    where
      go : (b : Bool) → p (kind a) ≡ b → IsRead (Of kind p) (a ∷ ts) f r
      go true h =
          let d = token_yes kind p a ts h in
          let tree : f ≡ leaf a none = cc in
          let rest : ts ≡ r = cc in
          record {
            among = (a, tree, h);
            tokens = ap (λ z. a ∷ z) rest ∙ ap (λ z. yield z ++ r) (sym tree);
          }
      go false h = let d = token_no kind p a ts h in absurd cc

  pub token_complete : (p : Kind → Bool) (S : List A → Type 0)
      → Complete (token kind p) (Of kind p) S
  token_complete p S f r (a, e, h) s =
      ap (λ z. token kind p (yield z ++ r)) e ∙ token_yes kind p a r h ∙ ap (λ z. done z r) (sym e)
