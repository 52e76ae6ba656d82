-- Equations of the readers.
use Rattle.std.specs.Prelude.{◌≡◌, ℕ, zero, suc, ◌<◌, ◌≤◌, Bool, true, false, List, [], ◌∷◌, length}
use Rattle.std.proofs.Common.{refl, sym, ap, ◌∙◌, arith}
use Rattle.cedar_tokens.specs.declared.kind.Kind.{Kind}
use Rattle.cedar_grammar.specs.Trees.{Label, Forest, none, leaf, branch, join}
use Rattle.cedar_grammar.specs.Reader.Reading.{Answer, Reader, done, stuck, after, choice, both, tree, many, repeat, token}
use Rattle.cedar_tokens.specs.Kinds.{begins}

pub join_none : {L A : Type 0} → (f : Forest L A) → join f none ≡ f
join_none none = refl
join_none (leaf a f) = ap (leaf a) (join_none f)
join_none (branch l f g) = ap (branch l f) (join_none g)

pub join_assoc : {L A : Type 0} → (f g h : Forest L A) → join (join f g) h ≡ join f (join g h)
join_assoc none g h = refl
join_assoc (leaf a f) g h = ap (leaf a) (join_assoc f g h)
join_assoc (branch l f k) g h = ap (branch l f) (join_assoc k g h)

module _ {A : Type 0} where
  pub choice_yes : (b : Bool) (P Q : Reader A) (ts : List A) → b ≡ true → choice b P Q ts ≡ P ts
  unfolding choice
  choice_yes b P Q ts e = ap (λ (x : Bool). choice x P Q ts) e

  pub choice_no : (b : Bool) (P Q : Reader A) (ts : List A) → b ≡ false → choice b P Q ts ≡ Q ts
  unfolding choice
  choice_no b P Q ts e = ap (λ (x : Bool). choice x P Q ts) e

  pub both_first : (P Q : Reader A) (ts : List A) (f : Forest Label A) (r : List A)
      → P ts ≡ done f r
      → both P Q ts ≡ after (Q r) (λ g s. done (join f g) s)
  unfolding both
  both_first P Q ts f r e =
      ap (λ (x : Answer A). after x (λ f r. after (Q r) (λ g s. done (join f g) s))) e

  pub both_done : (P Q : Reader A) (ts : List A) (f : Forest Label A) (r : List A)
      (g : Forest Label A) (s : List A) → P ts ≡ done f r → Q r ≡ done g s
      → both P Q ts ≡ done (join f g) s
  both_done P Q ts f r g s e d =
      both_first P Q ts f r e ∙ ap (λ (x : Answer A). after x (λ g s. done (join f g) s)) d

  pub both_fails : (P Q : Reader A) (ts : List A) (b : Bool) (r : List A) → P ts ≡ stuck b r
      → both P Q ts ≡ stuck b r
  unfolding both
  both_fails P Q ts b r e =
      ap (λ (x : Answer A). after x (λ f r. after (Q r) (λ g s. done (join f g) s))) e

  pub both_then_fails : (P Q : Reader A) (ts : List A) (f : Forest Label A) (r : List A) (b : Bool)
      (s : List A) → P ts ≡ done f r → Q r ≡ stuck b s
      → both P Q ts ≡ stuck b s
  both_then_fails P Q ts f r b s e d =
      both_first P Q ts f r e ∙ ap (λ (x : Answer A). after x (λ g s. done (join f g) s)) d

  pub tree_done : (l : Label) (P : Reader A) (ts : List A) (f : Forest Label A) (r : List A)
      → P ts ≡ done f r → tree l P ts ≡ done (branch l f none) r
  unfolding tree
  tree_done l P ts f r e = ap (λ (x : Answer A). after x (λ f r. done (branch l f none) r)) e

  pub tree_fails : (l : Label) (P : Reader A) (ts : List A) (b : Bool) (r : List A)
      → P ts ≡ stuck b r → tree l P ts ≡ stuck b r
  unfolding tree
  tree_fails l P ts b r e = ap (λ (x : Answer A). after x (λ f r. done (branch l f none) r)) e

  -- Each success takes a token.
  abbrev pub Takes : Reader A → Type 0
  Takes P = (ts : List A) (f : Forest Label A) (r : List A) → P ts ≡ done f r → length r < length ts

  pub many_step : (t : List A → Bool) (P : Reader A) (n : ℕ) (ts : List A) (f : Forest Label A)
      (r : List A) → t ts ≡ true → P ts ≡ done f r
      → many t P (suc n) ts ≡ after (many t P n r) (λ g s. done (join f g) s)
  unfolding many
  many_step t P n ts f r h e = choice_yes _ _ _ ts h ∙ both_first P (many t P n) ts f r e

  pub many_fails : (t : List A → Bool) (P : Reader A) (n : ℕ) (ts : List A) (b : Bool) (r : List A)
      → t ts ≡ true → P ts ≡ stuck b r
      → many t P (suc n) ts ≡ stuck b r
  unfolding many
  many_fails t P n ts b r h e = choice_yes _ _ _ ts h ∙ both_fails P (many t P n) ts b r e

  pub many_end : (t : List A → Bool) (P : Reader A) (n : ℕ) (ts : List A) → t ts ≡ false
      → many t P n ts ≡ done none ts
  unfolding many
  many_end t P zero ts h = refl
  many_end t P (suc n) ts h = choice_no _ _ _ ts h

  -- More turns than tokens change nothing.
  many_turn : (t : List A → Bool) (P : Reader A) (n m : ℕ) (ts : List A)
      → ((f : Forest Label A) (r : List A) → P ts ≡ done f r → many t P n r ≡ many t P m r)
      → (x : Bool) → t ts ≡ x → (a : Answer A) → P ts ≡ a
      → many t P (suc n) ts ≡ many t P (suc m) ts
  many_turn t P n m ts again true h (done f r) e = many_step t P n ts f r h e
      ∙ ap (λ (x : Answer A). after x (λ g s. done (join f g) s)) (again f r e)
      ∙ sym (many_step t P m ts f r h e)
  many_turn t P n m ts again true h (stuck b r) e =
      many_fails t P n ts b r h e ∙ sym (many_fails t P m ts b r h e)
  many_turn t P n m ts again false h a e =
      many_end t P (suc n) ts h ∙ sym (many_end t P (suc m) ts h)

  -- More turns than tokens change nothing.
  pub many_more : (t : List A → Bool) (P : Reader A) → Takes P → (n m : ℕ) (ts : List A)
      → length ts < n → length ts < m → many t P n ts ≡ many t P m ts
  many_more t P takes zero m ts h k = absurd (omega arith)
  many_more t P takes (suc n) zero ts h k = absurd (omega arith)
  many_more t P takes (suc n) (suc m) ts h k =
      many_turn t P n m ts (λ f r e. let shorter : length r < length ts = takes ts f r e in
      many_more t P takes n m r (omega arith) (omega arith)) (t ts) refl (P ts) refl

  pub repeat_step : (t : List A → Bool) (P : Reader A) → Takes P
      → (ts : List A) (f : Forest Label A) (r : List A) → t ts ≡ true → P ts ≡ done f r
      → repeat t P ts ≡ after (repeat t P r) (λ g s. done (join f g) s)
  unfolding repeat
  repeat_step t P takes ts f r h e =
      let shorter : length r < length ts = takes ts f r e in
      many_step t P (length ts) ts f r h e
      ∙ ap (λ (x : Answer A). after x (λ g s. done (join f g) s))
      (many_more t P takes (length ts) (suc (length r)) r shorter (omega arith))

  pub repeat_fails : (t : List A → Bool) (P : Reader A) (ts : List A) (b : Bool) (r : List A)
      → t ts ≡ true → P ts ≡ stuck b r → repeat t P ts ≡ stuck b r
  unfolding repeat
  repeat_fails t P ts b r h e = many_fails t P (length ts) ts b r h e

  pub repeat_end : (t : List A → Bool) (P : Reader A) (ts : List A) → t ts ≡ false
      → repeat t P ts ≡ done none ts
  unfolding repeat
  repeat_end t P ts h = many_end t P (suc (length ts)) ts h

  -- What was read so far, followed by what reading on gives.
  abbrev pub onto : Forest Label A → Answer A → Answer A
  onto f a = after a (λ g s. done (join f g) s)

  pub onto_onto : (f g : Forest Label A) (a : Answer A) → onto f (onto g a) ≡ onto (join f g) a
  onto_onto f g (done h r) = ap (λ x. done x r) (sym (join_assoc f g h))
  onto_onto f g (stuck b r) = refl

  -- the state of a loop over items: those read so far, and the tokens that are left
  pub record IsRead (t : List A → Bool) (P : Reader A) (ts : List A) (f : Forest Label A)
      (r : List A) : Type 0 where
    pub same : repeat t P ts ≡ onto f (repeat t P r)

  pub read_none : (t : List A → Bool) (P : Reader A) (ts : List A) → IsRead t P ts none ts
  read_none t P ts = record { same = go (repeat t P ts) }
    where
      go : (a : Answer A) → a ≡ onto none a
      go (done f r) = refl
      go (stuck b r) = refl

  pub read_more : (t : List A → Bool) (P : Reader A) → Takes P
      → (ts : List A) (f : Forest Label A) (r : List A) (g : Forest Label A) (s : List A)
      → IsRead t P ts f r → t r ≡ true → P r ≡ done g s → IsRead t P ts (join f g) s
  read_more t P takes ts f r g s h yes' e = record {
    same = h.same ∙ ap (onto f) (repeat_step t P takes r g s yes' e) ∙ onto_onto f g (repeat t P s);
  }

  pub read_end : (t : List A → Bool) (P : Reader A) (ts : List A) (f : Forest Label A) (r : List A)
      → IsRead t P ts f r → t r ≡ false → repeat t P ts ≡ done f r
  read_end t P ts f r h e =
      h.same ∙ ap (onto f) (repeat_end t P r e) ∙ ap (λ x. done x r) (join_none f)

  pub read_fails : (t : List A → Bool) (P : Reader A) (ts : List A) (f : Forest Label A)
      (r : List A) (b : Bool) (s : List A)
      → IsRead t P ts f r → t r ≡ true → P r ≡ stuck b s → repeat t P ts ≡ stuck b s
  read_fails t P ts f r b s h yes' e = h.same ∙ ap (onto f) (repeat_fails t P r b s yes' e)

module _ {A : Type 0} (kind : A → Kind) where
  pub token_yes : (p : Kind → Bool) (a : A) (ts : List A) → p (kind a) ≡ true
      → token kind p (a ∷ ts) ≡ done (leaf a none) ts
  unfolding token
  token_yes p a ts e = choice_yes (p (kind a)) _ _ ts e

  pub token_no : (p : Kind → Bool) (a : A) (ts : List A) → p (kind a) ≡ false
      → token kind p (a ∷ ts) ≡ stuck false (a ∷ ts)
  unfolding token
  token_no p a ts e = choice_no (p (kind a)) _ _ ts e

  pub token_end : (p : Kind → Bool) → token kind p [] ≡ stuck false []
  unfolding token
  token_end p = refl

  -- a token that the list begins with
  pub token_begins : (p : Kind → Bool) (ts : List A) → begins kind p ts ≡ true
      → (a : A) × (r : List A) × (ts ≡ a ∷ r) × (token kind p ts ≡ done (leaf a none) r)
  token_begins p [] e = absurd cc
  token_begins p (a ∷ ts) e = (a, ts, refl, token_yes p a ts e)

  pub token_takes : (p : Kind → Bool) → Takes (token kind p)
  token_takes p [] f r e = let d = token_end p in absurd cc
  token_takes p (a ∷ ts) f r e = go (p (kind a)) refl
    where
      go : (b : Bool) → p (kind a) ≡ b → length r < length (a ∷ ts)
      go true h = let d = token_yes p a ts h in let same : r ≡ ts = cc in rw same (omega arith)
      go false h = let d = token_no p a ts h in absurd cc

module _ {A : Type 0} where
  pub both_takes : (P Q : Reader A) → Takes P → Takes Q → Takes (both P Q)
  both_takes P Q p q ts f r e = go (P ts) refl
    where
      inner : (g : Forest Label A) (s : List A) → P ts ≡ done g s → (b : Answer A) → Q s ≡ b
          → length r < length ts
      inner g s d (done h u) k =
          let w = both_done P Q ts g s h u d k in
          let same : r ≡ u = cc in
          let x : length s < length ts = p ts g s d in
          let y : length u < length s = q s h u k in
          rw same (omega arith)
      inner g s d (stuck b u) k = let w = both_then_fails P Q ts g s b u d k in absurd cc

      go : (a : Answer A) → P ts ≡ a → length r < length ts
      go (done g s) d = inner g s d (Q s) refl
      go (stuck b s) d = let w = both_fails P Q ts b s d in absurd cc

  pub tree_takes : (l : Label) (P : Reader A) → Takes P → Takes (tree l P)
  tree_takes l P p ts f r e = go (P ts) refl
    where
      go : (a : Answer A) → P ts ≡ a → length r < length ts
      go (done g s) d =
          let w = tree_done l P ts g s d in
          let same : r ≡ s = cc in
          rw same (p ts g s d)
      go (stuck b s) d = let w = tree_fails l P ts b s d in absurd cc

  -- Success adds no token.
  abbrev pub Keeps : Reader A → Type 0
  Keeps P = (ts : List A) (f : Forest Label A) (r : List A) → P ts ≡ done f r → length r ≤ length ts
