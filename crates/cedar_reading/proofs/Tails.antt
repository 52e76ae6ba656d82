-- Items with a separator before each, and what may follow the last one.
use Rattle.std.specs.Prelude.{◌≡◌, ◌<◌, ℕ, zero, suc, Bool, true, false, List, [], ◌∷◌, length}
use Rattle.std.proofs.Common.{refl, sym, ap, ◌∙◌, arith}
use Rattle.cedar_tokens.specs.declared.kind.Kind.{Kind}
use Rattle.cedar_tokens.specs.Kinds.{is, begins}
use Rattle.cedar_grammar.specs.Trees.{Label, Forest, none, leaf}
use Rattle.cedar_grammar.specs.Reader.Reading.{Answer, Reader, done, stuck, choice, both, one}
use Rattle.cedar_grammar.specs.Reader.Rules.{tail_to, tailed}
use Rattle.cedar_grammar.proofs.Readers.Equations.{Takes, choice_yes, choice_no, both_first, both_fails, onto, onto_onto}
use Rattle.cedar_reading.specs.Reading.{kind}
use Rattle.cedar_reading.specs.declared.lexeme.Lexeme.{Lexeme}
use Rattle.cedar_reading.proofs.Steps.{token_at}

module _ (s : Kind) (u : Kind → Bool) (X Y Z : Reader Lexeme) where
  abbrev following : ℕ → Reader Lexeme
  following n rs = choice (begins kind u rs) (both X (tail_to kind s u X Y Z n)) Y rs

  stop : (n : ℕ) (ts : List Lexeme) → begins kind (is s) ts ≡ false
      → tail_to kind s u X Y Z n ts ≡ Z ts
  stop zero ts h = refl
  stop (suc n) ts h = choice_no _ _ _ ts h

  sign : (n : ℕ) (d : Lexeme) (ts : List Lexeme) → is s d.kind ≡ true
      → tail_to kind s u X Y Z (suc n) (d ∷ ts) ≡ onto (leaf d none) (following n ts)
  sign n d ts e = choice_yes _ _ _ (d ∷ ts) e ∙ both_first (one kind s) (following n) (d ∷ ts)
      (leaf d none) ts (token_at (is s) (d ∷ ts) d ts refl e)

  item : (n : ℕ) (d : Lexeme) (ts : List Lexeme) (f : Forest Label Lexeme) (r : List Lexeme)
      → is s d.kind ≡ true → begins kind u ts ≡ true → X ts ≡ done f r
      → tail_to kind s u X Y Z (suc n) (d ∷ ts) ≡ onto (leaf d f) (tail_to kind s u X Y Z n r)
  item n d ts f r e i j = sign n d ts e ∙ ap (onto (leaf d none)) (choice_yes _ _ _ ts i
      ∙ both_first X (tail_to kind s u X Y Z n) ts f r j)
      ∙ onto_onto (leaf d none) f (tail_to kind s u X Y Z n r)

  item_fails : (n : ℕ) (d : Lexeme) (ts : List Lexeme) (b : Bool) (r : List Lexeme)
      → is s d.kind ≡ true → begins kind u ts ≡ true → X ts ≡ stuck b r
      → tail_to kind s u X Y Z (suc n) (d ∷ ts) ≡ stuck b r
  item_fails n d ts b r e i j = sign n d ts e ∙ ap (onto (leaf d none)) (choice_yes _ _ _ ts i
      ∙ both_fails X (tail_to kind s u X Y Z n) ts b r j)

  last : (n : ℕ) (d : Lexeme) (ts : List Lexeme) → is s d.kind ≡ true → begins kind u ts ≡ false
      → tail_to kind s u X Y Z (suc n) (d ∷ ts) ≡ onto (leaf d none) (Y ts)
  last n d ts e i = sign n d ts e ∙ ap (onto (leaf d none)) (choice_no _ _ _ ts i)

  turn : (n m : ℕ) (d : Lexeme) (ts : List Lexeme) → ((f : Forest Label Lexeme) (r : List Lexeme)
      → X ts ≡ done f r → tail_to kind s u X Y Z n r ≡ tail_to kind s u X Y Z m r) → (b : Bool)
      → is s d.kind ≡ b → (c : Bool) → begins kind u ts ≡ c
      → (a : Answer Lexeme) → X ts ≡ a
      → tail_to kind s u X Y Z (suc n) (d ∷ ts) ≡ tail_to kind s u X Y Z (suc m) (d ∷ ts)
  turn n m d ts again false e c i a j = stop (suc n) (d ∷ ts) e ∙ sym (stop (suc m) (d ∷ ts) e)
  turn n m d ts again true e false i a j = last n d ts e i ∙ sym (last m d ts e i)
  turn n m d ts again true e true i (done f r) j =
      item n d ts f r e i j ∙ ap (onto (leaf d f)) (again f r j) ∙ sym (item m d ts f r e i j)
  turn n m d ts again true e true i (stuck b r) j =
      item_fails n d ts b r e i j ∙ sym (item_fails m d ts b r e i j)

  -- More turns than there are tokens change nothing.
  more : Takes X → (n m : ℕ) (ts : List Lexeme) → length ts < n → length ts < m
      → tail_to kind s u X Y Z n ts ≡ tail_to kind s u X Y Z m ts
  more takes zero m ts h k = absurd (omega arith)
  more takes (suc n) zero ts h k = absurd (omega arith)
  more takes (suc n) (suc m) [] h k = stop (suc n) [] refl ∙ sym (stop (suc m) [] refl)
  more takes (suc n) (suc m) (d ∷ ts) h k =
      turn n m d ts (λ f r j. let shorter : length r < length ts = takes ts f r j in more takes n m
      r (omega arith) (omega arith)) (is s d.kind) refl (begins kind u ts) refl (X ts) refl

  pub tailed_end : (ts : List Lexeme) → begins kind (is s) ts ≡ false
      → tailed kind s u X Y Z ts ≡ Z ts
  unfolding tailed
  tailed_end ts h = stop (suc (length ts)) ts h

  pub tailed_item : Takes X → (d : Lexeme) (ts : List Lexeme) (f : Forest Label Lexeme)
      (r : List Lexeme) → is s d.kind ≡ true → begins kind u ts ≡ true → X ts ≡ done f r
      → tailed kind s u X Y Z (d ∷ ts) ≡ onto (leaf d f) (tailed kind s u X Y Z r)
  unfolding tailed
  tailed_item takes d ts f r e i j =
      let shorter : length r < length ts = takes ts f r j in
      item (length (d ∷ ts)) d ts f r e i j ∙ ap (onto (leaf d f))
      (more takes (length (d ∷ ts)) (suc (length r)) r (omega arith) (omega arith))

  pub tailed_fails : (d : Lexeme) (ts : List Lexeme) (b : Bool) (r : List Lexeme)
      → is s d.kind ≡ true → begins kind u ts ≡ true → X ts ≡ stuck b r
      → tailed kind s u X Y Z (d ∷ ts) ≡ stuck b r
  unfolding tailed
  tailed_fails d ts b r e i j = item_fails (length (d ∷ ts)) d ts b r e i j

  pub tailed_last : (d : Lexeme) (ts : List Lexeme) → is s d.kind ≡ true → begins kind u ts ≡ false
      → tailed kind s u X Y Z (d ∷ ts) ≡ onto (leaf d none) (Y ts)
  unfolding tailed
  tailed_last d ts e i = last (length (d ∷ ts)) d ts e i
