-- Whether a list of the grammar begins with some tokens depends on their kinds alone.
use Rattle.std.specs.Prelude.{◌≡◌, ◌↔◌, ℕ, Bool, true, false, List, [], ◌∷◌, ◌++◌, IsTrue}
use Rattle.std.proofs.Common.{refl, sym, ap, ◌∙◌}
use Rattle.cedar_tokens.specs.Units.{IsToken}
use Rattle.cedar_tokens.specs.TokenKinds.{kind_of}
use Rattle.cedar_grammar.specs.Beginnings.{Begins}
use Rattle.cedar_grammar.specs.Laws.{AreTokens}
use Rattle.cedar_grammar.specs.Reader.Hopeless.{BeginsByKinds}
use Rattle.cedar_grammar.specs.Reader.Lines.{set_to}
use Rattle.cedar_grammar.specs.Reader.Reading.{Answer, done, stuck}
use Rattle.cedar_grammar.proofs.Answers.{Says, says}
use Rattle.cedar_grammar.proofs.Rules.Maps.{each, answer_of, set_agrees}
use Rattle.cedar_grammar.proofs.Texts.Beginnings.{beginnings_agree}
use Rattle.cedar_grammar.proofs.Texts.Grammars.{texts_are_tokens}
use Rattle.cedar_grammar.proofs.Texts.Kinds.{samples}
use Rattle.cedar_grammar.proofs.Texts.Cuts.{whole_begins, not_hopeless}
use Rattle.cedar_faults.specs.Expectations.{KindDecides}
use Rattle.cedar_tokens.proofs.Lists.{All-append, All-parts}

-- no tokens are left
abbrev pub at_end : {A : Type 0} → Answer A → Bool
at_end (done f []) = true
at_end (done f (a ∷ r)) = false
at_end (stuck b []) = true
at_end (stuck b (a ∷ r)) = false

-- the reader reaches the end of the tokens
pub can_begin : ℕ → List (List ℕ) → Bool
can_begin d ts = at_end (set_to kind_of d ts)

module _ (d : ℕ) (ts : List (List ℕ)) where
  says_begins : (x : Answer (List ℕ)) → Says kind_of d ts x
      → IsTrue (at_end x) ↔ BeginsByKinds kind_of d ts
  says_begins (done f []) g = (λ _. whole_begins kind_of d f ts g, λ _. refl)
  says_begins (done f (a ∷ r)) h =
      (λ i. absurd cc, λ b. absurd (not_hopeless kind_of d ts h.0 a r false b h.1))
  says_begins (stuck b []) h = (λ _. h.before, λ _. refl)
  says_begins (stuck b (a ∷ r)) h =
      (λ i. absurd cc, λ x. absurd (not_hopeless kind_of d ts h.0 a r b x h.1))

  begins_by_kinds : IsTrue (can_begin d ts) ↔ BeginsByKinds kind_of d ts
  unfolding can_begin
  begins_by_kinds =
      says_begins (set_to kind_of d ts) (says kind_of samples d ts (set_to kind_of d ts) refl)

-- for tokens
pub begins : (d : ℕ) (ts : List (List ℕ)) → AreTokens (λ t. t) ts
    → IsTrue (can_begin d ts) ↔ Begins d ts
begins d ts a =
    let k = begins_by_kinds d ts in
    let b = beginnings_agree d ts a in
    (λ i. b.1 (k.0 i), λ x. k.1 (b.0 x))

-- the kinds of the tokens alone decide
at_end_kept : (x : Answer (List ℕ)) → at_end (answer_of kind_of x) ≡ at_end x
at_end_kept (done f []) = refl
at_end_kept (done f (a ∷ r)) = refl
at_end_kept (stuck b []) = refl
at_end_kept (stuck b (a ∷ r)) = refl

pub by_kinds : (d : ℕ) (ts : List (List ℕ))
    → can_begin d ts ≡ at_end (set_to (λ k. k) d (each kind_of ts))
unfolding can_begin
by_kinds d ts = sym (at_end_kept (set_to kind_of d ts))
    ∙ sym (ap at_end (set_agrees kind_of kind_of (λ k. k) (λ t. refl) d ts))

each_last : (front : List (List ℕ)) (t u : List ℕ) → kind_of t ≡ kind_of u
    → each kind_of (front ++ t ∷ []) ≡ each kind_of (front ++ u ∷ [])
each_last [] t u e = ap (λ k. k ∷ []) e
each_last (x ∷ front) t u e = ap (λ ks. kind_of x ∷ ks) (each_last front t u e)

same_kind : (d : ℕ) (front : List (List ℕ)) (t u : List ℕ) → kind_of t ≡ kind_of u
    → can_begin d (front ++ t ∷ []) ≡ can_begin d (front ++ u ∷ [])
same_kind d front t u e =
    by_kinds d (front ++ t ∷ []) ∙ ap (λ ks. at_end (set_to (λ k. k) d ks)) (each_last front t u e)
    ∙ sym (by_kinds d (front ++ u ∷ []))

pub with_token : (front : List (List ℕ)) (t : List ℕ) → AreTokens (λ t. t) front → IsToken t
    → AreTokens (λ t. t) (front ++ t ∷ [])
with_token front t h i = All-append IsToken front (t ∷ []) h (i, tt)

-- tokens that begin a list are tokens
pub begins_tokens : (d : ℕ) (front : List (List ℕ)) → Begins d front → AreTokens (λ t. t) front
begins_tokens d front b = (All-parts IsToken front b.rest
    (texts_are_tokens (λ t. t) d (front ++ b.rest) b.tree b.grammar)).0

pub kind_decides : KindDecides
kind_decides d front t u i j e b =
    let one : AreTokens (λ t. t) (front ++ t ∷ []) = begins_tokens d (front ++ t ∷ []) b in
    let x : IsTrue (can_begin d (front ++ t ∷ [])) = (begins d (front ++ t ∷ []) one).1 b in
    (begins d (front ++ u ∷ []) (with_token front u (All-parts IsToken front (t ∷ []) one).0 j)).0
    (sym (same_kind d front t u e) ∙ x)
