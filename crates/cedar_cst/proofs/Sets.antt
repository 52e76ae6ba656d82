-- All policies of a text: what reads them, and what stands for them.
use Rattle.std.specs.Prelude.{◌≡◌, ◌==◌, ℕ, suc, ◌||◌, Bool, true, false, List, [], ◌∷◌, length, Ok, Err, None}
use Rattle.std.proofs.Common.{refl, sym, ap, ◌∙◌, inl, inr, arith}
use Rattle.std.proofs.lemmas.Bool.Decides.{nat_tests}
use Rattle.cedar_tokens.specs.declared.kind.Kind.TheVariants as K
use Rattle.cedar_tokens.specs.Kinds.{is, begins, is_effect}
use Rattle.cedar_grammar.specs.Trees.{Label, Forest, none, branch}
use Rattle.cedar_grammar.specs.Reader.Reading.{Answer, Reader, done, stuck, tree, repeat}
use Rattle.cedar_grammar.proofs.Readers.Equations.{tree_done, tree_fails, read_end, read_fails}
use Rattle.cedar_grammar.specs.Erased.{policy_parts}
use Rattle.cedar_reading.specs.Reading.{kind, Fails}
use Rattle.cedar_cst.specs.Inside.ReadingSet.{GivesSet}
use Rattle.cedar_reading.specs.declared.lexeme.Lexeme.{Lexeme}
use Rattle.cedar_reading.specs.declared.reading.Refusal.{Refusal}
use Rattle.cedar_reading.specs.declared.reading.Refusal.TheVariants.{Grammar, TooDeep, OutOfMemory}
use Rattle.cedar_grammar.specs.declared.tree.Node.{Node}
use Rattle.cedar_grammar.specs.declared.tree.Policy.{Policy}
use Rattle.cedar_grammar.specs.declared.tree.Policies.{Policies}
use Rattle.cedar_reading.proofs.Manys.{ManyRead}
use Rattle.cedar_cst.proofs.Policies.{policies_row}

-- a policy begins
abbrev pub starts : List Lexeme → Bool
starts ts = begins kind (λ x. is K.At x || is_effect x) ts

-- a refusal by the reader
pub set_fails : (e : Refusal) (a : Answer Lexeme) → Fails e a → GivesSet (Err e) a
set_fails (Grammar left) a h = (h.0, inl h.1, h.2)
set_fails (TooDeep left) a h = (h.0, h.1, h.2)
set_fails OutOfMemory a h = tt

-- the refusal at the first token that is left
pub set_left : (e : Refusal) (a : Answer Lexeme) (f : Forest Label Lexeme) (rest : List Lexeme)
    → Fails e (stuck false rest) → (length rest == 0) ≡ false → a ≡ done f rest → GivesSet (Err e) a
set_left (Grammar left) a f [] h n i = absurd cc
set_left (Grammar left) a f (t ∷ s) h n i =
    (t ∷ s, inr (f, t, s, i, refl), (let same : t ∷ s ≡ h.0 = cc in h.2 ∙ ap length (sym same)))
set_left (TooDeep left) a f rest h n i =
    absurd (let x : stuck false rest ≡ stuck true h.0 = h.1 in cc)
set_left OutOfMemory a f rest h n i = tt

some_left : (n : ℕ) → (suc n == 0) ≡ true → ⊥
some_left n h = grind (arith, nat_tests)

-- P reads a policy
module _ (P : Reader Lexeme) where
  abbrev pub set_reader : Reader Lexeme
  set_reader = tree Label.policies (repeat starts P)

  pub set_stuck : (ts rest : List Lexeme) (items : List (Node Policy)) (b : Bool) (r : List Lexeme)
      → ManyRead Label.policy policy_parts starts P ts items rest → starts rest ≡ true
      → P rest ≡ stuck b r → set_reader ts ≡ stuck b r
  set_stuck ts rest items b r i h e =
      tree_fails Label.policies _ ts b r (read_fails starts P ts i.row rest b r i.read h e)

  pub set_done : (ts rest : List Lexeme) (items : List (Node Policy))
      → (i : ManyRead Label.policy policy_parts starts P ts items rest) → starts rest ≡ false
      → set_reader ts ≡ done (branch Label.policies i.row none) rest
  set_done ts rest items i h =
      tree_done Label.policies _ ts i.row rest (read_end starts P ts i.row rest i.read h)

  pub set_given : (ts rest : List Lexeme) (p : Policies)
      → ManyRead Label.policy policy_parts starts P ts p.policies.items rest → starts rest ≡ false
      → (length rest == 0) ≡ true → GivesSet (Ok p) (set_reader ts)
  set_given ts [] p i h n = (
    branch Label.policies i.row none,
    set_done ts [] p.policies.items i h,
    λ r. ap (λ z. branch (Label.policies, None) z none)
        (policies_row p.policies.items ∙ i.stands.same r.0),
  )
  set_given ts (t ∷ s) p i h n = absurd (some_left (length s) n)
