-- Where reading and writing a policy is refused, no policy goes on: by the laws of the reader of
-- trees for the rules' bones.
use Rattle.std.proofs.Common.{◌≡◌, ℕ, zero, suc, pos, Bool, true, false, List, [], ◌∷◌, refl, sym, ap, ◌∙◌, append-nil}
use Rattle.std.specs.Prelude.{IsTrue}
use Rattle.std.proofs.lemmas.Bool.{both_ways, false_from_ne_true}
use Rattle.cedar_tokens.specs.declared.kind.Kind.{Kind}
use Rattle.cedar_tokens.specs.TokenKinds.{kind_of}
use Rattle.cedar_grammar.specs.Trees.{Label, Forest, yield}
use Rattle.cedar_grammar.specs.Languages.{Lang, Never}
use Rattle.cedar_grammar.specs.Reader.Reading.{Reader, done, too_deep}
use Rattle.cedar_grammar.specs.Reader.Rules as G
use Rattle.cedar_grammar.specs.Reader.Rules.{expr_first, read}
use Rattle.cedar_grammar.proofs.KindSets.{within, within_at}
use Rattle.cedar_grammar.proofs.Rules.Meanings as M
use Rattle.cedar_grammar.proofs.Rules.Meanings.{expr_clash}
use Rattle.cedar_grammar.proofs.Readers.Languages.{Sound, Complete}
use Rattle.cedar_grammar.proofs.Readers.Places.{Local, deep_local}
use Rattle.cedar_grammar.proofs.Readers.Ends.{Completes, Inhabited, deep_completes}
use Rattle.cedar_grammar.proofs.Readers.Depths.{Deeper}
use Rattle.cedar_grammar.proofs.Rules.Languages.{Begun, Stop, read_sound, means_begun, read_complete}
use Rattle.cedar_grammar.proofs.Rules.Places.{read_local}
use Rattle.cedar_grammar.proofs.Rules.Ends.{least, read_completes}
use Rattle.cedar_grammar.proofs.Rules.Depths.{read_deeper}
use Rattle.cedar_grammar.proofs.Readers.Families.{Laws}
use Rattle.cedar_grammar.proofs.Texts.Kinds.{samples}
use Rattle.cedar_writer.specs.Lines as lines
use Rattle.cedar_writer.proofs.Bones.{bones}

-- the bones don't depend on the indentation
abbrev pub ExprBones : G.Rule
ExprBones = bones (lines.expr (pos 0))

abbrev pub PolicyBones : G.Rule
PolicyBones = bones (lines.policy (pos 0))

-- ---- tests
expr_decided : IsTrue (M.decided ExprBones)
expr_decided = refl

policy_decided : IsTrue (M.decided PolicyBones)
policy_decided = refl

expr_begins : IsTrue (within (G.first ExprBones) expr_first)
expr_begins = refl

expr_goes_on : IsTrue (within (M.clash ExprBones) expr_clash)
expr_goes_on = refl

expr_closes : IsTrue (M.closes false ExprBones)
expr_closes = refl

expr_has : IsTrue (M.has false ExprBones)
expr_has = refl

expr_covered : IsTrue (M.covered ExprBones)
expr_covered = refl

policy_closes : IsTrue (M.closes true PolicyBones)
policy_closes = refl

policy_has : IsTrue (M.has true PolicyBones)
policy_has = refl

-- ---- readers
abbrev pub bare_expr_to : ℕ → Reader (List ℕ)
bare_expr_to zero = read kind_of false too_deep ExprBones
bare_expr_to (suc n) = read kind_of true (bare_expr_to n) ExprBones

abbrev pub bare_policy_to : ℕ → Reader (List ℕ)
bare_policy_to n = read kind_of true (bare_expr_to n) PolicyBones

abbrev pub BareExpr : ℕ → Lang (List ℕ)
BareExpr zero = M.means kind_of false Never ExprBones
BareExpr (suc n) = M.means kind_of true (BareExpr n) ExprBones

abbrev pub BarePolicy : ℕ → Lang (List ℕ)
BarePolicy n = M.means kind_of true (BareExpr n) PolicyBones

begun_here : (n : Bool) (p q : Kind → Bool) (xs : List (List ℕ)) → n ≡ false
    → ((k : Kind) → IsTrue (p k) → IsTrue (q k))
    → Begun kind_of n p xs → Begun kind_of false q xs
begun_here n p q [] e h b = let z : true ≡ false = sym b ∙ e in absurd cc
begun_here n p q (a ∷ xs) e h b = h (kind_of a) b

stop_more : (p q : Kind → Bool) (r : List (List ℕ)) → ((k : Kind) → IsTrue (p k) → IsTrue (q k))
    → Stop kind_of q r → Stop kind_of p r
stop_more p q [] h s = refl
stop_more p q (a ∷ r) h s = false_from_ne_true (p (kind_of a))
    (λ e. both_ways (q (kind_of a)) s (h (kind_of a) e))

record Fits (E : Reader (List ℕ)) (X : Forest Label (List ℕ) → Type 0) : Type 0 where
  pub begun : (f : Forest Label (List ℕ)) → X f → Begun kind_of false expr_first (yield f)
  pub sound : Sound E X
  pub complete : Complete E X (Stop kind_of expr_clash)
  pub local : Local E

never_fits : Fits too_deep Never
never_fits = record {
  begun = λ f x. absurd x;
  sound = λ ts f r e. absurd cc;
  complete = λ f r x s. absurd x;
  local = deep_local;
}

fits_up : (room : Bool) (E : Reader (List ℕ)) (X : Lang (List ℕ)) → Fits E X
    → Fits (read kind_of room E ExprBones) (M.means kind_of room X ExprBones)
fits_up room E X h = record {
  begun = λ f x. begun_here (G.nullable ExprBones) (G.first ExprBones) expr_first (yield f) refl
      (within_at (G.first ExprBones) expr_first expr_begins)
      (means_begun kind_of room X h.begun ExprBones expr_decided f x);
  sound = read_sound kind_of room E X h.sound ExprBones;
  complete = λ f r x s. read_complete kind_of room E X h.begun h.sound h.complete ExprBones
      expr_decided f r x
      (stop_more (M.clash ExprBones) expr_clash r (within_at (M.clash ExprBones) expr_clash
      expr_goes_on) s);
  local = read_local kind_of room E X h.begun h.sound h.local ExprBones expr_decided;
}

expr_fits : (n : ℕ) → Fits (bare_expr_to n) (BareExpr n)
expr_fits zero = fits_up false too_deep Never never_fits
expr_fits (suc n) = fits_up true (bare_expr_to n) (BareExpr n) (expr_fits n)

expr_deeper : (n : ℕ) → Deeper (bare_expr_to n) (bare_expr_to (suc n))
expr_deeper zero = let h = expr_fits 0 in
    read_deeper kind_of false too_deep (bare_expr_to 0)
    (read_local kind_of true (bare_expr_to 0) (BareExpr 0) h.begun h.sound h.local) (λ e. absurd cc)
    ExprBones expr_decided (λ _. expr_covered)
expr_deeper (suc n) = let h = expr_fits (suc n) in
    read_deeper kind_of true (bare_expr_to n) (bare_expr_to (suc n))
    (read_local kind_of true (bare_expr_to (suc n)) (BareExpr (suc n)) h.begun h.sound h.local)
    (λ _. expr_deeper n) ExprBones expr_decided (λ e. absurd cc)

some_in : (room : Bool) (X : Lang (List ℕ)) → (IsTrue room → Inhabited X)
    → Inhabited (M.means kind_of room X ExprBones)
some_in room X h = least kind_of samples room X h ExprBones false (λ i. absurd cc) expr_has

some_expr : (n : ℕ) → Inhabited (BareExpr n)
some_expr zero = some_in false Never (λ i. absurd cc)
some_expr (suc n) = some_in true (BareExpr n) (λ _. some_expr n)

expr_completes : (n : ℕ) → Completes (bare_expr_to n) (BareExpr n)
expr_completes zero = read_completes kind_of samples false Never (λ i. absurd cc) too_deep
    (λ ts f r e. absurd cc) (deep_completes Never)
    ExprBones false (λ i. absurd cc) expr_closes
expr_completes (suc n) = read_completes kind_of samples true (BareExpr n) (λ _. some_expr n)
    (bare_expr_to n) (expr_fits n).sound (expr_completes n)
    ExprBones false (λ i. absurd cc) expr_closes

pub policy_sound : (n : ℕ) → Sound (bare_policy_to n) (BarePolicy n)
policy_sound n = read_sound kind_of true (bare_expr_to n) (BareExpr n) (expr_fits n).sound
    PolicyBones

policy_complete : (n : ℕ) (f : Forest Label (List ℕ)) → BarePolicy n f
    → bare_policy_to n (yield f) ≡ done f []
policy_complete n f x = let h = expr_fits n in
    ap (bare_policy_to n) (sym (append-nil (yield f)))
    ∙ read_complete kind_of true (bare_expr_to n) (BareExpr n) h.begun h.sound h.complete
    PolicyBones policy_decided f [] x refl

policy_local : (n : ℕ) → Local (bare_policy_to n)
policy_local n = let h = expr_fits n in
    read_local kind_of true (bare_expr_to n) (BareExpr n) h.begun h.sound h.local PolicyBones
    policy_decided

policy_deeper : (n : ℕ) → Deeper (bare_policy_to n) (bare_policy_to (suc n))
policy_deeper n = let h = expr_fits (suc n) in
    read_deeper kind_of true (bare_expr_to n) (bare_expr_to (suc n))
    (read_local kind_of true (bare_expr_to (suc n)) (BareExpr (suc n)) h.begun h.sound h.local)
    (λ _. expr_deeper n) PolicyBones policy_decided (λ e. absurd cc)

pub policy_laws : Laws bare_policy_to BarePolicy
policy_laws = record {
  sound = policy_sound;
  complete = policy_complete;
  local = policy_local;
  completes = λ n. read_completes kind_of samples true (BareExpr n) (λ _. some_expr n)
      (bare_expr_to n) (expr_fits n).sound (expr_completes n)
      PolicyBones true (λ i. i) policy_closes;
  some_tree = λ n. least kind_of samples true (BareExpr n) (λ _. some_expr n) PolicyBones true
      (λ i. i) policy_has;
  deeper = policy_deeper;
}
