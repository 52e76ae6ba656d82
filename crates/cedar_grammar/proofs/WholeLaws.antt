-- The laws of the whole grammar.
use Rattle.std.specs.Prelude.{◌≡◌, ℕ, zero, suc, Bool, true, false, List, [], ◌∷◌, IsTrue}
use Rattle.std.proofs.Common.{refl, sym, ap, ◌∙◌, append-nil}
use Rattle.std.proofs.lemmas.Bool.{both_ways, false_from_ne_true}
use Rattle.cedar_tokens.specs.declared.kind.Kind.{Kind}
use Rattle.cedar_grammar.proofs.KindSets.{within_at}
use Rattle.cedar_grammar.specs.Trees.{Label, Forest, yield}
use Rattle.cedar_grammar.specs.Languages.{Lang, Never}
use Rattle.cedar_grammar.specs.KindGrammar as G
use Rattle.cedar_grammar.specs.Reader.Reading.{Reader, done, too_deep}
use Rattle.cedar_grammar.proofs.Readers.Languages.{Sound, Complete, sound_more}
use Rattle.cedar_grammar.proofs.Readers.Places.{Local, deep_local}
use Rattle.cedar_grammar.proofs.Readers.Ends.{Completes, Inhabited, halt_more, deep_completes}
use Rattle.cedar_grammar.proofs.Readers.Depths.{Deeper}
use Rattle.cedar_grammar.specs.Reader.Rules.{Rule, nullable, first, expr_first, read, core}
use Rattle.cedar_grammar.proofs.Rules.Meanings.{clash, expr_clash, means}
use Rattle.cedar_grammar.proofs.Rules.Languages.{Begun, Stop, read_sound, means_begun, read_complete}
use Rattle.cedar_grammar.proofs.Rules.Places.{read_local}
use Rattle.cedar_grammar.proofs.Rules.Ends.{Samples, least, read_completes}
use Rattle.cedar_grammar.proofs.Rules.Depths.{read_deeper}
use Rattle.cedar_grammar.proofs.Rules.Forms.{core_written, written_core}
use Rattle.cedar_grammar.specs.Reader.Lines.{expr_rule, set_rule, expr_to, set_to}
use Rattle.cedar_grammar.proofs.Rules.Tests.{expr_decided, set_decided, expr_begins, expr_goes_on, expr_closes, expr_has, expr_covered, set_closes, set_has}
use Rattle.cedar_grammar.proofs.Readers.Families.{Laws}

abbrev ExprCore : Rule
ExprCore = core expr_rule

abbrev SetCore : Rule
SetCore = core set_rule

module _ {A : Type 0} (kind : A → Kind) where
  begun_here : (n : Bool) (p q : Kind → Bool) (xs : List A) → n ≡ false
      → ((k : Kind) → IsTrue (p k) → IsTrue (q k)) → Begun kind n p xs → Begun kind false q xs
  begun_here n p q [] e h b = let z : true ≡ false = sym b ∙ e in absurd cc
  begun_here n p q (a ∷ xs) e h b = h (kind a) b

  stop_more : (p q : Kind → Bool) (r : List A) → ((k : Kind) → IsTrue (p k) → IsTrue (q k))
      → Stop kind q r → Stop kind p r
  stop_more p q [] h s = refl
  stop_more p q (a ∷ r) h s =
      false_from_ne_true (p (kind a)) (λ e. both_ways (q (kind a)) s (h (kind a) e))

  -- the laws of an expression's reader
  pub record Fits (E : Reader A) (X : Lang A) : Type 0 where
    pub begun : (f : Forest Label A) → X f → Begun kind false expr_first (yield f)
    pub sound : Sound E X
    pub complete : Complete E X (Stop kind expr_clash)
    pub local : Local E

  never_fits : Fits too_deep Never
  never_fits = record {
    begun = λ f x. absurd x;
    sound = λ ts f r e. absurd cc;
    complete = λ f r x s. absurd x;
    local = deep_local;
  }

  fits_up : (room : Bool) (E : Reader A) (X : Lang A) → Fits E X
      → Fits (read kind room E ExprCore) (G.ExprIn kind room X)
  fits_up room E X h = record {
    begun = λ f x. begun_here (nullable ExprCore) (first ExprCore) expr_first (yield f) refl
        (within_at (first ExprCore) expr_first expr_begins)
        (means_begun kind room X h.begun ExprCore expr_decided f
        (written_core kind room X expr_rule f x));
    sound = sound_more (read kind room E ExprCore) (means kind room X ExprCore) (G.ExprIn kind room
        X) (core_written kind room X expr_rule) (read_sound kind room E X h.sound ExprCore);
    complete = λ f r x s. read_complete kind room E X h.begun h.sound h.complete ExprCore
        expr_decided f r (written_core kind room X expr_rule f x)
        (stop_more (clash ExprCore) expr_clash r
        (within_at (clash ExprCore) expr_clash expr_goes_on) s);
    local = read_local kind room E X h.begun h.sound h.local ExprCore expr_decided;
  }

  pub expr_fits : (d : ℕ) → Fits (expr_to kind d) (G.Expr kind d)
  expr_fits zero = fits_up false too_deep Never never_fits
  expr_fits (suc d) = fits_up true (expr_to kind d) (G.Expr kind d) (expr_fits d)

  pub expr_deeper : (d : ℕ) → Deeper (expr_to kind d) (expr_to kind (suc d))
  expr_deeper zero = let h = expr_fits 0 in
      read_deeper kind false too_deep (expr_to kind 0)
      (read_local kind true (expr_to kind 0) (G.Expr kind 0) h.begun h.sound h.local)
      (λ e. absurd cc) ExprCore expr_decided (λ _. expr_covered)
  expr_deeper (suc d) = let h = expr_fits (suc d) in
      read_deeper kind true (expr_to kind d) (expr_to kind (suc d))
      (read_local kind true (expr_to kind (suc d)) (G.Expr kind (suc d)) h.begun h.sound h.local)
      (λ _. expr_deeper d) ExprCore expr_decided (λ e. absurd cc)

  pub set_complete : (d : ℕ) (f : Forest Label A) → G.PolicySet kind d f
      → set_to kind d (yield f) ≡ done f []
  set_complete d f x = let h = expr_fits d in
      ap (set_to kind d) (sym (append-nil (yield f)))
      ∙ read_complete kind true (expr_to kind d) (G.Expr kind d) h.begun h.sound h.complete SetCore
      set_decided f [] (written_core kind true (G.Expr kind d) set_rule f x) refl

  pub set_sound : (d : ℕ) → Sound (set_to kind d) (G.PolicySet kind d)
  set_sound d = sound_more (set_to kind d) (means kind true (G.Expr kind d) SetCore)
      (G.PolicySet kind d) (core_written kind true (G.Expr kind d) set_rule)
      (read_sound kind true (expr_to kind d) (G.Expr kind d) (expr_fits d).sound SetCore)

  pub set_local : (d : ℕ) → Local (set_to kind d)
  set_local d =
      let h = expr_fits d in read_local kind true (expr_to kind d)
      (G.Expr kind d) h.begun h.sound h.local SetCore set_decided

  pub set_deeper : (d : ℕ) → Deeper (set_to kind d) (set_to kind (suc d))
  set_deeper d = let h = expr_fits (suc d) in
      read_deeper kind true (expr_to kind d) (expr_to kind (suc d))
      (read_local kind true (expr_to kind (suc d)) (G.Expr kind (suc d)) h.begun h.sound h.local)
      (λ _. expr_deeper d) SetCore set_decided (λ e. absurd cc)

  module _ (sample : Samples kind) where
    some_in : (room : Bool) (X : Lang A) → (IsTrue room → Inhabited X)
        → Inhabited (G.ExprIn kind room X)
    some_in room X h =
        let x = least kind sample room X h ExprCore false (λ i. absurd cc) expr_has in
        (x.0, core_written kind room X expr_rule x.0 x.1)

    pub some_expr : (d : ℕ) → Inhabited (G.Expr kind d)
    some_expr zero = some_in false Never (λ i. absurd cc)
    some_expr (suc d) = some_in true (G.Expr kind d) (λ _. some_expr d)

    completes_up : (room : Bool) (E : Reader A) (X : Lang A) → (IsTrue room → Inhabited X)
        → Sound E X → Completes E X → Completes (read kind room E ExprCore) (G.ExprIn kind room X)
    completes_up room E X h s p ts b r e = halt_more (means kind room X ExprCore)
        (G.ExprIn kind room X) (core_written kind room X expr_rule) ts r
        (read_completes kind sample room X h E s p ExprCore false
        (λ i. absurd cc) expr_closes ts b r e)

    pub expr_completes : (d : ℕ) → Completes (expr_to kind d) (G.Expr kind d)
    expr_completes zero = completes_up false too_deep Never (λ i. absurd cc) (λ ts f r e. absurd cc)
        (deep_completes Never)
    expr_completes (suc d) = completes_up true (expr_to kind d) (G.Expr kind d) (λ _. some_expr d)
        (expr_fits d).sound (expr_completes d)

    -- The reader of policy sets against the written grammar.
    pub set_laws : Laws (set_to kind) (G.PolicySet kind)
    set_laws = record {
      sound = set_sound;
      complete = set_complete;
      local = set_local;
      completes = λ d ts b r e. halt_more (means kind true (G.Expr kind d) SetCore)
          (G.PolicySet kind d) (core_written kind true (G.Expr kind d) set_rule) ts r
          (read_completes kind sample true (G.Expr kind d) (λ _. some_expr d) (expr_to kind d)
          (expr_fits d).sound (expr_completes d) SetCore true (λ i. i) set_closes ts b r e);
      some_tree = λ d. let x =
          least kind sample true (G.Expr kind d) (λ _. some_expr d) SetCore true (λ i. i) set_has in
          (x.0, core_written kind true (G.Expr kind d) set_rule x.0 x.1);
      deeper = set_deeper;
    }
