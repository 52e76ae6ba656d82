use Rattle.std.proofs.Common.{◌≡◌, ◌≢◌, refl, rules, sym, ◌∙◌}
use Rattle.std.specs.Prelude.{codes}
use Rattle.std.proofs.lemmas.Bool.Decides.{Decides-eqb}
use Rattle.std.proofs.lemmas.Slice.Eq.{slice_eq-Decides}
use Rattle.cedar_tokens.specs.declared.lexer.UnitKind.TheVariants.{Token}
use Rattle.cedar_tokens.proofs.Streaming.{no_token}
use Rattle.cedar_tokens.proofs.UnitsSoFar.{texts, place_more, scans_so_far, so_far, one_more, boundary_at}
use Rattle.cedar_grammar.specs.Numbers.{is_too_large}
use Rattle.cedar_reading.proofs.Walking.{lexed_skip, lexed_token}
use Rattle.cedar_reading.specs.Pieces.{is_semicolon}
use Rattle.cedar_reading.proofs.Semicolons.{none_more, differs}
use Rattle.cedar_reading.proofs.Lexing.{no_semicolon, too_large, lexes_to, lexes_all}
use Rattle.cedar_laws.proofs.Accepting.{other_small}
use Rattle.cedar_reading.proofs.pieces.lex_to_semicolon.Goals as goal

pub returns-then-is_too_large-clause-none : goal.returns-then-is_too_large-clause-none
returns-then-is_too_large-clause-none c =
    let g = c.in-Some.ensures.steps in
    let e =
    so_far c.loop-unit.yielded _ _ _ _ (cc) c.loop-unit.yielded_by c.loop-unit.invariant.place in
    λ h. absurd (too_large _ _ _ _ _ (one_more _ _ _ _ _ _ e g.0 g.2)
    (sym c.is_too_large.ensures ∙ c.if-is_too_large.true) h)

pub returns-then-is_too_large-clause-lexemes : goal.returns-then-is_too_large-clause-lexemes
returns-then-is_too_large-clause-lexemes c =
    let g = c.in-Some.ensures.steps in
    let e =
    so_far c.loop-unit.yielded _ _ _ _ (cc) c.loop-unit.yielded_by c.loop-unit.invariant.place in
    λ h. absurd (too_large _ _ _ _ _ (one_more _ _ _ _ _ _ e g.0 g.2)
    (sym c.is_too_large.ensures ∙ c.if-is_too_large.true) h)

pub returns-then-eq-2-clause-lexemes : goal.returns-then-eq-2-clause-lexemes
returns-then-eq-2-clause-lexemes c =
    let i = c.loop-unit.invariant in
    let g = c.in-Some.ensures.steps in
    let is_token : c.in-Some.unit.kind ≡ Token = search rules in
    let same = slice_eq-Decides Decides-eqb c.in-Some.unit.text.now _ c.eq-then-eq.result
    c.eq-then-eq.ensures in
    let e = so_far c.loop-unit.yielded _ _ _ _ (cc) c.loop-unit.yielded_by i.place in
    lexes_to c.loop-unit.yielded c.in-Some.unit _ _ _ _ (one_more _ _ _ _ _ _ e g.0 g.2)
    (same.0 c.if-eq-2.true) i.none i.fitting
    (lexed_token c.loop-unit.yielded _ _ _ c.in-Some.unit _ i.lexed
    (rw is_token at g.1) c.in_ok-push.ensures.items refl refl c.kind_of.ensures)

pub returns-then-eq-2-clause-boundary : goal.returns-then-eq-2-clause-boundary
returns-then-eq-2-clause-boundary c =
    let g = c.in-Some.ensures.steps in
    let e =
    so_far c.loop-unit.yielded _ _ _ _ (cc) c.loop-unit.yielded_by c.loop-unit.invariant.place in
    boundary_at _ _ _ _ c.utf8.text (one_more _ _ _ _ _ _ e g.0 g.2)

pub loop-unit-preserved-else-eq-2 : goal.loop-unit-preserved-else-eq-2
loop-unit-preserved-else-eq-2 c =
    let i = c.loop-unit.invariant in
    let g = c.in-Some.ensures.steps in
    let is_token : c.in-Some.unit.kind ≡ Token = search rules in
    let same = slice_eq-Decides Decides-eqb c.in-Some.unit.text.now _ c.eq-then-eq.result
    c.eq-then-eq.ensures in
    let other : c.in-Some.unit.text.now ≢ codes ";" =
    λ e. (let t = same.1 e in let f = c.if-eq-2.false in cc) in
    record {
      can_next = tt;
      is_finite = tt;
      place = place_more _ _ _ _ _ i.place g.2;
      none = none_more is_semicolon c.loop-unit.yielded c.in-Some.unit i.none
          (differs _ (codes ";") other);
      fitting = none_more is_too_large c.loop-unit.yielded c.in-Some.unit i.fitting
          (sym c.is_too_large.ensures ∙ c.if-is_too_large.false);
      lexed = lexed_token c.loop-unit.yielded _ _ _ c.in-Some.unit _ i.lexed
          (rw is_token at g.1) c.in_ok-push.ensures.items refl refl c.kind_of.ensures;
    }

pub loop-unit-preserved : goal.loop-unit-preserved
loop-unit-preserved c =
    let i = c.loop-unit.invariant in
    let g = c.in-Some.ensures.steps in
    let other : c.in-Some.unit.kind ≢ Token = search rules in
    record {
      can_next = tt;
      is_finite = tt;
      place = place_more _ _ _ _ _ i.place g.2;
      none = none_more is_semicolon c.loop-unit.yielded c.in-Some.unit i.none
          (no_semicolon c.in-Some.unit.text.now (no_token c.in-Some.unit.kind _ g.1 other));
      fitting = none_more is_too_large c.loop-unit.yielded c.in-Some.unit i.fitting
          (other_small c.in-Some.unit.text.now (no_token c.in-Some.unit.kind _ g.1 other));
      lexed = lexed_skip c.loop-unit.yielded _ _ c.in-Some.unit i.lexed
          (no_token c.in-Some.unit.kind _ g.1 other);
    }

pub returns-clause-none : goal.returns-clause-none
returns-clause-none c = λ _. record {
  units = _;
  rest = _;
  scans = scans_so_far c.loop-unit.yielded _ _ _ (cc) c.loop-unit.yielded_by;
  stops = c.in-None.ensures.steps.0;
  none = c.loop-unit.invariant.none;
}

pub returns-clause-lexemes : goal.returns-clause-lexemes
returns-clause-lexemes c =
    λ h. lexes_all (texts c.loop-unit.yielded) _ _ _ _ (scans_so_far c.loop-unit.yielded _ _ _
    (cc) c.loop-unit.yielded_by) c.in-None.ensures.steps.0 h c.loop-unit.invariant.lexed
