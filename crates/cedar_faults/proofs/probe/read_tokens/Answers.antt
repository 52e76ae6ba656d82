use Rattle.std.proofs.Common.{◌≡◌, ◌≢◌, ◌∙◌, ◌∷◌, ◌++◌, [], ℕ, List, refl, sym, ap, subst, true, false, rules, drop, length}
use Rattle.cedar_tokens.specs.declared.kind.Kind.{Kind}
use Rattle.cedar_tokens.specs.declared.lexer.UnitKind.TheVariants.{Token}
use Rattle.cedar_tokens.specs.Units.{is_token}
use Rattle.cedar_tokens.specs.UnitSteps.{unit_text, text_left}
use Rattle.cedar_tokens.proofs.Gaps.{split_after}
use Rattle.cedar_tokens.proofs.Scanning.{scan_more}
use Rattle.cedar_tokens.proofs.Streaming.{no_token}
use Rattle.cedar_tokens.proofs.UnitsSoFar.{texts, texts_more, scans_so_far}
use Rattle.cedar_faults.specs.Inside.Pendings.{IsAfter, NeverRead, ReadsOn}
use Rattle.cedar_faults.proofs.Afters.{kinds_of, after_none, after_token, after_other, never_read, ends_all}
use Rattle.cedar_faults.proofs.probe.read_tokens.Goals as goal

pub loop-unit-init : goal.loop-unit-init
loop-unit-init c = record {
  can_next = tt;
  is_finite = tt;
  after = after_none c.in_ok-pending.pending c.in_ok-pending.ensures;
}

pub loop-unit-preserved-then-ne : goal.loop-unit-preserved-then-ne
loop-unit-preserved-then-ne c =
    let other : c.in-Some.unit.kind ≢ Token = search rules in
    record {
      can_next = tt;
      is_finite = tt;
      after = subst (λ us. IsAfter (kinds_of us) c.loop-unit.pending) (sym
          (texts_more c.loop-unit.yielded c.in-Some.unit))
          (after_other (texts c.loop-unit.yielded) c.in-Some.unit.text.now c.loop-unit.pending
          (no_token c.in-Some.unit.kind _ c.in-Some.ensures.steps.1 other) c.loop-unit.invariant.after);
    }

pub returns-then-not-branch : goal.returns-then-not-branch
returns-then-not-branch c =
    let us = texts c.loop-unit.yielded in
    let u = c.in-Some.unit.text.now in
    let is_one : c.in-Some.unit.kind ≡ Token = search rules in
    let token : is_token u ≡ true = rw is_one at c.in-Some.ensures.steps.1 in
    let scans = scan_more us c.args.text.now _ u (scans_so_far c.loop-unit.yielded _ _ _
    (cc) c.loop-unit.yielded_by) c.in-Some.ensures.steps.0 in
    let r = split_after (us ++ u ∷ []) c.requires.units c.args.text.now _ scans c.requires.split in
    let not_read : ReadsOn c.loop-unit.pending c.kind_of.result c.read.new.self false = rw c.if-not-branch.true at c.in_ok-read.ensures in (
      c.requires.units,
      c.requires.split,
      subst (λ z. NeverRead (kinds_of z)) (sym r.1)
          (never_read us r.0 u c.loop-unit.pending c.read.new.self c.kind_of.result token c.kind_of.ensures c.loop-unit.invariant.after not_read),
    )

pub loop-unit-preserved : goal.loop-unit-preserved
loop-unit-preserved c =
    let us = texts c.loop-unit.yielded in
    let u = c.in-Some.unit.text.now in
    let is_one : c.in-Some.unit.kind ≡ Token = search rules in
    let token : is_token u ≡ true = rw is_one at c.in-Some.ensures.steps.1 in
    let is_read : ReadsOn c.loop-unit.pending c.kind_of.result c.read.new.self true = rw c.if-not-branch.false at c.in_ok-read.ensures in
    record {
      can_next = tt;
      is_finite = tt;
      after = subst (λ us. IsAfter (kinds_of us) c.read.new.self) (sym
          (texts_more c.loop-unit.yielded c.in-Some.unit))
          (after_token us u c.loop-unit.pending c.read.new.self c.kind_of.result token c.kind_of.ensures c.loop-unit.invariant.after is_read);
    }

pub returns : goal.returns
returns c =
    let us = texts c.loop-unit.yielded in
    let same = ends_all us c.requires.units c.args.text.now _
    (scans_so_far c.loop-unit.yielded _ _ _
    (cc) c.loop-unit.yielded_by) c.in-None.ensures.steps.0 c.requires.split in (
      c.requires.units,
      c.requires.split,
      subst (λ z. IsAfter (kinds_of z) c.loop-unit.pending)
          (sym same) c.loop-unit.invariant.after,
    )
