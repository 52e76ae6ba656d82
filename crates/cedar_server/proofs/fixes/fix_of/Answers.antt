use Rattle.std.proofs.Common.{◌≡◌, true, false, ap, sym, ◌∙◌}
use Rattle.cedar_server.specs.Fixes.{meant_by}
use Rattle.cedar_server.proofs.Mending.{by_false, by_true, mends_nothing, names_none, no_part}
use Rattle.cedar_server.proofs.fixes.fix_of.Goals as goal

pub returns-in_default : goal.returns-in_default
returns-in_default c =
    names_none c.args.text.now c.args.faults.now c.args.fault.now (sym (c.in_default.ensures ∙ ap meant_by c.tip.ensures))

pub returns-then-not-is_part : goal.returns-then-not-is_part
returns-then-not-is_part c =
    no_part c.args.text.now c.args.faults.now c.args.fault.now
    (λ part. let never : false ≡ true = sym c.if-not-is_part.true ∙ c.is_part.ensures.1 part in cc)

pub returns-then-not-is_mended : goal.returns-then-not-is_mended
returns-then-not-is_mended c =
    mends_nothing c.args.text.now c.args.faults.now c.args.fault.now c.in-Some.kind
    (sym (c.in-Some.ensures ∙ ap meant_by c.tip.ensures))
    (by_false c.in_ok-is_mended.is_mended _ _ c.if-not-is_mended.true c.in_ok-is_mended.ensures)

pub returns : goal.returns
returns c = record {
  tells = c.in_ok-diagnosis.ensures;
  meant = sym (c.in-Some.ensures ∙ ap meant_by c.tip.ensures);
  mends = by_true c.in_ok-is_mended.is_mended _ _ c.if-not-is_mended.false c.in_ok-is_mended.ensures;
}
