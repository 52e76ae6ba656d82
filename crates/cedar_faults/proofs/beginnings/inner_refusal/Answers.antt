use Rattle.std.proofs.Common.{false, rules, arith}
use Rattle.cedar_grammar.specs.declared.error.FormatError.TheVariants.{Grammar}
use Rattle.cedar_grammar.specs.Refusals.{Refuses}
use Rattle.cedar_faults.proofs.Begun.{leaves_end}
use Rattle.cedar_faults.proofs.beginnings.inner_refusal.Goals as goal

pub returns-in-Some-Grammar : goal.returns-in-Some-Grammar
returns-in-Some-Grammar c =
    let text = c.args.text.now in
    let h = c.requires in
    let l : Refuses text (Grammar c.in-Some-Grammar.at) = search rules in
    (h.units, h.split, leaves_end text h.units h.split c.in-Some-Grammar.at false l (omega (arith, c.if-at-text.true)))
