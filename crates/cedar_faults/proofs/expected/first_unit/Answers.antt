use Rattle.cedar_tokens.specs.Units.{IsFirstUnit, BeginsNoUnit}
use Rattle.cedar_faults.proofs.FirstUnits.{none_first, one_first}
use Rattle.cedar_faults.proofs.expected.first_unit.Goals as goal

pub returns-in_err-unit : goal.returns-in_err-unit
returns-in_err-unit c = λ us s. (let n : BeginsNoUnit c.args.text.now = rw c.new.ensures at
    c.in_err-unit.ensures.steps.0 in rw c.from_residual.ensures (none_first c.args.text.now us n s))

pub returns : goal.returns
returns c =
    λ us s. (let f : IsFirstUnit c.args.text.now c.in_ok-unit.unit.text.now = rw c.new.ensures at
    c.in_ok-unit.ensures.steps.0 in one_first c.args.text.now c.in_ok-unit.unit.text.now us f s)
