use Rattle.std.proofs.Common.{◌∙◌, sym, ap}
use Rattle.cedar_reading.proofs.Steps.{kind_test}
use Rattle.cedar_server.specs.Classes.{is_there}
use Rattle.cedar_server.proofs.classes.is_there.Goals as goal

pub returns-in-Some : goal.returns-in-Some
returns-in-Some c = c.eq.ensures ∙ kind_test _ _ ∙ sym (ap (λ t. is_there t c.args.kind) c.in-Some.is)
