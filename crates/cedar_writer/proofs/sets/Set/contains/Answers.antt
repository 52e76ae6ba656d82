use Rattle.std.proofs.Common.{sym, ap, ◌∙◌}
use Rattle.cedar_writer.specs.Sets.{contains}
use Rattle.cedar_writer.proofs.KindTest.{kind_test}
use Rattle.cedar_writer.proofs.sets.Set.contains.Goals as goal

pub returns-in-Only : goal.returns-in-Only
returns-in-Only c = c.eq.ensures ∙ kind_test _ _ ∙ sym (ap (λ s. contains s c.args.kind) c.in-Only.is)
