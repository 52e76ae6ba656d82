use Rattle.std.proofs.Common.{subst, List, Option, IfSome}
use Rattle.clap.specs.Words.{Row, Text}
use Rattle.cedar_program.specs.Options.{HasOptions}
use Rattle.cedar_program.proofs.options.read_options.Goals as goal

pub returns : goal.returns
returns c =
    let found = c.in_ok-matches.ensures in (
      found.0,
      subst (λ (o : Option (Text × List Row)). IfSome o (λ it. HasOptions it.1 c.options_of.result))
          found.1 c.options_of.ensures,
    )
