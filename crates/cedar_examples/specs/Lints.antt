-- Why a linter prints nothing.
use Rattle.std.specs.Prelude.{ℕ, List}
use Rattle.cedar_grammar.specs.Refusals.{OutOfMemoryOr}
use Rattle.cedar_written.specs.Refusals.{Refuses}
use Rattle.cedar_examples.specs.Comments.{HaveEqualComments}
use Rattle.cedar_examples.specs.declared.linter.LintError.{LintError}
use Rattle.cedar_examples.specs.declared.linter.LintError.TheVariants.{OtherComments, Format}

-- the rewritten text has different comments, or it is refused
abbrev pub FailsLint : List ℕ → List ℕ → LintError → Type 0
FailsLint before after OtherComments = ¬ (HaveEqualComments before after)
FailsLint before after (Format e) = OutOfMemoryOr (Refuses after) e
