-- What clap says about this command line's words.
use Rattle.std.proofs.Common.{◌≡◌, ◌∙◌, ap, sym, subst, refl, true, List, Result, Ok, Err, IfOk, MatchResult}
use Rattle.clap.specs.Words.{App, FailsBy, HasKind, Text, fault_of, is_simple, is_simple_and_free, kind_of, subcommand_of}
use Rattle.clap.specs.Simple.{HasMatchesOf}
use Rattle.clap.specs.declared.error.Error.{Error}
use Rattle.clap.specs.declared.parser.matches.ArgMatches.{ArgMatches}
use Rattle.clap.proofs.OnLiterals.{clap_on_literals}
use Rattle.cedar_program.specs.CommandLine.{HasFault, HasMatches, cedar_app}

-- it says exactly what becomes of them
is_free : is_simple_and_free cedar_app ≡ true
unfolding clap_on_literals
is_free = refl

is_plain : is_simple cedar_app ≡ true
unfolding clap_on_literals
is_plain = refl

pub matched : (words : List Text) (a : App) (r : Result ArgMatches Error) → a ≡ cedar_app
    → IfOk r (HasMatchesOf a words) → (is_simple_and_free a ≡ true → FailsBy (fault_of a words) r)
    → MatchResult r (HasMatches words) (λ e. HasFault words (kind_of e))
matched words a (Ok m) is has fails = (
  ap (λ (b : App). fault_of b words) (sym is) ∙ fails (ap is_simple_and_free is ∙ is_free),
  (has (ap is_simple is ∙ is_plain)).1 ∙ ap (λ (b : App). subcommand_of b words) is,
)
matched words a (Err e) is has fails = subst (λ (b : App). HasKind (fault_of b words) e) is
    (fails (ap is_simple_and_free is ∙ is_free))
