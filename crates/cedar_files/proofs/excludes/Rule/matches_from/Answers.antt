use Rattle.std.proofs.Common.{◌++◌, ◌∙◌, ap, arith, sym}
use Rattle.std.proofs.lemmas.Str.Pattern.{starts_char}
use Rattle.cedar_files.proofs.ExcludeLemmas.{seen_from}
use Rattle.cedar_files.proofs.excludes.Rule.matches_from.Goals as goal

pub returns-in-Some : goal.returns-in-Some
returns-in-Some c =
    let rest = c.in-Some.rest.now in
    let folder = c.args.folder.now in
    let stripped = c.in-Some.ensures.cases in
    let slash = starts_char 47 rest c.starts_with.result c.starts_with.ensures.cases (omega arith) (omega arith) in
    seen_from c.args.self.now.glob c.args.path.now folder rest c.matches.result
    (stripped.1.1 ∙ ap (λ z. folder ++ z) (sym stripped.2)) (slash.0 c.if-starts_with.true) c.matches.ensures
