use Rattle.cedar_files.proofs.ExcludeLemmas.{second_folder}
use Rattle.cedar_files.proofs.excludes.Rule.matches.Goals as goal

pub returns : goal.returns
returns c = second_folder c.args.self.now.glob c.args.path.now c.args.self.now.is_absolute
    c.in_ok-matches_from.field-0 c.args.below.now c.args.folder.now c.matches_from-2.result c.if-self.false
    c.if-branch.false c.in_ok-matches_from.ensures c.matches_from-2.ensures
