use Rattle.cedar_files.proofs.PathLemmas.{out_is, trimmed_is}
use Rattle.cedar_files.proofs.paths.leads_out.Goals as goal

pub returns : goal.returns
returns c =
    let folder = c.args.folder.now in
    let front = c.trim_end_matches.result.now in
    out_is c.is_below.result c.args.path.now folder front
    (trimmed_is folder front c.trim_end_matches.ensures.matches) c.is_below.ensures
