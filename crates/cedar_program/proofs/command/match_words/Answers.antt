use Rattle.std.proofs.Common.{map, string_bytes, inl}
use Rattle.std.proofs.lemmas.Result.{err_from_is_err_and}
use Rattle.clap.specs.Words.{app_of}
use Rattle.cedar_program.proofs.CommandLine.{matched}
use Rattle.cedar_program.proofs.command.match_words.Goals as goal

pub returns-in_err-command : goal.returns-in_err-command
returns-in_err-command c =
    let p = err_from_is_err_and c.from_residual.result c.from_residual.ensures.1 in
    rw p.1 (inl p.2)

pub returns : goal.returns
returns c = matched (map (λ w. string_bytes w) c.args.words.now)
    (app_of c.in_ok-command.field-0) c.try_get_matches_from.result c.in_ok-command.ensures
    c.try_get_matches_from.ensures.matches c.try_get_matches_from.ensures.kinds
