use Rattle.std.proofs.Common.{◌≡◌, arith, ap, get_or, length, subst}
use Rattle.std.proofs.lemmas.Str.{IsCharBoundary-after_ascii}
use Rattle.cedar_server.proofs.symbols.between_quotes.Goals as goal

pub range-requires-clause-start_boundary : goal.range-requires-clause-start_boundary
range-requires-clause-start_boundary c =
    let same = c.as_bytes-bytes.ensures.value in
    let opening : get_or c.args.string.now 0 0 ≡ 34 =
    subst (λ z. get_or z 0 0 ≡ 34) same c.if-bytes-ne34.false in
    λ _. IsCharBoundary-after_ascii c.args.string.now 0 c.utf8.string (omega (arith, ap length same, c.if-len-lt2.false))
    (omega (arith, opening))
