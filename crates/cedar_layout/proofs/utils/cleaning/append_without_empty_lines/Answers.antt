use Rattle.std.proofs.Common.{◌≡◌, string_bytes, length, arith}
use Rattle.cedar_layout.proofs.Cuts.{cut_back}
use Rattle.cedar_layout.proofs.utils.cleaning.append_without_empty_lines.Goals as goal

pub truncate-requires : goal.truncate-requires
truncate-requires c = λ _.
    let old = c.args.out.now in
    let new = c.push_cleaned.new.out in
    let e : c.len-start.result ≡ length (string_bytes old) =
    omega (arith, c.len-start.ensures, old.bytes.ok.0) in
    cut_back (string_bytes old)
    (string_bytes new) c.len-start.result old.ok new.ok e c.in-Err.ensures.kept
