use Rattle.std.proofs.Common.{◌≡◌, string_bytes, length, arith}
use Rattle.cedar_layout.proofs.Cuts.{cut_point}
use Rattle.cedar_print.proofs.printer.Printer.print_clean.Goals as goal

pub trim_from-requires : goal.trim_from-requires
trim_from-requires g c =
    let old = c.args.out.now in
    let new = c.print_lines.new.out in
    let e : c.len-start.result ≡ length (string_bytes old) =
    omega (arith, c.len-start.ensures, old.bytes.ok.0) in
    cut_point (string_bytes old)
    (string_bytes new) c.len-start.result old.ok new.ok e c.in_ok-print_lines.ensures.kept
