use Rattle.std.proofs.Common.{◌≡◌, false, string_bytes, length, arith}
use Rattle.std.specs.Str.{trim}
use Rattle.cedar_layout.proofs.Cuts.{cut_back}
use Rattle.cedar_print.specs.Marks.{marks_of}
use Rattle.cedar_print.specs.Clean.{without_blank_lines}
use Rattle.cedar_print.specs.Inside.Written.{units_at}
use Rattle.cedar_print.proofs.Printing.{prints_the_clean_layout, prints_the_untrimmed_layout}
use Rattle.cedar_print.proofs.printer.Printer.lay_out_counted.Goals as goal

pub truncate-requires : goal.truncate-requires
truncate-requires g c = λ _.
    let old = c.args.out.now in
    let new = c.print_clean.new.out in
    let e : c.len-start.result ≡ length (string_bytes old) =
    omega (arith, c.len-start.ensures, old.bytes.ok.0) in
    cut_back (string_bytes old)
    (string_bytes new) c.len-start.result old.ok new.ok e c.in-Err.ensures.kept

pub returns-clause-ok : goal.returns-clause-ok
returns-clause-ok g c = λ d x.
    let w = c.args.width in
    let ms = marks_of c.args.marks.now in (
      trim (without_blank_lines false (units_at w ms)),
      prints_the_clean_layout w ms d x (omega arith) c.in_default.ensures.range,
      c.in_default.ensures.ok,
    )

pub returns-in-Err-clause-memory : goal.returns-in-Err-clause-memory
returns-in-Err-clause-memory g c = λ r d x.
    let w = c.args.width in
    let ms = marks_of c.args.marks.now in
    let m = c.in-Err.ensures.memory r in (
      without_blank_lines false (units_at w ms),
      prints_the_untrimmed_layout w ms d x (omega arith) m.0,
      m.1,
    )
