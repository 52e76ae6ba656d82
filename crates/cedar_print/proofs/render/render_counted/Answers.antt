use Rattle.std.proofs.Common.{◌≡◌, string_bytes, length, arith}
use Rattle.std.specs.List.{concat}
use Rattle.cedar_layout.proofs.Cuts.{cut_back}
use Rattle.cedar_layout.specs.Value.{doc_of}
use Rattle.cedar_print.specs.Inside.Walked.{marks_in}
use Rattle.cedar_print.specs.Inside.Written.{units_at}
use Rattle.cedar_print.proofs.Printing.{prints_the_layout}
use Rattle.cedar_print.proofs.Walks.{are_marks_in}
use Rattle.cedar_print.proofs.render.render_counted.Goals as goal

pub truncate-requires : goal.truncate-requires
truncate-requires g c = λ _.
    let old = c.args.out.now in
    let new = c.measure_and_print.new.out in
    let e : c.len-start.result ≡ length (string_bytes old) =
    omega (arith, c.len-start.ensures, old.bytes.ok.0) in
    cut_back (string_bytes old)
    (string_bytes new) c.len-start.result old.ok new.ok e c.in-Err.ensures.kept

pub returns-in-Ok-clause-ok : goal.returns-in-Ok-clause-ok
returns-in-Ok-clause-ok g c =
    let w = c.args.width in
    let d = doc_of c.args.doc.now in (
      concat (units_at w (marks_in d)),
      prints_the_layout w (marks_in d) d (are_marks_in d) (omega arith) c.in-Ok.ensures.range,
      c.in-Ok.ensures.ok,
    )
