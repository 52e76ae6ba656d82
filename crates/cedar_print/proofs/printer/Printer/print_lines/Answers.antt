use Rattle.std.proofs.Common.{[], ◌++◌, false, length, string_bytes, arith, sym, ap, ◌∙◌, length-append}
use Rattle.std.specs.List.{flat_map}
use Rattle.std.proofs.lemmas.List.{drop_all}
use Rattle.std.proofs.lemmas.Result.{err_from_is_err_and, on_ok_weaker, on_err_weaker}
use Rattle.cedar_print.specs.Marks.{marks_of}
use Rattle.cedar_print.specs.Clean.{units_of, without_blank_lines}
use Rattle.cedar_print.specs.Inside.Printed.{printed, state_of}
use Rattle.cedar_print.specs.Inside.Written.{units_at, units_in, clean_after}
use Rattle.cedar_print.proofs.Clean.{held_alone, one_written, all_written}
use Rattle.cedar_print.proofs.printer.Printer.print_lines.Goals as goal

pub returns-clause-ok : goal.returns-clause-ok
returns-clause-ok g c =
    let w = c.args.width in
    let ms = c.args.marks.now in
    let out = string_bytes c.loop-mark.out in
    let h = c.loop-mark.held in
    let all = ap (λ xs. out ++ clean_after h (flat_map units_of (printed w (marks_of xs)
    (state_of c.loop-mark.self.place)))) (sym (drop_all c.loop-mark.mark-index ms (omega arith)))
    ∙ c.loop-mark.invariant.bytes
    ∙ ap (λ p. string_bytes c.args.out.now
    ++ without_blank_lines false (flat_map units_of (printed w (marks_of ms) p)))
    c.in_ok-go_to_the_first.ensures.state in
    on_ok_weaker c.write_held.result (all_written h out _ _ all) c.write_held.ensures.ok

pub returns-clause-memory : goal.returns-clause-memory
returns-clause-memory g c =
    let w = c.args.width in
    let ms = c.args.marks.now in
    let out = string_bytes c.loop-mark.out in
    let h = c.loop-mark.held in
    let e = ap length (ap (λ xs. out ++ clean_after h (flat_map units_of (printed w (marks_of xs)
    (state_of c.loop-mark.self.place)))) (sym (drop_all c.loop-mark.mark-index ms (omega arith)))
    ∙ c.loop-mark.invariant.bytes
    ∙ ap (λ p. string_bytes c.args.out.now
    ++ without_blank_lines false (flat_map units_of (printed w (marks_of ms) p)))
    c.in_ok-go_to_the_first.ensures.state) in
    let k = length-append out (clean_after h []) in
    let m = length-append (string_bytes c.args.out.now)
    (without_blank_lines false (units_at w (marks_of ms))) in
    let n = held_alone h in
    on_err_weaker c.write_held.result (λ f r. (
      c.in_ok-go_to_the_first.ensures.range,
      omega (
        arith,
        e,
        k,
        m,
        n,
        f,
        c.loop-mark.invariant.capacity,
        c.loop-mark.out.bytes.ok.0,
        c.args.out.now.bytes.ok.0,
      ),
    )) c.write_held.ensures.full

pub returns-in_err-held-clause-memory : goal.returns-in_err-held-clause-memory
returns-in_err-held-clause-memory g c =
    let w = c.args.width in
    let ms = c.args.marks.now in
    let out = string_bytes c.loop-mark.out in
    let h = c.loop-mark.held in
    let us = units_in c.in_ok-written.written in
    let one = one_written w ms c.loop-mark.mark-index _ (state_of c.loop-mark.self.place) us h out _
    (omega arith) c.in_ok-written.ensures.units
    (c.loop-mark.invariant.bytes ∙ ap (λ p. string_bytes c.args.out.now
    ++ without_blank_lines false (flat_map units_of (printed w (marks_of ms) p)))
    c.in_ok-go_to_the_first.ensures.state) in
    let e = one.1 in
    let m = length-append (string_bytes c.args.out.now)
    (without_blank_lines false (units_at w (marks_of ms))) in
    let f = c.in_err-held.ensures.full one.0 in
    let r = c.from_residual-in_err-held in
    let p = err_from_is_err_and r.result r.ensures.1 in
    rw p.1 (λ _. (
      c.in_ok-go_to_the_first.ensures.range,
      omega (
        arith,
        e,
        m,
        f,
        c.loop-mark.invariant.capacity,
        c.loop-mark.out.bytes.ok.0,
        c.args.out.now.bytes.ok.0,
      ),
    ))
