use Rattle.std.proofs.Common.{◌≡◌, ◌++◌, Some, string_bytes, arith, sym, ap, subst, ◌∙◌}
use Rattle.std.proofs.lemmas.Result.{err_from_is_err_and}
use Rattle.cedar_print.specs.declared.place.Written.{Written}
use Rattle.cedar_print.specs.Inside.Written.{units_in, IsSolid, clean_after}
use Rattle.cedar_print.proofs.Clean.{held_and_text, text_written, then_break}
use Rattle.cedar_print.proofs.write.write_clean.Goals as goal

pub returns-in_ok-push_str-in-Some-Text-clause-ok :
    goal.returns-in_ok-push_str-in-Some-Text-clause-ok
returns-in_ok-push_str-in-Some-Text-clause-ok c = λ us.
    let out = string_bytes c.args.out.now in
    let h = c.args.held in
    let s = c.in-Some-Text.text.now in
    let e : c.args.written ≡ Some (Written.Text c.in-Some-Text.text) =
    c.in-Some-Text.is ∙ ap Some (rw c.in-Some-Text.is at c.in-Some-Text.field-0-is) in
    text_written h s us out (string_bytes c.write_held.new.out)
    (string_bytes c.push_str.new.self) (subst IsSolid e c.requires.solid)
    c.in_ok-write_held-in-Some-Text.ensures.ok c.in_ok-push_str-in-Some-Text.ensures.bytes
    ∙ ap (λ x. out ++ clean_after h (units_in x ++ us)) (sym e)

pub returns-in-Some-Break-clause-ok : goal.returns-in-Some-Break-clause-ok
returns-in-Some-Break-clause-ok c = λ us.
    let out = string_bytes c.args.out.now in
    let h = c.args.held in
    let e : c.args.written ≡ Some (Written.Break c.in-Some-Break.indent) =
    c.in-Some-Break.is ∙ ap Some (rw c.in-Some-Break.is at c.in-Some-Break.field-0-is) in
    ap (λ xs. out ++ xs) (then_break h c.in-Some-Break.indent us)
    ∙ ap (λ x. out ++ clean_after h (units_in x ++ us)) (sym e)

pub returns-in_err-write_held-in-Some-Text-clause-full :
    goal.returns-in_err-write_held-in-Some-Text-clause-full
returns-in_err-write_held-in-Some-Text-clause-full c =
    let s = c.in-Some-Text.text.now in
    let e : c.args.written ≡ Some (Written.Text c.in-Some-Text.text) =
    c.in-Some-Text.is ∙ ap Some (rw c.in-Some-Text.is at c.in-Some-Text.field-0-is) in
    let p = err_from_is_err_and c.from_residual.result c.from_residual.ensures.1 in
    rw p.1 (λ us. rw e (
    let k = held_and_text c.args.held s us (subst IsSolid e c.requires.solid) in
    omega (arith, k, c.in_err-write_held-in-Some-Text.ensures.full)
    ))

pub returns-in_err-push_str-in-Some-Text-clause-full :
    goal.returns-in_err-push_str-in-Some-Text-clause-full
returns-in_err-push_str-in-Some-Text-clause-full c =
    let s = c.in-Some-Text.text.now in
    let e : c.args.written ≡ Some (Written.Text c.in-Some-Text.text) =
    c.in-Some-Text.is ∙ ap Some (rw c.in-Some-Text.is at c.in-Some-Text.field-0-is) in
    let r = c.from_residual-in_err-push_str-in-Some-Text in
    let p = err_from_is_err_and r.result r.ensures.1 in
    rw p.1 (λ us. rw e (
    let k = held_and_text c.args.held s us (subst IsSolid e c.requires.solid) in
    omega (
      arith,
      k,
      c.write_held.ensures.capacity,
      c.in_ok-write_held-in-Some-Text.ensures.len,
      c.in_err-push_str-in-Some-Text.ensures.full,
    )
    ))
