use Rattle.std.proofs.Common.{◌≡◌, ◌++◌, replicate, string_bytes, arith, sym, ap, ◌∙◌}
use Rattle.std.specs.List.{concat}
use Rattle.cedar_tokens.specs.Bytes.{space_character}
use Rattle.cedar_print.specs.Inside.Written.{units_held}
use Rattle.cedar_print.proofs.Units.{break_written}
use Rattle.cedar_print.proofs.write.write_held.Goals as goal

pub returns-after-loop-i-clause-ok : goal.returns-after-loop-i-clause-ok
returns-after-loop-i-clause-ok c =
    let out = string_bytes c.args.out.now in
    let e : c.loop-i._i ≡ c.in-Some.field-0.spaces = omega arith in
    break_written out (string_bytes c.write_break.new.out) (string_bytes c.loop-i.out)
    c.in-Some.field-0.indent c.in-Some.field-0.spaces c.in_ok-write_break.ensures.ok
    (c.loop-i.invariant.bytes
    ∙ ap (λ n. string_bytes c.write_break.new.out ++ replicate n space_character) e)
    ∙ ap (λ h. out ++ concat (units_held h)) (sym c.in-Some.is)
