use Rattle.std.proofs.Common.{ap, subst, sym, ◌∙◌}
use Rattle.cedar_reading.specs.SameTokens.{HasTheTokens}
use Rattle.cedar_writer.proofs.Printed.{has_tokens_read, output_of}
use Rattle.cedar_writer.proofs.printer.PolicyPrinter.print.Goals as goal

pub returns-then-has_tokens : goal.returns-then-has_tokens
returns-then-has_tokens c =
    output_of c.args.width c.args.indent.columns c.args.text.now c.utf8.text c.requires.piece _ _
    c.in_ok-read.ensures _ c.in_ok-lay_out.ensures.layout

pub returns-else-has_tokens : goal.returns-else-has_tokens
returns-else-has_tokens c =
    let h = has_tokens_read c.args.width c.args.indent.columns c.args.text.now c.utf8.text
    c.requires.piece _ _ c.in_ok-read.ensures _ c.in_ok-lay_out.ensures.layout in
    let same = c.deref.ensures.value ∙ ap (λ v. v.items) c.in_ok-lay_out.ensures.tokens in
    let k = subst (λ z. HasTheTokens z c.deref.result.now) (sym c.as_str.ensures.value)
    (subst (HasTheTokens _) (sym same) h) in
    let t = c.has_tokens.ensures.1 k in
    let f = c.if-has_tokens.false in
    absurd cc
