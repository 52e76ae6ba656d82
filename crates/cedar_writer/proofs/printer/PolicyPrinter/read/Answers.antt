use Rattle.std.proofs.Common.{◌≡◌, ap, subst, sym}
use Rattle.std.proofs.lemmas.Result.{err_from_is_err_and}
use Rattle.cedar_grammar.specs.Laws.{AreTokens}
use Rattle.cedar_tokens.specs.PlainList.{plain_list}
use Rattle.cedar_writer.proofs.OnePolicy.{accepted_by, are_tokens}
use Rattle.cedar_writer.proofs.Printed.{not_accepted, plain_tokens, read_plain, read_whole}
use Rattle.cedar_writer.proofs.printer.PolicyPrinter.read.Goals as goal

pub write-requires : goal.write-requires
write-requires c = are_tokens c.args.text.now _ c.in_ok-store_tokens.ensures

pub returns-in_err-write : goal.returns-in_err-write
returns-in_err-write c =
    let p = err_from_is_err_and c.from_residual-in_err-write.result
    c.from_residual-in_err-write.ensures.1 in
    rw (p.1, p.2)
    (not_accepted c.args.indent.columns c.args.text.now _ c.in_ok-store_tokens.ensures
    c.requires.piece _ c.in_err-write.ensures.marks)

pub returns-then-not-has_trailing_comma : goal.returns-then-not-has_trailing_comma
returns-then-not-has_trailing_comma c =
    read_whole c.args.indent.columns c.args.text.now _ c.in_ok-store_tokens.ensures c.requires.piece
    c.args.lexemes.now c.requires.lexemes _ _ (ap (λ v. v.items) c.in_ok-write.ensures.tokens)
    c.in_ok-write.ensures.marks
    (subst (λ z. plain_list z ≡ z) c.deref.ensures.value c.if-not-has_trailing_comma.ensures.plain)

pub write-requires-2 : goal.write-requires-2
write-requires-2 c =
    let m = c.in_ok-write.ensures.marks in
    let q = c.in_ok-store_plain_tokens.ensures in
    let a = accepted_by c.args.text.now _ c.in_ok-store_tokens.ensures c.requires.piece
    c.args.indent.columns m.0 c.args.lexemes.now c.requires.lexemes m.1 in
    subst (AreTokens (λ t. t.text)) (sym q.plain)
    (plain_tokens 0 c.args.indent.columns c.args.text.now c.utf8.text c.requires.piece _ q.list a)

pub returns : goal.returns
returns c =
    let m = c.in_ok-write.ensures.marks in
    let q = c.in_ok-store_plain_tokens.ensures in
    let a = accepted_by c.args.text.now _ c.in_ok-store_tokens.ensures c.requires.piece
    c.args.indent.columns m.0 c.args.lexemes.now c.requires.lexemes m.1 in
    read_plain c.args.indent.columns c.args.text.now c.utf8.text _ q.list c.requires.piece a _ _ _
    q.plain (ap (λ v. v.items) c.write-2.ensures.tokens) c.write-2.result c.write-2.ensures.marks
