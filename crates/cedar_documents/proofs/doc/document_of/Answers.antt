use Rattle.std.proofs.Common.{rules, ◌≡◌, to_z, of_z, w64, arith, false, true, length, map, sym, ap, ◌∙◌, subst}
use Rattle.std.proofs.lemmas.Int.{ints}
use Rattle.cedar_grammar.specs.Texts.{greatest_depth}
use Rattle.cedar_layout.specs.Lookups.{shown}
use Rattle.cedar_writer.specs.NodeRules.{lang_of}
use Rattle.cedar_documents.specs.Kept.{KeepsTokens}
use Rattle.cedar_documents.specs.ShownNodes.{IsDocumentOf}
use Rattle.cedar_documents.specs.Taking.{BeginsAt, Follow, by_value, own}
use Rattle.cedar_documents.proofs.Shown.{decided, made_follow, made_has, refilled}
use Rattle.cedar_documents.proofs.doc.document_of.Goals as goal

pub returns-then-not-has_all-clause-none : goal.returns-then-not-has_all-clause-none
returns-then-not-has_all-clause-none c = λ nodes e.
    decided false c.has_all.result c.deref.result.now c.args.context.now.tokens.items c.args.items.now nodes
    c.if-not-has_all.true c.has_all.ensures c.deref.ensures.value e

pub returns-then-not-has_all-clause-shows : goal.returns-then-not-has_all-clause-shows
returns-then-not-has_all-clause-shows c = λ nodes ts doc e b m row before after w.
    (let h : false ≡ true = returns-then-not-has_all-clause-none c nodes e
    ∙ made_has nodes ts c.args.context.now.tokens.items before after m c.requires w in absurd cc)

pub returns-clause-none : goal.returns-clause-none
returns-clause-none c = λ nodes e.
    decided true c.has_all.result c.deref.result.now c.args.context.now.tokens.items c.args.items.now nodes
    c.if-not-has_all.false c.has_all.ensures c.deref.ensures.value e

-- the vector is as long as its items
as_long : (c : goal.After-drop-taken-2) → c.args.context.now.tokens.len ≡ length c.args.context.now.tokens.items
as_long c = search rules

pub returns-clause-shows : goal.returns-clause-shows
returns-clause-shows c = λ nodes ts doc e b m row before after w.
    (let old = c.args.context.now.tokens.items in
    let columns = c.args.context.now.config.now.indent_width in
    let width : to_z w64 (of_z w64 columns) ≡ columns = omega (arith, ints) in
    let t = c.in_ok-taken.ensures.taken before ts after (ap (map shown) c.as_mut_slice.ensures.value ∙ w)
    (subst BeginsAt (sym e) b) (subst (λ z. Follow z ts) (sym e) (made_follow nodes ts m)) in
    let words = c.deref-3.ensures.value ∙ (c.in_ok-tokens.ensures ∙ (ap (map own) c.deref-2.ensures.value ∙ t.0)) in
    let kept = subst (λ z. KeepsTokens z c.take_tokens.new.tokens) c.as_mut_slice.ensures.value c.in_ok-taken.ensures.kept in (
      c.in_ok-write.ensures doc (subst (λ z. IsDocumentOf (lang_of (to_z w64 (of_z w64 columns)) greatest_depth c.args.line) z doc) (sym words)
          (subst (λ z. IsDocumentOf (lang_of z greatest_depth c.args.line) (map by_value ts) doc) (sym width) row)),
      ap (map shown) (refilled old c.take_tokens.new.tokens c.args.context.now.tokens.len (as_long c) kept) ∙ t.1,
    ))
