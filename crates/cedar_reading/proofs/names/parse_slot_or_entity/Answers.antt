use Rattle.std.proofs.Common.{◌≡◌, sym, ap, subst, ◌∙◌}
use Rattle.cedar_tokens.specs.Kinds.{is, begins}
use Rattle.cedar_grammar.specs.Trees.{Label, none, leaf}
use Rattle.cedar_grammar.specs.Reader.Reading.{done, one}
use Rattle.cedar_grammar.proofs.Readers.Equations.{choice_yes, choice_no, tree_done, tree_fails}
use Rattle.cedar_grammar.specs.Erased.{primary_parts}
use Rattle.cedar_reading.specs.Reading.{kind, Fails}
use Rattle.cedar_reading.proofs.Steps.{passes, gives_as}
use Rattle.cedar_reading.proofs.Refusals.{refused}
use Rattle.cedar_reading.proofs.Entities.{slot_stands}
use Rattle.cedar_reading.proofs.names.parse_slot_or_entity.Goals as goal

pub returns-in_err-token-clause-reads : goal.returns-in_err-token-clause-reads
returns-in_err-token-clause-reads c =
    let q = c.slot_kind-kind.ensures in
    let b = ap (λ z. begins kind (is z) c.args.tokens.now) (sym q) ∙ sym c.begins.ensures
    ∙ c.if-begins.true in
    rw (refused c.from_residual.ensures.1) (passes _ _ _ (subst (λ z.
    Fails c.in_err-token.field-0.0 (one kind z c.args.tokens.now)) q c.in_err-token.ensures.reads)
    (λ x r e.
    choice_yes _ _ _ _ b ∙ tree_fails Label.primary _ _ x r (tree_fails Label.slot _ _ x r e)))

pub returns-then-begins-clause-reads : goal.returns-then-begins-clause-reads
returns-then-begins-clause-reads c =
    let q = c.slot_kind-kind.ensures in
    let b = ap (λ z. begins kind (is z) c.args.tokens.now) (sym q) ∙ sym c.begins.ensures
    ∙ c.if-begins.true in
    let t = c.in_ok-token.token in
    let h = subst (λ z. (one kind z c.args.tokens.now ≡ done (leaf t none) c.in_ok-token.rest.now)
    × (t.kind ≡ z)) q c.in_ok-token.ensures.reads in (
      _,
      choice_yes _ _ _ _ b ∙ tree_done Label.primary _ _ _ _ (tree_done Label.slot _ _ _ _ h.0),
      slot_stands c.args.slot t c.slot_primary.result h.1 c.slot_primary.ensures,
    )

pub returns-clause-reads : goal.returns-clause-reads
returns-clause-reads c =
    gives_as Label.primary primary_parts c.parse_entity.result _ _ c.parse_entity.ensures.reads
    (choice_no _ _ _ _ (ap (λ z. begins kind (is z) c.args.tokens.now)
    (sym c.slot_kind-kind.ensures) ∙ sym c.begins.ensures ∙ c.if-begins.false))
