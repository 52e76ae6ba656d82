use Rattle.std.proofs.Common.{arith, inl, inr, subst, sym}
use Rattle.cedar_grammar.specs.declared.error.FormatError.TheVariants.{Grammar}
use Rattle.cedar_faults.specs.FirstFaults.{IsFirstOf}
use Rattle.cedar_faults.specs.Marks.{Marks}
use Rattle.cedar_faults.proofs.Ending.{number_begins, token_begins, deep_begins, leaving_splits, leaving_inside}
use Rattle.cedar_faults.proofs.marks.marked.Goals as goal

pub unit_at-requires : goal.unit_at-requires
unit_at-requires c = token_begins c.args.text.now c.in-Grammar.at
    (subst (IsFirstOf c.args.text.now) c.in-Grammar.is c.requires) c.if-at-text.true c.utf8.text

pub unit_at-requires-in-NumberTooLarge : goal.unit_at-requires-in-NumberTooLarge
unit_at-requires-in-NumberTooLarge c =
    let text = c.args.text.now in
    let at = c.in-NumberTooLarge.at in
    elim c.in-NumberTooLarge.is [
      | inl e ↦ number_begins text at (subst (IsFirstOf text) e c.requires) c.utf8.text
      | inr e ↦ deep_begins text at (subst (IsFirstOf text) e c.requires) c.utf8.text
    ]

pub last_character-requires : goal.last_character-requires
last_character-requires c = leaving_splits c.args.text.now c.in-Grammar.at
    (subst (IsFirstOf c.args.text.now) c.in-Grammar.is c.requires) (omega (arith, c.if-at-text.false))

pub returns-else-at-text : goal.returns-else-at-text
returns-else-at-text c =
    let text = c.args.text.now in
    let g : IsFirstOf text (Grammar c.in-Grammar.at) = subst (IsFirstOf text) c.in-Grammar.is c.requires in
    let inside = leaving_inside text c.in-Grammar.at g in
    subst (λ e. Marks text e c.last_character.result) (sym c.in-Grammar.is)
    (inr (omega (arith, inside), c.last_character.ensures))
