use Rattle.std.proofs.Common.{◌≡◌, false, true, inr, refl, ap, sym, subst, ◌∙◌}
use Rattle.std.specs.Prelude.{string_bytes}
use Rattle.cedar_edits.specs.Edits.{edited}
use Rattle.cedar_edits.specs.Returns.{with_returns}
use Rattle.cedar_policy_formatter.specs.Keeping.{Keeps}
use Rattle.cedar_policy_formatter.proofs.ranges.ends.in_line_ends.Goals as goal

pub returns-else-branch : goal.returns-else-branch
returns-else-branch c =
    let text = c.args.text.now in
    let changed : c.as_str-2.result.now
    ≡ edited text c.args.span (with_returns (string_bytes c.args.new)) =
    c.as_str-2.ensures.value ∙ (c.in_ok-changed.ensures ∙ ap (edited text c.args.span)
    (c.in_ok-returned.ensures ∙ ap with_returns c.as_str.ensures.value)) in
    inr (
      λ chosen.
          let yes = c.in_ok-keeps.ensures.1 (subst (Keeps text) (sym changed) chosen.1) in
          let no : c.in_ok-keeps.field-0 ≡ false = c.if-branch.false in
          let e : false ≡ true = sym no ∙ yes in
          absurd cc,
      refl,
    )
