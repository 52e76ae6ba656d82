use Rattle.std.proofs.Common.{◌∙◌, sym, ap, ◌≡◌, true}
use Rattle.std.specs.Int.{is_in_range}
use Rattle.std.specs.List.{list_all}
use Rattle.cedar_layout.specs.Layout.{columns}
use Rattle.cedar_layout.proofs.Printable.{printable_columns}
use Rattle.cedar_layout.proofs.layout.columns.columns_of.Goals as goal

pub returns-then-all_printable-clause-value : goal.returns-then-all_printable-clause-value
returns-then-all_printable-clause-value c =
    let printable : list_all (is_in_range 0x20 0x7E) c.args.text.now ≡ true =
    ap (list_all (is_in_range 0x20 0x7E)) (sym c.as_bytes.ensures.value)
    ∙ (sym c.all_printable.ensures ∙ c.if-all_printable.true) in
    sym (printable_columns c.args.text.now printable)

pub returns-else-all_printable-clause-value : goal.returns-else-all_printable-clause-value
unfolding columns
returns-else-all_printable-clause-value c = c.width.ensures.value
