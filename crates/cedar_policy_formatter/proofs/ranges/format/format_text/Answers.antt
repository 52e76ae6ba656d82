use Rattle.std.proofs.Common.{ap, ◌∙◌}
use Rattle.std.specs.Prelude.{string_bytes}
use Rattle.cedar_edits.specs.Edits.{edited, edited_by}
use Rattle.cedar_edits.specs.Returns.{with_returns}
use Rattle.cedar_policy_formatter.proofs.LineEnds.{ends_keep, output_keeps}
use Rattle.cedar_policy_formatter.proofs.Named.{part_from_named}
use Rattle.cedar_policy_formatter.proofs.Wholes.{whole, whole_ends, whole_named}
use Rattle.cedar_policy_formatter.proofs.ranges.format.format_text.Goals as goal

pub in_line_ends-requires : goal.in_line_ends-requires
in_line_ends-requires c = part_from_named c.args.text.now (whole c.args.text.now)
    (whole_named c.args.text.now c.utf8.text)

pub edits_between-requires : goal.edits_between-requires
edits_between-requires c = whole_named c.args.text.now c.utf8.text

pub returns-clause-answer : goal.returns-clause-answer
returns-clause-answer c = (c.written_texts_agree.ensures.accepted c.args.text.now).1
    c.in_ok-output.ensures.answer.accepted

pub returns-clause-output : goal.returns-clause-output
returns-clause-output c =
    let text = c.args.text.now in
    let out = string_bytes c.in_ok-output.output in
    record {
      out = out;
      output = c.written_outputs_agree.ensures.back c.args.config.now.line_width
          c.args.config.now.indent_width text out c.in_ok-output.ensures.answer;
      ends = whole_ends text out (string_bytes c.in_ok-output-2.output)
          (edited_by text c.in_ok-edits.edits.items) c.in_ok-output-2.ensures
          (c.in_ok-edits.ensures.bytes ∙ ap (edited text (whole text)) c.as_str.ensures.value);
    }

pub returns-clause-keeps : goal.returns-clause-keeps
returns-clause-keeps c =
    let w = c.args.config.now.line_width in
    let i = c.args.config.now.indent_width in
    let text = c.args.text.now in
    let out = string_bytes c.in_ok-output.output in
    ends_keep text out (with_returns out) (edited_by text c.in_ok-edits.edits.items)
    (whole_ends text out (string_bytes c.in_ok-output-2.output)
    (edited_by text c.in_ok-edits.edits.items) c.in_ok-output-2.ensures
    (c.in_ok-edits.ensures.bytes ∙ ap (edited text (whole text)) c.as_str.ensures.value))
    (output_keeps w i text out c.utf8.text
    (c.written_outputs_agree.ensures.back w i text out c.in_ok-output.ensures.answer))
