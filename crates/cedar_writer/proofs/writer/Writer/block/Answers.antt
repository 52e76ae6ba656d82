use Rattle.std.proofs.Common.{ap, ◌∙◌, []}
use Rattle.cedar_tokens.specs.declared.kind.Kind.TheVariants as K
use Rattle.cedar_tokens.specs.Kinds.{is}
use Rattle.cedar_print.specs.WrittenMarks as M
use Rattle.cedar_writer.specs.Writing as W
use Rattle.cedar_writer.proofs.writer.Writer.block.Goals as goal

pub returns : goal.returns
returns c = c.put-5.ensures ∙ ap (W.add M.end_group) (c.take.ensures ∙ ap (W.take (is K.RBrace) [] []) (c.put-4.ensures ∙ ap (W.add M.line) (c.put-3.ensures ∙ ap (W.add M.end_nest) (c.put-2.ensures ∙ ap (W.add M.end_group) (c.expr.ensures ∙ ap (W.expr_to c.args.indent.columns c.args.depth) (c.put.ensures ∙ ap (W.add M.begin) (c.lift.ensures ∙ ap (W.lift) c.take_brace.ensures)))))))
