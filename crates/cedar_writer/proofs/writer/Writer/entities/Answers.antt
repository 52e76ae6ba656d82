use Rattle.std.proofs.Common.{pos, ap, ◌∙◌, []}
use Rattle.cedar_tokens.specs.declared.kind.Kind.TheVariants as K
use Rattle.cedar_tokens.specs.Kinds.{is}
use Rattle.cedar_print.specs.WrittenMarks as M
use Rattle.cedar_writer.specs.Writing as W
use Rattle.cedar_writer.specs.Depths.{alone}
use Rattle.cedar_writer.specs.Parts.{some_entities}
use Rattle.cedar_writer.proofs.writer.Writer.entities.Goals as goal

pub returns : goal.returns
returns c = c.take-2.ensures ∙ ap (W.take (is K.RBracket) [] []) (c.put-2.ensures ∙ ap (W.add M.end_nest) (c.some_entities.ensures ∙ ap (alone (some_entities c.args.indent.columns)) (c.put.ensures ∙ ap (W.add (M.nest (pos 1))) c.take.ensures)))
