use Rattle.std.proofs.Common.{sym, ◌∙◌}
use Rattle.cedar_tokens.specs.declared.kind.Kind.TheVariants as K
use Rattle.cedar_writer.specs.Lines.{ident}
use Rattle.cedar_writer.proofs.Loops.{often_less, often_turn, often_over}
use Rattle.cedar_writer.proofs.writer.Writer.words.Goals as goal

pub words-smaller : goal.words-smaller
words-smaller c = often_less K.DoubleColon ident c.words.self c.next_word.new.self (sym c.goes.ensures ∙ c.words-test.true) c.next_word.ensures

pub words-preserved : goal.words-preserved
words-preserved c = often_turn K.DoubleColon ident c.words.self c.next_word.new.self (sym c.goes.ensures ∙ c.words-test.true) c.words.invariant c.next_word.ensures

pub returns : goal.returns
returns c = often_over K.DoubleColon ident c.words.self (sym c.goes.ensures ∙ c.words-test.false) c.words.invariant
