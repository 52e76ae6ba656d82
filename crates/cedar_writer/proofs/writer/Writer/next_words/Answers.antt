use Rattle.std.proofs.Common.{refl, sym, ◌∙◌}
use Rattle.cedar_writer.specs.Parts.{next_word}
use Rattle.cedar_writer.proofs.Loops.{alone_less, alone_turn, alone_over}
use Rattle.cedar_writer.proofs.writer.Writer.next_words.Goals as goal

pub words-smaller : goal.words-smaller
words-smaller c = alone_less next_word c.words.self c.next_word.new.self refl (sym c.begins.ensures ∙ c.words-test.true) c.next_word.ensures

pub words-preserved : goal.words-preserved
words-preserved c = alone_turn next_word c.words.self c.next_word.new.self refl (sym c.begins.ensures ∙ c.words-test.true) c.words.invariant c.next_word.ensures

pub returns : goal.returns
returns c = alone_over next_word c.words.self (sym c.begins.ensures ∙ c.words-test.false) c.words.invariant
