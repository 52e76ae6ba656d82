use Rattle.std.proofs.Common.{◌≡◌}
use Rattle.cedar_tokens.specs.declared.kind.Kind.TheVariants as K
use Rattle.cedar_writer.specs.Writing.{size}
use Rattle.cedar_writer.specs.Lines.{ident}
use Rattle.cedar_writer.specs.Depths.{often}
use Rattle.cedar_writer.proofs.writer.Writer.words.Given as goal

abbrev pub invariant-words : goal.invariant-words
invariant-words l = often K.DoubleColon ident l.fn.self ≡ often K.DoubleColon ident l.self

abbrev pub decreases-words : goal.decreases-words
decreases-words l = size l.self
