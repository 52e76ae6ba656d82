use Rattle.cedar_grammar.proofs.Texts.Kinds.{plain_texts_agree}
use Rattle.cedar_grammar.proofs.laws.plain_texts_agree.Goals as goal

pub returns : goal.returns
returns c = plain_texts_agree
