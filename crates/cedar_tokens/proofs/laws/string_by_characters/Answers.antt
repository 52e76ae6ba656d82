use Rattle.cedar_tokens.proofs.Characters.{string_by_characters}
use Rattle.cedar_tokens.proofs.laws.string_by_characters.Goals as goal

pub returns : goal.returns
returns c = string_by_characters
