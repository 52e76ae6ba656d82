use Rattle.std.proofs.Common.{refl}
use Rattle.cedar_tokens.proofs.Reading.{has_all}
use Rattle.cedar_tokens.proofs.readers.TokenReader.of_split.Goals as goal

pub returns : goal.returns
returns c =
    has_all _ _ _ refl c.split_at.ensures.front c.split_at.ensures.back c.gap_len-gap.ensures.gap
