use Rattle.std.proofs.Common.{◌∙◌, refl}
use Rattle.cedar_reading.proofs.Comments.{no_comments}
use Rattle.cedar_reading.proofs.token.Token.new.Goals as goal

pub returns : goal.returns
returns c = c.after_comma.ensures ∙ rw no_comments refl
