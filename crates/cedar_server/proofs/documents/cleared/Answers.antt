use Rattle.std.proofs.Common.{◌∙◌}
use Rattle.std.proofs.lemmas.Result.{IfOk-weaker}
use Rattle.cedar_server.proofs.documents.cleared.Goals as goal

pub returns : goal.returns
returns c = IfOk-weaker c.diagnosed.result _ _ (λ message told. (told.0, told.1, told.2, told.3, told.4 ∙ c.new.ensures.items))
    c.diagnosed.ensures
