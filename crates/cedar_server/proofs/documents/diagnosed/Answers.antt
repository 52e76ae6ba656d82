use Rattle.std.proofs.Common.{refl}
use Rattle.cedar_server.proofs.documents.diagnosed.Goals as goal

pub returns : goal.returns
returns c =
    (c.in_ok-from_str.field-0, c.args.diagnoses, refl, c.in_ok-from_str.ensures.ok, refl)
