use Rattle.std.proofs.Common.{ap, sym, ◌∙◌}
use Rattle.sha2.specs.Sha256.{sha256}
use Rattle.cedar_examples.proofs.review.fingerprints_go_by_lists.Goals as goal

pub returns : goal.returns
returns c = λ a b x y f g h (j, p, d) (k, q, e).
    d ∙ ap sha256 ((c.keys_tell_lists.ensures a b j k f g p q).1 h) ∙ sym e
