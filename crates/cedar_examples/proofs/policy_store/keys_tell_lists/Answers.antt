use Rattle.cedar_examples.proofs.Keys.{keys_tell}
use Rattle.cedar_examples.proofs.policy_store.keys_tell_lists.Goals as goal

pub returns : goal.returns
returns c = keys_tell c.outputs_are_canonical.ensures.equal c.listing_is_unique.ensures
