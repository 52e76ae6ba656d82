use Rattle.cedar_faults.proofs.KindLists.{contains_answer}
use Rattle.cedar_faults.proofs.kinds.Kinds.contains.Goals as goal

pub returns : goal.returns
returns c = contains_answer c.args.self.now.items.items c.args.kind c.contains.result
    (rw c.deref.ensures.value at c.contains.ensures.cases)
