use Rattle.cedar_cst.proofs.cst.reader.PolicyReader.next_text.Goals as goal

pub returns-in-Some-clause-accepted : goal.returns-in-Some-clause-accepted
returns-in-Some-clause-accepted c =
    let own = rw c.in-Some.is at c.in_ok-piece.ensures.policy in
    c.tree_is_of_accepted.ensures c.in-Some.piece.text.now own.0 own.1
