use Rattle.cedar_server.proofs.Reading.{place_more}
use Rattle.cedar_server.proofs.Selecting.{all_so_far, part_more}
use Rattle.cedar_server.proofs.selections.blocks.Goals as goal

pub loop-part-preserved : goal.loop-part-preserved
loop-part-preserved c =
    let i = c.loop-part.invariant in
    let g = c.in-Some.ensures.steps in
    record {
      can_next = tt;
      is_finite = tt;
      place = place_more _ _ _ _ _ i.place g.2;
      so_far = part_more _ _ _ _ _ _ _ _ _ i.so_far g.0 g.2 c.in_ok-take.ensures.blocks c.in_ok-take.ensures.nesting;
    }

pub returns : goal.returns
returns c = all_so_far c.args.text.now _ _ _ _ _ c.in-None.ensures.steps.0 c.loop-part.invariant.so_far c.in_ok-finish.ensures
