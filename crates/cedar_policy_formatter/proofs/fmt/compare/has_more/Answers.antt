use Rattle.std.proofs.Common.{◌∙◌}
use Rattle.cedar_cst.proofs.Readers.{goes_further}
use Rattle.cedar_policy_formatter.proofs.EqualLists.{found_next}
use Rattle.cedar_policy_formatter.proofs.fmt.compare.has_more.Goals as goal

pub rest-preserved : goal.rest-preserved
rest-preserved c =
    let goes_on = rw c.in-Some.is at c.in_ok-next_text.ensures.answer in
    record {
      of_text = goes_on.of_text ∙ c.rest.invariant.of_text;
      found =
          found_next c.rest.more c.args.reader.now c.rest.reader _ _ c.rest.invariant.found goes_on;
    }

pub rest-smaller : goal.rest-smaller
rest-smaller c = goes_further _ _ _ (rw c.in-Some.is at c.in_ok-next_text.ensures.answer)
