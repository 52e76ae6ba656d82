use Rattle.std.proofs.Common.{◌∙◌, arith, take}
use Rattle.cedar_faults.specs.FirstFaults.{Reaches}
use Rattle.cedar_faults.proofs.Describing.{end_there, front_splits, front_tokens, kinds_there, nothing_found, part_end, part_start, reached, reached_boundary, reached_inside}
use Rattle.cedar_faults.proofs.Bracketing.{of_split}
use Rattle.cedar_faults.proofs.Passing.{from_start}
use Rattle.cedar_faults.proofs.reader.describe.Goals.{then-at-text, else-at-text}
use Rattle.cedar_faults.proofs.reader.describe.Goals as goal

pub range-before-requires-clause-end_boundary : goal.range-before-requires-clause-end_boundary
range-before-requires-clause-end_boundary c =
    let text = c.args.text.now in
    reached_boundary text c.place-at.result (reached text c.args.error c.place-at.result c.requires c.place-at.ensures) c.utf8.text

pub what_follows-requires : goal.what_follows-requires
what_follows-requires c =
    let text = c.args.text.now in
    rw (c.range-before.ensures.value ∙ from_start text c.place-at.result)
    (front_tokens text c.place-at.result (reached text c.args.error c.place-at.result c.requires c.place-at.ensures))

pub left_open-requires : goal.left_open-requires
left_open-requires c =
    let text = c.args.text.now in
    let r : Reaches text c.place-at.result = reached text c.args.error c.place-at.result c.requires c.place-at.ensures in
    rw (c.range-before.ensures.value ∙ from_start text c.place-at.result)
    (r.before, front_splits text c.place-at.result r)

pub range-requires-clause-start_boundary : goal.range-requires-clause-start_boundary
range-requires-clause-start_boundary c = λ more.
    let text = c.args.text.now in
    let r : Reaches text c.place-at.result = reached text c.args.error c.place-at.result c.requires c.place-at.ensures in
    rw (part_start text c.args.error c.place-at.result c.marked-part.result c.marked-part.ensures c.place-at.ensures c.if-at-text.true)
    (reached_boundary text c.place-at.result r c.utf8.text)

pub range-requires-clause-end_boundary : goal.range-requires-clause-end_boundary
range-requires-clause-end_boundary c =
    let text = c.args.text.now in
    let r : Reaches text c.place-at.result = reached text c.args.error c.place-at.result c.requires c.place-at.ensures in
    part_end text c.args.error c.place-at.result c.marked-part.result c.marked-part.ensures c.utf8.text r c.place-at.ensures c.if-at-text.true

pub returns : goal.returns
returns c =
    let text = c.args.text.now in
    let at = c.place-at.result in
    let r : Reaches text at = reached text c.args.error at c.requires c.place-at.ensures in
    record {
      first = c.requires;
      place = c.place-at.ensures;
      part = c.marked-part.ensures;
      expects = record {
        reached = r;
        kinds = kinds_there text at r c.in_ok-next.next.kinds.items.items
            (rw (c.range-before.ensures.value ∙ from_start text at) at c.in_ok-next.ensures.kinds);
        named = c.in_ok-names.ensures;
        end = end_there text at r c.in_ok-next.next.end
            (rw (c.range-before.ensures.value ∙ from_start text at) at c.in_ok-next.ensures.end);
      };
      found = elim c.if-at-text.branch [
        | then-at-text w ↦ rw w.found-is (w.if-at-text.true, w.range.ensures.value)
        | else-at-text w ↦ rw w.found-is
            (nothing_found text c.marked-part.result at (reached_inside text at r) (omega (arith, w.if-at-text.false)))
      ];
      unclosed = of_split (take at text) c.if-at-text.found c.in_ok-unclosed.unclosed r.before
          (rw (c.range-before.ensures.value ∙ from_start text at) at c.in_ok-unclosed.ensures) (front_splits text at r);
    }
