use Rattle.std.proofs.Common.{◌≡◌, [], ◌∷◌, ◌∙◌, sym, subst, refl, rules}
use Rattle.std.proofs.lemmas.List.{nil_from_length}
use Rattle.std.specs.Vec.Iter.{into_iter_items}
use Rattle.cedar_edits.specs.Edits.{AreInOrder}
use Rattle.cedar_edits.specs.declared.changes.PlacedEdit.{PlacedEdit as Placed}
use Rattle.cedar_edits.proofs.Placing.{ArePlaced, all_placed, one_more_placed}
use Rattle.cedar_edits.proofs.Found.{own_place}
use Rattle.cedar_edits.proofs.places.place_edits.Goals as goal

pub loop-edit-preserved : goal.loop-edit-preserved
loop-edit-preserved c =
    let e = c.args.encoding in
    let text = c.args.text.now in
    let edit = c.in-Some.edit in
    let left = into_iter_items c.loop-edit.edit-iterator in
    let rest = into_iter_items c.next.new.self in
    let same : left ≡ edit ∷ rest = search rules in
    let so_far = c.loop-edit.invariant.0 in
    let named = (subst (AreInOrder text so_far.at) same so_far.order).1 in
    let start = own_place e text edit.span.start c.position_on.result named.first.boundary
    named.first.outside c.position_on.ensures in
    let p : Placed = record {
      range = record { start = c.position_on.result; end = c.end_on.result };
      text = edit.text;
    } in (
      subst (ArePlaced e text c.args.edits.items rest) (sym c.in_ok-push.ensures.items)
          (one_more_placed e text c.args.edits.items left rest c.loop-edit.placed.items edit p same
          so_far start c.end_on.ensures refl),
      c.line_from-line.ensures.begins,
    )

pub returns-clause-puts : goal.returns-clause-puts
returns-clause-puts c =
    let none : into_iter_items c.loop-edit.edit-iterator ≡ [] =
    nil_from_length (into_iter_items c.loop-edit.edit-iterator)
    (sym c.loop-edit.edit-iterator.rest.ok.0 ∙ c.in-None.ensures.steps.0) in
    all_placed c.args.encoding c.args.text.now c.args.edits.items
    (into_iter_items c.loop-edit.edit-iterator) c.loop-edit.placed.items none c.loop-edit.invariant.0
