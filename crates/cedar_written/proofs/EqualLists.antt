-- An output has the list of its text, and texts with equal lists have equal outputs.
use Rattle.std.proofs.Common.{ap, sym, ◌∙◌, refl}
use Rattle.cedar_tokens.specs.Listing.{IsListing, listing, by_value}
use Rattle.cedar_tokens.proofs.Scanning.{listing_unique}
use Rattle.cedar_laws.specs.Canonical.{plain_listing}
use Rattle.cedar_laws.proofs.CanonicalForm.{output_list, outputs_tell}
use Rattle.cedar_laws.proofs.Accepting.{output_accepted}
use Rattle.cedar_written.specs.Lists.{OutputKeepsTheList, EqualListsHaveEqualOutputs}
use Rattle.cedar_written.proofs.Outputs.{outputs_are_the_tables}

pub output_keeps_the_list : OutputKeepsTheList
output_keeps_the_list w i x y u written =
    let o = outputs_are_the_tables w i x y written in
    let a = output_accepted w i x y u o in
    let m = listing a.1.units in
    let l : IsListing y m = record { units = a.1.units; split = a.1.split; value = refl } in
    let e = output_list w i x y m u o l in
    (o.list, m, o.is_list, l, sym (ap by_value e.1 ∙ e.0))

pub equal_lists_have_equal_outputs : EqualListsHaveEqualOutputs
equal_lists_have_equal_outputs w i x y u v p q (l, m, a, b, e) written other =
    let o = outputs_are_the_tables w i x u written in
    let r = outputs_are_the_tables w i y v other in
    (outputs_tell w i x y u v p q o r).1
    (ap (λ z. by_value (plain_listing z)) (listing_unique x o.list l o.is_list a)
    ∙ (e ∙ ap (λ z. by_value (plain_listing z)) (listing_unique y m r.list b r.is_list)))
