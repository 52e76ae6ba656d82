-- What outputs say about their texts, as by the table.
use Rattle.std.proofs.Common.{◌≡◌, ℕ, ℤ, List, ap, sym, ◌∙◌, subst}
use Rattle.std.specs.Str.{IsUtf8}
use Rattle.cedar_tokens.specs.Listing.{EqualByValue, by_value}
use Rattle.cedar_tokens.proofs.Scanning.{listing_unique}
use Rattle.cedar_laws.specs.Canonical.{plain_listing, IsOutputOf as IsOutputByTable}
use Rattle.cedar_laws.proofs.CanonicalForm as table
use Rattle.cedar_laws.proofs.Accepting as table_texts
use Rattle.cedar_laws.proofs.OutputLaws as table_laws
use Rattle.cedar_written.specs.Output.{IsOutputOf}
use Rattle.cedar_written.specs.Canonical.{AcceptedHasOutput, OutputIsAccepted, OutputHasTheList, OutputsTellLists, OutputIsItsOwn, LastWidthDecides}
use Rattle.cedar_written.proofs.Outputs.{accepted_agree, outputs_are_the_tables, table_outputs_are_outputs, written_output, good_output}

module _ (w : ℕ) (i : ℤ) (x y : List ℕ) where
  by_table : IsOutputOf w i x y → IsOutputByTable w i x y
  by_table = outputs_are_the_tables w i x y

  written : IsUtf8 x → IsOutputByTable w i x y → IsOutputOf w i x y
  written = table_outputs_are_outputs w i x y

  -- both have the list of the text
  one_list : (o : IsOutputOf w i x y) → plain_listing (by_table o).list ≡ plain_listing o.list
  one_list o = ap plain_listing
      (listing_unique x (by_table o).list o.list (by_table o).is_list o.is_list)

pub accepted_has_output : AcceptedHasOutput
accepted_has_output w i x u a =
    let o = table.accepted_has_output w i x u ((accepted_agree x).1 a) in
    (o.0, written w i x o.0 u o.1)

pub output_accepted : OutputIsAccepted
output_accepted w i x y u o =
    (accepted_agree y).0 (table_texts.output_accepted w i x y u (by_table w i x y o))

pub output_list : OutputHasTheList
output_list w i x y m u o l =
    let h = table.output_list w i x y m u (by_table w i x y o) l in
    (subst (EqualByValue m) (one_list w i x y o) h.0, h.1)

pub outputs_tell : OutputsTellLists
outputs_tell w i x1 x2 y1 y2 u v a b =
    let h = table.outputs_tell w i x1 x2 y1 y2 u v (by_table w i x1 y1 a) (by_table w i x2 y2 b) in
    let p = ap by_value (one_list w i x1 y1 a) in
    let q = ap by_value (one_list w i x2 y2 b) in
    (λ e. sym p ∙ (h.0 e ∙ q), λ e. h.1 (p ∙ (e ∙ sym q)))

pub output_again : OutputIsItsOwn
output_again w i x y u o =
    let t = by_table w i x y o in
    written_output w i y y (good_output w i x y u t) (table_texts.output_again w i x y u t)

pub last_width_decides : LastWidthDecides
last_width_decides w v i j x y z u o =
    let t = by_table w i x y o in
    let h = table_laws.last_width_decides w v i j x y z u t in (
      λ p. written v j x z u (h.0 (by_table v j y z p)),
      λ p. written_output v j y z (good_output w i x y u t) (h.1 (by_table v j x z p)),
    )
