-- A text of printable ASCII takes one column for each byte.
use Rattle.std.proofs.Common.{arith, ◌≡◌, ℕ, true, false, List, [], ◌∷◌, length, ap, ◌∙◌, zero, suc}
use Rattle.std.specs.Int.{is_in_range}
use Rattle.std.specs.List.{list_all}
use Rattle.std.specs.Str.{IsAscii}
use Rattle.std.proofs.lemmas.Bool.{and_parts}
use Rattle.std.proofs.lemmas.Bool.Decides.{nat_tests}
use Rattle.std.proofs.lemmas.Str.{chars-IsAscii}
use Rattle.unicode_width.specs.Width.{str_width}
use Rattle.unicode_width.proofs.Rules.{str_width-printable}
use Rattle.cedar_layout.specs.Layout.{columns}

is_ascii : (bs : List ℕ) → list_all (is_in_range 0x20 0x7E) bs ≡ true → IsAscii bs
is_ascii [] h i = omega arith
is_ascii (b ∷ bs) h zero =
    let parts = and_parts (is_in_range 0x20 0x7E b) (list_all (is_in_range 0x20 0x7E) bs) h in
    grind (arith, nat_tests)
is_ascii (b ∷ bs) h (suc i) =
    let parts = and_parts (is_in_range 0x20 0x7E b) (list_all (is_in_range 0x20 0x7E) bs) h in
    is_ascii bs parts.1 i

pub printable_columns : (bs : List ℕ) → list_all (is_in_range 0x20 0x7E) bs ≡ true
    → columns bs ≡ length bs
unfolding columns
printable_columns bs h =
    ap (str_width false) (chars-IsAscii bs (is_ascii bs h)) ∙ str_width-printable false bs h
