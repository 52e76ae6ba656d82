-- Where a piece ends.
use Rattle.std.proofs.Common.{◌≡◌, ◌∷◌, [], ◌++◌, ℕ, List, false}
use Rattle.std.specs.Prelude.{codes}
use Rattle.std.specs.List.{list_any}
use Rattle.cedar_tokens.proofs.UnitsSoFar.{EndsAt}
use Rattle.cedar_reading.specs.Pieces.{is_semicolon}
use Rattle.cedar_reading.specs.Inside.Steps.{EndsInSemicolon}

-- the units so far, of which the last is their only `;`
pub ends_in_semicolon : (us : List (List ℕ)) (text rest u : List ℕ) (n : ℕ)
    → EndsAt (us ++ u ∷ []) text rest n → u ≡ codes ";" → list_any is_semicolon us ≡ false
    → EndsInSemicolon text n
ends_in_semicolon us text rest u n e m none = record {
  before = us;
  scans = rw m at e.scans;
  place = rw m at e.place;
  first = none;
}
