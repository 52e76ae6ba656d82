-- What comparing an output says about its text.
use Rattle.std.proofs.Common.{◌≡◌, ℕ, ℤ, List, Bool, ap, map, subst}
use Rattle.std.specs.Prelude.{IsTrue, ◌↔◌}
use Rattle.std.specs.Str.{IsUtf8}
use Rattle.cedar_tokens.specs.Listing.{ListingIsUnique, by_value}
use Rattle.cedar_tokens.specs.Places.{AreInOrder}
use Rattle.cedar_tokens.specs.declared.token.WrappedToken.{WrappedToken}
use Rattle.cedar_tokens.proofs.Collecting.{spans_in_order}
use Rattle.cedar_laws.specs.Canonical.{plain_listing}
use Rattle.cedar_cst.specs.PolicyReaders.{AreTokensOf}
use Rattle.cedar_written.specs.Canonical.{OutputsTellLists}
use Rattle.cedar_written.specs.Output.{IsOutputOf}

module _ (tell : OutputsTellLists) (unique : ListingIsUnique) (w : ℕ) (i : ℤ) where
  -- a text has one output
  one_output : (x y z : List ℕ) → IsUtf8 x → IsOutputOf w i x y → IsOutputOf w i x z → y ≡ z
  one_output x y z u a b = (tell w i x x y z u u a b).1
      (ap (λ l. by_value (plain_listing l)) (unique x a.list b.list a.is_list b.is_list))

  pub formatted_tells : (x y : List ℕ) (t : Bool) → IsUtf8 x → IsOutputOf w i x y
      → (IsTrue t ↔ (y ≡ x)) → IsTrue t ↔ IsOutputOf w i x x
  formatted_tells x y t u a k =
      (λ h. subst (λ z. IsOutputOf w i x z) (k.0 h) a, λ b. k.1 (one_output x y x u a b))

-- the tokens of a text stand in order
pub in_order : (text : List ℕ) (tokens : List WrappedToken) → AreTokensOf text tokens
    → AreInOrder tokens
in_order text tokens t = spans_in_order text (map (λ w. w.span) tokens) t.spans
