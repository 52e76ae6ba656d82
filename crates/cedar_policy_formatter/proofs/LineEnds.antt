-- Line ends and lists that stay.
use Rattle.std.proofs.Common.{ℕ, ℤ, List, sym, subst, inl, inr}
use Rattle.std.specs.Prelude.{map}
use Rattle.std.specs.Str.{IsUtf8}
use Rattle.cedar_tokens.specs.Listing.{Listing, EqualByValue}
use Rattle.cedar_laws.specs.Canonical.{IsOutputOf, plain_listing}
use Rattle.cedar_laws.specs.Output.{tokens_of, with_value}
use Rattle.cedar_laws.proofs.Accepting.{output_accepted}
use Rattle.cedar_laws.proofs.CanonicalForm.{output_list, own_list}
use Rattle.cedar_policy_formatter.specs.Keeping.{InLineEnds, Keeps}

-- a text keeps its list in a form of another that it keeps its list in
pub ends_keep : (text plain returned result : List ℕ) → InLineEnds text plain returned result
    → Keeps text plain → Keeps text result
ends_keep text plain returned result (inl (chosen, e)) keeps = subst (Keeps text) (sym e) chosen.1
ends_keep text plain returned result (inr (_, e)) keeps = subst (Keeps text) (sym e) keeps

-- a text keeps its list in its output
pub output_keeps : (w : ℕ) (i : ℤ) (x y : List ℕ) → IsUtf8 x → IsOutputOf w i x y → Keeps x y
output_keeps w i x y u o _ =
    let m : Listing =
    record { tokens = map with_value (tokens_of o.policies); closing = o.list.closing } in
    let own = own_list w i x y u o in
    let equal = output_list w i x y m u o own in (
      output_accepted w i x y u o,
      (
        o.list,
        m,
        o.is_list,
        own,
        sym (subst (λ z. EqualByValue z (plain_listing o.list)) (sym equal.1) equal.0),
      ),
    )
