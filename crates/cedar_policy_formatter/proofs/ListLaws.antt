-- Texts with equal lists.
use Rattle.std.proofs.Common.{ap, sym, ◌∙◌, subst}
use Rattle.cedar_tokens.specs.Listing.{by_value}
use Rattle.cedar_tokens.proofs.Scanning.{listing_unique}
use Rattle.cedar_laws.specs.Canonical.{IsOutputOf, plain_listing}
use Rattle.cedar_laws.proofs.CanonicalForm.{accepted_has_output, outputs_tell}
use Rattle.cedar_policy_formatter.specs.RangeLaws.{EqualListsHaveOneOutput, EqualListsFollow}

pub lists_have_one_output : EqualListsHaveOneOutput
lists_have_one_output w i x y z u v accepted (l, m, p, q, e) a =
    let b = accepted_has_output w i y v accepted in
    let same = (outputs_tell w i x y z b.0 u v a b.1).1
    (ap (λ k. by_value (plain_listing k)) (listing_unique x a.list l a.is_list p)
    ∙ (e ∙ ap (λ k. by_value (plain_listing k)) (listing_unique y m b.1.list q b.1.is_list))) in
    subst (IsOutputOf w i y) (sym same) b.1

pub lists_follow : EqualListsFollow
lists_follow x y z (l, m, p, q, e) (n, o, r, s, f) =
    (l, o, p, s, e ∙ (ap (λ k. by_value (plain_listing k)) (listing_unique y m n q r) ∙ f))
