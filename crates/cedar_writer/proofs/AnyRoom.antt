-- How much room there is makes no difference to what is read.
use Rattle.std.proofs.Common.{◌≡◌, ◌+◌, ℕ, ℤ, Bool, List, [], ◌++◌, length, sym, ◌∙◌, subst}
use Rattle.cedar_tokens.specs.Listing.{Decorated}
use Rattle.cedar_layout.specs.Layout.{Doc}
use Rattle.cedar_grammar.specs.Reader.Reading.{Answer, done, stuck}
use Rattle.cedar_written.specs.Written as written
use Rattle.cedar_print.specs.WrittenMarks.{Mark}
use Rattle.cedar_writer.specs.Writing.{State, going, refused, policy_to}
use Rattle.cedar_writer.specs.Laws.{WrittenPoliciesAreNotRefused, ReadingEndsAfterPolicies}
use Rattle.cedar_writer.proofs.Bones.{texts, Agrees}
use Rattle.cedar_writer.proofs.Refusals.{bare_policy_to}
use Rattle.cedar_writer.proofs.Furthest.{policy_does}
use Rattle.cedar_writer.proofs.ReadPolicies.{written_policies_are_read}

-- what is read of a policy and what follows it, where there is room
with_room : (i : ℤ) (n : ℕ) (xs us : List Decorated) (d : Doc) → written.Policy i n xs d
    → (es : List Mark) × Agrees (going us es 0) (bare_policy_to n (texts (xs ++ us)))
with_room i n xs us d x =
    let y = written_policies_are_read i n xs us d [] x in (
      y.0,
      subst (λ z. Agrees z (bare_policy_to n (texts (xs ++ us)))) (y.2 0)
          ((policy_does i n).at (xs ++ us) [] (length y.0 + 0)),
    )

-- the same where there is any room
in_any : (i : ℤ) (n : ℕ) (ts : List Decorated) (ms : List Mark) (r : ℕ) {s : State}
    → policy_to i n (going ts ms r) ≡ s → Agrees s (bare_policy_to n (texts ts))
in_any i n ts ms r e =
    subst (λ z. Agrees z (bare_policy_to n (texts ts))) e ((policy_does i n).at ts ms r)

not_both : (us vs : List Decorated) (es : List Mark) (deep : Bool) (a : Answer (List ℕ))
    → Agrees (going us es 0) a → Agrees (refused deep vs) a → ⊥
not_both us vs es deep (done f ws) h k = absurd k
not_both us vs es deep (stuck b ws) h k = absurd h

same_left : (us vs : List Decorated) (es ns : List Mark) (q : ℕ) (a : Answer (List ℕ))
    → Agrees (going us es 0) a → Agrees (going vs ns q) a → texts vs ≡ texts us
same_left us vs es ns q (done f ws) h k = k ∙ sym h
same_left us vs es ns q (stuck b ws) h k = absurd h

pub written_policies_are_not_refused : WrittenPoliciesAreNotRefused
written_policies_are_not_refused i n xs us vs d ms r deep x e =
    let w = with_room i n xs us d x in
    not_both us vs w.0 deep (bare_policy_to n (texts (xs ++ us))) w.1
    (in_any i n (xs ++ us) ms r e)

pub reading_ends_after_policies : ReadingEndsAfterPolicies
reading_ends_after_policies i n xs us vs d ms ns r q x e =
    let w = with_room i n xs us d x in
    same_left us vs w.0 ns q (bare_policy_to n (texts (xs ++ us))) w.1
    (in_any i n (xs ++ us) ms r e)
