-- The kinds that can follow the tokens of units.
use Rattle.std.specs.Prelude.{◌≡◌, ◌↔◌, ℕ, Bool, true, false, List, [], ◌∷◌, ◌++◌, IsTrue, ◌+◌, ◌<◌, length, take}
use Rattle.std.specs.List.{filter}
use Rattle.std.proofs.Common.{sym, ap, ◌∙◌, cond, get_or, append-nil}
use Rattle.std.proofs.lemmas.List.Elements.{filter_more}
use Rattle.std.proofs.lemmas.Bool.Decides.{same_from_decides}
use Rattle.cedar_tokens.specs.declared.kind.Kind.{Kind}
use Rattle.cedar_tokens.specs.declared.kind.Kind.TheVariants as K
use Rattle.cedar_grammar.specs.Beginnings.{Begins}
use Rattle.cedar_grammar.specs.Texts.{greatest_depth, only_tokens}
use Rattle.cedar_grammar.proofs.Texts.Accepted.{are_tokens}
use Rattle.cedar_faults.specs.Expectations.{CanFollow, AreAllAfter}
use Rattle.cedar_faults.specs.Samples.{all_kinds, sample}
use Rattle.cedar_faults.proofs.SampleTokens.{sample_token, sample_kind}
use Rattle.cedar_faults.proofs.Deciding.{can_begin, begins, with_token, kind_decides}
use Rattle.cedar_faults.proofs.KindLists.{all_listed, filter_has, has_filter, filter_ordered}

-- a list begins with the tokens and the sample of the kind
pub follows : List (List ℕ) → Kind → Bool
follows units k = can_begin greatest_depth (only_tokens units ++ sample k ∷ [])

module _ (units : List (List ℕ)) where
  pub follows_begins : (k : Kind)
      → IsTrue (follows units k) ↔ Begins greatest_depth (only_tokens units ++ sample k ∷ [])
  unfolding follows
  follows_begins k = begins greatest_depth (only_tokens units ++ sample k ∷ [])
      (with_token (only_tokens units) (sample k) (are_tokens units) (sample_token k))

  can_follow : (k : Kind) → IsTrue (follows units k) → CanFollow (only_tokens units) k
  can_follow k h = (sample k, sample_token k, sample_kind k, (follows_begins k).0 h)

  follow_can : (k : Kind) → CanFollow (only_tokens units) k → IsTrue (follows units k)
  follow_can k (t, i, e, b) = (follows_begins k).1 (kind_decides greatest_depth
      (only_tokens units) t (sample k) i (sample_token k) (e ∙ sym (sample_kind k)) b)

  pub all_after : AreAllAfter (only_tokens units) (filter (follows units) all_kinds)
  all_after = record {
    exact = λ k. (
      λ c. can_follow k (has_filter (follows units) all_kinds k c),
      λ c. filter_has (follows units) all_kinds k (all_listed k) (follow_can k c),
    );
    ordered = filter_ordered (follows units);
  }

-- what is true if and only if a list begins this way is `follows`
pub is_follows : (units : List (List ℕ)) (k : Kind) (b : Bool)
    → (IsTrue b ↔ Begins greatest_depth (only_tokens units ++ sample k ∷ [])) → b ≡ follows units k
is_follows units k b h = same_from_decides b (follows units k) h (follows_begins units k)

-- one more kind in a list
grown : (p : Kind → Bool) (xs items : List Kind) (i : ℕ) (b : Bool) → i < length xs
    → items ≡ filter p (take i xs) → b ≡ p (get_or xs i K.True)
    → items ++ cond b (get_or xs i K.True ∷ []) [] ≡ filter p (take (i + 1) xs)
grown p xs items i b l e h =
    ap (λ z. z ++ cond b (get_or xs i K.True ∷ []) []) e
    ∙ ap (λ z. filter p (take i xs) ++ cond z (get_or xs i K.True ∷ []) []) h
    ∙ sym (filter_more p xs i K.True l)

pub grown_by : (p : Kind → Bool) (xs items : List Kind) (i : ℕ) → i < length xs
    → items ≡ filter p (take i xs) → true ≡ p (get_or xs i K.True)
    → items ++ get_or xs i K.True ∷ [] ≡ filter p (take (i + 1) xs)
grown_by p xs items i l e h = grown p xs items i true l e h

pub not_grown : (p : Kind → Bool) (xs items : List Kind) (i : ℕ) → i < length xs
    → items ≡ filter p (take i xs) → false ≡ p (get_or xs i K.True)
    → items ≡ filter p (take (i + 1) xs)
not_grown p xs items i l e h = sym (append-nil items) ∙ grown p xs items i false l e h
