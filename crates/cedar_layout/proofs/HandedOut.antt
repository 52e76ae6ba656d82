-- What a lookup returns: the comments of the named token; and what stays of the others.
use Rattle.std.proofs.Common.{◌≡◌, ℕ, zero, suc, subst, sym, Result, Ok, Err, ◌<◌, ◌≤◌, List, [], ◌∷◌, ◌++◌, map, Bool, true, false, Some, None, length, get_or, take, drop, set, refl, ap, ◌∙◌, arith}
use Rattle.std.specs.Prelude.{IsFalse, IfOk, OnErr}
use Rattle.std.specs.List.{All, position}
use Rattle.std.proofs.lemmas.List.Quantifiers.{position-Some}
use Rattle.std.proofs.lemmas.List.{set_split, get_or-map, get_or-take, map-append, length-map, length-take}
use Rattle.std.proofs.Math.Seq.{split_at}
use Rattle.cedar_tokens.specs.Places.{InOrderFrom}
use Rattle.cedar_tokens.specs.declared.token.Span.{Span}
use Rattle.cedar_tokens.specs.declared.token.Comment.{Comment}
use Rattle.cedar_tokens.specs.declared.token.WrappedToken.{WrappedToken}
use Rattle.cedar_tokens.specs.Tokens.{leading_lines, trailing_text}
use Rattle.cedar_layout.specs.Lookups.{AreInOrder, emptied_in, stands_in, Parts, Shown, shown, emptied, unled, comment_parts, HandedOut, LeadingHandedOut, Unmatched}
use Rattle.cedar_layout.proofs.Halving.{none_passes}

-- none of the first i is named if none of the places below i is
none_before : (named : Shown → Bool) (ts : List WrappedToken) (i : ℕ) (d : WrappedToken)
    → i ≤ length ts → ((k : ℕ) → k < i → named (shown (get_or ts k d)) ≡ false)
    → All (λ t. IsFalse (named t)) (map shown (take i ts))
none_before named ts i d inside below k e h =
    let m : k < length (take i ts) = simp length-map at h in
    let n : k < i = omega (arith, length-take i ts) in
    rw (get_or-map shown (take i ts) k d e m, get_or-take i ts k d n) (below k n)

abbrev tokens_before : List WrappedToken → ℕ → List Shown
tokens_before ts i = map shown (take i ts)

abbrev tokens_after : List WrappedToken → ℕ → List Shown
tokens_after ts i = map shown (drop (suc i) ts)

-- the first named token among the others, before and after a change
at_named : (named : Shown → Bool) (ts : List WrappedToken) (i : ℕ) (d t : WrappedToken)
    → position (λ t. named (shown t)) ts ≡ Some i
    → (map shown ts ≡ tokens_before ts i ++ shown (get_or ts i d) ∷ tokens_after ts i)
    × (named (shown (get_or ts i d)) ≡ true)
    × All (λ t. IsFalse (named t)) (tokens_before ts i)
    × (map shown (set ts i t) ≡ tokens_before ts i ++ shown t ∷ tokens_after ts i)
at_named named ts i d t e =
    let p = position-Some (λ t. named (shown t)) ts i d e in
    let in_range : i < length ts = p.0 in (
      ap (map shown) (split_at ts i d in_range)
          ∙ map-append shown (take i ts) (get_or ts i d ∷ drop (suc i) ts),
      p.1,
      none_before named ts i d (omega arith) p.2,
      ap (map shown) (set_split ts i t in_range)
          ∙ map-append shown (take i ts) (t ∷ drop (suc i) ts),
    )

pub handed_at : (named : Shown → Bool) (ts : List WrappedToken) (i : ℕ) (d t : WrappedToken)
    (answer : Parts) → position (λ t. named (shown t)) ts ≡ Some i
    → shown t ≡ emptied (shown (get_or ts i d)) → answer ≡ (shown (get_or ts i d)).comment
    → HandedOut named (map shown ts) (map shown (set ts i t)) answer
handed_at named ts i d t answer e changed given = let q = at_named named ts i d t e in record {
  before = tokens_before ts i;
  token = shown (get_or ts i d);
  after = tokens_after ts i;
  was = q.0;
  is_named = q.1;
  is_first = q.2;
  now = q.3 ∙ ap (λ s. tokens_before ts i ++ s ∷ tokens_after ts i) changed;
  answered = given;
}

pub none_named : (named : Shown → Bool) (ts : List WrappedToken)
    → position (λ t. named (shown t)) ts ≡ None → Unmatched named (map shown ts) (map shown ts)
none_named named ts e = record { none = nothing; same = refl }
  where
    nothing : (k : ℕ) (d : Shown) → k < length (map shown ts)
        → named (get_or (map shown ts) k d) ≡ false
    nothing k d h =
        let m : k < length ts = simp length-map at h in
        some_element ts m
      where
        some_element : (us : List WrappedToken) → k < length us
            → named (get_or (map shown ts) k d) ≡ false
        some_element [] n = absurd (omega arith)
        some_element (u ∷ us) n =
            let m : k < length ts = simp length-map at h in
            rw (get_or-map shown ts k u d m) (none_passes (λ t. named (shown t)) ts e k u m)

pub led_at : (named : Shown → Bool) (ts : List WrappedToken) (i : ℕ) (d t : WrappedToken)
    (answer : List (List ℕ)) → position (λ t. named (shown t)) ts ≡ Some i
    → shown t ≡ unled (shown (get_or ts i d)) → answer ≡ (shown (get_or ts i d)).comment.leading
    → LeadingHandedOut named (map shown ts) (map shown (set ts i t)) answer
led_at named ts i d t answer e changed given = let q = at_named named ts i d t e in record {
  before = tokens_before ts i;
  token = shown (get_or ts i d);
  after = tokens_after ts i;
  was = q.0;
  is_named = q.1;
  is_first = q.2;
  now = q.3 ∙ ap (λ s. tokens_before ts i ++ s ∷ tokens_after ts i) changed;
  answered = given;
}

-- what a call that moves a token's comments out does, in one equation
pub shows_unled : (s t : WrappedToken) → leading_lines s.comment ≡ []
    → trailing_text s.comment ≡ trailing_text t.comment → s.token ≡ t.token → s.span ≡ t.span
    → shown s ≡ unled (shown t)
shows_unled s t a b c d = cc

pub shows_emptied : (s t : WrappedToken) → leading_lines s.comment ≡ []
    → trailing_text s.comment ≡ [] → s.token ≡ t.token → s.span ≡ t.span
    → shown s ≡ emptied (shown t)
shows_emptied s t a b c d = cc

pub same_parts : (c d : Comment) → leading_lines c ≡ leading_lines d
    → trailing_text c ≡ trailing_text d → comment_parts c ≡ comment_parts d
same_parts c d a b = cc

-- ---- the tokens' places stay

pub spans_shown : (ts : List WrappedToken) → map (λ t. t.span) ts ≡ map (λ s. s.span) (map shown ts)
spans_shown [] = refl
spans_shown (t ∷ ts) = ap (λ r. t.span ∷ r) (spans_shown ts)

pub places_stay : (old new : List WrappedToken)
    → map (λ s. s.span) (map shown new) ≡ map (λ s. s.span) (map shown old) → AreInOrder old
    → AreInOrder new
places_stay old new e o =
    subst (λ r. InOrderFrom 0 r) (spans_shown old ∙ (sym e ∙ sym (spans_shown new))) o

pub order_of_set : (ts : List WrappedToken) (i : ℕ) (d t : WrappedToken) → i < length ts
    → t.span ≡ (get_or ts i d).span → AreInOrder ts → AreInOrder (set ts i t)
order_of_set ts i d t h e o = subst (λ r. InOrderFrom 0 r) (sym (stays ts i h e)) o
  where
    stays : (us : List WrappedToken) (k : ℕ) → k < length us → t.span ≡ (get_or us k d).span
        → map (λ t. t.span) (set us k t) ≡ map (λ t. t.span) us
    stays [] k l q = absurd (omega arith)
    stays (u ∷ us) zero l q = ap (λ r. r ∷ map (λ t. t.span) us) q
    stays (u ∷ us) (suc k) l q = ap (λ r. u.span ∷ r) (stays us k (omega arith) q)

emptied_stay : (s : Span) (us : List Shown)
    → map (λ u. u.span) (emptied_in s us) ≡ map (λ u. u.span) us
emptied_stay s [] = refl
emptied_stay s (u ∷ us) = go (emptied_stay s us) (stands_in s u) refl
  where
    go : map (λ u. u.span) (emptied_in s us) ≡ map (λ u. u.span) us → (b : Bool) → stands_in s u ≡ b
        → map (λ u. u.span) (emptied_in s (u ∷ us)) ≡ map (λ u. u.span) (u ∷ us)
    go i true q = rw q (ap (λ r. u.span ∷ r) i)
    go i false q = rw q (ap (λ r. u.span ∷ r) i)

pub order_of_range : {V E : Type 0} (r : Result V E) (s : Span) (old new : List WrappedToken)
    → IfOk r (λ _. map shown new ≡ emptied_in s (map shown old))
    → OnErr r (map shown new ≡ map shown old) → AreInOrder old → AreInOrder new
order_of_range (Ok v) s old new l e o =
    places_stay old new (ap (map (λ u. u.span)) l ∙ emptied_stay s (map shown old)) o
order_of_range (Err x) s old new l e o = places_stay old new (ap (map (λ u. u.span)) e) o

pub place_inside : (named : Shown → Bool) (ts : List WrappedToken) (i : ℕ) (d : WrappedToken)
    → position (λ t. named (shown t)) ts ≡ Some i → i < length ts
place_inside named ts i d e = (position-Some (λ t. named (shown t)) ts i d e).0
