-- The tokens in a span, among tokens in order.
use Rattle.std.proofs.Common.{◌≡◌, ℕ, zero, suc, ◌+◌, ◌<◌, ◌≤◌, List, [], ◌∷◌, ◌++◌, map, Bool, true, false, cond, ◌&&◌, Some, None, Result, Ok, Err, append-nil, ◌-◌, length, get_or, take, drop, set, refl, sym, ap, subst, ◌∙◌, arith, add-one, drop-cons, append_assoc}
use Rattle.std.specs.Prelude.{nat_le, IfOk, OnErr}
use borrow.Rule.Slice.PartMut.{put_mid}
use Rattle.std.specs.List.{filter, position, prefix_len}
use Rattle.std.proofs.lemmas.List.{take-append-drop, take_all, drop_all, map-append, map-set, length-map, length-take, length-drop, take_more, get_or-take}
use Rattle.std.proofs.lemmas.List.Elements.{filter-append}
use Rattle.std.proofs.lemmas.List.Quantifiers.{position-Some}
use Rattle.std.proofs.lemmas.Bool.Decides.{nat_tests}
use Rattle.std.proofs.Math.ListN.{get_or-map}
use Rattle.cedar_tokens.specs.declared.token.Comment.{Comment}
use Rattle.cedar_tokens.specs.declared.token.Span.{Span}
use Rattle.cedar_tokens.specs.declared.token.WrappedToken.{WrappedToken}
use Rattle.cedar_layout.specs.Lookups.{AreInOrder, Parts, Shown, comment_parts, comments_in, emptied, emptied_in, shown, stands_in, starts_from}
use Rattle.cedar_layout.proofs.Halving.{OrderedFrom, none_passes}

-- ---- a loop that moves every comment out

set_seam : {X : Type 0} (A : List X) (x : X) (D : List X) (y : X)
    → set (A ++ x ∷ D) (length A) y ≡ A ++ y ∷ D
set_seam [] x D y = refl
set_seam (a ∷ A) x D y = ap (λ r. a ∷ r) (set_seam A x D y)

get_seam : {X : Type 0} (A : List X) (x : X) (D : List X) (d : X)
    → get_or (A ++ x ∷ D) (length A) d ≡ x
get_seam [] x D d = refl
get_seam (a ∷ A) x D d = get_seam A x D d

seam : (us : List Shown) (ts : List WrappedToken) (i : ℕ) (d : WrappedToken) → i < length us
    → map shown ts ≡ map emptied (take i us) ++ drop i us
    → map shown ts ≡ map emptied (take i us) ++ get_or us i (shown d) ∷ drop (suc i) us
seam us ts i d n e = e ∙ ap (λ r. map emptied (take i us) ++ r) (drop-cons us i (shown d) n)

seam_len : (us : List Shown) (i : ℕ) → i < length us → length (map emptied (take i us)) ≡ i
seam_len us i n = simp (length-map, length-take) (omega arith)

pub element_is : (us : List Shown) (ts : List WrappedToken) (i : ℕ) (d : WrappedToken)
    → i < length ts → length ts ≡ length us → map shown ts ≡ map emptied (take i us) ++ drop i us
    → shown (get_or ts i d) ≡ get_or us i (shown d)
element_is us ts i d h l e =
    let n : i < length us = omega (arith, h, l) in
    let x = get_or us i (shown d) in
    let A = map emptied (take i us) in
    let D = drop (suc i) us in
    sym (get_or-map shown ts i d) ∙ (ap (λ r. get_or r i (shown d)) (seam us ts i d n e)
    ∙ subst (λ n. get_or (A ++ x ∷ D) n (shown d) ≡ x) (seam_len us i n) (get_seam A x D (shown d)))

pub left_step : (us : List Shown) (ts : List WrappedToken) (i : ℕ) (d t : WrappedToken)
    → i < length ts → length ts ≡ length us → map shown ts ≡ map emptied (take i us) ++ drop i us
    → shown t ≡ emptied (shown (get_or ts i d))
    → map shown (set ts i t) ≡ map emptied (take (i + 1) us) ++ drop (i + 1) us
left_step us ts i d t h l e c =
    let n : i < length us = omega (arith, h, l) in
    let x = get_or us i (shown d) in
    let A = map emptied (take i us) in
    let D = drop (suc i) us in
    let y : shown t ≡ emptied x = c ∙ ap emptied (element_is us ts i d h l e) in
    let w : set (A ++ x ∷ D) i (emptied x) ≡ A ++ emptied x ∷ D =
    subst (λ n. set (A ++ x ∷ D) n (emptied x) ≡ A ++ emptied x ∷ D) (seam_len us i n)
    (set_seam A x D (emptied x)) in
    let lhs : map shown (set ts i t) ≡ A ++ emptied x ∷ D = map-set shown ts i t
    ∙ (ap (λ r. set r i (shown t)) (seam us ts i d n e) ∙ (ap (λ r. set (A ++ x ∷ D) i r) y ∙ w)) in
    let more : map emptied (take (i + 1) us) ≡ A ++ emptied x ∷ [] =
    ap (map emptied) (take_more us i (shown d) n) ∙ map-append emptied (take i us) (x ∷ []) in
    let rest : drop (i + 1) us ≡ D = ap (λ n. drop n us) (add-one i) in
    lhs ∙ sym (ap (λ r. r ++ drop (i + 1) us) more
    ∙ (append_assoc A (emptied x ∷ []) (drop (i + 1) us) ∙ ap (λ r. A ++ emptied x ∷ r) rest))

pub got_step : (us : List Shown) (i : ℕ) (d : Shown) (old new : List Comment) (c : Comment)
    → i < length us → comment_parts c ≡ (get_or us i d).comment → new ≡ old ++ c ∷ []
    → map comment_parts old ≡ map (λ t. t.comment) (take i us)
    → map comment_parts new ≡ map (λ t. t.comment) (take (i + 1) us)
got_step us i d old new c h g n o =
    let a : map comment_parts new ≡ map comment_parts old ++ comment_parts c ∷ [] =
    ap (map comment_parts) n ∙ map-append comment_parts old (c ∷ []) in
    let b : map (λ t. t.comment) (take (i + 1) us)
    ≡ map (λ t. t.comment) (take i us) ++ (get_or us i d).comment ∷ [] =
    ap (map (λ t. t.comment)) (take_more us i d h)
    ∙ map-append (λ t. t.comment) (take i us) (get_or us i d ∷ []) in
    a ∙ (ap (λ r. r ++ comment_parts c ∷ []) o
    ∙ (ap (λ r. map (λ t. t.comment) (take i us) ++ r ∷ []) g ∙ sym b))

-- ---- which tokens are in the span

-- the comments of the tokens in the span, and the tokens that are left, are those of the two parts
pub comments_in-append : (s : Span) (xs ys : List Shown)
    → comments_in s (xs ++ ys) ≡ comments_in s xs ++ comments_in s ys
comments_in-append s xs ys = rw (filter-append (stands_in s) xs ys)
    (map-append (λ t. t.comment) (filter (stands_in s) xs) (filter (stands_in s) ys))

abbrev emptied_at : Span → Shown → Shown
emptied_at s t = cond (stands_in s t) (emptied t) t

pub emptied_in-append : (s : Span) (xs ys : List Shown)
    → emptied_in s (xs ++ ys) ≡ emptied_in s xs ++ emptied_in s ys
emptied_in-append s xs ys = map-append (emptied_at s) xs ys

-- none of the tokens is in the span
abbrev NoneIn : Span → List WrappedToken → Type 0
NoneIn s ts =
    (k : ℕ) (d : WrappedToken) → k < length ts → stands_in s (shown (get_or ts k d)) ≡ false

pub none_taken : (s : Span) (ts : List WrappedToken) → NoneIn s ts
    → (comments_in s (map shown ts) ≡ []) × (emptied_in s (map shown ts) ≡ map shown ts)
none_taken s [] n = (refl, refl)
none_taken s (t ∷ ts) n =
    let i = none_taken s ts (λ k d h. n (suc k) d (omega arith)) in
    let q : stands_in s (shown t) ≡ false = n zero t (omega arith) in
    (rw q i.0, rw q (ap (λ r. shown t ∷ r) i.1))

following : (p q : ℕ) (t : WrappedToken) → q < p → p ≤ t.span.start → t.span.start < t.span.end
    → (b : Bool) → (b && nat_le t.span.end q) ≡ false
following p q t h l m true = grind (arith, nat_tests)
following p q t h l m false = refl

-- no token that starts after the span is in it
none_after : (s : Span) (p : ℕ) (ts : List WrappedToken) → s.end < p → OrderedFrom p ts
    → NoneIn s ts
none_after s p [] h o k d l = absurd (omega arith)
none_after s p (t ∷ ts) h o zero d l = following p s.end t h o.0 o.1 (nat_le s.start t.span.start)
none_after s p (t ∷ ts) h o (suc k) d l =
    none_after s t.span.end ts (omega (arith, o.0, o.1)) o.2 k d (omega arith)

abbrev ends_by : Span → WrappedToken → Bool
ends_by s t = nat_le t.span.end s.end

take_one : (n : ℕ) (t : WrappedToken) (ts : List WrappedToken)
    → take (1 + n) (t ∷ ts) ≡ t ∷ take n ts
take_one n t ts = let e : 1 + n ≡ suc n = omega arith in ap (λ k. take k (t ∷ ts)) e

drop_one : (n : ℕ) (t : WrappedToken) (ts : List WrappedToken) → drop (1 + n) (t ∷ ts) ≡ drop n ts
drop_one n t ts = let e : 1 + n ≡ suc n = omega arith in ap (λ k. drop k (t ∷ ts)) e

-- of the tokens that start in or after the span,
-- those before the first that ends after it are in it
pub first_taken : (s : Span) (p : ℕ) (ts : List WrappedToken) → s.start ≤ p → OrderedFrom p ts
    → (comments_in s (map shown ts) ≡ map (λ t. t.comment) (map shown
    (take (prefix_len (ends_by s) ts) ts))) × (emptied_in s (map shown ts) ≡ map emptied (map shown
    (take (prefix_len (ends_by s) ts) ts)) ++ map shown (drop (prefix_len (ends_by s) ts) ts))
first_taken s p [] h o = (refl, refl)
first_taken s p (t ∷ ts) h o =
    go (first_taken s t.span.end ts (omega (arith, h, o.0, o.1)) o.2) (ends_by s t) refl
  where
    start : nat_le s.start t.span.start ≡ true
    start = let l = o.0 in grind (arith, nat_tests)

    go : (comments_in s (map shown ts)
        ≡ map (λ t. t.comment) (map shown (take (prefix_len (ends_by s) ts) ts)))
        × (emptied_in s (map shown ts) ≡ map emptied (map shown
        (take (prefix_len (ends_by s) ts) ts)) ++ map shown (drop (prefix_len (ends_by s) ts) ts))
        → (b : Bool) → ends_by s t ≡ b → (comments_in s (map shown (t ∷ ts)) ≡ map (λ t. t.comment)
        (map shown (take (cond b (1 + prefix_len (ends_by s) ts) 0) (t ∷ ts))))
        × (emptied_in s (map shown (t ∷ ts))
        ≡ map emptied (map shown (take (cond b (1 + prefix_len (ends_by s) ts) 0) (t ∷ ts)))
        ++ map shown (drop (cond b (1 + prefix_len (ends_by s) ts) 0) (t ∷ ts)))
    go i true q =
        let n = prefix_len (ends_by s) ts in
        let inside : stands_in s (shown t) ≡ true = rw (start, q) refl in (
          rw (inside, take_one n t ts) (ap (λ r. (shown t).comment ∷ r) i.0),
          rw (inside, take_one n t ts, drop_one n t ts) (ap (λ r. emptied (shown t) ∷ r) i.1),
        )
    go i false q =
        let outside : stands_in s (shown t) ≡ false = rw (start, q) refl in
        let l : s.end < t.span.end = grind (arith, nat_tests) in
        let r = none_taken s ts (none_after s t.span.end ts l o.2) in
        (rw outside r.0, rw outside (ap (λ r. shown t ∷ r) r.1))

-- ---- the tokens from the first that starts in or after the span

from_there : (p q : ℕ) (ts : List WrappedToken) (i : ℕ) (d : WrappedToken) → OrderedFrom p ts
    → i < length ts → q ≤ (get_or ts i d).span.start → OrderedFrom q (drop i ts)
from_there p q [] i d o h l = absurd (omega arith)
from_there p q (t ∷ ts) zero d o h l = (l, o.1, o.2)
from_there p q (t ∷ ts) (suc i) d o h l = from_there t.span.end q ts i d o.2 (omega arith) l

above : (n q : ℕ) → nat_le q n ≡ true → q ≤ n
above n q h = grind (arith, nat_tests)

pub ordered_after : (q : ℕ) (ts : List WrappedToken) (i : ℕ) → AreInOrder ts
    → Some i ≡ position (λ t. starts_from q (shown t)) ts → OrderedFrom q (drop i ts)
ordered_after q [] i o e = cc
ordered_after q (t ∷ ts) i o e =
    let p = position-Some (λ t. starts_from q (shown t)) (t ∷ ts) i t (sym e) in
    from_there 0 q (t ∷ ts) i t o p.0 (above (get_or (t ∷ ts) i t).span.start q p.1)

none_before : (s : Span) (ts : List WrappedToken) (i : ℕ)
    → Some i ≡ position (λ t. starts_from s.start (shown t)) ts → NoneIn s (take i ts)
none_before s ts i e k d h =
    let p = position-Some (λ t. starts_from s.start (shown t)) ts i d (sym e) in
    let n : k < i = omega (arith, length-take i ts, h) in
    let q : starts_from s.start (shown (get_or (take i ts) k d)) ≡ false =
    rw (get_or-take i ts k d n) (p.2 k n) in
    rw q refl

pub taken_after : (s : Span) (ts : List WrappedToken) (i : ℕ)
    → Some i ≡ position (λ t. starts_from s.start (shown t)) ts
    → (comments_in s (map shown ts) ≡ comments_in s (map shown (drop i ts)))
    × (emptied_in s (map shown ts) ≡ map shown (take i ts) ++ emptied_in s (map shown (drop i ts)))
taken_after s ts i e =
    let n = none_taken s (take i ts) (none_before s ts i e) in
    let parts : map shown ts ≡ map shown (take i ts) ++ map shown (drop i ts) =
    ap (map shown) (sym (take-append-drop i ts)) ∙ map-append shown (take i ts) (drop i ts) in (
      ap (comments_in s) parts
          ∙ (comments_in-append s (map shown (take i ts)) (map shown (drop i ts))
          ∙ ap (λ r. r ++ comments_in s (map shown (drop i ts))) n.0),
      ap (emptied_in s) parts ∙ (emptied_in-append s (map shown (take i ts)) (map shown (drop i ts))
          ∙ ap (λ r. r ++ emptied_in s (map shown (drop i ts))) n.1),
    )

pub nothing_taken : (s : Span) (ts : List WrappedToken)
    → None ≡ position (λ t. starts_from s.start (shown t)) ts
    → (comments_in s (map shown ts) ≡ []) × (emptied_in s (map shown ts) ≡ map shown ts)
nothing_taken s ts e = none_taken s ts (λ k d h.
    let q = none_passes (λ t. starts_from s.start (shown t)) ts (sym e) k d h in rw q refl)

-- ---- a part of a slice, and the slice with another part in its place

rest_is : {X : Type 0} (i : ℕ) (xs : List X) → take (length xs - i) (drop i xs) ≡ drop i xs
rest_is i xs = take_all (length xs - i) (drop i xs) (omega (arith, length-drop i xs))

rest_put : {X : Type 0} (i : ℕ) (xs ys : List X) → put_mid i (length xs - i) xs ys ≡ take i xs ++ ys
rest_put i xs ys = ap (λ r. take i xs ++ (ys ++ r)) (drop_all (length xs - i) (drop i xs)
    (omega (arith, length-drop i xs))) ∙ ap (λ r. take i xs ++ r) (append-nil ys)

pub ordered_rest : (q : ℕ) (ts : List WrappedToken) (i : ℕ) → AreInOrder ts
    → Some i ≡ position (λ t. starts_from q (shown t)) ts
    → OrderedFrom q (take (length ts - i) (drop i ts))
ordered_rest q ts i o e =
    subst (λ us. OrderedFrom q us) (sym (rest_is i ts)) (ordered_after q ts i o e)

-- ---- the clauses of the calls; parts says what an answer holds

pub until_answer : {V E : Type 0} (r : Result V E) (parts : V → List Parts) (s : Span)
    (ts : List WrappedToken) (n : ℕ) → OrderedFrom s.start ts → n ≡ prefix_len (ends_by s) ts
    → IfOk r (λ v. parts v ≡ map (λ t. t.comment) (map shown (take n ts)))
    → IfOk r (λ v. parts v ≡ comments_in s (map shown ts))
until_answer r parts s ts n o e h =
    let f = first_taken s s.start ts (omega arith) o in
    let q : map (λ t. t.comment) (map shown (take n ts)) ≡ comments_in s (map shown ts) =
    ap (λ k. map (λ t. t.comment) (map shown (take k ts))) e ∙ sym f.0 in
    subst (λ z. IfOk r (λ v. parts v ≡ z)) q h

pub until_left : {V E : Type 0} (r : Result V E) (s : Span) (ts new : List WrappedToken) (n : ℕ)
    → OrderedFrom s.start ts → n ≡ prefix_len (ends_by s) ts
    → IfOk r (λ _. map shown new ≡ map emptied (map shown (take n ts)))
    → IfOk r (λ _. map shown (new ++ drop n ts) ≡ emptied_in s (map shown ts))
until_left (Err x) s ts new n o e h = tt
until_left (Ok v) s ts new n o e h =
    let f = first_taken s s.start ts (omega arith) o in
    let q : map emptied (map shown (take n ts)) ++ map shown (drop n ts)
    ≡ emptied_in s (map shown ts) =
    ap (λ k. map emptied (map shown (take k ts)) ++ map shown (drop k ts)) e ∙ sym f.1 in
    map-append shown new (drop n ts) ∙ (ap (λ z. z ++ map shown (drop n ts)) h ∙ q)

pub until_refused : {V E : Type 0} (r : Result V E) (ts new : List WrappedToken) (n : ℕ)
    → OnErr r (map shown new ≡ map shown (take n ts))
    → OnErr r (map shown (new ++ drop n ts) ≡ map shown ts)
until_refused (Ok v) ts new n h = tt
until_refused (Err x) ts new n h =
    map-append shown new (drop n ts) ∙ (ap (λ z. z ++ map shown (drop n ts)) h
    ∙ (sym (map-append shown (take n ts) (drop n ts)) ∙ ap (map shown) (take-append-drop n ts)))

pub from_answer : {V E : Type 0} (r : Result V E) (parts : V → List Parts) (s : Span)
    (ts : List WrappedToken) (i : ℕ) → Some i ≡ position (λ t. starts_from s.start (shown t)) ts
    → IfOk r (λ v. parts v ≡ comments_in s (map shown (take (length ts - i) (drop i ts))))
    → IfOk r (λ v. parts v ≡ comments_in s (map shown ts))
from_answer r parts s ts i e h =
    let q : comments_in s (map shown (take (length ts - i) (drop i ts)))
    ≡ comments_in s (map shown ts) =
    ap (λ us. comments_in s (map shown us)) (rest_is i ts) ∙ sym (taken_after s ts i e).0 in
    subst (λ z. IfOk r (λ v. parts v ≡ z)) q h

pub from_left : {V E : Type 0} (r : Result V E) (s : Span) (ts new : List WrappedToken) (i : ℕ)
    → Some i ≡ position (λ t. starts_from s.start (shown t)) ts
    → IfOk r (λ _. map shown new ≡ emptied_in s (map shown (take (length ts - i) (drop i ts))))
    → IfOk r (λ _. map shown (put_mid i (length ts - i) ts new) ≡ emptied_in s (map shown ts))
from_left (Err x) s ts new i e h = tt
from_left (Ok v) s ts new i e h =
    ap (map shown) (rest_put i ts new)
    ∙ (map-append shown (take i ts) new ∙ (ap (λ z. map shown (take i ts) ++ z) (h
    ∙ ap (λ us. emptied_in s (map shown us)) (rest_is i ts)) ∙ sym (taken_after s ts i e).1))

pub from_refused : {V E : Type 0} (r : Result V E) (ts new : List WrappedToken) (i : ℕ)
    → OnErr r (map shown new ≡ map shown (take (length ts - i) (drop i ts)))
    → OnErr r (map shown (put_mid i (length ts - i) ts new) ≡ map shown ts)
from_refused (Ok v) ts new i h = tt
from_refused (Err x) ts new i h =
    ap (map shown) (rest_put i ts new) ∙ (map-append shown (take i ts) new
    ∙ (ap (λ z. map shown (take i ts) ++ z) (h ∙ ap (map shown) (rest_is i ts))
    ∙ (sym (map-append shown (take i ts) (drop i ts)) ∙ ap (map shown) (take-append-drop i ts))))
