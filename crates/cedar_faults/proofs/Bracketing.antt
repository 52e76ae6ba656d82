-- The brackets of a text, and the innermost that is open.
use Rattle.std.proofs.Common.{◌≡◌, ◌≢◌, ◌+◌, ◌-◌, ◌<◌, ◌≤◌, ℕ, Bool, true, false, List, [], ◌∷◌, ◌++◌, Option, Some, None, length, take, drop, get_or, refl, ap, sym, ◌∙◌, arith, subst, append-nil, eq-eqb}
use Rattle.std.specs.Prelude.{◌&&◌, ◌||◌, if◌then◌else◌, IfSome, nat_eq}
use Rattle.std.specs.Borrow.{Bor}
use Rattle.std.specs.List.{filter, sum_by, AllByRecursion}
use Rattle.std.specs.Option.{option_or}
use Rattle.std.proofs.lemmas.Bool.Decides.{nat_tests}
use Rattle.std.proofs.lemmas.List.{drop_more, length-drop, take-append-drop}
use Rattle.std.proofs.lemmas.List.Sums.{sum_by-cons}
use Rattle.cedar_tokens.specs.Split.{SplitsInto}
use Rattle.cedar_tokens.specs.Kinds.{code, is_opening, is_closing}
use Rattle.cedar_tokens.specs.TokenKinds.{kind_of}
use Rattle.cedar_tokens.specs.UnitSteps.{unit_text}
use Rattle.cedar_tokens.specs.declared.units.Unit.{Unit}
use Rattle.cedar_tokens.proofs.Scanning.{split_unique}
use Rattle.cedar_tokens.proofs.UnitsSoFar.{texts, texts_more}
use Rattle.cedar_tokens.specs.declared.kind.Kind.{Kind}
use Rattle.cedar_faults.specs.Brackets.{are_balanced, brackets, if_left_open, innermost, is_bracket, leaves_open, left_open}
use Rattle.cedar_faults.specs.Inside.Brackets.{IsUnclosed}
use Rattle.cedar_faults.specs.declared.brackets.Bracket.{Bracket}

-- ---- the brackets, unit by unit

abbrev pub bracket_of : ℕ → List ℕ → Bracket
bracket_of at u = record { part = record { start = at; end = at + length u }; kind = kind_of u }

pub none_among : (at : ℕ) → brackets at [] ≡ []
unfolding brackets
none_among at = refl

first_kept : (at : ℕ) (u : List ℕ) (us : List (List ℕ)) → is_bracket (kind_of u) ≡ true
    → brackets at (u ∷ us) ≡ bracket_of at u ∷ brackets (at + length u) us
unfolding brackets
first_kept at u us e = rw e refl

first_left : (at : ℕ) (u : List ℕ) (us : List (List ℕ)) → is_bracket (kind_of u) ≡ false
    → brackets at (u ∷ us) ≡ brackets (at + length u) us
unfolding brackets
first_left at u us e = rw e refl

brackets-append : (at : ℕ) (us vs : List (List ℕ))
    → brackets at (us ++ vs) ≡ brackets at us ++ brackets (at + sum_by length us) vs
brackets-append at [] vs =
    ap (λ n. brackets n vs) (let e : at ≡ at + 0 = omega arith in e)
    ∙ sym (ap (λ z. z ++ brackets (at + 0) vs) (none_among at))
brackets-append at (u ∷ us) vs =
    let place : at + length u + sum_by length us ≡ at + sum_by length (u ∷ us) = omega (arith, sum_by-cons length u us) in
    go (brackets-append (at + length u) us vs ∙ ap (λ n. brackets (at + length u) us ++ brackets n vs) place)
    (is_bracket (kind_of u)) refl
  where
    go : brackets (at + length u) (us ++ vs) ≡ brackets (at + length u) us ++ brackets (at + sum_by length (u ∷ us)) vs
        → (x : Bool) → is_bracket (kind_of u) ≡ x
        → brackets at (u ∷ us ++ vs) ≡ brackets at (u ∷ us) ++ brackets (at + sum_by length (u ∷ us)) vs
    go others true e = first_kept at u (us ++ vs) e ∙ ap (λ z. bracket_of at u ∷ z) others
        ∙ ap (λ z. z ++ brackets (at + sum_by length (u ∷ us)) vs) (sym (first_kept at u us e))
    go others false e = first_left at u (us ++ vs) e ∙ others
        ∙ ap (λ z. z ++ brackets (at + sum_by length (u ∷ us)) vs) (sym (first_left at u us e))

from_start : (us vs : List (List ℕ)) → brackets 0 (us ++ vs) ≡ brackets 0 us ++ brackets (sum_by length us) vs
from_start us vs =
    let e : 0 + sum_by length us ≡ sum_by length us = omega arith in
    brackets-append 0 us vs ∙ ap (λ n. brackets 0 us ++ brackets n vs) e

-- one more unit
bracket_more : (us : List (List ℕ)) (u : List ℕ) (at : ℕ) (old new : List Bracket) → old ≡ brackets 0 us
    → at ≡ sum_by length us → is_bracket (kind_of u) ≡ true
    → new ≡ old ++ bracket_of at u ∷ [] → new ≡ brackets 0 (us ++ u ∷ [])
bracket_more us u at old new e p b n =
    n ∙ ap (λ z. z ++ bracket_of at u ∷ []) e
    ∙ ap (λ k. brackets 0 us ++ bracket_of k u ∷ []) p
    ∙ ap (λ z. brackets 0 us ++ bracket_of (sum_by length us) u ∷ z) (sym (none_among (sum_by length us + length u)))
    ∙ ap (λ z. brackets 0 us ++ z) (sym (first_kept (sum_by length us) u [] b))
    ∙ sym (from_start us (u ∷ []))

other_more : (us : List (List ℕ)) (u : List ℕ) (old : List Bracket) → old ≡ brackets 0 us
    → is_bracket (kind_of u) ≡ false → old ≡ brackets 0 (us ++ u ∷ [])
other_more us u old e b =
    let last : brackets (sum_by length us) (u ∷ []) ≡ [] =
    first_left (sum_by length us) u [] b ∙ none_among (sum_by length us + length u) in
    e ∙ sym (append-nil (brackets 0 us)) ∙ ap (λ z. brackets 0 us ++ z) (sym last) ∙ sym (from_start us (u ∷ []))

-- the same of units that an iterator gave
pub bracket_unit : (us : List Unit) (u : Unit) (at : ℕ) (kind : Kind) (b : Bool) (old new : List Bracket) → old ≡ brackets 0 (texts us)
    → at ≡ sum_by length (texts us) → kind ≡ kind_of (unit_text u) → b ≡ is_bracket kind → b ≡ true
    → new ≡ old ++ record { part = record { start = at; end = at + length (unit_text u) }; kind = kind } ∷ []
    → new ≡ brackets 0 (texts (us ++ u ∷ []))
bracket_unit us u at kind b old new e p k h t n =
    bracket_more (texts us) (unit_text u) at old new e p (ap is_bracket (sym k) ∙ sym h ∙ t)
    (n ∙ ap (λ z. old ++ record { part = record { start = at; end = at + length (unit_text u) }; kind = z } ∷ []) k)
    ∙ ap (brackets 0) (sym (texts_more us u))

pub other_unit : (us : List Unit) (u : Unit) (kind : Kind) (b : Bool) (old : List Bracket) → old ≡ brackets 0 (texts us)
    → kind ≡ kind_of (unit_text u) → b ≡ is_bracket kind → b ≡ false → old ≡ brackets 0 (texts (us ++ u ∷ []))
other_unit us u kind b old e k h f =
    other_more (texts us) (unit_text u) old e (ap is_bracket (sym k) ∙ sym h ∙ f) ∙ ap (brackets 0) (sym (texts_more us u))

-- ---- the innermost that is open

abbrev pub opened : List Bracket → ℕ
opened bs = length (filter (λ (b : Bracket). is_opening b.kind) bs)

abbrev pub closed : List Bracket → ℕ
closed bs = length (filter (λ (b : Bracket). is_closing b.kind) bs)

-- none of these is open, and so many more close than open
pub record NoneOpen (bs : List Bracket) (n : ℕ) : Type 0 where
  pub none : innermost bs ≡ None
  pub counts : n + opened bs ≡ closed bs

pub none_open : NoneOpen [] 0
none_open = record { none = refl; counts = refl }

equal : (n m : ℕ) → n ≡ m → nat_eq n m ≡ true
equal n m e = eq-eqb n m e

other : (n m : ℕ) → n ≢ m → nat_eq n m ≡ false
other n m e = grind (arith, nat_tests)

-- what closes doesn't open
by_code : (n : ℕ) → (nat_eq n 29 || nat_eq n 33 || nat_eq n 31) ≡ true
    → (nat_eq n 28 || nat_eq n 32 || nat_eq n 30) ≡ false
by_code n e = grind (arith, nat_tests)

by_opening : (n : ℕ) → (nat_eq n 28 || nat_eq n 32 || nat_eq n 30) ≡ true
    → (nat_eq n 29 || nat_eq n 33 || nat_eq n 31) ≡ false
by_opening n e = grind (arith, nat_tests)

closing_opens_none : (k : Kind) → is_closing k ≡ true → is_opening k ≡ false
closing_opens_none k e = by_code (code k) e

opening_closes_none : (k : Kind) → is_opening k ≡ true → is_closing k ≡ false
opening_closes_none k e = by_opening (code k) e

module _ (b : Bracket) (bs : List Bracket) (n : ℕ) (s : NoneOpen bs n) where
  -- before one that closes
  pub closing_before : is_closing b.kind ≡ true → NoneOpen (b ∷ bs) (n + 1)
  closing_before e =
      let o = closing_opens_none b.kind e in
      record {
        none = rw (o, s.none) refl;
        counts = rw (o, e) (omega (arith, s.counts));
      }

  -- before one that opens what closes after it
  pub opening_before : (m : ℕ) → is_opening b.kind ≡ true → n ≡ m + 1 → NoneOpen (b ∷ bs) m
  opening_before m e h =
      let o = opening_closes_none b.kind e in
      record {
        none = rw (e, other (opened bs) (closed bs) (λ same. absurd (omega (arith, s.counts, h, same))), s.none) refl;
        counts = rw (e, o) (omega (arith, s.counts, h));
      }

  -- before any other
  pub other_before : is_closing b.kind ≡ false → is_opening b.kind ≡ false → NoneOpen (b ∷ bs) n
  other_before c o = record {
    none = rw (o, s.none) refl;
    counts = rw (o, c) s.counts;
  }

  -- before one that stays open
  pub open_before : is_opening b.kind ≡ true → n ≡ 0 → innermost (b ∷ bs) ≡ Some b
  open_before e h = rw (s.none, e, equal (opened bs) (closed bs) (omega (arith, s.counts, h))) refl

-- it is the innermost of all
pub open_after : (xs ys : List Bracket) (b : Bracket) → innermost ys ≡ Some b → innermost (xs ++ ys) ≡ Some b
open_after [] ys b e = e
open_after (x ∷ xs) ys b e = rw (open_after xs ys b e) refl

module _ (bs : List Bracket) (i n : ℕ) (d : Bracket) (some : 0 < i) (inside : i ≤ length bs) (s : NoneOpen (drop i bs) n)
    (e : is_opening (get_or bs (i - 1) d).kind ≡ true) where
  next : drop (i - 1) bs ≡ get_or bs (i - 1) d ∷ drop i bs
  next =
      let k : (i - 1) + 1 ≡ i = omega (arith, some) in
      drop_more bs (i - 1) d (omega (arith, some, inside)) ∙ ap (λ m. get_or bs (i - 1) d ∷ drop m bs) k

  -- the one before these stays open
  pub found_here : n ≡ 0 → Some (get_or bs (i - 1) d) ≡ innermost bs
  found_here h = sym (ap innermost (sym (take-append-drop (i - 1) bs)) ∙ open_after (take (i - 1) bs) (drop (i - 1) bs)
      (get_or bs (i - 1) d) (ap innermost next ∙ open_before (get_or bs (i - 1) d) (drop i bs) n s e h))

  -- or is closed after it
  pub closed_here : (n ≡ 0 → ⊥) → NoneOpen (drop (i - 1) bs) (n - 1)
  closed_here h = subst (λ z. NoneOpen z (n - 1)) (sym next)
      (opening_before (get_or bs (i - 1) d) (drop i bs) n s (n - 1) e (omega (arith, h)))

pub no_more : (bs : List Bracket) (i n : ℕ) → n ≤ length (drop i bs) → n - 1 ≤ length (drop (i - 1) bs)
no_more bs i n l = omega (arith, l, length-drop i bs, length-drop (i - 1) bs)

-- ---- where it is

abbrev pub IsWithin : ℕ → Bracket → Type 0
IsWithin n b = (b.part.start ≤ n) × (b.part.end ≤ n)

brackets_within : (at n : ℕ) (us : List (List ℕ)) → at + sum_by length us ≤ n
    → AllByRecursion (IsWithin n) (brackets at us)
brackets_within at n [] l = subst (AllByRecursion (IsWithin n)) (sym (none_among at)) tt
brackets_within at n (u ∷ us) l =
    let sum : at + length u + sum_by length us ≤ n = omega (arith, l, sum_by-cons length u us) in
    go sum (brackets_within (at + length u) n us sum) (is_bracket (kind_of u)) refl
  where
    go : at + length u + sum_by length us ≤ n → AllByRecursion (IsWithin n) (brackets (at + length u) us)
        → (x : Bool) → is_bracket (kind_of u) ≡ x → AllByRecursion (IsWithin n) (brackets at (u ∷ us))
    go sum others true e = subst (AllByRecursion (IsWithin n)) (sym (first_kept at u us e))
        ((omega (arith, sum), omega (arith, sum)), others)
    go sum others false e = subst (AllByRecursion (IsWithin n)) (sym (first_left at u us e)) others

kept_within : (n : ℕ) (x : Bool) (b : Bracket) → IsWithin n b → IfSome (if x then Some b else None) (IsWithin n)
kept_within n true b w = w
kept_within n false b w = tt

either_within : (n : ℕ) (o p : Option Bracket) → IfSome o (IsWithin n) → IfSome p (IsWithin n)
    → IfSome (option_or o p) (IsWithin n)
either_within n None p w v = v
either_within n (Some b) p w v = w

innermost_within : (n : ℕ) (bs : List Bracket) → AllByRecursion (IsWithin n) bs → IfSome (innermost bs) (IsWithin n)
innermost_within n [] a = tt
innermost_within n (b ∷ bs) a = either_within n (innermost bs) _ (innermost_within n bs a.1)
    (kept_within n (is_opening b.kind && are_balanced bs) b a.0)

if_left_open_within : (n : ℕ) (found : Option (Bor (List ℕ))) (b : Option Bracket) → IfSome b (IsWithin n)
    → IfSome (if_left_open found b) (IsWithin n)
if_left_open_within n found None w = tt
if_left_open_within n found (Some b) w = kept_within n (leaves_open found b.kind) b w

pub left_open_within : (n : ℕ) (found : Option (Bor (List ℕ))) (us : List (List ℕ)) → sum_by length us ≤ n
    → IfSome (left_open found us) (IsWithin n)
left_open_within n found us l = if_left_open_within n found (innermost (brackets 0 us))
    (innermost_within n (brackets 0 us) (brackets_within 0 n us (omega (arith, l))))

-- a text splits in one way
pub of_split : (text : List ℕ) (found : Option (Bor (List ℕ))) (b : Option Bracket) (us : List (List ℕ))
    → IsUnclosed text found b → SplitsInto text us → b ≡ left_open found us
of_split text found b us u s = u.2 ∙ ap (left_open found) (split_unique text u.0 us u.1 s)
