-- What is around a place grows to the whole text.
use Rattle.std.proofs.Common.{◌≡◌, ◌+◌, ◌<◌, ◌≤◌, ℕ, Bool, true, false, List, [], ◌∷◌, ◌++◌, Option, Some, None, length, drop, refl, ap, sym, ◌∙◌, subst, arith, inl, inr}
use Rattle.std.specs.Prelude.{◌&&◌, ◌||◌, ◌⊎◌, nat_le, nat_lt, if◌then◌else◌}
use Rattle.std.specs.List.{AllByRecursion, sum_by}
use Rattle.std.proofs.lemmas.Bool.Decides.{nat_tests}
use Rattle.std.proofs.lemmas.List.{append_assoc, length-drop}
use Rattle.std.proofs.lemmas.List.Sums.{sum_by-cons}
use Rattle.cedar_tokens.specs.TokenKinds.{kind_of}
use Rattle.cedar_tokens.specs.Units.{is_token, is_comment}
use Rattle.cedar_tokens.specs.Kinds.{is, is_opening, is_closing}
use Rattle.cedar_tokens.specs.declared.kind.Kind.{Kind}
use Rattle.cedar_tokens.specs.declared.token.Span.{Span}
use Rattle.cedar_server.specs.declared.selections.Opened.{Opened}
use Rattle.cedar_server.specs.Parts.{AreParts}
use Rattle.cedar_server.specs.Selections.{Nesting, after_part, around, at_start, blocks, closed_by, grows, is_word, last_blocks, pair_blocks, part_blocks, touches}
use Rattle.cedar_server.specs.Laws.{HasMore, GrowToTheWhole, SelectionsGrow}
use Rattle.cedar_server.proofs.Reading.{part_inside}
use Rattle.cedar_server.proofs.Selecting.{first_part, kept, left_out, no_parts, none_left, span_of}

-- ---- the blocks end within the text, and the last one is the whole of it

abbrev EndBy : ℕ → List Span → Type 0
EndBy n bs = AllByRecursion (λ (s : Span). s.end ≤ n) bs

both : (n : ℕ) (bs cs : List Span) → EndBy n bs → EndBy n cs → EndBy n (bs ++ cs)
both n [] cs a b = b
both n (x ∷ bs) cs a b = (a.0, both n bs cs a.1 b)

pair_ends : (n : ℕ) (o : Option (Opened × List Opened)) (s : Span) → s.start ≤ n → s.end ≤ n → EndBy n (pair_blocks o s)
pair_ends n None s b e = tt
pair_ends n (Some (o, os)) s b e = (b, (e, tt))

choose : (n : ℕ) (x : Bool) (bs cs : List Span) → EndBy n bs → EndBy n cs → EndBy n (if x then bs else cs)
choose n true bs cs a b = a
choose n false bs cs a b = b

part_ends : (n : ℕ) (a : Nesting) (u : List ℕ) (s : Span) → s.start ≤ n → s.end ≤ n → EndBy n (part_blocks a u s)
part_ends n a u s b e =
    choose n (is_token u) _ _
    (choose n (is_word (kind_of u)) _ _ (e, tt)
    (choose n (is_opening (kind_of u)) _ _ tt
    (choose n (is_closing (kind_of u)) _ _ (pair_ends n (closed_by (kind_of u) a.opened) s b e)
    (choose n (is Kind.SemiColon (kind_of u)) _ _ (e, tt) tt))))
    (choose n (is_comment u) _ _ (e, tt) tt)

abbrev whole : ℕ → Span
whole n = record { start = 0; end = n }

-- these, and then the whole text
record EndInWhole (n : ℕ) (bs : List Span) : Type 0 where
  front : List Span
  ends : EndBy n front
  value : bs ≡ front ++ whole n ∷ []

last_whole : (n : ℕ) (start : Option ℕ) → EndInWhole n (last_blocks start n)
last_whole n None = record { front = []; ends = tt; value = refl }
last_whole n (Some k) = record { front = record { start = k; end = n } ∷ []; ends = (omega arith, tt); value = refl }

blocks_whole : (n at : ℕ) (a : Nesting) (parts : List (List ℕ)) → at + sum_by length parts ≡ n → EndInWhole n (blocks at a parts)
blocks_whole n at a [] e =
    let sum : at + 0 ≡ n = e in
    let same : at ≡ n = omega (arith, sum) in
    subst (EndInWhole n) (ap (last_blocks a.start) (sym same) ∙ sym (no_parts at a)) (last_whole n a.start)
blocks_whole n at a (u ∷ us) e =
    let s = span_of at u in
    let sum : at + length u + sum_by length us ≡ n = omega (arith, e, sum_by-cons length u us) in
    let others = blocks_whole n (at + length u) (after_part a u s) us sum in
    record {
      front = part_blocks a u s ++ others.front;
      ends = both n (part_blocks a u s) others.front (part_ends n a u s (omega (arith, sum)) (omega (arith, sum))) others.ends;
      value = first_part at a u us ∙ ap (λ z. part_blocks a u s ++ z) others.value
          ∙ sym (append_assoc (part_blocks a u s) others.front (whole n ∷ []));
    }

parts_length : (parts : List (List ℕ)) (text : List ℕ) → AreParts text parts → sum_by length parts ≡ length text
parts_length [] text a = sym (ap length a)
parts_length (u ∷ us) text a = omega (
  arith,
  sum_by-cons length u us,
  parts_length us (drop (length u) text) a.1,
  length-drop (length u) text,
  part_inside text u a.0,
)

-- ---- those around a place

touched : (at start end : ℕ) → (nat_le start at && nat_le at end) ≡ true → (start ≤ at) × (at ≤ end)
touched at start end e = (grind (arith, nat_tests), grind (arith, nat_tests))

strictly : (a b c d : ℕ) (x : Bool) → nat_lt c a ≡ x → (nat_le c a && nat_le b d && (nat_lt c a || nat_lt b d)) ≡ true
    → (c < a) ⊎ (b < d)
strictly a b c d true h e = inl (grind (arith, nat_tests))
strictly a b c d false h e = inr (grind (arith, nat_tests))

by_numbers : (a b c d : ℕ) → (nat_le c a && nat_le b d && (nat_lt c a || nat_lt b d)) ≡ true
    → (c ≤ a) × (b ≤ d) × ((c < a) ⊎ (b < d))
by_numbers a b c d e = (grind (arith, nat_tests), grind (arith, nat_tests), strictly a b c d (nat_lt c a) refl e)

has_more : (l s : Span) → grows (Some l) s ≡ true → HasMore l s
has_more l s e = let m = by_numbers l.start l.end s.start s.end e in record { start = m.0; end = m.1; more = m.2 }

is_whole : (n start end : ℕ) → end ≤ n → (nat_le 0 start && nat_le end n && (nat_lt 0 start || nat_lt end n)) ≡ false
    → (start ≡ 0) × (end ≡ n)
is_whole n start end l e = (grind (arith, nat_tests), grind (arith, nat_tests))

split_test : (x y : Bool) → (x && y) ≡ true → (x ≡ true) × (y ≡ true)
split_test true true e = (refl, refl)
split_test true false e = absurd (let z : false ≡ true = e in cc)
split_test false y e = absurd (let z : false ≡ true = e in cc)

touches_whole : (at n : ℕ) → at ≤ n → touches at (whole n) ≡ true
touches_whole at n l = grind (arith, nat_tests)

-- after one that touches the place
after_one : (at n : ℕ) (xs : List Span) (l : Span) → at ≤ n → EndBy n xs → l.end ≤ n → (l.start ≤ at) × (at ≤ l.end)
    → GrowToTheWhole at n (l ∷ around at (Some l) (xs ++ whole n ∷ []))
after_one at n [] l k ends e t = go (touches at (whole n) && grows (Some l) (whole n)) refl
  where
    go : (x : Bool) → (touches at (whole n) && grows (Some l) (whole n)) ≡ x
        → GrowToTheWhole at n (l ∷ around at (Some l) (whole n ∷ []))
    go true h = subst (λ z. GrowToTheWhole at n (l ∷ z))
        (sym (kept at (Some l) (whole n) [] h ∙ ap (λ z. whole n ∷ z) (none_left at (Some (whole n)))))
        (t.0, t.1, has_more l (whole n) (split_test (touches at (whole n)) (grows (Some l) (whole n)) h).1, (refl, refl))
    go false h = subst (λ z. GrowToTheWhole at n (l ∷ z))
        (sym (left_out at (Some l) (whole n) [] h ∙ none_left at (Some l)))
        (is_whole n l.start l.end e (sym (ap (λ z. z && grows (Some l) (whole n)) (touches_whole at n k)) ∙ h))
after_one at n (x ∷ xs) l k ends e t =
    go (λ m. after_one at n xs x k ends.1 ends.0 m) (after_one at n xs l k ends.1 e t) (touches at x && grows (Some l) x) refl
  where
    go : ((x.start ≤ at) × (at ≤ x.end) → GrowToTheWhole at n (x ∷ around at (Some x) (xs ++ whole n ∷ [])))
        → GrowToTheWhole at n (l ∷ around at (Some l) (xs ++ whole n ∷ []))
        → (y : Bool) → (touches at x && grows (Some l) x) ≡ y
        → GrowToTheWhole at n (l ∷ around at (Some l) (x ∷ xs ++ whole n ∷ []))
    go more passed true h =
        let s = split_test (touches at x) (grows (Some l) x) h in
        subst (λ z. GrowToTheWhole at n (l ∷ z)) (sym (kept at (Some l) x (xs ++ whole n ∷ []) h))
        (t.0, t.1, has_more l x s.1, more (touched at x.start x.end s.0))
    go more passed false h =
        subst (λ z. GrowToTheWhole at n (l ∷ z)) (sym (left_out at (Some l) x (xs ++ whole n ∷ []) h)) passed

from_none : (at n : ℕ) (xs : List Span) → at ≤ n → EndBy n xs → GrowToTheWhole at n (around at None (xs ++ whole n ∷ []))
from_none at n [] k ends = subst (GrowToTheWhole at n)
    (sym (kept at None (whole n) [] (ap (λ z. z && true) (touches_whole at n k))
    ∙ ap (λ z. whole n ∷ z) (none_left at (Some (whole n))))) (refl, refl)
from_none at n (x ∷ xs) k ends = go (from_none at n xs k ends.1) (touches at x && grows None x) refl
  where
    go : GrowToTheWhole at n (around at None (xs ++ whole n ∷ [])) → (y : Bool) → (touches at x && grows None x) ≡ y
        → GrowToTheWhole at n (around at None (x ∷ xs ++ whole n ∷ []))
    go passed true h =
        let s = split_test (touches at x) (grows None x) h in
        subst (GrowToTheWhole at n) (sym (kept at None x (xs ++ whole n ∷ []) h))
        (after_one at n xs x k ends.1 ends.0 (touched at x.start x.end s.0))
    go passed false h = subst (GrowToTheWhole at n) (sym (left_out at None x (xs ++ whole n ∷ []) h)) passed

pub selections_grow : SelectionsGrow
selections_grow text at ss l (bs, (parts, are, made), same) =
    let w = blocks_whole (length text) 0 at_start parts (omega (arith, parts_length parts text are)) in
    subst (GrowToTheWhole at (length text)) (sym (same ∙ ap (around at None) (made ∙ w.value)))
    (from_none at (length text) w.front l w.ends)
