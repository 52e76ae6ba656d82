-- Units without blank lines, where a break is held back.
use Rattle.std.proofs.Common.{◌≡◌, ℕ, zero, suc, ◌+◌, ◌<◌, ◌≤◌, Bool, true, false, cond, ◌&&◌, ◌||◌, Option, Some, None, List, [], ◌∷◌, ◌++◌, length, get_or, drop, replicate, refl, sym, ap, ◌∙◌, append_assoc, append-nil, length-append, arith}
use Rattle.std.specs.List.{concat, flat_map, list_any, take_while}
use Rattle.std.specs.Str.{trim}
use Rattle.std.proofs.lemmas.Bool.{false≢true}
use Rattle.std.proofs.lemmas.List.{length-replicate, at_drop_more}
use Rattle.std.proofs.lemmas.Grind.{flat_map-append}
use Rattle.std.proofs.lemmas.List.Sums.{take_while-cons}
use Rattle.cedar_tokens.specs.Bytes.{line_feed, space_character}
use Rattle.cedar_layout.specs.Layout.{Doc, broken}
use Rattle.cedar_layout.specs.Inside.Computed.{laid}
use Rattle.cedar_layout.proofs.Rule.{rule_is_met, pieces_are_laid}
use Rattle.cedar_written.specs.Cleaning.{is_feed}
use Rattle.cedar_print.specs.declared.mark.Mark.{Mark}
use Rattle.cedar_print.specs.declared.write.Held.{Held}
use Rattle.cedar_print.specs.Marks.{mark_of, marks_of}
use Rattle.cedar_print.specs.Clean.{space, feed, units_of, is_blank, without_blank_lines, IsUntrimmedLayoutAt, IsTheCleanLayoutAt}
use Rattle.cedar_print.specs.Inside.Printed.{State, pieces_of, after, printed}
use Rattle.cedar_print.specs.Inside.Written.{units_held, bytes_held, clean_after}
use Rattle.cedar_print.proofs.Units.{concat_break}

-- a line feed is among the blanks that the units begin with
abbrev pub feeds : List (List ℕ) → Bool
feeds us = list_any is_feed (take_while is_blank us)

pub feeds-cons : (u : List ℕ) (us : List (List ℕ))
    → feeds (u ∷ us) ≡ (is_blank u && (is_feed u || feeds us))
feeds-cons u us = ap (list_any is_feed) (take_while-cons is_blank u us) ∙ go (is_blank u)
  where
    go : (b : Bool) → list_any is_feed (cond b (u ∷ take_while is_blank us) [])
        ≡ (b && (is_feed u || feeds us))
    go true = refl
    go false = refl

-- what follows a unit after a line feed
fed_then : (u : List ℕ) (us : List (List ℕ)) (b : Bool) → feeds (u ∷ us) ≡ b
    → without_blank_lines true (u ∷ us) ≡ cond b (without_blank_lines true us)
    (u ++ without_blank_lines (is_feed u || is_blank u) us)
fed_then u us b e = ap (λ x. cond x (without_blank_lines true us)
    (u ++ without_blank_lines (is_feed u || is_blank u) us)) e

-- ---- spaces after a line feed

no_feeds : (n : ℕ) (us : List (List ℕ)) → feeds us ≡ false → feeds (replicate n space ++ us) ≡ false
no_feeds zero us h = h
no_feeds (suc n) us h = feeds-cons space (replicate n space ++ us) ∙ no_feeds n us h

spaces_stay : (n : ℕ) (us : List (List ℕ)) → feeds us ≡ false
    → without_blank_lines true (replicate n space ++ us)
    ≡ concat (replicate n space) ++ without_blank_lines true us
spaces_stay zero us h = refl
spaces_stay (suc n) us h = fed_then space (replicate n space ++ us) false (no_feeds (suc n) us h)
    ∙ ap (λ xs. space_character ∷ xs) (spaces_stay n us h)

feed_follows : (n : ℕ) (us : List (List ℕ)) → feeds (replicate n space ++ feed ∷ us) ≡ true
feed_follows zero us = feeds-cons feed us
feed_follows (suc n) us =
    feeds-cons space (replicate n space ++ feed ∷ us) ∙ feed_follows n us

blank_line_goes : (n : ℕ) (us : List (List ℕ))
    → without_blank_lines true (replicate n space ++ feed ∷ us) ≡ without_blank_lines true us
blank_line_goes zero us = fed_then feed us true (feed_follows zero us)
blank_line_goes (suc n) us =
    fed_then space (replicate n space ++ feed ∷ us) true (feed_follows (suc n) us)
    ∙ blank_line_goes n us

-- ---- a text

first_false : (a b : Bool) → (a || b) ≡ false → a ≡ false
first_false false b h = refl
first_false true b h = absurd (false≢true (sym h))

pub solid_feeds : (s : List ℕ) (us : List (List ℕ)) → is_blank s ≡ false → feeds (s ∷ us) ≡ false
solid_feeds s us h = feeds-cons s us ∙ ap (λ b. b && (is_feed s || feeds us)) h

pub solid_stays : (s : List ℕ) (us : List (List ℕ)) → is_blank s ≡ false
    → without_blank_lines false (s ∷ us) ≡ s ++ without_blank_lines false us
solid_stays s us h =
    ap (λ b. s ++ without_blank_lines (b || false) us) (first_false (is_feed s) _ h)

pub solid_stays_after : (s : List ℕ) (us : List (List ℕ)) → is_blank s ≡ false
    → without_blank_lines true (s ∷ us) ≡ s ++ without_blank_lines false us
solid_stays_after s us h = fed_then s us false (solid_feeds s us h)
    ∙ ap (λ b. s ++ without_blank_lines (b || is_blank s) us) (first_false (is_feed s) _ h)
    ∙ ap (λ b. s ++ without_blank_lines b us) h

-- ---- what is held back

-- a text follows
then_text : (h : Option Held) (s : List ℕ) (us : List (List ℕ)) → is_blank s ≡ false
    → clean_after h (s ∷ us) ≡ concat (units_held h) ++ (s ++ without_blank_lines false us)
then_text None s us e = solid_stays s us e
then_text (Some h) s us e = ap (λ xs. line_feed ∷ xs)
    (spaces_stay (h.indent + h.spaces) (s ∷ us) (solid_feeds s us e)
    ∙ ap (λ xs. concat (replicate (h.indent + h.spaces) space) ++ xs) (solid_stays_after s us e))

-- a text is written after what was held back
pub text_written : (h : Option Held) (s : List ℕ) (us : List (List ℕ)) (out mid new : List ℕ)
    → is_blank s ≡ false → mid ≡ out ++ concat (units_held h) → new ≡ mid ++ s
    → new ++ clean_after None us ≡ out ++ clean_after h (s ∷ us)
text_written h s us out mid new b e f =
    let held = concat (units_held h) in
    let rest = without_blank_lines false us in
    ap (λ xs. xs ++ rest) (f ∙ ap (λ xs. xs ++ s) e) ∙ append_assoc (out ++ held) s rest
    ∙ append_assoc out held (s ++ rest) ∙ ap (λ xs. out ++ xs) (sym (then_text h s us b))

-- a break follows
pub then_break : (h : Option Held) (i : ℕ) (us : List (List ℕ))
    → clean_after (Some (record { indent = i; spaces = 0 })) us
    ≡ clean_after h (units_of (broken i) ++ us)
then_break h i us =
    let e : i + 0 ≡ i = omega arith in
    ap (λ k. without_blank_lines false (feed ∷ replicate k space ++ us)) e ∙ after h
  where
    after : (h : Option Held) → without_blank_lines false (units_of (broken i) ++ us)
        ≡ clean_after h (units_of (broken i) ++ us)
    after None = refl
    after (Some h) = ap (λ xs. line_feed ∷ xs)
        (sym (blank_line_goes (h.indent + h.spaces) (replicate i space ++ us)))

-- nothing follows
then_nothing : (h : Option Held) → clean_after h [] ≡ concat (units_held h)
then_nothing None = refl
then_nothing (Some h) = ap (λ xs. line_feed ∷ xs)
    (spaces_stay (h.indent + h.spaces) [] refl ∙ append-nil _)

pub all_written : (h : Option Held) (out new all : List ℕ) → out ++ clean_after h [] ≡ all
    → new ≡ out ++ concat (units_held h) → new ≡ all
all_written h out new all e f = f ∙ ap (λ xs. out ++ xs) (sym (then_nothing h)) ∙ e

-- ---- room for it

length_held : (h : Option Held) → length (concat (units_held h)) ≡ bytes_held h
length_held None = refl
length_held (Some h) = ap length (concat_break (h.indent + h.spaces))
    ∙ ap suc (length-replicate (h.indent + h.spaces) space_character) ∙ omega arith

-- what is held back and a text after it are a part of what is written
pub held_and_text : (h : Option Held) (s : List ℕ) (us : List (List ℕ)) → is_blank s ≡ false
    → bytes_held h + length s ≤ length (clean_after h (s ∷ us))
held_and_text h s us b =
    let rest = without_blank_lines false us in
    let e = ap length (then_text h s us b) in
    let k = length-append (concat (units_held h)) (s ++ rest) in
    let m = length-append s rest in
    let n = length_held h in
    omega (arith, e, k, m, n)

pub held_alone : (h : Option Held) → length (clean_after h []) ≡ bytes_held h
held_alone h = ap length (then_nothing h) ∙ length_held h

-- what is written of the marks from a place on begins with what the first of them writes
pub one_written : (w : ℕ) (ms : List Mark) (i : ℕ) (d : Mark) (p : State) (us : List (List ℕ))
    (h : Option Held) (out all : List ℕ) → i < length ms
    → us ≡ flat_map units_of (pieces_of (mark_of (get_or ms i d)) p.here)
    → out ++ clean_after h (flat_map units_of (printed w (marks_of (drop i ms)) p)) ≡ all
    → (vs : List (List ℕ)) × (length out + length (clean_after h (us ++ vs)) ≡ length all)
one_written w ms i d p us h out all l e f =
    let m = mark_of (get_or ms i d) in
    let rest = printed w (marks_of (drop (i + 1) ms)) (after w m p) in
    let vs = flat_map units_of rest in
    let g = at_drop_more (λ xs. flat_map units_of (printed w (marks_of xs) p)) ms i d l
    ∙ flat_map-append units_of (pieces_of m p.here) rest
    ∙ ap (λ xs. xs ++ vs) (sym e) in (
      vs,
      sym (length-append out (clean_after h (us ++ vs)))
          ∙ ap length (ap (λ xs. out ++ clean_after h xs) (sym g) ∙ f),
    )

-- ---- the layout

pub laid_untrimmed : (w : ℕ) (d : Doc) → IsUntrimmedLayoutAt w d
    (without_blank_lines false (flat_map units_of (laid w d false 0 0 0)))
laid_untrimmed w d =
    let C = rule_is_met w d false 0 0 [] in (
      C.0,
      C.1,
      ap (λ ps. without_blank_lines false (flat_map units_of ps))
          (sym (pieces_are_laid w d C.0 false 0 0 [] C.1)),
    )

pub laid_is_clean : (w : ℕ) (d : Doc) → IsTheCleanLayoutAt w d
    (trim (without_blank_lines false (flat_map units_of (laid w d false 0 0 0))))
laid_is_clean w d =
    let C = rule_is_met w d false 0 0 [] in (
      (
        C.0,
        C.1,
        ap (λ ps. trim (without_blank_lines false (flat_map units_of ps)))
            (sym (pieces_are_laid w d C.0 false 0 0 [] C.1)),
      ),
      λ u h. h.2 ∙ ap (λ ps. trim (without_blank_lines false (flat_map units_of ps)))
          (pieces_are_laid w d h.0 false 0 0 [] h.1),
    )
