-- The units so far: what calls of `next` returned is at the start of the text,
-- followed by what is left.
use Rattle.std.proofs.Common.{◌≡◌, ◌<◌, ◌≤◌, ◌+◌, ℕ, List, [], ◌∷◌, ◌++◌, length, map, drop, refl, ap, sym, ◌∙◌, arith, subst}
use Rattle.std.proofs.Math.Seq.{drop-append_seam}
use Rattle.std.proofs.lemmas.List.{append_assoc, drop_all, length-drop, length-append, map-append, append-nil}
use Rattle.std.proofs.lemmas.List.Sums.{sum_by-cons}
use Rattle.std.proofs.lemmas.Str.{IsUtf8-drop, IsCharBoundary-from_drop}
use Rattle.std.specs.Iterator.{Yields}
use Rattle.std.specs.List.{sum_by, concat}
use Rattle.std.specs.Str.{IsUtf8, IsCharBoundary}
use Rattle.cedar_tokens.specs.Units.{IsFirstUnit, BeginsNoUnit}
use Rattle.cedar_tokens.specs.Split.{Scans, SplitsInto, IsFirstFault}
use Rattle.cedar_tokens.specs.UnitSteps.{text_left, unit_text, GivesUnit}
use Rattle.cedar_tokens.specs.declared.units.Unit.{Unit}
use Rattle.cedar_tokens.specs.declared.units.Units.{Units}
use Rattle.cedar_tokens.proofs.FirstUnit.{unit_boundary}
use Rattle.cedar_tokens.proofs.Scanning.{scan_more}

-- the texts of units
abbrev pub texts : List Unit → List (List ℕ)
texts us = map unit_text us

pub texts_more : (us : List Unit) (u : Unit) → texts (us ++ u ∷ []) ≡ texts us ++ unit_text u ∷ []
texts_more us u = map-append unit_text us (u ∷ [])

scans_between : (us : List Unit) (s t : Units) → Yields GivesUnit s us t
    → Scans (texts us) (text_left s) (text_left t)
scans_between [] s t y = ap text_left y
scans_between (u ∷ us) s t (j, g, y) =
    let after : drop (length (unit_text u)) (text_left s) ≡ text_left j =
    ap (drop (length (unit_text u))) g.2 ∙ drop-append_seam (unit_text u) (text_left j) in
    (g.0, rw after (scans_between us j t y))

-- the units so far, and what is left
pub scans_so_far : (us : List Unit) (s t : Units) (text : List ℕ) → text_left s ≡ text
    → Yields GivesUnit s us t → Scans (texts us) text (text_left t)
scans_so_far us s t text e y =
    subst (λ z. Scans (texts us) z (text_left t)) e (scans_between us s t y)

-- the bytes of units
pub concat_length : (us : List (List ℕ)) → length (concat us) ≡ sum_by length us
concat_length [] = refl
concat_length (u ∷ us) = length-append u (concat us) ∙ ap (λ n. length u + n) (concat_length us)
    ∙ sym (sum_by-cons length u us)

-- a text is its unit followed by the rest
pub after_unit : (text u : List ℕ) → IsFirstUnit text u → text ≡ u ++ drop (length u) text
after_unit text u f =
    let e : drop (length u) text ≡ f.begins.0 = rw f.begins.1 (drop-append_seam u f.begins.0) in
    rw e f.begins.1

pub scans_concat : (us : List (List ℕ)) (text rest : List ℕ) → Scans us text rest
    → text ≡ concat us ++ rest
scans_concat [] text rest s = s
scans_concat (u ∷ us) text rest s =
    after_unit text u s.0 ∙ ap (λ t. u ++ t) (scans_concat us (drop (length u) text) rest s.1)
    ∙ sym (append_assoc u (concat us) rest)

-- the units of a text have all its bytes
pub units_length : (us : List (List ℕ)) (text : List ℕ) → SplitsInto text us
    → length text ≡ sum_by length us
units_length us text s =
    ap length (scans_concat us text [] s ∙ append-nil (concat us)) ∙ concat_length us

pub scan_utf8 : (us : List (List ℕ)) (text rest : List ℕ) → IsUtf8 text → Scans us text rest
    → IsUtf8 rest
scan_utf8 [] text rest utf8 s = rw s at utf8
scan_utf8 (u ∷ us) text rest utf8 s = scan_utf8 us (drop (length u) text) rest
    (IsUtf8-drop text (length u) utf8 (unit_boundary text u utf8 s.0)) s.1

-- the units so far end at the byte `at`
pub record EndsAt (us : List (List ℕ)) (text rest : List ℕ) (at : ℕ) : Type 0 where
  pub inside : at ≤ length text
  pub scans : Scans us text (drop at text)
  pub place : at ≡ sum_by length us
  pub left : rest ≡ drop at text

pub ends_at : (us : List (List ℕ)) (text rest : List ℕ) (at : ℕ) → Scans us text rest
    → at + length rest ≡ length text → EndsAt us text rest at
ends_at us text rest at s e =
    let whole = scans_concat us text rest s in
    let size = length-append (concat us) rest in
    let place : at ≡ length (concat us) = omega (arith, e, ap length whole, size) in
    let same : rest ≡ drop at text =
    rw place (sym (ap (drop (length (concat us))) whole ∙ drop-append_seam (concat us) rest)) in
    record {
      inside = omega (arith, e);
      scans = subst (λ z. Scans us text z) same s;
      place = place ∙ concat_length us;
      left = same;
    }

pub boundary_at : (us : List (List ℕ)) (text rest : List ℕ) (at : ℕ) → IsUtf8 text
    → EndsAt us text rest at → IsCharBoundary text at
boundary_at us text rest at utf8 e =
    IsCharBoundary-from_drop text at e.inside (scan_utf8 us text (drop at text) utf8 e.scans)

-- one more unit
pub one_more : (us : List (List ℕ)) (text rest u new : List ℕ) (at : ℕ) → EndsAt us text rest at
    → IsFirstUnit rest u → rest ≡ u ++ new → EndsAt (us ++ u ∷ []) text new (at + length u)
one_more us text rest u new at e f g =
    let after : drop (length u) rest ≡ new = ap (drop (length u)) g ∙ drop-append_seam u new in
    let scans = subst (λ z. Scans us text z) (sym e.left) e.scans in
    let sum : at + length u + length new ≡ length text = omega
    (arith, e.inside, ap length e.left, length-drop at text, ap length g, length-append u new) in
    ends_at (us ++ u ∷ []) text new (at + length u)
    (rw after at (scan_more us text rest u scans f)) sum

-- a sum of the lengths after one more unit
pub place_more : (old u new : List ℕ) (n at : ℕ) → at + length old ≡ n → old ≡ u ++ new
    → at + length u + length new ≡ n
place_more old u new n at e g = omega (arith, e, ap length g, length-append u new)

-- what calls of `next` returned ends at the byte `at`, and what is left begins there
pub so_far : (us : List Unit) (s t : Units) (text : List ℕ) (at : ℕ) → text_left s ≡ text
    → Yields GivesUnit s us t → at + length (text_left t) ≡ length text
    → EndsAt (texts us) text (text_left t) at
so_far us s t text at e y p =
    ends_at (texts us) text (text_left t) at (scans_so_far us s t text e y) p

-- the units reach the end
pub whole : (us : List (List ℕ)) (text rest : List ℕ) (at : ℕ) → EndsAt us text rest at
    → length text ≤ at → SplitsInto text us
whole us text rest at e l = rw (drop_all at text l) at e.scans

-- or the first place where none begins
pub stuck : (us : List (List ℕ)) (text rest : List ℕ) (at : ℕ) → EndsAt us text rest at
    → at < length text → BeginsNoUnit rest → IsFirstFault text at
stuck us text rest at e l none =
    record { inside = l; reached = (us, e.scans); stuck = rw e.left at none }
