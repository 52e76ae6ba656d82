-- Places of faults in a text are numbers of 64 bits.
use Rattle.std.specs.Prelude.{◌≡◌, ◌≤◌, ◌<◌, ◌+◌, ◌^◌, ◌⊎◌, ℕ, List, [], ◌∷◌, length, drop, Option, Some, None, IfSome}
use Rattle.std.proofs.Common.{ap, arith, inl, inr, subst, sym}
use Rattle.std.specs.List.{sum_by}
use Rattle.std.specs.Option.{option_map}
use Rattle.std.proofs.lemmas.List.{length-drop}
use Rattle.std.proofs.lemmas.List.Sums.{sum_by-append, sum_by-cons}
use Rattle.cedar_tokens.specs.declared.token.Span.{Span}
use Rattle.cedar_tokens.proofs.Prefixes.{begins_fits}
use Rattle.cedar_tokens.proofs.UnitsSoFar.{units_length}
use Rattle.cedar_grammar.specs.declared.error.FormatError.{FormatError}
use Rattle.cedar_grammar.specs.declared.error.FormatError.TheVariants.{UnknownCharacter, UnfinishedString, NumberTooLarge, Grammar, TooDeep, NoDocument, Unsound, OutOfMemory}
use Rattle.cedar_grammar.specs.Texts.{only_tokens}
use Rattle.cedar_faults.specs.Faults.{IsFault, IsInText, moved, moved_bracket}
use Rattle.cedar_faults.specs.FirstFaults.{IsFirstOf}
use Rattle.cedar_faults.specs.Inside.Searches.{HasRoom, HasRoomAt}
use Rattle.cedar_faults.specs.Marks.{EndsLastToken, EndsUnit, Marks, MarksLast, MarksUnit}
use Rattle.cedar_faults.specs.declared.brackets.Bracket.{Bracket}
use Rattle.cedar_faults.specs.declared.fault.Fault.{Fault}
use Rattle.cedar_faults.proofs.Bracketing.{IsWithin, left_open_within}
use Rattle.cedar_faults.proofs.Describing.{reached_inside}

unit_inside : (text : List ℕ) (at to : ℕ) → at ≤ length text → EndsUnit text at to → to ≤ length text
unit_inside text at to l u = omega (arith, l, u.2, begins_fits (drop at text) u.0 u.1.begins, length-drop at text)

last_inside : (text : List ℕ) (s : Span) → MarksLast text s → (s.start ≤ length text) × (s.end ≤ length text)
last_inside text s m = go m.2
  where
    go : (EndsLastToken m.0 s.end × (s.start + 1 ≡ s.end)) ⊎ ((only_tokens m.0 ≡ [])
        × (s.start ≡ length text) × (s.end ≡ length text))
        → (s.start ≤ length text) × (s.end ≤ length text)
    go (inl (l, e)) =
        let a = units_length m.0 text m.1 in
        let b = ap (sum_by length) l.parts in
        let c = sum_by-append length l.before (l.token ∷ l.after) in
        let d = sum_by-cons length l.token l.after in
        (omega (arith, a, b, c, d, l.place, e), omega (arith, a, b, c, d, l.place))
    go (inr (n, a, b)) = (omega (arith, a), omega (arith, b))

-- the marked part is inside the text
part_inside : (text : List ℕ) (e : FormatError) (s : Span) → IsFirstOf text e → Marks text e s
    → (s.start ≤ length text) × (s.end ≤ length text)
part_inside text (UnknownCharacter at) s f m = (omega (arith, m.0, f.1.inside), omega (arith, m.1.boundary))
part_inside text (UnfinishedString at) s f m = (omega (arith, m.0, f.1.inside), m.1.within)
part_inside text (NumberTooLarge at) s f m =
    let l = reached_inside text at f.0 in (omega (arith, m.0, l), unit_inside text at s.end l m.1)
part_inside text (Grammar at) s f m = go m
  where
    go : ((at < length text) × MarksUnit text at s) ⊎ ((at ≡ length text) × MarksLast text s)
        → (s.start ≤ length text) × (s.end ≤ length text)
    go (inl (l, u)) = (omega (arith, u.0, l), unit_inside text at s.end (omega (arith, l)) u.1)
    go (inr (e, l)) = last_inside text s l
part_inside text (TooDeep at) s f m =
    let l = reached_inside text at f.reached in (omega (arith, m.0, l), unit_inside text at s.end l m.1)
part_inside text NoDocument s f m = absurd f
part_inside text Unsound s f m = absurd f
part_inside text OutOfMemory s f m = absurd f

-- the bracket that is left open is inside the text
open_inside : (text : List ℕ) (f : Fault) → IsFault text f → IfSome f.unclosed (IsWithin (length text))
open_inside text f h =
    let at = reached_inside text f.expected.at h.expects.reached in
    subst (λ b. IfSome b (IsWithin (length text))) (sym h.unclosed)
    (left_open_within (length text) f.expected.found h.expects.reached.before (omega (arith, at, h.expects.reached.place)))

bracket_room : (by n : ℕ) (b : Option Bracket) → IfSome b (IsWithin n) → by + n < 2 ^ 64
    → IfSome b (HasRoomAt by)
bracket_room by n None w l = tt
bracket_room by n (Some b) w l = record { start = omega (arith, w.0, l); end = omega (arith, w.1, l) }

bracket_in_text : (from n m : ℕ) (b : Option Bracket) → IfSome b (IsWithin n) → from + n ≤ m
    → IfSome (option_map (moved_bracket from) b) (IsWithin m)
bracket_in_text from n m None w l = tt
bracket_in_text from n m (Some b) w l = (omega (arith, w.0, l), omega (arith, w.1, l))

-- moved by so many bytes that it stays inside a text of less than 2 ^ 64 bytes, a fault has room
pub has_room : (text : List ℕ) (by : ℕ) (f : Fault) → IsFault text f → by + length text < 2 ^ 64
    → HasRoom by f
has_room text by f h l =
    let p = part_inside text f.error f.part h.first h.part in
    let at = reached_inside text f.expected.at h.expects.reached in
    record {
      error = rw h.place (omega (arith, at, l));
      start = omega (arith, p.0, l);
      end = omega (arith, p.1, l);
      at = omega (arith, at, l);
      unclosed = bracket_room by (length text) f.unclosed (open_inside text f h) l;
    }

-- and it has its places in the text
pub in_text : (text rest : List ℕ) (from : ℕ) (f : Fault) → rest ≡ drop from text
    → from ≤ length text → IsFault rest f → IsInText text (moved from f)
in_text text rest from f e l h =
    let p = part_inside rest f.error f.part h.first h.part in
    let at = reached_inside rest f.expected.at h.expects.reached in
    record {
      at = omega (arith, at, ap length e, length-drop from text, l);
      start = omega (arith, p.0, ap length e, length-drop from text, l);
      end = omega (arith, p.1, ap length e, length-drop from text, l);
      unclosed = bracket_in_text from (length rest) (length text) f.unclosed (open_inside rest f h)
          (omega (arith, ap length e, length-drop from text, l));
    }
