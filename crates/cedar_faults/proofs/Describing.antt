-- What is known at the first fault of a text.
use Rattle.std.specs.Prelude.{◌≡◌, ◌≢◌, ◌↔◌, ◌⊎◌, ◌≤◌, ◌<◌, ◌+◌, ℕ, Bool, IsTrue, List, length, take, drop, Some, None, slice_index, ◌==◌, ◌||◌}
use Rattle.std.specs.Str.{IsUtf8, IsCharBoundary}
use Rattle.std.proofs.Common.{sym, ◌∙◌, arith, subst, inl, inr}
use Rattle.std.proofs.lemmas.List.{drop-drop, length-drop}
use Rattle.std.proofs.lemmas.Str.{IsUtf8-drop, IsCharBoundary-from_drop}
use Rattle.std.proofs.lemmas.Bool.Decides.{nat_tests}
use Rattle.cedar_tokens.specs.Bytes.{line_feed, carriage_return}
use Rattle.cedar_tokens.specs.Split.{SplitsInto}
use Rattle.cedar_tokens.proofs.FirstUnit.{unit_boundary}
use Rattle.cedar_tokens.proofs.Prefixes.{begins_fits}
use Rattle.cedar_tokens.proofs.UnitsSoFar.{boundary_at, scan_utf8}
use Rattle.cedar_tokens.specs.declared.token.Span.{Span}
use Rattle.cedar_tokens.specs.declared.kind.Kind.{Kind}
use Rattle.cedar_grammar.specs.Texts.{only_tokens}
use Rattle.cedar_reading.specs.Tokens.{HasTokens}
use Rattle.cedar_grammar.specs.declared.error.FormatError.{FormatError}
use Rattle.cedar_grammar.specs.declared.error.FormatError.TheVariants.{UnknownCharacter, UnfinishedString, NumberTooLarge, Grammar, TooDeep, NoDocument, Unsound, OutOfMemory}
use Rattle.cedar_grammar.specs.Refusals.{place_of}
use Rattle.cedar_faults.specs.Expectations.{AreAllAfter, IsList}
use Rattle.cedar_faults.specs.Inside.TokenBeginnings.{HasTree, KindsFollow}
use Rattle.cedar_faults.proofs.Probed.{of_units}
use Rattle.cedar_faults.specs.Faults.{IsFound}
use Rattle.cedar_faults.specs.FirstFaults.{IsFirstOf, Reaches}
use Rattle.cedar_faults.specs.Marks.{EndsLine, EndsUnit, Marks, MarksUnit, MarksLast}
use Rattle.cedar_faults.proofs.Ending.{reached_ends}
use Rattle.cedar_faults.proofs.Leaving.{Start, start_tokens, start_splits}

-- the place of a first fault is reached
pub reached : (text : List ℕ) (e : FormatError) (at : ℕ) → IsFirstOf text e → place_of e ≡ Some at
    → Reaches text at
reached text (UnknownCharacter n) at f e = let s : n ≡ at = cc in subst (Reaches text) s f.0
reached text (UnfinishedString n) at f e = let s : n ≡ at = cc in subst (Reaches text) s f.0
reached text (NumberTooLarge n) at f e = let s : n ≡ at = cc in subst (Reaches text) s f.0
reached text (Grammar n) at f e = let s : n ≡ at = cc in subst (Reaches text) s f.reached
reached text (TooDeep n) at f e = let s : n ≡ at = cc in subst (Reaches text) s f.reached
reached text NoDocument at f e = absurd f
reached text Unsound at f e = absurd f
reached text OutOfMemory at f e = absurd f

-- a first fault has a place
pub has_place : (text : List ℕ) (e : FormatError) → IsFirstOf text e → place_of e ≢ None
has_place text (UnknownCharacter n) f e = cc
has_place text (UnfinishedString n) f e = cc
has_place text (NumberTooLarge n) f e = cc
has_place text (Grammar n) f e = cc
has_place text (TooDeep n) f e = cc
has_place text NoDocument f e = f
has_place text Unsound f e = f
has_place text OutOfMemory f e = f

module _ (text : List ℕ) (at : ℕ) (r : Reaches text at) where
  pub reached_inside : at ≤ length text
  reached_inside = (reached_ends text at r).inside

  pub reached_boundary : IsUtf8 text → IsCharBoundary text at
  reached_boundary k = boundary_at r.before text (drop at text) at k (reached_ends text at r)

  start : Start text at r.before
  start = record { scans = r.scans; place = r.place; fitting = r.fitting }

  pub front_tokens : HasTokens (take at text)
  front_tokens = start_tokens text at r.before start

  pub front_splits : SplitsInto (take at text) r.before
  front_splits = start_splits text at r.before start

  pub kinds_there : (kinds : List Kind) → KindsFollow (take at text) kinds
      → AreAllAfter (only_tokens r.before) kinds
  kinds_there kinds k =
      of_units (take at text) r.before (λ front. AreAllAfter front kinds) front_splits k

  pub end_there : (b : Bool) → IsTrue b ↔ HasTree (take at text)
      → IsTrue b ↔ IsList (only_tokens r.before)
  end_there b h = (
    λ t. of_units (take at text) r.before IsList front_splits (h.0 t),
    λ l. h.1 (r.before, front_splits, l),
  )

  -- where a unit at the place ends
  unit_end : IsUtf8 text → (to : ℕ) → EndsUnit text at to → IsCharBoundary text to
  unit_end k to u =
      let rest : IsUtf8 (drop at text) = scan_utf8 r.before text (drop at text) k r.scans in
      let after : IsUtf8 (drop (at + length u.0) text) = subst (λ z. IsUtf8 z) (drop-drop (length u.0) at text)
      (IsUtf8-drop (drop at text) (length u.0) rest (unit_boundary (drop at text) u.0 rest u.1)) in
      let inside : at + length u.0 ≤ length text = omega
      (arith, reached_inside, begins_fits (drop at text) u.0 u.1.begins, length-drop at text) in
      subst (IsCharBoundary text) (sym u.2)
      (IsCharBoundary-from_drop text (at + length u.0) inside after)

line_end : (text : List ℕ) (at to : ℕ) → EndsLine text at to → IsCharBoundary text to
line_end text at to l = (l.within, λ less lead. absurd (small (slice_index text to) (l.end less) lead))
  where
    small : (b : ℕ) → IsTrue (b == line_feed || b == carriage_return) → 128 ≤ b → ⊥
    small b h l = grind (arith, nat_tests)

-- where the marked part begins and ends, unless the text ends there
pub part_start : (text : List ℕ) (e : FormatError) (at : ℕ) (s : Span) → Marks text e s
    → place_of e ≡ Some at → at < length text → s.start ≡ at
part_start text (UnknownCharacter n) at s m e l = let i : n ≡ at = cc in m.0 ∙ i
part_start text (UnfinishedString n) at s m e l = let i : n ≡ at = cc in m.0 ∙ i
part_start text (NumberTooLarge n) at s m e l = let i : n ≡ at = cc in m.0 ∙ i
part_start text (Grammar n) at s m e l = let i : n ≡ at = cc in go i m
  where
    go : n ≡ at → ((n < length text) × MarksUnit text n s) ⊎ ((n ≡ length text) × MarksLast text s)
        → s.start ≡ at
    go i (inl (b, u)) = u.0 ∙ i
    go i (inr (b, u)) = absurd (omega (arith, i, b, l))
part_start text (TooDeep n) at s m e l = let i : n ≡ at = cc in m.0 ∙ i
part_start text NoDocument at s m e l = absurd m
part_start text Unsound at s m e l = absurd m
part_start text OutOfMemory at s m e l = absurd m

pub part_end : (text : List ℕ) (e : FormatError) (at : ℕ) (s : Span) → Marks text e s → IsUtf8 text
    → (r : Reaches text at) → place_of e ≡ Some at → at < length text → IsCharBoundary text s.end
part_end text (UnknownCharacter n) at s m k r e l = m.1.boundary
part_end text (UnfinishedString n) at s m k r e l = line_end text n s.end m.1
part_end text (NumberTooLarge n) at s m k r e l =
    let i : n ≡ at = cc in unit_end text at r k s.end (rw i at m.1)
part_end text (Grammar n) at s m k r e l = let i : n ≡ at = cc in go i m
  where
    go : n ≡ at → ((n < length text) × MarksUnit text n s) ⊎ ((n ≡ length text) × MarksLast text s)
        → IsCharBoundary text s.end
    go i (inl (b, u)) = unit_end text at r k s.end (rw i at u.1)
    go i (inr (b, u)) = absurd (omega (arith, i, b, l))
part_end text (TooDeep n) at s m k r e l =
    let i : n ≡ at = cc in unit_end text at r k s.end (rw i at m.1)
part_end text NoDocument at s m k r e l = absurd m
part_end text Unsound at s m k r e l = absurd m
part_end text OutOfMemory at s m k r e l = absurd m

pub nothing_found : (text : List ℕ) (part : Span) (at : ℕ) → at ≤ length text → length text ≤ at
    → IsFound text part at None
nothing_found text part at l m = omega (arith, l, m)
