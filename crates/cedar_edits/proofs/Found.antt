-- The place of a position.
use Rattle.std.proofs.Common.{◌≡◌, ◌≢◌, ℕ, ◌+◌, ◌-◌, ◌<◌, ◌≤◌, true, List, length, get_or, sym, subst, ◌∙◌, inl, inr, arith}
use Rattle.std.specs.Prelude.{slice_range}
use Rattle.std.specs.Str.{IsCharBoundary}
use Rattle.std.proofs.lemmas.Bool.{cases_lt}
use Rattle.cedar_edits.specs.declared.positions.Encoding.{Encoding}
use Rattle.cedar_edits.specs.declared.positions.Encoding.TheVariants.{Utf16, Utf8, Utf32}
use Rattle.cedar_edits.specs.declared.positions.Position.{Position}
use Rattle.cedar_edits.specs.Positions.{BeginsLine, IsOffsetOf, IsPlaceOnLine, IsPositionAt, IsPositionOf, ends_line, lines_before, unit_count, units}
use Rattle.cedar_edits.specs.Laws.{IsInLineEnd}
use Rattle.cedar_edits.proofs.LineStarts.{BeginsLine-unique, lines_before-end, lines_before-le, units-le, units-next}

-- a line has one such place
IsPlaceOnLine-unique : (e : Encoding) (text : List ℕ) (s character a b : ℕ)
    → IsPlaceOnLine e text s character a → IsPlaceOnLine e text s character b → a ≡ b
IsPlaceOnLine-unique e text s character a b p q = elim (cases_lt a b) [
  | inl below ↦ absurd (omega (arith, p.last b below q.on, q.reached))
  | inr above ↦ elim (cases_lt b a) [
    | inl below ↦ absurd (omega (arith, q.last a below p.on, p.reached))
    | inr same ↦ omega arith
  ]
]

-- a line that begins is not past the last
begun : (text : List ℕ) (line s : ℕ) → BeginsLine text line s
    → lines_before text (length text) < line → (absurdity : ℕ) → ⊥
begun text line s b past _ =
    absurd (omega (arith, lines_before-le text s (length text) b.within, b.lines))

pub IsOffsetOf-unique : (e : Encoding) (text : List ℕ) (p : Position) (a b : ℕ)
    → IsOffsetOf e text p a → IsOffsetOf e text p b → a ≡ b
IsOffsetOf-unique e text p a b (inl past) (inl other) = past.1 ∙ sym other.1
IsOffsetOf-unique e text p a b (inl past) (inr found) =
    absurd (begun text p.line found.0 found.1 past.0 0)
IsOffsetOf-unique e text p a b (inr found) (inl past) =
    absurd (begun text p.line found.0 found.1 past.0 0)
IsOffsetOf-unique e text p a b (inr found) (inr other) =
    let same : found.0 ≡ other.0 = BeginsLine-unique text p.line found.0 other.0 found.1 other.1 in
    IsPlaceOnLine-unique e text other.0 p.character a b
    (subst (λ s. IsPlaceOnLine e text s p.character a) same found.2) other.2

-- a byte that begins a character adds a unit or more
begins-unit : (e : Encoding) (b : ℕ) → (128 ≤ b → 192 ≤ b) → 0 < unit_count e b
begins-unit Utf8 b h = omega arith
begins-unit Utf32 b h = elim (cases_lt b
    128) [ inl low ↦ grind arith | inr high ↦ let top : 192 ≤ b = h high in grind arith ]
begins-unit Utf16 b h = elim (cases_lt b
    128) [ inl low ↦ grind arith | inr high ↦ let top : 192 ≤ b = h high in grind arith ]

-- the next place on the line has more units before it
units-lt : (e : Encoding) (text : List ℕ) (s i j : ℕ) → s ≤ i → i < j → j ≤ length text
    → IsCharBoundary text i → units e (slice_range text s i) < units e (slice_range text s j)
units-lt e text s i j from below within boundary =
    omega (
      arith,
      units-next e text s i from (omega arith),
      units-le e text s (i + 1) j (omega arith) (omega arith) within,
      begins-unit e (get_or text i 0) (boundary.1 (omega arith)),
    )

-- no line ends before its place, unless the place is inside a line's end
no_feed : (text : List ℕ) (s at k : ℕ) → lines_before text s ≡ lines_before text at → s ≤ k → k < at
    → get_or text k 0 ≢ 10
no_feed text s at k same from below feed =
    let ends : ends_line text k ≡ true = grind arith in
    omega (
      arith,
      lines_before-end text k ends,
      lines_before-le text s k from,
      lines_before-le text (k + 1) at (omega arith),
    )

no_return : (text : List ℕ) (s at k : ℕ) → ¬ (IsInLineEnd text at)
    → lines_before text s ≡ lines_before text at → s ≤ k → k < at → get_or text k 0 ≢ 13
no_return text s at k out same from below return = elim (cases_lt (k + 1) at) [
  | inl inside ↦
      let next : get_or text (k + 1) 0 ≢ 10 = no_feed text s at (k + 1) same (omega arith) inside in
      let ends : ends_line text k ≡ true = grind arith in
      omega (
        arith,
        lines_before-end text k ends,
        lines_before-le text s k from,
        lines_before-le text (k + 1) at (omega arith),
      )
  | inr last ↦
      let end : k + 1 ≡ at = omega arith in
      let place : k ≡ at - 1 = omega arith in
      let next : get_or text (k + 1) 0 ≢ 10 = λ feed. out (
        omega arith,
        subst (λ n. get_or text n 0 ≡ 13) place return,
        subst (λ n. get_or text n 0 ≡ 10) end feed,
      ) in
      let ends : ends_line text k ≡ true = grind arith in
      omega (
        arith,
        lines_before-end text k ends,
        lines_before-le text s k from,
        lines_before-le text (k + 1) at (omega arith),
      )
]

-- a place is the byte of its position
pub own_place : (e : Encoding) (text : List ℕ) (at : ℕ) (p : Position) → IsCharBoundary text at
    → ¬ (IsInLineEnd text at) → IsPositionOf e text at p → IsOffsetOf e text p at
own_place e text at p boundary out position = inr (
  position.start,
  position.begins,
  record {
    on = record {
      from = position.before;
      boundary = boundary;
      no_feed = λ k from below.
          no_feed text position.start at k (position.begins.lines ∙ sym position.line) from below;
      no_return = λ k from below. no_return text position.start at k out
          (position.begins.lines ∙ sym position.line) from below;
    };
    reached = omega (arith, position.character);
    last = λ j past on. omega (
      arith,
      position.character,
      units-lt e text position.start at j position.before past on.boundary.0 boundary,
    );
  },
)

pub position-found : (e : Encoding) (text : List ℕ) (at : ℕ) (p : Position) → IsCharBoundary text at
    → ¬ (IsInLineEnd text at) → IsPositionAt e text at p → IsOffsetOf e text p at
position-found e text at p boundary out position =
    let kept = position.0 in
    let same : kept ≡ at = elim (cases_lt kept at) [
      | inl below ↦ absurd (position.1.nearest at below (omega arith) boundary)
      | inr above ↦ omega (arith, position.1.bound)
    ] in
    own_place e text at p boundary out (subst (λ n. IsPositionOf e text n p) same position.2)
