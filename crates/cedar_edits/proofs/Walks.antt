-- A walk along a line, to the last place with at most so many units before it.
use Rattle.std.proofs.Common.{◌≡◌, ◌≢◌, ℕ, ◌+◌, ◌<◌, ◌≤◌, List, get_or, sym, subst, inl, inr, arith}
use Rattle.std.specs.Prelude.{slice_range}
use Rattle.std.specs.Str.{IsCharBoundary}
use Rattle.std.proofs.lemmas.Bool.{cases_lt}
use Rattle.cedar_edits.specs.declared.positions.Encoding.{Encoding}
use Rattle.cedar_edits.specs.Positions.{IsOnLine, units}

-- the line continues to i, and this is the last place before i
pub record Walked (e : Encoding) (text : List ℕ) (s character i last : ℕ) : Type 0 where
  pub from : s ≤ i
  pub no_feed : (k : ℕ) → s ≤ k → k < i → get_or text k 0 ≢ 10
  pub no_return : (k : ℕ) → s ≤ k → k < i → get_or text k 0 ≢ 13
  pub on : IsOnLine text s last
  pub before : last ≤ i
  pub reached : units e (slice_range text s last) ≤ character
  pub passed : (j : ℕ) → last < j → j < i → IsOnLine text s j
      → character < units e (slice_range text s j)

-- the last place through i
pub record IsPlaceUpTo (e : Encoding) (text : List ℕ) (s character i last : ℕ) : Type 0 where
  pub on : IsOnLine text s last
  pub before : last ≤ i
  pub reached : units e (slice_range text s last) ≤ character
  pub passed : (j : ℕ) → last < j → j ≤ i → IsOnLine text s j
      → character < units e (slice_range text s j)

-- the place reached by the walk is one of the line, if a character begins there
on_line : (e : Encoding) (text : List ℕ) (s character i last : ℕ) → Walked e text s character i last
    → IsCharBoundary text i → IsOnLine text s i
on_line e text s character i last w boundary =
    record { from = w.from; boundary = boundary; no_feed = w.no_feed; no_return = w.no_return }

-- it is the last place so far
pub Walked-moved : (e : Encoding) (text : List ℕ) (s character i last : ℕ)
    → Walked e text s character i last → IsCharBoundary text i
    → units e (slice_range text s i) ≤ character → IsPlaceUpTo e text s character i i
Walked-moved e text s character i last w boundary reached = record {
  on = on_line e text s character i last w boundary;
  before = omega arith;
  reached = reached;
  passed = λ j above upto _. absurd (omega arith);
}

-- the last place stays
pub Walked-kept : (e : Encoding) (text : List ℕ) (s character i last : ℕ)
    → Walked e text s character i last
    → (IsCharBoundary text i → character < units e (slice_range text s i))
    → IsPlaceUpTo e text s character i last
Walked-kept e text s character i last w above = record {
  on = w.on;
  before = w.before;
  reached = w.reached;
  passed = λ j past upto on. elim (cases_lt j i) [
    | inl below ↦ w.passed j past below on
    | inr rest ↦ let same : j ≡ i = omega arith in
        subst (λ n. character < units e (slice_range text s n)) (sym same)
        (above (subst (IsCharBoundary text) same on.boundary))
  ];
}

-- where the line continues
pub Walked-next : (e : Encoding) (text : List ℕ) (s character i last next : ℕ)
    → Walked e text s character i last → IsPlaceUpTo e text s character i next
    → get_or text i 0 ≢ 10 → get_or text i 0 ≢ 13 → Walked e text s character (i + 1) next
Walked-next e text s character i last next w p feed return = record {
  from = omega (arith, w.from);
  no_feed = λ k above upto. elim (cases_lt k i) [
    | inl below ↦ w.no_feed k above below
    | inr rest ↦ let same : k ≡ i = omega arith in subst (λ n. get_or text n 0 ≢ 10) (sym same) feed
  ];
  no_return = λ k above upto. elim (cases_lt k i) [
    | inl below ↦ w.no_return k above below
    | inr rest ↦ let same : k ≡ i = omega arith in
        subst (λ n. get_or text n 0 ≢ 13) (sym same) return
  ];
  on = p.on;
  before = omega (arith, p.before);
  reached = p.reached;
  passed = λ j past upto on. p.passed j past (omega arith) on;
}
