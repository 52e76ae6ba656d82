-- What is passed over after a fault.
use Rattle.std.specs.Prelude.{◌≡◌, ◌≢◌, ◌+◌, ◌<◌, ◌≤◌, ◌-◌, ℕ, false, List, [], ◌∷◌, ◌++◌, length, take, drop, slice_range, codes}
use Rattle.std.specs.List.{list_any, sum_by}
use Rattle.std.specs.Str.{IsUtf8, IsCharBoundary}
use Rattle.std.proofs.Common.{refl, ap, ◌∙◌, arith, subst, inl, inr}
use Rattle.std.proofs.lemmas.List.{drop-drop, length-drop, length-take}
use Rattle.std.proofs.lemmas.Str.{IsUtf8-drop, IsCharBoundary-from_drop}
use Rattle.std.proofs.lemmas.List.Sums.{sum_by-append}
use Rattle.std.proofs.lemmas.List.Folds.{list_any-append}
use Rattle.cedar_reading.specs.Pieces.{is_semicolon}
use Rattle.cedar_reading.proofs.Semicolons.{differs}
use Rattle.cedar_tokens.proofs.FirstUnit.{unit_nonempty, unit_boundary}
use Rattle.cedar_tokens.proofs.Prefixes.{begins_fits}
use Rattle.cedar_faults.specs.Recovery.{IsPassed, Passes, Resumes}

-- passed over so far, from the byte `at` to the byte `end`; no `;` is among them
pub record SoFar (text : List ℕ) (at end : ℕ) : Type 0 where
  pub passed : List (List ℕ)
  pub passes : Passes passed (drop at text) (drop end text)
  pub place : end ≡ at + sum_by length passed
  pub none : list_any is_semicolon passed ≡ false
  pub inside : end ≤ length text
  pub boundary : IsCharBoundary text end

passes_more : (us : List (List ℕ)) (u text rest : List ℕ) → Passes us text rest → IsPassed rest u
    → Passes (us ++ u ∷ []) text (drop (length u) rest)
passes_more [] u text rest e p = (subst (λ z. IsPassed z u) e p, ap (drop (length u)) e)
passes_more (v ∷ us) u text rest (h, more) p =
    (h, passes_more us u (drop (length v) text) rest more p)

-- one more
pub more : (text u rest : List ℕ) (at end : ℕ) → (s : SoFar text at end) → rest ≡ drop end text
    → IsPassed rest u
    → Passes (s.passed ++ u ∷ []) (drop at text) (drop (end + length u) text)
more text u rest at end s e p = subst (λ z. Passes (s.passed ++ u ∷ []) (drop at text) z)
    (drop-drop (length u) end text)
    (passes_more s.passed u (drop at text) (drop end text) s.passes (subst (λ z. IsPassed z u) e p))

-- what is passed over is whole characters, one or more
pub passed_nonempty : (rest u : List ℕ) → IsPassed rest u → 0 < length u
passed_nonempty rest u (inl (f, n)) = unit_nonempty u f.kind
passed_nonempty rest u (inr (f, c, e)) = c.after

pub passed_boundary : (rest u : List ℕ) → IsUtf8 rest → IsPassed rest u
    → IsCharBoundary rest (length u)
passed_boundary rest u k (inl (f, n)) = unit_boundary rest u k f
passed_boundary rest u k (inr (f, c, e)) = c.boundary

pub passed_inside : (rest u : List ℕ) → IsPassed rest u → length u ≤ length rest
passed_inside rest u (inl (f, n)) = begins_fits rest u f.begins
passed_inside rest u (inr (f, c, e)) =
    omega (arith, ap length e, length-take (length u) rest)

pub so_far_from : (text : List ℕ) (at : ℕ) → IsCharBoundary text at → at ≤ length text
    → SoFar text at at
so_far_from text at b l = record {
  passed = [];
  passes = refl;
  place = omega arith;
  none = refl;
  inside = l;
  boundary = b;
}

module _ (text u rest : List ℕ) (at end : ℕ) (s : SoFar text at end) (e : rest ≡ drop end text)
    (p : IsPassed rest u) (k : IsUtf8 rest) where
  place_now : end + length u ≡ at + sum_by length (s.passed ++ u ∷ [])
  place_now = omega (arith, s.place, sum_by-append length s.passed (u ∷ []))

  inside_now : end + length u ≤ length text
  inside_now = omega (arith, s.inside, passed_inside rest u p, ap length e, length-drop end text)

  pub further : length text - (end + length u) < length text - end
  further = omega (arith, inside_now, passed_nonempty rest u p)

  boundary_now : IsCharBoundary text (end + length u)
  boundary_now = IsCharBoundary-from_drop text (end + length u) inside_now
      (subst (λ z. IsUtf8 z) (ap (drop (length u)) e ∙ drop-drop (length u) end text)
      (IsUtf8-drop rest (length u) k (passed_boundary rest u k p)))

  pub stops_here : u ≡ codes ";" → Resumes text at (end + length u)
  stops_here h = record {
    passed = s.passed ++ u ∷ [];
    passes = more text u rest at end s e p;
    place = place_now;
    stops = inl (s.passed, ap (λ z. s.passed ++ z ∷ []) h, s.none);
  }

  pub goes_on : u ≢ codes ";" → SoFar text at (end + length u)
  goes_on h = record {
    passed = s.passed ++ u ∷ [];
    passes = more text u rest at end s e p;
    place = place_now;
    none = rw (list_any-append is_semicolon s.passed (u ∷ []), s.none, differs u (codes ";") h) refl;
    inside = inside_now;
    boundary = boundary_now;
  }

pub stops_at_end : (text : List ℕ) (at end : ℕ) → SoFar text at end → length text ≤ end
    → Resumes text at end
stops_at_end text at end s l = record {
  passed = s.passed;
  passes = s.passes;
  place = s.place;
  stops = inr (omega (arith, s.inside, l), s.none);
}

pub from_start : (text : List ℕ) (n : ℕ) → slice_range text 0 n ≡ take n text
from_start text n = let e : n - 0 ≡ n = omega arith in ap (λ k. take k text) e

pub nonempty : (text : List ℕ) → text ≢ [] → 1 ≤ length text
nonempty [] h = absurd (h refl)
nonempty (b ∷ text) h = omega arith
