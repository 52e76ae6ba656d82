-- A search goes on at characters of the text.
use Rattle.std.specs.Prelude.{◌≡◌, ◌≤◌, ◌<◌, ◌+◌, ◌⊎◌, ℕ, false, List, [], ◌∷◌, ◌++◌, length, drop, codes}
use Rattle.std.specs.List.{list_any, sum_by}
use Rattle.std.specs.Str.{IsUtf8, IsCharBoundary}
use Rattle.std.proofs.Common.{refl, sym, ap, arith, subst, inl, inr, append-nil}
use Rattle.std.proofs.lemmas.List.{drop-drop, length-drop}
use Rattle.std.proofs.lemmas.List.Sums.{sum_by-append, sum_by-cons}
use Rattle.std.proofs.lemmas.Str.{IsUtf8-drop, IsCharBoundary-from_drop}
use Rattle.cedar_grammar.specs.declared.error.FormatError.{FormatError}
use Rattle.cedar_reading.specs.Pieces.{is_semicolon}
use Rattle.cedar_reading.proofs.Accepted.{accepted_empty}
use Rattle.cedar_faults.specs.Faults.{AreFaults, AreFaultsFrom, IsFault, SearchFinds}
use Rattle.cedar_faults.specs.Faults.SearchFinds.{nothing, policy, fault}
use Rattle.cedar_faults.specs.FirstFaults.{IsFirstOf}
use Rattle.cedar_faults.specs.Inside.Searches.{IsInside}
use Rattle.cedar_faults.specs.Recovery.{Passes, Resumes}
use Rattle.cedar_faults.specs.declared.fault.Fault.{Fault}
use Rattle.cedar_faults.proofs.Passing.{passed_boundary, passed_inside}
use Rattle.cedar_faults.proofs.Furthest.{no_first}

pub rest_is : (text : List ℕ) (from : ℕ) (rest : List ℕ) → rest ≡ drop from text → rest ≡ drop from text
rest_is text from rest e = e

-- a character boundary of the rest is one of the text
pub inside_more : (text : List ℕ) (from n : ℕ) → IsUtf8 (drop from text) → IsInside text from
    → IsCharBoundary (drop from text) n → IsInside text (from + n)
inside_more text from n rest i b =
    let l : from + n ≤ length text = omega (arith, i.inside, b.0, length-drop from text) in
    record {
      inside = l;
      boundary = IsCharBoundary-from_drop text (from + n) l (subst (λ z. IsUtf8 z)
          (drop-drop n from text) (IsUtf8-drop (drop from text) n rest b));
      size = i.size;
    }

-- what is passed over ends at a character
passes_utf8 : (us : List (List ℕ)) (text rest : List ℕ) → Passes us text rest → IsUtf8 text
    → IsUtf8 rest
passes_utf8 [] text rest e k = subst (λ z. IsUtf8 z) (sym e) k
passes_utf8 (u ∷ us) text rest (p, more) k = passes_utf8 us (drop (length u) text) rest more
    (IsUtf8-drop text (length u) k (passed_boundary text u k p))

passes_length : (us : List (List ℕ)) (text rest : List ℕ) → Passes us text rest
    → sum_by length us ≤ length text
passes_length [] text rest e = omega arith
passes_length (u ∷ us) text rest (p, more) =
    let l = passes_length us (drop (length u) text) rest more in
    omega (arith, l, length-drop (length u) text, passed_inside text u p, sum_by-cons length u us)

pub resumes_inside : (text : List ℕ) (at to : ℕ) → at ≤ length text → Resumes text at to
    → to ≤ length text
resumes_inside text at to l r =
    omega (
      arith,
      l,
      r.place,
      passes_length r.passed (drop at text) (drop to text) r.passes,
      length-drop at text,
    )

pub resumes_boundary : (text : List ℕ) (at to : ℕ) → IsUtf8 text → IsCharBoundary text at
    → Resumes text at to → IsCharBoundary text to
resumes_boundary text at to k b r =
    IsCharBoundary-from_drop text to (resumes_inside text at to b.0 r)
    (passes_utf8 r.passed (drop at text) (drop to text) r.passes (IsUtf8-drop text at k b))

-- a text with a fault has bytes
nonempty : (text : List ℕ) (e : FormatError) → IsFirstOf text e → 0 < length text
nonempty [] e f = absurd (no_first [] (accepted_empty [] [] refl refl refl) e f)
nonempty (b ∷ text) e f = omega arith

-- reading continues further on
pub resumes_further : (text : List ℕ) (f : Fault) (to : ℕ) → IsFault text f
    → Resumes text f.expected.at to → 0 < to
resumes_further text f to h r = go r.stops
  where
    go : ((front : List (List ℕ)) × (r.passed ≡ front ++ codes ";" ∷ [])
        × (list_any is_semicolon front ≡ false)) ⊎ ((to ≡ length text)
        × (list_any is_semicolon r.passed ≡ false)) → 0 < to
    go (inl (front, e, n)) = omega
        (arith, r.place, ap (sum_by length) e, sum_by-append length front (codes ";" ∷ []))
    go (inr (e, n)) = omega (arith, e, nonempty text f.error h.first)

-- one search after the other
pub finds_on : (text : List ℕ) (from at to : ℕ) (fs gs : List Fault) → SearchFinds text from fs at
    → SearchFinds text at gs to → SearchFinds text from (fs ++ gs) to
finds_on text from at to fs gs (nothing a) h = h
finds_on text from at to fs gs (policy a n b hs p more) h =
    policy a n to (hs ++ gs) p (finds_on text (a + n) at to hs gs more h)
finds_on text from at to fs gs (fault a n b f hs i r more) h =
    fault a n to f (hs ++ gs) i r (finds_on text (a + n) at to hs gs more h)

-- a search that comes to an end has found all faults
pub all_found : (text : List ℕ) (at : ℕ) (fs : List Fault) → SearchFinds text 0 fs at
    → AreFaultsFrom text at [] → AreFaults text fs
all_found text at fs s (to, f, a) =
    (to, subst (λ z. SearchFinds text 0 z to) (append-nil fs) (finds_on text 0 at to fs [] s f), a)
