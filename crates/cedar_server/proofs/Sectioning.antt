-- The section at the start of a text.
use Rattle.std.proofs.Common.{◌≡◌, ◌≢◌, ◌≤◌, ◌+◌, ℕ, false, List, [], ◌∷◌, ◌++◌, length, drop, refl, ap, sym, ◌∙◌, arith, subst}
use Rattle.std.specs.Prelude.{codes}
use Rattle.std.specs.List.{list_any, sum_by}
use Rattle.std.specs.Str.{IsUtf8, IsCharBoundary}
use Rattle.std.proofs.lemmas.Bool.{false_from_ne_true}
use Rattle.std.proofs.lemmas.List.Folds.{list_any-append}
use Rattle.std.proofs.lemmas.List.Sums.{sum_by-append}
use Rattle.std.proofs.lemmas.Slice.Eq.{bytes_eq-Decides}
use Rattle.std.proofs.lemmas.Str.{IsCharBoundary-from_drop}
use Rattle.cedar_grammar.specs.declared.error.FormatError.{FormatError}
use Rattle.cedar_grammar.specs.declared.error.FormatError.TheVariants.{UnknownCharacter, UnfinishedString, NumberTooLarge, Grammar, TooDeep, NoDocument, Unsound, OutOfMemory}
use Rattle.cedar_grammar.specs.Refusals.{OutOfMemoryOr, Refuses}
use Rattle.cedar_server.specs.Parts.{IsPart, Reads}
use Rattle.cedar_server.specs.Sections.{is_semicolon, IsSection, HasNoSection}
use Rattle.cedar_server.proofs.Reading.{reads_more, reads_left, reads_utf8}

-- the parts so far end at the byte `end`, and none is a `;`
pub record SectionSoFar (text rest : List ℕ) (end : ℕ) : Type 0 where
  pub parts : List (List ℕ)
  pub reads : Reads parts text rest
  pub place : end ≡ sum_by length parts
  pub none : list_any is_semicolon parts ≡ false

pub none_so_far : (text : List ℕ) → SectionSoFar text text 0
none_so_far text = record { parts = []; reads = refl; place = refl; none = refl }

module _ (text rest u new : List ℕ) (end : ℕ) (s : SectionSoFar text rest end) (p : IsPart rest u)
    (e : rest ≡ u ++ new) where
  reads_on : Reads (s.parts ++ u ∷ []) text new
  reads_on = reads_more s.parts text rest u new s.reads p e

  place_now : end + length u ≡ sum_by length (s.parts ++ u ∷ [])
  place_now = omega (arith, s.place, sum_by-append length s.parts (u ∷ []))

  left_now : new ≡ drop (end + length u) text
  left_now = reads_left (s.parts ++ u ∷ []) text new reads_on ∙ ap (λ n. drop n text) (sym place_now)

  pub goes_on : u ≢ codes ";" → SectionSoFar text new (end + length u)
  goes_on h = record {
    parts = s.parts ++ u ∷ [];
    reads = reads_on;
    place = place_now;
    none = rw (
      list_any-append is_semicolon s.parts (u ∷ []),
      s.none,
      false_from_ne_true (is_semicolon u)
          (λ t. h (sym ((bytes_eq-Decides (codes ";") u).0 t))),
    ) refl;
  }

  pub ends_here : u ≡ codes ";" → IsSection text (end + length u)
  ends_here h = record {
    before = s.parts;
    reads = subst (λ z. Reads (s.parts ++ z ∷ []) text (drop (end + length u) text)) h
        (subst (Reads (s.parts ++ u ∷ []) text) left_now reads_on);
    place = subst (λ z. end + length u ≡ sum_by length (s.parts ++ z ∷ [])) h place_now;
    first = s.none;
  }

  pub boundary_here : IsUtf8 text → end + length u ≤ length text → IsCharBoundary text (end + length u)
  boundary_here utf8 l = IsCharBoundary-from_drop text (end + length u) l
      (subst IsUtf8 left_now (reads_utf8 (s.parts ++ u ∷ []) text new utf8 reads_on))

pub no_section : (text rest : List ℕ) (end : ℕ) → rest ≡ [] → SectionSoFar text rest end → HasNoSection text
no_section text rest end e s = record { parts = s.parts; are = subst (Reads s.parts text) e s.reads; none = s.none }

-- a refusal that isn't about memory
pub refused : (text : List ℕ) (e : FormatError) → OutOfMemoryOr (Refuses text) e → e ≢ OutOfMemory → Refuses text e
refused text (UnknownCharacter at) h n = h
refused text (UnfinishedString at) h n = h
refused text (NumberTooLarge at) h n = h
refused text (Grammar at) h n = h
refused text (TooDeep at) h n = h
refused text NoDocument h n = h
refused text Unsound h n = h
refused text OutOfMemory h n = absurd (n refl)
