-- What numbers of files say.
use Rattle.std.proofs.Common.{◌≡◌, ℕ, ◌+◌, ◌<◌, List, [], ◌∷◌, Bool, true, false, refl, arith, length, count_by, cond, not, zero-add, ap, ◌∙◌}
use Rattle.std.proofs.lemmas.List.Sums.{sum_by-append}
use Rattle.std.specs.Prelude.{◌↔◌}
use Rattle.cedar_program.specs.declared.folder.folder.Outcome.{Outcome}
use Rattle.cedar_program.specs.declared.folder.folder.Outcome.TheVariants.{Formatted, Empty, Unformatted, Replaced, NotUtf8, Refused, Unread, Unwritten, LeftBeside}
use Rattle.cedar_files.specs.Counts.{is_changed, is_failed, is_memory, is_refused, is_same, limited}

-- a number that isn't 0 says that there is one
pub some_counted : (n m : ℕ) → m ≡ limited n → (0 < m) ↔ (0 < n)
some_counted n m e = (λ h. omega (arith, e, h), λ h. omega (arith, e, h))

-- each file is counted once
one_of_four : (o : Outcome) → cond (is_changed o) 1 0 + cond (is_same o) 1 0 + cond (is_refused o) 1 0 + cond (is_failed o) 1 0 ≡ 1
one_of_four Formatted = refl
one_of_four Empty = refl
one_of_four (Unformatted b s) = refl
one_of_four Replaced = refl
one_of_four NotUtf8 = refl
one_of_four (Refused e b) = by_memory (is_memory e)
  where
    by_memory : (m : Bool) → 0 + 0 + cond (not m) 1 0 + cond m 1 0 ≡ 1
    by_memory true = refl
    by_memory false = refl
one_of_four (Unread e) = refl
one_of_four (Unwritten e) = refl
one_of_four (LeftBeside e n) = refl

counted_more : (test : Outcome → Bool) (o : Outcome) (os : List Outcome)
    → count_by test (o ∷ os) ≡ cond (test o) 1 0 + count_by test os
counted_more test o os = sum_by-append (λ x. cond (test x) 1 0) (o ∷ []) os
    ∙ ap (λ n. n + count_by test os) (zero-add (cond (test o) 1 0))

pub all_counted : (os : List Outcome)
    → count_by is_changed os + count_by is_same os + count_by is_refused os + count_by is_failed os ≡ length os
all_counted [] = refl
all_counted (o ∷ os) = omega (
  arith,
  all_counted os,
  one_of_four o,
  counted_more is_changed o os,
  counted_more is_same o os,
  counted_more is_refused o os,
  counted_more is_failed o os,
)
