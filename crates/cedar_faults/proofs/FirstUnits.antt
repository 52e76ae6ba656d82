-- The first unit of a text that splits.
use Rattle.std.specs.Prelude.{◌≡◌, ℕ, List, [], ◌∷◌, None, Some}
use Rattle.std.proofs.Common.{refl, ap}
use Rattle.cedar_tokens.specs.Units.{IsUnit, IsFirstUnit, BeginsNoUnit}
use Rattle.cedar_tokens.specs.Split.{SplitsInto}
use Rattle.cedar_tokens.proofs.Prefixes.{longest_unique}
use Rattle.cedar_tokens.proofs.Scanning.{empty_begins_none}
use Rattle.cedar_faults.specs.Expectations.{first_of}

pub none_first : (text : List ℕ) (us : List (List ℕ)) → BeginsNoUnit text → SplitsInto text us
    → None ≡ first_of us
none_first text [] n s = refl
none_first text (u ∷ us) n s = absurd (n u s.0.kind s.0.begins)

pub one_first : (text u : List ℕ) (us : List (List ℕ)) → IsFirstUnit text u → SplitsInto text us
    → Some u ≡ first_of us
one_first text u [] f s = absurd (empty_begins_none u f.kind (rw s at f.begins))
one_first text u (v ∷ us) f s = ap (λ (z : List ℕ). Some z) (longest_unique IsUnit text u v f s.0)
