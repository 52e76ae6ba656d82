-- What a policy may begin with, and how tokens leave it. Neither comments nor the indentation make a difference to that, so there
-- are no comments here, and the indentation is 0.
use Rattle.std.specs.Prelude.{◌↔◌, ℕ, pos, Bool, IsTrue, List, [], ◌∷◌, ◌++◌, map}
use Rattle.cedar_written.specs.Texts.{without_comments}
use Rattle.cedar_print.specs.WrittenMarks.{Mark}
use Rattle.cedar_writer.specs.Languages.{Policy}

-- tokens with these texts are a policy, by the rules
abbrev pub IsPolicy : ℕ → List (List ℕ) → Type 0
IsPolicy n ts = (ms : List Mark) × Policy (pos 0) n (map without_comments ts) ms

-- some policy begins with them
abbrev pub BeginsPolicy : ℕ → List (List ℕ) → Type 0
BeginsPolicy n front = (rest : List (List ℕ)) × IsPolicy n (front ++ rest)

-- How tokens leave a policy after those in front: none follow, and those aren't a policy; or no policy begins with them and the
-- next one. `deep` says whether only the depth is to blame.
abbrev pub LeavesPolicy : ℕ → List (List ℕ) → List (List ℕ) → Bool → Type 0
LeavesPolicy n front [] deep = ¬ (IsPolicy n front)
LeavesPolicy n front (t ∷ ts) deep = ¬ (BeginsPolicy n (front ++ (t ∷ [])))
    × (IsTrue deep ↔ ((e : ℕ) × BeginsPolicy e (front ++ (t ∷ []))))
