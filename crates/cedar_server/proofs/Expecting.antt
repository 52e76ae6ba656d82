-- What is expected at a place, fault by fault.
use Rattle.std.proofs.Common.{◌≡◌, ◌+◌, ◌<◌, ◌≤◌, ◌++◌, ℕ, true, false, nat_eq, List, [], ◌∷◌, length, drop, get_or, codes, refl, ap, sym, subst, ◌∙◌, arith, eq-eqb}
use Rattle.std.specs.List.{filter}
use Rattle.std.proofs.lemmas.Bool.Decides.{nat_tests}
use Rattle.std.proofs.lemmas.List.{at_drop_more, at_drop_all}
use Rattle.cedar_tokens.specs.declared.kind.Kind.{Kind}
use Rattle.cedar_faults.specs.declared.fault.Fault.{Fault}
use Rattle.cedar_faults.specs.Faults.{AreFirstFaults}
use Rattle.cedar_server.specs.Diagnoses.{most}
use Rattle.cedar_server.specs.Completions.{CouldCome, expected_at, has_one_text, is_open}

-- at the fault with this index
here : (n : ℕ) (fs : List Fault) (i : ℕ) (f : Fault) → i < length fs → f ≡ get_or fs i f
    → expected_at n (drop i fs) ≡ expected_at n (f ∷ drop (i + 1) fs)
here n fs i f within is =
    at_drop_more (expected_at n) fs i f within ∙ ap (λ g. expected_at n (g ∷ drop (i + 1) fs)) (sym is)

apart : (a b : ℕ) → (a ≡ b → ⊥) → nat_eq a b ≡ false
apart a b other = grind (arith, nat_tests)

-- a fault elsewhere
pub elsewhere : (n : ℕ) (fs : List Fault) (i : ℕ) (f : Fault) → i < length fs → f ≡ get_or fs i f
    → is_open f.error ≡ false → (f.expected.at ≡ n → ⊥)
    → expected_at n (drop i fs) ≡ expected_at n (drop (i + 1) fs)
elsewhere n fs i f within is closed other =
    let test : nat_eq f.expected.at n ≡ false = apart f.expected.at n other in
    here n fs i f within is ∙ rw (closed, test) refl

-- the fault at the place
pub found : (n : ℕ) (fs : List Fault) (i : ℕ) (f : Fault) → i < length fs → f ≡ get_or fs i f
    → is_open f.error ≡ false → f.expected.at ≡ n
    → expected_at n (drop i fs) ≡ filter has_one_text f.expected.kinds.items.items
found n fs i f within is closed same =
    let test : nat_eq f.expected.at n ≡ true = eq-eqb f.expected.at n same in
    here n fs i f within is ∙ rw (closed, test) refl

-- a string that isn't finished
pub opened : (n : ℕ) (fs : List Fault) (i : ℕ) (f : Fault) → i < length fs → f ≡ get_or fs i f
    → is_open f.error ≡ true → expected_at n (drop i fs) ≡ []
opened n fs i f within is open_ = here n fs i f within is ∙ rw open_ refl

-- after the last fault
pub ended : (n : ℕ) (fs : List Fault) (i : ℕ) → length fs ≤ i → expected_at n (drop i fs) ≡ []
ended n fs i past = at_drop_all (expected_at n) fs i past

-- what could come after a text, by the faults of the text with the character
pub could_come : (before text : List ℕ) (fs : List Fault) (kinds : List Kind) → text ≡ before ++ codes "#"
    → AreFirstFaults text most fs → kinds ≡ expected_at (length before) fs → CouldCome before kinds
could_come before text fs kinds is are same = (fs, subst (λ t. AreFirstFaults t most fs) is are, same)
