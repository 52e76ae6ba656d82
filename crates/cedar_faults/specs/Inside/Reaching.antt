-- How far parts are read.
use Rattle.std.specs.Prelude.{ℕ, ◌-◌, zero, suc, Bool, true, false, List, [], ◌∷◌}
use Rattle.cedar_tokens.specs.declared.kind.Kind.{Kind}
use Rattle.cedar_grammar.specs.Reader.Reading.{Answer, Reader, done, stuck, too_deep}
use Rattle.cedar_grammar.specs.Reader.Lines.{expr_to}
use Rattle.cedar_grammar.specs.Reader.Rules.{Rule, read}
use Rattle.cedar_faults.specs.declared.part.Part.{Part}
use Rattle.cedar_faults.specs.declared.part.Part.TheVariants as P
use Rattle.cedar_faults.specs.Inside.PartRules.{rule_of}

-- how far a reader comes, with the tokens that are left: past what it reads, or to one that it can't read
pub data Reach : Type 0 where
  past stops_at : List Kind → Reach

abbrev pub reach : Answer Kind → Reach
reach (done f ts) = past ts
reach (stuck b ts) = stops_at ts

-- and how far one after it
abbrev pub on : Reach → (List Kind → Reach) → Reach
on (past ts) next = next ts
on (stops_at ts) next = stops_at ts

-- whether brackets and ifs may nest, with so many levels left
abbrev pub room : ℕ → Bool
room zero = false
room (suc d) = true

-- what reads an expression inside
abbrev pub inside : ℕ → Reader Kind
inside zero = too_deep
inside (suc d) = expr_to (λ k. k) d

-- how far a rule is read
abbrev pub reads : ℕ → Rule → List Kind → Reach
reads n r ts = reach (read (λ k. k) (room n) (inside n) r ts)

-- how far parts are read, each with so many levels left
abbrev pub reads_parts : List (Part × ℕ) → List Kind → Reach
reads_parts [] ts = past ts
reads_parts ((p, n) ∷ more) ts = on (reads n (rule_of p) ts) (reads_parts more)

-- how many levels are left in what a part is made of
abbrev pub levels_in : Part → ℕ → ℕ
levels_in P.Inner n = n - 1
levels_in p n = n

-- the tokens that are left
abbrev pub left : Reach → List Kind
left (past ts) = ts
left (stops_at ts) = ts
