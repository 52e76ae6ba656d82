-- What is still to be read of policies after some of their tokens.
use Rattle.std.specs.Prelude.{◌≡◌, ◌≢◌, ℕ, Bool, true, false, List, [], ◌∷◌, ◌++◌, map, reverse}
use Rattle.cedar_tokens.specs.declared.kind.Kind.{Kind}
use Rattle.cedar_faults.specs.declared.part.Part.{Part}
use Rattle.cedar_faults.specs.declared.part.Part.TheVariants as P
use Rattle.cedar_faults.specs.declared.pending.Ahead.{Ahead}
use Rattle.cedar_faults.specs.declared.pending.Pending.{Pending}
use Rattle.cedar_faults.specs.Inside.Reaching.{Reach, past, left, reads_parts}

abbrev pub with_levels : ℕ → Part → Part × ℕ
with_levels n p = (p, n)

abbrev pub pair : Ahead → Part × ℕ
pair a = (a.part, a.levels)

-- what is still to be read, the next part first
abbrev pub parts_of : Pending → List (Part × ℕ)
parts_of p = reverse (map pair p.parts.items)

-- all of the policies of a text
abbrev pub all_pending : List (Part × ℕ)
all_pending = (P.Policies, 129) ∷ []

-- a token of this kind can come, and those after it are read on by what is left; or it can't come, whatever is after it
abbrev pub ReadsOn : Pending → Kind → Pending → Bool → Type 0
ReadsOn old k new true = (ts : List Kind) → reads_parts (parts_of old) (k ∷ ts) ≡ reads_parts (parts_of new) ts
ReadsOn old k new false = (ts : List Kind) → left (reads_parts (parts_of old) (k ∷ ts)) ≡ k ∷ ts

-- nothing more has to come
abbrev pub CanEnd : Pending → Type 0
CanEnd p = reads_parts (parts_of p) [] ≡ past []

-- the tokens so far can come, and those after them are read on by what is left
abbrev pub IsAfter : List Kind → Pending → Type 0
IsAfter front p = (ts : List Kind) → reads_parts all_pending (front ++ ts) ≡ reads_parts (parts_of p) ts

-- one of the tokens can't come, whatever is after them
abbrev pub NeverRead : List Kind → Type 0
NeverRead front = (ts : List Kind) → left (reads_parts all_pending (front ++ ts)) ≢ []

-- the kind can come next, or it can't
abbrev pub CanRead : Pending → Kind → Bool → Type 0
CanRead p k true = left (reads_parts (parts_of p) (k ∷ [])) ≡ []
CanRead p k false = left (reads_parts (parts_of p) (k ∷ [])) ≡ k ∷ []
