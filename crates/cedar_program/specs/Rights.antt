-- Which access a new file has.
use Rattle.std.specs.Prelude.{◌≡◌, ◌≢◌, ◌⊎◌, ◌∷◌, [], ℕ, ◌/◌, ◌%◌, List, Bool, false, bit_and, bit_or}
use Rattle.cedar_program.specs.declared.folder.folder.Access.{Access}

-- each permission of the one is one of the other
abbrev pub IsWithin : ℕ → ℕ → Type 0
IsWithin m n = bit_and m n ≡ m

-- the permissions of the owner, of the group and of the others in a mode, each as a number below 8
abbrev pub owner_of : ℕ → ℕ
owner_of m = m / 64 % 8

abbrev pub group_of : ℕ → ℕ
group_of m = m / 8 % 8

abbrev pub others_of : ℕ → ℕ
others_of m = m % 8

-- n is a mode for a file that takes the place of one with mode m: if its group may be another, the group has nothing that the
-- others didn't have, and the others nothing that the group didn't have; if its owner may be another, neither of them has
-- anything that the owner didn't have, and the owner has only what one of them had
pub record IsNarrowed (m : ℕ) (keeps_owner keeps_group : Bool) (n : ℕ) : Type 0 where
  pub group : keeps_group ≡ false → IsWithin (group_of n) (others_of m) × IsWithin (others_of n) (group_of m)
  pub owner : keeps_owner ≡ false → IsWithin (group_of n) (owner_of m) × IsWithin (others_of n) (owner_of m) × IsWithin (owner_of n) (bit_or (group_of m) (others_of m))

-- what a file that is made with the access a has: just that; or another owner or group, and no other permission
abbrev pub Given : Access → Access → Type 0
Given a b = (b ≡ a) ⊎ (((b.owner ≢ a.owner) ⊎ (b.group ≢ a.group)) × IsWithin b.mode a.mode)

-- it was given by way of these, one after the other
abbrev pub GivenBy : List Access → Access → Access → Type 0
GivenBy [] a b = Given a b
GivenBy (c ∷ cs) a b = Given a c × GivenBy cs c b

-- the access of a file whose file was replaced, once or again and again
abbrev pub Inherits : Access → Access → Type 0
Inherits a b = (by : List Access) × GivenBy by a b
