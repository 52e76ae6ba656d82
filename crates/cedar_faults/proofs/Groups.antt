-- The name of a kind among the groups.
use Rattle.std.specs.Prelude.{◌≡◌, ◌<◌, ℕ, suc, List, [], ◌∷◌, ◌++◌, IsTrue, All, Contains, length, take, drop}
use Rattle.std.proofs.Common.{get_or, refl, sym, ap, ◌∙◌, subst, append_assoc, drop-cons}
use Rattle.std.proofs.lemmas.List.{take-append-drop}
use Rattle.cedar_tokens.specs.declared.kind.Kind.{Kind}
use Rattle.cedar_reading.proofs.Steps.{kind_is, is_itself}
use Rattle.cedar_faults.specs.declared.kinds.Name.{Name}
use Rattle.cedar_faults.specs.declared.kinds.Name.TheVariants.{Token}
use Rattle.cedar_faults.specs.Naming.{names, groups, AreIn, IsNameOf}

-- the group does not name the kind, or names others that are not in the list
abbrev pub Unfit : List Kind → Kind → Name → Type 0
Unfit kinds kind group = IsTrue (names group kind) → ¬ (AreIn kinds group)

parted : (xs ys : List Name) (i : ℕ) (d : Name) → i < length xs
    → take i xs ++ get_or xs i d ∷ (drop (suc i) xs ++ ys) ≡ xs ++ ys
parted xs ys i d l = ap (λ z. take i xs ++ (z ++ ys)) (sym (drop-cons xs i d l))
    ∙ (sym (append_assoc (take i xs) (drop i xs) ys) ∙ ap (λ z. z ++ ys) (take-append-drop i xs))

-- the first group that fits
pub group_name : (kinds : List Kind) (kind : Kind) (all : List Name) (i : ℕ) (d : Name)
    → all ≡ groups → i < length all → All (Unfit kinds kind) (take i all)
    → IsTrue (names (get_or all i d) kind) → AreIn kinds (get_or all i d)
    → IsNameOf kinds kind (get_or all i d)
group_name kinds kind all i d e l first named within = record {
  named = named;
  within = within;
  before = take i all;
  after = drop (suc i) all ++ Token kind ∷ [];
  place = parted all (Token kind ∷ []) i d l ∙ ap (λ z. z ++ Token kind ∷ []) e;
  first = first;
}

-- a kind that no group fits is named alone
pub own_name : (kinds : List Kind) (kind : Kind) → Contains kinds kind
    → All (Unfit kinds kind) groups → IsNameOf kinds kind (Token kind)
own_name kinds kind c first = record {
  named = is_itself kind kind refl;
  within = λ k n. subst (Contains kinds) (kind_is kind k n) c;
  before = groups;
  after = [];
  place = refl;
  first = first;
}
