-- Rows of trees that differ:
-- a test that computes, by the leaves and by the labels that stand for each other.
use Rattle.std.specs.Prelude.{◌≡◌, ℕ, Bool, true, false, ◌&&◌, nat_eq}
use Rattle.std.proofs.Common.{refl, sym, ap, ◌∙◌}
use Rattle.std.proofs.lemmas.Bool.{and_from, both_ways}
use Rattle.std.proofs.lemmas.Bool.Decides.{Decides-eqb}
use Rattle.cedar_grammar.specs.Trees.{Label, Forest, none, leaf, branch, join}
use Rattle.cedar_grammar.specs.Trees as L

abbrev pub number_of : Label → ℕ
number_of L.ident = 1
number_of L.str = 2
number_of L.annotation = 3
number_of L.has_or_like = 1
number_of L.is_type = 2
number_of L.bang = 1
number_of L.dash = 2
number_of L.ref = 1
number_of L.name = 2
number_of L.slot = 3
number_of L.parens = 4
number_of L.list = 5
number_of L.fields = 6
number_of L.boolean = 7
number_of L.number = 8
number_of L.string = 9
number_of l = 0

abbrev pub is_literal : Label → Bool
is_literal L.boolean = true
is_literal L.number = true
is_literal L.string = true
is_literal l = false

-- a literal's label is no other one
pub no_literal : {k l : Label} → is_literal k ≡ true → k ≡ l → is_literal l ≡ false → ⊥
no_literal {l = l} h e n = both_ways (is_literal l) n (sym (ap is_literal e) ∙ h)

-- the rows have the same form, with leaves that are equal by the test
abbrev pub alike : {A : Type 0} → (A → A → Bool) → Forest Label A → Forest Label A → Bool
alike equal none none = true
alike equal (leaf a f) (leaf b g) = equal a b && alike equal f g
alike equal (branch l f h) (branch m g k) =
    nat_eq (number_of l) (number_of m) && (alike equal h k && alike equal f g)
alike equal f g = false

alike_self : {A : Type 0} (equal : A → A → Bool) → ((a : A) → equal a a ≡ true)
    → (f : Forest Label A) → alike equal f f ≡ true
alike_self equal same none = refl
alike_self equal same (leaf a f) = and_from _ _ (same a) (alike_self equal same f)
alike_self equal same (branch l f g) =
    and_from _ _ ((Decides-eqb (number_of l) (number_of l)).1 refl)
    (and_from _ _ (alike_self equal same g) (alike_self equal same f))

pub differ : {A : Type 0} (equal : A → A → Bool) → ((a : A) → equal a a ≡ true)
    → (f g : Forest Label A) → alike equal f g ≡ false → f ≡ g → ⊥
differ equal same f g n e =
    both_ways (alike equal f g) n (sym (ap (alike equal f) e) ∙ alike_self equal same f)

-- the parts, the next tree, the label and the first leaf of a row
abbrev pub ins : {A : Type 0} → Forest Label A → Forest Label A
ins none = none
ins (leaf a f) = none
ins (branch l f g) = f

abbrev pub nxt : {A : Type 0} → Forest Label A → Forest Label A
nxt none = none
nxt (leaf a f) = f
nxt (branch l f g) = g

abbrev pub lab : {A : Type 0} → Forest Label A → Label
lab none = L.policies
lab (leaf a f) = L.policies
lab (branch l f g) = l

abbrev pub hd : {A : Type 0} → A → Forest Label A → A
hd d none = d
hd d (leaf a f) = a
hd d (branch l f g) = d

-- rows with a leaf at the end
no_end : {L A : Type 0} → (g : Forest L A) (s : A) → none ≡ join g (leaf s none) → ⊥
no_end none s e = cc
no_end (leaf b g) s e = cc
no_end (branch l g h) s e = cc

pub last_same : {L A : Type 0} → (f g : Forest L A) (r s : A)
    → join f (leaf r none) ≡ join g (leaf s none) → (f ≡ g) × (r ≡ s)
last_same none none r s e = (refl, cc)
last_same none (leaf b g) r s e = absurd (no_end g s cc)
last_same (leaf a f) none r s e = absurd (no_end f r cc)
last_same (leaf a f) (leaf b g) r s e = let i = last_same f g r s cc in let k = i.0 in (cc, i.1)
last_same (branch l f h) (branch m g k) r s e =
    let i = last_same h k r s cc in
    let o = i.0 in
    (cc, i.1)
last_same f g r s e = absurd cc
