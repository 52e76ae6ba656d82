-- The names so far, one kind after another.
use Rattle.std.specs.Prelude.{◌≡◌, ◌<◌, ◌≤◌, ◌+◌, ℕ, Bool, true, false, not, ◌||◌, List, [], ◌∷◌, ◌++◌, IsTrue, All, Any, length, take, drop}
use Rattle.std.specs.List.{filter, list_any}
use Rattle.std.proofs.Common.{cond, get_or, refl, sym, ap, subst, add-one, drop-cons, rules}
use Rattle.std.proofs.lemmas.List.{take_all, drop_all}
use Rattle.std.proofs.lemmas.List.Folds.{list_any-append, Any-from_list_any}
use Rattle.std.proofs.lemmas.List.Elements.{All-more, All-push, All-weaker, All-contains, Contains-append_left}
use Rattle.std.proofs.lemmas.List.Quantifiers.{Any-push}
use Rattle.cedar_tokens.specs.declared.kind.Kind.{Kind}
use Rattle.cedar_tokens.specs.declared.kind.Kind.TheVariants as K
use Rattle.cedar_faults.specs.declared.kinds.Name.{Name}
use Rattle.cedar_faults.specs.Naming.{names, AreIn, IsNameOf, AreNamesOf, AreNamed}

-- a name of the list names the kind
abbrev pub Named : List Name → Kind → Type 0
Named all k = Any (λ name. IsTrue (names name k)) all

-- none of the names names the kind
abbrev pub unnamed : List Name → Kind → Bool
unnamed all k = not (list_any (λ name. names name k) all)

-- the names are those of the first of some kinds, and leave these
abbrev pub Leave : List Kind → List Kind → List Name → List Kind → Type 0
Leave kinds some [] left = some ≡ left
Leave kinds some (name ∷ more) left = (first : Kind) × (others : List Kind) × (some ≡ first ∷ others)
    × IsNameOf kinds first name × Leave kinds (filter (λ k. not (names name k)) others) more left

none_left : (kinds some : List Kind) (all : List Name) → Leave kinds some all []
    → AreNamesOf kinds some all
none_left kinds some [] e = e
none_left kinds some (name ∷ more) (first, others, e, n, l) =
    (first, others, e, n, none_left kinds (filter (λ k. not (names name k)) others) more l)

leave_push : (kinds some : List Kind) (all : List Name) (k : Kind) (left : List Kind) (name : Name)
    → Leave kinds some all (k ∷ left) → IsNameOf kinds k name
    → Leave kinds some (all ++ name ∷ []) (filter (λ x. not (names name x)) left)
leave_push kinds some [] k left name e n = (k, left, e, n, refl)
leave_push kinds some (x ∷ xs) k left name (first, others, e, m, l) n = (
  first,
  others,
  e,
  m,
  leave_push kinds (filter (λ y. not (names x y)) others) xs k left name l n,
)

all_unnamed : (ks : List Kind) → filter (unnamed []) ks ≡ ks
all_unnamed [] = refl
all_unnamed (k ∷ ks) = ap (λ z. k ∷ z) (all_unnamed ks)

unnamed_push : (all : List Name) (name : Name) (ks : List Kind)
    → filter (λ x. not (names name x)) (filter (unnamed all) ks) ≡ filter (unnamed (all ++ name ∷ [])) ks
unnamed_push all name [] = refl
unnamed_push all name (k ∷ ks) =
    rw (list_any-append (λ n. names n k) all (name ∷ []))
    (go (list_any (λ n. names n k) all) (names name k) refl (unnamed_push all name ks))
  where
    go : (a b : Bool) → names name k ≡ b
        → filter (λ x. not (names name x)) (filter (unnamed all) ks)
        ≡ filter (unnamed (all ++ name ∷ [])) ks
        → filter (λ x. not (names name x)) (cond (not a) (k ∷ filter (unnamed all) ks) (filter (unnamed all) ks))
        ≡ cond (not (a || (b || false))) (k ∷ filter (unnamed (all ++ name ∷ [])) ks) (filter (unnamed (all ++ name ∷ [])) ks)
    go true b e ih = ih
    go false true e ih = rw e ih
    go false false e ih = rw e (ap (λ z. k ∷ z) ih)

-- the names name only kinds of the list, and are those of its first kinds: the others are not named, or after these
pub record SoFar (kinds : List Kind) (all : List Name) (i : ℕ) : Type 0 where
  pub within : All (AreIn kinds) all
  pub named : All (Named all) (take i kinds)
  pub left : Leave kinds kinds all (filter (unnamed all) (drop i kinds))

pub none_so_far : (kinds : List Kind) → SoFar kinds [] 0
none_so_far kinds =
    record { within = search rules; named = search rules; left = sym (all_unnamed kinds) }

here_left : (kinds : List Kind) (all : List Name) (i : ℕ) (b : Bool) → i < length kinds
    → list_any (λ name. names name (get_or kinds i K.True)) all ≡ b
    → filter (unnamed all) (drop i kinds)
    ≡ cond (not b) (get_or kinds i K.True ∷ filter (unnamed all) (drop (i + 1) kinds)) (filter (unnamed all) (drop (i + 1) kinds))
here_left kinds all i b l e = rw (add-one, drop-cons kinds i K.True l, e)

pub stays : (kinds : List Kind) (all : List Name) (i : ℕ) → i < length kinds → SoFar kinds all i
    → list_any (λ name. names name (get_or kinds i K.True)) all ≡ true → SoFar kinds all (i + 1)
stays kinds all i l s e = record {
  within = s.within;
  named = All-more (Named all) kinds i K.True l s.named
      (Any-from_list_any (λ name. names name (get_or kinds i K.True)) all e);
  left = subst (Leave kinds kinds all) (here_left kinds all i true l e) s.left;
}

named_more : (all : List Name) (name : Name) (k : Kind) → Named all k → Named (all ++ name ∷ []) k
named_more all name k n =
    let c = Contains-append_left all (name ∷ []) n.1 (n.0, n.2, n.3) in (c.0, n.1, c.1, c.2, n.4)

pub grows : (kinds : List Kind) (all : List Name) (i : ℕ) (name : Name) → i < length kinds
    → SoFar kinds all i → list_any (λ n. names n (get_or kinds i K.True)) all ≡ false
    → IsNameOf kinds (get_or kinds i K.True) name → SoFar kinds (all ++ name ∷ []) (i + 1)
grows kinds all i name l s e n =
    let before : Leave kinds kinds all (get_or kinds i K.True ∷ filter (unnamed all) (drop (i + 1) kinds)) =
    subst (Leave kinds kinds all) (here_left kinds all i false l e) s.left in
    record {
      within = All-push (AreIn kinds) all name s.within n.within;
      named = All-more (Named (all ++ name ∷ [])) kinds i K.True l
          (All-weaker (Named all) (Named (all ++ name ∷ [])) (named_more all name) (take i kinds) s.named)
          (Any-push (λ x. IsTrue (names x (get_or kinds i K.True))) all name n.named);
      left = subst (Leave kinds kinds (all ++ name ∷ []))
          (unnamed_push all name (drop (i + 1) kinds))
          (leave_push kinds kinds all (get_or kinds i K.True) _ name before n);
    }

pub all_named : (kinds : List Kind) (all : List Name) (i : ℕ) → length kinds ≤ i → SoFar kinds all i
    → AreNamed kinds all
all_named kinds all i l s =
    let each : All (Named all) kinds = rw (take_all i kinds l) at s.named in
    let left : Leave kinds kinds all [] = rw (drop_all i kinds l) at s.left in
    record {
      within = s.within;
      named = λ k c. All-contains (Named all) kinds k each c;
      exact = none_left kinds kinds all left;
    }
