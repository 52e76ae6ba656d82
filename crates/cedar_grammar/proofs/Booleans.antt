-- The halves of a conjunction that holds and of a disjunction that fails,
-- and what follows with one of them.
use Rattle.std.specs.Prelude.{◌≡◌, Bool, true, false, ◌||◌, ◌&&◌, not, IsTrue}
use Rattle.std.proofs.lemmas.Bool.{and_parts, or_parts}

pub and_first : (a b : Bool) → IsTrue (a && b) → IsTrue a
and_first a b h = (and_parts a b h).0

pub and_second : (a b : Bool) → IsTrue (a && b) → IsTrue b
and_second a b h = (and_parts a b h).1

pub neither_first : (a b : Bool) → (a || b) ≡ false → a ≡ false
neither_first a b h = (or_parts a b h).0

pub neither_second : (a b : Bool) → (a || b) ≡ false → b ≡ false
neither_second a b h = (or_parts a b h).1

pub implied : (a b : Bool) → IsTrue (not a || b) → IsTrue a → IsTrue b
implied true b h k = h
implied false b h k = absurd cc

pub and_second_false : (a b : Bool) → (a && b) ≡ false → IsTrue a → b ≡ false
and_second_false true b h k = h
and_second_false false b h k = absurd cc
