-- What documents contain, one after the other and in a sequence.
use Rattle.std.proofs.Common.{◌≡◌, ℕ, ◌+◌, ◌<◌, ◌≤◌, ◌||◌, List, [], ◌∷◌, ◌++◌, length, drop, get_or, refl, ap, ◌∙◌, arith}
use Rattle.std.proofs.lemmas.List.{at_drop_more, at_drop_all}
use Rattle.cedar_layout.specs.declared.layout.Document.{Document}
use Rattle.cedar_layout.specs.Layout.{Doc, nil, ◌·◌, Atom, word, space_or_break, nothing_or_break, must_break, atoms, flat_columns, has_hard}
use Rattle.cedar_layout.specs.Value.{doc_of, docs_of}
use Rattle.cedar_layout.proofs.Values.{atoms-dot}

pub docs_of-drop : (ds : List Document) (i : ℕ) (d : Document) → i < length ds
    → docs_of (drop i ds) ≡ doc_of (get_or ds i d) · docs_of (drop (i + 1) ds)
docs_of-drop ds i d h = at_drop_more docs_of ds i d h

pub docs_of-drop_all : (ds : List Document) (i : ℕ) → length ds ≤ i → docs_of (drop i ds) ≡ nil
docs_of-drop_all ds i h = at_drop_all docs_of ds i h

pub has_hard-append : (xs ys : List Atom) → has_hard (xs ++ ys) ≡ (has_hard xs || has_hard ys)
has_hard-append [] ys = refl
has_hard-append (word s ∷ xs) ys = has_hard-append xs ys
has_hard-append (space_or_break ∷ xs) ys = has_hard-append xs ys
has_hard-append (nothing_or_break ∷ xs) ys = has_hard-append xs ys
has_hard-append (must_break ∷ xs) ys = refl

pub has_hard-dot : (a b : Doc)
    → has_hard (atoms (a · b)) ≡ (has_hard (atoms a) || has_hard (atoms b))
has_hard-dot a b = ap has_hard (atoms-dot a b) ∙ has_hard-append (atoms a) (atoms b)

pub flat_columns-append : (xs ys : List Atom)
    → flat_columns (xs ++ ys) ≡ flat_columns xs + flat_columns ys
flat_columns-append [] ys = omega arith
flat_columns-append (x ∷ xs) ys = omega (arith, flat_columns-append xs ys)
