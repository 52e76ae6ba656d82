-- A cleaned text has the decorated list of the text, lacks only blanks, and has no blank line.
use Rattle.std.proofs.Common.{◌≡◌, ℕ, Bool, true, false, cond, List, [], ◌∷◌, ◌++◌, Some, None, refl, ap, sym, ◌∙◌, subst}
use Rattle.std.specs.List.{AllByRecursion, concat}
use Rattle.std.specs.Str.{trim, IsUtf8}
use Rattle.cedar_tokens.specs.Bytes.{line_feed}
use Rattle.cedar_tokens.specs.Split.{SplitsInto}
use Rattle.cedar_tokens.specs.Listing.{listing}
use Rattle.cedar_tokens.proofs.Scanning.{split_unique}
use Rattle.cedar_layout.specs.Cleaning.{IsCleaned}
use Rattle.cedar_laws.specs.CleaningLaws.{Thinned, no_units, unit_stays, blank_goes, with_last_trimmed, NoBlankLine, CleaningKeepsTheList, CleaningTakesBlanks, CleaningLeavesNoBlankLine}
use Rattle.cedar_laws.proofs.BlankLines.{AllBlank, lined, lined_append, is_feed, blank_not_solid, feed_not_solid, thinned_twice}
use Rattle.cedar_laws.proofs.CleanedLists.{cut_cleans}
use Rattle.cedar_laws.proofs.Spaces.{units_utf8}
use Rattle.cedar_laws.proofs.TrimmedLists.{trims, lined_front}

-- what holds of all units still holds without some of the blanks
thinned_all : {us vs : List (List ℕ)} → Thinned us vs → AllByRecursion IsUtf8 us
    → AllByRecursion IsUtf8 vs
thinned_all no_units a = tt
thinned_all (unit_stays u t) a = (a.0, thinned_all t a.1)
thinned_all (blank_goes u k t) a = thinned_all t a.1

-- the units of a cleaned text
pub record CleanUnits (us : List (List ℕ)) (y : List ℕ) : Type 0 where
  pub rest : List (List ℕ)
  pub units : List (List ℕ)
  pub last : units ≡ with_last_trimmed rest
  pub thinned : Thinned us rest
  pub split : SplitsInto y units
  pub list : listing units ≡ listing us
  pub once : trim y ≡ y
  pub ended : Bool
  pub lined : lined false units ≡ Some ended

pub clean_units : (x y : List ℕ) (us : List (List ℕ)) → IsUtf8 x → SplitsInto x us → IsCleaned x y
    → CleanUnits us y
clean_units x y us u s c =
    let k = cut_cleans x c.joined us c.cut s in
    let t = trims k.units k.are_units (thinned_all k.thinned (units_utf8 us x u s)) in
    let e : concat t.units ≡ y = t.is ∙ (ap trim k.is ∙ sym c.trimmed) in
    let l = t.stays_lined k.ended k.lined in
    record {
      rest = t.rest;
      units = t.units;
      last = t.last;
      thinned = thinned_twice k.thinned t.thinned;
      split = subst (λ z. SplitsInto z t.units) e t.are_units;
      list = t.list ∙ k.list;
      once = ap trim (sym e) ∙ (t.once ∙ e);
      ended = l.0;
      lined = l.1;
    }

pub clean_reads : CleaningKeepsTheList
clean_reads x y l u c a =
    let k = clean_units x y a.units u a.split c in
    record { units = k.units; split = k.split; value = a.value ∙ sym k.list }

pub clean_takes_blanks : CleaningTakesBlanks
clean_takes_blanks x y us u s c =
    let k = clean_units x y us u s c in
    (k.rest, k.thinned, subst (λ z. SplitsInto y z) k.last k.split)

-- a blank line stops `lined`
blank_line_stops : (bs vs : List (List ℕ)) → AllBlank bs
    → lined true (bs ++ ((line_feed ∷ []) ∷ vs)) ≡ None
blank_line_stops [] vs a = rw feed_not_solid refl
blank_line_stops (u ∷ bs) vs a =
    rw (blank_not_solid u a.0) (go (is_feed u) (blank_line_stops bs vs a.1))
  where
    go : (f : Bool) → lined true (bs ++ ((line_feed ∷ []) ∷ vs)) ≡ None
        → cond f None (lined true (bs ++ ((line_feed ∷ []) ∷ vs))) ≡ None
    go true ih = refl
    go false ih = ih

lined_no_blank_line : (us : List (List ℕ)) (e : Bool) → lined false us ≡ Some e → NoBlankLine us
lined_no_blank_line us e h fs bs vs q a =
    let g : lined false (fs ++ ((line_feed ∷ []) ∷ (bs ++ ((line_feed ∷ []) ∷ vs)))) ≡ Some e =
    ap (lined false) (sym q) ∙ h in
    let f = lined_front fs ((line_feed ∷ []) ∷ (bs ++ ((line_feed ∷ []) ∷ vs))) false e g in
    let r : lined f.0 ((line_feed ∷ []) ∷ (bs ++ ((line_feed ∷ []) ∷ vs))) ≡ Some e =
    sym (lined_append fs ((line_feed ∷ []) ∷ (bs ++ ((line_feed ∷ []) ∷ vs))) false f.0 f.1) ∙ g in
    go f.0 r
  where
    go : (o : Bool) → lined o ((line_feed ∷ []) ∷ (bs ++ ((line_feed ∷ []) ∷ vs))) ≡ Some e → ⊥
    go true r = let n : None ≡ Some e = rw feed_not_solid at r in absurd cc
    go false r =
        let n : lined true (bs ++ ((line_feed ∷ []) ∷ vs)) ≡ Some e = rw feed_not_solid at r in
        let m = blank_line_stops bs vs a in
        absurd cc

pub clean_has_no_blank_line : CleaningLeavesNoBlankLine
clean_has_no_blank_line x y us u s c p =
    let k = clean_units x y s.0 u s.1 c in (
      subst (λ z. NoBlankLine z) (split_unique y k.units us k.split p)
          (lined_no_blank_line k.units k.ended k.lined),
      k.once,
    )
