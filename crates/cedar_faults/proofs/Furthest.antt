-- No place after a first fault is reached.
use Rattle.std.specs.Prelude.{◌≡◌, ◌⊎◌, ◌≤◌, ◌<◌, ◌+◌, ℕ, Bool, true, false, List, [], ◌∷◌, ◌++◌, length, drop, Some}
use Rattle.std.specs.List.{concat, list_any, sum_by}
use Rattle.std.proofs.Common.{refl, sym, ap, ◌∙◌, arith, subst, inl, inr, append_assoc, length-append}
use Rattle.std.proofs.lemmas.List.{drop_all, drop-drop, length-drop}
use Rattle.std.proofs.lemmas.List.Elements.{filter-append}
use Rattle.std.proofs.lemmas.List.Folds.{list_any-append}
use Rattle.std.proofs.lemmas.List.Sums.{sum_by-cons}
use Rattle.cedar_tokens.specs.Units.{IsUnit, IsFirstUnit, is_token}
use Rattle.cedar_tokens.specs.Split.{Scans, IsFirstFault}
use Rattle.cedar_tokens.proofs.Prefixes.{longest_unique}
use Rattle.cedar_tokens.proofs.Scanning.{empty_begins_none, fault_prevents, split_unique}
use Rattle.cedar_tokens.proofs.UnitsSoFar.{concat_length, scans_concat, units_length}
use Rattle.cedar_grammar.proofs.Booleans.{neither_first as or_left, neither_second as or_right}
use Rattle.cedar_grammar.specs.Beginnings.{Begins}
use Rattle.cedar_grammar.specs.Grammar.{IsSyntaxTree}
use Rattle.cedar_grammar.specs.Numbers.{is_too_large}
use Rattle.cedar_grammar.specs.Texts.{greatest_depth, only_tokens, Accepted, LeaveAfter}
use Rattle.cedar_grammar.specs.declared.error.FormatError.{FormatError}
use Rattle.cedar_grammar.specs.declared.error.FormatError.TheVariants.{UnknownCharacter, UnfinishedString, NumberTooLarge, Grammar, TooDeep, NoDocument, Unsound, OutOfMemory}
use Rattle.cedar_grammar.specs.Refusals.{Refuses, place_of}
use Rattle.cedar_faults.proofs.Begun.{begins_front, list_begins}
use Rattle.cedar_faults.specs.FirstFaults.{IsFirstOf, IsNext, LeavesAt, Reaches}
use Rattle.cedar_faults.specs.Faults.{SearchFinds}
use Rattle.cedar_faults.specs.Faults.SearchFinds.{nothing, policy, fault}
use Rattle.cedar_faults.specs.Laws.{FirstIsFurthest, FirstIsBeforeRefusal, FirstNoneIfAccepted, NoneIfAccepted}
use Rattle.cedar_faults.specs.declared.fault.Fault.{Fault}
use Rattle.cedar_faults.proofs.Describing.{reached}
use Rattle.cedar_faults.proofs.Leaving.{leaves_whole, parts}
use Rattle.cedar_reading.proofs.Accepted.{accepted_join}
use Rattle.cedar_cst.proofs.Places.{accepted_parts}

-- of two scans of a text, the second is no longer, or continues with a unit after the first
compare : (us vs : List (List ℕ)) (text r s : List ℕ) → Scans us text r → Scans vs text s
    → (sum_by length vs ≤ sum_by length us) ⊎ ((x : List ℕ) × (w : List (List ℕ))
    × (vs ≡ us ++ x ∷ w) × IsFirstUnit r x)
compare us [] text r s a b = inl (omega arith)
compare [] (v ∷ vs) text r s a b = inr (v, vs, refl, subst (λ z. IsFirstUnit z v) a b.0)
compare (u ∷ us) (v ∷ vs) text r s a b =
    let same : u ≡ v = longest_unique IsUnit text u v a.0 b.0 in
    go same (compare us vs (drop (length u) text) r s a.1 (rw (sym same) at b.1))
  where
    go : u ≡ v → (sum_by length vs ≤ sum_by length us) ⊎ ((x : List ℕ) × (w : List (List ℕ))
        × (vs ≡ us ++ x ∷ w) × IsFirstUnit r x)
        → (sum_by length (v ∷ vs) ≤ sum_by length (u ∷ us)) ⊎ ((x : List ℕ) × (w : List (List ℕ))
        × (v ∷ vs ≡ (u ∷ us) ++ x ∷ w) × IsFirstUnit r x)
    go i (inl l) = inl (omega
        (arith, l, sum_by-cons length v vs, sum_by-cons length u us, ap length i))
    go i (inr (x, w, e, f)) = inr (x, w, ap (λ z. v ∷ z) e ∙ ap (λ z. z ∷ (us ++ x ∷ w)) (sym i), f)

-- a unit after the first ones that can be there
record Goes (front : List (List ℕ)) (x : List ℕ) : Type 0 where
  fits : is_too_large x ≡ false
  begins : is_token x ≡ true → Begins greatest_depth (only_tokens front ++ x ∷ [])

goes : (all front : List (List ℕ)) (x : List ℕ) (w : List (List ℕ)) → all ≡ front ++ x ∷ w
    → list_any is_too_large all ≡ false → Begins greatest_depth (only_tokens all) → Goes front x
goes all front x w e f b = record {
  fits = or_left (is_too_large x) (list_any is_too_large w) (or_right (list_any is_too_large front)
      (list_any is_too_large (x ∷ w))
      (sym (list_any-append is_too_large front (x ∷ w)) ∙ (ap (list_any is_too_large) (sym e) ∙ f)));
  begins = λ t.
      let one : only_tokens (x ∷ w) ≡ x ∷ only_tokens w = rw t refl in
      let same : only_tokens all ≡ (only_tokens front ++ x ∷ []) ++ only_tokens w = ap only_tokens e
      ∙ (filter-append is_token front (x ∷ w) ∙ (ap (λ z. only_tokens front ++ z) one
      ∙ sym (append_assoc (only_tokens front) (x ∷ []) (only_tokens w)))) in
      begins_front greatest_depth (only_tokens front ++ x ∷ []) (only_tokens w)
      (subst (Begins greatest_depth) same b);
}

-- what comes next can't be there
blocked : (front : List (List ℕ)) (rest x : List ℕ) (next : List (List ℕ)) (deep : Bool)
    → IsNext rest next → LeaveAfter (only_tokens front) next deep → IsFirstUnit rest x
    → Goes front x → ⊥
blocked front rest x [] deep e l f g = empty_begins_none x f.kind (rw e at f.begins)
blocked front rest x (u ∷ []) deep (h, fit) l f g =
    let same : x ≡ u = longest_unique IsUnit rest x u f h in
    l.1 (subst (λ z. Begins greatest_depth (only_tokens front ++ z ∷ [])) same
    (g.begins (ap is_token same ∙ l.0)))
blocked front rest x (u ∷ v ∷ us) deep e l f g = e

scans_place : (us : List (List ℕ)) (text : List ℕ) (at : ℕ) → at < length text
    → Scans us text (drop at text) → at ≡ sum_by length us
scans_place us text at l s = omega (
  arith,
  l,
  concat_length us,
  ap length (scans_concat us text (drop at text) s),
  length-append (concat us) (drop at text),
  length-drop at text,
)

module _ (text : List ℕ) (n : ℕ) (r : Reaches text n) where
  at_leaving : (at : ℕ) (deep : Bool) → LeavesAt text at deep → n ≤ at
  at_leaving at deep l = go (compare l.reached.before r.before text (drop at text) (drop n text) l.reached.scans r.scans)
    where
      go : (sum_by length r.before ≤ sum_by length l.reached.before) ⊎ ((x : List ℕ)
          × (w : List (List ℕ)) × (r.before ≡ l.reached.before ++ x ∷ w) × IsFirstUnit (drop at text) x)
          → n ≤ at
      go (inl k) = omega (arith, k, r.place, l.reached.place)
      go (inr (x, w, e, f)) = absurd (blocked l.reached.before (drop at text) x l.next deep l.is_next
          l.leaves f (goes r.before l.reached.before x w e r.fitting r.begins))

  at_fault : (at : ℕ) → IsFirstFault text at → n ≤ at
  at_fault at f = go (compare f.reached.0 r.before text (drop at text) (drop n text) f.reached.1 r.scans)
    where
      go : (sum_by length r.before ≤ sum_by length f.reached.0) ⊎ ((x : List ℕ)
          × (w : List (List ℕ)) × (r.before ≡ f.reached.0 ++ x ∷ w) × IsFirstUnit (drop at text) x)
          → n ≤ at
      go (inl k) = omega (arith, k, r.place, scans_place f.reached.0 text at f.inside f.reached.1)
      go (inr (x, w, e, h)) = absurd (f.stuck x h.kind h.begins)

  at_number : (at : ℕ) (before : List (List ℕ)) (rest number : List ℕ) → Scans before text rest
      → at ≡ sum_by length before → IsFirstUnit rest number → is_too_large number ≡ true → n ≤ at
  at_number at before rest number k e f large = go (compare before r.before text rest (drop n text) k r.scans)
    where
      go : (sum_by length r.before ≤ sum_by length before) ⊎ ((x : List ℕ) × (w : List (List ℕ))
          × (r.before ≡ before ++ x ∷ w) × IsFirstUnit rest x) → n ≤ at
      go (inl l) = omega (arith, l, r.place, e)
      go (inr (x, w, h, g)) =
          let same : x ≡ number = longest_unique IsUnit rest x number g f in
          absurd (let z : false ≡ true = sym (goes r.before before x w h r.fitting r.begins).fits
          ∙ (ap is_too_large same ∙ large) in cc)

pub furthest : FirstIsFurthest
furthest text (UnknownCharacter at) m n f e r = let i : at ≡ m = cc in rw (sym i) (at_fault text n r at f.1)
furthest text (UnfinishedString at) m n f e r = let i : at ≡ m = cc in rw (sym i) (at_fault text n r at f.1)
furthest text (NumberTooLarge at) m n f e r = let i : at ≡ m = cc in rw (sym i)
    (at_number text n r at f.0.before (drop at text) f.1.0 f.0.scans f.0.place f.1.1 f.1.2)
furthest text (Grammar at) m n f e r = let i : at ≡ m = cc in rw (sym i) (at_leaving text n r at false f)
furthest text (TooDeep at) m n f e r = let i : at ≡ m = cc in rw (sym i) (at_leaving text n r at true f)
furthest text NoDocument m n f e r = absurd f
furthest text Unsound m n f e r = absurd f
furthest text OutOfMemory m n f e r = absurd f

-- a place that is reached is at the refusal or before it
before_refusal : (text : List ℕ) (r : FormatError) (m n : ℕ) → Reaches text m → Refuses text r
    → place_of r ≡ Some n → m ≤ n
before_refusal text (UnknownCharacter at) m n k r e = let i : at ≡ n = cc in rw (sym i) (at_fault text m k at r.0)
before_refusal text (UnfinishedString at) m n k r e = let i : at ≡ n = cc in rw (sym i) (at_fault text m k at r.0)
before_refusal text (NumberTooLarge at) m n k r e =
    let i : at ≡ n = cc in
    let p = parts r.before (r.number ∷ r.after) text [] r.split in
    rw (sym i) (at_number text m k at r.before p.0 r.number p.1 r.place p.2.0 r.large)
before_refusal text (Grammar at) m n k r e =
    let i : at ≡ n = cc in rw (sym i) (at_leaving text m k at false (leaves_whole text at false r))
before_refusal text (TooDeep at) m n k r e =
    let i : at ≡ n = cc in rw (sym i) (at_leaving text m k at true (leaves_whole text at true r))
before_refusal text NoDocument m n k r e = absurd r
before_refusal text Unsound m n k r e = absurd r
before_refusal text OutOfMemory m n k r e = absurd r

pub not_after_refusal : FirstIsBeforeRefusal
not_after_refusal text e r m n f k i j = before_refusal text r m n (reached text e m f i) k j

-- an accepted text has no fault
module _ (text : List ℕ) (a : Accepted text) where
  abbrev units : List (List ℕ)
  units = a.1.units

  none_left : drop (length text) text ≡ []
  none_left = drop_all (length text) text (omega arith)

  whole_reached : Reaches text (length text)
  whole_reached = record {
    before = units;
    scans = subst (λ z. Scans units text z) (sym none_left) a.1.split;
    place = units_length units text a.1.split;
    fitting = a.1.fitting;
    begins = list_begins (only_tokens units) (a.0, a.1.grammar);
  }

  past_end : (at : ℕ) → length text ≤ at → drop at text ≡ []
  past_end at l = drop_all at text l

  stays : (at : ℕ) (deep : Bool) → (l : LeavesAt text at deep) → length text ≤ at → ⊥
  stays at deep l k = go l.next l.is_next l.leaves
    where
      same : l.reached.before ≡ units
      same = split_unique text l.reached.before units
          (subst (λ z. Scans l.reached.before text z) (past_end at k) l.reached.scans) a.1.split

      go : (next : List (List ℕ)) → IsNext (drop at text) next
          → LeaveAfter (only_tokens l.reached.before) next deep → ⊥
      go [] e h = h.0 a.0 (subst (λ z. IsSyntaxTree (λ t. t) greatest_depth a.0 (only_tokens z)) (sym same) a.1.grammar)
      go (u ∷ []) (f, fit) h = empty_begins_none u f.kind (rw (past_end at k) at f.begins)
      go (u ∷ v ∷ us) e h = e

  pub no_first : (e : FormatError) → IsFirstOf text e → ⊥
  no_first (UnknownCharacter at) f = fault_prevents text at f.1 (units, a.1.split)
  no_first (UnfinishedString at) f = fault_prevents text at f.1 (units, a.1.split)
  no_first (NumberTooLarge at) f =
      let l = furthest text (NumberTooLarge at) at (length text) f refl whole_reached in
      empty_begins_none f.1.0 f.1.1.kind (rw (past_end at l) at f.1.1.begins)
  no_first (Grammar at) f =
      stays at false f (furthest text (Grammar at) at (length text) f refl whole_reached)
  no_first (TooDeep at) f =
      stays at true f (furthest text (TooDeep at) at (length text) f refl whole_reached)
  no_first NoDocument f = f
  no_first Unsound f = f
  no_first OutOfMemory f = f

-- a search that finds nothing passes over accepted policies
passed_accepted : (text : List ℕ) (from to : ℕ) (fs : List Fault) → SearchFinds text from fs to → fs ≡ []
    → Accepted (drop to text) → Accepted (drop from text)
passed_accepted text from to fs (nothing at) e a = a
passed_accepted text from to fs (policy at n end gs p more) e a =
    let rest = passed_accepted text (at + n) to gs more e a in
    accepted_join (drop at text) n p.piece p.accepted (subst Accepted (sym (drop-drop n at text)) rest)
passed_accepted text from to fs (fault at n end f gs h r more) e a = absurd cc

-- a search of an accepted text finds nothing
pub finds_nothing : (text : List ℕ) (from to : ℕ) (fs : List Fault) → SearchFinds text from fs to
    → Accepted (drop from text) → fs ≡ []
finds_nothing text from to fs (nothing at) k = refl
finds_nothing text from to fs (policy at n end gs p more) k = finds_nothing text (at + n) to gs more
    (subst Accepted (drop-drop n at text) (accepted_parts (drop at text) n p.piece k).1)
finds_nothing text from to fs (fault at n end f gs h r more) k =
    absurd (no_first (drop at text) k f.error h.first)

pub none_if_accepted : NoneIfAccepted
none_if_accepted text fs a =
    (λ e. passed_accepted text 0 a.0 fs a.1 e a.2, finds_nothing text 0 a.0 fs a.1)

pub first_none_if_accepted : FirstNoneIfAccepted
first_none_if_accepted text limit fs l (inl (a, b)) = none_if_accepted text fs a
first_none_if_accepted text limit fs l (inr (e, (to, f))) = (
  λ n. absurd (omega (arith, l, e, ap length n)),
  finds_nothing text 0 to fs f,
)
