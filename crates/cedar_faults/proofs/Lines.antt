-- What is passed over in a line is passed over in its text.
use Rattle.std.specs.Prelude.{◌≡◌, ◌≢◌, ◌==◌, ◌+◌, ◌<◌, ◌≤◌, ◌-◌, ℕ, suc, Bool, true, false, cond, List, [], ◌∷◌, ◌++◌, length, take, drop, get_or, Option, Some, None, codes, not, ◌||◌, ◌&&◌}
use Rattle.std.specs.List.{list_any, sum_by}
use Rattle.std.specs.Str.{IsUtf8, IsCharBoundary}
use Rattle.std.proofs.lemmas.Str.Pattern.{IsSplitOnceResult, split_parts}
use Rattle.std.proofs.Common.{refl, sym, ap, ◌∙◌, arith, subst, inl, inr, append_assoc, append-nil, length-append, drop_of_length-le}
use Rattle.std.specs.Borrow.{Bor}
use Rattle.std.proofs.lemmas.Bool.{or_parts, or_cases, cases_lt, ne_eqb}
use Rattle.std.proofs.lemmas.Bool.Decides.{nat_tests}
use Rattle.std.proofs.lemmas.List.{get_or_append_left, drop-drop, drop-append-le, take-append-le, take-append-drop, length-drop, length-take-le}
use Rattle.std.proofs.lemmas.List.Folds.{list_any-append}
use Rattle.std.proofs.lemmas.Str.{IsUtf8-drop, IsCharBoundary-start, IsCharBoundary-from_rest}
use Rattle.std.proofs.lemmas.List.Sums.{sum_by-append, sum_by-cons}
use Rattle.std.proofs.Math.Seq.{get_or-append_seam}
use Rattle.cedar_tokens.specs.Bytes.{line_feed, quote, backslash}
use Rattle.cedar_tokens.specs.Units.{IsUnit, blank, comment, token, IsFirstUnit, BeginsNoUnit, FindsLongest, is_string_rest}
use Rattle.cedar_tokens.proofs.Prefixes.{same_head, begins_fits}
use Rattle.cedar_tokens.proofs.FirstUnit.{unit_nonempty, unit_boundary}
use Rattle.cedar_tokens.proofs.UnitsSoFar.{after_unit}
use Rattle.cedar_reading.proofs.Semicolons.{differs}
use Rattle.cedar_tokens.proofs.Heads.{class}
use Rattle.cedar_tokens.proofs.Strings.{string_end, complete, finds}
use Rattle.cedar_reading.specs.Pieces.{is_semicolon}
use Rattle.cedar_laws.proofs.Units.{past, next_passes, blank_first, feed_blank}
use Rattle.cedar_laws.proofs.BlankLines.{feedless, blank_feed}
use Rattle.cedar_laws.proofs.Spaces.{comment_feedless}
use Rattle.cedar_laws.proofs.Scanned.{first_within, first_before_feed, string_class, token_no_feed}
use Rattle.cedar_faults.specs.Marks.{EndsCharacter}
use Rattle.cedar_faults.specs.Recovery.{IsPassed, Resumes, spans_lines}
use Rattle.cedar_faults.specs.Inside.Lines.{IsLine, FollowsLine, IsFirstLine, IsFirstInLine, PassesInLine, HasNoString, EndsSemicolon, HasNoSemicolon}
use Rattle.cedar_faults.proofs.Passing.{SoFar, goes_on, stops_here}

-- ---- bytes of a line

pub line_front : (a b : List ℕ) → IsLine (a ++ b) → IsLine a
line_front a b h = (or_parts _ _ (sym (list_any-append (λ x. x == line_feed) a b) ∙ h)).0

pub line_back : (a b : List ℕ) → IsLine (a ++ b) → IsLine b
line_back a b h =
    (or_parts (list_any (λ x. x == line_feed) a) _
    (sym (list_any-append (λ x. x == line_feed) a b) ∙ h)).1

pub line_drop : (n : ℕ) (line : List ℕ) → IsLine line → IsLine (drop n line)
line_drop n line h = line_back (take n line) (drop n line) (rw (take-append-drop n line) h)

-- ---- strings that a line doesn't end

shift : (bs : List ℕ) (escaped : Bool) (m n : ℕ) → string_end bs escaped m ≡ None
    → string_end bs escaped n ≡ None
unfolding string_end
shift [] escaped m n h = refl
shift (b ∷ bs) true m n h = go (b == line_feed) h (shift bs false (m + 1) (n + 1))
  where
    go : (x : Bool) → cond x None (string_end bs false (m + 1)) ≡ None
        → (string_end bs false (m + 1) ≡ None → string_end bs false (n + 1) ≡ None)
        → cond x None (string_end bs false (n + 1)) ≡ None
    go true e ih = refl
    go false e ih = ih e
shift (b ∷ bs) false m n h = go (b == quote) h (shift bs (b == backslash) (m + 1) (n + 1))
  where
    go : (x : Bool) → cond x (Some (m + 1)) (string_end bs (b == backslash) (m + 1)) ≡ None
        → (string_end bs (b == backslash) (m + 1) ≡ None
        → string_end bs (b == backslash) (n + 1) ≡ None)
        → cond x (Some (n + 1)) (string_end bs (b == backslash) (n + 1)) ≡ None
    go true e ih = absurd cc
    go false e ih = ih e

-- where a string doesn't end, no quote in it begins one that does
inner : (a w : List ℕ) (escaped : Bool) (n : ℕ) → IsLine a
    → string_end (a ++ (quote ∷ w)) escaped n ≡ None → string_end w false 0 ≡ None
unfolding string_end
inner [] w true n l h = shift w false (n + 1) 0 h
inner [] w false n l h = absurd cc
inner (b ∷ a) w true n l h =
    let p = or_parts (b == line_feed) (list_any (λ x. x == line_feed) a) l in
    inner a w false (n + 1) p.1 (rw p.0 at h)
inner (b ∷ a) w false n l h = go (b == quote) h (inner a w (b == backslash) (n + 1)
    (or_parts (b == line_feed) (list_any (λ x. x == line_feed) a) l).1)
  where
    go : (x : Bool)
        → cond x (Some (n + 1)) (string_end (a ++ (quote ∷ w)) (b == backslash) (n + 1)) ≡ None
        → (string_end (a ++ (quote ∷ w)) (b == backslash) (n + 1) ≡ None
        → string_end w false 0 ≡ None)
        → string_end w false 0 ≡ None
    go true e ih = absurd cc
    go false e ih = ih e

string_unit : (v : List ℕ) → is_string_rest v ≡ true → IsUnit (quote ∷ v)
string_unit v h = token (rw h refl)

never_ends : (w : List ℕ) → BeginsNoUnit (quote ∷ w) → string_end w false 0 ≡ None
never_ends w h = go (string_end w false 0) refl
  where
    go : (r : Option ℕ) → string_end w false 0 ≡ r → r ≡ None
    go None e = refl
    go (Some m) e =
        let f = finds w (Some m) e in
        absurd (h (quote ∷ take m w) (string_unit (take m w) f.1.kind)
        (drop m w, ap (λ z. quote ∷ z) (sym (take-append-drop m w))))

begins_none : (w : List ℕ) → string_end w false 0 ≡ None → BeginsNoUnit (quote ∷ w)
begins_none w h [] k g = absurd (omega (arith, unit_nonempty [] k))
begins_none w h (b ∷ v) k g =
    let s = same_head quote b w v g in
    let c : class b ≡ 3 = rw (sym s.0) refl in
    let e : string_end w false 0 ≡ Some (0 + length v) =
    rw s.1.1 (complete v false s.1.0 0 (string_class v b k c)) in
    absurd (let f : None ≡ Some (0 + length v) = sym h ∙ e in cc)

-- after a quote whose string the line doesn't end
pub open_after : (w : List ℕ) → IsLine w → BeginsNoUnit (quote ∷ w) → HasNoString w
open_after w l h = λ front back e. begins_none back
    (inner front back false 0 (line_front front (quote ∷ back) (rw e at l))
    (subst (λ z. string_end z false 0 ≡ None) e (never_ends w h)))

pub open_still : (line : List ℕ) (n : ℕ) → HasNoString line → HasNoString (drop n line)
open_still line n h = λ front back e. h (take n line ++ front) back
    (sym (take-append-drop n line) ∙ ap (λ z. take n line ++ z) e
    ∙ sym (append_assoc (take n line) front (quote ∷ back)))

-- ---- from a line to its text

or_true : (b : Bool) → (b || true) ≡ true
or_true true = refl
or_true false = refl

and_false : (b : Bool) → (b && false) ≡ false
and_false true = refl
and_false false = refl

quote_of_class : (b : ℕ) → class b ≡ 3 → (b == quote) ≡ true
quote_of_class b h = grind (arith, nat_tests)

no_feed_within : (b : ℕ) (a m : List ℕ) → feedless (b ∷ (a ++ (line_feed ∷ m))) ≡ true → ⊥
no_feed_within b a m h =
    absurd (let e = next_passes (λ x. not (x == line_feed)) (b ∷ a) line_feed m h in cc)

-- only a string goes over the end of a line
crosses : (b : ℕ) (a m : List ℕ) → IsUnit (b ∷ (a ++ (line_feed ∷ m))) → (b == quote) ≡ true
crosses b a m k = elim k [
  | blank e ↦ elim (blank_feed (b ∷ (a ++ (line_feed ∷ m))) e) [
    | inl f ↦ absurd (omega (arith, ap length f, length-append a (line_feed ∷ m)))
    | inr f ↦ absurd (no_feed_within b a m f)
  ]
  | comment e ↦ absurd (no_feed_within b a m (comment_feedless (b ∷ (a ++ (line_feed ∷ m))) e))
  | token e ↦ quote_of_class b (token_no_feed b a m e).0
]

spans : (line tail v : List ℕ) → FollowsLine tail → line ≢ [] → BeginsNoUnit line
    → IsFirstUnit (line ++ tail) v → spans_lines v ≡ true
spans [] tail v t n h f = absurd (n refl)
spans (b ∷ a) tail v t n h f = elim (past (b ∷ a) tail v f.begins) [
  | inl l ↦ (let g = first_within (b ∷ a) tail v f l in absurd (h v g.kind g.begins))
  | inr p ↦ (
      let feed : p.next ≡ line_feed = rw p.is_rest at t in
      let is : v ≡ b ∷ (a ++ (line_feed ∷ p.more)) = rw feed at p.is in
      rw (
        is,
        crosses b a p.more (rw is at f.kind),
        list_any-append (λ x. x == line_feed) a (line_feed ∷ p.more),
      ) (or_true _))
]

unit_in_text : (line tail u : List ℕ) → FollowsLine tail → IsFirstUnit line u
    → IsFirstUnit (line ++ tail) u
unit_in_text line [] u t f = rw (append-nil line) f
unit_in_text line (b ∷ r) u t f = rw t (first_before_feed line r u f)

on_a_line : (u : List ℕ) → IsLine u → spans_lines u ≡ false
on_a_line [] h = refl
on_a_line (b ∷ u) h =
    rw (or_parts (b == line_feed) (list_any (λ x. x == line_feed) u) h).1 (and_false (b == quote))

boundary_in_text : (line tail : List ℕ) (n : ℕ) → FollowsLine tail → IsCharBoundary line n
    → IsCharBoundary (line ++ tail) n
boundary_in_text line tail n t b = (
  omega (arith, b.0, length-append line tail),
  λ l h. elim (cases_lt n (length line)) [
    | inl i ↦ (let e = get_or_append_left line tail 0 n i in rw e (b.1 i (rw e at h)))
    | inr i ↦ absurd (after tail t (omega (arith, i, b.0)) h l)
  ],
)
  where
    after : (tail : List ℕ) → FollowsLine tail → n ≡ length line
        → 128 ≤ get_or (line ++ tail) n 0 → n < length (line ++ tail) → ⊥
    after [] t e h l = omega (arith, l, e, length-append line [])
    after (c ∷ r) t e h l =
        let f : get_or (line ++ (c ∷ r)) n 0 ≡ c = rw e (get_or-append_seam line c r 0) in
        omega (arith, f, t, h)

character_in_text : (line tail : List ℕ) (n : ℕ) → FollowsLine tail → EndsCharacter line 0 n
    → EndsCharacter (line ++ tail) 0 n
character_in_text line tail n t c = record {
  after = c.after;
  boundary = boundary_in_text line tail n t c.boundary;
  nearest = λ i a l b. c.nearest i a l (
    omega (arith, l, c.boundary),
    λ m h.
        let e = get_or_append_left line tail 0 i m in rw (sym e)
        (b.1 (omega (arith, m, length-append line tail)) (rw e h)),
  );
}

pub passed_in_text : (line tail u : List ℕ) → IsLine line → FollowsLine tail → IsFirstInLine line u
    → IsPassed (line ++ tail) u
passed_in_text line tail u l t (inl f) = inl (
  unit_in_text line tail u t f,
  on_a_line u (line_front u f.begins.0 (rw (sym f.begins.1) l)),
)
passed_in_text line tail u l t (inr (h, c, e)) =
    let inside : length u ≤ length line = c.boundary.0 in
    inr (
      λ v f. spans line tail v t (λ n. omega (arith, ap length n, inside, c.after)) h f,
      character_in_text line tail (length u) t c,
      e ∙ sym (take-append-le (length u) line tail inside),
    )

pub inside_line : (line u : List ℕ) → IsFirstInLine line u → length u ≤ length line
inside_line line u (inl f) = begins_fits line u f.begins
inside_line line u (inr (h, c, e)) = c.boundary.0

not_semicolon : (u : List ℕ) → is_semicolon u ≡ false → u ≢ codes ";"
not_semicolon u h e = absurd (let f : is_semicolon u ≡ true = rw e refl in cc)

-- all that is passed over in a line
pub line_passed : (us : List (List ℕ)) (text : List ℕ) (at end : ℕ) (line tail rest : List ℕ)
    → IsUtf8 text → SoFar text at end → drop end text ≡ line ++ tail → IsLine line
    → FollowsLine tail → PassesInLine us line rest → list_any is_semicolon us ≡ false
    → SoFar text at (end + sum_by length us) × (drop (end + sum_by length us) text ≡ rest ++ tail)
line_passed [] text at end line tail rest k s e l t p n =
    let z : end + 0 ≡ end = omega arith in
    (subst (λ i. SoFar text at i) (sym z) s, ap (λ i. drop i text) z ∙ (e ∙ ap (λ x. x ++ tail) (sym p)))
line_passed (u ∷ us) text at end line tail rest k s e l t p n =
    let h = or_parts (is_semicolon u) (list_any is_semicolon us) n in
    let q : IsPassed (drop end text) u = rw e (passed_in_text line tail u l t p.0) in
    let z : (end + length u) + sum_by length us ≡ end + sum_by length (u ∷ us) = omega (arith, sum_by-cons length u us) in
    let next = goes_on text u (drop end text) at end s refl q (IsUtf8-drop text end k s.boundary)
    (not_semicolon u h.0) in
    let left : drop (end + length u) text ≡ drop (length u) line ++ tail =
    sym (drop-drop (length u) end text) ∙ (ap (drop (length u)) e
    ∙ drop-append-le (length u) line tail (inside_line line u p.0)) in
    subst (λ i. SoFar text at i × (drop i text ≡ rest ++ tail)) z
    (line_passed us text at (end + length u) (drop (length u) line) tail rest k next left
    (line_drop (length u) line l) t p.1 h.1)

-- ---- a whole line, and the line feed after it

module _ (text line : List ℕ) (at end : ℕ) (k : IsUtf8 text) (s : SoFar text at end)
    (f : IsFirstLine (drop end text) line) where
  whole : (h : HasNoSemicolon line) → end + sum_by length h.passed ≡ end + length line
  whole h =
      let r = line_passed h.passed text at end line f.tail [] k s f.parts f.is_line f.follows h.passes h.none in
      omega (
        arith,
        ap length r.1,
        length-drop (end + sum_by length h.passed) text,
        ap length f.parts,
        length-append line f.tail,
        length-drop end text,
        r.0.inside,
        s.inside,
      )

  pub line_ends : HasNoSemicolon line
      → SoFar text at (end + length line) × (drop (end + length line) text ≡ f.tail)
  line_ends h = subst (λ i. SoFar text at i × (drop i text ≡ f.tail)) (whole h)
      (line_passed h.passed text at end line f.tail [] k s f.parts f.is_line f.follows h.passes h.none)

  -- a place in the line is one in the text
  pub in_text : (n : ℕ) → n ≤ length line → end + n ≤ length text
  in_text n l = omega
      (arith, l, s.inside, ap length f.parts, length-append line f.tail, length-drop end text)

  pub semicolon_stops : (n : ℕ) → EndsSemicolon line n → Resumes text at (end + n)
  semicolon_stops n x =
      let rest = codes ";" ++ drop n line in
      let r = line_passed x.before text at end line f.tail rest k s f.parts f.is_line f.follows x.passes x.none in
      let now = end + sum_by length x.before in
      let q : IsPassed (drop now text) (codes ";") =
      rw r.1 (passed_in_text rest f.tail (codes ";") (line_drop n line f.is_line) f.follows x.semicolon) in
      let z : now + 1 ≡ end + n = omega (arith, x.place) in
      subst (λ i. Resumes text at i) z
      (stops_here text (codes ";") (drop now text) at now r.0 refl q
      (IsUtf8-drop text now k r.0.boundary) refl)

-- the line feed after the line
pub feed_passed : (text tail : List ℕ) (at end : ℕ) → IsUtf8 text → SoFar text at end
    → drop end text ≡ tail → FollowsLine tail → end ≢ length text → SoFar text at (end + 1)
feed_passed text [] at end k s e t n =
    absurd (n (omega (arith, ap length e, length-drop end text, s.inside)))
feed_passed text (b ∷ r) at end k s e t n =
    let q : IsPassed (drop end text) (line_feed ∷ []) =
    rw (e, t) (inl (blank_first (line_feed ∷ []) r feed_blank, refl)) in
    goes_on text (line_feed ∷ []) (drop end text) at end s refl q
    (IsUtf8-drop text end k s.boundary) (λ h. absurd cc)

-- ---- the loop over a line

-- passed over so far in a line; no `;` is among them
pub record SoFarInLine (line : List ℕ) (at : ℕ) (is_open : Bool) : Type 0 where
  pub passed : List (List ℕ)
  pub passes : PassesInLine passed line (drop at line)
  pub place : at ≡ sum_by length passed
  pub none : list_any is_semicolon passed ≡ false
  pub inside : at ≤ length line
  pub boundary : IsCharBoundary line at
  pub unended : is_open ≡ true → HasNoString (drop at line)

pub line_start : (line : List ℕ) → IsUtf8 line → SoFarInLine line 0 false
line_start line k = record {
  passed = [];
  passes = refl;
  place = refl;
  none = refl;
  inside = omega arith;
  boundary = IsCharBoundary-start line k;
  unended = λ h. absurd cc;
}

one_more : (us : List (List ℕ)) (u line rest : List ℕ) → PassesInLine us line rest
    → IsFirstInLine rest u → PassesInLine (us ++ u ∷ []) line (drop (length u) rest)
one_more [] u line rest e p = (subst (λ z. IsFirstInLine z u) e p, ap (drop (length u)) e)
one_more (v ∷ us) u line rest h p = (h.0, one_more us u (drop (length v) line) rest h.1 p)

-- the line begins with what is passed over first
begins : (rest u : List ℕ) → IsFirstInLine rest u → rest ≡ u ++ drop (length u) rest
begins rest u (inl f) = after_unit rest u f
begins rest u (inr (h, c, e)) =
    sym (take-append-drop (length u) rest) ∙ ap (λ z. z ++ drop (length u) rest) (sym e)

lone_quote : (rest : List ℕ) → IsFirstInLine rest (quote ∷ []) → BeginsNoUnit rest
lone_quote rest (inl f) = absurd (let e = string_class [] quote f.kind refl in cc)
lone_quote rest (inr (h, c, e)) = h

nonempty_in_line : (rest u : List ℕ) → IsFirstInLine rest u → 0 < length u
nonempty_in_line rest u (inl f) = unit_nonempty u f.kind
nonempty_in_line rest u (inr (h, c, e)) = c.after

boundary_in_line : (rest u : List ℕ) → IsUtf8 rest → IsFirstInLine rest u
    → IsCharBoundary rest (length u)
boundary_in_line rest u k (inl f) = unit_boundary rest u k f
boundary_in_line rest u k (inr (h, c, e)) = c.boundary

module _ (line rest u : List ℕ) (at : ℕ) (is_open : Bool) (k : IsUtf8 line) (l : IsLine line)
    (s : SoFarInLine line at is_open) (r : rest ≡ drop at line) (p : IsFirstInLine rest u) where
  in_line : length u ≤ length rest
  in_line = inside_line rest u p

  after : drop (length u) rest ≡ drop (at + length u) line
  after = ap (drop (length u)) r ∙ drop-drop (length u) at line

  pub semicolon_found : u ≡ codes ";" → EndsSemicolon line (at + length u)
  semicolon_found h =
      let e : rest ≡ codes ";" ++ drop (at + length u) line =
      begins rest u p ∙ ap (λ z. z ++ drop (length u) rest) h ∙ ap (λ z. codes ";" ++ z) after in
      record {
        before = s.passed;
        passes = rw (sym e, r) s.passes;
        semicolon = subst (λ z. IsFirstInLine z (codes ";")) e (subst (IsFirstInLine rest) h p);
        place = omega (arith, s.place, ap length h);
        inside = omega (arith, s.inside, in_line, ap length r, length-drop at line);
        none = s.none;
      }

  pub line_further : length line - (at + length u) < length line - at
  line_further = omega
      (arith, s.inside, in_line, ap length r, length-drop at line, nonempty_in_line rest u p)

  open_next : (b : Bool) → (b ≡ true → u ≡ quote ∷ []) → (is_open || b) ≡ true
      → HasNoString (drop (at + length u) line)
  open_next b h o = elim (or_cases is_open b o) [
    | inl i ↦ rw (sym (drop-drop (length u) at line)) (open_still (drop at line) (length u) (s.unended i))
    | inr i ↦ (
        let e = h i in
        let q : BeginsNoUnit rest = lone_quote rest (rw e at p) in
        let w = drop (length u) rest in
        let is : rest ≡ quote ∷ w = begins rest u p ∙ ap (λ z. z ++ w) e in
        let m : IsLine w = line_drop (length u) rest (rw r (line_drop at line l)) in
        rw (sym after) (open_after w m (rw is at q)))
  ]

  pub line_goes_on : (b : Bool) → (b ≡ true → u ≡ quote ∷ []) → u ≢ codes ";"
      → SoFarInLine line (at + length u) (is_open || b)
  line_goes_on b h n = record {
    passed = s.passed ++ u ∷ [];
    passes = rw (sym after) (one_more s.passed u line rest (rw r s.passes) p);
    place = omega (arith, s.place, sum_by-append length s.passed (u ∷ []));
    none = rw (list_any-append is_semicolon s.passed (u ∷ []), s.none, differs u (codes ";") n) refl;
    inside = omega (arith, s.inside, in_line, ap length r, length-drop at line);
    boundary = IsCharBoundary-from_rest line at (length u) s.inside
        (rw (sym r) (boundary_in_line rest u (rw r (IsUtf8-drop line at k s.boundary)) p));
    unended = open_next b h;
  }

pub line_done : (line : List ℕ) (at : ℕ) (is_open : Bool) → SoFarInLine line at is_open
    → length line ≤ at → HasNoSemicolon line
line_done line at is_open s l = record {
  passed = s.passed;
  passes = subst (PassesInLine s.passed line) (drop_of_length-le line l) s.passes;
  none = s.none;
}

-- ---- the first line of a text

without_feed : (line : List ℕ) → ((k : ℕ) → k < length line → get_or line k 0 ≢ line_feed)
    → IsLine line
without_feed [] h = refl
without_feed (b ∷ line) h = rw (ne_eqb b line_feed (h 0 (omega arith)))
    (without_feed line (λ k l. h (suc k) (omega (arith, l))))

pub line_before : (text : List ℕ) (x : Bor (List ℕ) × Bor (List ℕ))
    → IsSplitOnceResult line_feed text (Some x) → IsFirstLine text x.0.now
line_before text x h =
    let m = split_parts line_feed text (Some x) h (omega arith) in
    record {
      is_line = without_feed x.0.now m.1;
      tail = line_feed ∷ x.1.now;
      parts = m.0;
      follows = refl;
    }

pub only_line : (text : List ℕ) → IsSplitOnceResult line_feed text None → IsFirstLine text text
only_line text h = record {
  is_line = without_feed text (split_parts line_feed text None h (omega arith));
  tail = [];
  parts = sym (append-nil text);
  follows = tt;
}

-- the text begins with a quote
pub from_quote : (text : List ℕ) → text ≢ [] → get_or text 0 0 ≡ quote
    → text ≡ quote ∷ drop 1 text
from_quote [] n e = absurd (n refl)
from_quote (b ∷ text) n e = ap (λ z. z ∷ text) e

pub in_line_unit : (line : List ℕ) (n : ℕ) → FindsLongest IsUnit line (Some n)
    → IsFirstInLine line (take n line)
in_line_unit line n f = inl f.1

pub in_line_character : (line : List ℕ) (n : ℕ) → FindsLongest IsUnit line None
    → EndsCharacter line 0 n → n ≤ length line → IsFirstInLine line (take n line)
in_line_character line n f c l =
    let e : length (take n line) ≡ n = length-take-le n line l in
    inr (f, subst (λ z. EndsCharacter line 0 z) (sym e) c, ap (λ z. take z line) (sym e))

pub line_of : (text rest line : List ℕ) (end : ℕ) → rest ≡ drop end text → IsFirstLine rest line
    → IsFirstLine (drop end text) line
line_of text rest line end e f = subst (λ z. IsFirstLine z line) e f
