-- Cleaning keeps the decorated list of every text that splits.
use Rattle.std.proofs.Common.{◌≡◌, ℕ, suc, ◌<◌, ◌≤◌, Bool, true, false, not, ◌||◌, ◌==◌, inl, inr, List, [], ◌∷◌, ◌++◌, Some, length, take, drop, refl, ap, arith, sym, ◌∙◌, subst, append_assoc, append-nil, length-append}
use Rattle.std.specs.Prelude.{⊤}
use Rattle.std.specs.List.{list_all, concat}
use Rattle.std.specs.Char.{is_ascii_digit, encode_utf8}
use Rattle.std.proofs.Math.Seq.{drop-append_seam}
use Rattle.std.proofs.lemmas.Str.{encode_ascii}
use Rattle.std.proofs.lemmas.Bool.Decides.{nat_tests, Decides-eqb}
use Rattle.std.proofs.lemmas.Bool.{or_cases, and_parts}
use Rattle.std.proofs.lemmas.List.Folds.{concat-append}
use Rattle.cedar_tokens.specs.Bytes.{line_feed, quote, slash}
use Rattle.cedar_tokens.specs.Units.{BeginsWith, IsLongest, IsToken, IsUnit, blank, comment, token, is_string, is_comment, is_string_rest, is_word_byte, slots, punctuators, IsFirstUnit}
use Rattle.cedar_tokens.specs.Split.{Scans, SplitsInto}
use Rattle.cedar_tokens.specs.Listing.{listing}
use Rattle.cedar_tokens.proofs.Prefixes.{begins_fits, begins_take}
use Rattle.cedar_tokens.proofs.Heads.{class, class-blank, word, number, string, slot, punctuator, token_of, one_of, token_class}
use Rattle.cedar_tokens.proofs.Longest.{clash, is_token-string}
use Rattle.cedar_tokens.proofs.FirstUnit.{comment_parts, unit_nonempty}
use Rattle.cedar_tokens.proofs.UnitsSoFar.{scans_concat}
use Rattle.cedar_laws.specs.CleaningLaws.{is_solid, Thinned}
use Rattle.cedar_layout.specs.Cleaning.{IsKept, NoneBegins, Cut, last_piece, more_pieces, clean_piece}
use Rattle.cedar_laws.proofs.Units.{Past, past, next_passes, no_slashes, punctuators_no_slashes}
use Rattle.cedar_laws.proofs.Scanned.{begins_within, token_no_feed, string_class}
use Rattle.cedar_laws.proofs.BlankLines.{AreUnits, units_parts, lacks, blank_is_byte, Plain, AllPlain, in_line, lined, lined_append, token_solid, comment_solid, thinned_same, thinned_append, thinned_twice, feed_other, blank_feed}
use Rattle.cedar_layout.proofs.Seeking.{comment_kept}
use Rattle.cedar_tokens.proofs.Lists.{all_more}

quote_of_class : (b : ℕ) → class b ≡ 3 → (b == quote) ≡ true
quote_of_class b c = grind (arith, nat_tests)

kept_by : (b : ℕ) (x : List ℕ) → class b ≡ 3 → is_string_rest x ≡ true → IsKept (b ∷ x)
kept_by b x c a = rw (quote_of_class b c, a) refl

-- a unit that is neither a string nor a comment
pub plain_unit : (u : List ℕ) → IsUnit u → (IsKept u → ⊥) → Plain u
plain_unit u k none = elim k [
  | blank e ↦ record { kind = inl e; feed = blank_feed u e }
  | comment e ↦ absurd (none (comment_kept u e))
  | token t ↦ record {
    kind = inr t;
    feed = inr (all_more (λ x. not (line_feed == x)) (λ x. not (x == line_feed)) feed_other u
        (lacks line_feed u (λ w v e. token_feed w v e t)));
  }
]
  where
    token_feed : (w v : List ℕ) → u ≡ w ++ (line_feed ∷ v) → IsToken u → ⊥
    token_feed [] v e t =
        let r : IsToken (line_feed ∷ v) = rw e at t in
        let z = token_class line_feed v (token_of line_feed v r) in
        omega (arith, z)
    token_feed (b ∷ w) v e t =
        let r : IsToken (b ∷ (w ++ (line_feed ∷ v))) = rw e at t in
        let h = token_no_feed b w v r in
        none (rw e (kept_by b (w ++ (line_feed ∷ v)) h.0 h.1))

-- the first byte of a string or a comment
abbrev is_mark : ℕ → Bool
is_mark d = d == quote || d == slash

abbrev StartsKept : List ℕ → Type 0
StartsKept [] = ⊤
StartsKept (d ∷ t) = is_mark d ≡ true

abbrev markless : List ℕ → Bool
markless u = list_all (λ x. not (is_mark x)) u

abbrev markless_tail : List ℕ → Bool
markless_tail [] = true
markless_tail (a ∷ u) = markless u

slots_markless : list_all markless_tail slots ≡ true
unfolding slots
slots_markless = refl

punctuators_markless : list_all markless_tail punctuators ≡ true
unfolding punctuators
punctuators_markless = refl

mark_no_word : (d : ℕ) → is_mark d ≡ true → is_word_byte d ≡ true → ⊥
mark_no_word d h k = elim (or_cases (d == quote) (d == slash) h) [
  | inl e ↦ absurd (let f : is_word_byte quote ≡ true = rw ((Decides-eqb d quote).0 e) at k in cc)
  | inr e ↦ absurd (let f : is_word_byte slash ≡ true = rw ((Decides-eqb d slash).0 e) at k in cc)
]

mark_no_digit : (d : ℕ) → is_mark d ≡ true → is_ascii_digit d ≡ true → ⊥
mark_no_digit d h k = elim (or_cases (d == quote) (d == slash) h) [
  | inl e ↦ absurd (let f : is_ascii_digit quote ≡ true = rw ((Decides-eqb d quote).0 e) at k in cc)
  | inr e ↦ absurd (let f : is_ascii_digit slash ≡ true = rw ((Decides-eqb d slash).0 e) at k in cc)
]

mark_low : (d : ℕ) → is_mark d ≡ true → d < 128
mark_low d h = grind (arith, nat_tests)

-- no other unit contains the first byte of a string or a comment
crosses : (b : ℕ) (w : List ℕ) (d : ℕ) (v : List ℕ) → IsUnit (b ∷ (w ++ (d ∷ v)))
    → (IsKept (b ∷ (w ++ (d ∷ v))) → ⊥) → is_mark d ≡ true → ⊥
crosses b w d v k none m = elim k [
  | blank e ↦ (let f = blank_is_byte (b ∷ (w ++ (d ∷ v))) (b ∷ w) v d (mark_low d m) e refl in
      let g : b ∷ (w ++ (d ∷ v)) ≡ d ∷ [] =
      e.2 ∙ (ap encode_utf8 f ∙ encode_ascii d (mark_low d m)) in
      let n = ap length g in omega (arith, n, length-append w (d ∷ v)))
  | comment e ↦ none (comment_kept (b ∷ (w ++ (d ∷ v))) e)
  | token t ↦ elim (token_of b (w ++ (d ∷ v)) t) [
    | word _ a ↦ mark_no_word d m (next_passes is_word_byte w d v a)
    | number _ a ↦ mark_no_digit d m (next_passes is_ascii_digit w d v a)
    | string c a ↦ none (kept_by b (w ++ (d ∷ v)) c a)
    | slot _ a ↦ absurd (let e = next_passes (λ x. not (is_mark x)) w d v (one_of markless_tail
        slots (b ∷ (w ++ (d ∷ v))) slots_markless a) in let f : not true ≡ true = rw m at e in cc)
    | punctuator _ _ a ↦
        absurd (let e = next_passes (λ x. not (is_mark x)) w d v (one_of markless_tail punctuators
        (b ∷ (w ++ (d ∷ v))) punctuators_markless a) in let f : not true ≡ true = rw m at e in cc)
  ]
]

none_drop : (u m t : List ℕ) → NoneBegins (u ++ m) t → NoneBegins m t
none_drop [] m t n = n
none_drop (b ∷ u) m t n = none_drop u m t n.1

-- the units of a piece
record PieceUnits (m t : List ℕ) (rs : List (List ℕ)) : Type 0 where
  piece : List (List ℕ)
  rest : List (List ℕ)
  are : rs ≡ piece ++ rest
  text : concat piece ≡ m
  plain : AllPlain piece
  scan : Scans rest t []

piece_units : (rs : List (List ℕ)) (m t : List ℕ) → NoneBegins m t → StartsKept t
    → Scans rs (m ++ t) [] → PieceUnits m t rs
piece_units rs [] t n k s =
    record { piece = []; rest = rs; are = refl; text = refl; plain = tt; scan = s }
piece_units [] (b ∷ m) t n k s = absurd cc
piece_units (u ∷ rs) (b ∷ m) t n k s = elim (past (b ∷ m) t u s.0.begins) [
  | inl l ↦ within (begins_within (b ∷ m) t u s.0.begins l)
      (λ x e. piece_units rs x t (none_drop u x t (subst (λ z. NoneBegins z t) e n)) k)
  | inr p ↦ absurd (over p)
]
  where
    none : IsKept u → ⊥
    none q = n.0 u q s.0.begins

    starts : (d : ℕ) (x : List ℕ) → t ≡ d ∷ x → is_mark d ≡ true
    starts d x e = rw e at k

    over : Past (b ∷ m) t u → ⊥
    over p = crosses b m p.next p.more (rw p.is at s.0.kind) (λ q. none (rw p.is q))
        (starts p.next p.rest p.is_rest)

    within : BeginsWith (b ∷ m) u
        → ((x : List ℕ) → b ∷ m ≡ u ++ x → Scans rs (x ++ t) [] → PieceUnits x t rs)
        → PieceUnits (b ∷ m) t (u ∷ rs)
    within g go =
        let e : drop (length u) (b ∷ (m ++ t)) ≡ g.0 ++ t = ap (λ z. drop (length u) (z ++ t)) g.1
        ∙ (ap (drop (length u)) (append_assoc u g.0 t) ∙ drop-append_seam u (g.0 ++ t)) in
        let q = go g.0 g.1 (rw e at s.1) in
        record {
          piece = u ∷ q.piece;
          rest = q.rest;
          are = ap (λ z. u ∷ z) q.are;
          text = ap (λ z. u ++ z) q.text ∙ sym g.1;
          plain = (plain_unit u s.0.kind none, q.plain);
          scan = q.scan;
        }

-- ---- the string or comment after a piece

first_mark : (s r : List ℕ) → IsKept s → StartsKept (s ++ r)
first_mark [] r k = absurd cc
first_mark (b ∷ s) r k = elim (or_cases (is_string (b ∷ s)) (is_comment (b ∷ s)) k) [
  | inl e ↦ rw (and_parts (b == quote) (is_string_rest s) e).0 refl
  | inr e ↦ by_comment s e
]
  where
    by_comment : (s : List ℕ) → is_comment (b ∷ s) ≡ true → is_mark b ≡ true
    by_comment [] e = absurd cc
    by_comment (c ∷ s) e = rw (comment_parts b c s e).0 refl

pub kept_unit : (s : List ℕ) → IsKept s → IsUnit s
kept_unit s k = elim (or_cases (is_string s)
    (is_comment s) k) [ inl e ↦ token (is_token-string s e) | inr e ↦ comment e ]

slashes_no_token : (v : List ℕ) → IsToken (slash ∷ (slash ∷ v)) → ⊥
slashes_no_token v t =
    let five : class slash ≡ 5 = refl in
    elim (token_of slash (slash ∷ v) t) [
      | punctuator _ _ a ↦ (let e : false ≡ true =
          one_of no_slashes punctuators (slash ∷ (slash ∷ v)) punctuators_no_slashes a in absurd cc)
      | word c2 _ ↦ clash five c2 refl
      | number c2 _ ↦ clash five c2 refl
      | string c2 _ ↦ clash five c2 refl
      | slot c2 _ ↦ clash five c2 refl
    ]

-- a unit as long as a string or comment at its place is that string or comment
pub kept_too : (text s u : List ℕ) → IsKept s → BeginsWith text s → IsUnit u → BeginsWith text u
    → length s ≤ length u → IsKept u
kept_too text [] u k g n h l = absurd cc
kept_too text (b ∷ s) [] k g n h l = absurd (omega (arith, l))
kept_too text (b ∷ s) (c ∷ u) k g n h l =
    elim (or_cases (is_string (b ∷ s)) (is_comment (b ∷ s)) k) [
      | inl e ↦ by_string ((Decides-eqb b quote).0 (and_parts (b == quote) (is_string_rest s) e).0)
      | inr e ↦ by_comment s e g l
    ]
  where
    same : b ≡ c
    same = let e = sym g.1 ∙ h.1 in cc

    by_string : b ≡ quote → IsKept (c ∷ u)
    by_string e =
        let f : c ≡ quote = sym same ∙ e in
        let q : class c ≡ 3 = rw f refl in
        kept_by c u q (string_class u c n q)

    by_comment : (s : List ℕ) → is_comment (b ∷ s) ≡ true → BeginsWith text (b ∷ s)
        → suc (length s) ≤ suc (length u) → IsKept (c ∷ u)
    by_comment [] e g l = absurd cc
    by_comment (d ∷ s) e g l = two u h n l
      where
        two : (u : List ℕ) → BeginsWith text (c ∷ u) → IsUnit (c ∷ u)
            → suc (suc (length s)) ≤ suc (length u) → IsKept (c ∷ u)
        two [] h n l = absurd (omega (arith, l))
        two (x ∷ u) h n l =
            let p = comment_parts b d s e in
            let f : b ∷ (d ∷ (s ++ g.0)) ≡ c ∷ (x ∷ (u ++ h.0)) = sym g.1 ∙ h.1 in
            let fc : b ≡ c = cc in
            let fx : d ≡ x = cc in
            let ec : c ≡ slash = sym fc ∙ p.0 in
            let ex : x ≡ slash = sym fx ∙ p.1 in
            elim n [
              | blank q ↦ absurd (let z = class-blank c (x ∷ u) q in let y : class slash ≡ 0 =
                  rw ec at z in omega (arith, y))
              | comment q ↦ comment_kept (c ∷ (x ∷ u)) q
              | token q ↦ absurd (slashes_no_token u (rw (ec, ex) at q))
            ]

kept_is_first : (s r u : List ℕ) → IsLongest IsKept (s ++ r) s → IsFirstUnit (s ++ r) u → u ≡ s
kept_is_first s r u k f =
    let a = f.longest s (kept_unit s k.kind) k.begins in
    let b = k.longest u (kept_too (s ++ r) s u k.kind k.begins f.kind f.begins a) f.begins in
    let n : length u ≡ length s = omega (arith, a, b) in
    begins_take (s ++ r) u f.begins
    ∙ (ap (λ n. take n (s ++ r)) n ∙ sym (begins_take (s ++ r) s k.begins))

-- ---- the whole text

pub record Cleans (us : List (List ℕ)) (y : List ℕ) : Type 0 where
  pub units : List (List ℕ)
  pub is : concat units ≡ y
  pub are_units : AreUnits units
  pub list : listing units ≡ listing us
  pub thinned : Thinned us units
  pub ended : Bool
  pub lined : lined false units ≡ Some ended

pub nothing_left : (us : List (List ℕ)) → Scans us [] [] → us ≡ []
nothing_left [] s = refl
nothing_left (u ∷ us) s =
    absurd (omega (arith, unit_nonempty u s.0.kind, begins_fits [] u s.0.begins))

kept_solid : (s : List ℕ) → IsKept s → is_solid s ≡ true
kept_solid s k = elim (or_cases (is_string s)
    (is_comment s) k) [ inl e ↦ token_solid s (is_token-string s e) | inr e ↦ comment_solid s e ]

pub cut_units : {r z : List ℕ} → Cut r z → (ps rs : List (List ℕ)) → lined false ps ≡ Some false
    → AreUnits (ps ++ rs) → concat rs ≡ r → Cleans (ps ++ rs) (concat ps ++ z)
cut_units (last_piece m n) ps rs w p e =
    let s : Scans rs (m ++ []) [] =
    rw (append-nil m) (subst (λ z. Scans rs z []) e (units_parts ps rs p).1) in
    let q = piece_units rs m [] n tt s in
    let none = nothing_left q.rest q.scan in
    let a : ps ++ rs ≡ ps ++ q.piece =
    ap (λ z. ps ++ z) (q.are ∙ (ap (λ z. q.piece ++ z) none ∙ append-nil q.piece)) in
    let i = in_line q.piece ps [] q.plain w
    (subst (λ z. AreUnits z) (a ∙ sym (append-nil (ps ++ q.piece))) p) in
    record {
      units = i.units;
      is = i.is ∙ ap (λ z. concat ps ++ clean_piece z) q.text;
      are_units = rw (append-nil i.units) at i.are_units;
      list = ap listing (sym (append-nil i.units))
          ∙ (i.list ∙ ap listing (append-nil (ps ++ q.piece) ∙ sym a));
      thinned = subst (λ z. Thinned z i.units) (sym a) i.thinned;
      ended = i.ended;
      lined = i.lined;
    }
cut_units (more_pieces m s r y n k c) ps rs w p e =
    let t : Scans rs (m ++ (s ++ r)) [] = subst (λ z. Scans rs z []) e (units_parts ps rs p).1 in
    let q = piece_units rs m (s ++ r) n (first_mark s r k.kind) t in
    following q.piece q.rest q.are q.text q.plain q.scan (λ us vs w p e. cut_units c us vs w p e)
  where
    following : (piece rest : List (List ℕ)) → rs ≡ piece ++ rest → concat piece ≡ m
        → AllPlain piece
        → Scans rest (s ++ r) []
        → ((us vs : List (List ℕ)) → lined false us ≡ Some false → AreUnits (us ++ vs) → concat vs
        ≡ r
        → Cleans (us ++ vs) (concat us ++ y))
        → Cleans (ps ++ rs) (concat ps ++ (clean_piece m ++ (s ++ y)))
    following piece [] a t l g go = absurd (let f = unit_nonempty s (kept_unit s k.kind) in let n =
        ap length g in omega (arith, f, n, length-append s r))
    following piece (u ∷ rest) a t l g go =
        let same : u ≡ s = kept_is_first s r u k g.0 in
        let after : Scans rest r [] = subst (λ z. Scans rest z [])
        (ap (λ z. drop (length z) (s ++ r)) same ∙ drop-append_seam s r) g.1 in
        let b : ps ++ rs ≡ (ps ++ piece) ++ (u ∷ rest) =
        ap (λ z. ps ++ z) a ∙ sym (append_assoc ps piece (u ∷ rest)) in
        let i = in_line piece ps (u ∷ rest) l w (subst (λ z. AreUnits z) b p) in
        let d : i.units ++ (u ∷ rest) ≡ (i.units ++ (u ∷ [])) ++ rest =
        sym (append_assoc i.units (u ∷ []) rest) in
        let solid : is_solid u ≡ true = kept_solid u (rw same k.kind) in
        let v : lined false (i.units ++ (u ∷ [])) ≡ Some false =
        lined_append i.units (u ∷ []) false i.ended i.lined ∙ rw solid refl in
        let j = go (i.units ++ (u ∷ [])) rest v (subst (λ z. AreUnits z) d i.are_units)
        (sym (scans_concat rest r [] after ∙ append-nil (concat rest))) in
        let front : concat (i.units ++ (u ∷ [])) ≡ (concat ps ++ clean_piece m) ++ s =
        concat-append i.units (u ∷ []) ∙ (ap (λ z. concat i.units ++ z) (append-nil u ∙ same)
        ∙ ap (λ z. z ++ s) (i.is ∙ ap (λ z. concat ps ++ clean_piece z) t)) in
        let text : concat (i.units ++ (u ∷ [])) ++ y ≡ concat ps ++ (clean_piece m ++ (s ++ y)) =
        ap (λ z. z ++ y) front ∙ regroup (concat ps) (clean_piece m) s y in
        record {
          units = j.units;
          is = j.is ∙ text;
          are_units = j.are_units;
          list = j.list ∙ (ap listing (sym d) ∙ (i.list ∙ ap listing (sym b)));
          thinned = thinned_twice (subst (λ z. Thinned z (i.units ++ (u ∷ rest))) (sym b)
              (thinned_append i.thinned (thinned_same (u ∷ rest))))
              (subst (λ z. Thinned z j.units) (sym d) j.thinned);
          ended = j.ended;
          lined = j.lined;
        }
      where
        regroup : (a b c d : List ℕ) → ((a ++ b) ++ c) ++ d ≡ a ++ (b ++ (c ++ d))
        regroup a b c d = simp append_assoc

-- the units of the text without the blank lines of its pieces
pub cut_cleans : (x z : List ℕ) (us : List (List ℕ)) → Cut x z → SplitsInto x us → Cleans us z
cut_cleans x z us c s =
    let e : concat us ≡ x = sym (append-nil (concat us)) ∙ sym (scans_concat us x [] s) in
    cut_units c [] us refl (subst (λ y. SplitsInto y us) (sym e) s) e
