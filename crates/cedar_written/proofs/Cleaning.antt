-- Cleaning by units is cleaning by the pieces between strings and comments.
use Rattle.std.proofs.Common.{◌≡◌, ℕ, ◌<◌, Bool, true, false, cond, not, ◌&&◌, ◌||◌, ◌==◌, inl, inr, List, [], ◌∷◌, ◌++◌, length, drop, refl, ap, arith, sym, ◌∙◌, subst, append_assoc, append-nil, length-append}
use Rattle.std.specs.Prelude.{⊤}
use Rattle.std.specs.List.{filter, list_all, list_any, take_while, concat}
use Rattle.std.specs.Char.{is_whitespace, is_ascii_digit, encode_utf8}
use Rattle.std.specs.Str.{chars, trim}
use Rattle.std.proofs.Math.Seq.{drop-append_seam}
use Rattle.std.proofs.lemmas.Str.{encode_ascii, chars-nil}
use Rattle.std.proofs.lemmas.Bool.Decides.{nat_tests, Decides-eqb}
use Rattle.std.proofs.lemmas.Bool.{or_cases, and_parts, not-true, false_from_ne_true}
use Rattle.std.proofs.lemmas.List.Folds.{concat-append}
use Rattle.std.proofs.lemmas.List.Sums.{take_while-cons}
use Rattle.cedar_tokens.specs.Bytes.{line_feed, space_character, quote, slash}
use Rattle.cedar_tokens.specs.Units.{BeginsNone, IsBlank, IsToken, IsUnit, blank, comment, token, is_string, is_comment, is_string_rest, is_word_byte, slots, punctuators, IsFirstUnit}
use Rattle.cedar_tokens.specs.Split.{Scans, SplitsInto}
use Rattle.cedar_tokens.proofs.Heads.{class, word, number, string, slot, punctuator, token_of, one_of}
use Rattle.cedar_tokens.proofs.FirstUnit.{comment_parts}
use Rattle.cedar_tokens.proofs.Lists.{All-append}
use Rattle.cedar_layout.specs.Cleaning.{IsKept, NoneBegins, Cut, last_piece, more_pieces, clean_piece, clean_lines, piece_lines, is_blank_line, last_byte_or, without_blank_lines as without_lines, IsCleaned as IsCleanedByPieces}
use Rattle.cedar_layout.proofs.Seeking.{comment_kept}
use Rattle.cedar_laws.specs.CleaningLaws.{is_solid}
use Rattle.cedar_laws.proofs.Units.{next_passes}
use Rattle.cedar_laws.proofs.BlankLines.{Plain, AllPlain, onto, lines_onto, feedless, blank_is_byte, blank_not_solid, feed_not_solid, token_solid, comment_solid, chars_low, chars_blank, white_token}
use Rattle.cedar_laws.proofs.CleanedLists.{plain_unit, kept_unit, kept_too}
use Rattle.cedar_laws.proofs.Cutting.{cleaned_once}
use Rattle.cedar_tokens.proofs.Longest.{is_token-string}
use Rattle.cedar_written.specs.Cleaning.{is_blank, is_feed, without_blank_lines, CleaningsAgree}

-- ---- a piece

-- a line feed is among the blanks that the units begin with
abbrev feeds : List (List ℕ) → Bool
feeds us = list_any is_feed (take_while is_blank us)

feeds_more : (u : List ℕ) (us : List (List ℕ))
    → feeds (u ∷ us) ≡ (is_blank u && (is_feed u || feeds us))
feeds_more u us = ap (list_any is_feed) (take_while-cons is_blank u us) ∙ go (is_blank u)
  where
    go : (b : Bool) → list_any is_feed (cond b (u ∷ take_while is_blank us) [])
        ≡ (b && (is_feed u || feeds us))
    go true = refl
    go false = refl

-- the first of some lines, and the others
abbrev first : List (List ℕ) → List ℕ
first [] = []
first (l ∷ ls) = l

abbrev others : List (List ℕ) → List (List ℕ)
others [] = []
others (l ∷ ls) = ls

onto_first : (u : List ℕ) (ls : List (List ℕ)) → first (onto u ls) ≡ u ++ first ls
onto_first u [] = sym (append-nil u)
onto_first u (l ∷ ls) = refl

onto_others : (u : List ℕ) (ls : List (List ℕ)) → others (onto u ls) ≡ others ls
onto_others u [] = refl
onto_others u (l ∷ ls) = refl

clean_first : (ls : List (List ℕ)) → clean_lines ls ≡ first ls ++ without_lines (others ls)
clean_first [] = refl
clean_first (l ∷ ls) = refl

without_first : (ls : List (List ℕ)) → without_lines ls
    ≡ cond (is_blank_line (first ls)) (without_lines (others ls))
    (first ls ++ without_lines (others ls))
without_first [] = refl
without_first (l ∷ ls) = go (is_blank_line l) (filter (λ l. not (is_blank_line l)) ls)
  where
    go : (b : Bool) (ks : List (List ℕ))
        → concat (cond (not b) (l ∷ ks) ks) ≡ cond b (concat ks) (l ++ concat ks)
    go true ks = refl
    go false ks = refl

-- what follows a piece: nothing, or a unit that is a token or a comment
abbrev Solid : List (List ℕ) → Type 0
Solid [] = ⊤
Solid (u ∷ us) = is_solid u ≡ true

solid_no_feed : (u : List ℕ) → is_solid u ≡ true → is_feed u ≡ false
solid_no_feed [] h = refl
solid_no_feed (b ∷ []) h = false_from_ne_true (b == line_feed) (λ e.
    (let f : is_solid (line_feed ∷ []) ≡ true = rw ((Decides-eqb b line_feed).0 e) at h in
    let g : true ≡ false = sym f ∙ feed_not_solid in absurd cc))
solid_no_feed (b ∷ (c ∷ u)) h = refl

feedless_no_feed : (u : List ℕ) → feedless u ≡ true → is_feed u ≡ false
feedless_no_feed [] h = refl
feedless_no_feed (b ∷ []) h = not-true (b == line_feed) (and_parts (not (b == line_feed)) true h).0
feedless_no_feed (b ∷ (c ∷ u)) h = refl

solid_feeds : (us : List (List ℕ)) → Solid us → feeds us ≡ false
solid_feeds [] h = refl
solid_feeds (u ∷ us) h = rw (feeds_more u us, h) refl

-- a unit that is neither a line feed nor first on its line is written
solid_stays : (u : List ℕ) (us : List (List ℕ)) → is_solid u ≡ true
    → without_blank_lines false (u ∷ us) ≡ u ++ without_blank_lines false us
solid_stays u us h = rw (solid_no_feed u h) refl

-- a line feed or not, whichever comes before what follows a piece
solid_same : (us : List (List ℕ)) → Solid us
    → without_blank_lines true us ≡ without_blank_lines false us
solid_same [] h = refl
solid_same (u ∷ us) h = rw (feeds_more u us, h, solid_no_feed u h) refl

-- blank lines with a blank before them
last_feedless : (c : ℕ) (u : List ℕ) → (c == line_feed) ≡ false → feedless u ≡ true
    → (last_byte_or c u == line_feed) ≡ false
last_feedless c [] e h = e
last_feedless c (b ∷ u) e h =
    let p = and_parts (not (b == line_feed)) (feedless u) h in
    last_feedless b u (not-true (b == line_feed) p.0) p.1

last_after : (c : ℕ) (u : List ℕ) (b : ℕ) (l : List ℕ)
    → last_byte_or c (u ++ (b ∷ l)) ≡ last_byte_or b l
last_after c [] b l = refl
last_after c (d ∷ u) b l = last_after d u b l

blank_before : (u : List ℕ) (k : IsBlank u) → feedless u ≡ true → (l : List ℕ)
    → is_blank_line (u ++ l) ≡ is_blank_line l
blank_before u k h [] =
    rw (append-nil u, last_feedless space_character u refl h) refl
blank_before u k h (b ∷ l) =
    ap (λ n. n == line_feed && list_all is_whitespace (chars (u ++ (b ∷ l))))
    (last_after space_character u b l)
    ∙ ap (λ z. last_byte_or b l == line_feed && z)
    (ap (list_all is_whitespace) (chars_blank u (b ∷ l) k)
    ∙ ap (λ z. z && list_all is_whitespace (chars (b ∷ l))) k.1)

token_before : (u l : List ℕ) → IsToken u → is_blank_line (u ++ l) ≡ false
token_before u l t = false_from_ne_true (is_blank_line (u ++ l)) (λ e.
    white_token u l t (and_parts (last_byte_or space_character (u ++ l) == line_feed)
    (list_all is_whitespace (chars (u ++ l))) e).1)

feed_line : is_blank_line (line_feed ∷ []) ≡ true
feed_line = rw (chars_low line_feed [] (omega arith), chars-nil) refl

-- what is left of a piece with these lines, from its start and after a line feed
abbrev Left : List (List ℕ) → List (List ℕ) → List (List ℕ) → Type 0
Left ms ls us = (without_blank_lines false (ms ++ us)
    ≡ (first ls ++ without_lines (others ls)) ++ without_blank_lines false us)
    × (without_blank_lines true (ms ++ us) ≡ cond (is_blank_line (first ls))
    (without_lines (others ls)) (first ls ++ without_lines (others ls))
    ++ without_blank_lines false us)
    × (is_blank_line (first ls) ≡ feeds (ms ++ us))

after_feed : (ms ls us : List (List ℕ)) → Left ms ls us
    → Left ((line_feed ∷ []) ∷ ms) ((line_feed ∷ []) ∷ ls) us
after_feed ms ls us q =
    let f : feeds ((line_feed ∷ []) ∷ (ms ++ us)) ≡ true =
    feeds_more (line_feed ∷ []) (ms ++ us) ∙ ap (λ b. not b && true) feed_not_solid in
    let o : without_blank_lines true (ms ++ us) ≡ without_lines ls ++ without_blank_lines false us =
    q.1 ∙ ap (λ z. z ++ without_blank_lines false us) (sym (without_first ls)) in (
      ap (λ z. line_feed ∷ z) o,
      rw (f, feed_line) o,
      feed_line ∙ sym f,
    )

after_blank : (u : List ℕ) (ms ls us : List (List ℕ)) → IsBlank u → feedless u ≡ true
    → Left ms ls us → Left (u ∷ ms) (onto u ls) us
after_blank u ms ls us k h q =
    let b : is_solid u ≡ false = blank_not_solid u k in
    let n = feedless_no_feed u h in
    let f : feeds (u ∷ (ms ++ us)) ≡ feeds (ms ++ us) =
    feeds_more u (ms ++ us) ∙ rw (b, n) refl in
    let l : is_blank_line (u ++ first ls) ≡ is_blank_line (first ls) =
    blank_before u k h (first ls) in
    rw (onto_first u ls, onto_others u ls) (
      rw (n, q.0) regroup,
      go (is_blank_line (first ls)) l q.2 (f ∙ sym q.2) q.1,
      l ∙ (q.2 ∙ sym f),
    )
  where
    o : List ℕ
    o = without_lines (others ls)

    r : List ℕ
    r = without_blank_lines false us

    regroup : u ++ ((first ls ++ o) ++ r) ≡ ((u ++ first ls) ++ o) ++ r
    regroup = simp append_assoc

    go : (t : Bool) → is_blank_line (u ++ first ls) ≡ t → t ≡ feeds (ms ++ us)
        → feeds (u ∷ (ms ++ us)) ≡ t
        → without_blank_lines true (ms ++ us) ≡ cond t o (first ls ++ o) ++ r
        → without_blank_lines true (u ∷ (ms ++ us))
        ≡ cond (is_blank_line (u ++ first ls)) o ((u ++ first ls) ++ o) ++ r
    go true l e f q = rw (f, l) q
    go false l e f q =
        rw (f, l, feedless_no_feed u h, blank_not_solid u k, q) regroup

after_token : (u : List ℕ) (ms ls us : List (List ℕ)) → IsToken u → feedless u ≡ true
    → Left ms ls us → Left (u ∷ ms) (onto u ls) us
after_token u ms ls us t h q =
    let b : is_solid u ≡ true = token_solid u t in
    let n = feedless_no_feed u h in
    let f : feeds (u ∷ (ms ++ us)) ≡ false = feeds_more u (ms ++ us) ∙ rw b refl in
    let l = token_before u (first ls) t in
    rw (onto_first u ls, onto_others u ls) (
      rw (n, q.0) regroup,
      rw (f, l, n, b, q.0) regroup,
      l ∙ sym f,
    )
  where
    regroup : u ++ ((first ls ++ without_lines (others ls)) ++ without_blank_lines false us)
        ≡ ((u ++ first ls) ++ without_lines (others ls)) ++ without_blank_lines false us
    regroup = simp append_assoc

left : (ms us : List (List ℕ)) → AllPlain ms → Solid us → Left ms (piece_lines (concat ms)) us
left [] us a h = (refl, solid_same us h, sym (solid_feeds us h))
left (u ∷ ms) us a h = elim a.0.feed [
  | inl e ↦ subst (λ z. Left (z ∷ ms) (piece_lines (z ++ concat ms)) us) (sym e)
      (after_feed ms (piece_lines (concat ms)) us (left ms us a.1 h))
  | inr f ↦ subst (λ z. Left (u ∷ ms) z us) (sym (lines_onto u (concat ms) f)) (elim a.0.kind [
    | inl k ↦ after_blank u ms (piece_lines (concat ms)) us k f (left ms us a.1 h)
    | inr t ↦ after_token u ms (piece_lines (concat ms)) us t f (left ms us a.1 h)
  ])
]

left_of_piece : (ms us : List (List ℕ)) → AllPlain ms → Solid us
    → without_blank_lines false (ms ++ us) ≡ clean_piece (concat ms) ++ without_blank_lines false us
left_of_piece ms us a h = (left ms us a h).0
    ∙ ap (λ z. z ++ without_blank_lines false us) (sym (clean_first (piece_lines (concat ms))))

-- ---- no string or comment begins within another unit

quote_of_class : (b : ℕ) → class b ≡ 3 → (b == quote) ≡ true
quote_of_class b c = grind (arith, nat_tests)

kept_by : (b : ℕ) (x : List ℕ) → class b ≡ 3 → is_string_rest x ≡ true → IsKept (b ∷ x)
kept_by b x c a = rw (quote_of_class b c, a) refl

-- the first byte of a string or a comment
abbrev is_mark : ℕ → Bool
is_mark d = d == quote || d == slash

abbrev markless_tail : List ℕ → Bool
markless_tail [] = true
markless_tail (a ∷ u) = list_all (λ x. not (is_mark x)) u

slots_markless : list_all markless_tail slots ≡ true
unfolding slots
slots_markless = refl

punctuators_markless : list_all markless_tail punctuators ≡ true
unfolding punctuators
punctuators_markless = refl

mark_no_word : (d : ℕ) → is_mark d ≡ true → is_word_byte d ≡ true → ⊥
mark_no_word d h k = elim (or_cases (d == quote) (d == slash) h) [
  | inl e ↦ absurd (let f : is_word_byte quote ≡ true = rw ((Decides-eqb d quote).0 e) at k in cc)
  | inr e ↦ absurd (let f : is_word_byte slash ≡ true = rw ((Decides-eqb d slash).0 e) at k in cc)
]

mark_no_digit : (d : ℕ) → is_mark d ≡ true → is_ascii_digit d ≡ true → ⊥
mark_no_digit d h k = elim (or_cases (d == quote) (d == slash) h) [
  | inl e ↦ absurd (let f : is_ascii_digit quote ≡ true = rw ((Decides-eqb d quote).0 e) at k in cc)
  | inr e ↦ absurd (let f : is_ascii_digit slash ≡ true = rw ((Decides-eqb d slash).0 e) at k in cc)
]

mark_low : (d : ℕ) → is_mark d ≡ true → d < 128
mark_low d h = grind (arith, nat_tests)

crosses : (b : ℕ) (w : List ℕ) (d : ℕ) (v : List ℕ) → IsUnit (b ∷ (w ++ (d ∷ v)))
    → (IsKept (b ∷ (w ++ (d ∷ v))) → ⊥) → is_mark d ≡ true → ⊥
crosses b w d v k none m = elim k [
  | blank e ↦ (let f = blank_is_byte (b ∷ (w ++ (d ∷ v))) (b ∷ w) v d (mark_low d m) e refl in
      let g : b ∷ (w ++ (d ∷ v)) ≡ d ∷ [] =
      e.2 ∙ (ap encode_utf8 f ∙ encode_ascii d (mark_low d m)) in
      let n = ap length g in omega (arith, n, length-append w (d ∷ v)))
  | comment e ↦ none (comment_kept (b ∷ (w ++ (d ∷ v))) e)
  | token t ↦ elim (token_of b (w ++ (d ∷ v)) t) [
    | word _ a ↦ mark_no_word d m (next_passes is_word_byte w d v a)
    | number _ a ↦ mark_no_digit d m (next_passes is_ascii_digit w d v a)
    | string c a ↦ none (kept_by b (w ++ (d ∷ v)) c a)
    | slot _ a ↦ absurd (let e = next_passes (λ x. not (is_mark x)) w d v (one_of markless_tail
        slots (b ∷ (w ++ (d ∷ v))) slots_markless a) in let f : not true ≡ true = rw m at e in cc)
    | punctuator _ _ a ↦
        absurd (let e = next_passes (λ x. not (is_mark x)) w d v (one_of markless_tail punctuators
        (b ∷ (w ++ (d ∷ v))) punctuators_markless a) in let f : not true ≡ true = rw m at e in cc)
  ]
]

first_mark : (b : ℕ) (s : List ℕ) → IsKept (b ∷ s) → is_mark b ≡ true
first_mark b s k = elim (or_cases (is_string (b ∷ s)) (is_comment (b ∷ s)) k) [
  | inl e ↦ rw (and_parts (b == quote) (is_string_rest s) e).0 refl
  | inr e ↦ by_comment s e
]
  where
    by_comment : (s : List ℕ) → is_comment (b ∷ s) ≡ true → is_mark b ≡ true
    by_comment [] e = absurd cc
    by_comment (c ∷ s) e = rw (comment_parts b c s e).0 refl

none_within : (u r : List ℕ) → IsFirstUnit (u ++ r) u → (IsKept u → ⊥) → NoneBegins u r
none_within [] r f none = tt
none_within (b ∷ u) r f none = (here, inner [] u refl)
  where
    here : BeginsNone IsKept (b ∷ (u ++ r))
    here v k g = none (kept_too (b ∷ (u ++ r)) v (b ∷ u) k g f.kind f.begins
        (f.longest v (kept_unit v k) g))

    none_here : (w : List ℕ) (d : ℕ) (x : List ℕ) → u ≡ w ++ (d ∷ x)
        → BeginsNone IsKept (d ∷ (x ++ r))
    none_here w d x e [] k g = absurd cc
    none_here w d x e (c ∷ v) k g =
        let s : d ≡ c = (let h = g.1 in cc) in
        crosses b w d x (subst (λ z. IsUnit (b ∷ z)) e f.kind)
        (λ q. none (subst (λ z. IsKept (b ∷ z)) (sym e) q))
        (subst (λ z. is_mark z ≡ true) (sym s) (first_mark c v k))

    inner : (w x : List ℕ) → u ≡ w ++ x → NoneBegins x r
    inner w [] e = tt
    inner w (d ∷ x) e =
        (none_here w d x e, inner (w ++ (d ∷ [])) x (e ∙ sym (append_assoc w (d ∷ []) x)))

none_append : (m u r : List ℕ) → NoneBegins m (u ++ r) → NoneBegins u r → NoneBegins (m ++ u) r
none_append [] u r n k = k
none_append (b ∷ m) u r n k = (
  subst (λ z. BeginsNone IsKept (b ∷ z)) (sym (append_assoc m u r)) n.0,
  none_append m u r n.1 k,
)

-- ---- the whole text

abbrev is_kept : List ℕ → Bool
is_kept u = is_string u || is_comment u

-- the text of a piece so far and the units after it, cleaned piece by piece
abbrev joined : List (List ℕ) → List (List ℕ) → List ℕ
joined ms [] = clean_piece (concat ms)
joined ms (u ∷ us) =
    cond (is_kept u) (clean_piece (concat ms) ++ (u ++ joined [] us)) (joined (ms ++ (u ∷ [])) us)

cut : (us ms : List (List ℕ)) (x : List ℕ) → Scans us x [] → NoneBegins (concat ms) x
    → Cut (concat ms ++ x) (joined ms us)
cut [] ms x s n = subst (λ z. Cut z (clean_piece (concat ms)))
    (sym (ap (λ z. concat ms ++ z) s ∙ append-nil (concat ms)))
    (last_piece (concat ms) (subst (NoneBegins (concat ms)) s n))
cut (u ∷ us) ms x s n =
    go (is_kept u) refl (cut us [] r rest tt) (λ k. cut us (ms ++ (u ∷ [])) r rest k)
  where
    r : List ℕ
    r = s.0.begins.0

    e : x ≡ u ++ r
    e = s.0.begins.1

    f : IsFirstUnit (u ++ r) u
    f = subst (λ z. IsFirstUnit z u) e s.0

    rest : Scans us r []
    rest = subst (λ z. Scans us z []) (ap (drop (length u)) e ∙ drop-append_seam u r) s.1

    none : NoneBegins (concat ms) (u ++ r)
    none = subst (NoneBegins (concat ms)) e n

    go : (b : Bool) → is_kept u ≡ b → Cut r (joined [] us)
        → (NoneBegins (concat (ms ++ (u ∷ []))) r
        → Cut (concat (ms ++ (u ∷ [])) ++ r) (joined (ms ++ (u ∷ [])) us))
        → Cut (concat ms ++ x)
        (cond b (clean_piece (concat ms) ++ (u ++ joined [] us)) (joined (ms ++ (u ∷ [])) us))
    go true k c more =
        subst (λ z. Cut (concat ms ++ z) (clean_piece (concat ms) ++ (u ++ joined [] us))) (sym e)
        (more_pieces (concat ms) u r (joined [] us) none (record {
          kind = k;
          begins = (r, refl);
          longest = λ v q g. f.longest v (kept_unit v q) g;
        }) c)
    go false k c more =
        let same : concat (ms ++ (u ∷ [])) ≡ concat ms ++ u =
        concat-append ms (u ∷ []) ∙ ap (λ z. concat ms ++ z) (append-nil u) in
        let text : concat (ms ++ (u ∷ [])) ++ r ≡ concat ms ++ x = ap (λ z. z ++ r) same
        ∙ (append_assoc (concat ms) u r ∙ ap (λ z. concat ms ++ z) (sym e)) in
        subst (λ z. Cut z (joined (ms ++ (u ∷ [])) us)) text (more (subst (λ z. NoneBegins z r)
        (sym same) (none_append (concat ms) u r none (none_within u r f
        (λ q. absurd (let g : true ≡ false = sym q ∙ k in cc))))))

kept_solid : (s : List ℕ) → IsKept s → is_solid s ≡ true
kept_solid s k = elim (or_cases (is_string s) (is_comment s) k)
    [ inl e ↦ token_solid s (is_token-string s e) | inr e ↦ comment_solid s e ]

joined_is : (us ms : List (List ℕ)) (x : List ℕ) → Scans us x [] → AllPlain ms
    → joined ms us ≡ without_blank_lines false (ms ++ us)
joined_is [] ms x s a =
    sym (left_of_piece ms [] a tt ∙ append-nil (clean_piece (concat ms)))
joined_is (u ∷ us) ms x s a =
    go (is_kept u) refl (joined_is us [] _ s.1 tt) (λ b. joined_is us (ms ++ (u ∷ [])) _ s.1 b)
  where
    go : (b : Bool) → is_kept u ≡ b → joined [] us ≡ without_blank_lines false us
        → (AllPlain (ms ++ (u ∷ []))
        → joined (ms ++ (u ∷ [])) us ≡ without_blank_lines false ((ms ++ (u ∷ [])) ++ us))
        → cond b (clean_piece (concat ms) ++ (u ++ joined [] us)) (joined (ms ++ (u ∷ [])) us)
        ≡ without_blank_lines false (ms ++ (u ∷ us))
    go true k o more =
        let solid = kept_solid u k in
        ap (λ z. clean_piece (concat ms) ++ z)
        (ap (λ z. u ++ z) o ∙ sym (solid_stays u us solid))
        ∙ sym (left_of_piece ms (u ∷ us) a solid)
    go false k o more = more (All-append Plain ms (u ∷ []) a (
      plain_unit u s.0.kind
          (λ q. absurd (let g : true ≡ false = sym q ∙ k in cc)),
      tt,
    ))
        ∙ ap (without_blank_lines false) (append_assoc ms (u ∷ []) us)

cleaned : (x : List ℕ) (us : List (List ℕ)) → SplitsInto x us
    → IsCleanedByPieces x (trim (without_blank_lines false us))
cleaned x us s = record {
  joined = joined [] us;
  cut = cut us [] x s tt;
  trimmed = ap trim (sym (joined_is us [] x s tt));
}

pub cleanings_agree : CleaningsAgree
cleanings_agree x y (us, s) = (
  λ p. record {
    units = us;
    split = s;
    trimmed = cleaned_once x y (trim (without_blank_lines false us)) p (cleaned x us s);
  },
  λ q. subst (IsCleanedByPieces x) (sym q.trimmed) (cleaned x q.units q.split),
)
