-- Every text is cut at its strings and comments in exactly one way.
use Rattle.std.proofs.Common.{◌≡◌, ℕ, zero, suc, ◌≤◌, ◌+◌, Bool, true, false, ◌==◌, ◌≢◌, inl, inr, List, [], ◌∷◌, ◌++◌, length, take, drop, Option, Some, None, option_map, refl, ap, arith, sym, ◌∙◌, subst, append-nil}
use Rattle.std.specs.Prelude.{nat_eq, codes}
use Rattle.std.specs.List.{prefix_len, starts_with}
use Rattle.std.specs.Str.{trim}
use Rattle.std.proofs.lemmas.List.{append_cancel_left, take-append-drop, length-drop}
use Rattle.std.proofs.lemmas.Bool.Decides.{Decides-eqb}
use Rattle.std.proofs.lemmas.Bool.{or_cases, and_parts}
use Rattle.cedar_tokens.specs.Bytes.{quote}
use Rattle.cedar_tokens.specs.Units.{BeginsWith, BeginsNone, IsLongest, IsComment, is_string, is_comment, is_string_rest, is_comment_byte}
use Rattle.cedar_tokens.proofs.Prefixes.{same_head, longest_unique}
use Rattle.cedar_tokens.proofs.Strings.{string_end, finds}
use Rattle.cedar_tokens.proofs.Longest.{comment_finds, no_comment_finds}
use Rattle.cedar_tokens.proofs.FirstUnit.{comment_parts}
use Rattle.cedar_layout.specs.Cleaning.{IsKept, NoneBegins, Cut, last_piece, more_pieces, clean_piece, IsCleaned}
use Rattle.cedar_laws.specs.CleaningLaws.{CleaningIsUnique, EveryTextIsCleaned}
use Rattle.cedar_layout.proofs.Seeking.{comment_kept, string_kept}

-- ---- at most one way

-- the text begins with a string or comment
abbrev Starts : List ℕ → Type 0
Starts t = (s : List ℕ) × IsKept s × BeginsWith t s

same_piece : (m n t u : List ℕ) → m ++ t ≡ n ++ u → NoneBegins m t → NoneBegins n u → Starts t
    → Starts u → (m ≡ n) × (t ≡ u)
same_piece [] [] t u e a b s r = (refl, e)
same_piece [] (c ∷ n) t u e a b s r = absurd (b.0 s.0 s.1 (subst (λ z. BeginsWith z s.0) e s.2))
same_piece (c ∷ m) [] t u e a b s r =
    absurd (a.0 r.0 r.1 (subst (λ z. BeginsWith z r.0) (sym e) r.2))
same_piece (c ∷ m) (d ∷ n) t u e a b s r =
    let h : c ≡ d = cc in
    let k : m ++ t ≡ n ++ u = cc in
    let q = same_piece m n t u k a.1 b.1 s r in
    (let f = q.0 in cc, q.1)

none_before : (m t : List ℕ) → NoneBegins (m ++ t) [] → Starts t → t ≢ [] → ⊥
none_before [] [] a s n = n refl
none_before [] (c ∷ t) a s n =
    a.0 s.0 s.1 (subst (λ z. BeginsWith z s.0) (ap (λ z. c ∷ z) (sym (append-nil t))) s.2)
none_before (c ∷ m) t a s n = none_before m t a.1 s n

kept_nonempty : (s r : List ℕ) → IsKept s → s ++ r ≢ []
kept_nonempty [] r k e = absurd cc
kept_nonempty (b ∷ s) r k e = absurd cc

cut_once : {x y w z : List ℕ} → Cut x y → Cut w z → x ≡ w → y ≡ z
cut_once (last_piece m a) (last_piece n b) e = ap clean_piece e
cut_once (last_piece m a) (more_pieces n s r y b k c) e = absurd (none_before n (s ++ r)
    (subst (λ z. NoneBegins z []) e a) (s, k.kind, k.begins) (kept_nonempty s r k.kind))
cut_once (more_pieces n s r y b k c) (last_piece m a) e = absurd (none_before n (s ++ r)
    (subst (λ z. NoneBegins z []) (sym e) a) (s, k.kind, k.begins) (kept_nonempty s r k.kind))
cut_once (more_pieces m s r y a k c) (more_pieces n t u z b l d) e =
    let p = same_piece m n (s ++ r) (t ++ u) e a b (s, k.kind, k.begins) (t, l.kind, l.begins) in
    let q : s ≡ t =
    longest_unique IsKept (s ++ r) s t k (subst (λ w. IsLongest IsKept w t) (sym p.1) l) in
    let v : r ≡ u = append_cancel_left s r u (p.1 ∙ ap (λ w. w ++ u) (sym q)) in
    let w = cut_once c d v in
    rw (p.0, q, w) refl

pub cleaned_once : CleaningIsUnique
cleaned_once x y z a b = a.trimmed ∙ (ap trim (cut_once a.cut b.cut refl) ∙ sym b.trimmed)

-- ---- at least one way, computed

-- no comment begins at a quote
only_strings : (t v : List ℕ) → IsKept v → BeginsWith (quote ∷ t) v
    → (w : List ℕ) × (v ≡ quote ∷ w) × (is_string_rest w ≡ true)
only_strings t [] k g = absurd cc
only_strings t (b ∷ w) k g =
    let h = same_head quote b t w g in
    let e : b ≡ quote = sym h.0 in
    elim (or_cases (is_string (b ∷ w)) (is_comment (b ∷ w)) k) [
      | inl s ↦ (w, ap (λ z. z ∷ w) e, (and_parts (b == quote) (is_string_rest w) s).1)
      | inr c ↦ absurd (no_comment w e c)
    ]
  where
    no_comment : (w : List ℕ) → b ≡ quote → is_comment (b ∷ w) ≡ true → ⊥
    no_comment [] e c = absurd cc
    no_comment (d ∷ w) e c = let p = comment_parts b d w c in omega (arith, p.0, e)

quote_none : (t : List ℕ) → string_end t false 0 ≡ None → BeginsNone IsKept (quote ∷ t)
quote_none t e v k g =
    let w = only_strings t v k g in
    finds t None e w.0 w.2 (same_head quote quote t w.0
    (subst (λ z. BeginsWith (quote ∷ t) z) w.1 g)).1

quote_some : (t : List ℕ) (n : ℕ) → string_end t false 0 ≡ Some n
    → IsLongest IsKept (quote ∷ t) (take (suc n) (quote ∷ t))
quote_some t n e =
    let f = finds t (Some n) e in
    record {
      kind = string_kept (quote ∷ take n t) f.1.kind;
      begins = (drop n t, ap (λ z. quote ∷ z) (sym (take-append-drop n t)));
      longest = λ v k g. let w = only_strings t v k g in
          let l = f.1.longest w.0 w.2
          (same_head quote quote t w.0 (subst (λ z. BeginsWith (quote ∷ t) z) w.1 g)).1 in
          omega (arith, l, ap length w.1);
    }

-- no string begins elsewhere
only_comments : (b : ℕ) (t v : List ℕ) → (b == quote) ≡ false → IsKept v → BeginsWith (b ∷ t) v
    → IsComment v
only_comments b t [] q k g = absurd cc
only_comments b t (c ∷ v) q k g = elim (or_cases (is_string (c ∷ v)) (is_comment (c ∷ v)) k) [
  | inl s ↦ absurd (let h = (same_head b c t v g).0 in let e : (c == quote) ≡ false = subst
      (λ z. (z == quote) ≡ false) h q in let f = (and_parts (c == quote) (is_string_rest v) s).0 in
      cc)
  | inr e ↦ e
]

other_some : (b : ℕ) (t : List ℕ) → (b == quote) ≡ false
    → starts_with nat_eq (b ∷ t) (codes "//") ≡ true
    → IsLongest IsKept (b ∷ t) (take (prefix_len is_comment_byte (drop 2 (b ∷ t)) + 2) (b ∷ t))
other_some b t q e =
    let f = comment_finds (b ∷ t) (drop 2 (b ∷ t))
    (prefix_len is_comment_byte (drop 2 (b ∷ t))) e refl refl in
    record {
      kind = comment_kept (take (prefix_len is_comment_byte (drop 2 (b ∷ t)) + 2) (b ∷ t)) f.1.kind;
      begins = f.1.begins;
      longest = λ v k g. f.1.longest v (only_comments b t v q k g) g;
    }

other_none : (b : ℕ) (t : List ℕ) → (b == quote) ≡ false
    → starts_with nat_eq (b ∷ t) (codes "//") ≡ false → BeginsNone IsKept (b ∷ t)
other_none b t q e v k g = no_comment_finds (b ∷ t) e v (only_comments b t v q k g) g

-- the length of the string or comment at the start of a text
abbrev pub kept_len : List ℕ → Option ℕ
kept_len [] = None
kept_len (b ∷ t) = elim (b == quote) as (λ z. Option ℕ) [
  | true ↦ option_map suc (string_end t false 0)
  | false ↦ elim (starts_with nat_eq (b ∷ t) (codes "//")) as (λ z.
      Option ℕ) [ true ↦ Some (prefix_len is_comment_byte (drop 2 (b ∷ t)) + 2) | false ↦ None ]
]

-- what a text begins with, by that length
abbrev Found : List ℕ → Option ℕ → Type 0
Found text None = BeginsNone IsKept text
Found text (Some n) = IsLongest IsKept text (take n text)

found : (b : ℕ) (t : List ℕ) → Found (b ∷ t) (kept_len (b ∷ t))
found b t = at_quote (b == quote) refl
  where
    strings : (r : Option ℕ) → string_end t false 0 ≡ r → Found (quote ∷ t) (option_map suc r)
    strings None e = quote_none t e
    strings (Some n) e = quote_some t n e

    comments : (x : Bool) → (b == quote) ≡ false → starts_with nat_eq (b ∷ t) (codes "//") ≡ x
        → Found (b ∷ t) (elim x as (λ z.
        Option ℕ) [ true ↦ Some (prefix_len is_comment_byte (drop 2 (b ∷ t)) + 2) | false ↦ None ])
    comments true q e = other_some b t q e
    comments false q e = other_none b t q e

    at_quote : (x : Bool) → (b == quote) ≡ x → Found (b ∷ t) (elim x as (λ z. Option ℕ) [
      | true ↦ option_map suc (string_end t false 0)
      | false ↦ elim (starts_with nat_eq (b ∷ t) (codes "//")) as (λ z.
          Option ℕ) [ true ↦ Some (prefix_len is_comment_byte (drop 2 (b ∷ t)) + 2) | false ↦ None ]
    ])
    at_quote true e = subst (λ z. Found (z ∷ t) (option_map suc (string_end t false 0)))
        (sym ((Decides-eqb b quote).0 e)) (strings (string_end t false 0) refl)
    at_quote false e = comments (starts_with nat_eq (b ∷ t) (codes "//")) e refl

-- the first piece of a text, and the result for the rest; the fuel is as long as the text
abbrev pub cut_pieces : List ℕ → List ℕ → List ℕ × List ℕ
cut_pieces fuel [] = ([], [])
cut_pieces [] (b ∷ t) = ([], [])
cut_pieces (f ∷ fuel) (b ∷ t) = elim (kept_len (b ∷ t)) as (λ z. List ℕ × List ℕ) [
  | None ↦ (let q = cut_pieces fuel t in (b ∷ q.0, q.1))
  | Some n ↦
      (let q = cut_pieces fuel (drop n (b ∷ t)) in ([], take n (b ∷ t) ++ (clean_piece q.0 ++ q.1)))
]

-- the text without the blank lines of its pieces, and the cleaned text
abbrev pub cut_text : List ℕ → List ℕ
cut_text x = let q = cut_pieces x x in clean_piece q.0 ++ q.1

abbrev pub cleaned_text : List ℕ → List ℕ
cleaned_text x = trim (cut_text x)

-- x begins with the piece m, and z results from what follows it
data Tailed (m : List ℕ) : List ℕ → List ℕ → Type 0 where
  no_more : NoneBegins m [] → Tailed m m []
  more : (s r y : List ℕ) → NoneBegins m (s ++ r) → IsLongest IsKept (s ++ r) s → Cut r y
      → Tailed m (m ++ (s ++ r)) (s ++ y)

tailed_cut : {m x z : List ℕ} → Tailed m x z → Cut x (clean_piece m ++ z)
tailed_cut {m} (no_more n) =
    subst (λ z. Cut m z) (sym (append-nil (clean_piece m))) (last_piece m n)
tailed_cut {m} (more s r y n k c) = more_pieces m s r y n k c

one_more : (b : ℕ) {m x z : List ℕ} → BeginsNone IsKept (b ∷ x) → Tailed m x z
    → Tailed (b ∷ m) (b ∷ x) z
one_more b {m} n (no_more a) =
    no_more (subst (λ z. BeginsNone IsKept (b ∷ z)) (sym (append-nil m)) n, a)
one_more b n (more s r y a k c) = more s r y (n, a) k c

pieces_are : (fuel x : List ℕ) → length x ≤ length fuel
    → Tailed (cut_pieces fuel x).0 x (cut_pieces fuel x).1
pieces_are fuel [] l = no_more tt
pieces_are [] (b ∷ t) l = absurd (omega (arith, l))
pieces_are (f ∷ fuel) (b ∷ t) l = go (kept_len (b ∷ t)) (found b t) (λ k. pieces_are fuel t k)
    (λ n k. pieces_are fuel (drop n (b ∷ t)) k)
  where
    shorter : (n : ℕ) → IsKept (take n (b ∷ t)) → length (drop n (b ∷ t)) ≤ length fuel
    shorter zero k = absurd cc
    shorter (suc n) k = omega (arith, l, length-drop n t)

    go : (r : Option ℕ) → Found (b ∷ t) r
        → (length t ≤ length fuel → Tailed (cut_pieces fuel t).0 t (cut_pieces fuel t).1)
        → ((n : ℕ) → length (drop n (b ∷ t)) ≤ length fuel → Tailed (cut_pieces fuel
        (drop n (b ∷ t))).0 (drop n (b ∷ t)) (cut_pieces fuel (drop n (b ∷ t))).1)
        → Tailed (elim r as (λ z. List ℕ × List ℕ) [
          | None ↦ (let q = cut_pieces fuel t in (b ∷ q.0, q.1))
          | Some n ↦ (let q = cut_pieces fuel (drop n (b ∷ t)) in
              ([], take n (b ∷ t) ++ (clean_piece q.0 ++ q.1)))
        ]).0 (b ∷ t)
        (elim r as (λ z. List ℕ × List ℕ) [
          | None ↦ (let q = cut_pieces fuel t in (b ∷ q.0, q.1))
          | Some n ↦ (let q = cut_pieces fuel (drop n (b ∷ t)) in
              ([], take n (b ∷ t) ++ (clean_piece q.0 ++ q.1)))
        ]).1
    go None h p q = one_more b h (p (omega (arith, l)))
    go (Some n) h p q =
        let e : b ∷ t ≡ take n (b ∷ t) ++ drop n (b ∷ t) = sym (take-append-drop n (b ∷ t)) in
        subst (λ z. Tailed [] z (take n (b ∷ t) ++ (clean_piece (cut_pieces fuel (drop n (b ∷ t))).0
        ++ (cut_pieces fuel (drop n (b ∷ t))).1))) (sym e)
        (more (take n (b ∷ t)) (drop n (b ∷ t)) (clean_piece (cut_pieces fuel (drop n (b ∷ t))).0
        ++ (cut_pieces fuel (drop n (b ∷ t))).1) tt
        (subst (λ z. IsLongest IsKept z (take n (b ∷ t))) e h)
        (tailed_cut (q n (shorter n h.kind))))

pub text_is_cleaned : (x : List ℕ) → IsCleaned x (cleaned_text x)
text_is_cleaned x =
    record { joined = cut_text x; cut = tailed_cut (pieces_are x x (omega arith)); trimmed = refl }

pub cleaned_exists : EveryTextIsCleaned
cleaned_exists x = (cleaned_text x, text_is_cleaned x)
