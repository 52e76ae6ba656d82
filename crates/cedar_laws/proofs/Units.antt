-- Which unit begins a text, by what follows it.
use Rattle.std.proofs.Common.{◌≡◌, ℕ, ◌<◌, ◌≤◌, ◌+◌, Bool, true, false, not, ◌&&◌, ◌||◌, ◌==◌, ◌⊎◌, inl, inr, List, [], ◌∷◌, ◌++◌, length, get_or, refl, ap, arith, sym, ◌∙◌, append-nil, length-append, Some}
use Rattle.std.specs.Prelude.{codes, ⊤}
use Rattle.std.specs.List.{list_all}
use Rattle.std.specs.Char.{is_ascii_digit, encode_utf8}
use Rattle.std.proofs.lemmas.Bool.Decides.{nat_tests}
use Rattle.std.proofs.lemmas.Str.{encode_ascii, encode_same}
use Rattle.std.proofs.lemmas.Bool.{and_parts, or_cases, both_ways, not-true}
use Rattle.cedar_tokens.specs.Bytes.{line_feed, slash, space_character}
use Rattle.cedar_tokens.specs.Units.{BeginsWith, IsUnit, blank, comment, token, IsBlank, IsComment, IsToken, IsFirstUnit, is_word_start, is_word_byte, is_comment_byte, is_string_rest, is_one_of, slots, punctuators}
use Rattle.cedar_tokens.proofs.Prefixes.{same_head}
use Rattle.cedar_tokens.proofs.Heads.{class, class-blank, word, number, string, slot, punctuator, token_of, one_of, no_empty_token, token_class}
use Rattle.cedar_tokens.proofs.Strings.{string_end, complete}
use Rattle.cedar_tokens.proofs.Longest.{clash, slot_is}
use Rattle.cedar_tokens.proofs.FirstUnit.{comment_parts, no_empty_blank}
use Rattle.cedar_laws.specs.Neighbours.{glues}
use Rattle.cedar_layout.specs.Cleaning.{last_byte_or}
use Rattle.cedar_grammar.proofs.Texts.Tests.{word_starts}

-- what begins w ++ r lies within w or extends beyond it
pub record Past (w r v : List ℕ) : Type 0 where
  pub next : ℕ
  pub rest : List ℕ
  pub more : List ℕ
  pub is_rest : r ≡ next ∷ rest
  pub is : v ≡ w ++ (next ∷ more)

pub past : (w r v : List ℕ) → BeginsWith (w ++ r) v → (length v ≤ length w) ⊎ Past w r v
past [] r [] g = inl (omega arith)
past [] r (d ∷ v) g = inr (record { next = d; rest = v ++ g.0; more = v; is_rest = g.1; is = refl })
past (b ∷ w) r [] g = inl (omega arith)
past (b ∷ w) r (c ∷ v) g =
    let s = same_head b c (w ++ r) v g in
    elim (past w r v s.1) [
      | inl l ↦ inl (omega (arith, l))
      | inr p ↦ inr (record {
        next = p.next;
        rest = p.rest;
        more = p.more;
        is_rest = p.is_rest;
        is = let e : v ≡ w ++ (p.next ∷ p.more) = p.is in rw (s.0, e) refl;
      })
    ]

-- the unit w begins w ++ r if no unit extends beyond it
pub first_from : (w r : List ℕ) → IsUnit w → ((v : List ℕ) → IsUnit v → Past w r v → ⊥)
    → IsFirstUnit (w ++ r) w
first_from w r k none = record {
  kind = k;
  begins = (r, refl);
  longest = λ v n g. elim (past w r v g) [ inl l ↦ l | inr p ↦ absurd (none v n p) ];
}

word_start_byte : (b : ℕ) → is_word_start b ≡ true → is_word_byte b ≡ true
word_start_byte b h = grind (arith, nat_tests)

digit_byte : (b : ℕ) → is_ascii_digit b ≡ true → is_word_byte b ≡ true
digit_byte b h = grind (arith, nat_tests)

pub last_passes : (p : ℕ → Bool) (b : ℕ) (w : List ℕ) → p b ≡ true → list_all p w ≡ true
    → p (last_byte_or b w) ≡ true
last_passes p b [] h k = h
last_passes p b (c ∷ w) h k = let a = and_parts (p c) (list_all p w) k in last_passes p c w a.0 a.1

pub next_passes : (p : ℕ → Bool) (w : List ℕ) (d : ℕ) (v : List ℕ)
    → list_all p (w ++ (d ∷ v)) ≡ true → p d ≡ true
next_passes p [] d v h = (and_parts (p d) (list_all p v) h).0
next_passes p (c ∷ w) d v h = next_passes p w d v (and_parts (p c) (list_all p (w ++ (d ∷ v))) h).1

words_glue : (c d : ℕ) → is_word_byte c ≡ true → is_word_byte d ≡ true → glues c d ≡ true
words_glue c d h k = rw (k, h) refl

-- the first byte of a punctuator of two bytes glues to the second, or is no punctuator by itself
abbrev pair_glues : List ℕ → Bool
pair_glues (a ∷ (d ∷ [])) = glues a d || not (is_one_of punctuators (a ∷ []))
pair_glues _ = true

pairs_glue : list_all pair_glues punctuators ≡ true
unfolding punctuators
pairs_glue = refl

abbrev pub no_slashes : List ℕ → Bool
no_slashes (a ∷ (d ∷ v)) = not (a == slash && d == slash)
no_slashes _ = true

pub punctuators_no_slashes : list_all no_slashes punctuators ≡ true
unfolding punctuators
punctuators_no_slashes = refl

punctuator_then : (b d : ℕ) (w v : List ℕ) → length (w ++ (d ∷ v)) < 2
    → is_one_of punctuators (b ∷ w) ≡ true → is_one_of punctuators (b ∷ (w ++ (d ∷ v))) ≡ true
    → glues (last_byte_or b w) d ≡ true
punctuator_then b d [] [] l h k =
    elim (or_cases (glues b d) (not (is_one_of punctuators (b ∷ []))) (one_of pair_glues punctuators
    (b ∷ (d ∷ [])) pairs_glue k)) [ inl e ↦ e | inr e ↦ absurd (both_ways _ (not-true _ e) h) ]
punctuator_then b d [] (e ∷ v) l h k = absurd (omega (arith, l))
punctuator_then b d (c ∷ w) v l h k = absurd (omega (arith, l, length-append w (d ∷ v)))

slot_then : (w : List ℕ) (d : ℕ) (v : List ℕ) → is_one_of slots w ≡ true
    → is_one_of slots (w ++ (d ∷ v)) ≡ true → ⊥
slot_then w d v h k = elim (slot_is w h) [
  | inl e ↦ elim (slot_is (w ++ (d ∷ v)) k) [
    | inl f ↦ long w (codes "?principal") (codes "?principal") e f refl
    | inr f ↦ other (rw e at f)
  ]
  | inr e ↦ elim (slot_is (w ++ (d ∷ v)) k) [
    | inl f ↦ other2 (rw e at f)
    | inr f ↦ long w (codes "?resource") (codes "?resource") e f refl
  ]
]
  where
    long : (w s t : List ℕ) → w ≡ s → w ++ (d ∷ v) ≡ t → s ≡ t → ⊥
    long w s t e f g = omega (arith, ap length e, ap length f, ap length g, length-append w (d ∷ v))

    other : codes "?principal" ++ (d ∷ v) ≡ codes "?resource" → ⊥
    other f = let g : 112 ≡ 114 = ap (λ l. get_or l 1 0) f in omega (arith, g)

    other2 : codes "?resource" ++ (d ∷ v) ≡ codes "?principal" → ⊥
    other2 f = let g : 114 ≡ 112 = ap (λ l. get_or l 1 0) f in omega (arith, g)

pub string_then : (w : List ℕ) (d : ℕ) (v : List ℕ) → is_string_rest w ≡ true
    → is_string_rest (w ++ (d ∷ v)) ≡ true → ⊥
string_then w d v h k =
    let a = complete w false (d ∷ v) 0 h in
    let b = complete (w ++ (d ∷ v)) false [] 0 k in
    let e : Some (0 + length w) ≡ Some (0 + length (w ++ (d ∷ v))) =
    sym a ∙ (ap (λ x. string_end x false 0) (sym (append-nil (w ++ (d ∷ v)))) ∙ b) in
    let f : 0 + length w ≡ 0 + length (w ++ (d ∷ v)) = cc in
    omega (arith, f, length-append w (d ∷ v))

-- a token that is the front of a longer token glues to what follows
token_then : (b : ℕ) (w : List ℕ) (d : ℕ) (v : List ℕ) → IsToken (b ∷ w)
    → IsToken (b ∷ (w ++ (d ∷ v))) → glues (last_byte_or b w) d ≡ true
token_then b w d v h k = elim (token_of b w h) [
  | word c a ↦ elim (token_of b (w ++ (d ∷ v)) k) [
    | word _ a2 ↦ words_glue (last_byte_or b w) d (last_passes is_word_byte b w
        (word_start_byte b (word_starts b c)) a) (next_passes is_word_byte w d v a2)
    | number c2 _ ↦ absurd (clash c c2 refl)
    | string c2 _ ↦ absurd (clash c c2 refl)
    | slot c2 _ ↦ absurd (clash c c2 refl)
    | punctuator c2 _ _ ↦ absurd (clash c c2 refl)
  ]
  | number c a ↦ elim (token_of b (w ++ (d ∷ v)) k) [
    | number _ a2 ↦ words_glue (last_byte_or b w) d (last_passes is_word_byte b w (number_byte c)
        (all_bytes w a)) (digit_byte d (next_passes is_ascii_digit w d v a2))
    | word c2 _ ↦ absurd (clash c c2 refl)
    | string c2 _ ↦ absurd (clash c c2 refl)
    | slot c2 _ ↦ absurd (clash c c2 refl)
    | punctuator c2 _ _ ↦ absurd (clash c c2 refl)
  ]
  | string c a ↦ elim (token_of b (w ++ (d ∷ v)) k) [
    | string _ a2 ↦ absurd (string_then w d v a a2)
    | word c2 _ ↦ absurd (clash c c2 refl)
    | number c2 _ ↦ absurd (clash c c2 refl)
    | slot c2 _ ↦ absurd (clash c c2 refl)
    | punctuator c2 _ _ ↦ absurd (clash c c2 refl)
  ]
  | slot c a ↦ elim (token_of b (w ++ (d ∷ v)) k) [
    | slot _ a2 ↦ absurd (slot_then (b ∷ w) d v a a2)
    | word c2 _ ↦ absurd (clash c c2 refl)
    | number c2 _ ↦ absurd (clash c c2 refl)
    | string c2 _ ↦ absurd (clash c c2 refl)
    | punctuator c2 _ _ ↦ absurd (clash c c2 refl)
  ]
  | punctuator c _ a ↦ elim (token_of b (w ++ (d ∷ v)) k) [
    | punctuator _ l a2 ↦ punctuator_then b d w v l a a2
    | word c2 _ ↦ absurd (clash c c2 refl)
    | number c2 _ ↦ absurd (clash c c2 refl)
    | string c2 _ ↦ absurd (clash c c2 refl)
    | slot c2 _ ↦ absurd (clash c c2 refl)
  ]
]
  where
    number_byte : class b ≡ 2 → is_word_byte b ≡ true
    number_byte c = grind (arith, nat_tests)

    all_bytes : (w : List ℕ) → list_all is_ascii_digit w ≡ true → list_all is_word_byte w ≡ true
    all_bytes [] h = refl
    all_bytes (x ∷ w) h =
        let a = and_parts (is_ascii_digit x) (list_all is_ascii_digit w) h in
        rw (digit_byte x a.0) (all_bytes w a.1)

-- a token that is the front of a comment is the punctuator `/`
comment_then : (b : ℕ) (w : List ℕ) (d : ℕ) (v : List ℕ) → IsToken (b ∷ w)
    → IsComment (b ∷ (w ++ (d ∷ v))) → glues (last_byte_or b w) d ≡ true
comment_then b [] d v h k = let p = comment_parts b d v k in rw (p.0, p.1) refl
comment_then b (c ∷ w) d v h k =
    let p = comment_parts b c (w ++ (d ∷ v)) k in
    let five : class b ≡ 5 = rw p.0 refl in
    elim (token_of b (c ∷ w) h) [
      | punctuator _ _ a ↦
          absurd (let e : not (b == slash && c == slash) ≡ true = one_of no_slashes punctuators
          (b ∷ (c ∷ w)) punctuators_no_slashes a in let f : false ≡ true = rw (p.0, p.1) at e in cc)
      | word c2 _ ↦ absurd (clash five c2 refl)
      | number c2 _ ↦ absurd (clash five c2 refl)
      | string c2 _ ↦ absurd (clash five c2 refl)
      | slot c2 _ ↦ absurd (clash five c2 refl)
    ]

-- nothing glues to what follows, or nothing follows
abbrev pub Apart : ℕ → List ℕ → Type 0
Apart c [] = ⊤
Apart c (d ∷ r) = glues c d ≡ false

-- a token is the unit at its place if what follows doesn't glue to it
pub token_first : (w r : List ℕ) → IsToken w → Apart (last_byte_or space_character w) r
    → IsFirstUnit (w ++ r) w
token_first [] r h a = absurd (no_empty_token h)
token_first (b ∷ w) r h a = first_from (b ∷ w) r (token h) none
  where
    apart : (d : ℕ) (rest : List ℕ) → r ≡ d ∷ rest → glues (last_byte_or b w) d ≡ false
    apart d rest e = rw e at a

    none : (v : List ℕ) → IsUnit v → Past (b ∷ w) r v → ⊥
    none v k p =
        let f = apart p.next p.rest p.is_rest in
        let n : IsUnit (b ∷ (w ++ (p.next ∷ p.more))) = rw p.is at k in
        elim n [
          | blank e ↦ omega
              (arith, token_class b w (token_of b w h), class-blank b (w ++ (p.next ∷ p.more)) e)
          | comment e ↦ absurd (let t = comment_then b w p.next p.more h e in cc)
          | token e ↦ absurd (let t = token_then b w p.next p.more h e in cc)
        ]

-- no comment is a token
pub comment_not_token : (l : List ℕ) → IsComment l → IsToken l → ⊥
comment_not_token [] k t = absurd cc
comment_not_token (b ∷ []) k t = absurd cc
comment_not_token (b ∷ (c ∷ v)) k t =
    let p = comment_parts b c v k in
    let five : class b ≡ 5 = rw p.0 refl in
    elim (token_of b (c ∷ v) t) [
      | punctuator _ _ a ↦
          (let e : not (b == slash && c == slash)
          ≡ true = one_of no_slashes punctuators (b ∷ (c ∷ v))
          punctuators_no_slashes a in let f : false ≡ true = rw (p.0, p.1) at e in absurd cc)
      | word c2 _ ↦ clash five c2 refl
      | number c2 _ ↦ clash five c2 refl
      | string c2 _ ↦ clash five c2 refl
      | slot c2 _ ↦ clash five c2 refl
    ]

-- the text begins with a line end, or is empty
abbrev pub Ended : List ℕ → Type 0
Ended [] = ⊤
Ended (d ∷ r) = is_comment_byte d ≡ false

-- a comment is the unit at its place if a line end follows
pub comment_first : (w r : List ℕ) → IsComment w → Ended r → IsFirstUnit (w ++ r) w
comment_first [] r h a = absurd cc
comment_first (b ∷ []) r h a = absurd cc
comment_first (b ∷ (c ∷ w)) r h a = first_from (b ∷ (c ∷ w)) r (comment h) none
  where
    parts : (b ≡ slash) × (c ≡ slash) × (list_all is_comment_byte w ≡ true)
    parts = comment_parts b c w h

    five : class b ≡ 5
    five = rw parts.0 refl

    ended : (d : ℕ) (rest : List ℕ) → r ≡ d ∷ rest → is_comment_byte d ≡ false
    ended d rest e = rw e at a

    no_punctuator : (v : List ℕ) → IsToken (b ∷ (c ∷ v)) → ⊥
    no_punctuator v t = elim (token_of b (c ∷ v) t) [
      | punctuator _ _ a ↦ (let e : not (b == slash && c == slash) ≡ true =
          one_of no_slashes punctuators (b ∷ (c ∷ v)) punctuators_no_slashes a in
          let f : false ≡ true = rw (parts.0, parts.1) at e in absurd cc)
      | word c2 _ ↦ clash five c2 refl
      | number c2 _ ↦ clash five c2 refl
      | string c2 _ ↦ clash five c2 refl
      | slot c2 _ ↦ clash five c2 refl
    ]

    none : (v : List ℕ) → IsUnit v → Past (b ∷ (c ∷ w)) r v → ⊥
    none v k p =
        let f = ended p.next p.rest p.is_rest in
        let n : IsUnit (b ∷ (c ∷ (w ++ (p.next ∷ p.more)))) = rw p.is at k in
        elim n [
          | blank e ↦ omega (arith, five, class-blank b (c ∷ (w ++ (p.next ∷ p.more))) e)
          | comment e ↦ absurd (let t = next_passes is_comment_byte w p.next p.more
              (comment_parts b c (w ++ (p.next ∷ p.more)) e).2 in cc)
          | token e ↦ absurd (no_punctuator (w ++ (p.next ∷ p.more)) e)
        ]

-- a blank is the unit at its place
pub blank_first : (w r : List ℕ) → IsBlank w → IsFirstUnit (w ++ r) w
blank_first [] r h = absurd (no_empty_blank h)
blank_first (b ∷ w) r h = first_from (b ∷ w) r (blank h) none
  where
    zero_class : class b ≡ 0
    zero_class = class-blank b w h

    no_comment : (v : List ℕ) → IsComment (b ∷ v) → ⊥
    no_comment [] k = absurd cc
    no_comment (c ∷ v) k =
        let p = comment_parts b c v k in
        let e : class slash ≡ 0 = rw p.0 at zero_class in
        omega (arith, e)

    none : (v : List ℕ) → IsUnit v → Past (b ∷ w) r v → ⊥
    none v k p =
        let n : IsUnit (b ∷ (w ++ (p.next ∷ p.more))) = rw p.is at k in
        elim n [
          | blank e ↦ (let s = encode_same h.0 e.0 (p.next ∷ p.more) [] (ap (λ u.
              u ++ (p.next ∷ p.more)) (sym h.2) ∙ (e.2 ∙ sym (append-nil (encode_utf8 e.0)))) in
              let z : p.next ∷ p.more ≡ [] = s.1 in absurd cc)
          | comment e ↦ no_comment (w ++ (p.next ∷ p.more)) e
          | token e ↦ omega (
            arith,
            zero_class,
            token_class b (w ++ (p.next ∷ p.more)) (token_of b (w ++ (p.next ∷ p.more)) e),
          )
        ]

pub space_blank : IsBlank (space_character ∷ [])
space_blank = (space_character, refl, sym (encode_ascii space_character (omega arith)))

pub feed_blank : IsBlank (line_feed ∷ [])
feed_blank = (line_feed, refl, sym (encode_ascii line_feed (omega arith)))
