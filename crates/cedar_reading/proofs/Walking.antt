-- The lexemes and the large numbers among the units so far.
use Rattle.std.proofs.Common.{◌≡◌, ◌<◌, ◌+◌, ℕ, Bool, true, false, List, [], ◌∷◌, ◌++◌, length, refl, ap, sym, ◌∙◌, arith, Option, Some, None, cond, get_or, append_assoc, Result, Ok, Err, nat_lt}
use Rattle.std.specs.Prelude.{is_some, is_err, ◌≢◌}
use Rattle.std.specs.List.{list_any, list_all, sum_by, filter, AllByRecursion}
use Rattle.std.specs.Char.{is_ascii_digit, digit_value}
use Rattle.std.specs.Str.Parse.{ParsesUnsigned, AllDigits, IsNumeral}
use Rattle.std.proofs.lemmas.Str.Parse.{without_leading_plus_none}
use Rattle.std.proofs.lemmas.Bool.Decides.{nat_tests}
use Rattle.std.proofs.lemmas.List.{append-nil, map-append}
use Rattle.std.proofs.lemmas.List.Elements.{filter-append}
use Rattle.std.specs.Prelude.{map, if◌then◌else◌}
use Rattle.std.proofs.lemmas.List.Folds.{list_any-append}
use Rattle.std.proofs.lemmas.Bool.{and_parts}
use Rattle.cedar_tokens.specs.Units.{is_number}
use Rattle.cedar_tokens.specs.Split.{SplitsInto}
use Rattle.cedar_tokens.specs.UnitSteps.{unit_text}
use Rattle.cedar_tokens.specs.declared.units.Unit.{Unit}
use Rattle.cedar_tokens.proofs.UnitsSoFar.{texts, texts_more}
use Rattle.cedar_tokens.specs.Units.{is_token}
use Rattle.cedar_tokens.proofs.Streaming.{Placed, placed_skip, placed_token}
use Rattle.cedar_tokens.proofs.Lists.{All-append}
use Rattle.cedar_grammar.specs.Numbers.{is_too_large, IsFirstTooLarge}
use Rattle.cedar_tokens.specs.TokenKinds.{kind_of}
use Rattle.cedar_grammar.specs.Texts.{only_tokens}
use Rattle.cedar_reading.specs.declared.lexeme.Lexeme.{Lexeme}

-- where the first number above the limit begins, if one of the units is
abbrev pub FindsLarge : List (List ℕ) → Option ℕ → Type 0
FindsLarge units None = list_any is_too_large units ≡ false
FindsLarge units (Some at) = (before : List (List ℕ)) × (number : List ℕ) × (after : List (List ℕ))
    × (units ≡ before ++ (number ∷ after))
    × (at ≡ sum_by length before) × (is_too_large number ≡ true)
    × (list_any is_too_large before ≡ false)

-- the lexemes are the tokens of the units, which end at the byte at, with their kinds and places
pub record Lexed (units : List (List ℕ)) (lexemes : List Lexeme) (at : ℕ) : Type 0 where
  pub texts : map (λ l. l.text.now) lexemes ≡ only_tokens units
  pub places : Placed units (map (λ l. l.span) lexemes) at
  pub kinds : AllByRecursion (λ l. l.kind ≡ kind_of l.text.now) lexemes

abbrev pub next_large : Option ℕ → List ℕ → ℕ → Option ℕ
next_large found unit at = cond (is_some found) found (cond (is_too_large unit) (Some at) None)

large_cases : (units : List (List ℕ)) (unit : List ℕ) (b : Bool) → is_too_large unit ≡ b
    → list_any is_too_large units ≡ false
    → FindsLarge (units ++ unit ∷ []) (cond b (Some (sum_by length units)) None)
large_cases units unit true e h = (units, unit, [], refl, refl, e, h)
large_cases units unit false e h = rw (list_any-append is_too_large units (unit ∷ []), h, e) refl

finds_more : (units : List (List ℕ)) (unit : List ℕ) (found : Option ℕ) → FindsLarge units found
    → FindsLarge (units ++ unit ∷ []) (next_large found unit (sum_by length units))
finds_more units unit None h = large_cases units unit (is_too_large unit) refl h
finds_more units unit (Some at) h =
    (h.0, h.1, h.2 ++ unit ∷ [], rw h.3 (append_assoc h.0 (h.1 ∷ h.2) (unit ∷ [])), h.4, h.5, h.6)

-- one more unit, which starts at the byte at
pub large_more : (us : List Unit) (u : Unit) (found : Option ℕ) (at : ℕ)
    → FindsLarge (texts us) found → at ≡ sum_by length (texts us)
    → FindsLarge (texts (us ++ u ∷ [])) (next_large found (unit_text u) at)
large_more us u found at h e = rw (texts_more us u, e) (finds_more (texts us) (unit_text u) found h)

-- a blank or a comment is no lexeme
pub lexed_skip : (us : List Unit) (lexemes : List Lexeme) (at : ℕ) (u : Unit)
    → Lexed (texts us) lexemes at → is_token (unit_text u) ≡ false
    → Lexed (texts (us ++ u ∷ [])) lexemes (at + length (unit_text u))
lexed_skip us lexemes at u h t = rw (texts_more us u) (record {
  texts = h.texts ∙ sym (filter-append is_token (texts us) (unit_text u ∷ [])
      ∙ ap (λ b. filter is_token (texts us) ++ (if b then unit_text u ∷ [] else [])) t
      ∙ append-nil (filter is_token (texts us)));
  places = placed_skip (texts us) (map (λ l. l.span) lexemes) at (length (unit_text u))
      (unit_text u) h.places t refl;
  kinds = h.kinds;
})

-- a token is one, with its kind and place
pub lexed_token : (us : List Unit) (lexemes more : List Lexeme) (at : ℕ) (u : Unit) (x : Lexeme)
    → Lexed (texts us) lexemes at → is_token (unit_text u) ≡ true → more ≡ lexemes ++ x ∷ []
    → x.text.now ≡ unit_text u → x.span ≡ record { start = at; end = at + length (unit_text u) }
    → x.kind ≡ kind_of (unit_text u) → Lexed (texts (us ++ u ∷ [])) more (at + length (unit_text u))
lexed_token us lexemes more at u x h t m same place kind = rw (texts_more us u, m) (record {
  texts = map-append (λ l. l.text.now) lexemes (x ∷ []) ∙ ap (λ ts. ts ++ x.text.now ∷ []) h.texts
      ∙ ap (λ v. only_tokens (texts us) ++ v ∷ []) same
      ∙ sym (filter-append is_token (texts us) (unit_text u ∷ [])
      ∙ ap (λ b. filter is_token (texts us) ++ (if b then unit_text u ∷ [] else [])) t);
  places = rw (map-append (λ l. l.span) lexemes (x ∷ []), place) (placed_token (texts us)
      (map (λ l. l.span) lexemes) at (length (unit_text u)) (unit_text u) h.places t refl);
  kinds = All-append (λ (l : Lexeme). l.kind ≡ kind_of l.text.now) lexemes (x ∷ []) h.kinds
      (kind ∙ ap kind_of (sym same), tt);
})

pub first_large : (us : List (List ℕ)) (text : List ℕ) (p : ℕ) → SplitsInto text us
    → FindsLarge us (Some p) → IsFirstTooLarge text p
first_large us text p s f = record {
  before = f.0;
  number = f.1;
  after = f.2;
  split = rw f.3 at s;
  place = f.4;
  large = f.5;
  first = f.6;
}

digit_small : (c : ℕ) → is_ascii_digit c ≡ true → digit_value c < 10
digit_small c h = grind (arith, nat_tests)

digit_no_plus : (c : ℕ) → is_ascii_digit c ≡ true → c ≢ 43
digit_no_plus c h = grind (arith, nat_tests)

digits_all : (cs : List ℕ) → list_all is_ascii_digit cs ≡ true → AllDigits 10 cs
digits_all [] h = tt
digits_all (c ∷ cs) h =
    let p = and_parts (is_ascii_digit c) (list_all is_ascii_digit cs) h in
    (digit_small c p.0, digits_all cs p.1)

number_plain : (u : List ℕ) → is_number u ≡ true → IsNumeral 10 u × (get_or u 0 0 ≢ 43)
number_plain [] h = absurd cc
number_plain (c ∷ cs) h =
    let p = and_parts (is_ascii_digit c) (list_all is_ascii_digit cs) h in
    ((omega arith, (digit_small c p.0, digits_all cs p.1)), digit_no_plus c p.0)

not_above : (most n : ℕ) → n < most + 1 → false ≡ nat_lt most n
not_above most n h = grind (arith, nat_tests)

above : (most n : ℕ) → ¬ (n < most + 1) → true ≡ nat_lt most n
above most n h = grind (arith, nat_tests)

-- parsing a number fails if and only if it is above the limit
pub parse_limit : {E : Type 0} (u : List ℕ) (r : Result ℕ E) → ParsesUnsigned 64 10 u r
    → is_number u ≡ true → is_err r ≡ is_too_large u
parse_limit u (Ok x) h n =
    let k = number_plain u n in
    let same = without_leading_plus_none u k.1 in
    rw n (not_above 18446744073709551615 _ (rw same at h.0.1))
parse_limit u (Err e) h n =
    let k = number_plain u n in
    let same = without_leading_plus_none u k.1 in
    rw n (above 18446744073709551615 _ (λ l. h (rw same (k.0, l))))

pub number_by_parts : (u : List ℕ) (b : ℕ) (bs : List ℕ) (r : Bool) → u ≡ b ∷ bs
    → is_ascii_digit b ≡ true → r ≡ list_all is_ascii_digit bs → r ≡ is_number u
number_by_parts u b bs r e d a = rw (e, d) a
