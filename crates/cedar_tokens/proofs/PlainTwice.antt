-- A list without trailing commas is its own plain list.
use Rattle.std.proofs.Common.{◌≡◌, ℕ, Bool, true, false, ◌&&◌, List, [], ◌∷◌, refl, ap, cond}
use Rattle.std.specs.Prelude.{⊤}
use Rattle.std.proofs.lemmas.Bool.{and_parts, and_left, false_from_ne_true}
use Rattle.cedar_tokens.specs.Listing.{Decorated}
use Rattle.cedar_tokens.specs.PlainList.{is_comma, is_closing_bracket, is_trailing_comma, touches, with_trailing_of, with_lines_of, plain_from, plain_list, NoTwoCommas, PlainListIsPlain}
use Rattle.cedar_tokens.proofs.PlainSteps.{no_comma}

-- no token of the list is a trailing comma, and neither is the text before it
abbrev pub Clean : List ℕ → List Decorated → Type 0
Clean before [] = ⊤
Clean before (x ∷ xs) = ((is_comma before && is_closing_bracket x.text) ≡ false) × Clean x.text xs

-- d stays before the list
abbrev pub Stays : Decorated → List Decorated → Type 0
Stays d [] = ⊤
Stays d (c ∷ ts) = is_trailing_comma d c ≡ false

clean_from : (d : Decorated) (ts : List Decorated) → Clean d.text ts → plain_from d ts ≡ d ∷ ts
clean_from d [] h = refl
clean_from d (c ∷ []) h = refl
clean_from d (c ∷ (b ∷ ts)) h = rw h.1.0 (ap (λ l. d ∷ l) (clean_from c (b ∷ ts) h.1))

pub clean_same : (before : List ℕ) (l : List Decorated) → Clean before l → plain_list l ≡ l
clean_same before [] h = refl
clean_same before (c ∷ []) h = refl
clean_same before (c ∷ (b ∷ ts)) h = rw h.1.0 (clean_from c (b ∷ ts) h.1)

stays_bracket : (b : Decorated) (ts : List Decorated) → is_comma b.text ≡ false → Stays b ts
stays_bracket b [] e = tt
stays_bracket b (c ∷ ts) e = rw e refl

other_lines : (b c : Decorated) (ts : List Decorated) → NoTwoCommas (b ∷ ts)
    → NoTwoCommas (with_lines_of b c ∷ ts)
other_lines b c [] h = h
other_lines b c (x ∷ ts) h = h

other_stays : (b c : Decorated) (ts : List Decorated) → Stays b ts → Stays (with_lines_of b c) ts
other_stays b c [] h = h
other_stays b c (x ∷ ts) h = h

-- a comma that is dropped has no comma before it
no_comma_before : (d c : Decorated) → (is_comma d.text && is_comma c.text) ≡ false
    → is_comma c.text ≡ true → is_comma d.text ≡ false
no_comma_before d c h e =
    false_from_ne_true (is_comma d.text) (λ f. let g : true ≡ false = rw (f, e) at h in cc)

pub plain_clean : (before : List ℕ) (d : Decorated) (ts : List Decorated)
    → (is_comma before && is_closing_bracket d.text) ≡ false → Stays d ts → NoTwoCommas (d ∷ ts)
    → Clean before (plain_from d ts)
plain_clean before d [] f s n = (f, tt)
plain_clean before d (c ∷ []) f s n = (f, (s, tt))
plain_clean before d (c ∷ (b ∷ ts)) f s n =
    go (is_trailing_comma c b) refl (plain_clean d.text b ts)
    (plain_clean d.text (with_lines_of b c) ts) (plain_clean d.text c (b ∷ ts))
  where
    go : (x : Bool) → is_trailing_comma c b ≡ x
        → ((is_comma d.text && is_closing_bracket b.text) ≡ false → Stays b ts
        → NoTwoCommas (b ∷ ts) → Clean d.text (plain_from b ts))
        → ((is_comma d.text && is_closing_bracket b.text) ≡ false → Stays (with_lines_of b c) ts
        → NoTwoCommas (with_lines_of b c ∷ ts) → Clean d.text (plain_from (with_lines_of b c) ts))
        → ((is_comma d.text && is_closing_bracket c.text) ≡ false → Stays c (b ∷ ts)
        → NoTwoCommas (c ∷ (b ∷ ts)) → Clean d.text (plain_from c (b ∷ ts)))
        → Clean before (cond x (cond (touches d c) (with_trailing_of d c ∷ plain_from b ts)
        (d ∷ plain_from (with_lines_of b c) ts)) (d ∷ plain_from c (b ∷ ts)))
    go false e left moved stays = (f, stays s e n.1)
    go true e left moved stays =
        let p = and_parts (is_comma c.text) (is_closing_bracket b.text) e in
        let g =
        and_left (is_comma d.text) (is_closing_bracket b.text) (no_comma_before d c n.0 p.0) in
        let k = stays_bracket b ts (no_comma b.text p.1) in
        (elim (touches d c) as (λ y. Clean before
        (cond y (with_trailing_of d c ∷ plain_from b ts) (d ∷ plain_from (with_lines_of b c) ts))) [
          | true ↦ (f, left g k n.1.1)
          | false ↦ (f, moved g (other_stays b c ts k) (other_lines b c ts n.1.1))
        ])

pub plain_is_clean : (l : List Decorated) → NoTwoCommas l → Clean [] (plain_list l)
plain_is_clean [] n = tt
plain_is_clean (c ∷ []) n = (refl, tt)
plain_is_clean (c ∷ (b ∷ ts)) n = go (is_trailing_comma c b) refl
  where
    go : (x : Bool) → is_trailing_comma c b ≡ x
        → Clean [] (cond x (plain_from (with_lines_of b c) ts) (plain_from c (b ∷ ts)))
    go true e =
        let k = stays_bracket b ts
        (no_comma b.text (and_parts (is_comma c.text) (is_closing_bracket b.text) e).1) in
        plain_clean [] (with_lines_of b c) ts refl (other_stays b c ts k) (other_lines b c ts n.1)
    go false e = plain_clean [] c (b ∷ ts) refl e n

pub plain_twice : PlainListIsPlain
plain_twice l n = clean_same [] (plain_list l) (plain_is_clean l n)
