-- How a list loses its trailing commas, token by token.
use Rattle.std.proofs.Common.{◌≡◌, ◌≤◌, ◌+◌, ℕ, Bool, true, false, not, List, [], ◌∷◌, ◌++◌, length, map, Option, Some, None, MatchOption, IfSome, IfNone, refl, sym, ap, ◌∙◌, arith}
use Rattle.std.specs.Prelude.{⊤, codes}
use Rattle.std.specs.Option.{option_map, option_to_list}
use Rattle.std.proofs.lemmas.List.{append_assoc, map-append}
use Rattle.std.proofs.lemmas.Bool.{not-true}
use Rattle.cedar_tokens.specs.Listing.{Decorated}
use Rattle.cedar_tokens.specs.Tokens.{decorated, bare, token_text, trailing_text}
use Rattle.cedar_tokens.specs.PlainList.{is_comma, is_closing_bracket, with_trailing_of, with_lines_of, plain_from, plain_list, kept_tokens}
use Rattle.cedar_tokens.specs.Inside.MovedLines.{leaves, lines_for, moved_lines, trailing_before, LeftToToken, MovedToBracket, Follows}
use Rattle.cedar_tokens.specs.declared.token.Token.{Token}
use Rattle.cedar_tokens.specs.declared.token.Span.{Span}
use Rattle.cedar_tokens.specs.declared.token.WrappedToken.{WrappedToken}
use Rattle.cedar_tokens.proofs.Heads.{one_of}

-- the list after the token before, if there is one, without its trailing commas
abbrev pub plain_after : Option Decorated → List Decorated → List Decorated
plain_after None ts = plain_list ts
plain_after (Some d) ts = plain_from d ts

abbrev pub trailing_of : Option Decorated → Option (List ℕ)
trailing_of before = option_map (λ d. d.trailing) before

pub no_comma : (t : List ℕ) → is_closing_bracket t ≡ true → is_comma t ≡ false
no_comma t h = not-true (is_comma t)
    (one_of (λ u. not (is_comma u)) (codes ")" ∷ codes "]" ∷ codes "}" ∷ []) t refl h)

pub plain_other : (b : Option Decorated) (x : Decorated) (ts : List Decorated)
    → is_comma x.text ≡ false → plain_after b (x ∷ ts) ≡ option_to_list b ++ plain_from x ts
plain_other None x [] e = refl
plain_other None x (k ∷ ts) e = rw e refl
plain_other (Some d) x [] e = refl
plain_other (Some d) x (k ∷ ts) e = rw e refl

pub plain_stays : (b : Option Decorated) (c k : Decorated) (ts : List Decorated)
    → is_comma c.text ≡ true → is_closing_bracket k.text ≡ false
    → plain_after b (c ∷ k ∷ ts) ≡ option_to_list b ++ plain_from c (k ∷ ts)
plain_stays None c k ts e f = rw (e, f) refl
plain_stays (Some d) c k ts e f = rw (e, f) refl

pub plain_left : (b : Option Decorated) (c k : Decorated) (ts : List Decorated)
    → is_comma c.text ≡ true → is_closing_bracket k.text ≡ true → leaves (trailing_of b) c ≡ true
    → plain_after b (c ∷ k ∷ ts)
    ≡ option_to_list (option_map (λ d. with_trailing_of d c) b) ++ plain_from k ts
plain_left None c k ts e f g = absurd cc
plain_left (Some d) c k ts e f g = rw (e, f, g) refl

pub plain_moved : (b : Option Decorated) (c k : Decorated) (ts : List Decorated)
    → is_comma c.text ≡ true → is_closing_bracket k.text ≡ true → leaves (trailing_of b) c ≡ false
    → plain_after b (c ∷ k ∷ ts) ≡ option_to_list b ++ plain_from (with_lines_of k c) ts
plain_moved None c k ts e f g = rw (e, f) refl
plain_moved (Some d) c k ts e f g = rw (e, f, g) refl

pub moved_other : (p : Option (List ℕ)) (x : Decorated) (ts : List Decorated)
    → is_comma x.text ≡ false → moved_lines p (x ∷ ts) ≡ moved_lines (Some x.trailing) ts
moved_other p x [] e = refl
moved_other p x (k ∷ ts) e = rw e refl

pub moved_stays : (p : Option (List ℕ)) (c k : Decorated) (ts : List Decorated)
    → is_comma c.text ≡ true → is_closing_bracket k.text ≡ false
    → moved_lines p (c ∷ k ∷ ts) ≡ moved_lines (Some c.trailing) (k ∷ ts)
moved_stays p c k ts e f = rw (e, f) refl

pub moved_left : (p : Option (List ℕ)) (c k : Decorated) (ts : List Decorated)
    → is_comma c.text ≡ true → is_closing_bracket k.text ≡ true → leaves p c ≡ true
    → moved_lines p (c ∷ k ∷ ts) ≡ moved_lines (Some k.trailing) ts
moved_left p c k ts e f g = rw (e, f, g) (moved_other (Some c.trailing) k ts (no_comma k.text f))

pub moved_taken : (p : Option (List ℕ)) (c k : Decorated) (ts : List Decorated)
    → is_comma c.text ≡ true → is_closing_bracket k.text ≡ true → leaves p c ≡ false
    → moved_lines p (c ∷ k ∷ ts) ≡ lines_for c k ∷ moved_lines (Some k.trailing) ts
moved_taken p c k ts e f g = rw (e, f, g)
    (ap (λ ls. lines_for c k ∷ ls) (moved_other (Some c.trailing) k ts (no_comma k.text f)))

pub kept_other : (x : WrappedToken) (ts : List WrappedToken) → is_comma (token_text x.token) ≡ false
    → kept_tokens (x ∷ ts) ≡ x ∷ kept_tokens ts
kept_other x [] e = refl
kept_other x (k ∷ ts) e = rw e refl

pub kept_stays : (c k : WrappedToken) (ts : List WrappedToken)
    → is_comma (token_text c.token) ≡ true → is_closing_bracket (token_text k.token) ≡ false
    → kept_tokens (c ∷ k ∷ ts) ≡ c ∷ kept_tokens (k ∷ ts)
kept_stays c k ts e f = rw (e, f) refl

pub kept_dropped : (c k : WrappedToken) (ts : List WrappedToken)
    → is_comma (token_text c.token) ≡ true → is_closing_bracket (token_text k.token) ≡ true
    → kept_tokens (c ∷ k ∷ ts) ≡ k ∷ kept_tokens ts
kept_dropped c k ts e f = rw (e, f) (kept_other k ts (no_comma (token_text k.token) f))

-- between two tokens: kept are done, before is the last token that stays,
-- comma is one that may be removed, rest follows
pub record Reached (all kept : List WrappedToken) (before comma : Option WrappedToken)
    (rest : List WrappedToken) (lines : List (List (List ℕ))) (len capacity : ℕ) : Type 0 where
  pub list : map decorated kept ++ plain_after (option_map decorated before) (map decorated
      (option_to_list comma ++ rest)) ≡ plain_list (map decorated all)
  pub tokens : map bare kept ++ (map bare (option_to_list before)
      ++ map bare (kept_tokens (option_to_list comma ++ rest))) ≡ map bare (kept_tokens all)
  pub moved : lines
      ≡ moved_lines (trailing_before before) (map decorated (option_to_list comma ++ rest))
  pub comma_is : MatchOption comma ⊤ (λ c. is_comma (token_text c.token) ≡ true)
  pub room : len + (length (option_to_list before) + (length (option_to_list comma) + length rest))
      ≤ capacity

decorated_list : (b : Option WrappedToken)
    → map decorated (option_to_list b) ≡ option_to_list (option_map decorated b)
decorated_list None = refl
decorated_list (Some x) = refl

trailing_same : (b : Option WrappedToken) → trailing_before b ≡ trailing_of (option_map decorated b)
trailing_same None = refl
trailing_same (Some x) = refl

bare_option : (b b' : Option WrappedToken) → option_map bare b' ≡ option_map bare b
    → map bare (option_to_list b') ≡ map bare (option_to_list b)
bare_option None None e = refl
bare_option None (Some y) e = absurd cc
bare_option (Some x) None e = absurd cc
bare_option (Some x) (Some y) e = ap (λ o. option_to_list o) e

-- done is followed by what before and the list after it come to
list_step : (kept kept' : List WrappedToken) (before : Option WrappedToken) (b : Option Decorated)
    (d : Decorated) (ts ss all : List Decorated)
    → map decorated kept ++ plain_after (option_map decorated before) ts ≡ all
    → plain_after (option_map decorated before) ts ≡ option_to_list b ++ plain_from d ss
    → (last : Option WrappedToken) → option_map decorated last ≡ b
    → kept' ≡ kept ++ option_to_list last → map decorated kept' ++ plain_from d ss ≡ all
list_step kept kept' before b d ts ss all h e last f k =
    rw k (rw map-append (rw (decorated_list last) (rw f (rw append_assoc (rw e at h)))))

token_step : (kept kept' : List WrappedToken) (before last : Option WrappedToken)
    (x y : WrappedToken) (ts : List WrappedToken) (all : List (Token × Span))
    → map bare kept ++ (map bare (option_to_list before) ++ bare x ∷ map bare ts) ≡ all
    → option_map bare last ≡ option_map bare before → bare y ≡ bare x
    → kept' ≡ kept ++ option_to_list last → map bare kept' ++ (bare y ∷ map bare ts) ≡ all
token_step kept kept' before last x y ts all h e f k =
    rw k (rw map-append (rw (bare_option before last e) (rw f (rw append_assoc h))))

tail_of : List (List (List ℕ)) → List (List (List ℕ))
tail_of [] = []
tail_of (x ∷ xs) = xs

tail_same : (x y : List (List ℕ)) (xs ys : List (List (List ℕ))) → x ∷ xs ≡ y ∷ ys → xs ≡ ys
unfolding tail_of
tail_same x y xs ys e = ap tail_of e

-- a bracket after a comma, which is removed
pub reached_dropped : (all kept kept' : List WrappedToken) (before last : Option WrappedToken)
    (c k k' : WrappedToken) (rest : List WrappedToken) (lines lines' : List (List (List ℕ)))
    (len len' cap cap' : ℕ)
    → Reached all kept before (Some c) (k ∷ rest) lines len cap
    → is_closing_bracket (token_text k.token) ≡ true
    → (leaves (trailing_before before) (decorated c) ≡ true
    → LeftToToken (option_map decorated before) (decorated c) (decorated k) (option_map decorated
    last) (decorated k') × (lines' ≡ lines))
    → (leaves (trailing_before before) (decorated c) ≡ false
    → MovedToBracket (option_map decorated before) (decorated c) (decorated k) (option_map decorated
    last) (decorated k') × Follows lines lines')
    → option_map bare last ≡ option_map bare before → bare k' ≡ bare k
    → kept' ≡ kept ++ option_to_list last → len' ≡ len + length (option_to_list last) → cap ≤ cap'
    → Reached all kept' (Some k') None rest lines' len' cap'
reached_dropped all kept kept' before last c k k' rest lines lines' len len' cap cap' r close left
    moved same same' grown longer wider = go (leaves (trailing_before before) (decorated c)) refl
  where
    sizes : (b b' : Option WrappedToken) → option_map bare b' ≡ option_map bare b
        → length (option_to_list b') ≡ length (option_to_list b)
    sizes None None e = refl
    sizes None (Some y) e = absurd cc
    sizes (Some x) None e = absurd cc
    sizes (Some x) (Some y) e = refl

    room : len' + (1 + (0 + length rest)) ≤ cap'
    room = let s = sizes before last same in omega (arith, r.room, longer, wider, s)

    tokens : map bare kept' ++ (bare k' ∷ map bare (kept_tokens rest)) ≡ map bare (kept_tokens all)
    tokens = token_step kept kept' before last k k' (kept_tokens rest) (map bare (kept_tokens all))
        (rw (kept_dropped c k rest r.comma_is close) at r.tokens) same same' grown

    make : map decorated kept' ++ plain_from (decorated k') (map decorated rest) ≡ plain_list (map
        decorated all) → lines' ≡ moved_lines (Some (trailing_text k'.comment)) (map decorated rest)
        → Reached all kept' (Some k') None rest lines' len' cap'
    make l m = record { list = l; tokens = tokens; moved = m; comma_is = tt; room = room }

    go : (b : Bool) → leaves (trailing_before before) (decorated c) ≡ b
        → Reached all kept' (Some k') None rest lines' len' cap'
    go true e =
        let g = left e in
        let t : leaves (trailing_of (option_map decorated before)) (decorated c) ≡ true =
        ap (λ p. leaves p (decorated c)) (sym (trailing_same before)) ∙ e in
        let d = ap (λ z. z.trailing) g.0.1 in
        make (list_step kept kept' before (option_map (λ z. with_trailing_of z (decorated c))
        (option_map decorated before)) (decorated k') _ (map decorated rest) _ r.list
        (plain_left (option_map decorated before) (decorated c) (decorated k)
        (map decorated rest) r.comma_is close t
        ∙ ap (λ z. option_to_list (option_map (λ y. with_trailing_of y (decorated c)) (option_map
        decorated before)) ++ plain_from z (map decorated rest)) (sym g.0.1)) last g.0.0 grown)
        (g.1 ∙ r.moved ∙ moved_left (trailing_before before) (decorated c) (decorated k)
        (map decorated rest) r.comma_is close e
        ∙ ap (λ z. moved_lines (Some z) (map decorated rest)) (sym d))
    go false e =
        let g = moved e in
        let t : leaves (trailing_of (option_map decorated before)) (decorated c) ≡ false =
        ap (λ p. leaves p (decorated c)) (sym (trailing_same before)) ∙ e in
        let d = ap (λ z. z.trailing) g.0.1 in
        let m = sym g.1.1 ∙ r.moved ∙ moved_taken (trailing_before before) (decorated c)
        (decorated k) (map decorated rest) r.comma_is close e in
        make (list_step kept kept' before (option_map decorated before) (decorated k') _
        (map decorated rest) _ r.list
        (plain_moved (option_map decorated before) (decorated c) (decorated k) (map decorated rest)
        r.comma_is close t ∙ ap (λ z. option_to_list (option_map decorated before)
        ++ plain_from z (map decorated rest)) (sym g.0.1)) last g.0.0 grown)
        (tail_same _ _ _ _ m ∙ ap (λ z. moved_lines (Some z) (map decorated rest)) (sym d))

-- a comma before something else stays
pub reached_stays : (all kept kept' : List WrappedToken) (before : Option WrappedToken)
    (c k : WrappedToken) (rest : List WrappedToken) (lines : List (List (List ℕ)))
    (len len' cap cap' : ℕ)
    → Reached all kept before (Some c) (k ∷ rest) lines len cap
    → is_closing_bracket (token_text k.token) ≡ false
    → kept' ≡ kept ++ option_to_list before → len' ≡ len + length (option_to_list before)
    → cap ≤ cap'
    → Reached all kept' (Some c) None (k ∷ rest) lines len' cap'
reached_stays all kept kept' before c k rest lines len len' cap cap' r open_here grown longer
    wider = record {
      list = list_step kept kept' before (option_map decorated before) (decorated c) _
          (map decorated (k ∷ rest)) _ r.list (plain_stays (option_map decorated before)
          (decorated c) (decorated k) (map decorated rest) r.comma_is open_here) before refl grown;
      tokens = token_step kept kept' before before c c (kept_tokens (k ∷ rest))
          (map bare (kept_tokens all))
          (rw (kept_stays c k rest r.comma_is open_here) at r.tokens) refl refl grown;
      moved = r.moved ∙ moved_stays (trailing_before before) (decorated c) (decorated k)
          (map decorated rest) r.comma_is open_here;
      comma_is = tt;
      room = omega (arith, r.room, longer, wider);
    }

-- a comma before something else stays; where none waits, nothing changes
pub reached_pass : (all kept kept' : List WrappedToken) (before before' comma : Option WrappedToken)
    (k : WrappedToken) (rest : List WrappedToken) (lines : List (List (List ℕ)))
    (len len' cap cap' : ℕ)
    → Reached all kept before comma (k ∷ rest) lines len cap
    → MatchOption comma ⊤ (λ c. is_closing_bracket (token_text k.token) ≡ false)
    → IfSome comma (λ c. (before' ≡ Some c) × (kept' ≡ kept ++ option_to_list before)
    × (len' ≡ len + length (option_to_list before)))
    → IfNone comma ((before' ≡ before) × (kept' ≡ kept) × (len' ≡ len)) → cap ≤ cap'
    → Reached all kept' before' None (k ∷ rest) lines len' cap'
reached_pass all kept kept' before before' None k rest lines len len' cap cap' r o s n w =
    rw (n.0, n.1, n.2) (record {
      list = r.list;
      tokens = r.tokens;
      moved = r.moved;
      comma_is = tt;
      room = omega (arith, r.room, w);
    })
reached_pass all kept kept' before before' (Some c) k rest lines len len' cap cap' r o s n w =
    rw s.0 (reached_stays all kept kept' before c k rest lines len len' cap cap' r o s.1 s.2 w)

-- a comma waits for the next token
pub reached_comma : (all kept : List WrappedToken) (before : Option WrappedToken) (c : WrappedToken)
    (rest : List WrappedToken) (lines : List (List (List ℕ))) (len cap : ℕ)
    → Reached all kept before None (c ∷ rest) lines len cap → is_comma (token_text c.token) ≡ true
    → Reached all kept before (Some c) rest lines len cap
reached_comma all kept before c rest lines len cap r e = record {
  list = r.list;
  tokens = r.tokens;
  moved = r.moved;
  comma_is = e;
  room = omega (arith, r.room);
}

-- any other token stays
pub reached_other : (all kept kept' : List WrappedToken) (before : Option WrappedToken)
    (x : WrappedToken) (rest : List WrappedToken) (lines : List (List (List ℕ)))
    (len len' cap cap' : ℕ)
    → Reached all kept before None (x ∷ rest) lines len cap → is_comma (token_text x.token) ≡ false
    → kept' ≡ kept ++ option_to_list before → len' ≡ len + length (option_to_list before)
    → cap ≤ cap'
    → Reached all kept' (Some x) None rest lines len' cap'
reached_other all kept kept' before x rest lines len len' cap cap' r e grown longer wider = record {
  list = list_step kept kept' before (option_map decorated before) (decorated x) _
      (map decorated rest) _ r.list (plain_other (option_map decorated before) (decorated x)
      (map decorated rest) e) before refl grown;
  tokens = token_step kept kept' before before x x (kept_tokens rest) (map bare (kept_tokens all))
      (rw (kept_other x rest e) at r.tokens) refl refl grown;
  moved = r.moved ∙ moved_other (trailing_before before) (decorated x) (map decorated rest) e;
  comma_is = tt;
  room = omega (arith, r.room, longer, wider);
}
