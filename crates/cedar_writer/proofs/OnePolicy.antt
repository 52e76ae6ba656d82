-- A text with one `;`: its tokens are a list of the grammar if and only if they are a policy.
use Rattle.std.proofs.Common.{◌≡◌, ◌≤◌, ◌+◌, ℕ, ℤ, pos, Bool, true, false, List, [], ◌∷◌, ◌++◌, length, map, refl, ap, arith, sym, ◌∙◌, subst, append-nil}
use Rattle.std.specs.Prelude.{codes, if◌then◌else◌}
use Rattle.std.specs.List.{list_any}
use Rattle.std.proofs.lemmas.Bool.{or_parts}
use Rattle.std.proofs.lemmas.Slice.Eq.{bytes_eq-Decides}
use Rattle.std.proofs.lemmas.List.{map-append, take_all}
use Rattle.cedar_tokens.specs.Units.{is_token}
use Rattle.cedar_tokens.specs.Split.{SplitsInto}
use Rattle.cedar_tokens.specs.Listing.{Decorated, Listing, IsListing, listing}
use Rattle.cedar_tokens.specs.PlainList.{is_comma, is_closing_bracket, is_trailing_comma, touches, with_trailing_of, with_lines_of, plain_from, plain_list}
use Rattle.cedar_tokens.proofs.Scanning.{split_unique}
use Rattle.cedar_layout.specs.Layout.{Doc}
use Rattle.cedar_grammar.specs.Laws.{AreTokens}
use Rattle.cedar_grammar.specs.Texts.{greatest_depth, only_tokens}
use Rattle.cedar_grammar.proofs.Booleans.{and_first}
use Rattle.cedar_grammar.proofs.Texts.Listings.{listing_texts}
use Rattle.cedar_reading.specs.Lexemes.{AreLexemes}
use Rattle.cedar_reading.specs.declared.lexeme.Lexeme.{Lexeme}
use Rattle.cedar_reading.specs.Pieces.{IsFirstPiece, is_semicolon}
use Rattle.cedar_reading.proofs.Lists.{piece_splits}
use Rattle.cedar_reading.proofs.Prefixes.{units_of}
use Rattle.cedar_reading.proofs.PieceRefusals.{piece_tokens}
use Rattle.cedar_written.specs.Languages.{Lang, ◌⋄◌}
use Rattle.cedar_written.specs.Written.{Policy, PolicySet, no_policy, a_policy, Tok}
use Rattle.cedar_written.specs.Texts.{Accepted, InGrammar, without_comments}
use Rattle.cedar_written.proofs.SameRows.{texts}
use Rattle.cedar_written.proofs.GrammarRows as rows

-- ---- counting

-- 1 for a `;`, and 0 for any other text
abbrev pub mark : List ℕ → ℕ
mark u = if is_semicolon u then 1 else 0

-- how many of the texts are a `;`
abbrev pub semicolons : List (List ℕ) → ℕ
semicolons [] = 0
semicolons (u ∷ us) = mark u + semicolons us

pub semicolons_append : (us vs : List (List ℕ))
    → semicolons (us ++ vs) ≡ semicolons us + semicolons vs
semicolons_append [] vs = omega arith
semicolons_append (u ∷ us) vs = let h = semicolons_append us vs in omega (arith, h)

-- how many of the tokens are
abbrev pub count : List Decorated → ℕ
count ts = semicolons (texts ts)

pub count_append : (ts us : List Decorated) → count (ts ++ us) ≡ count ts + count us
count_append ts us =
    ap semicolons (map-append (λ t. t.text) ts us) ∙ semicolons_append (texts ts) (texts us)

-- ---- a policy has a `;`

ends_later : {X Y : Lang} → ((ts : List Decorated) (d : Doc) → Y ts d → 1 ≤ count ts)
    → (ts : List Decorated) (d : Doc) → (X ⋄ Y) ts d → 1 ≤ count ts
ends_later y ts d (us, vs, e, f, s, k, x, z) =
    let h = y vs f z in
    let c = count_append us vs in
    subst (λ r. 1 ≤ count r) (sym s) (omega (arith, h, c))

is_one : (ts : List Decorated) (d : Doc) → Tok ";" ts d → 1 ≤ count ts
is_one ts d (t, e, k, p) =
    subst (λ r. 1 ≤ count r) (sym e) (subst (λ r. 1 ≤ mark r + 0) (sym p) (omega arith))

pub policy_has_one : (i : ℤ) (n : ℕ) (ts : List Decorated) (d : Doc) → Policy i n ts d
    → 1 ≤ count ts
policy_has_one i n ts d p =
    ends_later (ends_later (ends_later (ends_later (ends_later is_one)))) ts d p

-- so a list with one `;` is one policy
pub only_policy : (i : ℤ) (n : ℕ) (ts : List Decorated) (ds : List Doc) → PolicySet i n ts ds
    → count ts ≡ 1 → (d : Doc) × (ds ≡ d ∷ []) × Policy i n ts d
only_policy i n _ _ no_policy e = absurd (omega (arith, e))
only_policy i n _ _ (a_policy ts us d ds y m) e = go us ds m e
  where
    go : (us : List Decorated) (ds : List Doc) → PolicySet i n us ds → count (ts ++ us) ≡ 1
        → (c : Doc) × (d ∷ ds ≡ c ∷ []) × Policy i n (ts ++ us) c
    go _ _ no_policy e = (d, refl, subst (λ z. Policy i n z d) (sym (append-nil ts)) y)
    go _ _ (a_policy vs ws c cs x k) e = absurd (omega (
      arith,
      e,
      count_append ts (vs ++ ws),
      count_append vs ws,
      policy_has_one i n ts d y,
      policy_has_one i n vs c x,
    ))

pub alone : (i : ℤ) (n : ℕ) (ts : List Decorated) (d : Doc) → Policy i n ts d
    → PolicySet i n ts (d ∷ [])
alone i n ts d p = subst (λ z. PolicySet i n z (d ∷ [])) (append-nil ts)
    (a_policy ts [] d [] p no_policy)

-- ---- a list keeps its `;` without its trailing commas

comma_is_none : (c b : Decorated) → is_trailing_comma c b ≡ true → mark c.text ≡ 0
comma_is_none c b e =
    let k : codes "," ≡ c.text =
    (bytes_eq-Decides (codes ",") c.text).0 (and_first (is_comma c.text) (is_closing_bracket b.text) e) in
    ap mark (sym k)

count_plain_from : (d : Decorated) (ts : List Decorated)
    → count (plain_from d ts) ≡ mark d.text + count ts
count_plain_from d [] = refl
count_plain_from d (c ∷ []) = refl
count_plain_from d (c ∷ (b ∷ ts)) = go (count_plain_from b ts) (count_plain_from (with_lines_of b c) ts)
    (count_plain_from c (b ∷ ts)) (is_trailing_comma c b) (touches d c) refl
  where
    go : count (plain_from b ts) ≡ mark b.text + count ts
        → count (plain_from (with_lines_of b c) ts) ≡ mark b.text + count ts
        → count (plain_from c (b ∷ ts)) ≡ mark c.text + (mark b.text + count ts)
        → (t k : Bool) → is_trailing_comma c b ≡ t
        → count (if t then (if k then with_trailing_of d c
        ∷ plain_from b ts else d ∷ plain_from (with_lines_of b c) ts) else d
        ∷ plain_from c (b ∷ ts)) ≡ mark d.text + (mark c.text + (mark b.text + count ts))
    go x y z true true e = let h = comma_is_none c b e in omega (arith, x, h)
    go x y z true false e = let h = comma_is_none c b e in omega (arith, y, h)
    go x y z false k e = omega (arith, z)

pub count_plain : (ts : List Decorated) → count (plain_list ts) ≡ count ts
count_plain [] = refl
count_plain (c ∷ []) = refl
count_plain (c ∷ (b ∷ ts)) = go (is_trailing_comma c b) refl
  where
    go : (t : Bool) → is_trailing_comma c b ≡ t
        → count (if t then plain_from (with_lines_of b c) ts else plain_from c (b ∷ ts))
        ≡ mark c.text + (mark b.text + count ts)
    go true e =
        let h = comma_is_none c b e in
        let x = count_plain_from (with_lines_of b c) ts in
        omega (arith, x, h)
    go false e = count_plain_from c (b ∷ ts)

-- ---- neither comments nor the indentation make a difference

redecorated : (i j : ℤ) (n : ℕ) (ts us : List Decorated) (d : Doc) → texts ts ≡ texts us
    → Policy i n ts d → (e : Doc) × Policy j n us e
redecorated i j n ts us d same p =
    let b = (rows.policy i n).back ts d p in
    (rows.policy j n).some b.0 us b.1 (sym same ∙ b.2)

bare_texts : (us : List (List ℕ)) → texts (map without_comments us) ≡ us
bare_texts [] = refl
bare_texts (u ∷ us) = ap (λ z. u ∷ z) (bare_texts us)

pub in_grammar : (i : ℤ) (n : ℕ) (ts : List Decorated) (d : Doc) → Policy i n ts d
    → InGrammar n (texts ts)
in_grammar i n ts d p =
    let bare = map without_comments (texts ts) in
    let r = redecorated i (pos 0) n ts bare d (sym (bare_texts (texts ts))) p in
    (r.0 ∷ [], alone (pos 0) n bare r.0 r.1)

pub of_grammar : (i : ℤ) (n : ℕ) (ts : List Decorated) → count ts ≡ 1 → InGrammar n (texts ts)
    → (d : Doc) × Policy i n ts d
of_grammar i n ts one (ds, m) =
    let same = bare_texts (texts ts) in
    let bare = map without_comments (texts ts) in
    let o = only_policy (pos 0) n bare ds m (ap semicolons same ∙ one) in
    redecorated (pos 0) i n bare ts o.0 same o.2

-- ---- the tokens of a text with one `;`

none_counted : (us : List (List ℕ)) → list_any is_semicolon us ≡ false
    → semicolons (only_tokens us) ≡ 0
none_counted [] h = refl
none_counted (u ∷ us) h =
    let p = or_parts (is_semicolon u) (list_any is_semicolon us) h in
    go p.0 (none_counted us p.1) (is_token u)
  where
    go : is_semicolon u ≡ false → semicolons (only_tokens us) ≡ 0 → (b : Bool)
        → semicolons (if b then u ∷ only_tokens us else only_tokens us) ≡ 0
    go x y true = let k : mark u ≡ 0 = ap (λ (b : Bool). if b then 1 else 0) x in omega (arith, k, y)
    go x y false = y

tokens_only : (us : List (List ℕ)) → AreTokens (λ t. t) (only_tokens us)
tokens_only [] = tt
tokens_only (u ∷ us) = go (tokens_only us) (is_token u) refl
  where
    go : AreTokens (λ t. t) (only_tokens us) → (b : Bool) → is_token u ≡ b
        → AreTokens (λ t. t) (if b then u ∷ only_tokens us else only_tokens us)
    go x true e = (e, x)
    go x false e = x

decorated_tokens : (ts : List Decorated) → AreTokens (λ t. t) (texts ts)
    → AreTokens (λ t. t.text) ts
decorated_tokens [] a = tt
decorated_tokens (t ∷ ts) a = (a.0, decorated_tokens ts a.1)

module _ (text : List ℕ) (l : Listing) (s : IsListing text l) where
  listed : (us : List (List ℕ)) → SplitsInto text us → texts l.tokens ≡ only_tokens us
  listed us k = ap (λ (z : Listing). texts z.tokens)
      (s.value ∙ ap listing (split_unique text s.units us s.split k)) ∙ listing_texts us

  pub are_tokens : AreTokens (λ t. t.text) l.tokens
  are_tokens = decorated_tokens l.tokens
      (subst (AreTokens (λ t. t)) (sym (listed s.units s.split)) (tokens_only s.units))

  module _ (p : IsFirstPiece text (length text)) where
    pub counted : count l.tokens ≡ 1
    counted =
        let q = p.piece in
        let whole : SplitsInto text (units_of q) =
        subst (λ z. SplitsInto z (units_of q)) (take_all (length text) text (omega arith))
        (piece_splits text (length text) q) in
        let last = semicolons_append (only_tokens q.before) (codes ";" ∷ []) in
        let none = none_counted q.before p.first in
        ap semicolons (listed (units_of q) whole ∙ piece_tokens text (length text) q)
        ∙ omega (arith, last, none)

    -- so it is accepted if and only if they are a policy
    pub accepted_by : (i : ℤ) (d : Doc) (ls : List Lexeme) → AreLexemes text ls
        → Policy i greatest_depth l.tokens d → Accepted text
    accepted_by i d ls x y = record {
      units = x.units;
      split = x.split;
      fitting = x.fitting;
      grammar = subst (InGrammar greatest_depth) (listed x.units x.split)
          (in_grammar i greatest_depth l.tokens d y);
    }

    pub policy_of : (i : ℤ) → Accepted text → (d : Doc) × Policy i greatest_depth l.tokens d
    policy_of i a = of_grammar i greatest_depth l.tokens counted
        (subst (InGrammar greatest_depth) (sym (listed a.units a.split)) a.grammar)
