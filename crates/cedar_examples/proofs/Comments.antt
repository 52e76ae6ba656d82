-- The comments of an output are those of its text, from the laws of outputs.
use Rattle.std.proofs.Common.{◌≡◌, ◌<◌, ◌≤◌, ◌+◌, ◌++◌, ℕ, ℤ, List, [], ◌∷◌, Bool, true, false, Bor, length, map, take, get_or, pos, refl, sym, ap, ◌∙◌, append_assoc, append-nil}
use Rattle.std.specs.Prelude.{◌↔◌, if◌then◌else◌, IsTrue}
use Rattle.std.specs.List.{flat_map}
use Rattle.std.specs.Str.{IsUtf8}
use Rattle.std.proofs.lemmas.List.{map-append, take_all, take_more}
use Rattle.std.proofs.lemmas.List.Folds.{flat_map-map}
use Rattle.std.proofs.lemmas.Grind.{flat_map-append}
use Rattle.std.proofs.lemmas.Bool.{and_parts}
use Rattle.cedar_tokens.specs.Listing.{Decorated, IsListing, Listing, ListingIsUnique, by_value, comments, is_empty, lines, listing}
use Rattle.cedar_tokens.specs.PlainList.{is_trailing_comma, plain_from, plain_list, touches, with_lines_of, with_trailing_of}
use Rattle.cedar_tokens.specs.Tokens.{decorated, leading_lines, trailing_text}
use Rattle.cedar_tokens.specs.declared.token.WrappedToken.{WrappedToken}
use Rattle.cedar_laws.specs.Canonical.{plain_listing}
use Rattle.cedar_written.specs.Canonical.{OutputHasTheList, OutputIsAccepted}
use Rattle.cedar_written.specs.Output.{IsOutputOf}
use Rattle.cedar_examples.specs.Comments.{AreCommentsOf, HaveEqualComments, comments_in}
use Rattle.cedar_examples.specs.Keys.{IsKeyOf}
use Rattle.cedar_tokens.proofs.CommentLines.{comments_nil}

-- the comments of a token, and of tokens
abbrev pub of_token : Decorated → List (List ℕ)
of_token t = t.leading ++ comments t.trailing

abbrev pub of_tokens : List Decorated → List (List ℕ)
of_tokens ts = flat_map of_token ts

empty_is : {X : Type 0} (xs : List X) → is_empty xs ≡ true → xs ≡ []
empty_is [] h = refl
empty_is (x ∷ xs) h = absurd cc

-- the comments of a dropped comma become trailing comments of the token before it
trailing_kept : (d c : Decorated) (rest : List (List ℕ)) → touches d c ≡ true
    → of_token (with_trailing_of d c) ++ rest ≡ of_token d ++ (of_token c ++ rest)
trailing_kept d c rest h =
    let e = empty_is d.trailing (and_parts (is_empty d.trailing) (is_empty c.leading) h).0 in
    let f = empty_is c.leading (and_parts (is_empty d.trailing) (is_empty c.leading) h).1 in
    append_assoc d.leading (comments c.trailing) rest
    ∙ sym (ap (λ z. (d.leading ++ z) ++ (of_token c ++ rest)) (ap comments e ∙ comments_nil)
    ∙ append_assoc d.leading [] (of_token c ++ rest)
    ∙ ap (λ z. d.leading ++ ((z ++ comments c.trailing) ++ rest)) f)

-- or leading comments of the bracket after it
lines_kept : (b c : Decorated) (rest : List (List ℕ))
    → of_token (with_lines_of b c) ++ rest ≡ of_token c ++ (of_token b ++ rest)
lines_kept b c rest = simp append_assoc

plain_from_keeps : (d : Decorated) (ts : List Decorated)
    → of_tokens (plain_from d ts) ≡ of_tokens (d ∷ ts)
plain_from_keeps d [] = refl
plain_from_keeps d (c ∷ []) = refl
plain_from_keeps d (c ∷ (b ∷ ts)) = go (is_trailing_comma c b) (touches d c) refl
    (plain_from_keeps b ts) (plain_from_keeps (with_lines_of b c) ts) (plain_from_keeps c (b ∷ ts))
  where
    go : (s t : Bool) → touches d c ≡ t → of_tokens (plain_from b ts) ≡ of_tokens (b ∷ ts)
        → of_tokens (plain_from (with_lines_of b c) ts) ≡ of_tokens (with_lines_of b c ∷ ts)
        → of_tokens (plain_from c (b ∷ ts)) ≡ of_tokens (c ∷ (b ∷ ts))
        → of_tokens (if s then (if t then with_trailing_of d c ∷ plain_from b ts else d ∷ plain_from
        (with_lines_of b c) ts) else d ∷ plain_from c (b ∷ ts)) ≡ of_tokens (d ∷ (c ∷ (b ∷ ts)))
    go true true h e f g =
        ap (λ z. of_token (with_trailing_of d c) ++ z) e ∙ trailing_kept d c (of_tokens (b ∷ ts)) h
    go true false h e f g = ap (λ z. of_token d ++ z) (f ∙ lines_kept b c (of_tokens ts))
    go false t h e f g = ap (λ z. of_token d ++ z) g

plain_list_keeps : (ts : List Decorated) → of_tokens (plain_list ts) ≡ of_tokens ts
plain_list_keeps [] = refl
plain_list_keeps (c ∷ []) = refl
plain_list_keeps (c ∷ (b ∷ ts)) = go (is_trailing_comma c b)
  where
    go : (s : Bool) → of_tokens (if s then plain_from (with_lines_of b c) ts
        else plain_from c (b ∷ ts)) ≡ of_tokens (c ∷ (b ∷ ts))
    go true = plain_from_keeps (with_lines_of b c) ts ∙ lines_kept b c (of_tokens ts)
    go false = plain_from_keeps c (b ∷ ts)

values_keep : (l : Listing) → comments_in (by_value l) ≡ comments_in l
values_keep l = ap (λ z. z ++ l.closing) (go l.tokens)
  where
    go : (ts : List Decorated)
        → of_tokens (by_value (record { tokens = ts; closing = [] })).tokens ≡ of_tokens ts
    go [] = refl
    go (t ∷ ts) = ap (λ z. of_token t ++ z) (go ts)

-- the comments of an output are those of its text
pub output_keeps_comments : OutputHasTheList → (w : ℕ) (i : ℤ) (x y : List ℕ) (m : Listing)
    → IsUtf8 x → (o : IsOutputOf w i x y) → IsListing y m → comments_in m ≡ comments_in o.list
output_keeps_comments has w i x y m u o h =
    sym (values_keep m) ∙ ap comments_in (has w i x y m u o h).0
    ∙ values_keep (plain_listing o.list)
    ∙ ap (λ z. z ++ o.list.closing) (plain_list_keeps o.list.tokens)

-- if a text has the comments of another, so does its key
pub printed_keeps : OutputHasTheList → OutputIsAccepted → ListingIsUnique
    → (before after out : List ℕ) → IsUtf8 after → IsKeyOf after out
    → HaveEqualComments before after → HaveEqualComments before out
printed_keeps has accepted unique before after out u o (l, m, f, g, e) =
    let t = accepted 80 (pos 2) after out u o in
    let h : IsListing out (listing t.units) =
    record { units = t.units; split = t.split; value = refl } in (
      l,
      listing t.units,
      f,
      h,
      e ∙ ap comments_in (unique after m o.list g o.is_list)
          ∙ sym (output_keeps_comments has 80 (pos 2) after out (listing t.units) u o h),
    )

-- comparing the comments of texts compares the texts' comments
pub equal_tells : ListingIsUnique → (a b : List ℕ) (xs ys : List (List ℕ)) (t : Bool)
    → AreCommentsOf a xs → AreCommentsOf b ys → (IsTrue t ↔ (xs ≡ ys))
    → IsTrue t ↔ HaveEqualComments a b
equal_tells unique a b xs ys t (l, f, d) (m, g, e) k = (
  λ h. (l, m, f, g, sym d ∙ k.0 h ∙ e),
  λ (n, o, p, q, h).
      k.1 (d ∙ ap comments_in (unique a l n f p) ∙ h ∙ ap comments_in (unique b o m q g) ∙ sym e),
)

-- ---- the comments of a text, token by token

abbrev pub of_wrapped : WrappedToken → List (List ℕ)
of_wrapped w = leading_lines w.comment ++ comments (trailing_text w.comment)

abbrev texts : List (Bor (List ℕ)) → List (List ℕ)
texts found = map (λ s. s.now) found

pub found_more : (ts : List WrappedToken) (i : ℕ) (w : WrappedToken)
    (found led longer all : List (Bor (List ℕ))) → i < length ts → w ≡ get_or ts i w
    → texts found ≡ flat_map of_wrapped (take i ts) → longer ≡ found ++ led
    → texts led ≡ leading_lines w.comment
    → texts all ≡ texts longer ++ comments (trailing_text w.comment)
    → texts all ≡ flat_map of_wrapped (take (i + 1) ts)
found_more ts i w found led longer all h item so_far more lines rest =
    let trailing = comments (trailing_text w.comment) in
    let before = flat_map of_wrapped (take i ts) in
    rest ∙ ap (λ z. texts z ++ trailing) more
    ∙ ap (λ z. z ++ trailing) (map-append (λ s. s.now) found led)
    ∙ append_assoc (texts found) (texts led) trailing
    ∙ ap (λ z. z ++ (texts led ++ trailing)) so_far ∙ ap (λ z. before ++ (z ++ trailing)) lines
    ∙ sym (ap (flat_map of_wrapped) (take_more ts i w h) ∙ flat_map-append of_wrapped (take i ts)
    (get_or ts i w ∷ []) ∙ ap (λ z. before ++ (of_wrapped z ++ [])) (sym item)
    ∙ ap (λ z. before ++ z) (append-nil (of_wrapped w)))

pub found_all : (text : List ℕ) (ts items : List WrappedToken) (i : ℕ)
    (found all : List (Bor (List ℕ))) (closing : List (List ℕ))
    → IsListing text (record { tokens = map decorated items; closing = closing }) → ts ≡ items
    → length ts ≤ i
    → texts found ≡ flat_map of_wrapped (take i ts) → texts all ≡ texts found ++ closing
    → AreCommentsOf text (texts all)
found_all text ts items i found all closing l e h so_far rest = (
  record { tokens = map decorated items; closing = closing },
  l,
  rest ∙ ap (λ z. z ++ closing) (so_far ∙ ap (flat_map of_wrapped) (take_all i ts h ∙ e)
      ∙ sym (flat_map-map of_token decorated items)),
)
