-- How far a loop over items has come that takes the tokens which the items say.
use Rattle.std.proofs.Common.{◌≡◌, ℕ, ◌+◌, ◌<◌, ◌≤◌, get_or, drop, List, [], ◌∷◌, ◌++◌, ◌⊎◌, inl, inr, map, length, refl, sym, ap, ◌∙◌, subst, append_assoc, append-nil, length-append, arith}
use Rattle.std.proofs.lemmas.List.{drop_all, drop_more, map-append}
use Rattle.cedar_tokens.specs.Listing.{Decorated}
use Rattle.cedar_tokens.specs.declared.token.WrappedToken.{WrappedToken}
use Rattle.cedar_layout.specs.Lookups.{AreInOrder, Parts, Shown, emptied, shown}
use Rattle.cedar_documents.specs.Items.{Item, token, at, needed, signs, item_of, items_of}
use Rattle.cedar_documents.specs.declared.items.Item as declared
use Rattle.cedar_documents.specs.Taking.{BeginsAt, Follow, by_value, own, texts_of}
use Rattle.cedar_documents.specs.declared.take.OwnToken.{OwnToken}
use Rattle.cedar_documents.proofs.Kept.{seam_get}
use Rattle.cedar_documents.proofs.Places.{before, first_from}

-- These items are to come, and this is taken of the tokens ts, which are consecutive after b. The place of the next token is known,
-- or the next item says it.
pub record Reached (b ts a : List Shown) (items : List Item) (place : ℕ) (taken : List Decorated) (tokens : List Shown) : Type 0 where
  pub done : List Shown
  pub left : List Shown
  pub all : ts ≡ done ++ left
  pub follow : Follow items left
  pub texts : taken ≡ map by_value done
  pub now : tokens ≡ (b ++ map emptied done) ++ (left ++ a)
  pub known : BeginsAt items ⊎ (place ≡ length (b ++ map emptied done))

module _ (b ts a : List Shown) where
  pub nothing_taken : (items : List Item) (tokens : List Shown) → tokens ≡ b ++ (ts ++ a)
      → BeginsAt items → Follow items ts → Reached b ts a items 0 [] tokens
  nothing_taken items tokens e k f = record {
    done = [];
    left = ts;
    all = refl;
    follow = f;
    texts = refl;
    now = e ∙ ap (λ z. z ++ (ts ++ a)) (sym (append-nil b));
    known = inl k;
  }

  pub all_taken : (place : ℕ) (taken : List Decorated) (tokens : List Shown)
      → Reached b ts a [] place taken tokens
      → (taken ≡ map by_value ts) × (tokens ≡ (b ++ map emptied ts) ++ a)
  all_taken place taken tokens r =
      let e : ts ≡ r.done = r.all ∙ (ap (λ z. r.done ++ z) r.follow ∙ append-nil r.done) in (
        r.texts ∙ ap (map by_value) (sym e),
        r.now ∙ (ap (λ z. (b ++ map emptied r.done) ++ (z ++ a)) r.follow
            ∙ ap (λ z. (b ++ map emptied z) ++ a) (sym e)),
      )

  -- ---- a token

  pub one_taken : (s : List ℕ) (items : List Item) (place place' : ℕ) (taken : List Decorated)
      (tokens tokens' : List Shown) (comment : Parts)
      → Reached b ts a (token s ∷ items) place taken tokens
      → ((c : List Shown) (t : Shown) (d : List Shown) → tokens ≡ c ++ (t ∷ d) → place ≡ length c
      → (comment ≡ t.comment) × (place' ≡ length c + 1) × (tokens' ≡ c ++ (emptied t ∷ d)))
      → Reached b ts a items place' (taken ++ (record {
        text = s;
        leading = comment.leading;
        trailing
            = comment.trailing;
      } ∷ [])) tokens'
  one_taken s items place place' taken tokens tokens' comment r f =
      go r.done r.left r.all r.follow r.texts r.now r.known
    where
      go : (done left : List Shown) → ts ≡ done ++ left → Follow (token s ∷ items) left
          → taken ≡ map by_value done → tokens ≡ (b ++ map emptied done) ++ (left ++ a)
          → BeginsAt (token s ∷ items) ⊎ (place ≡ length (b ++ map emptied done))
          → Reached b ts a items place' (taken ++ (record {
            text = s;
            leading = comment.leading;
            trailing
                = comment.trailing;
          } ∷ [])) tokens'
      go done left e w x n (inl k) = absurd k
      go done [] e w x n (inr k) = absurd w
      go done (t ∷ left) e w x n (inr k) =
          let c = b ++ map emptied done in
          let q = f c t (left ++ a) n k in
          let more : b ++ map emptied (done ++ (t ∷ [])) ≡ c ++ (emptied t ∷ []) =
          ap (λ z. b ++ z) (map-append emptied done (t ∷ []))
          ∙ sym (append_assoc b (map emptied done) (emptied t ∷ [])) in
          record {
            done = done ++ (t ∷ []);
            left = left;
            all = e ∙ sym (append_assoc done (t ∷ []) left);
            follow = w.1;
            texts = same_value t q.0 w.0 ∙ (ap (λ z. z ++ (by_value t ∷ [])) x
                ∙ sym (map-append by_value done (t ∷ [])));
            now = q.2 ∙ (sym (append_assoc c (emptied t ∷ []) (left ++ a))
                ∙ ap (λ z. z ++ (left ++ a)) (sym more));
            known = inr (q.1 ∙ (sym (length-append c (emptied t ∷ [])) ∙ ap length (sym more)));
          }
        where
          same_value : (t : Shown) → comment ≡ t.comment → s ≡ (by_value t).text
              → taken ++ (record { text = s; leading = comment.leading; trailing = comment.trailing }
              ∷ []) ≡ taken ++ (by_value t ∷ [])
          same_value t p q = rw (p, q) refl

  -- ---- a place

  module _ (p : ℕ) (items : List Item) (place : ℕ) (taken : List Decorated)
      (tokens : List WrappedToken) (order : AreInOrder tokens) where
    found : (done left : List Shown) → ts ≡ done ++ left → Follow (at p ∷ items) left
        → taken ≡ map by_value done → map shown tokens ≡ (b ++ map emptied done) ++ (left ++ a)
        → place ≡ before p tokens → Reached b ts a items place taken (map shown tokens)
    found done [] e w x n q = absurd w
    found done (t ∷ left) e w x n q =
        let c = b ++ map emptied done in record {
          done = done;
          left = t ∷ left;
          all = e;
          follow = w.1;
          texts = x;
          now = n;
          known = inr (q ∙ sym (at_first tokens order n));
        }
      where
        at_first : (us : List WrappedToken) → AreInOrder us
            → map shown us ≡ (b ++ map emptied done) ++ ((t ∷ left) ++ a)
            → length (b ++ map emptied done) ≡ before p us
        at_first [] o m = absurd (let k = ap length m in
            let l = length-append (b ++ map emptied done) ((t ∷ left) ++ a) in omega (arith, k, l))
        at_first (u ∷ us) o m =
            let r = seam_get (b ++ map emptied done) t (left ++ a) (u ∷ us)
            (length (b ++ map emptied done)) u m refl in
            first_from p 0 (u ∷ us) (length (b ++ map emptied done)) u o r.0
            (ap (λ (z : Shown). z.span.start) r.1 ∙ w.0)

    pub at_place : (old : ℕ) → Reached b ts a (at p ∷ items) old taken (map shown tokens)
        → place ≡ before p tokens → Reached b ts a items place taken (map shown tokens)
    at_place old r q = found r.done r.left r.all r.follow r.texts r.now q

    pub at_needed : (old : ℕ) → Reached b ts a (needed p ∷ items) old taken (map shown tokens)
        → place ≡ before p tokens → Reached b ts a items place taken (map shown tokens)
    at_needed old r q = found r.done r.left r.all (as_at r.left r.follow) r.texts r.now q
      where
        as_at : (us : List Shown) → Follow (needed p ∷ items) us → Follow (at p ∷ items) us
        as_at [] w = w
        as_at (u ∷ us) w = w

  -- ---- signs

  pub at_signs : (n p q : ℕ) (items : List Item) (place : ℕ) (taken : List Decorated)
      (tokens : List Shown) → Reached b ts a (signs n p q ∷ items) place taken tokens
      → Reached b ts a items place taken tokens
  at_signs n p q items place taken tokens r = record {
    done = r.done;
    left = r.left;
    all = r.all;
    follow = r.follow;
    texts = r.texts;
    now = r.now;
    known = there r.known;
  }
    where
      there : BeginsAt (signs n p q ∷ items) ⊎ (place ≡ length (b ++ map emptied r.done))
          → BeginsAt items ⊎ (place ≡ length (b ++ map emptied r.done))
      there (inl k) = absurd k
      there (inr k) = inr k

-- the items to come, with the next one first
pub next_item : (xs : List declared.Item) (i : ℕ) (d x : declared.Item) → i < length xs
    → get_or xs i d ≡ x → items_of (drop i xs) ≡ item_of x ∷ items_of (drop (i + 1) xs)
next_item xs i d x l e =
    ap items_of (drop_more xs i d l) ∙ ap (λ z. item_of z ∷ items_of (drop (i + 1) xs)) e

pub with_next : {b ts a tokens : List Shown} {xs ys : List Item} {place : ℕ} {taken : List Decorated}
    → xs ≡ ys → Reached b ts a xs place taken tokens → Reached b ts a ys place taken tokens
with_next {b} {ts} {a} {tokens} {xs} {ys} {place} {taken} e r =
    subst (λ z. Reached b ts a z place taken tokens) e r

-- one more token of the node
pub one_more : (old new : List OwnToken) (x : OwnToken) → new ≡ old ++ (x ∷ [])
    → map own new ≡ map own old ++ (own x ∷ [])
one_more old new x e = ap (map own) e ∙ map-append own old (x ∷ [])

-- ---- the texts alone

abbrev pub text : OwnToken → List ℕ
text t = t.text.now

pub text_more : (old new : List OwnToken) (x : OwnToken) (rest : List (List ℕ))
    → new ≡ old ++ (x ∷ []) → map text new ++ rest ≡ map text old ++ (x.text.now ∷ rest)
text_more old new x rest e = ap (λ z. map text z ++ rest) e
    ∙ (ap (λ z. z ++ rest) (map-append text old (x ∷ []))
    ∙ append_assoc (map text old) (x.text.now ∷ []) rest)

pub same_texts : (taken : List (List ℕ)) (xs ys : List Item) (all : List (List ℕ)) → xs ≡ ys
    → taken ++ texts_of xs ≡ all → taken ++ texts_of ys ≡ all
same_texts taken xs ys all e h = ap (λ z. taken ++ texts_of z) (sym e) ∙ h

pub all_texts : (taken all : List (List ℕ)) (xs : List declared.Item) (i : ℕ) → length xs ≤ i
    → taken ++ texts_of (items_of (drop i xs)) ≡ all → taken ≡ all
all_texts taken all xs i l h = sym (append-nil taken)
    ∙ (ap (λ z. taken ++ texts_of (items_of z)) (sym (drop_all i xs l)) ∙ h)
