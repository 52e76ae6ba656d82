-- Two texts whose lists are compared piece by piece.
use Rattle.std.proofs.Common.{◌≡◌, ◌+◌, ℕ, Bool, true, false, cond, ◌&&◌, List, [], ◌∷◌, ◌++◌, length, map, take, drop, refl, ap, sym, ◌∙◌, subst, inl, inr, append-nil}
use Rattle.std.specs.Prelude.{◌⊎◌, ◌↔◌, IsTrue, MatchBool, IfOk, Result, Ok, Err, codes}
use Rattle.std.specs.declared.alloc.AllocError.{AllocError}
use Rattle.std.specs.List.{list_any}
use Rattle.std.proofs.lemmas.Bool.{both_ways, or_parts}
use Rattle.std.proofs.lemmas.List.{append_cancel_left, map-append}
use Rattle.cedar_tokens.specs.Listing.{Decorated, Listing, IsListing, gaps, decorate, listing, comments}
use Rattle.cedar_tokens.specs.PlainList.{is_trailing_comma, touches, with_trailing_of, with_lines_of, plain_from, plain_list}
use Rattle.cedar_tokens.specs.Tokens.{decorated}
use Rattle.cedar_tokens.specs.declared.token.WrappedToken.{WrappedToken}
use Rattle.cedar_tokens.specs.TokenKinds.{kind_of}
use Rattle.cedar_tokens.specs.Kinds.{is}
use Rattle.cedar_tokens.specs.declared.kind.Kind.TheVariants as K
use Rattle.cedar_tokens.proofs.Scanning.{listing_unique, split_unique}
use Rattle.cedar_grammar.specs.Texts.{Accepted, only_tokens}
use Rattle.cedar_grammar.proofs.Texts.Listings.{listing_texts}
use Rattle.cedar_grammar.specs.TreeLaws.{AcceptedIsNotRefused}
use Rattle.cedar_laws.specs.Output.{with_value}
use Rattle.cedar_laws.proofs.Grammatical.{value_kind}
use Rattle.cedar_reading.specs.Pieces.{IsPiece, IsFirstPiece, HasNoPiece}
use Rattle.cedar_reading.proofs.Lists.{begins_trailing, comments_alone, lists_follow, piece_ends, piece_splits, plain_follow}
use Rattle.cedar_reading.proofs.Prefixes.{through, through_after}
use Rattle.cedar_reading.proofs.PieceRefusals.{no_kind, piece_tokens, rest_is_empty}
use Rattle.cedar_cst.specs.PolicyReaders.{Position, EndsPiece, HasEnded, GoesOn, AreTokensOf}
use Rattle.cedar_cst.proofs.PartLaws.{no_units}
use Rattle.cedar_cst.proofs.Places.{accepted_parts, place_accepted}
use Rattle.cedar_cst.proofs.Readers.{ends_more, ends_within}
use Rattle.cedar_written.specs.Lists.{HaveEqualLists}
use Rattle.cedar_policy_formatter.specs.Inside.Alike.{plain_value, HaveEqualTokens, GoesOnAlike, HasNext, HasOtherNext}
use Rattle.cedar_policy_formatter.proofs.PieceOutputs.{list_stays}

-- ---- lists that end with their only `;`

abbrev is_end : List ℕ → Bool
is_end text = is K.SemiColon (kind_of text)

abbrev EndsOnce : List Decorated → Type 0
EndsOnce [] = ⊥
EndsOnce (d ∷ ds) = ((is_end d.text ≡ true) × (ds ≡ [])) ⊎ ((is_end d.text ≡ false) × EndsOnce ds)

ends_by_texts : (ds : List Decorated) (ts : List (List ℕ)) (t : List ℕ)
    → map (λ d. d.text) ds ≡ ts ++ (t ∷ [])
    → list_any is_end ts ≡ false → is_end t ≡ true → EndsOnce ds
ends_by_texts [] [] t e n h = absurd cc
ends_by_texts [] (u ∷ ts) t e n h = absurd cc
ends_by_texts (d ∷ []) [] t e n h = let i : d.text ≡ t = cc in inl (ap is_end i ∙ h, refl)
ends_by_texts (d ∷ (c ∷ ds)) [] t e n h = absurd cc
ends_by_texts (d ∷ ds) (u ∷ ts) t e n h =
    let i : d.text ≡ u = cc in
    let j : map (λ d. d.text) ds ≡ ts ++ (t ∷ []) = cc in
    let p = or_parts (is_end u) (list_any is_end ts) n in
    inr (ap is_end i ∙ p.0, ends_by_texts ds ts t j p.1 h)

-- more than one token: the first is no `;`
tail_ends : (d c : Decorated) (ds : List Decorated) → EndsOnce (d ∷ (c ∷ ds))
    → (is_end d.text ≡ false) × EndsOnce (c ∷ ds)
tail_ends d c ds (inl (h, e)) = absurd cc
tail_ends d c ds (inr h) = h

-- so do they without trailing commas
plain_from_ends : (d : Decorated) (ts : List Decorated) → EndsOnce (d ∷ ts)
    → EndsOnce (plain_from d ts)
plain_from_ends d [] h = h
plain_from_ends d (c ∷ []) h = h
plain_from_ends d (c ∷ (b ∷ ts)) h =
    let p = tail_ends d c (b ∷ ts) h in
    let q = tail_ends c b ts p.1 in
    go (is_trailing_comma c b) (touches d c) p.0 (plain_from_ends b ts q.1)
    (plain_from_ends (with_lines_of b c) ts q.1) (plain_from_ends c (b ∷ ts) p.1)
  where
    go : (x y : Bool) → is_end d.text ≡ false → EndsOnce (plain_from b ts)
        → EndsOnce (plain_from (with_lines_of b c) ts)
        → EndsOnce (plain_from c (b ∷ ts))
        → EndsOnce (cond x (cond y (with_trailing_of d c ∷ plain_from b ts)
        (d ∷ plain_from (with_lines_of b c) ts)) (d ∷ plain_from c (b ∷ ts)))
    go true true n left moved stays = inr (n, left)
    go true false n left moved stays = inr (n, moved)
    go false y n left moved stays = inr (n, stays)

plain_ends : (ts : List Decorated) → EndsOnce ts → EndsOnce (plain_list ts)
plain_ends [] h = h
plain_ends (c ∷ []) h = h
plain_ends (c ∷ (b ∷ ts)) h = go (is_trailing_comma c b)
    (plain_from_ends (with_lines_of b c) ts (tail_ends c b ts h).1) (plain_from_ends c (b ∷ ts) h)
  where
    go : (x : Bool) → EndsOnce (plain_from (with_lines_of b c) ts)
        → EndsOnce (plain_from c (b ∷ ts))
        → EndsOnce (cond x (plain_from (with_lines_of b c) ts) (plain_from c (b ∷ ts)))
    go true moved stays = moved
    go false moved stays = stays

same_end : (x y : Decorated) → with_value x ≡ with_value y → is_end x.text ≡ is_end y.text
same_end x y e =
    sym (ap (is K.SemiColon) (value_kind x.text))
    ∙ ap (λ (d : Decorated). is_end d.text) e
    ∙ ap (is K.SemiColon) (value_kind y.text)

-- what ends with its only `;` ends at the first one, by value
cut : (xs ys us vs : List Decorated) → EndsOnce xs → EndsOnce ys
    → map with_value xs ++ us ≡ map with_value ys ++ vs
    → map with_value xs ≡ map with_value ys
cut [] ys us vs a b e = absurd a
cut (x ∷ xs) [] us vs a b e = absurd b
cut (x ∷ xs) (y ∷ ys) us vs a b e =
    let i : with_value x ≡ with_value y = cc in
    let j : map with_value xs ++ us ≡ map with_value ys ++ vs = cc in
    go i (same_end x y i) a b (λ h k. cut xs ys us vs h k j)
  where
    go : with_value x ≡ with_value y → is_end x.text ≡ is_end y.text → EndsOnce (x ∷ xs)
        → EndsOnce (y ∷ ys)
        → (EndsOnce xs → EndsOnce ys → map with_value xs ≡ map with_value ys)
        → map with_value (x ∷ xs) ≡ map with_value (y ∷ ys)
    go i s (inl (p, f)) (inl (q, g)) more =
        ap (λ d. d ∷ map with_value xs) i ∙ ap (λ ds. with_value y ∷ map with_value ds) (f ∙ sym g)
    go i s (inl (p, f)) (inr (q, k)) more = absurd (both_ways (is_end y.text) q (sym s ∙ p))
    go i s (inr (p, h)) (inl (q, g)) more = absurd (both_ways (is_end y.text) (sym s ∙ p) q)
    go i s (inr (p, h)) (inr (q, k)) more =
        ap (λ d. d ∷ map with_value xs) i ∙ ap (λ ds. with_value y ∷ ds) (more h k)

-- the tokens of a first piece
first_ends : (text : List ℕ) (n : ℕ) (l : Listing) → IsFirstPiece text n → IsListing (take n text) l
    → EndsOnce l.tokens
first_ends text n l f i =
    let p = f.piece in
    let same = split_unique (take n text) i.units (p.before ++ (codes ";" ∷ p.line)) i.split
    (piece_splits text n p) in
    ends_by_texts l.tokens (only_tokens p.before) (codes ";")
    (ap (λ (z : Listing). map (λ d. d.text) z.tokens) i.value ∙ listing_texts i.units
    ∙ ap only_tokens same ∙ piece_tokens text n p)
    (no_kind p.before f.first) refl

-- ---- a place between pieces

-- nothing has no tokens
none_listed : (text : List ℕ) (l : Listing) → IsListing (take 0 text) l → l.tokens ≡ []
unfolding listing gaps decorate
none_listed text l i =
    ap (λ (z : Listing). z.tokens) (i.value ∙ ap listing (no_units i.units i.split))

-- the list of a text is that before a place and then that after it
list_follow : (text : List ℕ) (n : ℕ) (l m : Listing) → EndsPiece text n → IsListing (take n text) l
    → IsListing (drop n text) m
    → IsListing text (record { tokens = l.tokens ++ m.tokens; closing = m.closing })
list_follow text n l m (inl e) a b =
    let none : l.tokens ≡ [] = none_listed text l (subst (λ k. IsListing (take k text) l) e a) in
    subst (λ ts. IsListing text (record { tokens = ts ++ m.tokens; closing = m.closing }))
    (sym none) (subst (λ k. IsListing (drop k text) m) e b)
list_follow text n l m (inr p) a b = lists_follow text n l m p a b

value_follow : (text : List ℕ) (n : ℕ) (l : Listing) (ms : List Decorated) → EndsPiece text n
    → IsListing (take n text) l
    → begins_trailing ms ≡ false
    → plain_value (l.tokens ++ ms) ≡ plain_value l.tokens ++ plain_value ms
value_follow text n l ms (inl e) a h =
    let none : l.tokens ≡ [] = none_listed text l (subst (λ k. IsListing (take k text) l) e a) in
    subst (λ ts. plain_value (ts ++ ms) ≡ plain_value ts ++ plain_value ms) (sym none) refl
value_follow text n l ms (inr p) a h =
    let s = (piece_ends text n l p a).1 in
    subst (λ ts. plain_value (ts ++ ms) ≡ plain_value ts ++ plain_value ms) (sym s.2)
    (ap (map with_value) (plain_follow s.0 s.1 ms s.3 h)
    ∙ map-append with_value (plain_list (s.0 ++ (s.1 ∷ []))) (plain_list ms))

-- the list before the next place
front_more : (text : List ℕ) (at n : ℕ) (l m : Listing) → EndsPiece text at
    → IsPiece (drop at text) n
    → IsListing (take at text) l → IsListing (take n (drop at text)) m
    → IsListing (take (at + n) text) (record { tokens = l.tokens ++ m.tokens; closing = m.closing })
front_more text at n l m e q a b =
    let w = ends_within text at n e q in
    list_follow (through text at n) at l m w.0 (subst (λ x. IsListing x l) (sym w.1) a)
    (subst (λ x. IsListing x m) (sym (through_after text at n)) b)

-- the list of an accepted text
list_of : (text : List ℕ) → Accepted text → (l : Listing) × IsListing text l
list_of text (f, a) = (listing a.units, record { units = a.units; split = a.split; value = refl })

-- a list has a token
nothing : (xs us : List Decorated) → EndsOnce xs → map with_value xs ++ us ≡ [] → ⊥
nothing [] us h e = h
nothing (x ∷ xs) us h e = absurd cc

-- ---- two texts

-- the pieces of two texts before these places have equal tokens
pub record Agree (a : List ℕ) (i : ℕ) (b : List ℕ) (j : ℕ) : Type 0 where
  pub left_ends : EndsPiece a i
  pub right_ends : EndsPiece b j
  pub left : Listing
  pub right : Listing
  pub left_list : IsListing (take i a) left
  pub right_list : IsListing (take j b) right
  pub same : plain_value left.tokens ≡ plain_value right.tokens

-- both texts are accepted, and their lists are equal
abbrev pub AreAlike : List ℕ → List ℕ → Type 0
AreAlike a b = Accepted a × Accepted b × HaveEqualLists a b

-- whether two texts are alike, as far as they are compared
abbrev pub Compared : Bool → List ℕ → ℕ → List ℕ → ℕ → Type 0
Compared same a i b j = MatchBool same (Agree a i b j) (AreAlike a b → ⊥)

turned : (a b : List ℕ) (i j : ℕ) → Agree a i b j → Agree b j a i
turned a b i j g = record {
  left_ends = g.right_ends;
  right_ends = g.left_ends;
  left = g.right;
  right = g.left;
  left_list = g.right_list;
  right_list = g.left_list;
  same = sym g.same;
}

alike_turned : (a b : List ℕ) → AreAlike a b → AreAlike b a
alike_turned a b (x, y, (l, m, p, q, e)) = (y, x, (m, l, q, p, sym e))

empty_list : (text : List ℕ) → IsListing (take 0 text) (listing [])
empty_list text = record { units = []; split = refl; value = refl }

pub agree_begins : (a b : List ℕ) (i j : ℕ) → i ≡ 0 → j ≡ 0 → Agree a i b j
agree_begins a b i j e f = record {
  left_ends = inl e;
  right_ends = inl f;
  left = listing [];
  right = listing [];
  left_list = subst (λ k. IsListing (take k a) (listing [])) (sym e) (empty_list a);
  right_list = subst (λ k. IsListing (take k b) (listing [])) (sym f) (empty_list b);
  same = refl;
}

-- a place of an accepted text, and the list of what follows it
rest_value : (text : List ℕ) (n : ℕ) (whole l m : Listing) → Accepted text → EndsPiece text n
    → IsListing text whole → IsListing (take n text) l → IsListing (drop n text) m
    → (plain_value whole.tokens ≡ plain_value l.tokens ++ plain_value m.tokens) × (whole.closing
    ≡ m.closing)
rest_value text n whole l m a e w i j =
    let same = listing_unique text whole _ w (list_follow text n l m e i j) in
    let well = list_stays (drop n text) m (place_accepted text n e a).1 j in (
      ap (λ (z : Listing). plain_value z.tokens) same ∙ value_follow text n l m.tokens e i well,
      ap (λ (z : Listing). z.closing) same,
    )

-- one more piece, by value
front_value : (text : List ℕ) (n : ℕ) (l m : Listing) (piece : List ℕ) → EndsPiece text n
    → IsListing (take n text) l
    → Accepted piece → IsListing piece m
    → plain_value (l.tokens ++ m.tokens) ≡ plain_value l.tokens ++ plain_value m.tokens
front_value text n l m piece e i a j = value_follow text n l m.tokens e i (list_stays piece m a j)

module _ (a b : List ℕ) (i j : ℕ) (g : Agree a i b j) where
  -- alike texts are alike from there on
  rest_equal : (m n : Listing) → AreAlike a b → IsListing (drop i a) m → IsListing (drop j b) n
      → (plain_value m.tokens ≡ plain_value n.tokens) × (m.closing ≡ n.closing)
  rest_equal m n (x, y, (l, k, p, q, e)) r s =
      let f = rest_value a i l g.left m x g.left_ends p g.left_list r in
      let h = rest_value b j k g.right n y g.right_ends q g.right_list s in
      let whole : plain_value g.right.tokens ++ plain_value m.tokens
      ≡ plain_value g.right.tokens ++ plain_value n.tokens =
      ap (λ z. z ++ plain_value m.tokens) (sym g.same)
      ∙ (sym f.0 ∙ (ap (λ (z : Listing). z.tokens) e ∙ h.0)) in (
        append_cancel_left (plain_value g.right.tokens) (plain_value m.tokens)
            (plain_value n.tokens) whole,
        sym f.1 ∙ (ap (λ (z : Listing). z.closing) e ∙ h.1),
      )

  -- so their next pieces have equal tokens
  next_equal : (n m : ℕ) (l k : Listing) → AreAlike a b → IsFirstPiece (drop i a) n
      → IsFirstPiece (drop j b) m
      → IsListing (take n (drop i a)) l → IsListing (take m (drop j b)) k
      → plain_value l.tokens ≡ plain_value k.tokens
  next_equal n m l k h f e p q =
      let x = (place_accepted a i g.left_ends h.0).1 in
      let y = (place_accepted b j g.right_ends h.1).1 in
      let r = list_of (drop i a) x in
      let s = list_of (drop j b) y in
      let c = list_of (drop n (drop i a)) (accepted_parts (drop i a) n f.piece x).1 in
      let d = list_of (drop m (drop j b)) (accepted_parts (drop j b) m e.piece y).1 in
      let left = (rest_value (drop i a) n r.0 l c.0 x (inr f.piece) r.1 p c.1).0 in
      let right = (rest_value (drop j b) m s.0 k d.0 y (inr e.piece) s.1 q d.1).0 in
      cut (plain_list l.tokens) (plain_list k.tokens) (plain_value c.0.tokens)
      (plain_value d.0.tokens)
      (plain_ends l.tokens (first_ends (drop i a) n l f p))
      (plain_ends k.tokens (first_ends (drop j b) m k e q))
      (sym left ∙ ((rest_equal r.0 s.0 h r.1 s.1).0 ∙ right))

  -- and they end together
  next_none : (n : ℕ) → AreAlike a b → IsFirstPiece (drop i a) n → HasNoPiece (drop j b) → ⊥
  next_none n h f e =
      let x = (place_accepted a i g.left_ends h.0).1 in
      let r = list_of (drop i a) x in
      let q = accepted_parts (drop i a) n f.piece x in
      let l = list_of (take n (drop i a)) q.0 in
      let c = list_of (drop n (drop i a)) q.1 in
      let left = (rest_value (drop i a) n r.0 l.0 c.0 x (inr f.piece) r.1 l.1 c.1).0 in
      let empty = rest_is_empty (drop j b) e (place_accepted b j g.right_ends h.1).1 in
      let s = comments_alone (drop j b) empty.0 empty.1 empty.2 in
      nothing (plain_list l.0.tokens) (plain_value c.0.tokens)
      (plain_ends l.0.tokens (first_ends (drop i a) n l.0 f l.1))
      (sym left ∙ (rest_equal r.0 _ h r.1 s).0)

-- ---- readers of two texts

module _ (r s : Position) where
  abbrev AgreeHere : Type 0
  AgreeHere = Agree r.text r.at s.text s.at

  -- both go on with equal pieces
  pub more_agree : (next last : Position) (piece : List ℕ) → AgreeHere → GoesOn r next piece
      → Accepted piece
      → GoesOnAlike piece s last → Agree next.text next.at last.text last.at
  more_agree next last piece g x a n = more n.equal
    where
      more : HaveEqualTokens piece n.piece → Agree next.text next.at last.text last.at
      more (l, k, p, q, e) =
          let y = n.goes_on in
          let left = subst (λ z. IsListing z l) x.bytes p in
          let right = subst (λ z. IsListing z k) y.bytes q in
          rw (x.of_text, x.further, y.of_text, y.further) (record {
            left_ends = ends_more r.text r.at (length piece) g.left_ends x.first.piece;
            right_ends = ends_more s.text s.at (length n.piece) g.right_ends y.first.piece;
            left = record { tokens = g.left.tokens ++ l.tokens; closing = l.closing };
            right = record { tokens = g.right.tokens ++ k.tokens; closing = k.closing };
            left_list = front_more r.text r.at
                (length piece) g.left l g.left_ends x.first.piece g.left_list left;
            right_list = front_more s.text s.at
                (length n.piece) g.right k g.right_ends y.first.piece g.right_list right;
            same = front_value r.text r.at g.left l piece g.left_ends g.left_list a p
                ∙ (ap (λ z. z ++ plain_value l.tokens) g.same
                ∙ (ap (λ z. plain_value g.right.tokens ++ z) e
                ∙ sym (front_value s.text s.at g.right k n.piece g.right_ends g.right_list
                n.accepted q)));
          })

  -- what differs in a piece is not alike
  pub piece_differs : AcceptedIsNotRefused → (next : Position) (piece : List ℕ) → AgreeHere
      → GoesOn r next piece
      → HasOtherNext piece s → AreAlike r.text s.text → ⊥
  piece_differs judged next piece g x (inl ended) h =
      next_none r.text s.text r.at s.at g (length piece) h x.first ended.none
  piece_differs judged next piece g x (inr (inl (e, f))) h = judged s.text e h.1 f
  piece_differs judged next piece g x (inr (inr (other, last, y, n))) h =
      let a = accepted_parts (drop r.at r.text) (length piece) x.first.piece
      (place_accepted r.text r.at g.left_ends h.0).1 in
      let b = accepted_parts (drop s.at s.text) (length other) y.first.piece
      (place_accepted s.text s.at g.right_ends h.1).1 in
      let l = list_of (take (length piece) (drop r.at r.text)) a.0 in
      let k = list_of (take (length other) (drop s.at s.text)) b.0 in
      n (
        l.0,
        k.0,
        subst (λ z. IsListing z l.0) (sym x.bytes) l.1,
        subst (λ z. IsListing z k.0) (sym y.bytes) k.1,
        next_equal r.text s.text r.at s.at g (length piece)
            (length other) l.0 k.0 h x.first y.first l.1 k.1,
      )

  -- the second text has more policies
  rest_differs : AgreeHere → HasEnded r → HasNext s → AreAlike r.text s.text → ⊥
  rest_differs g x (piece, last, y) h =
      next_none s.text r.text s.at r.at (turned r.text s.text r.at s.at g) (length piece)
      (alike_turned r.text s.text h) y.first x.none

  -- where both have ended, the closing comments decide
  ended_alike : AgreeHere → HasEnded r → HasEnded s
      → (comments (drop r.at r.text) ≡ comments (drop s.at s.text)) ↔ HaveEqualLists r.text s.text
  ended_alike g x y =
      let e = rest_is_empty (drop r.at r.text) x.none x.rest in
      let f = rest_is_empty (drop s.at s.text) y.none y.rest in
      let left = comments_alone (drop r.at r.text) e.0 e.1 e.2 in
      let right = comments_alone (drop s.at s.text) f.0 f.1 f.2 in
      let same : plain_value (g.left.tokens ++ []) ≡ plain_value (g.right.tokens ++ []) =
      ap plain_value (append-nil g.left.tokens)
      ∙ (g.same ∙ sym (ap plain_value (append-nil g.right.tokens))) in (
        λ c. (
          _,
          _,
          list_follow r.text r.at g.left _ g.left_ends g.left_list left,
          list_follow s.text s.at g.right _ g.right_ends g.right_list right,
          ap (λ z. record { tokens = z; closing = comments (drop r.at r.text) }) same
              ∙ ap (λ z. record { tokens = plain_value (g.right.tokens ++ []); closing = z }) c,
        ),
        λ h. (rest_equal r.text s.text r.at s.at g _ _ (x.accepted, y.accepted, h) left right).1,
      )

  -- where the second text has more policies, the lists differ
  pub more_differs : (same : Bool) → Compared same r.text r.at s.text s.at → HasEnded r
      → Accepted s.text → HasNext s
      → HaveEqualLists r.text s.text → ⊥
  more_differs true c x a m h = rest_differs c x m (x.accepted, a, h)
  more_differs false c x a m h = c (x.accepted, a, h)

  -- what the comparison says of two texts that have ended
  pub compared : (same closed : Bool) → Compared same r.text r.at s.text s.at → HasEnded r
      → HasEnded s
      → (IsTrue closed ↔ (comments (drop r.at r.text) ≡ comments (drop s.at s.text)))
      → IsTrue (same && closed) ↔ HaveEqualLists r.text s.text
  compared true closed c x y k =
      let e = ended_alike c x y in
      (λ h. e.0 (k.0 h), λ h. k.1 (e.1 h))
  compared false closed c x y k = (λ h. absurd cc, λ h. absurd (c (x.accepted, y.accepted, h)))

-- whether a reader's next piece has the tokens of a text
pub told_next : (text : List ℕ) (old new : Position) (piece : List ℕ) (ts us : List WrappedToken)
    (r : Result Bool AllocError)
    → AreTokensOf text ts → AreTokensOf piece us → GoesOn old new piece → Accepted piece
    → IfOk r (λ b. IsTrue b ↔ (plain_value (map decorated ts) ≡ plain_value (map decorated us)))
    → IfOk r (λ b. MatchBool b (GoesOnAlike text old new) (HasOtherNext text old))
told_next text old new piece ts us (Err e) t u g a k = tt
told_next text old new piece ts us (Ok true) t u g a k = record {
  piece = piece;
  goes_on = g;
  accepted = a;
  equal = (_, _, t.listing, u.listing, k.0 refl);
}
told_next text old new piece ts us (Ok false) t u g a k = inr (inr (
  piece,
  new,
  g,
  λ (l, m, p, q, e).
      let f : false ≡ true =
      k.1 (ap (λ (z : Listing). plain_value z.tokens) (listing_unique text _ l t.listing p)
      ∙ (e ∙ ap (λ (z : Listing). plain_value z.tokens) (listing_unique piece m _ q u.listing))) in
      absurd cc,
))

-- a reader that goes on from its first place, or has gone on before, has a policy left there
pub found_next : (more : Bool) (first old new : Position) (piece : List ℕ)
    → MatchBool more (HasNext first) (old ≡ first)
    → GoesOn old new piece → HasNext first
found_next true first old new piece f g = f
found_next false first old new piece e g = (piece, new, subst (λ z. GoesOn z new piece) e g)

-- what a reader that has ended says of its first place
pub found_all : (more : Bool) (first last : Position)
    → MatchBool more (HasNext first) (last ≡ first) → HasEnded last
    → MatchBool more (HasNext first) (HasEnded first × (last ≡ first))
found_all true first last f e = f
found_all false first last f e = (subst HasEnded f e, f)

-- the comparison of the next piece
pub next_compared : AcceptedIsNotRefused → (r next s last : Position) (piece : List ℕ) (same : Bool)
    → Agree r.text r.at s.text s.at → GoesOn r next piece → Accepted piece → last.text ≡ s.text
    → MatchBool same (GoesOnAlike piece s last) (HasOtherNext piece s)
    → Compared same next.text next.at last.text last.at
next_compared judged r next s last piece true g x a e n = more_agree r s next last piece g x a n
next_compared judged r next s last piece false g x a e n =
    rw (x.of_text, e) (piece_differs r s judged next piece g x n)

-- texts that differ stay different
pub still_compared : (r next s : Position) (piece : List ℕ) (same : Bool) → same ≡ false
    → GoesOn r next piece
    → Compared same r.text r.at s.text s.at → Compared same next.text next.at s.text s.at
still_compared r next s piece true e x c = absurd cc
still_compared r next s piece false e x c = rw x.of_text c
