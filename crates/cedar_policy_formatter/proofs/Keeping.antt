-- A text keeps its list when pieces of it are laid out.
use Rattle.std.proofs.Common.{◌≡◌, ◌<◌, ◌+◌, ℕ, ℤ, Bool, true, false, cond, List, [], ◌∷◌, ◌++◌, length, take, drop, map, refl, ap, sym, ◌∙◌, subst, arith, inl, inr, append_assoc, append-nil}
use Rattle.std.specs.Prelude.{◌==◌, codes}
use Rattle.std.specs.List.{AllByRecursion}
use Rattle.std.specs.Str.{IsUtf8}
use Rattle.std.proofs.lemmas.List.{drop-drop, map-append, length-take-le}
use Rattle.cedar_tokens.specs.Bytes.{line_feed}
use Rattle.cedar_tokens.specs.Listing.{Decorated, Listing, IsListing, EqualByValue, listing}
use Rattle.cedar_tokens.specs.PlainList.{plain_list}
use Rattle.cedar_grammar.specs.Texts.{Accepted}
use Rattle.cedar_grammar.specs.TypedTrees.{Clause, policy, policy_of, part_yield}
use Rattle.cedar_layout.specs.Cleaning.{last_byte_or}
use Rattle.cedar_laws.specs.Canonical.{IsOutputOf, plain_listing}
use Rattle.cedar_laws.specs.Fit.{PartFit}
use Rattle.cedar_laws.specs.Output.{with_value, paragraphs, closing_text, tokens_of}
use Rattle.cedar_laws.proofs.Accepting.{output_accepted}
use Rattle.cedar_laws.proofs.CanonicalForm.{own_list, output_list}
use Rattle.cedar_laws.proofs.Grammatical.{trees_of, tree_fits, leaves_of}
use Rattle.cedar_reading.specs.Pieces.{IsPiece}
use Rattle.cedar_reading.proofs.Lists.{lists_follow, piece_ends, plain_follow, plain_empty}
use Rattle.cedar_reading.proofs.Prefixes.{piece_inside, piece_positive}
use Rattle.cedar_cst.specs.PolicyReaders.{EndsPiece}
use Rattle.cedar_policy_formatter.specs.RangeEdits.{feeds_after}
use Rattle.cedar_cst.proofs.Places.{place_accepted}
use Rattle.cedar_policy_formatter.proofs.Feeds.{front_list, fed_lists, fed_list, fed_accepted, front_accepted, empty_accepted}
use Rattle.cedar_policy_formatter.proofs.PieceOutputs.{list_stays}
use Rattle.cedar_cst.proofs.PartLaws.{append_not_nil}

-- two accepted texts whose lists without trailing commas are equal by value
pub record Alike (x y : List ℕ) : Type 0 where
  pub left : Listing
  pub right : Listing
  pub is_left : IsListing x left
  pub is_right : IsListing y right
  pub tokens : map with_value (plain_list left.tokens) ≡ map with_value (plain_list right.tokens)
  pub closing : left.closing ≡ right.closing
  pub accepted : Accepted x
  pub keeps : Accepted y

pub equal_lists : (x y : List ℕ) (k : Alike x y)
    → EqualByValue (plain_listing k.left) (plain_listing k.right)
equal_lists x y k =
    ap (λ z. record { tokens = z; closing = k.left.closing }) k.tokens ∙ ap
    (λ z. record { tokens = map with_value (plain_list k.right.tokens); closing = z }) k.closing

-- the list of an accepted text
list_of : (x : List ℕ) → Accepted x → (l : Listing) × IsListing x l
list_of x (f, a) = (listing a.units, record { units = a.units; split = a.split; value = refl })

-- an accepted text has its own list
pub same_alike : (x : List ℕ) → Accepted x → Alike x x
same_alike x a =
    let l = list_of x a in
    record {
      left = l.0;
      right = l.0;
      is_left = l.1;
      is_right = l.1;
      tokens = refl;
      closing = refl;
      accepted = a;
      keeps = a;
    }

-- ---- the last token of policies

abbrev EndsIn : List Decorated → Type 0
EndsIn us = (ts : List Decorated) × (t : Decorated) × (us ≡ ts ++ (t ∷ [])) × (t.text ≡ codes ";")

policy_last : (p : Clause Decorated policy) → PartFit p → EndsIn (map with_value (part_yield p))
policy_last (policy_of ns e l p c a d r q cs s) f =
    let front : List Decorated = part_yield ns ++ (e ∷ (l
    ∷ (part_yield p ++ (c ∷ (part_yield a ++ (d ∷ (part_yield r ++ (q ∷ part_yield cs)))))))) in
    let all : part_yield (policy_of ns e l p c a d r q cs s) ≡ front ++ (s ∷ []) =
    sym (simp append_assoc) in (
      map with_value front,
      with_value s,
      ap (map with_value) all ∙ map-append with_value front (s ∷ []),
      f.10,
    )

policies_last : (ps : List (Clause Decorated policy)) → AllByRecursion PartFit ps → (ps ≡ [] → ⊥)
    → EndsIn (map with_value (tokens_of ps))
policies_last [] f n = absurd (n refl)
policies_last (p ∷ []) f n =
    subst EndsIn (ap (map with_value) (sym (append-nil (part_yield p)))) (policy_last p f.0)
policies_last (p ∷ (q ∷ ps)) f n =
    let r = policies_last (q ∷ ps) f.1 (λ e. absurd cc) in
    let ys = map with_value (part_yield p) in (
      ys ++ r.0,
      r.1,
      map-append with_value (part_yield p) (tokens_of (q ∷ ps))
          ∙ (ap (λ z. ys ++ z) r.2 ∙ sym (append_assoc ys r.0 (r.1 ∷ []))),
      r.3,
    )

-- ---- a piece laid out in place

module _ (w : ℕ) (i : ℤ) (text : List ℕ) (n : ℕ) (out : List ℕ) (accepted : Accepted text)
    (p : IsPiece text n) (utf8 : IsUtf8 (take n text)) (o : IsOutputOf w i (take n text) out) where
  abbrev front : List ℕ
  front = paragraphs o.output.texts

  ends : (o.list.closing ≡ []) × EndsIn o.list.tokens
  ends = piece_ends text n o.list p o.is_list

  bytes : out ≡ front ++ (line_feed ∷ [])
  bytes = o.output.written ∙ ap (λ c. front ++ (line_feed ∷ closing_text c)) ends.0

  abbrev values : List Decorated
  values = map with_value (tokens_of o.policies)

  own : IsListing out (record { tokens = values; closing = [] })
  own = subst (λ c. IsListing out (record { tokens = values; closing = c })) ends.0
      (own_list w i (take n text) out utf8 o)

  abbrev rest : List ℕ
  rest = drop n text

  rest_accepted : Accepted rest
  rest_accepted = (place_accepted text n (inr p) accepted).1

  left : (l : Listing) × IsListing rest l
  left = list_of rest rest_accepted

  values_last : EndsIn values
  values_last = policies_last o.policies (tree_fits o.policies (trees_of o)) (λ e.
      append_not_nil ends.1.0 ends.1.1 []
      (sym ends.1.2 ∙ plain_empty o.list.tokens (sym (leaves_of o) ∙ ap tokens_of e)))

  follows : (ts us : List Decorated) → EndsIn ts → us ≡ left.0.tokens
      → plain_list (ts ++ us) ≡ plain_list ts ++ plain_list left.0.tokens
  follows ts us e same =
      ap (λ z. plain_list (ts ++ z)) same ∙ (ap (λ z. plain_list (z ++ left.0.tokens)) e.2
      ∙ (plain_follow e.0 e.1 left.0.tokens e.3 (list_stays rest left.0 rest_accepted left.1)
      ∙ ap (λ z. plain_list z ++ plain_list left.0.tokens) (sym e.2)))

  tokens_alike : map with_value (plain_list (o.list.tokens ++ left.0.tokens))
      ≡ map with_value (plain_list (values ++ left.0.tokens))
  tokens_alike =
      let q =
      output_list w i (take n text) out (record { tokens = values; closing = [] }) utf8 o own in
      let plain : plain_list values ≡ values = ap (λ (l : Listing). l.tokens) q.1 in
      let equal : map with_value values ≡ map with_value (plain_list o.list.tokens) =
      ap (λ (l : Listing). l.tokens) q.0 in
      let tail = map with_value (plain_list left.0.tokens) in
      ap (map with_value) (follows o.list.tokens left.0.tokens ends.1 refl)
      ∙ (map-append with_value (plain_list o.list.tokens) (plain_list left.0.tokens)
      ∙ (ap (λ z. z ++ tail) (sym equal ∙ ap (map with_value) (sym plain))
      ∙ (sym (map-append with_value (plain_list values) (plain_list left.0.tokens))
      ∙ ap (map with_value) (sym (follows values left.0.tokens values_last refl)))))

  -- the text with its piece laid out
  pub piece_alike : Alike text (out ++ drop n text)
  piece_alike =
      let whole : front ++ (line_feed ∷ rest) ≡ out ++ rest =
      sym (append_assoc front (line_feed ∷ []) rest) ∙ ap (λ z. z ++ rest) (sym bytes) in
      let is_front = front_list front (record { tokens = values; closing = [] })
      (subst (λ z. IsListing z (record { tokens = values; closing = [] })) bytes own) in
      record {
        left = record { tokens = o.list.tokens ++ left.0.tokens; closing = left.0.closing };
        right = record { tokens = values ++ left.0.tokens; closing = left.0.closing };
        is_left = lists_follow text n o.list left.0 p o.is_list left.1;
        is_right = subst (λ z.
            IsListing z (record { tokens = values ++ left.0.tokens; closing = left.0.closing }))
            whole (fed_lists front rest
            (record { tokens = values; closing = [] }) left.0 refl is_front left.1);
        tokens = tokens_alike;
        closing = refl;
        accepted = accepted;
        keeps = subst Accepted whole (fed_accepted front rest (front_accepted front
            (subst Accepted bytes (output_accepted w i (take n text) out utf8 o))) rest_accepted);
      }

-- ---- what comes before stays

fed_alike : (x y : List ℕ) → Alike x y → Alike x (line_feed ∷ y)
fed_alike x y k = record {
  left = k.left;
  right = k.right;
  is_left = k.is_left;
  is_right = fed_list y k.right k.is_right;
  tokens = k.tokens;
  closing = k.closing;
  accepted = k.accepted;
  keeps = fed_accepted [] y empty_accepted k.keeps;
}

after_alike : (text : List ℕ) (n : ℕ) (y : List ℕ) → Accepted text → IsPiece text n
    → Alike (drop n text) y → Alike text (take n text ++ (line_feed ∷ y))
after_alike text n y a p k =
    let front_accepted = (place_accepted text n (inr p) a).0 in
    let b = list_of (take n text) front_accepted in
    let e = piece_ends text n b.0 p b.1 in
    let s = e.1.2 in
    let plain_parts = λ (us : List Decorated) (h : _). subst (λ z. plain_list (z ++ us)
    ≡ plain_list z ++ plain_list us) (sym s) (plain_follow e.1.0 e.1.1 us e.1.3 h) in
    record {
      left = record { tokens = b.0.tokens ++ k.left.tokens; closing = k.left.closing };
      right = record { tokens = b.0.tokens ++ k.right.tokens; closing = k.right.closing };
      is_left = lists_follow text n b.0 k.left p b.1 k.is_left;
      is_right = fed_lists (take n text) y b.0 k.right e.0 b.1 k.is_right;
      tokens = ap (map with_value)
          (plain_parts k.left.tokens (list_stays (drop n text) k.left k.accepted k.is_left))
          ∙ (map-append with_value (plain_list b.0.tokens) (plain_list k.left.tokens)
          ∙ (ap (λ z. map with_value (plain_list b.0.tokens) ++ z) k.tokens
          ∙ (sym (map-append with_value (plain_list b.0.tokens) (plain_list k.right.tokens))
          ∙ ap (map with_value)
          (sym (plain_parts k.right.tokens (list_stays y k.right k.keeps k.is_right))))));
      closing = k.closing;
      accepted = a;
      keeps = fed_accepted (take n text) y front_accepted k.keeps;
    }

-- after what comes before, the line feeds of an empty line may come
split_alike : (text : List ℕ) (n : ℕ) (b : ℕ) (bs y : List ℕ) → take n text ≡ b ∷ bs
    → Accepted text → IsPiece text n → Alike (drop n text) y
    → Alike text (take n text ++ (feeds_after (take n text) ++ y))
split_alike text n b bs y e a p k = subst (λ z. Alike text (take n text ++ (feeds_after z ++ y)))
    (sym e) (go (last_byte_or b bs == line_feed))
  where
    go : (t : Bool) → Alike text (take n text ++
        (cond t (line_feed ∷ []) (line_feed ∷ (line_feed ∷ [])) ++ y))
    go true = after_alike text n y a p k
    go false = after_alike text n (line_feed ∷ y) a p (fed_alike (drop n text) y k)

some_bytes : (xs : List ℕ) → 0 < length xs → (b : ℕ) × (bs : List ℕ) × (xs ≡ b ∷ bs)
some_bytes [] l = absurd (omega (arith, l))
some_bytes (b ∷ bs) l = (b, bs, refl)

-- the text with the pieces from one place to another laid out
pub laid_out_alike : (w : ℕ) (i : ℤ) (text : List ℕ) (start len : ℕ) (out : List ℕ) → Accepted text
    → EndsPiece text start → IsPiece (drop start text) len → IsUtf8 (take len (drop start text))
    → IsOutputOf w i (take len (drop start text)) out
    → Alike text
    (take start text ++ ((feeds_after (take start text) ++ out) ++ drop (start + len) text))
laid_out_alike w i text start len out a (inl e) p u o =
    let f = λ (k : ℕ).
    Alike text (take k text ++ ((feeds_after (take k text) ++ out) ++ drop (k + len) text)) in
    let z : len ≡ 0 + len = omega arith in
    let q = subst (λ k. IsPiece (drop k text) len) e p in
    subst f (sym e) (subst (λ k. Alike text (out ++ drop k text)) z
    (piece_alike w i text len out a q (subst (λ k. IsUtf8 (take len (drop k text))) e u)
    (subst (λ k. IsOutputOf w i (take len (drop k text)) out) e o)))
laid_out_alike w i text start len out a (inr b) p u o =
    let rest = place_accepted text start (inr b) a in
    let k = piece_alike w i (drop start text) len out rest.1 p u o in
    let bytes = some_bytes (take start text) (omega
    (arith, length-take-le start text (piece_inside text start b), piece_positive text start b)) in
    let following : drop len (drop start text) ≡ drop (start + len) text =
    drop-drop len start text in
    subst (λ z. Alike text (take start text ++ z))
    (sym (append_assoc (feeds_after (take start text)) out (drop (start + len) text)))
    (subst
    (λ z. Alike text (take start text ++ (feeds_after (take start text) ++ (out ++ z)))) following
    (split_alike text start bytes.0 bytes.1 (out ++ drop len (drop start text)) bytes.2 a b k))
