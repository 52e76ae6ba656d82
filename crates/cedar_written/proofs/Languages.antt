-- How much the rows of a language can write: the building blocks.
use Rattle.std.proofs.Common.{◌≡◌, ℕ, zero, suc, ℤ, pos, negsuc, ◌+◌, ◌≤◌, ◌<◌, Bool, true, false, cond, List, [], ◌∷◌, ◌++◌, length, sym, subst, inl, inr, arith}
use Rattle.std.proofs.Math.Nat.{min-le_left}
use Rattle.std.specs.List.{AllByRecursion}
use Rattle.std.specs.Str.{IsUtf8}
use Rattle.cedar_tokens.specs.Units.{is_number}
use Rattle.cedar_tokens.specs.Listing.{Decorated, token_value, without_zeros}
use Rattle.cedar_tokens.proofs.Lists.{All-parts}
use Rattle.cedar_layout.specs.Layout.{Doc, nil, group, line, line_or_nil, hard, ◌·◌, indented}
use Rattle.cedar_layout.specs.Comments.{space, broken_lines, lead_of, trail_of}
use Rattle.cedar_laws.specs.Good.{IsGood, IsLine}
use Rattle.cedar_laws.specs.Table.{bare_token, lead, tok, trail, C}
use Rattle.cedar_laws.proofs.Encoded.{value_utf8}
use Rattle.cedar_written.specs.Languages.{Lang, ◌⋄◌, ◌∪◌, Never, Put, Maybe, Many, no_more, one_more, Token, Group, Nested, LedGroup}
use Rattle.cedar_written.specs.Bounds.{columns_of}
use Rattle.cedar_written.proofs.Documents.{cost, Within, cost_append, within_append, Encoded, encoded_append, space_utf8}

-- what so many bytes of a text may cost
abbrev pub charge : ℕ → ℕ → ℕ
charge u zero = 0
charge u (suc n) = suc (suc u) + charge u n

pub le_charge : (u n : ℕ) → n ≤ charge u n
le_charge u zero = omega arith
le_charge u (suc n) = omega (arith, le_charge u n)

-- what a token and its comments may cost
abbrev pub weight : ℕ → Decorated → ℕ
weight u t = cost u (lead_of t.leading) + (length t.text + u + charge u (length t.trailing))

abbrev pub weights : ℕ → List Decorated → ℕ
weights u [] = 0
weights u (t ∷ ts) = weight u t + weights u ts

pub weights_append : (u : ℕ) (ts us : List Decorated) → weights u (ts ++ us) ≡ weights u ts + weights u us
weights_append u [] us = omega arith
weights_append u (t ∷ ts) us = omega (arith, weights_append u ts us)

-- The documents of the language cost no more than their tokens, where p is left, or q is lacking. Where they begin c columns
-- before the greatest indentation, no break writes more than u bytes.
pub record Bounded (u c p q : ℕ) (X : List Decorated → Doc → Type 0) : Type 0 where
  pub costs : (ts : List Decorated) (d : Doc) → X ts d → cost u d + p ≤ weights u ts + q
  pub within : (ts : List Decorated) (d : Doc) (j : ℕ) → X ts d → j + c < u → Within u j d
  pub utf8 : (ts : List Decorated) (d : Doc) → X ts d → AllByRecursion IsGood ts → Encoded d

-- what one break or space may cost
pub record Single (u : ℕ) (e : Doc) : Type 0 where
  pub costs : cost u e ≤ u
  pub within : (j : ℕ) → j < u → Within u j e
  pub utf8 : Encoded e

pub value_length : (s : List ℕ) → length (token_value s) ≤ length s
unfolding without_zeros
value_length s = go (is_number s)
  where
    zeros : (s : List ℕ) → length (without_zeros s) ≤ length s
    zeros [] = omega arith
    zeros (b ∷ bs) = pick _ (zeros bs)
      where
        pick : (c : Bool) → length (without_zeros bs) ≤ length bs
            → length (cond c (without_zeros bs) (b ∷ bs)) ≤ suc (length bs)
        pick true h = omega (arith, h)
        pick false h = omega arith

    go : (c : Bool) → length (cond c (without_zeros s) s) ≤ length s
    go true = zeros s
    go false = omega arith

lines_within : (u j : ℕ) (ls : List (List ℕ)) → j < u → Within u j (broken_lines ls)
lines_within u j [] h = tt
lines_within u j (l ∷ ls) h = (h, lines_within u j ls h)

pub lead_within : (u j : ℕ) (ls : List (List ℕ)) → j < u → Within u j (lead_of ls)
lead_within u j [] h = tt
lead_within u j (l ∷ ls) h = (h, lines_within u j (l ∷ ls) h)

lines_encoded : (ls : List (List ℕ)) → AllByRecursion IsLine ls → Encoded (broken_lines ls)
lines_encoded [] a = tt
lines_encoded (l ∷ ls) a = (a.0.utf8, lines_encoded ls a.1)

pub lead_encoded : (ls : List (List ℕ)) → AllByRecursion IsLine ls → Encoded (lead_of ls)
lead_encoded [] a = tt
lead_encoded (l ∷ ls) a = lines_encoded (l ∷ ls) a

module _ {u : ℕ} (one : 0 < u) where
  pub nil_single : Single u nil
  nil_single = record { costs = omega arith; within = λ j h. tt; utf8 = tt }

  pub line_single : Single u line
  line_single = record { costs = omega arith; within = λ j h. (h, tt); utf8 = tt }

  pub line_or_nil_single : Single u line_or_nil
  line_or_nil_single = record { costs = omega arith; within = λ j h. (h, tt); utf8 = tt }

  pub hard_single : Single u hard
  hard_single = record { costs = omega arith; within = λ j h. (h, tt); utf8 = tt }

  pub space_single : Single u space
  space_single = record { costs = omega (arith, one); within = λ j h. tt; utf8 = (space_utf8, tt) }

  -- (p is what the token leaves of its own)
  pub trail_cost : (tr : List ℕ) (next : Doc) (p : ℕ) → cost u next + p ≤ u
      → cost u (trail_of tr next) + p ≤ charge u (length tr) + u
  trail_cost [] next p h = omega (arith, h)
  trail_cost (c ∷ cs) next p h = omega (arith, h, one, le_charge u (length cs))

  pub trail_within : (tr : List ℕ) (next : Doc) (j : ℕ) → Single u next → j < u → Within u j (trail_of tr next)
  trail_within [] next j s h = s.within j h
  trail_within (c ∷ cs) next j s h = (h, tt)

  pub trail_encoded : (tr : List ℕ) (next : Doc) → Single u next → IsUtf8 tr → Encoded (trail_of tr next)
  trail_encoded [] next s h = s.utf8
  trail_encoded (c ∷ cs) next s h = (space_utf8, (h, tt))

  pub token : {c : ℕ} (q : ℕ) (P : List ℕ → Type 0) (next : Doc) → Single u next → cost u next + q ≤ u
      → Bounded u c q 0 (Token P next)
  token {c} q P next s room = record {
    costs = λ ts d (t, e, f, p). subst (λ z. cost u d + q ≤ weights u z + 0) (sym e)
        (subst (λ z. cost u z + q ≤ weights u (t ∷ []) + 0) (sym f) (costs t));
    within = λ ts d j (t, e, f, p) h. subst (λ z. Within u j z) (sym f)
        (within_append u j (lead t) (tok t · trail t next) (lead_within u j t.leading (omega arith))
        (trail_within t.trailing next j s (omega arith)));
    utf8 = λ ts d (t, e, f, p) a. subst Encoded (sym f) (encoded t
        (subst (AllByRecursion IsGood) e a).0);
  }
    where
      costs : (t : Decorated) → cost u (C t next) + q ≤ weights u (t ∷ []) + 0
      costs t = omega (
        arith,
        cost_append u (lead t) (tok t · trail t next),
        value_length t.text,
        trail_cost t.trailing next q room,
      )

      encoded : (t : Decorated) → IsGood t → Encoded (C t next)
      encoded t g = encoded_append (lead t) (tok t · trail t next) (lead_encoded t.leading g.leading)
          (value_utf8 t.text g.utf8, trail_encoded t.trailing next s g.trailing.utf8)

  pub put : {c : ℕ} {e : Doc} → Single u e → Bounded u c 0 u (Put e)
  put {c} {e} s = record {
    costs = λ ts d (a, b). subst (λ z. cost u z + 0 ≤ weights u ts + u) (sym b) (omega (arith, s.costs));
    within = λ ts d j (a, b) h. subst (λ z. Within u j z) (sym b) (s.within j (omega arith));
    utf8 = λ ts d (a, b) g. subst Encoded (sym b) s.utf8;
  }

  pub nothing : {c q : ℕ} → Bounded u c 0 q (Put nil)
  nothing {c} {q} = record {
    costs = λ ts d (a, b). subst (λ z. cost u z + 0 ≤ weights u ts + q) (sym b) (omega arith);
    within = λ ts d j (a, b) h. subst (λ z. Within u j z) (sym b) tt;
    utf8 = λ ts d (a, b) g. subst Encoded (sym b) tt;
  }

  pub settle : {c p q r s : ℕ} {X : Lang} → r + q ≤ p + s → Bounded u c p q X → Bounded u c r s X
  settle {c} {p} {q} {r} {s} {X} m x = record {
    costs = λ ts e a. omega (arith, m, x.costs ts e a);
    within = x.within;
    utf8 = x.utf8;
  }

  pub lower : {c d p q : ℕ} {X : Lang} → c ≤ d → Bounded u c p q X → Bounded u d p q X
  lower {c} {d} l x = record {
    costs = x.costs;
    within = λ ts e j a h. x.within ts e j a (omega (arith, l, h));
    utf8 = x.utf8;
  }

  pub seq : {c p q r s : ℕ} {X Y : Lang} → Bounded u c p q X → Bounded u c r s Y → Bounded u c (p + r) (q + s) (X ⋄ Y)
  seq {c} {p} {q} {r} {s} {X} {Y} x y = record {
    costs = λ ts d (us, vs, e, f, a, b, g, h). subst (λ z. cost u d + (p + r) ≤ weights u z + (q + s)) (sym a)
        (subst (λ z. cost u z + (p + r) ≤ weights u (us ++ vs) + (q + s)) (sym b)
        (omega (arith, cost_append u e f, weights_append u us vs, x.costs us e g, y.costs vs f h)));
    within = λ ts d j (us, vs, e, f, a, b, g, h) l. subst (λ z. Within u j z) (sym b)
        (within_append u j e f (x.within us e j g l) (y.within vs f j h l));
    utf8 = λ ts d (us, vs, e, f, a, b, g, h) good.
        let parts = All-parts IsGood us vs (subst (AllByRecursion IsGood) a good) in
        subst Encoded (sym b) (encoded_append e f (x.utf8 us e g parts.0) (y.utf8 vs f h parts.1));
  }

  pub either : {c p q : ℕ} {X Y : Lang} → Bounded u c p q X → Bounded u c p q Y → Bounded u c p q (X ∪ Y)
  either x y = record {
    costs = λ ts d h. elim h [ inl a ↦ x.costs ts d a | inr b ↦ y.costs ts d b ];
    within = λ ts d j h l. elim h [ inl a ↦ x.within ts d j a l | inr b ↦ y.within ts d j b l ];
    utf8 = λ ts d h g. elim h [ inl a ↦ x.utf8 ts d a g | inr b ↦ y.utf8 ts d b g ];
  }

  pub never : {c p q : ℕ} → Bounded u c p q Never
  never = record {
    costs = λ ts d h. absurd h;
    within = λ ts d j h l. absurd h;
    utf8 = λ ts d h g. absurd h;
  }

  pub maybe : {c q : ℕ} {X : Lang} → Bounded u c 0 q X → Bounded u c 0 q (Maybe X)
  maybe x = either x nothing

  pub many : {c : ℕ} {X : Lang} → Bounded u c 0 0 X → Bounded u c 0 0 (Many X)
  many {c} {X} x = record { costs = costs; within = within; utf8 = utf8 }
    where
      costs : (ts : List Decorated) (d : Doc) → Many X ts d → cost u d + 0 ≤ weights u ts + 0
      costs ts d no_more = omega arith
      costs ts d (one_more us vs e f a m) = omega (
        arith,
        cost_append u e f,
        weights_append u us vs,
        x.costs us e a,
        costs vs f m,
      )

      within : (ts : List Decorated) (d : Doc) (j : ℕ) → Many X ts d → j + c < u → Within u j d
      within ts d j no_more h = tt
      within ts d j (one_more us vs e f a m) h =
          within_append u j e f (x.within us e j a h) (within vs f j m h)

      utf8 : (ts : List Decorated) (d : Doc) → Many X ts d → AllByRecursion IsGood ts → Encoded d
      utf8 ts d no_more g = tt
      utf8 ts d (one_more us vs e f a m) g =
          let parts = All-parts IsGood us vs g in
          encoded_append e f (x.utf8 us e a parts.0) (utf8 vs f m parts.1)

  pub grouped : {c p q : ℕ} {X : Lang} → Bounded u c p q X → Bounded u c p q (Group X)
  grouped {c} {p} {q} x = record {
    costs = λ ts d (e, f, a). subst (λ z. cost u z + p ≤ weights u ts + q) (sym f) (omega (arith, x.costs ts e a));
    within = λ ts d j (e, f, a) h. subst (λ z. Within u j z) (sym f) (x.within ts e j a h, tt);
    utf8 = λ ts d (e, f, a) g. subst Encoded (sym f) (x.utf8 ts e a g, tt);
  }

  pub indented_le : (j : ℕ) (n : ℤ) → indented j n ≤ j + columns_of n
  indented_le j (pos n) = min-le_left (j + n) _
  indented_le j (negsuc n) = omega arith

  pub nested : {c p q : ℕ} {X : Lang} (n : ℤ) → Bounded u c p q X → Bounded u (columns_of n + c) p q (Nested n X)
  nested {c} {p} {q} n x = record {
    costs = λ ts d (e, f, a). subst (λ z. cost u z + p ≤ weights u ts + q) (sym f) (omega (arith, x.costs ts e a));
    within = λ ts d j (e, f, a) h. subst (λ z. Within u j z) (sym f)
        (x.within ts e (indented j n) a (omega (arith, h, indented_le j n)), tt);
    utf8 = λ ts d (e, f, a) g. subst Encoded (sym f) (x.utf8 ts e a g, tt);
  }

  bare_good : (t : Decorated) → IsGood t → IsGood (bare_token t)
  bare_good t g = record { token = g.token; utf8 = g.utf8; leading = tt; trailing = g.trailing }

  pub led : {c p q : ℕ} {X : Lang} → Bounded u c p q X → Bounded u c p q (LedGroup X)
  led {c} {p} {q} {X} x = record { costs = costs; within = within; utf8 = utf8 }
    where
      costs : (ts : List Decorated) (d : Doc) → LedGroup X ts d → cost u d + p ≤ weights u ts + q
      costs [] d h = absurd h
      costs (t ∷ ts) d (e, f, a) = subst (λ z. cost u z + p ≤ weights u (t ∷ ts) + q) (sym f)
          (omega (arith, cost_append u (lead t) (group e), x.costs (bare_token t ∷ ts) e a))

      within : (ts : List Decorated) (d : Doc) (j : ℕ) → LedGroup X ts d → j + c < u → Within u j d
      within [] d j h l = absurd h
      within (t ∷ ts) d j (e, f, a) l = subst (λ z. Within u j z) (sym f)
          (within_append u j (lead t) (group e) (lead_within u j t.leading (omega arith))
          (x.within (bare_token t ∷ ts) e j a l, tt))

      utf8 : (ts : List Decorated) (d : Doc) → LedGroup X ts d → AllByRecursion IsGood ts → Encoded d
      utf8 [] d h g = absurd h
      utf8 (t ∷ ts) d (e, f, a) g = subst Encoded (sym f)
          (encoded_append (lead t) (group e) (lead_encoded t.leading g.0.leading)
          (x.utf8 (bare_token t ∷ ts) e a (bare_good t g.0, g.1), tt))

  pub guarded : {c p q : ℕ} {X : Lang} {G : List Decorated → Type 0} → Bounded u c p q X → Bounded u c p q (λ ts d. G ts × X ts d)
  guarded x = record {
    costs = λ ts d (r, a). x.costs ts d a;
    within = λ ts d j (r, a) l. x.within ts d j a l;
    utf8 = λ ts d (r, a) g. x.utf8 ts d a g;
  }
