-- What can follow depends on the rest of a text after accepted policies.
use Rattle.std.specs.Prelude.{◌≡◌, ◌↔◌, ◌≤◌, ◌+◌, ◌-◌, ◌⊎◌, ℕ, Bool, false, List, [], ◌∷◌, ◌++◌, length, take, drop, codes}
use Rattle.std.specs.List.{list_any, sum_by}
use Rattle.std.proofs.Common.{refl, sym, ap, ◌∙◌, subst, arith, inl, inr, append_assoc}
use Rattle.std.proofs.lemmas.List.Elements.{filter-append}
use Rattle.std.proofs.lemmas.List.Folds.{list_any-append}
use Rattle.std.proofs.lemmas.List.Sums.{sum_by-append}
use Rattle.cedar_grammar.proofs.Booleans.{neither_second as or_right}
use Rattle.cedar_tokens.specs.Units.{is_token, IsToken}
use Rattle.cedar_tokens.specs.Split.{SplitsInto}
use Rattle.cedar_tokens.specs.declared.kind.Kind.{Kind}
use Rattle.cedar_grammar.specs.Trees.{Label, Forest}
use Rattle.cedar_grammar.specs.Beginnings.{Begins}
use Rattle.cedar_grammar.specs.KindGrammar.{G}
use Rattle.cedar_grammar.specs.Laws.{AreTokens}
use Rattle.cedar_grammar.specs.Numbers.{is_too_large}
use Rattle.cedar_grammar.specs.Texts.{greatest_depth, only_tokens, Accepted, LeavesGrammar, LeaveAfter}
use Rattle.cedar_tokens.specs.TokenKinds.{kind_of}
use Rattle.cedar_grammar.proofs.Texts.Accepted.{are_tokens}
use Rattle.cedar_grammar.proofs.Texts.Beginnings.{beginnings_agree}
use Rattle.cedar_grammar.proofs.Texts.Grammars.{grammars_agree, texts_are_tokens}
use Rattle.cedar_reading.specs.Pieces.{IsPiece}
use Rattle.cedar_reading.proofs.Lists.{piece_splits, piece_units}
use Rattle.cedar_reading.proofs.Prefixes.{units_of}
use Rattle.cedar_reading.proofs.PieceRefusals.{piece_tokens}
use Rattle.cedar_reading.proofs.Sequences.{list_parts, lists_join}
use Rattle.cedar_faults.specs.Expectations.{AreAllAfter, IsList}
use Rattle.cedar_faults.proofs.Begun.{begins_front, list_begins, accepted_list}
use Rattle.cedar_faults.proofs.Deciding.{begins_tokens}
use Rattle.cedar_faults.proofs.Splits.{front_fit}
use Rattle.cedar_tokens.proofs.Lists.{All-append, All-parts}

-- Lists that begin with a whole one, whose last token is a `;`.
module _ (front : List (List ℕ)) (tokens : AreTokens (λ t. t) (front ++ (codes ";" ∷ [])))
    (whole : IsList (front ++ (codes ";" ∷ []))) where
  abbrev all : List (List ℕ)
  all = front ++ (codes ";" ∷ [])

  whole_kinds : G kind_of greatest_depth whole.0 all
  whole_kinds = (grammars_agree (λ t. t) greatest_depth all whole.0 tokens).0 whole.1

  parts : (tree : Forest Label (List ℕ)) (ts : List (List ℕ))
      → G kind_of greatest_depth tree (all ++ ts)
      → (g : Forest Label (List ℕ)) × G kind_of greatest_depth g ts
  parts tree ts g = (list_parts kind_of greatest_depth tree front (codes ";") ts refl
      (subst (λ z. G kind_of greatest_depth tree z) (append_assoc front (codes ";" ∷ []) ts) g)).1

  rest_begins : (ts : List (List ℕ)) → Begins greatest_depth (all ++ ts) → Begins greatest_depth ts
  rest_begins ts b =
      let a : AreTokens (λ t. t) (all ++ ts) = begins_tokens greatest_depth (all ++ ts) b in
      let k = (beginnings_agree greatest_depth (all ++ ts) a).0 b in
      let q = parts k.tree (ts ++ k.rest)
      (subst (λ z. G kind_of greatest_depth k.tree z) (append_assoc all ts k.rest) k.grammar) in
      (beginnings_agree greatest_depth ts (All-parts IsToken all ts a).1).1
      (record { rest = k.rest; tree = q.0; grammar = q.1 })

  begins_rest : (ts : List (List ℕ)) → Begins greatest_depth ts → Begins greatest_depth (all ++ ts)
  begins_rest ts b =
      let a : AreTokens (λ t. t) ts = begins_tokens greatest_depth ts b in
      let k = (beginnings_agree greatest_depth ts a).0 b in
      let q =
      lists_join kind_of greatest_depth whole.0 k.tree all (ts ++ k.rest) whole_kinds k.grammar in
      (beginnings_agree greatest_depth (all ++ ts) (All-append IsToken all ts tokens a)).1
      (record {
        rest = k.rest;
        tree = q.0;
        grammar =
            subst (λ z. G kind_of greatest_depth q.0 z) (sym (append_assoc all ts k.rest)) q.1;
      })

  rest_list : (ts : List (List ℕ)) → IsList (all ++ ts) → IsList ts
  rest_list ts (f, g) =
      let a : AreTokens (λ t. t) (all ++ ts) =
      texts_are_tokens (λ t. t) greatest_depth (all ++ ts) f g in
      let q = parts f ts ((grammars_agree (λ t. t) greatest_depth (all ++ ts) f a).0 g) in
      (q.0, (grammars_agree (λ t. t) greatest_depth ts q.0 (All-parts IsToken all ts a).1).1 q.1)

  list_rest : (ts : List (List ℕ)) → IsList ts → IsList (all ++ ts)
  list_rest ts (f, g) =
      let a : AreTokens (λ t. t) ts = texts_are_tokens (λ t. t) greatest_depth ts f g in
      let q = lists_join kind_of greatest_depth whole.0 f all ts whole_kinds
      ((grammars_agree (λ t. t) greatest_depth ts f a).0 g) in (
        q.0,
        (grammars_agree (λ t. t) greatest_depth (all ++ ts) q.0
            (All-append IsToken all ts tokens a)).1 q.1,
      )

-- the same can follow both lists of tokens, and one is a list if and only if the other is
pub record GoOnAlike (front rest : List (List ℕ)) : Type 0 where
  pub begins : (ts : List (List ℕ))
      → Begins greatest_depth (front ++ ts) ↔ Begins greatest_depth (rest ++ ts)
  pub list : IsList front ↔ IsList rest

alike_none : (rest : List (List ℕ)) → GoOnAlike rest rest
alike_none rest = record { begins = λ ts. (λ b. b, λ b. b); list = (λ l. l, λ l. l) }

alike_whole : (front rest : List (List ℕ)) → AreTokens (λ t. t) (front ++ (codes ";" ∷ []))
    → IsList (front ++ (codes ";" ∷ [])) → GoOnAlike ((front ++ (codes ";" ∷ [])) ++ rest) rest
alike_whole front rest a l = record {
  begins = λ ts. let e = append_assoc (front ++ (codes ";" ∷ [])) rest ts in (
    λ b. rest_begins front a l (rest ++ ts) (subst (λ z. Begins greatest_depth z) e b),
    λ b. subst (λ z. Begins greatest_depth z) (sym e) (begins_rest front a l (rest ++ ts) b),
  );
  list = (rest_list front a l rest, list_rest front a l rest);
}

-- the kinds that can follow are the same
pub same_after : (front rest : List (List ℕ)) (kinds : List Kind) → GoOnAlike front rest
    → AreAllAfter rest kinds → AreAllAfter front kinds
same_after front rest kinds g a = record {
  exact = λ k. (
    λ c. (let f = (a.exact k).0 c in (f.0, f.1, f.2, (g.begins (f.0 ∷ [])).1 f.3)),
    λ f. (a.exact k).1 (f.0, f.1, f.2, (g.begins (f.0 ∷ [])).0 f.3),
  );
  ordered = a.ordered;
}

-- one of two prefixes of a list is a prefix of the other
fronts : (a b c d : List (List ℕ)) → a ++ b ≡ c ++ d
    → ((e : List (List ℕ)) × (a ≡ c ++ e) × (d ≡ e ++ b)) ⊎ ((x : List ℕ) × (e : List (List ℕ))
    × (c ≡ a ++ (x ∷ e)) × (b ≡ x ∷ (e ++ d)))
fronts a b [] d h = inl (a, refl, sym h)
fronts [] b (x ∷ c) d h = inr (x, c, refl, h)
fronts (y ∷ a) b (x ∷ c) d h =
    let same : y ≡ x = cc in
    let more : a ++ b ≡ c ++ d = cc in
    go same (fronts a b c d more)
  where
    go : y ≡ x → ((e : List (List ℕ)) × (a ≡ c ++ e) × (d ≡ e ++ b)) ⊎ ((z : List ℕ)
        × (e : List (List ℕ)) × (c ≡ a ++ (z ∷ e)) × (b ≡ z ∷ (e ++ d)))
        → ((e : List (List ℕ)) × (y ∷ a ≡ x ∷ (c ++ e)) × (d ≡ e ++ b)) ⊎ ((z : List ℕ)
        × (e : List (List ℕ)) × (x ∷ c ≡ (y ∷ a) ++ (z ∷ e)) × (b ≡ z ∷ (e ++ d)))
    go i (inl (e, h, k)) = inl (e, cc (i, h), k)
    go i (inr (z, e, h, k)) = inr (z, e, cc (i, h), k)

-- where a text leaves the grammar, given what follows the first n bytes, which are accepted
pub record Within (text : List ℕ) (n at : ℕ) (before after : List (List ℕ)) : Type 0 where
  pub middle : List (List ℕ)
  pub not_before : n ≤ at
  pub split : SplitsInto (drop n text) (middle ++ after)
  pub place : at - n ≡ sum_by length middle
  pub fitting : list_any is_too_large (before ++ after) ≡ false
      → list_any is_too_large middle ≡ false
  pub alike : GoOnAlike (only_tokens before) (only_tokens middle)

within_piece : (text : List ℕ) (n at : ℕ) (before after : List (List ℕ)) (deep : Bool)
    → IsPiece text n → Accepted (take n text) → SplitsInto text (before ++ after)
    → at ≡ sum_by length before
    → LeaveAfter (only_tokens before) after deep → Within text n at before after
within_piece text n at before after deep p acc s place leave =
    let q = piece_units text n (before ++ after) p s in
    go q.0 q.1 q.3 (fronts before after (units_of p) q.0 q.1)
  where
    list : IsList (only_tokens (units_of p))
    list = accepted_list (take n text) (units_of p) (piece_splits text n p) acc

    shape : only_tokens (units_of p) ≡ only_tokens p.before ++ (codes ";" ∷ [])
    shape = piece_tokens text n p

    go : (vs : List (List ℕ)) → before ++ after ≡ units_of p ++ vs → SplitsInto (drop n text) vs
        → ((e : List (List ℕ)) × (before ≡ units_of p ++ e) × (vs ≡ e ++ after)) ⊎ ((x : List ℕ)
        × (e : List (List ℕ)) × (units_of p ≡ before ++ (x ∷ e)) × (after ≡ x ∷ (e ++ vs)))
        → Within text n at before after
    go vs h r (inl (e, i, j)) =
        let sum : at ≡ n + sum_by length e = place ∙ ap (sum_by length) i
        ∙ sum_by-append length (units_of p) e ∙ ap (λ k. k + sum_by length e) (sym p.place) in
        let same : only_tokens before
        ≡ (only_tokens p.before ++ (codes ";" ∷ [])) ++ only_tokens e = ap only_tokens i
        ∙ filter-append is_token (units_of p) e ∙ ap (λ z. z ++ only_tokens e) shape in
        record {
          middle = e;
          not_before = omega (arith, sum);
          split = subst (λ z. SplitsInto (drop n text) z) j r;
          place = omega (arith, sum);
          fitting = λ f. or_right (list_any is_too_large (units_of p)) (list_any is_too_large e)
              (sym (list_any-append is_too_large (units_of p) e)
              ∙ ap (list_any is_too_large) (sym i) ∙ front_fit before after f);
          alike = subst (λ z. GoOnAlike z (only_tokens e)) (sym same)
              (alike_whole (only_tokens p.before) (only_tokens e) (subst (λ z. AreTokens (λ t. t) z)
              shape (are_tokens (units_of p))) (subst (λ z. IsList z) shape list));
        }
    go vs h r (inr (x, e, i, j)) =
        absurd (stops (subst (λ z. LeaveAfter (only_tokens before) z deep) j leave))
      where
        stops : LeaveAfter (only_tokens before) (x ∷ (e ++ vs)) deep → ⊥
        stops l =
            let one : only_tokens (x ∷ e) ≡ x ∷ only_tokens e = rw l.0 refl in
            let same : only_tokens (units_of p)
            ≡ (only_tokens before ++ (x ∷ [])) ++ only_tokens e =
            ap only_tokens i ∙ filter-append is_token before (x ∷ e)
            ∙ ap (λ z. only_tokens before ++ z) one
            ∙ sym (append_assoc (only_tokens before) (x ∷ []) (only_tokens e)) in
            l.1 (begins_front greatest_depth (only_tokens before ++ (x ∷ [])) (only_tokens e) (subst
            (λ z. Begins greatest_depth z) same (list_begins (only_tokens (units_of p)) list)))

pub within : (text : List ℕ) (n at : ℕ) (deep : Bool) → (n ≡ 0) ⊎ IsPiece text n
    → Accepted (take n text) → (l : LeavesGrammar text at deep) → Within text n at l.before l.after
within text n at deep (inl e) acc l =
    subst (λ z. Within text z at l.before l.after) (sym e) (record {
      middle = l.before;
      not_before = omega arith;
      split = l.split;
      place = (let e : at - 0 ≡ at = omega arith in e ∙ l.place);
      fitting = front_fit l.before l.after;
      alike = alike_none (only_tokens l.before);
    })
within text n at deep (inr p) acc l =
    within_piece text n at l.before l.after deep p acc l.split l.place l.leaves
