-- Where a text leaves the grammar is where the reader refuses it.
use Rattle.std.specs.Prelude.{◌≡◌, ◌↔◌, ℕ, Bool, true, false, IsTrue, List, [], ◌∷◌, ◌++◌, length}
use Rattle.std.specs.List.{list_any, sum_by}
use Rattle.std.proofs.Common.{sym, ap, ◌∙◌, inl, inr, append-nil, subst}
use Rattle.cedar_tokens.specs.Units.{is_token}
use Rattle.cedar_tokens.specs.Split.{SplitsInto}
use Rattle.cedar_grammar.specs.Trees.{Label, Forest}
use Rattle.cedar_grammar.specs.KindGrammar.{G}
use Rattle.cedar_grammar.specs.Laws.{AreTokens}
use Rattle.cedar_grammar.specs.Beginnings.{Begins}
use Rattle.cedar_grammar.specs.Numbers.{is_too_large}
use Rattle.cedar_tokens.specs.TokenKinds.{kind_of}
use Rattle.cedar_grammar.specs.Texts.{greatest_depth, only_tokens, LeaveAfter, LeavesGrammar}
use Rattle.cedar_grammar.specs.Reader.Hopeless.{BeginsByKinds, IsRefused}
use Rattle.cedar_grammar.proofs.Texts.Languages.{whole}
use Rattle.cedar_grammar.proofs.Texts.Grammars.{grammars_agree}
use Rattle.cedar_grammar.proofs.Texts.Beginnings.{beginnings_agree}
use Rattle.cedar_grammar.proofs.Texts.Accepted.{are_tokens}
use Rattle.cedar_tokens.proofs.UnitsSoFar.{units_length}
use Rattle.cedar_grammar.proofs.Hopeless.{hopeless_at}

module _ (front : List (List ℕ)) (are : AreTokens (λ t. t) front) where
  begins : (d : ℕ) → Begins d front ↔ BeginsByKinds kind_of d front
  begins d = beginnings_agree d front are

  through : (u : List ℕ) → is_token u ≡ true → (d : ℕ)
      → Begins d (front ++ (u ∷ [])) ↔ BeginsByKinds kind_of d (front ++ (u ∷ []))
  through u t d = beginnings_agree d (front ++ (u ∷ [])) (whole (λ t. t) front (u ∷ []) are (t, tt))

  no_tree : ((tree : Forest Label (List ℕ)) → ¬ (G kind_of greatest_depth tree front))
      → (deep : Bool) → deep ≡ false → LeaveAfter front [] deep
  no_tree n deep e =
      (λ tree g. n tree ((grammars_agree (λ t. t) greatest_depth front tree are).0 g), e)

  tree_missing : (deep : Bool) → LeaveAfter front [] deep → (tree : Forest Label (List ℕ))
      → ¬ (G kind_of greatest_depth tree front)
  tree_missing deep (n, e) tree g =
      n tree ((grammars_agree (λ t. t) greatest_depth front tree are).1 g)

  leave : (u : List ℕ) (us : List (List ℕ)) (deep : Bool) → is_token u ≡ true
      → ¬ (BeginsByKinds kind_of greatest_depth (front ++ (u ∷ [])))
      → (IsTrue deep ↔ ((d : ℕ) × BeginsByKinds kind_of d (front ++ (u ∷ []))))
      → LeaveAfter front (u ∷ us) deep
  leave u us deep t n k = (
    t,
    λ b. n ((through u t greatest_depth).0 b),
    (λ e. let x = k.0 e in (x.0, (through u t x.0).1 x.1), λ (d, b). k.1 (d, (through u t d).0 b)),
  )

pub leaves_grammar : (text : List ℕ) (at : ℕ) (deep : Bool) → IsRefused text at deep
    → LeavesGrammar text at deep
leaves_grammar text at deep (inl h) = record {
  before = h.before;
  after = h.token ∷ h.after;
  split = h.split;
  fitting = h.fitting;
  place = h.place;
  begins = (begins (only_tokens h.before) (are_tokens h.before) greatest_depth).1 h.hopeless.before;
  leaves = leave (only_tokens h.before)
      (are_tokens h.before) h.token h.after deep h.is_one h.hopeless.through h.hopeless.kind_is;
}
leaves_grammar text at deep (inr (u, at_end, shallow)) = record {
  before = u.units;
  after = [];
  split = subst (SplitsInto text) (sym (append-nil u.units)) u.split;
  fitting = ap (list_any is_too_large) (append-nil u.units) ∙ u.fitting;
  place = at_end ∙ units_length u.units text u.split;
  begins = (begins (only_tokens u.units) (are_tokens u.units) greatest_depth).1 u.unfinished.before;
  leaves = no_tree (only_tokens u.units) (are_tokens u.units) u.unfinished.not_whole deep shallow;
}

pub is_refused : (text : List ℕ) (at : ℕ) (deep : Bool) → LeavesGrammar text at deep
    → IsRefused text at deep
is_refused text at deep l = go l.before l.after l.split l.fitting l.place l.begins l.leaves
  where
    go : (before after : List (List ℕ)) → SplitsInto text (before ++ after)
        → list_any is_too_large (before ++ after) ≡ false → at ≡ sum_by length before
        → Begins greatest_depth (only_tokens before) → LeaveAfter (only_tokens before) after deep
        → IsRefused text at deep
    go before [] s f p b (n, d) =
        let split : SplitsInto text before = subst (SplitsInto text) (append-nil before) s in
        inr (
          record {
            units = before;
            split = split;
            fitting = sym (ap (list_any is_too_large) (append-nil before)) ∙ f;
            unfinished = record {
              before = (begins (only_tokens before) (are_tokens before) greatest_depth).0 b;
              not_whole = tree_missing (only_tokens before) (are_tokens before) deep (n, d);
            };
          },
          p ∙ sym (units_length before text split),
          d,
        )
    go before (u ∷ us) s f p b (o, n, k) =
        let t = through (only_tokens before) (are_tokens before) u o in
        inl (hopeless_at text before u us at deep s f p o (
          (begins (only_tokens before) (are_tokens before) greatest_depth).0 b,
          (λ g. n ((t greatest_depth).1 g)),
          (λ e. let x = k.0 e in (x.0, (t x.0).0 x.1), λ (d, g). k.1 (d, (t d).1 g)),
        ))
