-- Texts are accepted or refused, with at most one refusal.
use Rattle.std.specs.Prelude.{◌≡◌, ℕ, Bool, true, false, List, [], ◌∷◌, ◌++◌, ◌⊎◌, length}
use Rattle.std.specs.List.{list_any, sum_by}
use Rattle.std.proofs.Common.{refl, sym, ap, ◌∙◌, inl, inr, subst}
use Rattle.cedar_tokens.specs.Split.{SplitsInto, IsFirstFault, fault_kind, SplitIsUnique, FaultIsUnique, FaultPreventsSplit}
use Rattle.cedar_tokens.specs.declared.lexer.LexFaultKind.TheVariants as Fault
use Rattle.cedar_grammar.specs.declared.error.FormatError.{FormatError}
use Rattle.cedar_grammar.specs.declared.error.FormatError.TheVariants.{UnknownCharacter, UnfinishedString, NumberTooLarge, Grammar, TooDeep, NoDocument, Unsound, OutOfMemory}
use Rattle.cedar_grammar.specs.KindGrammar.{G}
use Rattle.cedar_tokens.specs.TokenKinds.{kind_of}
use Rattle.cedar_grammar.specs.Reader.Hopeless.{BeginsByKinds, Hopeless, Unfinished, IsHopeless, IsUnfinished, IsRefused}
use Rattle.cedar_grammar.specs.Numbers.{is_too_large, IsFirstTooLarge}
use Rattle.cedar_grammar.specs.Texts.{greatest_depth, only_tokens, Accepted, LeavesGrammar}
use Rattle.cedar_grammar.proofs.Texts.Accepted.{is_accepted, kinds_of}
use Rattle.cedar_grammar.proofs.Leaving.{leaves_grammar, is_refused}
use Rattle.cedar_grammar.specs.Refusals.{Refuses}
use Rattle.cedar_grammar.specs.TreeLaws.{TextIsJudged, AcceptedIsNotRefused, RefusalIsUnique}
use Rattle.cedar_grammar.specs.Reader.Reading.{Answer, done, stuck}
use Rattle.cedar_grammar.specs.Reader.Lines.{set_to}
use Rattle.cedar_grammar.proofs.Answers.{Says, says}
use Rattle.cedar_grammar.proofs.Texts.Kinds.{samples}
use Rattle.cedar_grammar.proofs.Texts.Cuts.{whole_begins, not_hopeless, one_place, Large, numbers_or, fit_part, first_large, unit_cut, one_cut}
use Rattle.cedar_grammar.proofs.Hopeless.{hopeless_among}

-- A text that splits is accepted or refused.
judge : (d : ℕ) → d ≡ greatest_depth → TextIsJudged
judge d deep text units s = go (numbers_or units)
  where
    hopeless : list_any is_too_large units ≡ false
        → (front : List (List ℕ)) (t : List ℕ) (rest : List (List ℕ)) (b : Bool)
        → Hopeless kind_of d (only_tokens units) front t rest b → (at : ℕ) × LeavesGrammar text at b
    hopeless fit front t rest b h =
        let at = sum_by length (unit_cut units front t rest h.split).before in (
          at,
          leaves_grammar text at b
              (inl (hopeless_among text units s fit d deep front t rest b h)),
        )

    answer : list_any is_too_large units ≡ false → (x : Answer (List ℕ))
        → set_to kind_of d (only_tokens units) ≡ x → Says kind_of d (only_tokens units) x
        → Accepted text ⊎ ((e : FormatError) × Refuses text e)
    answer fit (done f []) e g = inl
        (f, is_accepted text f units s fit (subst (λ z. G kind_of z f (only_tokens units)) deep g))
    answer fit (done f (a ∷ r)) e h =
        let w = hopeless fit h.0 a r false h.1 in inr (Grammar w.0, w.1)
    answer fit (stuck b []) e h = inr (
      Grammar (length text),
      leaves_grammar text (length text) false (inr (
        record {
          units = units;
          split = s;
          fitting = fit;
          unfinished = subst (λ z. Unfinished kind_of z (only_tokens units)) deep h;
        },
        refl,
        refl,
      )),
    )
    answer fit (stuck true (a ∷ r)) e h =
        let w = hopeless fit h.0 a r true h.1 in inr (TooDeep w.0, w.1)
    answer fit (stuck false (a ∷ r)) e h =
        let w = hopeless fit h.0 a r false h.1 in inr (Grammar w.0, w.1)

    go : (list_any is_too_large units ≡ false) ⊎ Large units
        → Accepted text ⊎ ((e : FormatError) × Refuses text e)
    go (inl fit) = answer fit (set_to kind_of d (only_tokens units)) refl
        (says kind_of samples d (only_tokens units) (set_to kind_of d (only_tokens units)) refl)
    go (inr (f, n, r, e, x, l)) =
        inr (
          NumberTooLarge (sum_by length f),
          record {
            before = f;
            number = n;
            after = r;
            split = subst (λ z. SplitsInto text z) e s;
            place = refl;
            large = l;
            first = x;
          },
        )

pub text_is_judged : TextIsJudged
text_is_judged = judge greatest_depth refl

-- At most one refusal.
module _ (split_unique : SplitIsUnique) (fault_unique : FaultIsUnique)
    (fault_prevents : FaultPreventsSplit) where
  fault_split : (text : List ℕ) (at : ℕ) (units : List (List ℕ)) → IsFirstFault text at
      → SplitsInto text units → ⊥
  fault_split text at units f s = fault_prevents text at f (units, s)

  fault_refused : (text : List ℕ) (at bt : ℕ) (b : Bool) → IsFirstFault text at
      → LeavesGrammar text bt b → ⊥
  fault_refused text at bt b f l = fault_split text at (l.before ++ l.after) f l.split

  large_fitting : (text : List ℕ) (at : ℕ) (units : List (List ℕ)) → IsFirstTooLarge text at
      → SplitsInto text units → list_any is_too_large units ≡ false → ⊥
  large_fitting text at units l s fit =
      fit_part l.before l.number l.after (ap (list_any is_too_large)
      (split_unique text (l.before ++ (l.number ∷ l.after)) units l.split s) ∙ fit) l.large

  large_refused : (text : List ℕ) (at bt : ℕ) (b : Bool) → IsFirstTooLarge text at
      → LeavesGrammar text bt b → ⊥
  large_refused text at bt b l g = large_fitting text at (g.before ++ g.after) l g.split g.fitting

  large_same : (text : List ℕ) (at bt : ℕ) → IsFirstTooLarge text at → IsFirstTooLarge text bt
      → at ≡ bt
  large_same text at bt h k =
      let same = split_unique text (h.before ++ (h.number ∷ h.after))
      (k.before ++ (k.number ∷ k.after)) h.split k.split in
      h.place ∙ ap (sum_by length) (first_large h.before k.before h.number k.number h.after k.after
      same h.first k.first h.large k.large) ∙ sym k.place

  unfinished_hopeless : (text : List ℕ) (at : ℕ) (b : Bool) → IsUnfinished text
      → IsHopeless text at b → ⊥
  unfinished_hopeless text at b u h =
      let same = split_unique text u.units (h.before ++ (h.token ∷ h.after)) u.split h.split in
      not_hopeless kind_of greatest_depth (only_tokens (h.before ++ (h.token ∷ h.after)))
      (only_tokens h.before) h.token (only_tokens h.after) b
      (subst (λ z. BeginsByKinds kind_of greatest_depth (only_tokens z)) same u.unfinished.before)
      h.hopeless

  refused_same : (text : List ℕ) (at bt : ℕ) (b c : Bool) → IsRefused text at b
      → IsRefused text bt c → (at ≡ bt) × (b ≡ c)
  refused_same text at bt b c (inl h) (inl k) =
      let same = split_unique text (h.before ++ (h.token ∷ h.after))
      (k.before ++ (k.token ∷ k.after)) h.split k.split in
      let one = one_place kind_of greatest_depth (only_tokens (k.before ++ (k.token ∷ k.after)))
      (only_tokens h.before) (only_tokens k.before) h.token k.token (only_tokens h.after)
      (only_tokens k.after) b c
      (subst (λ z. Hopeless kind_of greatest_depth (only_tokens z) (only_tokens h.before) h.token
      (only_tokens h.after) b) same h.hopeless) k.hopeless in (
        h.place ∙ ap (sum_by length) (one_cut h.before k.before h.token k.token h.after k.after same
            h.is_one k.is_one one.0) ∙ sym k.place,
        one.1,
      )
  refused_same text at bt b c (inl h) (inr k) = absurd (unfinished_hopeless text at b k.0 h)
  refused_same text at bt b c (inr h) (inl k) = absurd (unfinished_hopeless text bt c h.0 k)
  refused_same text at bt b c (inr h) (inr k) = (h.1 ∙ sym k.1, h.2 ∙ sym k.2)

  other_kinds : (text : List ℕ) (at bt : ℕ) → IsFirstFault text at → IsFirstFault text bt
      → fault_kind text at ≡ Fault.UnknownCharacter
      → fault_kind text bt ≡ Fault.UnfinishedString → ⊥
  other_kinds text at bt f g e h =
      let z : Fault.UnknownCharacter ≡ Fault.UnfinishedString =
      sym e ∙ ap (fault_kind text) (fault_unique text at bt f g) ∙ h in cc

  leaves_once : (text : List ℕ) (at bt : ℕ) (b c : Bool) → LeavesGrammar text at b
      → LeavesGrammar text bt c → (at ≡ bt) × (b ≡ c)
  leaves_once text at bt b c h k =
      refused_same text at bt b c (is_refused text at b h) (is_refused text bt c k)

  kinds_differ : (text : List ℕ) (at bt : ℕ) → LeavesGrammar text at false
      → LeavesGrammar text bt true → ⊥
  kinds_differ text at bt h k = let z = (leaves_once text at bt false true h k).1 in cc

  pub refusal_is_unique : RefusalIsUnique
  refusal_is_unique text (UnknownCharacter at) (UnknownCharacter bt) x y =
      ap UnknownCharacter (fault_unique text at bt x.0 y.0)
  refusal_is_unique text (UnknownCharacter at) (UnfinishedString bt) x y =
      absurd (other_kinds text at bt x.0 y.0 x.1 y.1)
  refusal_is_unique text (UnknownCharacter at) (NumberTooLarge bt) x y =
      absurd (fault_split text at (y.before ++ (y.number ∷ y.after)) x.0 y.split)
  refusal_is_unique text (UnknownCharacter at) (Grammar bt) x y =
      absurd (fault_refused text at bt false x.0 y)
  refusal_is_unique text (UnknownCharacter at) (TooDeep bt) x y =
      absurd (fault_refused text at bt true x.0 y)
  refusal_is_unique text (UnknownCharacter at) NoDocument x y = absurd y
  refusal_is_unique text (UnknownCharacter at) Unsound x y = absurd y
  refusal_is_unique text (UnknownCharacter at) OutOfMemory x y = absurd y
  refusal_is_unique text (UnfinishedString at) (UnknownCharacter bt) x y =
      absurd (other_kinds text bt at y.0 x.0 y.1 x.1)
  refusal_is_unique text (UnfinishedString at) (UnfinishedString bt) x y =
      ap UnfinishedString (fault_unique text at bt x.0 y.0)
  refusal_is_unique text (UnfinishedString at) (NumberTooLarge bt) x y =
      absurd (fault_split text at (y.before ++ (y.number ∷ y.after)) x.0 y.split)
  refusal_is_unique text (UnfinishedString at) (Grammar bt) x y =
      absurd (fault_refused text at bt false x.0 y)
  refusal_is_unique text (UnfinishedString at) (TooDeep bt) x y =
      absurd (fault_refused text at bt true x.0 y)
  refusal_is_unique text (UnfinishedString at) NoDocument x y = absurd y
  refusal_is_unique text (UnfinishedString at) Unsound x y = absurd y
  refusal_is_unique text (UnfinishedString at) OutOfMemory x y = absurd y
  refusal_is_unique text (NumberTooLarge at) (UnknownCharacter bt) x y =
      absurd (fault_split text bt (x.before ++ (x.number ∷ x.after)) y.0 x.split)
  refusal_is_unique text (NumberTooLarge at) (UnfinishedString bt) x y =
      absurd (fault_split text bt (x.before ++ (x.number ∷ x.after)) y.0 x.split)
  refusal_is_unique text (NumberTooLarge at) (NumberTooLarge bt) x y =
      ap NumberTooLarge (large_same text at bt x y)
  refusal_is_unique text (NumberTooLarge at) (Grammar bt) x y =
      absurd (large_refused text at bt false x y)
  refusal_is_unique text (NumberTooLarge at) (TooDeep bt) x y =
      absurd (large_refused text at bt true x y)
  refusal_is_unique text (NumberTooLarge at) NoDocument x y = absurd y
  refusal_is_unique text (NumberTooLarge at) Unsound x y = absurd y
  refusal_is_unique text (NumberTooLarge at) OutOfMemory x y = absurd y
  refusal_is_unique text (Grammar at) (UnknownCharacter bt) x y =
      absurd (fault_refused text bt at false y.0 x)
  refusal_is_unique text (Grammar at) (UnfinishedString bt) x y =
      absurd (fault_refused text bt at false y.0 x)
  refusal_is_unique text (Grammar at) (NumberTooLarge bt) x y =
      absurd (large_refused text bt at false y x)
  refusal_is_unique text (Grammar at) (Grammar bt) x y =
      ap Grammar (leaves_once text at bt false false x y).0
  refusal_is_unique text (Grammar at) (TooDeep bt) x y = absurd (kinds_differ text at bt x y)
  refusal_is_unique text (Grammar at) NoDocument x y = absurd y
  refusal_is_unique text (Grammar at) Unsound x y = absurd y
  refusal_is_unique text (Grammar at) OutOfMemory x y = absurd y
  refusal_is_unique text (TooDeep at) (UnknownCharacter bt) x y =
      absurd (fault_refused text bt at true y.0 x)
  refusal_is_unique text (TooDeep at) (UnfinishedString bt) x y =
      absurd (fault_refused text bt at true y.0 x)
  refusal_is_unique text (TooDeep at) (NumberTooLarge bt) x y =
      absurd (large_refused text bt at true y x)
  refusal_is_unique text (TooDeep at) (Grammar bt) x y = absurd (kinds_differ text bt at y x)
  refusal_is_unique text (TooDeep at) (TooDeep bt) x y =
      ap TooDeep (leaves_once text at bt true true x y).0
  refusal_is_unique text (TooDeep at) NoDocument x y = absurd y
  refusal_is_unique text (TooDeep at) Unsound x y = absurd y
  refusal_is_unique text (TooDeep at) OutOfMemory x y = absurd y
  refusal_is_unique text NoDocument e x y = absurd x
  refusal_is_unique text Unsound e x y = absurd x
  refusal_is_unique text OutOfMemory e x y = absurd x

  accepted_refused : (text : List ℕ) (at : ℕ) (b : Bool) → Accepted text → IsRefused text at b → ⊥
  accepted_refused text at b (f, a) (inl h) =
      let same = split_unique text a.units (h.before ++ (h.token ∷ h.after)) a.split h.split in
      not_hopeless kind_of greatest_depth (only_tokens (h.before ++ (h.token ∷ h.after)))
      (only_tokens h.before) h.token (only_tokens h.after) b
      (subst (λ z. BeginsByKinds kind_of greatest_depth (only_tokens z)) same
      (whole_begins kind_of greatest_depth f (only_tokens a.units) (kinds_of a))) h.hopeless
  accepted_refused text at b (f, a) (inr h) =
      let same = split_unique text a.units h.0.units a.split h.0.split in
      h.0.unfinished.not_whole f
      (subst (λ z. G kind_of greatest_depth f (only_tokens z)) same (kinds_of a))

  pub accepted_is_not_refused : AcceptedIsNotRefused
  accepted_is_not_refused text (UnknownCharacter at) (f, a) x =
      fault_split text at a.units x.0 a.split
  accepted_is_not_refused text (UnfinishedString at) (f, a) x =
      fault_split text at a.units x.0 a.split
  accepted_is_not_refused text (NumberTooLarge at) (f, a) x =
      large_fitting text at a.units x a.split a.fitting
  accepted_is_not_refused text (Grammar at) a x =
      accepted_refused text at false a (is_refused text at false x)
  accepted_is_not_refused text (TooDeep at) a x =
      accepted_refused text at true a (is_refused text at true x)
  accepted_is_not_refused text NoDocument a x = x
  accepted_is_not_refused text Unsound a x = x
  accepted_is_not_refused text OutOfMemory a x = x
