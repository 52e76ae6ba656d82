-- How a file is handled.
use Rattle.std.proofs.Common.{◌≡◌, ◌∙◌, ◌⊎◌, [], ℕ, List, Bool, true, false, Option, Some, refl, sym, ap, inl, inr, subst}
use Rattle.std.specs.Str.{IsUtf8}
use Rattle.std.proofs.lemmas.Option.{same_Some}
use Rattle.cedar_documents.specs.declared.config.Config.{Config}
use Rattle.cedar_program.specs.Folders.{HoldsMade, Names, Picture, Stored}
use Rattle.cedar_policy_formatter.specs.Outputs.{HasOutput}
use Rattle.cedar_program.specs.FolderRuns.{Became, Handles, HoldsNew, HoldsOutput, HoldsOwnOutput, IsMoment, IsReplaced, IsUnformatted, Replaces}
use Rattle.cedar_program.specs.declared.folder.folder.Outcome.{Outcome}
use Rattle.cedar_program.specs.declared.folder.folder.Outcome.TheVariants.{Formatted, Empty, Unformatted, Replaced, NotUtf8, Refused, Unread, Unwritten, LeftBeside}
use Rattle.cedar_program.proofs.Steps.{no_moment, untold_are}

module _ (c : Config) (name : List ℕ) where
  -- nothing changed
  pub only_read : (only : Bool) (o : Outcome) (p q : Picture) → q ≡ p
      → ((f : Stored) → p.holds name ≡ Some f → Became only c f o (Some f))
      → Handles c only name o p q
  only_read only o p q same became = subst (λ r. Handles c only name o p r) (sym same) (record {
    own = λ f held. subst (λ h. Became only c f o h) (sym held) (became f held);
    others = λ n f other held. held;
    unused = λ n none. inl none;
    moments = no_moment p _;
    report = refl;
    check = λ e. refl;
  })

  -- the file that was read
  pub of_read : (only : Bool) (o : Outcome) (x : Stored) (p q : Picture)
      → (q ≡ p) × (p.holds name ≡ Some x) → Became only c x o (Some x) → Handles c only name o p q
  of_read only o x p q (same, read) became = only_read only o p q same
      (λ f held. subst (λ g. Became only c g o (Some g)) (same_Some _ _ (sym read ∙ held)) became)

  module _ (x : Stored) (ys : List ℕ) (unformatted : IsUnformatted c x.bytes)
      (output : HasOutput c x.bytes ys) (utf8 : IsUtf8 ys) where
    holds_output : (h : Option Stored) → HoldsMade ys x.access h → HoldsOutput c x h
    holds_output h (g, is, bytes, given) = (
      g,
      (
        subst (λ z. HasOutput c x.bytes z) (sym bytes) output,
        subst (λ z. IsUtf8 z) (sym bytes) utf8,
        ([], given),
      ),
      is,
    )

    became : (o : Outcome) (h : Option Stored) → IsReplaced ys x x o h
        → Became false c x o h
    became Formatted h bad = absurd bad
    became Empty h bad = absurd bad
    became (Unformatted bytes out) h bad = absurd bad
    became Replaced h is = (refl, unformatted, holds_output h is.1)
    became NotUtf8 h bad = absurd bad
    became (Refused e bytes) h bad = absurd bad
    became (Unread e) h bad = absurd bad
    became (Unwritten e) h is = is
    became (LeftBeside e n) h is = is

    at_moment : (p s : Names) → p name ≡ Some x → IsMoment (HoldsNew name ys x.access) p s
        → IsMoment (HoldsOwnOutput c name) p s
    at_moment p s read moment n g held =
        elim (moment n g held) as (λ _. (s n ≡ Some g) ⊎ HoldsOwnOutput c name n g (s n)) [
          | inl old ↦ inl old
          | inr is ↦
              let same : x ≡ g = same_Some _ _ (sym read ∙ ap p (sym is.0) ∙ held) in
              inr (is.0, subst (λ f. HoldsOutput c f (s n)) same (holds_output (s n) is.1))
        ]

    pub of_replaced : (o : Outcome) (p q r : Picture) → (q ≡ p) × (p.holds name ≡ Some x)
        → Replaces name ys x o q r → Handles c false name o p r
    of_replaced o p q r (same, read) done =
        let from_p : Replaces name ys x o p r =
        subst (λ s. Replaces name ys x o s r) same done in
        record {
          own = λ f held. subst (λ g. Became false c g o (r.holds name))
              (same_Some _ _ (sym read ∙ held)) (became o (r.holds name) (from_p.own x read));
          others = from_p.others;
          unused = from_p.unused x read;
          moments = untold_are p p r (IsMoment (HoldsNew name ys x.access) p.holds)
              (IsMoment (HoldsOwnOutput c name) p.holds) refl
              (λ s h. at_moment p.holds s read h) (from_p.moments x read);
          report = from_p.report;
          check = λ e. let bad : false ≡ true = e in cc;
        }
