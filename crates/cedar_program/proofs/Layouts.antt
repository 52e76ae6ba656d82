-- What an output says about its text.
use Rattle.std.proofs.Common.{◌≡◌, ◌≢◌, ◌∙◌, [], ℕ, List, Bool, true, false, ap, subst, sym}
use Rattle.std.specs.Prelude.{◌↔◌, ◌==◌, IsTrue, length}
use Rattle.std.specs.Str.{IsUtf8}
use Rattle.cedar_tokens.specs.Listing.{ListingIsUnique, by_value}
use Rattle.cedar_laws.specs.Canonical.{plain_listing}
use Rattle.cedar_written.specs.Canonical.{AcceptedHasOutput, OutputHasTheList, OutputsTellLists}
use Rattle.cedar_written.specs.Output.{IsOutputOf}
use Rattle.cedar_documents.specs.declared.config.Config.{Config}
use Rattle.cedar_policy_formatter.specs.Outputs.{HasOutput}
use Rattle.cedar_program.specs.FolderRuns.{IsUnformatted}

-- there are some bytes if the test says so
pub not_empty : (x : List ℕ) (b : Bool) → b ≡ (length x == 0) → b ≡ false → x ≢ []
not_empty x b tells isnt e =
    let bad : false ≡ true = sym isnt ∙ tells ∙ ap (λ z. length z == 0) e in cc

module _ (tell : OutputsTellLists) (unique : ListingIsUnique) (c : Config) where
  -- a text has one output
  pub one_output : (x y z : List ℕ) → HasOutput c x y → HasOutput c x z → y ≡ z
  one_output x y z h k = (tell c.line_width c.indent_width x x y z h.0 h.0 h.1 k.1).1
      (ap (λ l. by_value (plain_listing l)) (unique x h.1.list k.1.list h.1.is_list k.1.is_list))

  -- an accepted text with another output isn't its own
  pub is_unformatted : (x y : List ℕ) → x ≢ [] → HasOutput c x y → y ≢ x → IsUnformatted c x
  is_unformatted x y some h other =
      (some, h.0, h.1.accepted, λ own. other (one_output x y x h own))

  -- it is its own output if the comparison says so
  pub other_layout : (x t y : List ℕ) (b : Bool) → x ≢ [] → (t ≡ x) × IsUtf8 x
      → IsOutputOf c.line_width c.indent_width t y → IsUtf8 y → (IsTrue b ↔ (y ≡ t)) → b ≡ false
      → IsUnformatted c x × HasOutput c x y × IsUtf8 y
  other_layout x t y b some (e, u) o v tells differs =
      let h : HasOutput c x y =
      (u, subst (λ z. IsOutputOf c.line_width c.indent_width z y) e o) in (
        is_unformatted x y some h
            (λ same. let bad : false ≡ true = sym differs ∙ tells.1 (same ∙ sym e) in cc),
        h,
        v,
      )

-- the output of an output, however that is laid out, is an output of the text
pub output_of_output : (some : AcceptedHasOutput) (listed : OutputHasTheList) (tell : OutputsTellLists)
    (unique : ListingIsUnique) (c d : Config) (x y z : List ℕ) → HasOutput c x y → HasOutput d y z
    → HasOutput d x z
output_of_output some listed tell unique c d x y z h k =
    let (w, own) = some d.line_width d.indent_width x h.0 h.1.accepted in
    let (values, plain) = listed c.line_width c.indent_width x y k.1.list h.0 h.1 k.1.is_list in
    let lists : by_value (plain_listing own.list) ≡ by_value (plain_listing k.1.list) =
    ap (λ l. by_value (plain_listing l)) (unique x own.list h.1.list own.is_list h.1.is_list)
    ∙ sym values ∙ sym (ap by_value plain) in
    let same : w ≡ z = (tell d.line_width d.indent_width x y w z h.0 k.0 own k.1).1 lists in
    (h.0, subst (λ v. IsOutputOf d.line_width d.indent_width x v) same own)
