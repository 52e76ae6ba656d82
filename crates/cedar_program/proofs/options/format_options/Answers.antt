use Rattle.std.proofs.Common.{arith, w64, to_z, ◌≡◌, ◌<◌, ◌^◌, ◌∙◌, ℕ, ℤ, pos, sym, refl, ap, subst, codes, Option, List}
use Rattle.std.proofs.lemmas.Int.{ints}
use Rattle.clap.specs.Words.{found_of, one_text}
use Rattle.clap.proofs.WalkLemmas.{first_value-rows, one_text-rows}
use Rattle.cedar_program.specs.Options.{IsNumberOr}
use Rattle.cedar_documents.specs.declared.config.Config.{Config}
use Rattle.cedar_program.proofs.Numbers.{fits, given, missing}
use Rattle.cedar_program.proofs.options.format_options.Goals.{in-Some, in_default, in-Some-get_one, in_default-get_one}
use Rattle.cedar_program.proofs.options.format_options.Goals as goal

abbrev width_of : Config → ℕ
width_of g = g.line_width

abbrev indent_of : Config → ℤ
indent_of g = g.indent_width

small : (n : ℕ) → n < 2 ^ 16 → to_z w64 n ≡ pos n
small n h = omega (arith, ints)

pub returns : goal.returns
returns c =
    let f = found_of c.args.format.now in
    let width_text = one_text f (codes "width") in
    let indent_text = one_text f (codes "indent") in
    let first : IsNumberOr 80 width_text (width_of c.match-get_one.config) =
    elim c.match-get_one.branch [
      | in-Some w ↦ given 80 _ w.in-Some.width width_text c.get_one.result c.get_one.ensures.none
          c.get_one.ensures.value w.in-Some.is (ap width_of w.config-is)
      | in_default w ↦ missing 80 _ width_text c.get_one.result c.get_one.ensures.value
          w.in_default.is (ap width_of w.config-is ∙ c.default-config.ensures.0)
    ] in
    let kept : width_of c.match-get_one-2.config ≡ width_of c.match-get_one.config =
    elim c.match-get_one-2.branch [
      | in-Some-get_one w ↦ ap width_of w.config-is
      | in_default-get_one w ↦ ap width_of w.config-is
    ] in
    let before : indent_of c.match-get_one.config ≡ pos 2 = elim c.match-get_one.branch [
      | in-Some w ↦ ap indent_of w.config-is ∙ c.default-config.ensures.1
      | in_default w ↦ ap indent_of w.config-is ∙ c.default-config.ensures.1
    ] in
    let second : (n : ℕ) × IsNumberOr 2 indent_text n
    × (indent_of c.match-get_one-2.config ≡ pos n) = elim c.match-get_one-2.branch [
      | in-Some-get_one w ↦ (
        w.in-Some-get_one.indent,
        given 2 _ w.in-Some-get_one.indent indent_text c.get_one-2.result c.get_one-2.ensures.none
            c.get_one-2.ensures.value w.in-Some-get_one.is refl,
        ap indent_of w.config-is
            ∙ small w.in-Some-get_one.indent (fits _ indent_text c.get_one-2.result
            c.get_one-2.ensures.none c.get_one-2.ensures.value w.in-Some-get_one.is),
      )
      | in_default-get_one w ↦ (
        2,
        missing 2 2 indent_text c.get_one-2.result c.get_one-2.ensures.value
            w.in_default-get_one.is refl,
        ap indent_of w.config-is ∙ before,
      )
    ] in
    record {
      file = c.get_str.ensures ∙ first_value-rows f (codes "file");
      width = subst (λ (t : Option (List ℕ)). IsNumberOr 80 t (width_of c.match-get_one-2.config))
          (one_text-rows f (codes "width")) (subst (IsNumberOr 80 width_text) (sym kept) first);
      indent = (
        second.0,
        subst (λ (t : Option (List ℕ)). IsNumberOr 2 t second.0)
            (one_text-rows f (codes "indent")) second.1,
        second.2,
      );
      checks = λ e. c.get_flag.ensures.value (one_text-rows f (codes "check") ∙ e);
      formats = λ e. c.get_flag.ensures.other (one_text-rows f (codes "check") ∙ e);
    }
