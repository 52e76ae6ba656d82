use Rattle.std.proofs.Common.{◌≡◌, subst}
use Rattle.std.specs.Prelude.{◌↔◌, IsTrue, string_bytes}
use Rattle.std.specs.Str.{IsUtf8}
use Rattle.std.proofs.lemmas.Bool.Decides.{Decides-eqb}
use Rattle.std.proofs.lemmas.Slice.Eq.{slice_eq-Decides}
use Rattle.cedar_program.proofs.Layouts.{not_empty, other_layout}
use Rattle.cedar_program.proofs.folder.files.layout_of.Goals as goal

pub returns-else-eq : goal.returns-else-eq
returns-else-eq c =
    let made = c.in-Ok-policies_str_to_pretty in
    let text = c.in-Ok.text.now in
    other_layout c.outputs_are_canonical.ensures.equal c.listing_is_unique.ensures c.args.config.now
    c.args.bytes.now text (string_bytes made.output) c.eq.result
    (not_empty c.args.bytes.now c.is_empty.result c.is_empty.ensures c.if-is_empty.false)
    c.in-Ok.ensures.cases made.ensures.answer
    (subst (λ z. IsUtf8 z) c.as_str.ensures.value c.as_str.utf8)
    (subst (λ z. IsTrue c.eq.result ↔ (z ≡ text)) c.as_str.ensures.value
    (slice_eq-Decides Decides-eqb c.as_str.result.now text c.eq.result c.eq.ensures)) c.if-eq.false
