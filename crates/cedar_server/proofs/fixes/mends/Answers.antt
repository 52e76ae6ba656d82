use Rattle.std.proofs.Common.{◌≡◌, ◌+◌, ◌++◌, length, take, drop, refl, ap, sym, subst, append_assoc, ◌∙◌}
use Rattle.std.specs.Prelude.{string_bytes}
use Rattle.std.proofs.lemmas.List.{length-take-le}
use Rattle.cedar_faults.specs.Samples.{sample}
use Rattle.cedar_faults.specs.Faults.{AreFirstFaults}
use Rattle.cedar_server.specs.Diagnoses.{most}
use Rattle.cedar_server.specs.Fixes.{faults_before, mended}
use Rattle.cedar_server.proofs.Mending.{from_start, mends_or_fails}
use Rattle.cedar_server.proofs.fixes.mends.Goals as goal

pub returns : goal.returns
returns c =
    let text = c.args.text.now in
    let part = c.args.part in
    let kind = c.args.kind in
    let new = c.in_ok-new.new.items in
    let token = c.sample-token.result.now in
    let front : c.range-before.result.now ≡ take part.start text =
    c.range-before.ensures.value ∙ from_start text part.start in
    let back : c.range_from-after.result.now ≡ drop part.end text = c.range_from-after.ensures.value in
    let is : token ≡ sample kind = c.sample-token.ensures in
    let whole : string_bytes c.in_ok-mended.mended ≡ mended text part kind =
    c.in_ok-mended.ensures.ok ∙ sym (append_assoc c.range-before.result.now token c.range_from-after.result.now)
    ∙ (ap (λ x. x ++ token ++ c.range_from-after.result.now) front
    ∙ ap (λ x. take part.start text ++ token ++ x) back ∙ ap (λ x. take part.start text ++ x ++ drop part.end text) is) in
    let are : AreFirstFaults (mended text part kind) most new =
    subst (λ t. AreFirstFaults t most new) (c.as_str.ensures.value ∙ whole) c.in_ok-new.ensures in
    let size : length c.range-before.result.now + length token ≡ part.start + length (sample kind) =
    ap (λ x. length x + length token) front ∙ ap (λ n. n + length token) (length-take-le part.start text c.requires.start.0)
    ∙ ap (λ x. part.start + length x) is in
    let first : c.faults_before.result ≡ faults_before (part.start + length (sample kind)) new =
    c.faults_before.ensures ∙ (ap (λ n. faults_before n c.deref.result.now) size
    ∙ ap (faults_before (part.start + length (sample kind))) c.deref.ensures.value) in
    mends_or_fails text c.args.old.now part kind new _ _ are first c.faults_before-2.ensures _ refl
