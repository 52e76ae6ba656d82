use Rattle.std.proofs.Common.{◌∙◌}
use Rattle.std.specs.Prelude.{take}
use Rattle.cedar_grammar.specs.Beginnings.{Begins}
use Rattle.cedar_grammar.specs.Texts.{greatest_depth}
use Rattle.cedar_reading.specs.Tokens.{HasTokens}
use Rattle.cedar_faults.specs.Inside.Beginnings.{IsTokenFault, RefusesInside}
use Rattle.cedar_faults.specs.Inside.TokenBeginnings.{TokensBegin}
use Rattle.cedar_faults.proofs.Leaving.{start_of, start_tokens, start_splits, reaches, refused_start, refused_whole, stops_first}
use Rattle.cedar_faults.proofs.Passing.{from_start}
use Rattle.cedar_faults.proofs.Probed.{of_units}
use Rattle.cedar_faults.proofs.beginnings.last_beginning.Goals as goal

pub returns-in-Some-2 : goal.returns-in-Some-2
returns-in-Some-2 c =
    let text = c.args.text.now in
    let h : HasTokens text = c.in_default.ensures in
    refused_whole text h c.in-Some-2.error (rw c.in-Some-2.is at c.in_ok-error.ensures)

pub inner_refusal-requires : goal.inner_refusal-requires
inner_refusal-requires c =
    let text = c.args.text.now in
    let f : IsTokenFault text c.in-Some.fault = c.in-Some.ensures in
    rw (c.range.ensures.value ∙ from_start text c.in-Some.fault.at)
    (start_tokens text c.in-Some.fault.at f.before (start_of text c.in-Some.fault f))

pub returns-in-Some-3 : goal.returns-in-Some-3
returns-in-Some-3 c =
    let text = c.args.text.now in
    let f : IsTokenFault text c.in-Some.fault = c.in-Some.ensures in
    let r : RefusesInside (take c.in-Some.fault.at text) c.in-Some-3.error =
    rw (c.range.ensures.value ∙ from_start text c.in-Some.fault.at) at (rw c.in-Some-3.is at c.in_ok-error-2.ensures) in
    refused_start text c.in-Some.fault.at f.before (start_of text c.in-Some.fault f) c.in-Some-3.error r

pub returns-in-None-2 : goal.returns-in-None-2
returns-in-None-2 c =
    let text = c.args.text.now in
    let f : IsTokenFault text c.in-Some.fault = c.in-Some.ensures in
    let s = start_of text c.in-Some.fault f in
    let b : TokensBegin (take c.in-Some.fault.at text) =
    rw (c.range.ensures.value ∙ from_start text c.in-Some.fault.at) at (rw c.in-None-2.is at c.in_ok-error-2.ensures) in
    stops_first text c.in-Some.fault.at c.in-Some.fault.error (reaches text c.in-Some.fault.at f.before s
    (of_units (take c.in-Some.fault.at text) f.before (Begins greatest_depth) (start_splits text c.in-Some.fault.at f.before s) b)) f.stops
