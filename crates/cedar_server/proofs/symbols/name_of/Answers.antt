use Rattle.std.proofs.Common.{refl}
use Rattle.std.specs.Prelude.{All}
use Rattle.cedar_server.specs.Symbols.{IsNoId, by_id, by_head}
use Rattle.cedar_server.specs.Inside.Heads.{IsFirstId}
use Rattle.cedar_server.proofs.Reading.{units_are_parts}
use Rattle.cedar_server.proofs.StandingParts.{effect_stands, id_stands}
use Rattle.cedar_server.proofs.symbols.name_of.Goals as goal

pub returns-in_ok-from_str-in-Some-clause-name : goal.returns-in_ok-from_str-in-Some-clause-name
returns-in_ok-from_str-in-Some-clause-name c =
    let f : IsFirstId c.args.policy.now.inner.annotations.items c.in-Some.id.now c.in-Some.place =
    rw c.deref.ensures.value at (rw c.in-Some.is at c.id_of.ensures) in
    rw c.in_ok-from_str-in-Some.ensures.ok (by_id f.k f.a f.at f.first f.is)

pub returns-in_ok-from_str-in-Some-clause-stands : goal.returns-in_ok-from_str-in-Some-clause-stands
returns-in_ok-from_str-in-Some-clause-stands c =
    let f : IsFirstId c.args.policy.now.inner.annotations.items c.in-Some.id.now c.in-Some.place =
    rw c.deref.ensures.value at (rw c.in-Some.is at c.id_of.ensures) in
    id_stands c.args.section.now c.args.policy.now c.in-Some.id.now c.in-Some.place c.requires f

pub returns-in_ok-head-in-None-clause-name : goal.returns-in_ok-head-in-None-clause-name
returns-in_ok-head-in-None-clause-name c =
    let none : All IsNoId c.args.policy.now.inner.annotations.items =
    rw c.deref.ensures.value at (rw c.in-None.is at c.id_of.ensures) in
    let s = c.requires.splits in
    by_head s.0 none s.1 (c.in_ok-head-in-None.ensures s.0 (units_are_parts s.0 c.args.section.now s.1)) refl

pub returns-in_ok-head-in-None-clause-stands : goal.returns-in_ok-head-in-None-clause-stands
returns-in_ok-head-in-None-clause-stands c =
    effect_stands c.args.section.now c.args.policy.now c.requires
