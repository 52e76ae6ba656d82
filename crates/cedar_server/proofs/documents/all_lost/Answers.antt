use Rattle.std.proofs.Common.{◌≡◌, [], ◌∷◌, map, string_bytes, rules, ap, sym, ◌∙◌}
use Rattle.std.specs.Map.Iter.{deref_pair}
use Rattle.std.proofs.lemmas.List.{map-append}
use Rattle.std.proofs.lemmas.Map.Iter.{iter_end}
use Rattle.cedar_server.proofs.Losing.{found_is_lost, lost_among, puts_lost}
use Rattle.cedar_server.proofs.documents.all_lost.Goals as goal

pub loop-uri-init : goal.loop-uri-init
loop-uri-init c = λ q. search rules

pub loop-uri-preserved : goal.loop-uri-preserved
loop-uri-preserved c = λ q.
    let seen = map deref_pair c.loop-uri.yielded in
    puts_lost q (string_bytes c.in_ok-name.name) c.in-Some.uri.now c.in-Some.field-0-1.now
    c.loop-uri.lost c.put.new.documents seen c.in_ok-put.ensures.ok
    (sym (c.in_ok-name.ensures.ok ∙ c.as_str.ensures.value)) (c.loop-uri.invariant q)
    ∙ ap (lost_among q) (sym (map-append deref_pair c.loop-uri.yielded ((c.in-Some.uri, c.in-Some.field-0-1) ∷ [])))

pub returns : goal.returns
returns c = λ q.
    let all : map deref_pair c.loop-uri.yielded ≡ c.args.documents.now.entries = search (rules, iter_end) in
    c.loop-uri.invariant q ∙ ap (lost_among q) all ∙ found_is_lost _
