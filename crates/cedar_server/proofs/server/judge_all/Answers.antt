use Rattle.std.proofs.Common.{◌≡◌, ◌+◌, ◌<◌, [], ◌∷◌, ◌++◌, String, Global, length, map, string_bytes, take, ap, subst, sym, ◌∙◌}
use Rattle.std.proofs.lemmas.List.{map-append, take_more}
use Rattle.cedar_server.specs.Sessions.{Judges, JudgesAll, state_in}
use Rattle.cedar_server.proofs.Losing.{judged_more}
use Rattle.cedar_server.proofs.server.judge_all.Goals as goal

pub loop-uri-preserved : goal.loop-uri-preserved
loop-uri-preserved c =
    let e = c.args.encoding in
    let docs = c.args.documents.now in
    let items = c.args.uris.now in
    let i = c.loop-uri.uri-index in
    let uri = c.uri-item.result in
    let own = c.in_ok-judge.ensures in
    let within : i < length items = c.loop-uri-test.true in
    let names : map string_bytes (take (i + 1) items) ≡ map string_bytes (take i items) ++ (string_bytes uri ∷ []) =
    ap (map string_bytes) (take_more items i uri within)
    ∙ ap (λ (it : String Global). map string_bytes (take i items ++ (it ∷ []))) (sym c.uri-item.is)
    ∙ map-append string_bytes (take i items) (uri ∷ []) in
    let judged : Judges e (string_bytes uri) (state_in docs (string_bytes uri)) own.0 =
    subst (λ u. Judges e u (state_in docs u) own.0) c.as_str.ensures.value own.2 in
    subst (λ us. JudgesAll e docs us c.judge.new.told.items) (sym names)
    (subst (JudgesAll e docs (map string_bytes (take i items) ++ (string_bytes uri ∷ []))) (sym own.1)
    (judged_more e docs (map string_bytes (take i items)) (string_bytes uri) c.loop-uri.told.items own.0 c.loop-uri.invariant judged))
