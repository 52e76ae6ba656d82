use Rattle.std.proofs.Common.{◌≡◌, [], ◌∷◌, ◌++◌, map, string_bytes, rules, refl, sym, subst, ◌∙◌}
use Rattle.std.specs.Map.Iter.{deref_pair}
use Rattle.std.proofs.lemmas.List.{append-nil, map-append}
use Rattle.std.proofs.lemmas.Map.Iter.{iter_end}
use Rattle.cedar_server.specs.Sessions.{AreCleared, name_of_text, names_of_texts}
use Rattle.cedar_server.proofs.Losing.{clears_one}
use Rattle.cedar_server.proofs.documents.clear_texts.Goals as goal

pub loop-uri-init : goal.loop-uri-init
loop-uri-init c = c.new-told.ensures.items

pub loop-uri-preserved-in_ok-push-in-Text : goal.loop-uri-preserved-in_ok-push-in-Text
loop-uri-preserved-in_ok-push-in-Text c =
    let seen = map deref_pair c.loop-uri.yielded in
    let uri = string_bytes c.in-Some.uri.now in
    let message = c.in_ok-cleared-in-Text.field-0 in
    let one = c.in_ok-cleared-in-Text.ensures in
    let own : AreCleared (name_of_text uri c.in-Some.document.now ++ []) (message ∷ []) =
    subst (λ d. AreCleared (name_of_text uri d ++ []) (message ∷ [])) (sym c.in-Text.is)
    (message ∷ [], [], refl, (one.0, one.1, one.2, one.3 ∙ c.as_str.ensures.value, one.4), refl) in
    let all = clears_one seen c.in-Some.uri.now c.in-Some.document.now c.loop-uri.told.items (message ∷ [])
    c.loop-uri.invariant own in
    let names = map-append deref_pair c.loop-uri.yielded ((c.in-Some.uri, c.in-Some.document) ∷ []) in
    subst (λ es. AreCleared (names_of_texts es) c.push.new.self.items) (sym names)
    (subst (AreCleared (names_of_texts (seen ++ ((c.in-Some.uri.now, c.in-Some.document.now) ∷ []))))
    (sym c.in_ok-push-in-Text.ensures.items) all)

pub loop-uri-preserved : goal.loop-uri-preserved
loop-uri-preserved c =
    let seen = map deref_pair c.loop-uri.yielded in
    let uri = string_bytes c.in-Some.uri.now in
    let own : AreCleared (name_of_text uri c.in-Some.document.now ++ []) [] =
    subst (λ d. AreCleared (name_of_text uri d ++ []) []) (sym c.in-Lost.is) refl in
    let all = clears_one seen c.in-Some.uri.now c.in-Some.document.now c.loop-uri.told.items [] c.loop-uri.invariant own in
    let names = map-append deref_pair c.loop-uri.yielded ((c.in-Some.uri, c.in-Some.document) ∷ []) in
    subst (λ es. AreCleared (names_of_texts es) c.loop-uri.told.items) (sym names)
    (subst (AreCleared (names_of_texts (seen ++ ((c.in-Some.uri.now, c.in-Some.document.now) ∷ []))))
    (append-nil c.loop-uri.told.items) all)

pub returns : goal.returns
returns c =
    let all : map deref_pair c.loop-uri.yielded ≡ c.args.documents.now.entries = search (rules, iter_end) in
    subst (λ es. AreCleared (names_of_texts es) c.loop-uri.told.items) all c.loop-uri.invariant
