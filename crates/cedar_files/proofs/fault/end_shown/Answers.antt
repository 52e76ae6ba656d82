use Rattle.std.proofs.Common.{◌≡◌, ◌∙◌, ◌-◌, ℕ, ap, length, subst, rules, tests}
use Rattle.std.specs.Prelude.{IfOk, chars, drop, map, string_bytes}
use Rattle.std.specs.Str.{encode_utf8_all}
use Rattle.std.proofs.lemmas.Iterator.{YieldsList-from_chars, YieldsList-from_map, text_from_collect}
use Rattle.std.proofs.lemmas.Iterator.Adapters.{YieldsList-from_skip}
use Rattle.std.proofs.lemmas.Iterator.Consumers.{YieldsList-at, count_from_yields_List}
use Rattle.cedar_files.specs.Faults.{on_one_line}
use Rattle.cedar_files.proofs.fault.end_shown.Goals as goal

pub returns : goal.returns
returns c =
    let text = c.args.text.now in
    let hidden = c.saturating_sub-hidden.result in
    let shown_from : ℕ → Type 0 = λ n. IfOk c.collect.result
    (λ s. string_bytes s ≡ encode_utf8_all (map on_one_line (drop n (chars text)))) in
    let count : c.count.result ≡ length (chars text) =
    count_from_yields_List c.chars.result c.count.result c.count.ensures.ran
    (YieldsList-from_chars text c.utf8.text c.chars.ensures.rest) in
    let most : hidden ≡ length (chars text) - 60 =
    c.saturating_sub-hidden.ensures ∙ ap (λ n. n - 60) count in
    let characters = YieldsList-from_chars text c.utf8.text c.chars-2.ensures.rest in
    let rest = YieldsList-from_skip hidden (YieldsList-at c.skip.ensures.source characters)
    c.skip.ensures.count in
    let all : shown_from hidden = text_from_collect c.collect.result c.collect.ensures.ran
    (YieldsList-from_map _ on_one_line (YieldsList-at c.map.ensures.source rest)
    c.map.ensures.closure (λ x r q k. search (rules, tests))) in
    subst shown_from most all
