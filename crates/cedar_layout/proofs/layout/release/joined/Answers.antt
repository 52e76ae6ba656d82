use Rattle.std.proofs.Common.{◌≡◌, [], length, vec_len, rules}
use Rattle.cedar_layout.proofs.Values.{not_empty, is_nil}
use Rattle.cedar_layout.proofs.Releasing.{first_joined, none_joined, all_joined}
use Rattle.cedar_layout.proofs.layout.release.joined.Goals as goal

pub returns-then-is_empty : goal.returns-then-is_empty
returns-then-is_empty c =
    let docs = c.args.docs in
    let len : vec_len docs ≡ length docs.items = search rules in
    first_joined docs.items c.args.more
    (is_nil docs.items _ c.is_empty.result len c.is_empty.ensures c.if-is_empty.true)

pub returns-in-None : goal.returns-in-None
returns-in-None c =
    let docs = c.args.docs in
    let len : vec_len docs ≡ length docs.items = search rules in
    let none : c.args.more.items ≡ [] = search rules in
    none_joined docs.items c.args.more
    (not_empty docs.items _ c.is_empty.result len c.is_empty.ensures c.if-is_empty.false) none

pub returns-in-Ok : goal.returns-in-Ok
returns-in-Ok c =
    let docs = c.args.docs in
    let len : vec_len docs ≡ length docs.items = search rules in
    all_joined docs.items c.pop.new.self.items _ c.args.more c.put.new.docs c.in-Some.last
    (not_empty docs.items _ c.is_empty.result len c.is_empty.ensures c.if-is_empty.false)
    c.in-Some.ensures.items c.put.ensures c.in-Ok.ensures.items
