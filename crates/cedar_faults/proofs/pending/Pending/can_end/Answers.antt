use Rattle.std.proofs.Common.{◌≡◌, ◌∙◌, map, [], sym, ap, rules}
use Rattle.std.specs.Prelude.{reverse}
use Rattle.std.specs.List.{list_all}
use Rattle.cedar_faults.specs.Inside.Turns.{is_optional}
use Rattle.cedar_faults.specs.Inside.Pendings.{pair, parts_of}
use Rattle.cedar_faults.specs.Inside.Reaching.{reads_parts}
use Rattle.cedar_faults.proofs.Pendings.{can_end, ends_if, ended}
use Rattle.cedar_faults.proofs.pending.Pending.can_end.Goals as goal

pub returns : goal.returns
returns c = ends_if c.all_optional.result (reads_parts (parts_of c.args.self.now) [])
    (can_end c.args.self.now.parts.items ∙ ap ended (sym (c.all_optional.ensures ∙ ap (list_all
    (λ a. is_optional a.part)) c.deref.ensures.value)))
