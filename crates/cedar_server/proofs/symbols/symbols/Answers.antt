use Rattle.std.proofs.Common.{◌∙◌, ap, sym, drop, arith, length, subst}
use Rattle.std.specs.Str.{IsUtf8}
use Rattle.std.proofs.lemmas.Str.{IsUtf8-drop}
use Rattle.std.proofs.lemmas.List.{drop-drop, length-drop}
use Rattle.cedar_server.specs.Sections.{IsSection}
use Rattle.cedar_server.proofs.Naming.{all_so_far, section_so_far}
use Rattle.cedar_server.proofs.symbols.symbols.Goals as goal

pub sections-preserved : goal.sections-preserved
sections-preserved c =
    let i = c.sections.invariant in
    let s : IsSection c.sections.rest.now c.in-Some.len = rw c.in-Some.is at c.section_len.ensures.section in
    record {
      utf8 = subst IsUtf8 (sym c.split_at.ensures.back) (IsUtf8-drop c.sections.rest.now c.in-Some.len i.utf8 c.in-Some.ensures.boundary);
      inside = omega (arith, i.inside, c.in-Some.ensures.boundary, ap length i.left, length-drop c.sections.from c.args.text.now);
      left = c.split_at.ensures.back ∙ ap (drop c.in-Some.len) i.left ∙ drop-drop c.in-Some.len c.sections.from c.args.text.now;
      so_far = section_so_far c.args.text.now c.sections.rest.now c.split_at.result.0.now c.sections.from c.in-Some.len _ _
          i.left c.split_at.ensures.front s c.in_ok-push_symbols.ensures i.so_far;
    }

pub returns : goal.returns
returns c = all_so_far c.args.text.now c.sections.rest.now c.sections.from _ c.sections.invariant.left
    (rw c.in_default.is at c.section_len.ensures.section) c.sections.invariant.so_far
