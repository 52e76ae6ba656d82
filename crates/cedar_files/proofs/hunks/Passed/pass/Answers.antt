use Rattle.std.proofs.Common.{◌∙◌, Some, ap, arith, length-take-le, take}
use Rattle.std.proofs.lemmas.List.Sums.{count_by-le-length}
use Rattle.cedar_files.specs.declared.changes.Change.TheVariants.{Keep, Remove, Add}
use Rattle.cedar_files.specs.Hunks.{is_new, is_old}
use Rattle.cedar_files.proofs.HunkLemmas.{passes_next}
use Rattle.cedar_files.proofs.hunks.Passed.pass.Goals as goal

pub returns-in-Keep : goal.returns-in-Keep
returns-in-Keep c = λ changes small passes is.
    passes_next changes c.args.self.now _ Keep small passes (is ∙ ap (λ change. Some change) c.in-Keep.is)
    (omega (arith, c.saturating_add-self.ensures)) (omega (arith, c.saturating_add-self-in-Keep.ensures))
    (omega (arith, c.saturating_add-self-in-Keep-2.ensures))

pub returns-in-Remove : goal.returns-in-Remove
returns-in-Remove c = λ changes small passes is.
    passes_next changes c.args.self.now _ Remove small passes (is ∙ ap (λ change. Some change) c.in-Remove.is)
    (omega (arith, c.saturating_add-self.ensures)) (omega (arith, c.saturating_add-self-in-Remove.ensures))
    (omega (arith, passes.new, count_by-le-length is_new (take c.args.self.now.changes changes), length-take-le c.args.self.now.changes changes passes.within, passes.within))

pub returns-in-Add : goal.returns-in-Add
returns-in-Add c = λ changes small passes is.
    passes_next changes c.args.self.now _ Add small passes (is ∙ ap (λ change. Some change) c.in-Add.is)
    (omega (arith, c.saturating_add-self.ensures)) (omega (arith, passes.old, count_by-le-length is_old (take c.args.self.now.changes changes), length-take-le c.args.self.now.changes changes passes.within, passes.within))
    (omega (arith, c.saturating_add-self-in-Add.ensures))
