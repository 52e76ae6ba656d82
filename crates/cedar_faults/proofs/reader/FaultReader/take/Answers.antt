use Rattle.std.proofs.Common.{◌+◌, [], ◌∷◌, sym, ap, subst, arith, length}
use Rattle.std.proofs.lemmas.List.{length-drop}
use Rattle.cedar_faults.specs.Faults.{IsFault, IsInText, SearchFinds, moved}
use Rattle.cedar_faults.specs.Faults.SearchFinds.{nothing, fault}
use Rattle.cedar_faults.specs.Inside.Searches.{Finds}
use Rattle.cedar_faults.proofs.Describing.{reached_boundary, reached_inside}
use Rattle.cedar_faults.proofs.Rooms.{has_room, in_text}
use Rattle.cedar_faults.proofs.Searching.{finds_on, inside_more, resumes_boundary, resumes_further, resumes_inside}
use Rattle.cedar_faults.proofs.reader.FaultReader.take.Goals as goal

pub resume-requires : goal.resume-requires
resume-requires c =
    let f : IsFault c.range_from-rest.result.now c.in_ok-fault.fault = c.in_ok-fault.ensures in
    reached_boundary c.range_from-rest.result.now c.in_ok-fault.fault.expected.at f.expects.reached c.range_from-rest.utf8

pub overflow_add-self : goal.overflow_add-self
overflow_add-self c =
    let rest = c.range_from-rest.result.now in
    let f : IsFault rest c.in_ok-fault.fault = c.in_ok-fault.ensures in
    let s : Finds c.self.inside.text.now c.self.inside.at c.args.found = subst (λ z. Finds z.text z.at c.args.found) (sym c.self.view_is) c.requires in
    let m = resumes_inside rest c.in_ok-fault.fault.expected.at c.resume.result
    (reached_inside rest c.in_ok-fault.fault.expected.at f.expects.reached) c.resume.ensures in
    omega (arith, m, s.inside.inside, ap length c.range_from-rest.ensures.value, length-drop c.args.found.from c.self.inside.text.now, s.inside.size)

pub moved-requires : goal.moved-requires
moved-requires c =
    let rest = c.range_from-rest.result.now in
    let text = c.self.inside.text.now in
    let f : IsFault rest c.in_ok-fault.fault = c.in_ok-fault.ensures in
    let s : Finds text c.self.inside.at c.args.found = subst (λ z. Finds z.text z.at c.args.found) (sym c.self.view_is) c.requires in
    has_room rest c.args.found.from c.in_ok-fault.fault f
    (omega (arith, s.inside.inside, ap length c.range_from-rest.ensures.value, length-drop c.args.found.from text, s.inside.size))

pub invariant_of-self : goal.invariant_of-self
invariant_of-self c =
    let rest = c.range_from-rest.result.now in
    let text = c.self.inside.text.now in
    let from = c.args.found.from in
    let f : IsFault rest c.in_ok-fault.fault = c.in_ok-fault.ensures in
    let at = c.in_ok-fault.fault.expected.at in
    let s : Finds text c.self.inside.at c.args.found = subst (λ z. Finds z.text z.at c.args.found) (sym c.self.view_is) c.requires in
    let b = resumes_boundary rest at c.resume.result c.range_from-rest.utf8
    (reached_boundary rest at f.expects.reached c.range_from-rest.utf8) c.resume.ensures in
    inside_more text from c.resume.result (rw c.range_from-rest.ensures.value at c.range_from-rest.utf8) s.inside (rw c.range_from-rest.ensures.value at b)

pub returns-clause-fault : goal.returns-clause-fault
returns-clause-fault c =
    let rest = c.range_from-rest.result.now in
    let text = c.self.inside.text.now in
    let from = c.args.found.from in
    let f : IsFault rest c.in_ok-fault.fault = c.in_ok-fault.ensures in
    let s : Finds text c.self.inside.at c.args.found = subst (λ z. Finds z.text z.at c.args.found) (sym c.self.view_is) c.requires in
    let to = from + c.resume.result in
    rw c.moved.ensures (subst (λ z. SearchFinds z.text z.at (moved from c.in_ok-fault.fault ∷ []) to) c.self.view_is
    (finds_on text c.self.inside.at from to [] (moved from c.in_ok-fault.fault ∷ []) s.passed
    (fault from c.resume.result to c.in_ok-fault.fault []
    (rw c.range_from-rest.ensures.value at f) (rw c.range_from-rest.ensures.value at c.resume.ensures) (nothing to))))

pub returns-clause-inside : goal.returns-clause-inside
returns-clause-inside c =
    let f : IsFault c.range_from-rest.result.now c.in_ok-fault.fault = c.in_ok-fault.ensures in
    let s : Finds c.self.inside.text.now c.self.inside.at c.args.found = subst (λ z. Finds z.text z.at c.args.found) (sym c.self.view_is) c.requires in
    rw c.moved.ensures (subst (λ z. IsInText z.text (moved c.args.found.from c.in_ok-fault.fault)) c.self.view_is
    (in_text c.self.inside.text.now c.range_from-rest.result.now c.args.found.from c.in_ok-fault.fault c.range_from-rest.ensures.value s.inside.inside f))

pub returns-clause-further : goal.returns-clause-further
returns-clause-further c =
    let rest = c.range_from-rest.result.now in
    let f : IsFault rest c.in_ok-fault.fault = c.in_ok-fault.ensures in
    let s : Finds c.self.inside.text.now c.self.inside.at c.args.found = subst (λ z. Finds z.text z.at c.args.found) (sym c.self.view_is) c.requires in
    omega (arith, s.order, resumes_further rest c.in_ok-fault.fault c.resume.result f c.resume.ensures)

pub returns-clause-end : goal.returns-clause-end
returns-clause-end c =
    let rest = c.range_from-rest.result.now in
    let f : IsFault rest c.in_ok-fault.fault = c.in_ok-fault.ensures in
    let s : Finds c.self.inside.text.now c.self.inside.at c.args.found = subst (λ z. Finds z.text z.at c.args.found) (sym c.self.view_is) c.requires in
    let m = resumes_inside rest c.in_ok-fault.fault.expected.at c.resume.result
    (reached_inside rest c.in_ok-fault.fault.expected.at f.expects.reached) c.resume.ensures in
    omega (arith, m, s.inside.inside, ap length c.range_from-rest.ensures.value, length-drop c.args.found.from c.self.inside.text.now)
