use Rattle.std.proofs.Common.{◌≡◌, ◌-◌, true, false, length, arith, refl, sym, ap, ◌∙◌}
use Rattle.std.proofs.lemmas.Grind.{put_three}
use Rattle.std.proofs.Output.{has_written_of_eq}
use Rattle.cedar_faults.specs.declared.kinds.Name.TheVariants.{Policy}
use Rattle.cedar_faults.proofs.Listings.{names_step, names_listed, end_listed}
use Rattle.cedar_faults.proofs.expectation.Expected.write_alternatives.Goals.{then-self, else-self}
use Rattle.cedar_faults.proofs.expectation.Expected.write_alternatives.Goals as goal

pub loop-index-preserved : goal.loop-index-preserved
loop-index-preserved g c = λ plain.
    let a = c.loop-index.invariant plain in
    let b = c.in_ok-write_str.ensures.writes a.plain refl in
    let d = c.in_ok-write.ensures.writes b.plain refl in
    put_three _ _ _ _ _ _ _ _ _ a b d (rw c.separator.ensures
    (names_step c.if-self.last c.deref-name-items.result.now c.loop-index.index Policy c.loop-index-test.true))

pub returns-in_ok-write_str-3 : goal.returns-in_ok-write_str-3
returns-in_ok-write_str-3 g c = λ plain ok.
    let names = c.args.self.now.names.items in
    let last : c.if-self.last ≡ length names = elim c.if-self.branch as (λ w. c.if-self.last ≡ length names) [
      | then-self w ↦ w.last-is ∙ (w.len-last.ensures
          ∙ (omega (arith, c.deref-name-items.ensures.len, ap length c.deref-name-items.ensures.value)))
      | else-self w ↦ absurd (let z : true ≡ false = sym c.if-self-2.true ∙ w.if-self.false in cc)
    ] in
    let a = c.loop-index.invariant plain in
    let b = c.in_ok-write_str-2.ensures.writes a.plain refl in
    let d = c.in_ok-write_str-3.ensures.writes b.plain refl in
    put_three _ _ _ _ _ _ _ _ _ a b d (rw (c.separator-then-self-2.ensures, c.deref-name-items.ensures.value)
    (end_listed c.if-self.last c.args.self.now c.loop-index.index c.if-self-2.true last
    (omega (arith, c.deref-name-items.ensures.len, ap length c.deref-name-items.ensures.value))))

pub returns-else-self-2 : goal.returns-else-self-2
returns-else-self-2 g c = λ plain ok.
    let names = c.args.self.now.names.items in
    let last : c.if-self.last ≡ length names - 1 = elim c.if-self.branch as (λ w. c.if-self.last ≡ length names - 1) [
      | then-self w ↦ absurd (let z : true ≡ false = sym w.if-self.true ∙ c.if-self-2.false in cc)
      | else-self w ↦ (omega (arith, c.deref-name-items.ensures.len, ap length c.deref-name-items.ensures.value))
    ] in
    let a = c.loop-index.invariant plain in
    has_written_of_eq _ _ _ _ _ (rw c.deref-name-items.ensures.value
    (names_listed c.if-self.last c.args.self.now c.loop-index.index c.if-self-2.false last
    (omega (arith, c.deref-name-items.ensures.len, ap length c.deref-name-items.ensures.value)))) a
