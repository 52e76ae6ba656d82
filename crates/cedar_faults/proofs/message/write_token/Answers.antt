use Rattle.std.proofs.Common.{◌≡◌, ◌++◌, [], chars, refl, ap, ◌∙◌}
use Rattle.std.proofs.Output.{has_written_append}
use Rattle.std.proofs.lemmas.Grind.{put_two}
use Rattle.std.proofs.lemmas.List.{nil_from_length}
use Rattle.std.proofs.lemmas.Str.{IsUtf8-past_char, chars_past_char, chars-nil}
use Rattle.std.specs.Str.Iter.{chars_rest}
use Rattle.cedar_faults.specs.Messages.{shown_character}
use Rattle.cedar_faults.proofs.Tokens.{shown_none, shown_cut, shown_step}
use Rattle.cedar_faults.proofs.message.write_token.Goals as goal

pub loop-character-preserved : goal.loop-character-preserved
loop-character-preserved g c =
    let held = c.loop-character.invariant in
    let it = c.loop-character.character-iterator in
    let ch = c.in-Some.character in
    let parts = c.in-Some.ensures.steps.0 in (
      IsUtf8-past_char _ _ ch held.0 parts,
      λ plain. let now = held.1 plain in (
        now.0 ++ shown_character ch,
        has_written_append _ _ _ _ _ _ now.1 (c.in_ok-write_character.ensures now.1.plain refl),
        shown_step c.loop-character.left ch _ now.0 _ _ c.if-left-eq0.false
            (rw (chars_past_char _ _ ch held.0 parts) at now.2),
      ),
    )

pub returns-then-left-eq0 : goal.returns-then-left-eq0
returns-then-left-eq0 g c = λ plain ok.
    let held = c.loop-character.invariant in
    let ch = c.in-Some.character in
    let now = held.1 plain in
    let b = c.write_str-then-left-eq0.ensures.writes now.1.plain ok in
    put_two _ _ _ _ _ _ _ now.1 b (shown_cut c.loop-character.left ch _ now.0 _ c.if-left-eq0.true
    (rw (chars_past_char _ _ ch held.0 c.in-Some.ensures.steps.0) at now.2))

pub returns : goal.returns
returns g c = λ plain ok.
    let held = c.loop-character.invariant in
    let now = held.1 plain in
    let b = c.write_str-2.ensures.writes now.1.plain ok in
    let none : chars (chars_rest c.loop-character.character-iterator) ≡ [] =
    ap chars (nil_from_length _ c.in-None.ensures.steps.0.0) ∙ chars-nil in
    put_two _ _ _ _ _ _ _ now.1 b (shown_none c.loop-character.left now.0 _ _ (rw none at now.2))
