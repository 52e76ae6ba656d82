-- The tokens that are left.
use Rattle.std.proofs.Common.{◌≡◌, ℕ, suc, Bool, false, List, [], ◌∷◌, length, refl, sym, ap, ◌∙◌}
use Rattle.std.specs.Prelude.{◌&&◌, Option, Some, None, is_some}
use Rattle.cedar_tokens.specs.Listing.{Decorated}
use Rattle.cedar_tokens.specs.declared.kind.Kind.{Kind}
use Rattle.cedar_grammar.specs.Laws.{kind_of_decorated}
use Rattle.cedar_writer.specs.Languages.{looks}
use Rattle.cedar_print.specs.WrittenMarks as M
use Rattle.cedar_writer.specs.Writing.{State, begins, second, looking, going, lost}
use Rattle.cedar_writer.specs.declared.writer.Stop.{Stop}
use Rattle.cedar_writer.specs.declared.writer.Stop.TheVariants.{Refused, OutOfRoom}
use Rattle.cedar_writer.specs.Outcomes.{IsRefusedBefore, HasEnded, outcome_of}
use Rattle.cedar_writer.specs.States.{state_of, tokens_left}

-- their kinds don't tell whether the leading lines are written
pub looks_left : (q : List (Kind → Bool)) (led : Bool) (ts : List Decorated) → looks q (tokens_left led ts) ≡ looks q ts
looks_left [] led ts = refl
looks_left (p ∷ q) led [] = refl
looks_left (p ∷ q) led (t ∷ ts) = ap (λ b. p (kind_of_decorated t) && b) (looks_left q false ts)

pub none_led : (ts : List Decorated) → tokens_left false ts ≡ ts
none_led [] = refl
none_led (t ∷ ts) = ap (λ us. t ∷ us) (none_led ts)

pub left_length : (led : Bool) (ts : List Decorated) → length (tokens_left led ts) ≡ length ts
left_length led [] = refl
left_length led (t ∷ ts) = ap suc (left_length false ts)

-- what has become of the tokens, by the state and why it stopped
pub written_state : (led : Bool) (stop : Option Stop) (ts : List Decorated) (ms : List M.Mark) (n r : ℕ) {s : State}
    → state_of led stop ts ms r ≡ s → stop ≡ None → n ≡ length ts
    → (us : List Decorated) × (r : ℕ) × (s ≡ going us ms r) × (length us ≡ n)
written_state led None ts ms n r v e h = (tokens_left led ts, r, sym v, left_length led ts ∙ sym h)
written_state led (Some x) ts ms n r v e h = absurd cc

refused_state : (led : Bool) (stop : Option Stop) (ts : List Decorated) (ms : List M.Mark) (n r : ℕ) (deep : Bool) {s : State}
    → state_of led stop ts ms r ≡ s → stop ≡ Some (Refused deep) → n ≡ length ts → IsRefusedBefore s deep n
refused_state led stop ts ms n r deep v e h =
    (tokens_left led ts, sym v ∙ ap (λ z. state_of led z ts ms r) e, left_length led ts ∙ sym h)

lost_state : (led : Bool) (stop : Option Stop) (ts : List Decorated) (ms : List M.Mark) (r : ℕ) {s : State}
    → state_of led stop ts ms r ≡ s → stop ≡ Some OutOfRoom → s ≡ lost
lost_state led stop ts ms r v e = sym v ∙ ap (λ z. state_of led z ts ms r) e

pub ended_state : (led : Bool) (stop : Option Stop) (ts : List Decorated) (ms : List M.Mark) (n r : ℕ) (x : Stop) {s : State}
    → state_of led stop ts ms r ≡ s → stop ≡ Some x → n ≡ length ts → HasEnded s ms (outcome_of x n)
ended_state led stop ts ms n r (Refused deep) v e h = refused_state led stop ts ms n r deep v e h
ended_state led stop ts ms n r OutOfRoom v e h = lost_state led stop ts ms r v e

pub first_left : (p : Kind → Bool) (led : Bool) (stop : Option Stop) (ms : List M.Mark) (r : ℕ) {x : Bool} {l rest : List Decorated}
    {t : Decorated} {s : State} → is_some stop ≡ false → l ≡ t ∷ rest → state_of led stop l ms r ≡ s
    → x ≡ p (kind_of_decorated t) → x ≡ begins p s
first_left p led None ms r e f v h = rw (← v, f) h
first_left p led (Some y) ms r e f v h = absurd cc

pub second_left : (p : Kind → Bool) (led : Bool) (stop : Option Stop) (ms : List M.Mark) (r : ℕ) {x : Bool} {l rest after : List Decorated}
    {t u : Decorated} {s : State} → is_some stop ≡ false → l ≡ t ∷ rest → rest ≡ u ∷ after → state_of led stop l ms r ≡ s
    → x ≡ p (kind_of_decorated u) → x ≡ second p s
second_left p led None ms r e f g v h = rw (← v, f, g) h
second_left p led (Some y) ms r e f g v h = absurd cc

pub looking_left : (q : List (Kind → Bool)) (led : Bool) (stop : Option Stop) (l : List Decorated) (ms : List M.Mark) (r : ℕ) {x : Bool}
    {s : State} → is_some stop ≡ false → state_of led stop l ms r ≡ s → x ≡ looks q l → x ≡ looking q s
looking_left q led None l ms r e v h = h ∙ sym (looks_left q led l) ∙ ap (looking q) v
looking_left q led (Some y) l ms r e v h = absurd cc
