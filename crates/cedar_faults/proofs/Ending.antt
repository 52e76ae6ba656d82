-- Where units begin, and where the last token of some units ends.
use Rattle.std.proofs.Common.{◌≡◌, ◌<◌, ◌≤◌, ◌+◌, true, false, ℕ, List, [], ◌∷◌, ◌++◌, Option, Some, None, length, drop, refl, ap, ◌∙◌, arith, append_assoc, length-append}
use Rattle.std.specs.List.{sum_by, concat}
use Rattle.std.specs.Str.{IsUtf8}
use Rattle.std.proofs.lemmas.List.{length-drop}
use Rattle.std.proofs.lemmas.List.Elements.{filter-append}
use Rattle.cedar_tokens.specs.Units as U
use Rattle.cedar_tokens.specs.Units.{is_token, IsToken, IsFirstUnit, BeginsNoUnit}
use Rattle.cedar_tokens.specs.Split.{SplitsInto, Splits, FaultPreventsSplit}
use Rattle.cedar_tokens.specs.UnitSteps.{unit_text}
use Rattle.cedar_tokens.specs.declared.units.Unit.{Unit}
use Rattle.cedar_tokens.proofs.FirstUnit.{unit_nonempty}
use Rattle.cedar_tokens.proofs.UnitsSoFar.{texts, texts_more, EndsAt, ends_at, boundary_at, concat_length, scans_concat, whole, stuck}
use Rattle.cedar_grammar.specs.declared.error.FormatError.TheVariants.{Grammar, NumberTooLarge, TooDeep}
use Rattle.cedar_grammar.specs.Texts.{only_tokens, LeaveAfter}
use Rattle.cedar_faults.specs.FirstFaults.{IsFirstOf, IsNext, Reaches}
use Rattle.cedar_faults.specs.Marks.{EndsLastToken}
use Rattle.cedar_faults.specs.Inside.Ends.{HasUnitAt, EndsLast}

-- one more token
pub last_here : (us : List Unit) (u : Unit) (at : ℕ) → at ≡ sum_by length (texts us)
    → IsToken (unit_text u) → EndsLast (texts (us ++ u ∷ [])) (Some (at + length (unit_text u)))
last_here us u at e t = record {
  before = texts us;
  token = unit_text u;
  after = [];
  parts = texts_more us u;
  kind = t;
  others = refl;
  place = ap (λ n. n + length (unit_text u)) e;
}

no_token_more : (us : List (List ℕ)) (u : List ℕ) → only_tokens us ≡ [] → is_token u ≡ false
    → only_tokens (us ++ u ∷ []) ≡ []
no_token_more us u e f = filter-append is_token us (u ∷ []) ∙ rw (e, f) refl

-- one more blank or comment
pub last_before : (us : List Unit) (u : Unit) (last : Option ℕ) → EndsLast (texts us) last
    → is_token (unit_text u) ≡ false → EndsLast (texts (us ++ u ∷ [])) last
last_before us u None l f = rw (texts_more us u) (no_token_more (texts us) (unit_text u) l f)
last_before us u (Some end) l f = record {
  before = l.before;
  token = l.token;
  after = l.after ++ unit_text u ∷ [];
  parts = texts_more us u ∙ (ap (λ z. z ++ unit_text u ∷ []) l.parts
      ∙ append_assoc l.before (l.token ∷ l.after) (unit_text u ∷ []));
  kind = l.kind;
  others = no_token_more l.after (unit_text u) l.others f;
  place = l.place;
}

-- where no more unit begins, the text that splits is at its end
pub ended : FaultPreventsSplit → (us : List (List ℕ)) (text rest : List ℕ) (at : ℕ)
    → EndsAt us text rest at → BeginsNoUnit rest → Splits text → SplitsInto text us
ended law us text rest at e none s =
    whole us text rest at e (omega (arith, λ (l : at < length text). law text at (stuck us text rest at e l none) s))

-- a last token has bytes
pub last_nonempty : (us : List (List ℕ)) (end : ℕ) → EndsLastToken us end → 0 < end
last_nonempty us end l = omega (arith, l.place, unit_nonempty l.token (U.token l.kind))

-- the units before a place that is reached
pub reached_ends : (text : List ℕ) (at : ℕ) → (r : Reaches text at)
    → EndsAt r.before text (drop at text) at
reached_ends text at r =
    let whole = scans_concat r.before text (drop at text) r.scans in
    let sum : at + length (drop at text) ≡ length text = omega (
      arith,
      r.place,
      concat_length r.before,
      ap length whole,
      length-append (concat r.before) (drop at text),
    ) in
    ends_at r.before text (drop at text) at r.scans sum

-- where a unit begins
begun : (text : List ℕ) (at : ℕ) (u : List ℕ) → Reaches text at → IsFirstUnit (drop at text) u
    → IsUtf8 text → HasUnitAt text at
begun text at u r f utf8 =
    let e = reached_ends text at r in record {
      inside = e.inside;
      boundary = boundary_at r.before text (drop at text) at utf8 e;
      unit = u;
      first = f;
    }

pub number_begins : (text : List ℕ) (at : ℕ) → IsFirstOf text (NumberTooLarge at) → IsUtf8 text
    → HasUnitAt text at
number_begins text at n utf8 = begun text at n.1.0 n.0 n.1.1 utf8

-- the token at which a text leaves the grammar
pub token_begins : (text : List ℕ) (at : ℕ) → IsFirstOf text (Grammar at) → at < length text
    → IsUtf8 text → HasUnitAt text at
token_begins text at g l utf8 = go g.next g.is_next
  where
    go : (next : List (List ℕ)) → IsNext (drop at text) next → HasUnitAt text at
    go [] e = absurd (omega (arith, l, ap length e, length-drop at text))
    go (u ∷ []) f = begun text at u g.reached f.0 utf8
    go (u ∷ v ∷ us) f = absurd f

pub deep_begins : (text : List ℕ) (at : ℕ) → IsFirstOf text (TooDeep at) → IsUtf8 text
    → HasUnitAt text at
deep_begins text at g utf8 = go g.next g.is_next g.leaves
  where
    go : (next : List (List ℕ)) → IsNext (drop at text) next
        → LeaveAfter (only_tokens g.reached.before) next true → HasUnitAt text at
    go [] e l = absurd (let z : true ≡ false = l.1 in cc)
    go (u ∷ []) f l = begun text at u g.reached f.0 utf8
    go (u ∷ v ∷ us) f l = absurd f

-- a text that leaves the grammar at its end splits
pub leaving_splits : (text : List ℕ) (at : ℕ) → IsFirstOf text (Grammar at) → length text ≤ at
    → Splits text
leaving_splits text at g l = (
  g.reached.before,
  whole g.reached.before text (drop at text) at (reached_ends text at g.reached) l,
)

pub leaving_inside : (text : List ℕ) (at : ℕ) → IsFirstOf text (Grammar at) → at ≤ length text
leaving_inside text at g = (reached_ends text at g.reached).inside
