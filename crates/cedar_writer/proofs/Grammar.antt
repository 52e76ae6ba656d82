-- What is written is of the grammar.
use Rattle.std.proofs.Common.{◌≡◌, ℕ, ℤ, Bool, true, false, List, [], ◌∷◌, length, map, refl, sym, ap, ◌∙◌, subst, append-nil, Result, Ok, Err}
use Rattle.std.specs.Prelude.{MatchResult}
use Rattle.cedar_tokens.specs.Listing.{Decorated}
use Rattle.cedar_grammar.specs.Laws.{AreTokens}
use Rattle.cedar_print.specs.WrittenMarks.{Mark, AreMarks}
use Rattle.cedar_layout.specs.Layout.{Doc}
use Rattle.cedar_written.specs.Written as written
use Rattle.cedar_writer.specs.Writing.{State, refused, going, lost, policy_to}
use Rattle.cedar_writer.proofs.AnyRoom.{written_policies_are_not_refused, reading_ends_after_policies}
use Rattle.cedar_writer.proofs.ReadPolicies.{read_policies_are_written}
use Rattle.cedar_writer.specs.declared.writer.Outcome.{Outcome}
use Rattle.cedar_writer.specs.declared.writer.Outcome.TheVariants as Ended
use Rattle.cedar_writer.specs.declared.policy.Refusal.{Refusal}
use Rattle.cedar_writer.specs.declared.policy.Refusal.TheVariants.{Grammar, TooDeep, OutOfMemory}
use Rattle.cedar_writer.specs.NodeRules.{node_to}
use Rattle.cedar_writer.specs.declared.node.Line.{Line}
use Rattle.cedar_writer.specs.declared.node.Line.TheVariants as V
use Rattle.cedar_writer.specs.Outcomes.{EndsSo, HasEnded, IsTooLong, IsRead, IsRefused, IsRefusedBefore, ReadsAll, IsOfTheGrammar, refusal_of}
use Rattle.cedar_writer.specs.States.{tokens_left}
use Rattle.cedar_writer.proofs.Views.{none_led}

pub of_the_grammar : (i : ℤ) (n : ℕ) (ts : List Decorated) (ms : List Mark) (left : ℕ)
    → AreTokens (λ t. t.text) ts → IsRead i n ts ms left → IsOfTheGrammar i n ts ms left
of_the_grammar i n ts ms left k (room, x) =
    let y = read_policies_are_written i n ts x.0 [] ms room x.1 k x.2 in
    (y.0, x.0, y.2, y.3, x.3, subst (λ z. AreMarks z y.2) (sym y.4) y.5, y.6)

none_left : (us : List Decorated) → map (λ (t : Decorated). t.text) us ≡ [] → length us ≡ 0
none_left [] e = refl
none_left (u ∷ us) e = absurd cc

module _ (i : ℤ) (n : ℕ) (ts : List Decorated) (d : Doc) (p : written.Policy i n ts d) where
  not_refused : (room : ℕ) (deep : Bool) (left : ℕ)
      → IsRefusedBefore (policy_to i n (going ts [] room)) deep left → ⊥
  not_refused room deep left x = written_policies_are_not_refused i n ts [] x.0 d [] room deep p
      (subst (λ z. policy_to i n (going z [] room) ≡ refused deep x.0) (sym (append-nil ts)) x.1)

  -- a policy of the written grammar is read to its end
  pub reads_all : (had : ℕ) (ms : List Mark) (r : Result ℕ Refusal)
      → MatchResult r (IsRead i n ts ms) (IsRefused i n ts had) → ReadsAll r
  reads_all had ms (Ok left) (room, x) = sym x.3 ∙ none_left x.0
      (reading_ends_after_policies i n ts [] x.0 d [] ms room x.1 p
      (subst (λ z. policy_to i n (going z [] room) ≡ going x.0 ms x.1) (sym (append-nil ts)) x.2))
  reads_all had ms (Err (Grammar left)) (room, x) = absurd (not_refused room false left x)
  reads_all had ms (Err (TooDeep left)) (room, x) = absurd (not_refused room true left x)
  reads_all had ms (Err OutOfMemory) x = refl

-- ---- one try with some room

pub read_as : (i : ℤ) (n : ℕ) (ts : List Decorated) (ms : List Mark) (o : Outcome) (left : ℕ)
    → EndsSo i n V.Policy false ts ms o → o ≡ Ended.Written left → IsRead i n ts ms left
read_as i n ts ms o left (room, h) w = (room, subst (HasEnded (policy_to i n (going ts [] room)) ms) w h)

pub refused_as : (i : ℤ) (n : ℕ) (ts : List Decorated) (had : ℕ) (ms : List Mark) (o : Outcome) (deep : Bool) (left : ℕ)
    → EndsSo i n V.Policy false ts ms o → o ≡ Ended.Refused deep left → IsRefused i n ts had (refusal_of deep left)
refused_as i n ts had ms o deep left (room, h) w = go deep (subst (HasEnded (policy_to i n (going ts [] room)) ms) w h)
  where
    go : (deep : Bool) → IsRefusedBefore (policy_to i n (going ts [] room)) deep left
        → IsRefused i n ts had (refusal_of deep left)
    go true x = (room, x)
    go false x = (room, x)

-- one try of a node's line
pub has_ended : (i : ℤ) (n : ℕ) (line : Line) (bare : Bool) (ts : List Decorated) (room : ℕ) (ms : List Mark) (o : Outcome)
    {v s : State} → v ≡ going (tokens_left false ts) [] room → s ≡ node_to i n line bare v → HasEnded s ms o
    → HasEnded (node_to i n line bare (going ts [] room)) ms o
has_ended i n line bare ts room ms o e p h = subst (λ z. HasEnded z ms o)
    (p ∙ ap (node_to i n line bare) (e ∙ ap (λ z. going z [] room) (none_led ts))) h

-- what is known between two tries: how the last one ended, and that of the first one, if that is for want of room
pub record IsTried (i : ℤ) (n : ℕ) (line : Line) (bare : Bool) (ts : List Decorated) (had : ℕ) (ms : List Mark) (o : Outcome)
    : Type 0 where
  pub ends : EndsSo i n line bare ts ms o
  pub first : o ≡ Ended.OutOfRoom → IsTooLong i n line bare ts had

module _ (i : ℤ) (n : ℕ) (line : Line) (bare : Bool) (ts : List Decorated) (had : ℕ) where
  abbrev Tries : List Mark → Outcome → ℕ → Type 0
  Tries ms o room = HasEnded (node_to i n line bare (going ts [] room)) ms o

  pub first_try : (room : ℕ) (ms : List Mark) (o : Outcome) → room ≡ had → Tries ms o room
      → IsTried i n line bare ts had ms o
  first_try room ms o e h = record {
    ends = (room, h);
    first = λ w. subst (λ z. node_to i n line bare (going ts [] z) ≡ lost) e (subst (λ z. Tries ms z room) w h);
  }

  pub next_try : (room : ℕ) (ms us : List Mark) (o p : Outcome) → IsTried i n line bare ts had ms o
      → o ≡ Ended.OutOfRoom → Tries us p room → IsTried i n line bare ts had us p
  next_try room ms us o p t e h = record { ends = (room, h); first = λ w. t.first e }
