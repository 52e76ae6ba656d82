-- What becomes of a policy's tokens.
use Rattle.std.specs.Prelude.{◌≡◌, ℕ, ℤ, Bool, true, false, List, [], ◌++◌, length, Result, Ok, Err, ⊤}
use Rattle.cedar_tokens.specs.Listing.{Decorated}
use Rattle.cedar_layout.specs.Layout.{Doc}
use Rattle.cedar_print.specs.WrittenMarks.{Mark, AreMarks}
use Rattle.cedar_written.specs.Written as written
use Rattle.cedar_writer.specs.Writing.{State, going, refused, lost, policy_to}
use Rattle.cedar_writer.specs.NodeRules.{node_to}
use Rattle.cedar_writer.specs.declared.node.Line.{Line}
use Rattle.cedar_writer.specs.declared.node.Line.TheVariants as V
use Rattle.cedar_writer.specs.declared.writer.Outcome.{Outcome}
use Rattle.cedar_writer.specs.declared.writer.Outcome.TheVariants as Ended
use Rattle.cedar_writer.specs.declared.writer.Stop.{Stop}
use Rattle.cedar_writer.specs.declared.writer.Stop.TheVariants.{Refused, OutOfRoom}
use Rattle.cedar_writer.specs.declared.policy.Refusal.{Refusal}
use Rattle.cedar_writer.specs.declared.policy.Refusal.TheVariants.{Grammar, TooDeep, OutOfMemory}

-- it is the state of a policy that was read and written with these marks, where so many tokens are left
abbrev pub IsWritten : State → List Mark → ℕ → Type 0
IsWritten s ms n = (us : List Decorated) × (r : ℕ) × (s ≡ going us ms r) × (length us ≡ n)

-- it is the state of one that was refused with so many tokens left, for the depth alone or not
abbrev pub IsRefusedBefore : State → Bool → ℕ → Type 0
IsRefusedBefore s deep n = (us : List Decorated) × (s ≡ refused deep us) × (length us ≡ n)

-- what has become of the tokens after a stop before so many of them
abbrev pub outcome_of : Stop → ℕ → Outcome
outcome_of (Refused deep) n = Ended.Refused deep n
outcome_of OutOfRoom n = Ended.OutOfRoom

-- it is the state that ended so, with these marks
abbrev pub HasEnded : State → List Mark → Outcome → Type 0
HasEnded s ms (Ended.Written n) = IsWritten s ms n
HasEnded s ms (Ended.Refused deep n) = IsRefusedBefore s deep n
HasEnded s ms Ended.OutOfRoom = s ≡ lost

-- it isn't want of room
abbrev pub HasRoom : Outcome → Type 0
HasRoom Ended.OutOfRoom = ⊥
HasRoom o = ⊤

-- so much room is too little for the marks of these tokens, up to a refusal if there is one
abbrev pub IsTooLong : ℤ → ℕ → Line → Bool → List Decorated → ℕ → Type 0
IsTooLong i n line bare ts room = node_to i n line bare (going ts [] room) ≡ lost

-- with some room, the tokens of a node end so, with these marks
abbrev pub EndsSo : ℤ → ℕ → Line → Bool → List Decorated → List Mark → Outcome → Type 0
EndsSo i n line bare ts ms o = (room : ℕ) × HasEnded (node_to i n line bare (going ts [] room)) ms o

-- with some room, what is read of the tokens is written so
abbrev pub IsRead : ℤ → ℕ → List Decorated → List Mark → ℕ → Type 0
IsRead i n ts ms left = (room : ℕ) × IsWritten (policy_to i n (going ts [] room)) ms left

-- a refusal before so many tokens, for the depth alone or not
abbrev pub refusal_of : Bool → ℕ → Refusal
refusal_of true n = TooDeep n
refusal_of false n = Grammar n

-- with some room, they are refused so; or memory is refused, and there was none for all of the marks
abbrev pub IsRefused : ℤ → ℕ → List Decorated → ℕ → Refusal → Type 0
IsRefused i n ts had (Grammar left) = (room : ℕ) × IsRefusedBefore (policy_to i n (going ts [] room)) false left
IsRefused i n ts had (TooDeep left) = (room : ℕ) × IsRefusedBefore (policy_to i n (going ts [] room)) true left
IsRefused i n ts had OutOfMemory = IsTooLong i n V.Policy false ts had

-- all of the tokens were read, unless out of memory
abbrev pub ReadsAll : Result ℕ Refusal → Type 0
ReadsAll (Ok left) = left ≡ 0
ReadsAll (Err e) = e ≡ OutOfMemory

-- the tokens begin with a policy of the written grammar, its document has these marks, and so many tokens are left after it
abbrev pub IsOfTheGrammar : ℤ → ℕ → List Decorated → List Mark → ℕ → Type 0
IsOfTheGrammar i n ts ms left = (xs us : List Decorated) × (d : Doc) × (ts ≡ xs ++ us) × (length us ≡ left)
    × AreMarks ms d × written.Policy i n xs d
