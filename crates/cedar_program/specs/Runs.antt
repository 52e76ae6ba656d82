-- What a run of the program reads, writes and answers.
use Rattle.std.specs.Prelude.{◌≡◌, ◌⊎◌, ℕ, List, Bool, IsTrue, IsFalse, true, false, Option, None, IfSome, is_some, if◌then◌else◌, Result, Ok, Err}
use Rattle.std.specs.Str.{IsUtf8}
use Rattle.std.specs.Io.KnownBytes.{Appends, Keeps}
use Rattle.cedar_streams.specs.Texts.{AppendsPart}
use Rattle.cedar_written.specs.Texts.{Accepted}
use Rattle.cedar_policy_formatter.specs.Outputs.{HasOutput}
use Rattle.cedar_documents.specs.declared.config.Config.{Config}
use Rattle.clap.specs.Words.{Text}
use Rattle.clap.specs.declared.error.kind.ErrorKind.{ErrorKind}
use Rattle.clap.specs.declared.error.kind.ErrorKind.TheVariants.{OutOfMemory, DisplayHelp, DisplayVersion}
use Rattle.cedar_program.specs.CommandLine.{HasFault}
use Rattle.cedar_program.specs.Options.{AskFor}
use Rattle.cedar_program.specs.declared.options.Options.{Options}

-- what is known of the text: nothing for a named file
abbrev pub known_text : Options → Option (List ℕ) → Option (List ℕ)
known_text o given = if is_some o.file then None else given

-- x is the whole text, as far as it is known, and it is accepted
abbrev pub IsRead : Option (List ℕ) → List ℕ → Type 0
IsRead known x = IfSome known (λ xs. x ≡ xs) × IsUtf8 x × Accepted x

-- formatting: 0, and all of the output was written and is flushed; or 1, and nothing was written, or a part until a write
-- failed, or all, and it isn't flushed
abbrev pub Formats : Config → Option (List ℕ) → Option (List ℕ) → Option (List ℕ) → Bool → Bool → ℕ → Type 0
Formats c known held holds failed flushed status =
    ((status ≡ 0) × IsTrue flushed × ((x y : List ℕ) × IsRead known x × HasOutput c x y × Appends held holds y))
    ⊎ ((status ≡ 1) × (Keeps held holds ⊎ ((x y : List ℕ) × IsRead known x × HasOutput c x y × ((IsTrue failed × AppendsPart held holds y) ⊎ (IsFalse flushed × Appends held holds y)))))

-- checking: 0, and the text is its own output; 3, and it is accepted and isn't; or 1
abbrev pub Checks : Config → Option (List ℕ) → ℕ → Type 0
Checks c known status = (status ≡ 1) ⊎ ((x : List ℕ) × IsRead known x × (((status ≡ 0) × HasOutput c x x) ⊎ ((status ≡ 3) × ¬ (HasOutput c x x))))

-- a run that only checks writes nothing; any other formats
abbrev pub RunsBy : Bool → Config → Option (List ℕ) → Option (List ℕ) → Option (List ℕ) → Bool → Bool → ℕ → Type 0
RunsBy true c known held holds failed flushed status = Checks c known status × Keeps held holds
RunsBy false c known held holds failed flushed status = Formats c known held holds failed flushed status

abbrev pub RunsTo : Options → Option (List ℕ) → Option (List ℕ) → Option (List ℕ) → Bool → Bool → ℕ → Type 0
RunsTo o known held holds failed flushed status = RunsBy o.only_checks o.config known held holds failed flushed status

-- a fault gives status 1
abbrev pub status_of : {E : Type 0} → Result ℕ E → ℕ
status_of (Ok status) = status
status_of (Err _) = 1

-- requested help: 0, and what was written is flushed; or 1
abbrev pub Helps : Bool → ℕ → Type 0
Helps flushed status = ((status ≡ 0) × IsTrue flushed) ⊎ (status ≡ 1)

-- the status if there is no run: 1 if out of memory, 0 or 1 for help and the version, 2 for a fault; only they are written
abbrev pub AnswersKind : ErrorKind → Option (List ℕ) → Option (List ℕ) → Bool → ℕ → Type 0
AnswersKind OutOfMemory held holds flushed status = (status ≡ 1) × Keeps held holds
AnswersKind DisplayHelp held holds flushed status = Helps flushed status
AnswersKind DisplayVersion held holds flushed status = Helps flushed status
AnswersKind _ held holds flushed status = (status ≡ 2) × Keeps held holds

-- either the words ask for a run, and it goes as it should, or they don't
abbrev pub AnswersWords : List Text → Option (List ℕ) → Option (List ℕ) → Option (List ℕ) → Bool → Bool → ℕ → Type 0
AnswersWords words given held holds failed flushed status =
    ((o : Options) × AskFor words o × RunsTo o (known_text o given) held holds failed flushed status)
    ⊎ ((kind : ErrorKind) × HasFault words kind × AnswersKind kind held holds flushed status)
