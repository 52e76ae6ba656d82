-- Fingerprints of policy texts.
use Rattle.std.specs.Prelude.{◌≡◌, ℕ, List}
use Rattle.std.specs.Str.{IsUtf8}
use Rattle.sha2.specs.Sha256.{sha256}
use Rattle.cedar_written.specs.Lists.{HaveEqualLists}
use Rattle.cedar_examples.specs.Keys.{IsKeyOf}

-- the text's fingerprint: the SHA-256 digest of its key
abbrev pub IsFingerprintOf : List ℕ → List ℕ → Type 0
IsFingerprintOf text digest = (key : List ℕ) × IsKeyOf text key × (digest ≡ sha256 key)

-- texts with equal lists have equal fingerprints
abbrev pub FingerprintsGoByLists : Type 0
FingerprintsGoByLists = (a b c d : List ℕ) → IsUtf8 a → IsUtf8 b → HaveEqualLists a b → IsFingerprintOf a c → IsFingerprintOf b d → c ≡ d
