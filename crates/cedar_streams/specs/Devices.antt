-- Watched devices.
use Rattle.std.specs.Prelude.{ℕ, List, Bool, ◌≡◌, ◌<◌, length, Result, MatchResult, ⊤}
use Rattle.cedar_streams.specs.declared.watched.Watched.{Watched}

-- the watched device, and whether a read or a write through it failed
abbrev pub device_of : {D : Type 0} → Watched D → D
device_of w = w.device

abbrev pub has_failed : {D : Type 0} → Watched D → Bool
has_failed w = w.has_failed

-- nothing was taken since the last flush, and that flush succeeded; or nothing was taken and no flush was tried
abbrev pub is_flushed : {D : Type 0} → Watched D → Bool
is_flushed w = w.is_flushed

-- the write is refused, or takes nothing though there are bytes
abbrev pub IsFailedWrite : {E : Type 0} → Result ℕ E → List ℕ → Type 0
IsFailedWrite r buf = MatchResult r (λ n. (n ≡ 0) × (0 < length buf)) (λ _. ⊤)

-- the write takes a byte or more
abbrev pub TakesSome : {E : Type 0} → Result ℕ E → Type 0
TakesSome r = MatchResult r (λ n. 0 < n) (λ _. ⊥)
