-- What a connection has waiting is bytes, where it was fed bytes.
use Rattle.std.proofs.Common.{◌≡◌, ℕ, zero, suc, ◌<◌, Bool, true, false, List, [], ◌∷◌, take, Some, None}
use Rattle.std.specs.Prelude.{if◌then◌else◌, slice_index_or, All}
use Rattle.std.proofs.lemmas.List.Elements.{All-nil, All-head, All-tail, All-take, All-drop}
use Rattle.mc_text.specs.declared.limits.Limits.{Limits}
use Rattle.mc_text.specs.Meaning.{Meaning}
use Rattle.mc_text.specs.Spells.{Spells}
use Rattle.mc_text.specs.Front.{front}
use Rattle.mc_text.proofs.Public.{front_reads}
use Rattle.sei_main.specs.Seats.{Seat, empty_seat, waiting}
use Rattle.sei_main.specs.State.{next_request}

-- a connection was fed bytes
abbrev pub IsFedBytes : Seat → Type 0
IsFedBytes seat = All (λ b. b < 256) seat.fed

-- so each of some connections, and one that is not there
pub fed_at : (seats : List Seat) (c : ℕ) → All IsFedBytes seats → IsFedBytes (slice_index_or seats c empty_seat)
fed_at [] c h = All-nil (λ b. b < 256)
fed_at (seat ∷ seats) zero h = All-head IsFedBytes seat seats h
fed_at (seat ∷ seats) (suc c) h = fed_at seats c (All-tail IsFedBytes seat seats h)

pub waiting_bytes : (seat : Seat) → All (λ b. b < 256) seat.fed → All (λ b. b < 256) (waiting seat)
waiting_bytes seat h = All-drop (λ b. b < 256) seat.consumed seat.fed h

-- the text of the first request spells it, and is bytes
pub front_bytes : (limits : Limits) (bytes : List ℕ) (size : ℕ) (m : Meaning) → All (λ b. b < 256) bytes → front limits bytes ≡ Some (size, m)
    → Spells limits (take size bytes) m × All (λ b. b < 256) (take size bytes)
front_bytes limits bytes size m h e = ((front_reads limits bytes size m e).spelled, All-take (λ b. b < 256) size bytes h)

-- so the text of the next request of a connection
pub next_text : (limits : Limits) (seat : Seat) (size : ℕ) (m : Meaning) → All (λ b. b < 256) seat.fed → next_request limits seat ≡ Some (size, m)
    → Spells limits (take size (waiting seat)) m × All (λ b. b < 256) (take size (waiting seat))
next_text limits seat size m h e = by seat.closed e
  where
    by : (closed : Bool) → (if closed then None else front limits (waiting seat)) ≡ Some (size, m) → Spells limits (take size (waiting seat)) m × All (λ b. b < 256) (take size (waiting seat))
    by true q = cc
    by false q = front_bytes limits (waiting seat) size m (waiting_bytes seat h) q
