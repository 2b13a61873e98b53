-- A connection, as a clause sees it.
use Rattle.std.specs.Prelude.{ℕ, ◌+◌, ◌-◌, ◌^◌, min, Bool, true, false, List, [], ◌++◌, drop}

pub record Seat : Type 0 where
  pub fed : List ℕ  -- all bytes that were fed
  pub consumed : ℕ  -- how many of them requests took
  pub requests : ℕ  -- how many of its requests were taken
  pub entered : ℕ  -- how many calls those had
  pub sent : ℕ  -- how many messages were sent to it
  pub closed : Bool  -- by `quit` or a closing request, or since a call was refused or aborted

abbrev pub empty_seat : Seat
empty_seat = record { fed = []; consumed = 0; requests = 0; entered = 0; sent = 0; closed = false }

-- the bytes that were fed and that no request took
abbrev pub waiting : Seat → List ℕ
waiting seat = drop seat.consumed seat.fed

abbrev pub fed_more : Seat → List ℕ → Seat
fed_more seat bytes = record seat { fed = seat.fed ++ bytes }

-- a count at the last value of a u64 stays there
abbrev pub saturated : ℕ → ℕ
saturated n = min n (2 ^ 64 - 1)

-- a request of so many bytes was answered: so many calls, so many messages
abbrev pub taken_more : Seat → ℕ → ℕ → ℕ → Bool → Seat
taken_more seat size calls messages closes =
    record seat {
      consumed = seat.consumed + size;
      requests = saturated (seat.requests + 1);
      entered = seat.entered + calls;
      sent = seat.sent + messages;
      closed = closes;
    }

-- a call was refused or aborted, behind so many messages of its request
abbrev pub stopped : Seat → ℕ → Seat
stopped seat messages = record seat { sent = seat.sent + messages; closed = true }
