-- A step of a connection takes bytes, or does nothing: on the plain server, and with planned faults.
use Rattle.std.proofs.Common.{◌≡◌, ℕ, ◌<◌, ◌≤◌, inl, inr, Bool, true, false, List, length, refl, arith, Option, Some, None}
use Rattle.std.specs.Prelude.{if◌then◌else◌}
use Rattle.std.proofs.lemmas.List.{length-set}
use Rattle.mc_model.specs.Call.{Placed}
use Rattle.mc_model.specs.Server.{Server}
use Rattle.mc_text.specs.Meaning.{Meaning, calls_of, ends_connection}
use Rattle.sei_traverse.specs.declared.turned.State.{State as EndState}
use Rattle.sei_traverse.specs.declared.turned.State.TheVariants.{Went, Finished, Refused, Aborted}
use Rattle.sei_main.specs.Own.{messages_of}
use Rattle.sei_main.specs.Events.{Event, entries_of}
use Rattle.sei_main.specs.Seats.{Seat, waiting, taken_more}
use Rattle.sei_main.specs.State.{StateOf, State, answers, step, step_front, idle, next_request, limits_of, seat_at}
use Rattle.sei_main.specs.Answering.{Answering}
use Rattle.sei_main.specs.Serving.{RequestResult, asking_at, answers_by, seat_for, step_front_by, step_by}
use Rattle.sei_main.proofs.Rounds.{Goes, IsStepping, IsWithin, next_within, weight, fewer_wait, open_weight, shorter}

front_size : (s : State) (c : ℕ) (seat : Seat) (o : Option (ℕ × Meaning)) → length (step_front s c seat o).state.seats ≡ length s.seats
front_size s c seat None = refl
front_size s c seat (Some request) = length-set s.seats c _

front_goes : (s : State) (c : ℕ) (o : Option (ℕ × Meaning)) → next_request (limits_of s.geometry) (seat_at s c) ≡ o → Goes s (step_front s c (seat_at s c) o)
front_goes s c None e = inr refl
front_goes s c (Some request) e =
    let w : IsWithin (seat_at s c) request.0 = next_within (limits_of s.geometry) (seat_at s c) request.0 request.1 e in
    let calls : List Placed = calls_of s.geometry.buckets request.1 in
    let a : Server × List Event = answers s.clock c (seat_at s c).entered s.server calls in
    inl (
      refl,
      fewer_wait s.seats c (taken_more (seat_at s c) request.0 (length calls) (length (messages_of (entries_of a.1))) (ends_connection request.1))
          (shorter (seat_at s c) request.0 (length calls) (length (messages_of (entries_of a.1))) (ends_connection request.1) w.opened w.some w.within),
    )

-- on the plain server
pub plain_steps : IsStepping step
plain_steps = record {
  size = λ s c. front_size s c (seat_at s c) (next_request (limits_of s.geometry) (seat_at s c));
  goes = λ s c. front_goes s c (next_request (limits_of s.geometry) (seat_at s c)) refl;
}

-- a connection that stops has nothing more to do
lighter : (state : EndState) (seat : Seat) (size calls messages : ℕ) (closes : Bool) → seat.closed ≡ false → 0 < size → size ≤ length (waiting seat) → weight (seat_for state seat size calls messages closes) < weight seat
lighter Finished seat size calls messages closes e h l = shorter seat size calls messages closes e h l
lighter Went seat size calls messages closes e h l = open_weight seat.closed true (length (waiting seat)) 0 e (omega (arith, h, l))
lighter Refused seat size calls messages closes e h l = open_weight seat.closed true (length (waiting seat)) 0 e (omega (arith, h, l))
lighter (Aborted abort) seat size calls messages closes e h l = open_weight seat.closed true (length (waiting seat)) 0 e (omega (arith, h, l))

module _ {S : Type 0} (answering : Answering S) where
  served_size : (s : StateOf S) (c : ℕ) (seat : Seat) (o : Option (ℕ × Meaning)) → length (step_front_by answering s c seat o).state.seats ≡ length s.seats
  served_size s c seat None = refl
  served_size s c seat (Some request) = length-set s.seats c _

  served_goes : (s : StateOf S) (c : ℕ) (o : Option (ℕ × Meaning)) → next_request (limits_of s.geometry) (seat_at s c) ≡ o → Goes s (step_front_by answering s c (seat_at s c) o)
  served_goes s c None e = inr refl
  served_goes s c (Some request) e =
      let seat : Seat = seat_at s c in
      let w : IsWithin seat request.0 = next_within (limits_of s.geometry) seat request.0 request.1 e in
      let calls : List Placed = calls_of s.geometry.buckets request.1 in
      let a : RequestResult S = answers_by answering (asking_at s.clock s.plans c seat request.0) 0 0 s.server calls in
      inl (
        refl,
        fewer_wait s.seats c (seat_for a.state seat request.0 (length calls) a.messages (ends_connection request.1))
            (lighter a.state seat request.0 (length calls) a.messages (ends_connection request.1) w.opened w.some w.within),
      )

  size_if : (s : StateOf S) (c : ℕ) (aborted : Bool) →
      length (if aborted then idle s else step_front_by answering s c (seat_at s c) (next_request (limits_of s.geometry) (seat_at s c))).state.seats ≡ length s.seats
  size_if s c true = refl
  size_if s c false = served_size s c (seat_at s c) (next_request (limits_of s.geometry) (seat_at s c))

  goes_if : (s : StateOf S) (c : ℕ) (aborted : Bool) →
      Goes s (if aborted then idle s else step_front_by answering s c (seat_at s c) (next_request (limits_of s.geometry) (seat_at s c)))
  goes_if s c true = inr refl
  goes_if s c false = served_goes s c (next_request (limits_of s.geometry) (seat_at s c)) refl

  -- with planned faults
  pub serving_steps : IsStepping (step_by answering)
  serving_steps = record { size = λ s c. size_if s c s.aborted; goes = λ s c. goes_if s c s.aborted }
