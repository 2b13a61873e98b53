-- A request is taken: the answers to its calls are written, and then that the connection closes.
use Rattle.std.proofs.Common.{◌≡◌, ℕ, ◌<◌, ◌≤◌, ◌*◌, Bool, List, ◌++◌, length, take, ap, sym, ◌∙◌, subst, arith, Option}
use Rattle.std.specs.Io.KnownBytes.{append_known}
use Rattle.std.proofs.lemmas.List.{length-take}
use Rattle.sei_outside.specs.Bytes.{WrotePart}
use Rattle.sei_outside.proofs.Public.{wrote_both, wrote_first, wrote_last}
use Rattle.mc_text.specs.declared.request.Request.{Request}
use Rattle.mc_text.specs.declared.limits.Limits.{Limits}
use Rattle.mc_text.specs.Reading.{calls_at, meaning_at}
use Rattle.sei_fault.specs.declared.plan.Planned.{Planned}
use Rattle.sei_traverse.specs.declared.turned.State.TheVariants.{Finished}
use Rattle.sei_main.specs.declared.plans.CallNumber.{CallNumber}
use Rattle.sei_main.specs.declared.world.state.Answered.{Answered}
use Rattle.sei_main.specs.declared.world.state.Asking.{Asking as AskingOf}
use Rattle.sei_main.specs.Answering.{Answering}
use Rattle.sei_main.specs.Seats.{Seat, waiting}
use Rattle.sei_main.specs.Serving.{RequestResult, answers_by, closing_events}
use Rattle.sei_main.specs.Becomes.{IsNextOf, IsResultOf, asking_of, answers_to, closes_behind, events_to}
use Rattle.sei_script.specs.ReportLines.{closing_line_text}
use Rattle.sei_main.specs.Report.{events_text}
use Rattle.sei_main.proofs.Written.{events_append}
use Rattle.sei_main.proofs.CallTexts.{finished_text}
use Rattle.sei_main.proofs.Calls.{few_calls}
use Rattle.sei_main.proofs.Rounds.{IsWithin, next_within}

module _ {S : Type 0} (answering : Answering S) (now : ℕ) (plans : List (CallNumber × Planned)) (h : Bool) (c : ℕ) (server : S) (seat : Seat) (size : ℕ) (request : Request)
    (bytes : List ℕ) (first requests sent : ℕ) (b : bytes ≡ waiting seat) (f : first ≡ seat.entered) (r : requests ≡ seat.requests) (s : sent ≡ seat.sent) where
  abbrev asking : ℕ → ℕ → ℕ → AskingOf
  asking x y z = record { now = now; connection = c; first = x; numbers = record { request = y; reply = z } }

  abbrev read : RequestResult S
  read = answers_by answering (asking_of (asking first requests sent) (take size bytes) plans) 0 0 server (calls_at (take size bytes) request)

  abbrev told : RequestResult S
  told = answers_to answering now plans c server seat size request

  -- the answers to a request in bytes that were read, with numbers that were read, are those to the request
  pub answers_read : read ≡ told
  answers_read =
      ap (λ (bs : List ℕ). answers_by answering (asking_of (asking first requests sent) (take size bs) plans) 0 0 server (calls_at (take size bs) request)) b
      ∙ ap (λ (x : ℕ). answers_by answering (asking_of (asking x requests sent) (take size (waiting seat)) plans) 0 0 server (calls_at (take size (waiting seat)) request)) f
      ∙ ap (λ (x : ℕ). answers_by answering (asking_of (asking seat.entered x sent) (take size (waiting seat)) plans) 0 0 server (calls_at (take size (waiting seat)) request)) r
      ∙ ap (λ (x : ℕ). answers_by answering (asking_of (asking seat.entered seat.requests x) (take size (waiting seat)) plans) 0 0 server (calls_at (take size (waiting seat)) request)) s

  pub answers_part : (old new : Option (List ℕ)) → WrotePart old new (events_text h read.events) → WrotePart old new (events_text h (events_to answering now plans c server seat size request))
  answers_part old new w =
      subst (λ (t : List ℕ). WrotePart old new t) (sym (events_append h told.events (closing_events told.state c (closes_behind seat size request))))
      (wrote_first old new (events_text h told.events) (events_text h (closing_events told.state c (closes_behind seat size request)))
      (subst (λ (x : RequestResult S). WrotePart old new (events_text h x.events)) answers_read w))

  module _ (answered : Answered) (is : IsResultOf answered read) where
    pub state_told : answered.state ≡ told.state
    state_told = is.state ∙ ap (λ (x : RequestResult S). x.state) answers_read

    module _ (finished : answered.state ≡ Finished) (closes : Bool) (k : closes ≡ closes_behind seat size request) (old mid new : Option (List ℕ)) (p : mid ≡ append_known old (events_text h read.events)) where
      text_told : events_text h (events_to answering now plans c server seat size request) ≡ events_text h told.events ++ closing_line_text c (closes_behind seat size request)
      text_told = finished_text h told.events told.state c (closes_behind seat size request) (sym state_told ∙ finished)

      mid_told : mid ≡ append_known old (events_text h told.events)
      mid_told = p ∙ ap (λ (x : RequestResult S). append_known old (events_text h x.events)) answers_read

      pub closing_part : WrotePart mid new (closing_line_text c closes) → WrotePart old new (events_text h (events_to answering now plans c server seat size request))
      closing_part w =
          subst (λ (t : List ℕ). WrotePart old new t) (sym text_told)
          (wrote_last old mid new (events_text h told.events) (closing_line_text c (closes_behind seat size request)) mid_told
          (subst (λ (x : Bool). WrotePart mid new (closing_line_text c x)) k w))

      pub closing_all : new ≡ append_known mid (closing_line_text c closes) → new ≡ append_known old (events_text h (events_to answering now plans c server seat size request))
      closing_all q =
          wrote_both old mid new (events_text h told.events) (closing_line_text c (closes_behind seat size request)) mid_told
          (q ∙ ap (λ (x : Bool). append_known mid (closing_line_text c x)) k)
          ∙ ap (append_known old) (sym text_told)

pub text_length : (l : Limits) (seat : Seat) (size : ℕ) (request : Request) → IsNextOf l seat size request → length (take size (waiting seat)) ≡ size
text_length l seat size request n = omega (arith, length-take size (waiting seat), n.within)

pub some_text : (l : Limits) (seat : Seat) (size : ℕ) (request : Request) → IsNextOf l seat size request → 0 < length (take size (waiting seat))
some_text l seat size request n =
    let w : IsWithin seat size = next_within l seat size (meaning_at (take size (waiting seat)) request) n.next in
    omega (arith, w.some, text_length l seat size request n)

-- a request has at most 64 calls for each byte
pub few_taken : (l : Limits) (seat : Seat) (size : ℕ) (request : Request) → IsNextOf l seat size request → l.buckets ≤ 64 → length (calls_at (take size (waiting seat)) request) ≤ 64 * size
few_taken l seat size request n few =
    omega (arith, text_length l seat size request n, few_calls (take size (waiting seat)) request (some_text l seat size request n) (omega (arith, n.reading.buckets, few)))

-- and at most 64 messages for each byte that waits
pub few_messages : (l : Limits) (seat : Seat) (size : ℕ) (request : Request) (bytes : List ℕ) (messages : ℕ) → IsNextOf l seat size request → l.buckets ≤ 64 → bytes ≡ waiting seat → messages ≤ length (calls_at (take size bytes) request) →
    messages ≤ 64 * length (waiting seat)
few_messages l seat size request bytes messages n small b few =
    omega (arith, subst (λ (bs : List ℕ). messages ≤ length (calls_at (take size bs) request)) b few, few_taken l seat size request n small, n.within)
