-- Rounds take bytes, and fuel that is enough does not matter.
use Rattle.std.proofs.Common.{◌≡◌, ℕ, zero, suc, ◌+◌, ◌<◌, ◌≤◌, ◌⊎◌, inl, inr, Bool, true, false, List, [], ◌∷◌, ◌++◌, length, refl, ap, sym, ◌∙◌, subst, arith, Some, None}
use Rattle.std.specs.Prelude.{slice_index_or, slice_set, if◌then◌else◌, ◌||◌}
use Rattle.std.proofs.lemmas.List.{length-drop, length-set, length_push}
use Rattle.mc_text.specs.declared.limits.Limits.{Limits}
use Rattle.mc_text.specs.Meaning.{Meaning}
use Rattle.mc_text.specs.Front.{front}
use Rattle.mc_text.proofs.Public.{front_length}
use Rattle.sei_script.specs.declared.line.ScriptLine.{ScriptLine}
use Rattle.sei_script.specs.Effects.{Effect, Opens, Feeds, Serves, effect_of}
use Rattle.sei_script.specs.declared.line.Context.{Context}
use Rattle.sei_script.specs.Context.{context_by, context_after}
use Rattle.sei_main.specs.Seats.{Seat, empty_seat, waiting, taken_more}
use Rattle.sei_main.specs.State.{Stepping, StateOf, WentOf, behind, idle, done_by, led_by, next_request, round_from_by, round_by, rounds_by, drained_by, bytes_waiting}
use Rattle.sei_main.specs.Becomes.{Becomes}
use Rattle.sei_main.proofs.Steps.{behind_idle}

-- what an open connection has waiting
abbrev pub weight : Seat → ℕ
weight seat = if seat.closed then 0 else length (waiting seat)

pub fewer_wait : (seats : List Seat) (c : ℕ) (seat : Seat) → weight seat < weight (slice_index_or seats c empty_seat) → bytes_waiting (slice_set seats c seat) < bytes_waiting seats
fewer_wait [] c seat h = absurd (omega (arith, h))
fewer_wait (x ∷ seats) zero seat h = omega (arith, h)
fewer_wait (x ∷ seats) (suc c) seat h = omega (arith, fewer_wait seats c seat h)

pub open_weight : (closed closes : Bool) (m n : ℕ) → closed ≡ false → n < m → (if closes then 0 else n) < (if closed then 0 else m)
open_weight true closes m n e h = cc
open_weight false true m n e h = omega (arith, h)
open_weight false false m n e h = h

pub shorter : (seat : Seat) (size calls messages : ℕ) (closes : Bool) → seat.closed ≡ false → 0 < size → size ≤ length (waiting seat) → weight (taken_more seat size calls messages closes) < weight seat
shorter seat size calls messages closes e h l =
    open_weight seat.closed closes (length (waiting seat)) (length (waiting (taken_more seat size calls messages closes))) e
    (omega (arith, h, l, length-drop seat.consumed seat.fed, length-drop (seat.consumed + size) seat.fed))

-- a next request is that of an open connection, has a byte, and is within what waits
pub record IsWithin (seat : Seat) (size : ℕ) : Type 0 where
  pub opened : seat.closed ≡ false
  pub some : 0 < size
  pub within : size ≤ length (waiting seat)

pub next_within : (l : Limits) (seat : Seat) (size : ℕ) (m : Meaning) → next_request l seat ≡ Some (size, m) → IsWithin seat size
next_within l seat size m e = by seat.closed refl e
  where
    by : (closed : Bool) → seat.closed ≡ closed → (if closed then None else front l (waiting seat)) ≡ Some (size, m) → IsWithin seat size
    by true q e = cc
    by false q e = let f = front_length l (waiting seat) size m e in record { opened = q; some = f.0; within = f.1 }

or_true : (a b : Bool) → a ≡ true → (a || b) ≡ true
or_true true b e = refl
or_true false b e = cc

module _ {S : Type 0} where
  -- a step went and took bytes, or nothing happened
  abbrev pub Goes : StateOf S → WentOf S → Type 0
  Goes s w = ((w.went ≡ true) × (bytes_waiting w.state.seats < bytes_waiting s.seats)) ⊎ (w ≡ idle s)

  goes_behind : (s : StateOf S) (w : WentOf S) (f : StateOf S → WentOf S) → Goes s w → ((t : StateOf S) → Goes t (f t)) → Goes s (behind w f)
  goes_behind s w f (inl h) g = inl (or_true w.went (f w.state).went h.0, further (g w.state))
    where
      further : Goes w.state (f w.state) → bytes_waiting (f w.state).state.seats < bytes_waiting s.seats
      further (inl k) = omega (arith, h.1, k.1)
      further (inr k) = subst (λ (x : WentOf S). bytes_waiting x.state.seats < bytes_waiting s.seats) (sym k) h.1
  goes_behind s w f (inr e) g = subst (λ (x : WentOf S). Goes s (behind x f)) (sym e) (g s)

-- a step keeps the number of connections, and takes bytes or does nothing
pub record IsStepping {S : Type 0} (step : Stepping S) : Type 0 where
  pub size : (s : StateOf S) (c : ℕ) → length (step s c).state.seats ≡ length s.seats
  pub goes : (s : StateOf S) (c : ℕ) → Goes s (step s c)

module _ {S : Type 0} (step : Stepping S) (law : IsStepping step) where
  pub round_from_length : (count c : ℕ) (s : StateOf S) → length (round_from_by step count c s).state.seats ≡ length s.seats
  round_from_length zero c s = refl
  round_from_length (suc count) c s = round_from_length count (c + 1) (step s c).state ∙ law.size s c

  pub round_from_goes : (count c : ℕ) (s : StateOf S) → Goes s (round_from_by step count c s)
  round_from_goes zero c s = inr refl
  round_from_goes (suc count) c s = goes_behind s (step s c) (round_from_by step count (c + 1)) (law.goes s c) (round_from_goes count (c + 1))

  pub round_goes : (s : StateOf S) → Goes s (round_by step s)
  round_goes s = round_from_goes (length s.seats) 0 s

  pub round_took : (s : StateOf S) → (round_by step s).went ≡ true → bytes_waiting (round_by step s).state.seats < bytes_waiting s.seats
  round_took s e = by (round_goes s)
    where
      by : Goes s (round_by step s) → bytes_waiting (round_by step s).state.seats < bytes_waiting s.seats
      by (inl h) = h.1
      by (inr h) = let w : false ≡ true = ap (λ (x : WentOf S). x.went) (sym h) ∙ e in cc

  one_more_by : (s : StateOf S) (f g : StateOf S → WentOf S) (went : Bool) → (round_by step s).went ≡ went → (went ≡ true → f (round_by step s).state ≡ g (round_by step s).state)
      → (if went then behind (round_by step s) f else round_by step s) ≡ (if went then behind (round_by step s) g else round_by step s)
  one_more_by s f g true e h = ap (λ (r : WentOf S). record { state = r.state; events = (round_by step s).events ++ r.events; went = (round_by step s).went || r.went }) (h refl)
  one_more_by s f g false e h = refl

  pub more_fuel : (m n : ℕ) (s : StateOf S) → bytes_waiting s.seats < m → bytes_waiting s.seats < n → rounds_by step m s ≡ rounds_by step n s
  more_fuel zero n s h k = absurd (omega (arith, h))
  more_fuel (suc m) zero s h k = absurd (omega (arith, k))
  more_fuel (suc m) (suc n) s h k =
      one_more_by s (rounds_by step m) (rounds_by step n) (round_by step s).went refl
      (λ e. let t : bytes_waiting (round_by step s).state.seats < bytes_waiting s.seats = round_took s e in
      more_fuel m n (round_by step s).state (omega (arith, t, h)) (omega (arith, t, k)))

  -- on with draining, where the last round went
  abbrev pub drained_if : Bool → StateOf S → WentOf S
  drained_if went s = if went then drained_by step s else idle s

  onward : (w : WentOf S) (went : Bool) → w.went ≡ went → (if went then behind w (drained_by step) else w) ≡ behind w (drained_if w.went)
  onward w true e = ap (λ (b : Bool). behind w (drained_if b)) (sym e)
  onward w false e = sym (ap (λ (b : Bool). behind w (drained_if b)) e ∙ behind_idle w)

  -- draining is a round, and then draining if it went
  pub drain_front : (s : StateOf S) → drained_by step s ≡ behind (round_by step s) (drained_if (round_by step s).went)
  drain_front s =
      let k : bytes_waiting s.seats + 1 ≡ suc (bytes_waiting s.seats) = omega arith in
      ap (λ (n : ℕ). rounds_by step n s) k
      ∙ one_more_by s (rounds_by step (bytes_waiting s.seats)) (drained_by step) (round_by step s).went refl
      (λ e. let t : bytes_waiting (round_by step s).state.seats < bytes_waiting s.seats = round_took s e in
      more_fuel _ _ (round_by step s).state t (omega arith))
      ∙ onward (round_by step s) (round_by step s).went refl

  pub drain_smaller : (s new : StateOf S) (went : Bool) → Becomes new went (round_by step s) → bytes_waiting new.seats + (if went then 1 else 0) < bytes_waiting s.seats + 1
  drain_smaller s new went b = by (round_goes s) went b
    where
      by : Goes s (round_by step s) → (went : Bool) → Becomes new went (round_by step s) → bytes_waiting new.seats + (if went then 1 else 0) < bytes_waiting s.seats + 1
      by (inl h) true b = let e : bytes_waiting new.seats ≡ bytes_waiting (round_by step s).state.seats = ap (λ (t : StateOf S). bytes_waiting t.seats) b.state in omega (arith, h.1, e)
      by (inl h) false b = let w : false ≡ true = b.answered ∙ h.0 in cc
      by (inr h) went b =
          let e : bytes_waiting new.seats ≡ bytes_waiting s.seats = ap (λ (t : StateOf S). bytes_waiting t.seats) b.state ∙ ap (λ (w : WentOf S). bytes_waiting w.state.seats) h in
          let f : went ≡ false = b.answered ∙ ap (λ (w : WentOf S). w.went) h in
          rw f (omega (arith, e))

  rounds_length_by : (m : ℕ) (s : StateOf S) (test : Bool) → ((t : StateOf S) → length (rounds_by step m t).state.seats ≡ length t.seats)
      → length (if test then behind (round_by step s) (rounds_by step m) else round_by step s).state.seats ≡ length s.seats
  rounds_length_by m s true more = more (round_by step s).state ∙ round_from_length (length s.seats) 0 s
  rounds_length_by m s false more = round_from_length (length s.seats) 0 s

  rounds_length : (m : ℕ) (s : StateOf S) → length (rounds_by step m s).state.seats ≡ length s.seats
  rounds_length zero s = refl
  rounds_length (suc m) s = rounds_length_by m s (round_by step s).went (rounds_length m)

  done_length : (s : StateOf S) (x : Context) (e : Effect) → length s.seats ≡ x.opens → length (done_by step s e).state.seats ≡ (context_by x e).opens
  done_length s x (Opens c mode) e = length_push s.seats empty_seat ∙ ap (λ (n : ℕ). n + 1) e
  done_length s x (Feeds c bytes) e = length-set s.seats c _ ∙ e
  done_length s x Serves e = rounds_length (bytes_waiting s.seats + 1) s ∙ e
  done_length s x other e = e

  -- a line opens what it says
  pub led_length : (s : StateOf S) (x : Context) (line : ScriptLine) → length s.seats ≡ x.opens → length (led_by step s line).state.seats ≡ (context_after x line).opens
  unfolding led_by
  led_length s x line e = done_length s x (effect_of line) e
