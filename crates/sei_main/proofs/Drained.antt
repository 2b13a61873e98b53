-- Behind a drain nothing waits.
use Rattle.std.proofs.Common.{◌≡◌, ℕ, zero, suc, ◌+◌, ◌<◌, ◌≤◌, ◌⊎◌, inl, inr, Bool, true, false, List, [], ◌∷◌, length, refl, ap, sym, ◌∙◌, subst, arith, Option, Some, None}
use Rattle.std.specs.Prelude.{if◌then◌else◌, ◌||◌, nat_lt}
use Rattle.std.proofs.lemmas.Bool.Decides.{nat_tests}
use Rattle.std.proofs.lemmas.List.{get_or_past}
use Rattle.mc_text.specs.Meaning.{Meaning}
use Rattle.sei_script.specs.declared.line.ScriptLine.{ScriptLine}
use Rattle.sei_script.specs.Effects.{Effect, Serves, effect_of}
use Rattle.sei_main.specs.Quiet.{is_serving, is_drain, ends_in_drain}
use Rattle.sei_main.specs.Seats.{Seat, empty_seat}
use Rattle.sei_main.specs.State.{done_by, led_by, State, Told, Went, idle, behind, step, step_front, next_request, limits_of, seat_at, round_from, round, rounds, bytes_waiting}
use Rattle.sei_main.specs.Run.{plain_after, plain_run_from}
use Rattle.sei_main.proofs.Rounds.{Goes, round_goes, round_took}
use Rattle.sei_main.proofs.Stepping.{plain_steps}

neither : (a b : Bool) → (a || b) ≡ false → (a ≡ false) × (b ≡ false)
neither true b e = cc
neither false b e = (refl, e)

stays : (s : State) (w : Went) → Goes s w → w.went ≡ false → w ≡ idle s
stays s w (inl h) e = let x : true ≡ false = sym h.0 ∙ e in cc
stays s w (inr h) e = h

front_none : (s : State) (c : ℕ) (o : Option (ℕ × Meaning)) → (step_front s c (seat_at s c) o).went ≡ false → o ≡ None
front_none s c None w = refl
front_none s c (Some request) w = let x : true ≡ false = w in cc

-- the next request of connection d in a state
abbrev next_at : State → ℕ → Option (ℕ × Meaning)
next_at s d = next_request (limits_of s.geometry) (seat_at s d)

-- c is below n, or not
below : (c n : ℕ) → (c < n) ⊎ (n ≤ c)
below c n = by (nat_lt c n) refl
  where
    by : (test : Bool) → nat_lt c n ≡ test → (c < n) ⊎ (n ≤ c)
    by true e = inl (grind (arith, nat_tests))
    by false e = inr (grind (arith, nat_tests))

none_at : (s : State) (c d : ℕ) → (c < d) ⊎ (d ≤ c) → c ≤ d → (step s c).went ≡ false → (c < d → next_at s d ≡ None) → next_at s d ≡ None
none_at s c d (inl q) l e later = later q
none_at s c d (inr q) l e later =
    let same : c ≡ d = omega (arith, l, q) in
    subst (λ (n : ℕ). next_at s n ≡ None) same (front_none s c (next_at s c) e)

none_waits : (count c : ℕ) (s : State) → (round_from count c s).went ≡ false → (d : ℕ) → c ≤ d → d < c + count → next_at s d ≡ None
none_waits zero c s e d l h = absurd (omega (arith, l, h))
none_waits (suc count) c s e d l h =
    let n : ((step s c).went ≡ false) × ((round_from count (c + 1) (step s c).state).went ≡ false) = neither (step s c).went (round_from count (c + 1) (step s c).state).went e in
    let i : step s c ≡ idle s = stays s (step s c) (plain_steps.goes s c) n.0 in
    none_at s c d (below c d) l n.0
    (λ q. none_waits count (c + 1) s (ap (λ (w : Went). (round_from count (c + 1) w.state).went) (sym i) ∙ n.1) d (omega (arith, q)) (omega (arith, h)))

nothing_by : (s : State) (c : ℕ) → (round s).went ≡ false → next_request (limits_of s.geometry) empty_seat ≡ None → (c < length s.seats) ⊎ (length s.seats ≤ c) → next_at s c ≡ None
nothing_by s c e n (inl l) = none_waits (length s.seats) 0 s e c (omega arith) (omega (arith, l))
nothing_by s c e n (inr l) = ap (λ (x : Seat). next_request (limits_of s.geometry) x) (get_or_past s.seats c empty_seat l) ∙ n

-- where a round does not go, no whole request waits
pub nothing_waits : (s : State) → next_request (limits_of s.geometry) empty_seat ≡ None → (round s).went ≡ false → (c : ℕ) → next_request (limits_of s.geometry) (seat_at s c) ≡ None
nothing_waits s n e c = nothing_by s c e n (below c (length s.seats))

end_by : (m : ℕ) (s : State) (test : Bool) → (round s).went ≡ test → (test ≡ true → (round (rounds m (round s).state).state).went ≡ false)
    → (round (if test then behind (round s) (rounds m) else round s).state).went ≡ false
end_by m s true e more = more refl
end_by m s false e more = ap (λ (w : Went). (round w.state).went) (stays s (round s) (round_goes step plain_steps s) e) ∙ e

pub rounds_end : (m : ℕ) (s : State) → bytes_waiting s.seats < m → (round (rounds m s).state).went ≡ false
rounds_end zero s h = absurd (omega (arith, h))
rounds_end (suc m) s h = end_by m s (round s).went refl (λ e. rounds_end m (round s).state (omega (arith, h, round_took step plain_steps s e)))

serving_ends : (s : State) (e : Effect) → is_serving e ≡ true → (round (done_by step s e).state).went ≡ false
serving_ends s Serves e = rounds_end (bytes_waiting s.seats + 1) s (omega arith)
serving_ends s other e = cc

last_drains : (t : Told) (line : ScriptLine) → is_drain line ≡ true → (round (plain_after t line).state).went ≡ false
unfolding led_by
last_drains t line e = serving_ends t.state (effect_of line) e

-- a script that ends in a drain
pub drain_ends : (t : Told) (script : List ScriptLine) → ends_in_drain script ≡ true → (round (plain_run_from t script).state).went ≡ false
drain_ends t [] e = cc
drain_ends t (line ∷ []) e = last_drains t line e
drain_ends t (line ∷ next ∷ script) e = drain_ends (plain_after t line) (next ∷ script) e
