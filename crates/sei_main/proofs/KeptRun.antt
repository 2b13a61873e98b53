-- What a run keeps.
use Rattle.std.proofs.Common.{◌≡◌, ◌≢◌, ℕ, zero, suc, ◌+◌, ◌<◌, ◌^◌, Bool, true, false, List, [], ◌∷◌, ◌++◌, length, refl, ap, sym, ◌∙◌, subst, arith}
use Rattle.std.specs.Prelude.{if◌then◌else◌, ◌==◌, slice_set, slice_index_or, All}
use Rattle.std.proofs.lemmas.Bool.Decides.{nat_tests}
use Rattle.std.proofs.lemmas.List.{append_assoc, append-nil, get_or-set_same, get_or-set_other}
use Rattle.std.proofs.lemmas.List.Concat.{flat_map-append}
use Rattle.std.proofs.lemmas.List.Elements.{All-nil, All-head, All-tail, All-append, All-push, All-set}
use Rattle.mc_model.specs.declared.geometry.Geometry.{Geometry}
use Rattle.mc_model.specs.Server.{Server, empty_server}
use Rattle.mc_text.specs.declared.limits.Limits.{Limits}
use Rattle.sei_fault.specs.declared.plan.Planned.{Planned}
use Rattle.sei_script.specs.declared.line.ScriptLine.{ScriptLine}
use Rattle.sei_script.specs.Effects.{Effect, Opens, Feeds, Serves, SetsClock, effect_of}
use Rattle.sei_script.specs.declared.line.Context.{Context}
use Rattle.sei_script.specs.Context.{geometry_of, context_after}
use Rattle.sei_script.specs.Fit.{IsPlaced, IsWellPlaced, AreFit}
use Rattle.sei_script.specs.SaysBytes.{DoesBytes, SaysBytes}
use Rattle.sei_main.specs.declared.plans.CallNumber.{CallNumber}
use Rattle.sei_main.specs.Answering.{Answering}
use Rattle.sei_main.specs.History.{Entry}
use Rattle.sei_main.specs.Own.{own_entries}
use Rattle.sei_main.specs.Events.{Event, entries_of, sent_to}
use Rattle.sei_main.specs.Plans.{plans_of}
use Rattle.sei_main.specs.Seats.{Seat, empty_seat, fed_more}
use Rattle.sei_main.specs.State.{ToldOf, Stepping, told, idle, seat_at, done_by, led_by, limits_of, bytes_waiting}
use Rattle.sei_main.specs.Run.{start_of, after_by, run_from_by, run_by}
use Rattle.sei_main.specs.Serving.{step_by}
use Rattle.sei_main.specs.Headline.{fed_to, fed_in, fed_by}
use Rattle.sei_main.proofs.EndLaws.{goes_nil, ends_none}
use Rattle.sei_main.proofs.Kept.{Kept, rounds_keep}
use Rattle.sei_main.proofs.KeptServer.{start_server}
use Rattle.sei_main.specs.Outcomes.{IsolatesFaults}
use Rattle.sei_main.proofs.Outcomes.{AsksCalls}
use Rattle.sei_main.proofs.Rounds.{led_length}
use Rattle.sei_main.proofs.SeatBytes.{IsFedBytes, fed_at}
use Rattle.sei_main.proofs.SeatStands.{SeatStands, fed_stands, empty_stands}
use Rattle.sei_main.proofs.Stepping.{serving_steps}

refed_seat : (plans : ℕ) (l : Limits) (fed fed' : List ℕ) (own : List Entry) (sent : List (List ℕ)) (seat : Seat) → fed' ≡ fed → SeatStands plans l fed own sent seat → SeatStands plans l fed' own sent seat
refed_seat plans l fed fed' own sent seat e h = subst (λ (x : List ℕ). SeatStands plans l x own sent seat) (sym e) h

fed_line : (c : ℕ) (p : List ScriptLine) (line : ScriptLine) → fed_to c (p ++ line ∷ []) ≡ fed_to c p ++ fed_by c line
fed_line c p line = flat_map-append (fed_by c) p (line ∷ []) ∙ ap (λ (xs : List ℕ). fed_to c p ++ xs) (append-nil (fed_by c line))

fed_none : (c : ℕ) (p : List ScriptLine) (line : ScriptLine) → fed_by c line ≡ [] → fed_to c (p ++ line ∷ []) ≡ fed_to c p
fed_none c p line e = fed_line c p line ∙ ap (λ (xs : List ℕ). fed_to c p ++ xs) e ∙ append-nil (fed_to c p)

one_more_seat : (seats : List Seat) (c : ℕ) → slice_index_or (seats ++ empty_seat ∷ []) c empty_seat ≡ slice_index_or seats c empty_seat
one_more_seat [] zero = refl
one_more_seat [] (suc c) = refl
one_more_seat (x ∷ seats) zero = refl
one_more_seat (x ∷ seats) (suc c) = one_more_seat seats c

-- a line that feeds these bytes to connection c
abbrev IsFeeding : ℕ → List ℕ → ScriptLine → Type 0
IsFeeding c bytes line = (d : ℕ) → fed_by d line ≡ (if c == d then bytes else [])

empty_at : (c : ℕ) → slice_index_or [] c empty_seat ≡ empty_seat
empty_at zero = refl
empty_at (suc c) = refl

module _ {S : Type 0} (R : S → Server → Type 0) (g : Geometry) (plans : List (CallNumber × Planned)) where
  refed : (fed fed' : ℕ → List ℕ) (t : ToldOf S) → ((c : ℕ) → fed' c ≡ fed c) → Kept R g plans fed t → Kept R g plans fed' t
  refed fed fed' t e k = record {
    geometry = k.geometry;
    plans_are = k.plans_are;
    small = k.small;
    bytes = k.bytes;
    legal = k.legal;
    ends = k.ends;
    told = k.told;
    goes = k.goes;
    stands = k.stands;
    seats = λ c. refed_seat (length plans) (limits_of g) (fed c) (fed' c) _ _ _ (e c) (k.seats c);
  }

  -- nothing happens, and connections stand otherwise
  quiet : (fed fed' : ℕ → List ℕ) (t : ToldOf S) (seats : List Seat) → Kept R g plans fed t → All IsFedBytes seats
      → ((c : ℕ) → SeatStands (length plans) (limits_of g) (fed' c) (own_entries c (entries_of t.events)) (sent_to c t.events) (slice_index_or seats c empty_seat))
      → Kept R g plans fed' (told t (idle (record t.state { seats = seats })))
  quiet fed fed' t seats k bytes each =
      let kept : Kept R g plans fed' (record { state = record t.state { seats = seats }; events = t.events }) = record {
        geometry = k.geometry;
        plans_are = k.plans_are;
        small = k.small;
        bytes = bytes;
        legal = k.legal;
        ends = k.ends;
        told = k.told;
        goes = k.goes;
        stands = k.stands;
        seats = each;
      } in
      subst (λ (es : List Event). Kept R g plans fed' (record { state = record t.state { seats = seats }; events = es })) (sym (append-nil t.events)) kept

  -- the clock answers otherwise
  clocked : (fed : ℕ → List ℕ) (t : ToldOf S) (now : ℕ) → now < 2 ^ 64 → Kept R g plans fed t → Kept R g plans fed (told t (idle (record t.state { clock = now })))
  clocked fed t now small k =
      let kept : Kept R g plans fed (record { state = record t.state { clock = now }; events = t.events }) = record {
        geometry = k.geometry;
        plans_are = k.plans_are;
        small = small;
        bytes = k.bytes;
        legal = k.legal;
        ends = k.ends;
        told = k.told;
        goes = k.goes;
        stands = k.stands;
        seats = k.seats;
      } in
      subst (λ (es : List Event). Kept R g plans fed (record { state = record t.state { clock = now }; events = es })) (sym (append-nil t.events)) kept

  -- a line feeds bytes
  module _ (p : List ScriptLine) (t : ToldOf S) (c : ℕ) (bytes : List ℕ) (line : ScriptLine) (feeds : IsFeeding c bytes line) (inside : c < length t.state.seats) (k : Kept R g plans (λ n. fed_to n p) t) where
    abbrev l : Limits
    l = limits_of g

    abbrev fed_seat : Seat
    fed_seat = fed_more (seat_at t.state c) bytes

    said_at : (d : ℕ) (test : Bool) → (c == d) ≡ test
        → SeatStands (length plans) l (fed_to d (p ++ line ∷ [])) (own_entries d (entries_of t.events)) (sent_to d t.events) (slice_index_or (slice_set t.state.seats c fed_seat) d empty_seat)
    said_at d true q =
        let same : c ≡ d = grind (arith, nat_tests) in
        let grows : fed_to d (p ++ line ∷ []) ≡ fed_to d p ++ bytes = fed_line d p line ∙ ap (λ (xs : List ℕ). fed_to d p ++ xs) (feeds d) ∙ ap (λ (b : Bool). fed_to d p ++ (if b then bytes else [])) q in
        let new : SeatStands (length plans) l (fed_to d p ++ bytes) (own_entries d (entries_of t.events)) (sent_to d t.events) (fed_more (seat_at t.state d) bytes) =
        fed_stands (length plans) l (fed_to d p) bytes _ _ (seat_at t.state d) (k.seats d) in
        refed_seat (length plans) l (fed_to d p ++ bytes) _ _ _ _ grows
        (subst (λ (x : Seat). SeatStands (length plans) l (fed_to d p ++ bytes) (own_entries d (entries_of t.events)) (sent_to d t.events) x)
        (sym (ap (λ (n : ℕ). slice_index_or (slice_set t.state.seats c fed_seat) n empty_seat) (sym same)
        ∙ get_or-set_same t.state.seats c fed_seat empty_seat inside
        ∙ ap (λ (n : ℕ). fed_more (seat_at t.state n) bytes) same)) new)
    said_at d false q =
        let other : d ≢ c = grind (arith, nat_tests) in
        let stays : fed_to d (p ++ line ∷ []) ≡ fed_to d p = fed_none d p line (feeds d ∙ ap (λ (b : Bool). if b then bytes else []) q) in
        refed_seat (length plans) l (fed_to d p) _ _ _ _ stays
        (subst (λ (x : Seat). SeatStands (length plans) l (fed_to d p) (own_entries d (entries_of t.events)) (sent_to d t.events) x)
        (sym (get_or-set_other t.state.seats c d fed_seat empty_seat other)) (k.seats d))

    said : All (λ b. b < 256) bytes → Kept R g plans (λ n. fed_to n (p ++ line ∷ [])) (told t (idle (record t.state { seats = slice_set t.state.seats c fed_seat })))
    said small =
        quiet (λ n. fed_to n p) (λ n. fed_to n (p ++ line ∷ [])) t (slice_set t.state.seats c fed_seat) k
        (All-set IsFedBytes t.state.seats c fed_seat (All-append (λ b. b < 256) (seat_at t.state c).fed bytes (fed_at t.state.seats c k.bytes) small) k.bytes)
        (λ d. said_at d (c == d) refl)

module _ {S : Type 0} (answering : Answering S) (R : S → Server → Type 0) (g : Geometry) (isolates : IsolatesFaults answering g R) (asks : AsksCalls g) (some : 0 < g.buckets) (plans : List (CallNumber × Planned)) where
  abbrev stepping : Stepping S
  stepping = step_by answering

  -- what a line does, by its effect
  done_keeps : (p : List ScriptLine) (t : ToldOf S) (x : Context) (line : ScriptLine) (does : Effect) → effect_of line ≡ does → DoesBytes does → length t.state.seats ≡ x.opens → IsPlaced x does
      → Kept R g plans (λ c. fed_to c p) t → Kept R g plans (λ c. fed_to c (p ++ line ∷ [])) (told t (done_by stepping t.state does))
  done_keeps p t x line (Opens n mode) same says e f k =
      quiet R g plans (λ c. fed_to c p) (λ c. fed_to c (p ++ line ∷ [])) t (t.state.seats ++ empty_seat ∷ []) k
      (All-push IsFedBytes t.state.seats empty_seat k.bytes (All-nil (λ b. b < 256)))
      (λ c. refed_seat (length plans) (limits_of g) (fed_to c p) _ _ _ _ (fed_none c p line (ap (fed_in c) same))
      (subst (λ (s : Seat). SeatStands (length plans) (limits_of g) (fed_to c p) (own_entries c (entries_of t.events)) (sent_to c t.events) s) (sym (one_more_seat t.state.seats c)) (k.seats c)))
  done_keeps p t x line (Feeds n bytes) same says e f k = said R g plans p t n bytes line (λ c. ap (fed_in c) same) (omega (arith, e, f.1)) k says
  done_keeps p t x line Serves same says e f k =
      refed R g plans (λ c. fed_to c p) (λ c. fed_to c (p ++ line ∷ [])) (told t (done_by stepping t.state Serves)) (λ c. fed_none c p line (ap (fed_in c) same))
      (rounds_keep answering R g isolates asks some plans (λ c. fed_to c p) (bytes_waiting t.state.seats + 1) t k)
  done_keeps p t x line (SetsClock now) same says e f k =
      refed R g plans (λ c. fed_to c p) (λ c. fed_to c (p ++ line ∷ [])) (told t (done_by stepping t.state (SetsClock now))) (λ c. fed_none c p line (ap (fed_in c) same))
      (clocked R g plans (λ c. fed_to c p) t now says k)
  done_keeps p t x line other same says e f k =
      refed R g plans (λ c. fed_to c p) (λ c. fed_to c (p ++ line ∷ [])) (told t (idle t.state)) (λ c. fed_none c p line (ap (fed_in c) same))
      (quiet R g plans (λ c. fed_to c p) (λ c. fed_to c p) t t.state.seats k k.bytes k.seats)

  led_keeps : (p : List ScriptLine) (t : ToldOf S) (x : Context) (line : ScriptLine) → SaysBytes line → length t.state.seats ≡ x.opens → IsWellPlaced x line → Kept R g plans (λ c. fed_to c p) t
      → Kept R g plans (λ c. fed_to c (p ++ line ∷ [])) (after_by stepping t line)
  unfolding led_by
  led_keeps p t x line says e f k = done_keeps p t x line (effect_of line) refl says e f k

  run_from_keeps : (p : List ScriptLine) (t : ToldOf S) (x : Context) (script : List ScriptLine) → All SaysBytes script → length t.state.seats ≡ x.opens → AreFit x script → Kept R g plans (λ c. fed_to c p) t
      → Kept R g plans (λ c. fed_to c (p ++ script)) (run_from_by stepping t script)
  run_from_keeps p t x [] says e f k = refed R g plans (λ c. fed_to c p) (λ c. fed_to c (p ++ [])) t (λ c. ap (fed_to c) (append-nil p)) k
  run_from_keeps p t x (line ∷ script) says e f k =
      refed R g plans (λ c. fed_to c ((p ++ line ∷ []) ++ script)) (λ c. fed_to c (p ++ line ∷ script)) (run_from_by stepping (after_by stepping t line) script) (λ c. ap (fed_to c) (sym (append_assoc p (line ∷ []) script)))
      (run_from_keeps (p ++ line ∷ []) (after_by stepping t line) (context_after x line) script (All-tail SaysBytes line script says) (led_length stepping (serving_steps answering) t.state x line e) f.1
      (led_keeps p t x line (All-head SaysBytes line script says) e f.0 k))

-- the run of a script on a server that isolates faults, and stands for the empty server at the start
pub run_keeps : {S : Type 0} (answering : Answering S) (R : S → Server → Type 0) (s : S) (script : List ScriptLine) (x : Context) → IsolatesFaults answering (geometry_of script) R → AsksCalls (geometry_of script) → 0 < (geometry_of script).buckets
    → R s (empty_server (geometry_of script)) → All SaysBytes script → x.opens ≡ 0 → AreFit x script → Kept R (geometry_of script) (plans_of script) (λ c. fed_to c script) (run_by (step_by answering) s script)
run_keeps {S} answering R s script x isolates asks some related says none fit =
    run_from_keeps answering R (geometry_of script) isolates asks some (plans_of script) [] (start_of s script) x script says (sym none) fit
    (record {
      geometry = refl;
      plans_are = refl;
      small = omega arith;
      bytes = All-nil IsFedBytes;
      legal = tt;
      ends = ends_none [] goes_nil;
      told = λ e. e;
      goes = λ e. goes_nil;
      stands = λ e. record { server = empty_server (geometry_of script); related = related; kept = start_server (geometry_of script) };
      seats = λ c. subst (λ (seat : Seat). SeatStands (length (plans_of script)) (limits_of (geometry_of script)) [] [] [] seat) (sym (empty_at c)) (empty_stands (length (plans_of script)) (limits_of (geometry_of script)));
    })
