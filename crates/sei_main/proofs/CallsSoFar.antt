-- The calls of a request, answered one by one.
use Rattle.std.proofs.Common.{◌≡◌, ℕ, zero, suc, ◌+◌, ◌≤◌, ◌<◌, Bool, true, false, List, [], ◌∷◌, ◌++◌, length, drop, refl, ap, sym, ◌∙◌, arith, Option, Some, None}
use Rattle.std.specs.Prelude.{slice_get}
use Rattle.std.specs.Io.KnownBytes.{append_known}
use Rattle.std.proofs.lemmas.List.{append-nil}
use Rattle.sei_outside.specs.Bytes.{WrotePart}
use Rattle.mc_model.specs.Call.{Placed}
use Rattle.sei_traverse.specs.declared.turned.State.{State}
use Rattle.sei_traverse.specs.declared.turned.State.TheVariants.{Went, Finished, Refused, Aborted}
use Rattle.sei_main.specs.declared.world.state.Answered.{Answered}
use Rattle.sei_main.specs.Answering.{Answering}
use Rattle.sei_main.specs.Becomes.{IsResultOf}
use Rattle.sei_main.specs.Events.{Event}
use Rattle.sei_main.specs.Serving.{Asking, RequestResult, answer_in, answers_by, on_with, is_stopped}
use Rattle.sei_main.specs.Report.{events_text}
use Rattle.sei_main.proofs.Written.{Written, written_start, written_more, written_part, written_all, written_same}

call_there : (calls : List Placed) (nth : ℕ) (p : Placed) → Some p ≡ slice_get calls nth → drop nth calls ≡ p ∷ drop (nth + 1) calls
call_there [] nth p e = cc
call_there (x ∷ calls) zero p e = let s : p ≡ x = cc in ap (λ (y : Placed). y ∷ calls) (sym s)
call_there (x ∷ calls) (suc nth) p e = let k : suc (nth + 1) ≡ suc nth + 1 = omega arith in call_there calls nth p e ∙ ap (λ (n : ℕ). p ∷ drop n (x ∷ calls)) k

-- there is no call too few
pub call_is_there : (calls : List Placed) (nth : ℕ) → nth < length calls → None ≡ slice_get calls nth → ⊥
call_is_there [] nth l e = absurd (omega (arith, l))
call_is_there (x ∷ calls) zero l e = cc
call_is_there (x ∷ calls) (suc nth) l e = call_is_there calls nth (omega (arith, l)) e

pub none_of : {A : Type 0} (o : Option A) → ((x : A) → o ≡ Some x → ⊥) → o ≡ None
none_of None h = refl
none_of (Some x) h = absurd (h x refl)

pub unfinished : (state : State) → is_stopped state ≡ true → state ≡ Finished → ⊥
unfinished state e f = let z : false ≡ true = ap is_stopped (sym f) ∙ e in cc

pub finished_is : (state : State) → is_stopped state ≡ false → state ≡ Finished
finished_is Finished e = refl
finished_is Went e = let z : ⊥ = cc in absurd z
finished_is Refused e = let z : ⊥ = cc in absurd z
finished_is (Aborted abort) e = let z : ⊥ = cc in absurd z

module _ {S : Type 0} (here later : RequestResult S) where
  -- what happens in a call happens first
  starts : (state : State) → (more : List Event) × ((on_with here later state).events ≡ here.events ++ more)
  starts Finished = (later.events, refl)
  starts Went = ([], sym (append-nil here.events))
  starts Refused = ([], sym (append-nil here.events))
  starts (Aborted abort) = ([], sym (append-nil here.events))

  -- behind a call that did not finish comes none
  stops : (state : State) → (state ≡ Finished → ⊥) → on_with here later state ≡ here
  stops Finished e = absurd (e refl)
  stops Went e = refl
  stops Refused e = refl
  stops (Aborted abort) e = refl

module _ {S : Type 0} (answering : Answering S) (q : Asking) where
  -- the answers from the nth call on, behind so many messages
  abbrev pub later : ℕ → ℕ → S → List Placed → RequestResult S
  later nth messages server calls = answers_by answering q nth messages server (drop nth calls)

  abbrev pub whole : S → List Placed → RequestResult S
  whole start calls = answers_by answering q 0 0 start calls

  pub record CallsSoFar (h : Bool) (old now : Option (List ℕ)) (nth messages : ℕ) (start server : S) (calls : List Placed) : Type 0 where
    pub written : Written h old now (later nth messages server calls).events (whole start calls).events
    pub server_is : (later nth messages server calls).server ≡ (whole start calls).server
    pub messages_are : (later nth messages server calls).messages ≡ (whole start calls).messages
    pub state_is : (later nth messages server calls).state ≡ (whole start calls).state
    pub few : messages ≤ nth

  pub calls_start : (h : Bool) (old : Option (List ℕ)) (start : S) (calls : List Placed) → CallsSoFar h old old 0 0 start start calls
  calls_start h old start calls = record { written = written_start h old (whole start calls).events; server_is = refl; messages_are = refl; state_is = refl; few = omega arith }

  module _ (h : Bool) (old now new : Option (List ℕ)) (nth messages : ℕ) (start server : S) (calls : List Placed) (p : Placed) (so_far : CallsSoFar h old now nth messages start server calls) (is : Some p ≡ slice_get calls nth) where
    abbrev here : RequestResult S
    here = answer_in answering q nth messages server p

    abbrev rest : RequestResult S
    rest = later (nth + 1) here.messages here.server calls

    -- the answers from here on are one answer, and then the later ones
    front : later nth messages server calls ≡ on_with here rest here.state
    front = ap (λ (ps : List Placed). answers_by answering q nth messages server ps) (call_there calls nth p is)

    -- a call more
    pub call_more : (next : S) (answered : Answered) → next ≡ here.server → IsResultOf answered here → answered.messages ≤ nth + 1 → answered.state ≡ Finished → new ≡ append_known now (events_text h here.events) →
        CallsSoFar h old new (nth + 1) answered.messages start next calls
    call_more next answered n a few finished w =
        let same : later (nth + 1) answered.messages next calls ≡ rest =
        ap (λ (m : ℕ). later (nth + 1) m next calls) a.messages ∙ ap (λ (s : S). later (nth + 1) here.messages s calls) n in
        let on : later nth messages server calls ≡ on_with here rest Finished = front ∙ ap (on_with here rest) (sym a.state ∙ finished) in
        record {
          written = written_same h old new _ _ _ (ap (λ (x : RequestResult S). x.events) (sym same))
              (written_more h old now new here.events rest.events _ (written_same h old now _ _ _ (ap (λ (x : RequestResult S). x.events) on) so_far.written) w);
          server_is = ap (λ (x : RequestResult S). x.server) same ∙ sym (ap (λ (x : RequestResult S). x.server) on) ∙ so_far.server_is;
          messages_are = ap (λ (x : RequestResult S). x.messages) same ∙ sym (ap (λ (x : RequestResult S). x.messages) on) ∙ so_far.messages_are;
          state_is = ap (λ (x : RequestResult S). x.state) same ∙ sym (ap (λ (x : RequestResult S). x.state) on) ∙ so_far.state_is;
          few = few;
        }

    -- a part of a call more
    pub call_part : WrotePart now new (events_text h here.events) → WrotePart old new (events_text h (whole start calls).events)
    call_part w =
        let s = starts here rest here.state in
        written_part h old now new here.events s.0 _ (written_same h old now _ _ _ (ap (λ (x : RequestResult S). x.events) front ∙ s.1) so_far.written) w

    -- the last call: it did not finish
    call_stops : (here.state ≡ Finished → ⊥) → later nth messages server calls ≡ here
    call_stops unfinished = front ∙ stops here rest here.state unfinished

    pub stop_server : (next : S) → next ≡ here.server → (here.state ≡ Finished → ⊥) → next ≡ (whole start calls).server
    stop_server next n u = n ∙ sym (ap (λ (x : RequestResult S). x.server) (call_stops u)) ∙ so_far.server_is

    pub stop_answered : (answered : Answered) → IsResultOf answered here → (here.state ≡ Finished → ⊥) → IsResultOf answered (whole start calls)
    stop_answered answered a u = record {
      messages = a.messages ∙ sym (ap (λ (x : RequestResult S). x.messages) (call_stops u)) ∙ so_far.messages_are;
      state = a.state ∙ sym (ap (λ (x : RequestResult S). x.state) (call_stops u)) ∙ so_far.state_is;
    }

    pub stop_all : new ≡ append_known now (events_text h here.events) → (here.state ≡ Finished → ⊥) → new ≡ append_known old (events_text h (whole start calls).events)
    stop_all w u =
        let none : later nth messages server calls ≡ here = call_stops u in
        written_all h old new (whole start calls).events
        (written_more h old now new here.events [] _ (written_same h old now _ _ _ (ap (λ (x : RequestResult S). x.events) none ∙ sym (append-nil here.events)) so_far.written) w)
