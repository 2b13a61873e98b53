-- What the calls of a request do to the history, on a server that isolates faults.
use Rattle.std.proofs.Common.{◌≡◌, ◌⊎◌, inl, inr, ℕ, suc, ◌+◌, ◌<◌, ◌^◌, true, List, [], ◌∷◌, ◌++◌, length, refl, ap, sym, ◌∙◌, subst, arith, Option, Some, None}
use Rattle.std.specs.Prelude.{slice_get, All}
use Rattle.std.proofs.lemmas.List.{append_assoc, append-nil, length-append}
use Rattle.mc_model.specs.declared.geometry.Geometry.{Geometry}
use Rattle.mc_model.specs.Call.{Placed}
use Rattle.mc_model.specs.Server.{Server, server_answer}
use Rattle.mc_text.specs.Stream.{IsPrefixOf}
use Rattle.sei_fault.specs.declared.plan.Planned.{Planned}
use Rattle.sei_traverse.specs.declared.turned.Abort.{Abort}
use Rattle.sei_traverse.specs.declared.turned.State.{State}
use Rattle.sei_traverse.specs.declared.turned.State.TheVariants.{Finished, Refused, Aborted}
use Rattle.sei_main.specs.declared.plans.CallNumber.{CallNumber}
use Rattle.sei_main.specs.declared.world.service.Entered.{Entered as EntryOf}
use Rattle.sei_main.specs.declared.world.service.Served.{Served}
use Rattle.sei_main.specs.Answering.{Asked, Answering, CallResult}
use Rattle.sei_main.specs.Asked.{IsCallAt}
use Rattle.sei_main.specs.Ends.{has_abort}
use Rattle.sei_main.specs.Events.{Event, Entered}
use Rattle.sei_main.specs.History.{Entry, IsLegal}
use Rattle.sei_main.specs.Own.{AreCounted, calls_in, message_of, messages_of}
use Rattle.sei_main.specs.Plans.{plan_at}
use Rattle.sei_main.specs.State.{entry_for, entry_events, limits_of}
use Rattle.sei_main.specs.Serving.{Asking, RequestResult, asked_in, entered_events, sent_events, ended_events, served_events, on_with, answer_in, answers_by}
use Rattle.sei_main.proofs.EndLaws.{GoesOn, EndsStruck, goes_nil, goes_append, goes_entry, goes_sending, goes_refused, ends_append, ends_aborted, abort_behind}
use Rattle.sei_main.proofs.KeptServer.{ServerKept, StandsAt, answer_kept}
use Rattle.sei_main.specs.Outcomes.{IsolatesFaults, CallOutcome, PlannedFaultStruck, HasPlan, refused_served, entry, reply}
use Rattle.sei_main.specs.Outcomes.CallOutcome.{AsThere, TurnedAway, Stopped}
use Rattle.sei_main.proofs.OwnEvents.{IsOwnOf, own_none, own_entry, own_message, own_ended, own_append, own_behind}
use Rattle.sei_main.proofs.Simulated.{plain_events}

-- a plan is there only where some are
pub some_plans : (plans : List (CallNumber × Planned)) (c n : ℕ) → HasPlan (plan_at plans c n) → 0 < length plans
some_plans [] c n h = let z : ◌≡◌ {A = Option Planned} None (Some h.0) = h.1 in cc
some_plans (plan ∷ plans) c n h = omega arith

-- the server behind a history stands for the plain one behind it
pub record StandsBehind {S : Type 0} (R : S → Server → Type 0) (g : Geometry) (s : S) (history : List Entry) : Type 0 where
  pub server : Server
  pub related : R s server
  pub kept : ServerKept g server history

-- calls of connection c, from number n on, behind so many messages: what was entered and sent of them
pub record IsPart (g : Geometry) (history : List Entry) (c n messages : ℕ) (calls : List Placed) (events : List Event) (sent : ℕ) (entries answered : List Entry) : Type 0 where
  pub own : IsOwnOf c events entries answered
  pub calls_are : IsPrefixOf (calls_in entries) calls
  pub counted : AreCounted n entries
  pub sent_is : sent ≡ messages + length (messages_of answered)
  pub legal : IsLegal g (history ++ entries)

-- all of them were answered; or a fault struck, and the connection was refused, or the traversal aborted
pub data AnswersKept {S : Type 0} (R : S → Server → Type 0) (g : Geometry) (history : List Entry) (c n messages : ℕ) (plans : List (CallNumber × Planned)) (calls : List Placed) (x : RequestResult S) : Type 0 where
  Whole : (entries : List Entry) → IsPart g history c n messages calls x.events x.messages entries entries → x.state ≡ Finished → calls_in entries ≡ calls
      → GoesOn x.events → StandsBehind R g x.server (history ++ entries) → AnswersKept R g history c n messages plans calls x
  Turned : (entries : List Entry) → IsPart g history c n messages calls x.events x.messages entries entries → x.state ≡ Refused → 0 < length plans
      → GoesOn x.events → StandsBehind R g x.server (history ++ entries) → AnswersKept R g history c n messages plans calls x
  Ended : (entries answered : List Entry) → IsPart g history c n messages calls x.events x.messages entries answered → IsPrefixOf answered entries → (abort : Abort) → x.state ≡ Aborted abort
      → 0 < length plans → EndsStruck x.events → has_abort x.events ≡ true → AnswersKept R g history c n messages plans calls x

-- one call more in front

part_more : (g : Geometry) (history : List Entry) (c n next messages more : ℕ) (p : Placed) (calls : List Placed) (e : Entry) (events later : List Event) (sent : ℕ) (entries answered : List Entry)
    → e.connection ≡ c → e.number ≡ n → calls_in (e ∷ []) ≡ p ∷ [] → next ≡ n + 1 → more ≡ messages + length (message_of e.reply) → events ≡ entry_events e
    → IsPart g (history ++ e ∷ []) c next more calls later sent entries answered → IsPart g history c n messages (p ∷ calls) (events ++ later) sent (e ∷ entries) (e ∷ answered)
part_more g history c n next messages more p calls e events later sent entries answered of_c numbered is one_more longer are part = record {
  own = subst (λ (d : ℕ). IsOwnOf d (events ++ later) (e ∷ entries) (e ∷ answered)) of_c
      (subst (λ (es : List Event). IsOwnOf e.connection (es ++ later) (e ∷ entries) (e ∷ answered)) (sym are)
      (own_append e.connection (entry_events e) later (e ∷ []) entries (e ∷ []) answered
      (own_append e.connection (Entered e ∷ []) (sent_events e.connection e.reply) (e ∷ []) [] [] (e ∷ []) (own_entry e) (own_message e.connection e))
      (subst (λ (d : ℕ). IsOwnOf d later entries answered) (sym of_c) part.own)));
  calls_are = (part.calls_are.0, ap (λ (ps : List Placed). p ∷ ps) part.calls_are.1 ∙ ap (λ (ps : List Placed). ps ++ (calls_in entries ++ part.calls_are.0)) (sym is));
  counted = (numbered, subst (λ (k : ℕ). AreCounted k entries) one_more part.counted);
  sent_is = omega (arith, part.sent_is, longer, length-append (message_of e.reply) (messages_of answered));
  legal = subst (IsLegal g) (append_assoc history (e ∷ []) entries) part.legal;
}

prefix_more : (e : Entry) (xs ys : List Entry) → IsPrefixOf xs ys → IsPrefixOf (e ∷ xs) (e ∷ ys)
prefix_more e xs ys h = (h.0, ap (λ (zs : List Entry). e ∷ zs) h.1)

module _ {S : Type 0} (R : S → Server → Type 0) (g : Geometry) (q : Asking) where
  abbrev Kept : List Entry → ℕ → ℕ → List Placed → RequestResult S → Type 0
  Kept history n messages calls x = AnswersKept R g history q.connection n messages q.plans calls x

  -- no calls
  kept_none : (history : List Entry) (n messages : ℕ) (s : S) → StandsBehind R g s history → Kept history n messages [] (record { server = s; events = []; messages = messages; state = Finished })
  kept_none history n messages s stands =
      let same : history ≡ history ++ [] = sym (append-nil history) in
      Whole []
      (record {
        own = own_none q.connection;
        calls_are = ([], refl);
        counted = tt;
        sent_is = omega arith;
        legal = subst (IsLegal g) same stands.kept.legal;
      }) refl refl goes_nil (subst (StandsBehind R g s) same stands)

  -- a call that finished, and the later ones
  module _ (history : List Entry) (n next messages : ℕ) (p : Placed) (calls : List Placed) (e : Entry) (here later : RequestResult S) (of_c : e.connection ≡ q.connection) (numbered : e.number ≡ n) (is : calls_in (e ∷ []) ≡ p ∷ [])
      (one_more : next ≡ n + 1) (longer : here.messages ≡ messages + length (message_of e.reply)) (are : here.events ≡ entry_events e) where
    abbrev both : RequestResult S
    both = on_with here later Finished

    more : (entries answered : List Entry) → IsPart g (history ++ e ∷ []) q.connection next here.messages calls later.events later.messages entries answered
        → IsPart g history q.connection n messages (p ∷ calls) both.events both.messages (e ∷ entries) (e ∷ answered)
    more entries answered part =
        part_more g history q.connection n next messages here.messages p calls e here.events later.events later.messages entries answered of_c numbered is one_more longer are part

    goes_here : GoesOn here.events
    goes_here = subst GoesOn (sym are) (goes_append (Entered e ∷ []) (sent_events e.connection e.reply) (goes_entry e) (goes_sending e.connection (message_of e.reply)))

    stands_more : (entries : List Entry) → StandsBehind R g later.server ((history ++ e ∷ []) ++ entries) → StandsBehind R g both.server (history ++ e ∷ entries)
    stands_more entries stands = subst (StandsBehind R g later.server) (append_assoc history (e ∷ []) entries) stands

    kept_more : Kept (history ++ e ∷ []) next here.messages calls later → Kept history n messages (p ∷ calls) both
    kept_more (Whole entries part state all goes stands) =
        Whole (e ∷ entries) (more entries entries part) state (ap (λ (ps : List Placed). ps ++ calls_in entries) is ∙ ap (λ (ps : List Placed). p ∷ ps) all) (goes_append here.events later.events goes_here goes) (stands_more entries stands)
    kept_more (Turned entries part state planned goes stands) =
        Turned (e ∷ entries) (more entries entries part) state planned (goes_append here.events later.events goes_here goes) (stands_more entries stands)
    kept_more (Ended entries answered part first abort state planned ends told) =
        Ended (e ∷ entries) (e ∷ answered) (more entries answered part) (prefix_more e answered entries first) abort state planned (ends_append here.events later.events goes_here ends) (abort_behind here.events later.events told)

  -- a call whose traversal did not finish: what was entered and sent of it
  part_last : (history : List Entry) (n messages : ℕ) (p : Placed) (calls : List Placed) (x : Served) (strikes : ℕ) (entries answered : List Entry) → IsPrefixOf (calls_in entries) (p ∷ calls) → AreCounted n entries
      → IsOwnOf q.connection (entered_events q.connection n p x.entered) entries [] → IsOwnOf q.connection (sent_events q.connection x.message) [] answered → length (message_of x.message) ≡ length (messages_of answered)
      → IsLegal g (history ++ entries) → IsPart g history q.connection n messages (p ∷ calls) (served_events q.connection n p x strikes) (messages + length (message_of x.message)) entries answered
  part_last history n messages p calls x strikes entries answered are counted entered sent long legal =
      let c : ℕ = q.connection in
      let first : List Event = entered_events c n p x.entered in
      let second : List Event = sent_events c x.message in
      let last : List Event = ended_events c n x.state strikes in
      let both : IsOwnOf c (first ++ second) (entries ++ []) answered = own_append c first second entries [] [] answered entered sent in
      let all : IsOwnOf c ((first ++ second) ++ last) (entries ++ []) answered = own_behind c (first ++ second) last (entries ++ []) answered both (own_ended c n x.state strikes) in
      record {
        own = subst (λ (es : List Event). IsOwnOf c es entries answered) (append_assoc first second last) (subst (λ (es : List Entry). IsOwnOf c ((first ++ second) ++ last) es answered) (append-nil entries) all);
        calls_are = are;
        counted = counted;
        sent_is = omega (arith, long);
        legal = legal;
      }

module _ {S : Type 0} (answering : Answering S) (R : S → Server → Type 0) (g : Geometry) (isolates : IsolatesFaults answering g R) (q : Asking) (small : q.now < 2 ^ 64) (bytes : All (λ b. b < 256) q.text) where
  module _ (history : List Entry) (nth messages : ℕ) (s : S) (stands : StandsBehind R g s history) (p : Placed) (calls : List Placed) (at : StandsAt g.buckets p) (asked : IsCallAt (limits_of g) q.text nth p) where
    abbrev n : ℕ
    n = q.first + nth

    abbrev t : Server
    t = stands.server

    abbrev a : Asked
    a = asked_in q nth messages p

    abbrev x : CallResult S
    x = answering s a

    abbrev here : RequestResult S
    here = answer_in answering q nth messages s p

    -- the entry of the plain server, and the one behind it
    abbrev e : Entry
    e = entry_for q.now q.connection n p (server_answer t q.now p).1

    next_kept : ServerKept g (server_answer t q.now p).0 (history ++ e ∷ [])
    next_kept = answer_kept g t history q.now q.connection n p at stands.kept

    same : history ≡ history ++ []
    same = sym (append-nil history)

    legal_none : IsLegal g (history ++ [])
    legal_none = subst (IsLegal g) same stands.kept.legal

    planned : PlannedFaultStruck R t a x → 0 < length q.plans
    planned struck = some_plans q.plans q.connection n struck.planned

    -- refused: nothing was done
    turned : x.served ≡ refused_served → R x.server t → PlannedFaultStruck R t a x → AnswersKept R g history q.connection n messages q.plans (p ∷ calls) here
    turned is related struck =
        let events : here.events ≡ ended_events q.connection n Refused x.strikes = ap (λ (v : Served). served_events q.connection n p v x.strikes) is in
        Turned []
        (record {
          own = subst (λ (es : List Event). IsOwnOf q.connection es [] []) (sym events) (own_ended q.connection n Refused x.strikes);
          calls_are = (p ∷ calls, refl);
          counted = tt;
          sent_is = ap (λ (v : Served). messages + length (message_of v.message)) is;
          legal = legal_none;
        })
        (ap (λ (v : Served). v.state) is) (planned struck)
        (subst GoesOn (sym events) (goes_refused q.connection x.strikes struck.struck))
        (record { server = t; related = related; kept = subst (ServerKept g t) same stands.kept })

    -- aborted, with this entry and this message

    goes_entered : (o : Option EntryOf) → GoesOn (entered_events q.connection n p o)
    goes_entered None = goes_nil
    goes_entered (Some v) = goes_entry (entry_for v.now q.connection n p v.reply)

    ends_here : (abort : Abort) → x.served.state ≡ Aborted abort → PlannedFaultStruck R t a x → EndsStruck here.events
    ends_here abort is struck =
        let last : EndsStruck (ended_events q.connection n x.served.state x.strikes) =
        subst (λ (state : State). EndsStruck (ended_events q.connection n state x.strikes)) (sym is) (ends_aborted q.connection n abort x.strikes struck.struck) in
        ends_append (entered_events q.connection n p x.served.entered) (sent_events q.connection x.served.message ++ ended_events q.connection n x.served.state x.strikes) (goes_entered x.served.entered)
        (ends_append (sent_events q.connection x.served.message) (ended_events q.connection n x.served.state x.strikes) (goes_sending q.connection (message_of x.served.message)) last)

    told_here : (abort : Abort) → x.served.state ≡ Aborted abort → has_abort here.events ≡ true
    told_here abort is =
        let last : has_abort (ended_events q.connection n x.served.state x.strikes) ≡ true = ap (λ (state : State). has_abort (ended_events q.connection n state x.strikes)) is in
        abort_behind (entered_events q.connection n p x.served.entered) (sent_events q.connection x.served.message ++ ended_events q.connection n x.served.state x.strikes)
        (abort_behind (sent_events q.connection x.served.message) (ended_events q.connection n x.served.state x.strikes) last)

    ended_with : (abort : Abort) → x.served.state ≡ Aborted abort → PlannedFaultStruck R t a x → (entries answered : List Entry) → IsPrefixOf (calls_in entries) (p ∷ calls) → AreCounted n entries
        → IsOwnOf q.connection (entered_events q.connection n p x.served.entered) entries [] → IsOwnOf q.connection (sent_events q.connection x.served.message) [] answered
        → length (message_of x.served.message) ≡ length (messages_of answered) → IsLegal g (history ++ entries) → IsPrefixOf answered entries
        → AnswersKept R g history q.connection n messages q.plans (p ∷ calls) here
    ended_with abort is struck entries answered are counted entered sent long legal first =
        Ended entries answered (part_last R g q history n messages p calls x.served x.strikes entries answered are counted entered sent long legal) first abort is (planned struck) (ends_here abort is struck) (told_here abort is)

    entered_none : x.served.entered ≡ None → IsOwnOf q.connection (entered_events q.connection n p x.served.entered) [] []
    entered_none f = subst (λ (o : Option EntryOf). IsOwnOf q.connection (entered_events q.connection n p o) [] []) (sym f) (own_none q.connection)

    entered_one : x.served.entered ≡ Some (entry R t a x) → IsOwnOf q.connection (entered_events q.connection n p x.served.entered) (e ∷ []) []
    entered_one f = subst (λ (o : Option EntryOf). IsOwnOf q.connection (entered_events q.connection n p o) (e ∷ []) []) (sym f) (own_entry e)

    sent_none : x.served.message ≡ [] → IsOwnOf q.connection (sent_events q.connection x.served.message) [] []
    sent_none f = subst (λ (m : List ℕ). IsOwnOf q.connection (sent_events q.connection m) [] []) (sym f) (own_none q.connection)

    sent_one : x.served.message ≡ reply R t a x → IsOwnOf q.connection (sent_events q.connection x.served.message) [] (e ∷ [])
    sent_one f = subst (λ (m : List ℕ). IsOwnOf q.connection (sent_events q.connection m) [] (e ∷ [])) (sym f) (own_message q.connection e)

    none_long : x.served.message ≡ [] → length (message_of x.served.message) ≡ 0
    none_long f = ap (λ (m : List ℕ). length (message_of m)) f

    ended : (abort : Abort) → x.served.state ≡ Aborted abort → PlannedFaultStruck R t a x
        → (x.served.entered ≡ None) ⊎ (x.served.entered ≡ Some (entry R t a x)) → (x.served.message ≡ []) ⊎ ((x.served.entered ≡ Some (entry R t a x)) × (x.served.message ≡ reply R t a x))
        → AnswersKept R g history q.connection n messages q.plans (p ∷ calls) here
    ended abort is struck (inl none) (inl silent) = ended_with abort is struck [] [] (p ∷ calls, refl) tt (entered_none none) (sent_none silent) (none_long silent) legal_none ([], refl)
    ended abort is struck (inr some) (inl silent) =
        ended_with abort is struck (e ∷ []) [] (calls, refl) (refl, tt) (entered_one some) (sent_none silent) (none_long silent) next_kept.legal (e ∷ [], refl)
    ended abort is struck enters (inr said) =
        ended_with abort is struck (e ∷ []) (e ∷ []) (calls, refl) (refl, tt) (entered_one said.0) (sent_one said.1)
        (ap (λ (m : List ℕ). length (message_of m)) said.1 ∙ ap length (sym (append-nil (message_of e.reply)))) next_kept.legal ([], refl)

    -- one call, and then the later ones
    pub call_kept : CallOutcome R t a x → ((s : S) → StandsBehind R g s (history ++ e ∷ []) → AnswersKept R g (history ++ e ∷ []) q.connection (q.first + (nth + 1)) here.messages q.plans calls (answers_by answering q (nth + 1) here.messages s calls))
        → AnswersKept R g history q.connection n messages q.plans (p ∷ calls) (on_with here (answers_by answering q (nth + 1) here.messages here.server calls) here.state)
    call_kept (AsThere there) rest =
        let later : RequestResult S = answers_by answering q (nth + 1) here.messages here.server calls in
        let finished : here.state ≡ Finished = ap (λ (v : Served). v.state) there.same in
        let events : here.events ≡ entry_events e = ap (λ (v : Served). served_events q.connection n p v x.strikes) there.same ∙ plain_events q.now q.connection n p (reply R t a x) x.strikes in
        let longer : here.messages ≡ messages + length (message_of e.reply) = ap (λ (v : Served). messages + length (message_of v.message)) there.same in
        subst (λ (state : State). AnswersKept R g history q.connection n messages q.plans (p ∷ calls) (on_with here later state)) (sym finished)
        (kept_more R g q history n (q.first + (nth + 1)) messages p calls e here later refl refl refl (omega arith) longer events
        (rest here.server (record { server = (server_answer t q.now p).0; related = there.server; kept = next_kept })))
    call_kept (TurnedAway is related struck) rest =
        subst (λ (state : State). AnswersKept R g history q.connection n messages q.plans (p ∷ calls) (on_with here (answers_by answering q (nth + 1) here.messages here.server calls) state)) (sym (ap (λ (v : Served). v.state) is))
        (turned is related struck)
    call_kept (Stopped abort is harmless struck) rest =
        subst (λ (state : State). AnswersKept R g history q.connection n messages q.plans (p ∷ calls) (on_with here (answers_by answering q (nth + 1) here.messages here.server calls) state)) (sym is)
        (ended abort is struck harmless.enters harmless.sends)

  -- calls from number `nth` on
  pub answers_kept : (history : List Entry) (nth messages : ℕ) (s : S) (calls : List Placed) → All (StandsAt g.buckets) calls → ((k : ℕ) (p : Placed) → slice_get calls k ≡ Some p → IsCallAt (limits_of g) q.text (nth + k) p)
      → StandsBehind R g s history → AnswersKept R g history q.connection (q.first + nth) messages q.plans calls (answers_by answering q nth messages s calls)
  answers_kept history nth messages s [] at asked stands = kept_none R g q history (q.first + nth) messages s stands
  answers_kept history nth messages s (p ∷ calls) at asked stands =
      let first : nth + 0 ≡ nth = omega arith in
      let is : IsCallAt (limits_of g) q.text nth p = subst (λ (k : ℕ). IsCallAt (limits_of g) q.text k p) first (asked 0 p refl) in
      let placed : StandsAt g.buckets p = at 0 p (omega arith) in
      let e : Entry = entry_for q.now q.connection (q.first + nth) p (server_answer stands.server q.now p).1 in
      call_kept history nth messages s stands p calls placed is
      (isolates s stands.server (asked_in q nth messages p) (record { call = is; bytes = bytes; small = small }) stands.related)
      (λ behind later. answers_kept (history ++ e ∷ []) (nth + 1) (answer_in answering q nth messages s p).messages behind calls (λ k d h. at (suc k) d (omega (arith, h)))
      (λ k d f. let next : nth + suc k ≡ nth + 1 + k = omega arith in subst (λ (j : ℕ). IsCallAt (limits_of g) q.text j d) next (asked (suc k) d f)) later)
