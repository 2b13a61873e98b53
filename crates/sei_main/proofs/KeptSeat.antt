-- What a connection keeps.
use Rattle.std.proofs.Common.{◌≡◌, ℕ, suc, ◌+◌, ◌≤◌, Bool, false, Option, None, List, [], ◌∷◌, ◌++◌, length, drop, refl, ap, sym, ◌∙◌, subst, arith, Some}
use Rattle.std.specs.Prelude.{if◌then◌else◌}
use Rattle.std.specs.List.{flat_map}
use Rattle.std.proofs.lemmas.List.{append_assoc, append-nil, length-append, length-drop, drop-drop, drop-append-le, map-append}
use Rattle.std.proofs.lemmas.List.Concat.{flat_map-append}
use Rattle.mc_model.specs.Call.{Placed}
use Rattle.mc_text.specs.declared.limits.Limits.{Limits}
use Rattle.mc_text.specs.Meaning.{Meaning, calls_of, ends_connection}
use Rattle.mc_text.specs.Front.{front}
use Rattle.mc_text.specs.Stream.{Takes, up_to_end, requests}
use Rattle.mc_text.proofs.Public.{takes_more, takes_push}
use Rattle.sei_main.specs.History.{Entry, placed_in}
use Rattle.sei_main.specs.Own.{AreCounted, calls_in, message_of, messages_of}
use Rattle.sei_main.specs.Seats.{Seat, empty_seat, waiting, fed_more, taken_more}
use Rattle.sei_main.specs.State.{next_request}
use Rattle.sei_main.proofs.Rounds.{IsWithin, next_within}

-- fed: what was fed so far; own: the connection's entries; sent: the messages that it was sent
pub record SeatKept (l : Limits) (fed : List ℕ) (own : List Entry) (sent : List (List ℕ)) (seat : Seat) : Type 0 where
  pub fed_is : seat.fed ≡ fed
  pub requests : List Meaning  -- those that were answered
  pub takes : Takes l fed requests (waiting seat)
  pub calls : calls_in own ≡ flat_map (calls_of l.buckets) requests
  pub ends : (more : List Meaning) → up_to_end (requests ++ more) ≡ requests ++ (if seat.closed then [] else up_to_end more)
  pub counted : AreCounted 0 own
  pub entered : seat.entered ≡ length own
  pub messages : sent ≡ messages_of own
  pub sent_is : seat.sent ≡ length sent
  pub within : seat.consumed ≤ length seat.fed

pub empty_kept : (l : Limits) → SeatKept l [] [] [] empty_seat
empty_kept l = record {
  fed_is = refl;
  requests = [];
  takes = refl;
  calls = refl;
  ends = λ more. refl;
  counted = tt;
  entered = refl;
  messages = refl;
  sent_is = refl;
  within = omega arith;
}

-- bytes were fed
unfoldable pub fed_kept : (l : Limits) (fed bytes : List ℕ) (own : List Entry) (sent : List (List ℕ)) (seat : Seat) → SeatKept l fed own sent seat → SeatKept l (fed ++ bytes) own sent (fed_more seat bytes)
fed_kept l fed bytes own sent seat h =
    let more : waiting seat ++ bytes ≡ waiting (fed_more seat bytes) = sym (drop-append-le seat.consumed seat.fed bytes h.within) in
    record {
      fed_is = ap (λ (xs : List ℕ). xs ++ bytes) h.fed_is;
      requests = h.requests;
      takes = subst (λ (w : List ℕ). Takes l (fed ++ bytes) h.requests w) more (takes_more l fed bytes h.requests (waiting seat) h.takes);
      calls = h.calls;
      ends = h.ends;
      counted = h.counted;
      entered = h.entered;
      messages = h.messages;
      sent_is = h.sent_is;
      within = omega (arith, h.within, length-append seat.fed bytes);
    }

pub counted_append : (n : ℕ) (xs ys : List Entry) → AreCounted n xs → AreCounted (n + length xs) ys → AreCounted n (xs ++ ys)
counted_append n [] ys h k = let e : n + 0 ≡ n = omega arith in subst (λ (m : ℕ). AreCounted m ys) e k
counted_append n (x ∷ xs) ys h k =
    let e : n + length (x ∷ xs) ≡ n + 1 + length xs = omega arith in
    (h.0, counted_append (n + 1) xs ys h.1 (subst (λ (m : ℕ). AreCounted m ys) e k))

-- an open connection goes on to end where a request ends it
ends_more : (requests more : List Meaning) (closed : Bool) (m : Meaning) → closed ≡ false
    → ((more : List Meaning) → up_to_end (requests ++ more) ≡ requests ++ (if closed then [] else up_to_end more))
    → up_to_end ((requests ++ m ∷ []) ++ more) ≡ (requests ++ m ∷ []) ++ (if ends_connection m then [] else up_to_end more)
ends_more requests more closed m e h =
    ap up_to_end (append_assoc requests (m ∷ []) more) ∙ h (m ∷ more)
    ∙ ap (λ (b : Bool). requests ++ (if b then [] else up_to_end (m ∷ more))) e
    ∙ sym (append_assoc requests (m ∷ []) (if ends_connection m then [] else up_to_end more))

-- a request was answered, with these entries
pub taken_kept : (l : Limits) (fed : List ℕ) (own : List Entry) (sent : List (List ℕ)) (seat : Seat) (size : ℕ) (m : Meaning) (entries : List Entry)
    → next_request l seat ≡ Some (size, m) → calls_in entries ≡ calls_of l.buckets m → AreCounted seat.entered entries → SeatKept l fed own sent seat
    → SeatKept l fed (own ++ entries) (sent ++ messages_of entries) (taken_more seat size (length (calls_of l.buckets m)) (length (messages_of entries)) (ends_connection m))
taken_kept l fed own sent seat size m entries next calls counted h =
    let w : IsWithin seat size = next_within l seat size m next in
    let front : front l (waiting seat) ≡ Some (size, m) = sym (ap (λ (b : Bool). next_by b) w.opened) ∙ next in
    let behind : drop size (waiting seat) ≡ drop (seat.consumed + size) seat.fed = drop-drop size seat.consumed seat.fed in
    let long : length entries ≡ length (calls_of l.buckets m) = sym (length_calls entries) ∙ ap length calls in
    record {
      fed_is = h.fed_is;
      requests = h.requests ++ m ∷ [];
      takes = subst (λ (x : List ℕ). Takes l fed (h.requests ++ m ∷ []) x) behind (takes_push l fed h.requests (waiting seat) size m h.takes front);
      calls = map-append placed_in own entries
          ∙ ap (λ (x : List Placed). x ++ calls_in entries) h.calls
          ∙ ap (λ (x : List Placed). flat_map (calls_of l.buckets) h.requests ++ x) (calls ∙ sym (append-nil (calls_of l.buckets m)))
          ∙ sym (flat_map-append (calls_of l.buckets) h.requests (m ∷ []));
      ends = λ more. ends_more h.requests more seat.closed m w.opened h.ends;
      counted = counted_append 0 own entries h.counted (let e : seat.entered ≡ 0 + length own = omega (arith, h.entered) in subst (λ (n : ℕ). AreCounted n entries) e counted);
      entered = omega (arith, h.entered, long, length-append own entries);
      messages = ap (λ (x : List (List ℕ)). x ++ messages_of entries) h.messages ∙ sym (flat_map-append (λ (e : Entry). message_of e.reply) own entries);
      sent_is = omega (arith, h.sent_is, length-append sent (messages_of entries));
      within = omega (arith, w.within, length-drop seat.consumed seat.fed);
    }
  where
    next_by : Bool → Option (ℕ × Meaning)
    next_by b = if b then None else front l (waiting seat)

    length_calls : (es : List Entry) → length (calls_in es) ≡ length es
    length_calls [] = refl
    length_calls (e ∷ es) = ap (λ (n : ℕ). suc n) (length_calls es)
