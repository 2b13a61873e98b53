-- What the server keeps: its buckets are those that the history leads to.
use Rattle.std.proofs.Common.{◌≡◌, ◌≢◌, ℕ, zero, suc, ◌<◌, Bool, true, false, List, [], ◌∷◌, ◌++◌, length, refl, ap, sym, ◌∙◌, subst, arith}
use Rattle.std.specs.Prelude.{if◌then◌else◌, ◌==◌, slice_set, slice_index_or, replicate}
use Rattle.std.proofs.lemmas.Bool.Decides.{nat_tests}
use Rattle.std.proofs.lemmas.List.{append_assoc, append-nil, length-set, length-replicate, get_or-set_same, get_or-set_other}
use Rattle.mc_model.specs.declared.geometry.Geometry.{Geometry}
use Rattle.mc_model.specs.declared.call.Room.{Room}
use Rattle.mc_model.specs.Bucket.{Bucket, empty_bucket}
use Rattle.mc_model.specs.Call.{Placed, IsPlaced}
use Rattle.mc_model.specs.Answer.{answer}
use Rattle.mc_model.specs.Server.{Server, room_of, empty_server, bucket_at, server_answer}
use Rattle.sei_main.specs.History.{Entry, led_through, state_after, IsLegalEntry, IsLegalBehind, IsLegal}
use Rattle.sei_main.specs.State.{entry_for}

pub record ServerKept (g : Geometry) (server : Server) (history : List Entry) : Type 0 where
  pub room : server.room ≡ room_of g
  pub size : length server.buckets ≡ g.buckets
  pub legal : IsLegal g history
  pub buckets : (b : ℕ) → b < g.buckets → bucket_at server b ≡ state_after (room_of g) b history

-- a call that stands at its own bucket, which is one of the server's
pub record StandsAt (buckets : ℕ) (p : Placed) : Type 0 where
  pub placed : IsPlaced buckets p
  pub bucket : p.bucket < buckets

-- each bucket of the empty server is empty
pub empty_at : (n b : ℕ) → slice_index_or (replicate n empty_bucket) b empty_bucket ≡ empty_bucket
empty_at zero zero = refl
empty_at zero (suc b) = refl
empty_at (suc n) zero = refl
empty_at (suc n) (suc b) = empty_at n b

pub start_server : (g : Geometry) → ServerKept g (empty_server g) []
start_server g = record {
  room = refl;
  size = length-replicate g.buckets empty_bucket;
  legal = tt;
  buckets = λ b h. empty_at g.buckets b;
}

legal_push : (g : Geometry) (earlier entries : List Entry) (entry : Entry) → IsLegalBehind g earlier entries → IsLegalEntry g (earlier ++ entries) entry → IsLegalBehind g earlier (entries ++ entry ∷ [])
legal_push g earlier [] entry h a = (subst (λ (es : List Entry). IsLegalEntry g es entry) (append-nil earlier) a, tt)
legal_push g earlier (x ∷ entries) entry h a =
    (h.0, legal_push g (earlier ++ x ∷ []) entries entry h.1 (subst (λ (es : List Entry). IsLegalEntry g es entry) (sym (append_assoc earlier (x ∷ []) entries)) a))

led_push : (room : Room) (b : ℕ) (bucket : Bucket) (entries : List Entry) (entry : Entry)
    → led_through room b bucket (entries ++ entry ∷ []) ≡ (if entry.bucket == b then (answer room (led_through room b bucket entries) entry.now entry.call).0 else led_through room b bucket entries)
led_push room b bucket [] entry = refl
led_push room b bucket (x ∷ entries) entry = led_push room b (if x.bucket == b then (answer room bucket x.now x.call).0 else bucket) entries entry

bucket_by : (g : Geometry) (server : Server) (history : List Entry) (p : Placed) (time c n b : ℕ) (test : Bool) → (p.bucket == b) ≡ test → b < g.buckets → p.bucket < g.buckets → ServerKept g server history
    → bucket_at (server_answer server time p).0 b ≡ (if test then (answer (room_of g) (state_after (room_of g) b history) time p.call).0 else state_after (room_of g) b history)
bucket_by g server history p time c n b true q h i k =
    let same : p.bucket ≡ b = grind (arith, nat_tests) in
    let new : Bucket = (answer server.room (bucket_at server p.bucket) time p.call).0 in
    let inside : p.bucket < length server.buckets = omega (arith, i, k.size) in
    ap (λ (x : ℕ). slice_index_or (slice_set server.buckets p.bucket new) x empty_bucket) (sym same)
    ∙ get_or-set_same server.buckets p.bucket new empty_bucket inside
    ∙ ap (λ (r : Room). (answer r (bucket_at server p.bucket) time p.call).0) k.room
    ∙ ap (λ (x : ℕ). (answer (room_of g) (bucket_at server x) time p.call).0) same
    ∙ ap (λ (x : Bucket). (answer (room_of g) x time p.call).0) (k.buckets b h)
bucket_by g server history p time c n b false q h i k =
    let other : b ≢ p.bucket = grind (arith, nat_tests) in
    get_or-set_other server.buckets p.bucket b (answer server.room (bucket_at server p.bucket) time p.call).0 empty_bucket other ∙ k.buckets b h

-- a call was answered
pub answer_kept : (g : Geometry) (server : Server) (history : List Entry) (time c n : ℕ) (p : Placed) → StandsAt g.buckets p → ServerKept g server history
    → ServerKept g (server_answer server time p).0 (history ++ entry_for time c n p (server_answer server time p).1 ∷ [])
answer_kept g server history time c n p s k =
    let a = server_answer server time p in
    let entry = entry_for time c n p a.1 in
    let reply : a.1 ≡ (answer (room_of g) (state_after (room_of g) p.bucket history) time p.call).1 =
    ap (λ (r : Room). (answer r (bucket_at server p.bucket) time p.call).1) k.room
    ∙ ap (λ (b : Bucket). (answer (room_of g) b time p.call).1) (k.buckets p.bucket s.bucket) in
    record {
      room = k.room;
      size = length-set server.buckets p.bucket _ ∙ k.size;
      legal = legal_push g [] history entry k.legal (record { placed = s.placed; reply = reply });
      buckets = λ b h. bucket_by g server history p time c n b (p.bucket == b) refl h s.bucket k ∙ sym (led_push (room_of g) b empty_bucket history entry);
    }
