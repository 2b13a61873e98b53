-- The calls of a request that waits: each is fit and stands at its own bucket, and there are no more than bytes.
use Rattle.std.proofs.Common.{◌≡◌, ℕ, suc, ◌<◌, ◌≤◌, ◌*◌, Bool, true, false, List, [], ◌∷◌, length, take, drop, refl, ap, arith, Some, None}
use Rattle.std.specs.Prelude.{if◌then◌else◌, All}
use Rattle.std.proofs.lemmas.List.{length-take, length-drop}
use Rattle.mc_model.specs.Call.{Call}
use Rattle.mc_text.specs.declared.limits.Limits.{Limits}
use Rattle.mc_text.specs.declared.parsed.Kind.{Kind}
use Rattle.mc_text.specs.declared.parsed.Kind.TheVariants as kinds
use Rattle.mc_text.specs.declared.request.Request.{Request}
use Rattle.mc_text.specs.Words.{words}
use Rattle.mc_text.specs.Lines.{some_words}
use Rattle.mc_text.specs.Meaning.{Meaning, key_calls, calls_of}
use Rattle.mc_text.specs.Fits.{IsFit}
use Rattle.mc_text.specs.Parsed.{by_kind}
use Rattle.mc_text.specs.Reading.{buckets_of, calls_at}
use Rattle.mc_text.specs.Front.{front}
use Rattle.mc_text.proofs.Public.{front_reads, calls_fit, words_few, length-bucket_calls}
use Rattle.sei_main.specs.Seats.{Seat, waiting}
use Rattle.sei_main.specs.State.{next_request}
use Rattle.sei_main.proofs.KeptServer.{StandsAt}

pub next_fits : (l : Limits) (seat : Seat) (size : ℕ) (m : Meaning) → next_request l seat ≡ Some (size, m) → 0 < l.buckets → All (IsFit l) (calls_of l.buckets m)
next_fits l seat size m e some = by seat.closed e
  where
    by : (closed : Bool) → (if closed then None else front l (waiting seat)) ≡ Some (size, m) → All (IsFit l) (calls_of l.buckets m)
    by true q = cc
    by false q = calls_fit l (take size (waiting seat)) m some (front_reads l (waiting seat) size m q).spelled

pub calls_stand : (l : Limits) (seat : Seat) (size : ℕ) (m : Meaning) → next_request l seat ≡ Some (size, m) → 0 < l.buckets → All (StandsAt l.buckets) (calls_of l.buckets m)
calls_stand l seat size m e some =
    let fit = next_fits l seat size m e some in
    λ k d h. let f = fit k d h in record { placed = f.placed; bucket = f.bucket }

length-key_calls : (buckets : ℕ) (c : Call) (keys : List (List ℕ)) → length (key_calls buckets c keys) ≡ length keys
length-key_calls buckets c [] = refl
length-key_calls buckets c (k ∷ ks) = ap suc (length-key_calls buckets c ks)

-- at most 64 calls for each byte
pub few_calls : (text : List ℕ) (r : Request) → 0 < length text → buckets_of r ≤ 64 → length (calls_at text r) ≤ 64 * length text
unfolding calls_of
few_calls text r some few_buckets = by r.template.kind _
  where
    ws : List (List ℕ)
    ws = words (take r.line text)

    few : length (some_words ws r.template.first r.template.count) ≤ length text
    few = omega (arith, length-take r.template.count (drop r.template.first ws), length-drop r.template.first ws, words_few (take r.line text), length-take r.line text)

    by : (k : Kind) → (c : Call) → length (calls_of (buckets_of r) (by_kind k c (some_words ws r.template.first r.template.count))) ≤ 64 * length text
    by kinds.Quit c = omega arith
    by (kinds.One closing) c = omega (arith, some)
    by kinds.Each c = omega (arith, few, length-key_calls (buckets_of r) c (some_words ws r.template.first r.template.count))
    by kinds.Everywhere c = omega (arith, some, few_buckets, length-bucket_calls c 0 (buckets_of r))
