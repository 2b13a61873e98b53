-- A server as words answers as the plain server does.
use Rattle.std.proofs.Common.{◌≡◌, ℕ, ◌<◌, length, inl, inr, refl, sym, ap, ◌∙◌, subst, arith}
use Rattle.std.specs.Prelude.{All, slice_set}
use Rattle.std.specs.List.{range_with_len}
use Rattle.std.proofs.lemmas.List.Elements.{All-map}
use Rattle.std.proofs.lemmas.Bool.{cases_eq}
use Rattle.std.proofs.lemmas.List.{length-replicate, get_or-set_same, get_or-set_other}
use Rattle.mc_model.specs.declared.geometry.Geometry.{Geometry}
use Rattle.mc_model.specs.Bucket.{Bucket, empty_bucket}
use Rattle.mc_model.specs.Call.{Placed}
use Rattle.mc_model.specs.Server.{IsValid, Server, empty_server, bucket_at}
use Rattle.std.proofs.lemmas.List.FromFn.{length-map-range_with_len, get_or-map-range_with_len}
use Rattle.sei_words.specs.Words.{BucketWords, fresh_words}
use Rattle.sei_words.proofs.Public.{fresh_stands}
use Rattle.mc_text.specs.Fits.{HasBytes}
use Rattle.sei_hand.specs.ReadCall.{IsReadCall}
use Rattle.sei_hand.specs.Served.{Stands}
use Rattle.sei_main.proofs.KeptServer.{empty_at}
use Rattle.sei_main.specs.Tables.{Tables, IsOfGeometry, fresh_tables, bucket_words, IsBucketImage, AreServer, AreServerOf}

-- a call that is asked in bytes
pub record IsGood (g : Geometry) (p : Placed) : Type 0 where
  pub read : IsReadCall g p
  pub bytes : HasBytes p

-- one bucket has other words, and its bucket of the model is another
pub next_each : (g : Geometry) (t : Tables) (s : Server) (p : Placed) (w : BucketWords) (x : Bucket) → t.geometry ≡ g → p.bucket < g.buckets → AreServer t s → IsBucketImage g (record s { buckets = slice_set s.buckets p.bucket x }) p.bucket w →
    (b : ℕ) → b < g.buckets → IsBucketImage g (record s { buckets = slice_set s.buckets p.bucket x }) b (bucket_words (record t { buckets = slice_set t.buckets p.bucket w }) b)
next_each g t s p w x is within h new b lt = elim (cases_eq b p.bucket) [
  | inl e ↦
      let inside : p.bucket < length t.buckets = omega (arith, h.tables, ap (λ (y : Geometry). y.buckets) is, within) in
      subst (λ n. IsBucketImage g (record s { buckets = slice_set s.buckets p.bucket x }) n (bucket_words (record t { buckets = slice_set t.buckets p.bucket w }) n)) (sym e)
      (subst (IsBucketImage g (record s { buckets = slice_set s.buckets p.bucket x }) p.bucket) (sym (get_or-set_same t.buckets p.bucket w (fresh_words t.geometry p.bucket) inside)) new)
  | inr ne ↦
      let old = h.each b (omega (arith, lt, ap (λ (y : Geometry). y.buckets) is)) in
      let same : bucket_words (record t { buckets = slice_set t.buckets p.bucket w }) b ≡ bucket_words t b = get_or-set_other t.buckets p.bucket b w (fresh_words t.geometry b) ne in
      let still : bucket_at (record s { buckets = slice_set s.buckets p.bucket x }) b ≡ bucket_at s b = get_or-set_other s.buckets p.bucket b x empty_bucket ne in
      subst (IsBucketImage g (record s { buckets = slice_set s.buckets p.bucket x }) b) (sym same)
      (record { bucket = old.bucket; geometry = old.geometry ∙ is; stands = subst (Stands g (bucket_words t b).words) (sym still) (subst (λ (y : Geometry). Stands y (bucket_words t b).words (bucket_at s b)) is old.stands) })
]

-- fresh buckets are laid out as their geometry says
pub fresh_laid_out : (g : Geometry) → All (IsOfGeometry g) (fresh_tables g).buckets
fresh_laid_out g = All-map (IsOfGeometry g) (fresh_words g) (range_with_len 0 g.buckets) (λ k d lt. refl)

-- before anything was asked
pub fresh_are_server : (g : Geometry) → IsValid g → AreServerOf g (fresh_tables g) (empty_server g)
fresh_are_server g valid = record {
  geometry = refl;
  are = record {
    valid = valid;
    room = refl;
    tables = length-map-range_with_len (fresh_words g) 0 g.buckets;
    buckets = length-replicate g.buckets empty_bucket;
    each = λ b lt.
        let same : bucket_words (fresh_tables g) b ≡ fresh_words g b = get_or-map-range_with_len (fresh_words g) 0 g.buckets b b (fresh_words g b) lt (omega arith) in
        let empty : bucket_at (empty_server g) b ≡ empty_bucket = empty_at g.buckets b in
        subst (IsBucketImage g (empty_server g) b) (sym same)
        (record { bucket = refl; geometry = refl; stands = subst (Stands g (fresh_words g b).words) (sym empty) (record { stands = fresh_stands g; bounded = record { moment = omega arith; counter = omega arith; items = λ i d h. absurd (omega (arith, h)) } }) });
  };
}
