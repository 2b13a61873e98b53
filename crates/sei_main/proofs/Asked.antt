-- What a server is asked, from what was read, and what it may take for granted of it.
use Rattle.std.proofs.Common.{◌≡◌, ℕ, zero, suc, ◌<◌, List, [], ◌∷◌, length, ap, sym, ◌∙◌, subst, arith, Some}
use Rattle.std.specs.Prelude.{slice_get}
use Rattle.std.proofs.lemmas.List.Elements.{All-get_or}
use Rattle.std.proofs.lemmas.Option.{get_or_from_slice_get}
use Rattle.mc_model.specs.Call.{Placed}
use Rattle.mc_text.specs.declared.limits.Limits.{Limits}
use Rattle.mc_text.specs.declared.request.Request.{Request}
use Rattle.mc_text.specs.Meaning.{calls_of}
use Rattle.mc_text.specs.Fits.{IsFit}
use Rattle.mc_text.specs.Reading.{IsReading, meaning_at, calls_at}
use Rattle.mc_text.proofs.Public.{calls_fit}
use Rattle.sei_main.specs.Asked.{IsCallAt}

-- a call of a request that was read
pub call_at : (l : Limits) (text : List ℕ) (r : Request) (nth : ℕ) (p : Placed) → IsReading l text r → Some p ≡ slice_get (calls_at text r) nth → IsCallAt l text nth p
call_at l text r nth p i e = record {
  some_buckets = omega (arith, i.of.some_buckets, i.buckets);
  meaning = meaning_at text r;
  spelled = i.spelled;
  call = sym (e ∙ ap (λ (calls : List Placed). slice_get calls nth) i.calls);
}

there : (calls : List Placed) (nth : ℕ) (p : Placed) → slice_get calls nth ≡ Some p → nth < length calls
there [] nth p e = cc
there (x ∷ calls) zero p e = omega arith
there (x ∷ calls) (suc nth) p e = omega (arith, there calls nth p e)

-- it stands at its own bucket, a key has its form, a block is within the limit
pub call_fits : (l : Limits) (text : List ℕ) (nth : ℕ) (p : Placed) → IsCallAt l text nth p → IsFit l p
call_fits l text nth p c =
    let calls : List Placed = calls_of l.buckets c.meaning in
    subst (IsFit l) (get_or_from_slice_get calls nth p p c.call)
    (All-get_or (IsFit l) calls nth p (there calls nth p c.call) (calls_fit l text c.meaning c.some_buckets c.spelled))
