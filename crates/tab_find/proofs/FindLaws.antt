-- What the find's result says of the bucket that the words stand for.
use Rattle.std.proofs.Common.{◌≡◌, ℕ, ◌+◌, ◌*◌, ◌<◌, ◌≤◌, ◌^◌, ◌⊎◌, inl, inr, List, length, Option, Some, None, refl, sym, ap, ◌∙◌, subst, arith}
use Rattle.mc_model.specs.declared.geometry.Geometry.{Geometry}
use Rattle.mc_model.specs.Server.{IsValid}
use Rattle.mc_model.specs.Bucket.{Item, Bucket, lookup}
use Rattle.mc_model.specs.Packed.{words_for, pack}
use Rattle.mc_model.proofs.PublicPacking.{length_pack, pack_apart}
use Rattle.sei_words.specs.Layout.{word_count, field, expiry_offset}
use Rattle.sei_words.specs.Free.{IsTaken}
use Rattle.sei_words.specs.Stands.{Reads, StandsFor}
use Rattle.sei_words.proofs.PublicLayout.{key_word}
use Rattle.sei_stmt.specs.Runs.{Given, RunState}
use Rattle.sei_stmt.specs.Programs.{Ends, IsParsed}
use Rattle.sei_stmt.proofs.Public.{then_so}
use Rattle.tab_find.specs.Answers.{IsBounded, HasConstants}
use Rattle.tab_find.specs.Calls.{HasKey}
use Rattle.tab_find.specs.FindPrograms.{find_program}
use Rattle.tab_find.specs.Found.{IsPresent, KeyFound, Sought}
use Rattle.tab_find.specs.Registers.{r_place}
use Rattle.tab_find.proofs.BoundedLaws.{item_numbered}
use Rattle.tab_find.proofs.Ready.{Seeks, finding}
use Rattle.tab_find.proofs.Look.{Fits}
use Rattle.tab_find.proofs.FindEnds.{NoneBelow, Hit, Found, find_ends}

module _ (g : Geometry) (ws : List ℕ) (m : ℕ) (key : List ℕ) where
  -- a slot that fits has the key
  fits_key : (input : List ℕ) → HasKey input key → (i : ℕ) (k : List ℕ) (x : Item) → Fits g ws m key i → Reads g ws i k x → k ≡ key
  fits_key input call i k x f r =
      let same_length : length k ≡ length key = sym r.key_length ∙ f.key_length in
      let long : length (pack k) ≡ words_for (length key) = length_pack k ∙ ap words_for same_length in
      pack_apart k key r.key_bytes call.bytes same_length (λ j lt. sym (r.key j lt) ∙ sym (key_word g ws i j) ∙ f.same j (omega (arith, lt, long)))

  -- a taken slot with the key fits
  key_fits : (i : ℕ) (x : Item) → IsTaken g ws m i → Reads g ws i key x → Fits g ws m key i
  key_fits i x taken r =
      record { taken = taken; hash = r.hash; key_length = r.key_length; same = λ j lt. key_word g ws i j ∙ r.key j (omega (arith, lt, length_pack key)) }

module _ (g : Geometry) (e : Given) (ws : List ℕ) (b : Bucket) (key : List ℕ) (valid : IsValid g) (h : StandsFor g ws b) (bounded : IsBounded b) (call : HasKey e.input key) (some : 1 ≤ length key) where
  -- the item of a taken slot is one of the bucket
  taken_expiry : (i : ℕ) → i < g.slots → IsTaken g ws b.moment i → field g ws i expiry_offset < 2 ^ 64
  taken_expiry i lt taken =
      let o = h.holds.each i lt taken in
      omega (arith, o.2.expiry, (item_numbered b o.0 o.1 bounded o.3).expiry)

  seeks : Seeks g e ws b.moment key
  seeks = record { valid = valid; size = h.size; moment = bounded.moment; expiry = taken_expiry; call = call; some = some }

  -- the slot that fits has the key and its item
  present : (place : ℕ) → Hit g e ws b.moment key seeks place → (x : Item) × IsPresent g ws b key x place
  present place hit =
      let o = h.holds.each hit.slot hit.within hit.fits.taken in
      let same = fits_key g ws b.moment key e.input call hit.slot o.0 o.1 hit.fits o.2 in
      (o.1, record { slot = hit.slot; within = hit.within; begins = hit.begins; item = ap (λ k. lookup k b.items) (sym same) ∙ o.3; taken = hit.fits.taken; reads = subst (λ k. Reads g ws hit.slot k o.1) same o.2 })

  -- nothing fits: the key is absent
  absent : (o : Option Item) → NoneBelow g e ws b.moment key seeks g.slots → lookup key b.items ≡ o → lookup key b.items ≡ None
  absent None none is = is
  absent (Some x) none is =
      let o = h.holds.every key x is in
      absurd (none o.0 o.1 (key_fits g ws b.moment key o.0 x o.2 o.3))

  key_found : (place : ℕ) → (Hit g e ws b.moment key seeks place ⊎ ((place ≡ word_count g) × NoneBelow g e ws b.moment key seeks g.slots)) → KeyFound g ws b key place
  key_found place (inl hit) = inl (present place hit)
  key_found place (inr none) = inr (record { item = absent (lookup key b.items) none.1 refl; ends = none.0 })

  -- the find says which item the key has in the bucket that the words stand for, and where its slot begins
  pub find_stands : (s : RunState) (bound : ℕ) → IsParsed s.stage → s.words ≡ ws → HasConstants g b.moment s → s.steps + 300 * g.slots + 20 ≤ bound → Ends e find_program s (Sought g ws b key bound)
  find_stands s bound parsed same constants steps =
      then_so e finding find_program s (Found g e ws b.moment key seeks bound) (Sought g ws b key bound) refl
      (λ t f d. record { steps = d.steps; loaded = d.loaded; result = key_found (t.regs r_place) d.result })
      (find_ends g e ws b.moment key seeks s bound parsed same constants steps)
