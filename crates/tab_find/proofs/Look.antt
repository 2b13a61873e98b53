-- What the look at one slot does.
use Rattle.std.proofs.Common.{◌≡◌, ◌≢◌, ℕ, ◌+◌, ◌-◌, ◌%◌, ◌^◌, ◌<◌, ◌≤◌, ◌⊎◌, inl, inr, List, length, refl, sym, ap, ◌∙◌, arith}
use Rattle.std.specs.Prelude.{slice_index}
use Rattle.sei_code.specs.Codes.{fnv64}
use Rattle.mc_model.specs.declared.geometry.Geometry.{Geometry}
use Rattle.mc_model.specs.Packed.{words_for, pack}
use Rattle.sei_words.specs.Layout.{slot_at, word_count, field, used_offset, hash_offset, key_length_offset, expiry_offset, key_offset}
use Rattle.sei_words.specs.Free.{IsTaken}
use Rattle.sei_words.proofs.PublicSlots.{taken_is, unused_is_free, expired_is_free}
use Rattle.sei_stmt.specs.Runs.{Given, RunState, tick, write}
use Rattle.sei_stmt.specs.Programs.{Ends}
use Rattle.sei_stmt.proofs.Public.{then_so}
use Rattle.tab_find.specs.FindPrograms.{compare_key, look, look_expiry, look_hash, look_length}
use Rattle.tab_find.specs.Registers.{r_place, r_base, r_address, r_word}
use Rattle.tab_find.proofs.SlotReads.{loads, goes_on}
use Rattle.tab_find.proofs.Ready.{Seeks, IsReady, looking}
use Rattle.tab_find.proofs.Compare.{Compared, compare_ends}

-- the slot is taken, and has the hash, the length and the words of the key
pub record Fits (g : Geometry) (words : List ℕ) (moment : ℕ) (key : List ℕ) (i : ℕ) : Type 0 where
  pub taken : IsTaken g words moment i
  pub hash : field g words i hash_offset ≡ fnv64 key
  pub key_length : field g words i key_length_offset ≡ length key
  pub same : (j : ℕ) → j < words_for (length key) → field g words i (key_offset + j) ≡ slice_index (pack key) j

-- one less than the expiry is below the moment exactly if the item has expired

expired_word : (expiry m : ℕ) → m < 2 ^ 64 → expiry < 2 ^ 64 → (expiry + 2 ^ 64 - 1) % 2 ^ 64 < m → (expiry ≢ 0) × (expiry ≤ m)
expired_word expiry m few less lt = (omega arith, omega arith)

live_word : (expiry m : ℕ) → m ≤ (expiry + 2 ^ 64 - 1) % 2 ^ 64 → (expiry ≡ 0) ⊎ (m < expiry)
live_word expiry m le = grind arith

module _ (g : Geometry) (e : Given) (ws : List ℕ) (m : ℕ) (key : List ℕ) (seeks : Seeks g e ws m key) (i : ℕ) (lt : i < g.slots) where
  -- the place is the slot's, which fits, or the end of all slots, and the slot does not fit
  abbrev pub Seen : ℕ → Type 0
  Seen place = ((place ≡ slot_at g i) × Fits g ws m key i) ⊎ ((place ≡ word_count g) × (Fits g ws m key i → ⊥))

  -- after the look
  pub record Looked (bound : ℕ) (t : RunState) : Type 0 where
    pub steps : t.steps ≤ bound
    pub found : Seen (t.regs r_place)

  -- the key of a taken slot with the call's hash, from its length on
  length_ends : (s : RunState) (bound : ℕ) → IsReady g ws m key s → s.regs r_base ≡ slot_at g i → s.regs r_place ≡ word_count g → s.regs r_address ≡ slot_at g i + hash_offset → IsTaken g ws m i → field g ws i hash_offset ≡ fnv64 key → s.steps + 250 ≤ bound → Ends e look_length s (Looked bound)
  length_ends s bound r base place address taken hash steps = (
    slot_at g i + (hash_offset + 1),
    goes_on g i _ _ hash_offset 1 seeks.valid lt address r.constants.one (omega arith),
    (
      field g ws i key_length_offset,
      loads g ws s.words i _ key_length_offset seeks.size r.same lt (omega arith) (omega arith),
      (
        λ same.
            let u : RunState = tick (write (write s r_address (slot_at g i + (hash_offset + 1))) r_word (field g ws i key_length_offset)) in
            then_so e looking compare_key u (Compared g e ws m key seeks i lt (s.steps + 240)) (Looked bound) refl
            (λ t f c. elim c.found [
              | inl h ↦ record { steps = omega (arith, c.steps, steps); found = inl (h.0, record { taken = taken; hash = hash; key_length = same ∙ r.loaded.key_length; same = h.1 }) }
              | inr h ↦ record { steps = omega (arith, c.steps, steps); found = inr (h.0, λ fits. h.1 fits.same) }
            ])
            (compare_ends g e ws m key seeks i lt u (s.steps + 240) r base (omega arith)),
        λ other. record { steps = omega (arith, steps); found = inr (place, λ fits. other (fits.key_length ∙ sym r.loaded.key_length)) },
      ),
    ),
  )

  -- the hash, and then the rest
  hash_ends : (s : RunState) (bound : ℕ) → IsReady g ws m key s → s.regs r_base ≡ slot_at g i → s.regs r_place ≡ word_count g → IsTaken g ws m i → s.steps + 260 ≤ bound → Ends e look_hash s (Looked bound)
  hash_ends s bound r base place taken steps = (
    slot_at g i + (0 + 1),
    goes_on g i _ _ 0 1 seeks.valid lt (omega (arith, base)) r.constants.one (omega arith),
    (
      field g ws i hash_offset,
      loads g ws s.words i _ hash_offset seeks.size r.same lt (omega arith) (omega arith),
      (
        λ same. length_ends _ bound r base place (omega arith) taken (same ∙ r.loaded.hash) (omega (arith, steps)),
        λ other. record { steps = omega (arith, steps); found = inr (place, λ fits. other (fits.hash ∙ sym r.loaded.hash)) },
      ),
    ),
  )

  -- the expiry of a used slot, and then the rest
  expiry_ends : (s : RunState) (bound : ℕ) → IsReady g ws m key s → s.regs r_base ≡ slot_at g i → s.regs r_place ≡ word_count g → field g ws i used_offset ≢ 0 → s.steps + 270 ≤ bound → Ends e look_expiry s (Looked bound)
  expiry_ends s bound r base place used steps =
      let x = field g ws i expiry_offset in (
        slot_at g i + (0 + expiry_offset),
        goes_on g i _ _ 0 expiry_offset seeks.valid lt (omega (arith, base)) r.constants.to_expiry (omega arith),
        (
          x,
          loads g ws s.words i _ expiry_offset seeks.size r.same lt (omega arith) (omega arith),
          (
            (x + 2 ^ 64 - 1) % 2 ^ 64,
            ap (λ n. (x + 2 ^ 64 - n) % 2 ^ 64) r.constants.one,
            (
              λ over. record {
                steps = omega (arith, steps);
                found = inr (place, λ fits. let h = expired_word x m seeks.moment (seeks.expiry i lt fits.taken) (omega (arith, over, r.constants.moment)) in expired_is_free g ws m i h.0 h.1 fits.taken);
              },
              λ live.
                  let u : RunState = tick (write (write (write s r_address (slot_at g i + (0 + expiry_offset))) r_word x) r_word ((x + 2 ^ 64 - 1) % 2 ^ 64)) in
                  then_so e looking look_hash u (Looked (s.steps + 268)) (λ t. Looked bound (tick t)) refl (λ t f l. record { steps = omega (arith, l.steps, steps); found = l.found })
                  (hash_ends u (s.steps + 268) r base place (taken_is g ws m i used (live_word x m (omega (arith, live, r.constants.moment)))) (omega arith)),
            ),
          ),
        ),
      )

  pub look_ends : (s : RunState) (bound : ℕ) → IsReady g ws m key s → s.regs r_base ≡ slot_at g i → s.regs r_place ≡ word_count g → s.steps + 274 ≤ bound → Ends e look s (Looked bound)
  look_ends s bound r base place steps = (
    field g ws i used_offset,
    loads g ws s.words i _ used_offset seeks.size r.same lt (omega (arith, base)) (omega arith),
    (
      λ free. record { steps = omega (arith, steps); found = inr (place, λ fits. unused_is_free g ws m i (free ∙ r.constants.none) fits.taken) },
      λ used.
          let u : RunState = tick (write s r_word (field g ws i used_offset)) in
          then_so e looking look_expiry u (Looked (s.steps + 273)) (λ t. Looked bound (tick t)) refl (λ t f l. record { steps = omega (arith, l.steps, steps); found = l.found })
          (expiry_ends u (s.steps + 273) r base place (λ z. used (z ∙ sym r.constants.none)) (omega arith)),
    ),
  )
