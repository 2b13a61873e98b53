-- What the comparison of the key words does.
use Rattle.std.proofs.Common.{◌≡◌, ℕ, zero, suc, ◌+◌, ◌-◌, ◌*◌, ◌<◌, ◌≤◌, ◌⊎◌, inl, inr, List, length, refl, arith, below_more}
use Rattle.std.specs.Prelude.{slice_index}
use Rattle.mc_model.specs.declared.geometry.Geometry.{Geometry}
use Rattle.mc_model.specs.Packed.{words_for, pack}
use Rattle.mc_model.proofs.PublicPacking.{length_pack}
use Rattle.sei_words.specs.Layout.{slot_at, word_count, field, key_offset, key_room, value_offset}
use Rattle.sei_stmt.specs.Runs.{Given, RunState, tick}
use Rattle.sei_stmt.specs.Programs.{Ends}
use Rattle.sei_stmt.specs.Touch.{Framed}
use Rattle.sei_stmt.proofs.Public.{repeat}
use Rattle.tab_find.specs.FindPrograms.{compare_turn, compare_key}
use Rattle.tab_find.specs.Inputs.{key_index}
use Rattle.tab_find.specs.Registers.{r_place, r_base, r_address, r_index, r_limit}
use Rattle.tab_find.proofs.MachineLaws.{sum_is}
use Rattle.tab_find.proofs.SlotReads.{word_stands, loads, goes_on}
use Rattle.tab_find.proofs.Ready.{Seeks, IsReady, ready_framed, looking, looking_low}

module _ (g : Geometry) (e : Given) (ws : List ℕ) (m : ℕ) (key : List ℕ) (seeks : Seeks g e ws m key) (i : ℕ) (lt : i < g.slots) where
  abbrev count : ℕ
  count = words_for (length key)

  -- word j of the slot's key is that of the call's key
  abbrev pub Same : ℕ → Type 0
  Same j = field g ws i (key_offset + j) ≡ slice_index (pack key) j

  -- the first words are the same, of which so many were compared
  record Going (t : RunState) : Type 0 where
    seen : ℕ
    place : t.regs r_place ≡ slot_at g i
    address : t.regs r_address ≡ slot_at g i + (key_offset + seen)
    index : t.regs r_index ≡ key_index + seen
    within : seen ≤ count
    same : (j : ℕ) → j < seen → Same j

  -- a word was not
  record Differs (t : RunState) : Type 0 where
    place : t.regs r_place ≡ word_count g
    over : t.regs r_index ≡ key_index + count
    spot : ℕ
    within : spot < count
    differs : Same spot → ⊥

  record Turned (bound n : ℕ) (t : RunState) : Type 0 where
    limit : t.regs r_limit ≡ key_index + count
    left : key_index + count ≤ t.regs r_index + n
    steps : t.steps + 7 * n ≤ bound
    state : Going t ⊎ Differs t

  -- what the comparison found
  pub record Compared (bound : ℕ) (t : RunState) : Type 0 where
    pub steps : t.steps ≤ bound
    pub found : ((t.regs r_place ≡ slot_at g i) × ((j : ℕ) → j < count → Same j)) ⊎ ((t.regs r_place ≡ word_count g) × (((j : ℕ) → j < count → Same j) → ⊥))

  turn_ends : (t : RunState) (bound n : ℕ) → IsReady g ws m key t → t.regs r_limit ≡ key_index + count → (go : Going t) → go.seen < count → count ≤ go.seen + suc n → t.steps + 6 + 7 * n ≤ bound → Ends e compare_turn t (Turned bound n)
  turn_ends t bound n r limit go more left steps =
      let j = go.seen in
      let call = seeks.call in
      let room : key_offset + j < value_offset = omega (arith, more, call.fits) in (
        field g ws i (key_offset + j),
        loads g ws t.words i (t.regs r_address) (key_offset + j) seeks.size r.same lt go.address room,
        (
          r.parsed,
          slice_index (pack key) j,
          word_stands e.input (t.regs r_index) (key_index + j) (slice_index (pack key) j) go.index (omega (arith, call.room, more, call.fits)) (call.words j (omega (arith, more, length_pack key))),
          (
            λ eq. (
              slot_at g i + (key_offset + j + 1),
              goes_on g i _ _ (key_offset + j) 1 seeks.valid lt go.address r.constants.one (omega (arith, room)),
              (
                key_index + (j + 1),
                sum_is _ _ _ (omega (arith, go.index, r.constants.one)) (omega (arith, more, call.fits)),
                record { limit = limit; left = omega (arith, left); steps = omega (arith, steps); state = inl (record { seen = j + 1; place = go.place; address = omega arith; index = refl; within = omega (arith, more); same = below_more Same j go.same eq }) },
              ),
            ),
            λ ne. record { limit = limit; left = omega (arith, limit); steps = omega (arith, steps); state = inr (record { place = r.constants.ends; over = limit; spot = j; within = more; differs = ne }) },
          ),
        ),
      )

  module _ (s : RunState) (bound limit : ℕ) (r : IsReady g ws m key s) (more : bound + 1 ≤ limit) where
    next : (n : ℕ) (t : RunState) → Framed looking s t → Turned bound n t → t.regs r_index < t.regs r_limit → (k : ℕ) × (suc k ≡ n) × Ends e compare_turn (tick t) (Turned bound k)
    next n t f it h = by_state n it.left it.steps it.state
      where
        rt : IsReady g ws m key t
        rt = ready_framed looking g ws m key s t refl refl looking_low f r

        by_state : (n : ℕ) → key_index + count ≤ t.regs r_index + n → t.steps + 7 * n ≤ bound → (Going t ⊎ Differs t) → (k : ℕ) × (suc k ≡ n) × Ends e compare_turn (tick t) (Turned bound k)
        by_state zero left steps state = absurd (omega (arith, left, h, it.limit))
        by_state (suc k) left steps (inl go) =
            let there : Going (tick t) = record { seen = go.seen; place = go.place; address = go.address; index = go.index; within = go.within; same = go.same } in
            (k, refl, turn_ends (tick t) bound k rt it.limit there (omega (arith, h, go.index, it.limit)) (omega (arith, left, go.index)) (omega (arith, steps)))
        by_state (suc k) left steps (inr d) = absurd (omega (arith, d.over, h, it.limit))

    done : (n : ℕ) (t : RunState) → Framed looking s t → Turned bound n t → t.regs r_limit ≤ t.regs r_index → Compared limit (tick t)
    done n t f it le =
        elim it.state [
          | inl go ↦ record { steps = omega (arith, it.steps, more); found = inl (go.place, λ j h. go.same j (omega (arith, h, le, go.index, it.limit))) }
          | inr d ↦ record { steps = omega (arith, it.steps, more); found = inr (d.place, λ all. d.differs (all d.spot d.within)) }
        ]

  pub compare_ends : (s : RunState) (bound : ℕ) → IsReady g ws m key s → s.regs r_base ≡ slot_at g i → s.steps + 7 * key_room + 10 ≤ bound → Ends e compare_key s (Compared bound)
  compare_ends s bound r base steps =
      let most = s.steps + 7 * key_room + 9 in (
        slot_at g i + (0 + key_offset),
        goes_on g i _ _ 0 key_offset seeks.valid lt (omega (arith, base)) refl (omega arith),
        (
          key_index + count,
          sum_is _ _ _ (omega (arith, r.loaded.key_words)) (omega (arith, seeks.call.fits)),
          repeat e looking r_index r_limit compare_turn _ (Turned most) (Compared bound) refl
              (next _ most bound r (omega (arith, steps)))
              (done _ most bound r (omega (arith, steps)))
              (key_room - 1)
              (turn_ends _ most (key_room - 1) r refl (record { seen = 0; place = base; address = omega arith; index = omega arith; within = omega arith; same = λ j h. absurd (omega (arith, h)) }) (omega (arith, seeks.some)) (omega (arith, seeks.call.fits)) (omega arith)),
        ),
      )
