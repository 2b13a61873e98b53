-- What the stores before a slot's value do: those of an item's fields, and those of a new item's head.
use Rattle.std.proofs.Common.{◌≡◌, ℕ, ◌+◌, ◌^◌, ◌<◌, ◌≤◌, List, [], ◌∷◌, ◌++◌, length, refl, arith}
use Rattle.std.specs.Prelude.{false, true, nat_eq, ◌||◌}
use Rattle.std.proofs.Math.ListN.{length-set}
use Rattle.sei_words.specs.Layout.{flags_offset, key_offset}
use Rattle.sei_stmt.specs.declared.stmt.Stmt.{Stmt}
use Rattle.sei_stmt.specs.declared.stmt.Stmt.TheVariants.{Const, Add}
use Rattle.sei_stmt.specs.Runs.{Given, RunState}
use Rattle.sei_stmt.specs.Programs.{Post, BeforeAll, Ends}
use Rattle.sei_stmt.specs.Touch.{Touch}
use Rattle.tab_find.specs.Inputs.{key_index}
use Rattle.tab_find.specs.Registers.{r_one, r_key_length, r_hash, r_place, r_address, r_index, r_flags, r_expiry, r_unique, r_value_length}
use Rattle.tab_find.specs.StorePrograms.{item_fields, replace_fields, new_head}
use Rattle.tab_find.proofs.MachineLaws.{sum_is}
use Rattle.tab_find.proofs.Copy.{put_all}

-- an address, the index of an input word, and words
abbrev pub fielder : Touch
fielder = record { regs = λ r. nat_eq r r_address || nat_eq r r_index; words = true; out = false; stage = false }

-- the fields of an item as the registers have them
abbrev pub fields_of : RunState → List ℕ
fields_of s = s.regs r_flags ∷ s.regs r_expiry ∷ s.regs r_unique ∷ s.regs r_value_length ∷ []

-- these words were stored from a on, and the address is that of the last one
pub record Stored (s : RunState) (ws : List ℕ) (a : ℕ) (vs : List ℕ) (made : ℕ) (t : RunState) : Type 0 where
  pub steps : t.steps ≤ s.steps + made
  pub stores : t.stores ≤ s.stores + length vs
  pub words : t.words ≡ put_all ws a vs
  pub floor : t.floor ≤ a + length vs
  pub one : t.regs r_one ≡ 1
  pub address : t.regs r_address + 1 ≡ a + length vs

-- the four stores, whatever follows them
fields_stored : (e : Given) (rest : List Stmt) (s : RunState) (Q : Post) → s.regs r_one ≡ 1 → s.floor ≤ s.regs r_address → s.regs r_address + 4 ≤ length s.words → length s.words < 2 ^ 32 → s.stores + 4 ≤ e.log_room →
    ((t : RunState) → Stored s s.words (s.regs r_address) (fields_of s) 7 t → BeforeAll e rest t Q) → BeforeAll e (item_fields ++ rest) s Q
fields_stored e rest s Q one floor room small logs go =
    let a = s.regs r_address in
    let l = length-set {A = ℕ} in
    let next = λ (v : ℕ) (inside : v < length s.words). sum_is v (s.regs r_one) (v + 1) (omega (arith, one)) (omega (arith, inside, small)) in (
      omega (arith, room),
      floor,
      omega (arith, logs),
      (
        a + 1,
        next a (omega (arith, room)),
        (
          omega (arith, room, l),
          omega arith,
          omega (arith, logs),
          (
            a + 1 + 1,
            next (a + 1) (omega (arith, room)),
            (
              omega (arith, room, l),
              omega arith,
              omega (arith, logs),
              (
                a + 1 + 1 + 1,
                next (a + 1 + 1) (omega (arith, room)),
                (
                  omega (arith, room, l),
                  omega arith,
                  omega (arith, logs),
                  go _ (record { steps = omega arith; stores = omega arith; words = refl; floor = omega arith; one = one; address = omega arith }),
                ),
              ),
            ),
          ),
        ),
      ),
    )

-- the fields of an item that keeps its key
pub replace_fields_end : (e : Given) (s : RunState) (a : ℕ) → s.regs r_one ≡ 1 → s.regs r_place ≡ a → s.floor ≤ a + flags_offset → a + key_offset ≤ length s.words → length s.words < 2 ^ 32 → s.stores + 4 ≤ e.log_room →
    Ends e replace_fields s (Stored s s.words (a + flags_offset) (fields_of s) 9)
replace_fields_end e s a one place floor room small logs = (
  a + flags_offset,
  sum_is _ _ _ (omega (arith, place)) (omega (arith, room, small)),
  fields_stored e [] _ (Stored s s.words (a + flags_offset) (fields_of s) 9) one floor (omega (arith, room)) small logs
      (λ t f. record { steps = omega (arith, f.steps); stores = f.stores; words = f.words; floor = f.floor; one = f.one; address = f.address }),
)

-- the seven words at the head of a new item
abbrev pub head_of : RunState → List ℕ
head_of s = s.regs r_one ∷ s.regs r_hash ∷ s.regs r_key_length ∷ fields_of s

-- and the address and the index go on to the key
pub record Headed (s : RunState) (a : ℕ) (t : RunState) : Type 0 where
  pub steps : t.steps ≤ s.steps + 16
  pub stores : t.stores ≤ s.stores + key_offset
  pub words : t.words ≡ put_all s.words a (head_of s)
  pub floor : t.floor ≤ a + key_offset
  pub address : t.regs r_address ≡ a + key_offset
  pub index : t.regs r_index ≡ key_index

pub new_head_end : (e : Given) (s : RunState) → s.regs r_one ≡ 1 → s.floor ≤ s.regs r_place → s.regs r_place + key_offset ≤ length s.words → length s.words < 2 ^ 32 → s.stores + key_offset ≤ e.log_room →
    Ends e new_head s (Headed s (s.regs r_place))
new_head_end e s one floor room small logs =
    let a = s.regs r_place in
    let l = length-set {A = ℕ} in
    let next = λ (v : ℕ) (inside : v < length s.words). sum_is v (s.regs r_one) (v + 1) (omega (arith, one)) (omega (arith, inside, small)) in (
      omega (arith, room),
      floor,
      omega (arith, logs),
      (
        a + 1,
        next a (omega (arith, room)),
        (
          omega (arith, room, l),
          omega arith,
          omega (arith, logs),
          (
            a + 1 + 1,
            next (a + 1) (omega (arith, room)),
            (
              omega (arith, room, l),
              omega arith,
              omega (arith, logs),
              (
                a + 1 + 1 + 1,
                next (a + 1 + 1) (omega (arith, room)),
                fields_stored e (Add r_address r_address r_one ∷ Const r_index key_index ∷ []) _ (Headed s a) one (omega arith) (omega (arith, room, l)) (omega (arith, small, l)) (omega (arith, logs))
                    (λ t f. (
                      a + key_offset,
                      sum_is _ _ _ (omega (arith, f.address, f.one)) (omega (arith, room, small)),
                      record { steps = omega (arith, f.steps); stores = omega (arith, f.stores); words = f.words; floor = omega (arith, f.floor); address = refl; index = refl },
                    )),
              ),
            ),
          ),
        ),
      ),
    )
