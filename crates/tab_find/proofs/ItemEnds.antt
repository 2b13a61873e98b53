-- The one law of storing: what an item has before its value, and then the value.
use Rattle.std.proofs.Common.{◌≡◌, ◌≢◌, ℕ, ◌+◌, ◌<◌, ◌≤◌, List, length, refl, arith}
use Rattle.std.specs.Prelude.{true}
use Rattle.mc_model.specs.declared.geometry.Geometry.{Geometry}
use Rattle.mc_model.specs.Bucket.{Item, Bucket, put, purged}
use Rattle.mc_model.specs.Packed.{AreBytes, pack}
use Rattle.sei_words.specs.Layout.{field, used_offset}
use Rattle.sei_words.specs.Value.{OthersStay}
use Rattle.sei_words.specs.Stands.{StandsFor}
use Rattle.sei_words.specs.Changes.{HasHead, HasFields, WasThere}
use Rattle.sei_words.proofs.PublicChanges.{stored}
use Rattle.sei_stmt.specs.Runs.{Given, RunState}
use Rattle.sei_stmt.specs.Programs.{Prog, Seq, Ends}
use Rattle.sei_stmt.specs.Touch.{Touch, within}
use Rattle.sei_stmt.proofs.Public.{seq, then_so}
use Rattle.tab_find.specs.StorePrograms.{store_value}
use Rattle.tab_find.specs.Copies.{store_steps, store_stores, CanStoreIn, HasStored}
use Rattle.tab_find.proofs.StoreValue.{storer, store_value_ends}

-- what stands in slot i before its value reads as the key and the item, the counter is this one, all other slots stay, and
-- the value can follow
pub record FieldsStored (g : Geometry) (e : Given) (ws : List ℕ) (b : Bucket) (counter i index : ℕ) (k : List ℕ) (x : Item) (limit few : ℕ) (t : RunState) : Type 0 where
  pub steps : t.steps ≤ limit
  pub stores : t.stores ≤ few
  pub others : OthersStay g b.moment ws t.words i
  pub head : HasHead t.words (record b { counter = counter })
  pub used : field g t.words i used_offset ≢ 0
  pub fields : HasFields g t.words i k x
  pub can : CanStoreIn g e index i (pack x.value) t

-- the words stand for the bucket with the item at the key, and with this counter. One that has expired already is gone at once
pub record ItemStored (g : Geometry) (b : Bucket) (counter : ℕ) (k : List ℕ) (x : Item) (bound most : ℕ) (t : RunState) : Type 0 where
  pub steps : t.steps ≤ bound
  pub stores : t.stores ≤ most
  pub stands : StandsFor g t.words (purged (record b { items = put k x b.items; counter = counter }))

-- any program of fields, from words that stand for b on, and then the value
pub item_ends : (g : Geometry) (e : Given) (s : RunState) (ws : List ℕ) (b : Bucket) (counter i index : ℕ) (k : List ℕ) (x : Item) (p : Prog) (w : Touch) (limit bound few most : ℕ) → i < g.slots → StandsFor g ws b → WasThere g ws b i k → AreBytes x.value →
    within w p ≡ true → Ends e p s (FieldsStored g e ws b counter i index k x limit few) → limit + store_steps (length (pack x.value)) ≤ bound → few + store_stores (length (pack x.value)) ≤ most → most ≤ e.log_room →
    Ends e (Seq p (store_value index)) s (ItemStored g b counter k x bound most)
item_ends g e s ws b counter i index k x p w limit bound few most lt h was bytes ok fields steps stores logs =
    let Done = ItemStored g b counter k x bound most in
    seq e w p (store_value index) s (FieldsStored g e ws b counter i index k x limit few) Done ok fields
    (λ u fu d.
    then_so e storer (store_value index) u (HasStored g b.moment u.words i (pack x.value) bound most) Done refl
    (λ t ft v. record { steps = v.steps; stores = v.stores; stands = stored g ws t.words b i k x counter h u.words lt d.others d.head was d.used d.fields bytes v.value })
    (store_value_ends g e u b.moment index i (pack x.value) bound most d.can (omega (arith, d.stores, stores)) logs (omega (arith, d.steps, steps))))
