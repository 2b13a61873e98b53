-- Items and buckets, with what protocol.txt of memcached keeps at a key.
use Rattle.std.specs.Prelude.{◌≡◌, ℕ, Bool, ◌||◌, ◌==◌, nat_lt, max, List, [], ◌∷◌, filter, Option, Some, None, if◌then◌else◌}
use Rattle.std.specs.Str.{bytes_eq}

-- the flags are a number that is stored and given back. The expiry is the second since the start of 1970 from which the item is
-- gone, or 0 for never. The cas unique is the number that `gets` shows and `cas` compares
pub record Item : Type 0 where
  pub flags : ℕ
  pub expiry : ℕ
  pub unique : ℕ
  pub value : List ℕ

-- a map from keys to items: each key is there once
abbrev pub Entries : Type 0
Entries = List (List ℕ × Item)

-- moment: the latest second that the bucket saw. counter: the last cas unique that it gave
pub record Bucket : Type 0 where
  pub items : Entries
  pub moment : ℕ
  pub counter : ℕ

-- no call has come yet
abbrev pub empty_bucket : Bucket
empty_bucket = record { items = []; moment = 0; counter = 0 }

-- the item at a key
abbrev pub lookup : List ℕ → Entries → Option Item
lookup key [] = None
lookup key (e ∷ es) = if bytes_eq key e.0 then Some e.1 else lookup key es

-- the item replaces the one at the key, or is added at the end
abbrev pub put : List ℕ → Item → Entries → Entries
put key x [] = (key, x) ∷ []
put key x (e ∷ es) = if bytes_eq key e.0 then (key, x) ∷ es else e ∷ put key x es

-- the entries without that of the key
abbrev pub without : List ℕ → Entries → Entries
without key [] = []
without key (e ∷ es) = if bytes_eq key e.0 then es else e ∷ without key es

-- an item is live at a moment if its expiry is 0, which is never, or later than the moment
abbrev pub is_live : ℕ → Item → Bool
is_live moment x = x.expiry == 0 || nat_lt moment x.expiry

-- the entries whose items are live
abbrev pub live_entries : ℕ → Entries → Entries
live_entries moment es = filter (λ e. is_live moment e.1) es

-- expired items are removed
abbrev pub purged : Bucket → Bucket
purged b = record b { items = live_entries b.moment b.items }

-- the moment never goes back. It is never 0, since an expiry of 0 is none
abbrev pub arrived : ℕ → Bucket → Bucket
arrived now b = purged (record b { moment = max 1 (max b.moment now) })

-- each key is there once
abbrev pub IsMap : Entries → Type 0
IsMap [] = Unit {0}
IsMap (e ∷ es) = (lookup e.0 es ≡ None) × IsMap es

-- what holds of each bucket after any calls
pub record IsBucket (b : Bucket) : Type 0 where
  pub map : IsMap b.items

-- the item, unless it has expired
abbrev pub if_live : ℕ → Option Item → Option Item
if_live moment None = None
if_live moment (Some x) = if is_live moment x then Some x else None
