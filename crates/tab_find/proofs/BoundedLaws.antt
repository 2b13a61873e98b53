-- The items of a bucket whose numbers are of 64 bits.
use Rattle.std.proofs.Common.{◌≡◌, ℕ, Bool, true, false, cond, List, [], ◌∷◌, subst, Option, Some, None}
use Rattle.std.specs.Prelude.{All, IfSome}
use Rattle.std.specs.Str.{bytes_eq}
use Rattle.std.proofs.lemmas.List.Elements.{All-head, All-tail}
use Rattle.mc_model.specs.Bucket.{Item, Entries, Bucket, lookup}
use Rattle.tab_find.specs.Answers.{HasNumbersOf64, IsBounded}

-- the numbers of an entry's item
abbrev HasNumbers : List ℕ × Item → Type 0
HasNumbers e = HasNumbersOf64 e.1

pub numbered_lookup : (key : List ℕ) (es : Entries) → All (λ e. HasNumbersOf64 e.1) es → IfSome (lookup key es) HasNumbersOf64
numbered_lookup key [] h = tt
numbered_lookup key (e ∷ es) h = by_test (bytes_eq key e.0) (numbered_lookup key es (All-tail HasNumbers e es h))
  where
    by_test : (t : Bool) → IfSome (lookup key es) HasNumbersOf64 → IfSome (cond t (Some e.1) (lookup key es)) HasNumbersOf64
    by_test true more = All-head HasNumbers e es h
    by_test false more = more

-- the item at a key
pub item_numbered : (b : Bucket) (key : List ℕ) (x : Item) → IsBounded b → lookup key b.items ≡ Some x → HasNumbersOf64 x
item_numbered b key x h is = subst_some (lookup key b.items) is (numbered_lookup key b.items h.items)
  where
    subst_some : (o : Option Item) → o ≡ Some x → IfSome o HasNumbersOf64 → HasNumbersOf64 x
    subst_some None e p = absurd (cc)
    subst_some (Some y) e p = let same : y ≡ x = cc in subst HasNumbersOf64 same p
