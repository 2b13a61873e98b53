-- What the front of some bytes is: a whole request, or less.
use Rattle.std.specs.Prelude.{◌≡◌, ℕ, List}
use Rattle.mc_text.specs.declared.limits.Limits.{Limits}
use Rattle.mc_text.specs.declared.reader.ReadRequest.{ReadRequest}
use Rattle.mc_text.specs.declared.reader.ReadRequest.TheVariants.{Whole, More}
use Rattle.mc_text.specs.Meaning.{Meaning}
use Rattle.mc_text.specs.Spells.{Begins, Completed}

-- the first k bytes spell a request, and no other number of them does
pub record IsWhole (l : Limits) (bytes : List ℕ) (k : ℕ) : Type 0 where
  pub request : Meaning
  pub begins : Begins l bytes k request
  pub only : (j : ℕ) (m : Meaning) → Begins l bytes j m → (j ≡ k) × (m ≡ request)

-- no request begins the bytes, and some continuation spells one
pub record IsMore (l : Limits) (bytes : List ℕ) : Type 0 where
  pub none : (j : ℕ) (m : Meaning) → Begins l bytes j m → ⊥
  pub completed : Completed l bytes

abbrev pub Reads : Limits → List ℕ → ReadRequest → Type 0
Reads l bytes (Whole k) = IsWhole l bytes k
Reads l bytes More = IsMore l bytes

-- a request begins the bytes
pub record BeginsSome (l : Limits) (bytes : List ℕ) : Type 0 where
  pub length : ℕ
  pub request : Meaning
  pub begins : Begins l bytes length request
