-- What stays through a step of a pass.
use Rattle.std.specs.Prelude.{ℕ, Bool, true, false, ◌==◌, List, [], Option, Some, None}
use Rattle.sei_code.specs.Codes.{message_code}
use Rattle.sei_code.specs.Coded.{read_of}
use Rattle.sei_code.specs.declared.coded.Coded.{Coded}
use Rattle.mc_model.specs.declared.geometry.Geometry.{Geometry}
use Rattle.sei_words.specs.Free.{is_free}
use Rattle.sei_words.specs.Words.{BucketWords}
use Rattle.sei_words.specs.LentBucket.{bucket_of}
use Rattle.sei_stmt.specs.Handling.{Behavior, Parsed}
use Rattle.sei_stmt.specs.Machine.{Setting}
use Rattle.sei_pass.specs.declared.given.Sealed.{Sealed}
use Rattle.sei_pass.specs.declared.given.Which.{Which}
use Rattle.sei_pass.specs.declared.given.Which.TheVariants.{Making, Reading}
use Rattle.sei_pass.specs.declared.spaces.PassSpace.{PassSpace}

-- the second pass reads the noted answers
abbrev pub is_reading : Which → Bool
is_reading Making = false
is_reading Reading = true

-- the code of the input is the sealed one
abbrev pub is_intact : Sealed → List ℕ → Bool
is_intact sealed input = message_code sealed.number input == sealed.code

abbrev pub call_at : (ℕ → Option Parsed) → Option ℕ → Option Parsed
call_at parsed None = None
call_at parsed (Some nth) = parsed nth

-- the sealed call: none where its index does not read, or the input has no such call
abbrev pub sealed_call : (ℕ → Option Parsed) → Coded → Option Parsed
sealed_call parsed nth = call_at parsed (read_of nth)

-- which slots are free in which words at which moment; where no bucket is lent, none is
abbrev pub free_of : Geometry → Option ℕ → List ℕ → ℕ → ℕ → Bool
free_of g None words moment slot = false
free_of g (Some bucket) words moment slot = is_free g words moment slot

-- a setting that says nothing. `bare` and those from it serve the clauses of the code: a call looks at few parts of a setting,
-- and its clause names those alone
abbrev pub bare : Setting
bare = record {
  reading = false;
  statements = [];
  intact = false;
  parsed = None;
  answer = 0;
  rendered = λ words. None;
  lent = None;
  slots = 0;
  is_free = λ words moment slot. false;
  budget = 0;
  now = 0;
}

-- what Now looks at
abbrev pub timed : Which → ℕ → Setting
timed which now = record bare { reading = is_reading which; now = now }

-- what Alloc looks at
abbrev pub slotted : Which → Geometry → Option BucketWords → Setting
slotted which g lent = record bare { reading = is_reading which; slots = g.slots; is_free = free_of g (bucket_of lent) }

-- in the first pass
abbrev pub choosing : Geometry → Option BucketWords → Setting
choosing g lent = slotted Making g lent

-- in the second pass
abbrev pub checking : Geometry → Option BucketWords → Setting
checking g lent = slotted Reading g lent

-- what Parse looks at
abbrev pub calling : Bool → Option Parsed → Option ℕ → Setting
calling intact parsed lent = record bare { intact = intact; parsed = parsed; lent = lent }

-- the same, of what is sealed of an input
abbrev pub parsing : Behavior → List ℕ → Sealed → Option ℕ → Setting
parsing h input sealed lent = calling (is_intact sealed input) (sealed_call (h.parsed input) sealed.nth) lent

-- what Render looks at
abbrev pub rendering : ℕ → (List ℕ → Option (List ℕ)) → Setting
rendering answer rendered = record bare { answer = answer; rendered = rendered }

-- the setting of a step: the pass, what the handler does, the input, what is
-- sealed, the bucket that is lent, the space, and the clock's answer
abbrev pub setting_of : Which → Behavior → List ℕ → Sealed → Option ℕ → PassSpace → ℕ → Setting
setting_of which h input sealed lent space now = record {
  reading = is_reading which;
  statements = h.statements;
  intact = is_intact sealed input;
  parsed = sealed_call (h.parsed input) sealed.nth;
  answer = sealed.answer;
  rendered = h.rendered;
  lent = lent;
  slots = space.geometry.slots;
  is_free = free_of space.geometry lent;
  budget = space.budget;
  now = now;
}
