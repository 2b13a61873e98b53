-- Planned faults, as they are spelled.
use Rattle.std.specs.Prelude.{ℕ, List, nat_le, if◌then◌else◌, Option, Some, None, codes}
use Rattle.std.specs.Option.{option_map}
use Rattle.std.specs.Str.{bytes_eq}
use Rattle.sei_fault.specs.declared.place.Phase.{Phase}
use Rattle.sei_fault.specs.declared.place.Phase.TheVariants.{Guard, Take, First, Restore, Second, Compare, Verify, Enter, Give, Send, Done}
use Rattle.sei_fault.specs.declared.plan.Select.{Select}
use Rattle.sei_fault.specs.declared.plan.Select.TheVariants.{Index, Load, Store, Now, Alloc, Parse, Render, Halt}
use Rattle.sei_fault.specs.declared.plan.Kind.{Kind}
use Rattle.sei_fault.specs.declared.plan.Kind.TheVariants.{Read, Write, Skip, Repeat, Jump, Flip}
use Rattle.sei_fault.specs.declared.plan.Planned.{Planned}
use Rattle.sei_script.specs.Lines.{Part, word_of, behind_word, first_exact, last_exact}

-- the phase that a word names
abbrev pub phase_of : List ℕ → Option Phase
phase_of word =
    if bytes_eq word (codes "guard") then Some Guard
    else (if bytes_eq word (codes "take") then Some Take
    else (if bytes_eq word (codes "first") then Some First
    else (if bytes_eq word (codes "restore") then Some Restore
    else (if bytes_eq word (codes "second") then Some Second
    else (if bytes_eq word (codes "compare") then Some Compare
    else (if bytes_eq word (codes "verify") then Some Verify
    else (if bytes_eq word (codes "enter") then Some Enter
    else (if bytes_eq word (codes "give") then Some Give
    else (if bytes_eq word (codes "send") then Some Send
    else (if bytes_eq word (codes "done") then Some Done
    else None))))))))))

-- what selects the step, and what stands behind the space after it
pub record Selected : Type 0 where
  pub select : Select
  pub rest : Option (List ℕ)

abbrev pub selected : Select → Option (List ℕ) → Selected
selected select rest = record { select = select; rest = rest }

-- a selection with a number
abbrev pub numbered : (ℕ → Select) → Option Part → Option Selected
numbered f o = option_map (λ n. selected (f n.number) n.rest) o

abbrev pub select_words : List ℕ → Option (List ℕ) → Option Selected
select_words word rest =
    if bytes_eq word (codes "at") then numbered (λ n. Index n) (first_exact rest)
    else (if bytes_eq word (codes "load") then numbered (λ n. Load n) (first_exact rest)
    else (if bytes_eq word (codes "store") then numbered (λ n. Store n) (first_exact rest)
    else (if bytes_eq word (codes "now") then Some (selected Now rest)
    else (if bytes_eq word (codes "alloc") then Some (selected Alloc rest)
    else (if bytes_eq word (codes "parse") then Some (selected Parse rest)
    else (if bytes_eq word (codes "render") then Some (selected Render rest)
    else (if bytes_eq word (codes "halt") then Some (selected Halt rest)
    else None)))))))

abbrev pub select_of : Option (List ℕ) → Option Selected
select_of None = None
select_of (Some text) = select_words (word_of text) (behind_word text)

-- a mask is 1 at least
abbrev pub some_mask : Option ℕ → Option ℕ
some_mask None = None
some_mask (Some mask) = if nat_le 1 mask then Some mask else None

abbrev pub mask_of : Option (List ℕ) → Option ℕ
mask_of text = some_mask (last_exact text)

-- which number is read, and the mask
abbrev pub read_of : Option Part → Option Kind
read_of None = None
read_of (Some nth) = option_map (λ mask. Read nth.number mask) (mask_of nth.rest)

-- a kind behind whose word nothing may stand
abbrev pub alone : Option (List ℕ) → Kind → Option Kind
alone None kind = Some kind
alone (Some rest) kind = None

abbrev pub jump_to : Option Phase → Option ℕ → Option Kind
jump_to None index = None
jump_to (Some phase) None = None
jump_to (Some phase) (Some index) = Some (Jump (record { phase = phase; index = index }))

abbrev pub jump_of : Option (List ℕ) → Option Kind
jump_of None = None
jump_of (Some text) = jump_to (phase_of (word_of text)) (last_exact (behind_word text))

abbrev pub kind_words : List ℕ → Option (List ℕ) → Option Kind
kind_words word rest =
    if bytes_eq word (codes "read") then read_of (first_exact rest)
    else (if bytes_eq word (codes "write") then option_map (λ mask. Write mask) (mask_of rest)
    else (if bytes_eq word (codes "skip") then alone rest Skip
    else (if bytes_eq word (codes "repeat") then alone rest Repeat
    else (if bytes_eq word (codes "flip") then alone rest Flip
    else (if bytes_eq word (codes "jump") then jump_of rest
    else None)))))

abbrev pub kind_of : Option (List ℕ) → Option Kind
kind_of None = None
kind_of (Some text) = kind_words (word_of text) (behind_word text)

abbrev pub planned : Option Phase → Option Selected → Option Planned
planned None step = None
planned (Some phase) None = None
planned (Some phase) (Some step) = option_map (λ kind. record { phase = phase; select = step.select; kind = kind }) (kind_of step.rest)

-- a phase, what selects the step, and the kind
abbrev pub plan_of : Option (List ℕ) → Option Planned
plan_of None = None
plan_of (Some text) = planned (phase_of (word_of text)) (select_of (behind_word text))
