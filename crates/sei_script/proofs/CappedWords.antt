-- Lines of a connection whose words were found: its number stops at a greatest one, which is no connection's.
use Rattle.std.proofs.Common.{◌≡◌, ℕ, ◌-◌, ◌^◌, ◌≤◌, min, Bool, true, false, List, Option, Some, refl, ap, sym, ◌∙◌, arith}
use Rattle.std.specs.Prelude.{if◌then◌else◌, nat_lt}
use Rattle.std.proofs.lemmas.Bool.Decides.{nat_tests}
use Rattle.sei_fault.specs.declared.plan.Planned.{Planned}
use Rattle.sei_script.specs.Hexadecimal.{unhexed}
use Rattle.sei_script.specs.Limits.{most_connections}
use Rattle.sei_script.specs.Lines.{part, first_number, first_exact, IsCapped}
use Rattle.sei_script.specs.Plans.{plan_of}
use Rattle.sei_script.specs.Says.{of_open, fault_says, hex_says}
use Rattle.sei_script.specs.declared.line.Context.{Context}
use Rattle.sei_script.specs.declared.line.ScriptLine.{ScriptLine}
use Rattle.sei_script.specs.declared.line.ScriptLine.TheVariants.{Fault, Hex}
use Rattle.sei_script.specs.declared.line.Why.TheVariants.{UnknownConnection}
use Rattle.sei_script.specs.declared.line.Said.{Said}
use Rattle.sei_script.specs.declared.line.Said.TheVariants.{Line, Wrong}
use Rattle.sei_script.proofs.Limits.{IsFound, found_number}

abbrev by_open : Bool → ScriptLine → Said
by_open known line = if known then Line line else Wrong UnknownConnection

-- the number as the code has it
abbrev capped : ℕ → ℕ
capped c = min (min c (2 ^ 64 - 1)) (2 ^ 32 - 1)

capped_by : (x : Context) (c : ℕ) (f : ℕ → ScriptLine) (p q : Bool) → x.opens ≤ most_connections → nat_lt (capped c) x.opens ≡ p → nat_lt c x.opens ≡ q
    → by_open p (f (capped c)) ≡ by_open q (f c)
capped_by x c f true true few e h = let same : capped c ≡ c = grind (arith, nat_tests) in ap (λ (n : ℕ). Line (f n)) same
capped_by x c f true false few e h = absurd (grind (arith, nat_tests))
capped_by x c f false true few e h = absurd (grind (arith, nat_tests))
capped_by x c f false false few e h = refl

-- a line of a connection whose number was found
open_found : (x : Context) (n c : ℕ) (f : ℕ → ScriptLine) → x.opens ≤ most_connections → min n (2 ^ 64 - 1) ≡ c → of_open x (min c (2 ^ 32 - 1)) (f (min c (2 ^ 32 - 1))) ≡ of_open x n (f n)
open_found x n c f few e =
    ap (λ (m : ℕ). of_open x (min m (2 ^ 32 - 1)) (f (min m (2 ^ 32 - 1)))) (sym e) ∙ capped_by x n f (nat_lt (capped n) x.opens) (nat_lt n x.opens) few refl refl

hex_at : (x : Context) (rest more : Option (List ℕ)) (c : ℕ) (text bytes : List ℕ) → x.opens ≤ most_connections → IsFound (first_number rest) c more → more ≡ Some text
    → Some bytes ≡ unhexed text → of_open x (min c (2 ^ 32 - 1)) (Hex (min c (2 ^ 32 - 1)) bytes) ≡ hex_says x rest
hex_at x rest more c text bytes few f e g = open_found x f.number c (λ n. Hex n bytes) few f.capped ∙ rw (f.is, e, sym g) refl

-- a connection and digits
pub hex_found : (x : Context) (rest more : Option (List ℕ)) (c : ℕ) (text bytes : List ℕ) → x.opens ≤ most_connections → IsCapped (Some (part c more)) (first_number rest) → more ≡ Some text
    → Some bytes ≡ unhexed text → of_open x (min c (2 ^ 32 - 1)) (Hex (min c (2 ^ 32 - 1)) bytes) ≡ hex_says x rest
hex_found x rest more c text bytes few f e g = hex_at x rest more c text bytes few (found_number (first_number rest) c more f) e g

fault_at : (x : Context) (rest more : Option (List ℕ)) (c t : ℕ) (plan : Planned) (later : Option (List ℕ)) → x.opens ≤ most_connections → IsFound (first_number rest) c more
    → Some (part t later) ≡ first_exact more → Some plan ≡ plan_of later → of_open x (min c (2 ^ 32 - 1)) (Fault (min c (2 ^ 32 - 1)) t plan) ≡ fault_says x rest
fault_at x rest more c t plan later few f e g = open_found x f.number c (λ n. Fault n t plan) few f.capped ∙ rw (f.is, sym e, sym g) refl

-- a connection, a traversal and a plan
pub fault_found : (x : Context) (rest more : Option (List ℕ)) (c t : ℕ) (plan : Planned) (later : Option (List ℕ)) → x.opens ≤ most_connections → IsCapped (Some (part c more)) (first_number rest)
    → Some (part t later) ≡ first_exact more → Some plan ≡ plan_of later → of_open x (min c (2 ^ 32 - 1)) (Fault (min c (2 ^ 32 - 1)) t plan) ≡ fault_says x rest
fault_found x rest more c t plan later few f e g = fault_at x rest more c t plan later few (found_number (first_number rest) c more f) e g
