-- Each fault of the sink is told, so its count stands still while calls go well.
use Rattle.std.proofs.Common.{◌≡◌, ℕ, ◌<◌, ◌≤◌, Result, Ok, Err, sym, ◌∙◌, ap, arith, true≢false}
use Rattle.std.specs.Result.{is_ok}
use Rattle.sei_script.specs.declared.write.Stop.{Stop}
use Rattle.sei_script.specs.declared.write.Stop.TheVariants.{WriteFault}

-- a call that went well leaves the count
pub still : {A : Type 0} (old new : ℕ) (r : Result A Stop) (x : A) → r ≡ Ok x → old ≤ new → (old < new → r ≡ Err WriteFault) → new ≡ old
still old new r x is later told =
    let none : old < new → ⊥ = λ h. true≢false (sym (ap is_ok is) ∙ ap is_ok (told h)) in
    omega (arith, none)
