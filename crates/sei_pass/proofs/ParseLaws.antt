-- Parse, once the code of the input was tested and the input words are filled.
use Rattle.std.proofs.Common.{◌≡◌, ℕ, Bool, true, Option, sym, subst}
use Rattle.sei_code.specs.Kept.{Kept}
use Rattle.sei_fault.specs.Question.{Question, Answer}
use Rattle.sei_fault.specs.Question.Question.{Test}
use Rattle.sei_fault.specs.Tree.{Runs}
use Rattle.sei_stmt.specs.Handling.{Parsed, parsed_words, refilled}
use Rattle.sei_stmt.specs.Statements.{parse_tree, parse_call, intact_if}
use Rattle.sei_pass.specs.declared.frame.Frame.{Frame}
use Rattle.sei_pass.specs.declared.frame.PassStep.{PassStep}
use Rattle.sei_pass.specs.Setting.{calling}
use Rattle.sei_pass.specs.Frames.{machine_at, after_at, Does}

pub parse_on : {S : Type 0} (gives : S → (q : Question) → Answer q → S → Type 0) (intact told : Bool) (call : Option Parsed) (lent : Option ℕ) (index : ℕ) (f f2 : Frame) (input : Kept ℕ) (p : PassStep) (s r t : S) →
    gives s (Test intact) told r → told ≡ true → input ≡ refilled f.input (parsed_words call) →
    Does gives (λ m. parse_call (calling true call lent) index m) (record f { input = input }) f2 p r t →
    Does gives (λ m. parse_tree (calling intact call lent) index m) f f2 p s t
parse_on gives intact told call lent index f f2 input p s r t h e filled does = λ words log notes.
    let m = machine_at f words log notes in
    let x = after_at f2 words log notes p in
    let g = calling intact call lent in
    let run = subst (λ k. Runs gives (parse_call g index (machine_at (record f { input = k }) words log notes)) r t x) filled (does words log notes) in
    (told, r, h, subst (λ b. Runs gives (intact_if b g index m) r t x) (sym e) run)
