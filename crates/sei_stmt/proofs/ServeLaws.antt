-- A program that ends well makes a table whose passes do.
use Rattle.std.proofs.Common.{◌≡◌, ℕ, zero, suc, ◌+◌, ◌<◌, ◌≤◌, inl, inr, List, [], ◌∷◌, Some, refl, sym, ap, ◌∙◌, subst, arith}
use Rattle.std.proofs.lemmas.Bool.{both_ways}
use Rattle.std.specs.Prelude.{false, All, slice_get, slice_index, replicate}
use Rattle.sei_code.specs.Codes.{message_code}
use Rattle.sei_log.specs.declared.log.Change.{Change}
use Rattle.sei_log.specs.declared.notes.Notes as noting
use Rattle.sei_stmt.specs.declared.stmt.Stmt.{Stmt}
use Rattle.sei_stmt.specs.Table.{HasRegisters}
use Rattle.sei_stmt.specs.Handling.{Parsed}
use Rattle.sei_stmt.specs.Machine.{Machine, Setting}
use Rattle.sei_stmt.specs.Order.{finished}
use Rattle.sei_stmt.specs.Passes.{Rooms, beginning, IsServed}
use Rattle.sei_stmt.specs.Sound.{RisesFrom, Serves}
use Rattle.sei_stmt.specs.Sound.Serves.{Well, Unfit}
use Rattle.sei_stmt.specs.Runs.{Given, RunState, start, exec}
use Rattle.sei_stmt.specs.Runs as runs
use Rattle.sei_stmt.specs.Given.{given_of, Answers}
use Rattle.sei_stmt.specs.Programs.{Prog, table_of, at_steps}
use Rattle.sei_stmt.specs.Programs as programs
use Rattle.sei_stmt.specs.Touch.{Rises}
use Rattle.sei_stmt.proofs.ProgramLaws.{whole}
use Rattle.sei_stmt.proofs.TieLaws.{Tied, Ends, tie}

rises : (lo : ℕ) (cs : List Change) (n : ℕ) → Rises lo cs n → RisesFrom lo cs
rises lo [] n h = tt
rises lo (c ∷ cs) n h = (h.0, rises (c.address + 1) cs n h.1)

zeros : (n r : ℕ) → slice_index (replicate n 0) r ≡ 0
zeros zero r = refl
zeros (suc n) zero = refl
zeros (suc n) (suc r) = zeros n r

-- what is shown of the last state of a program
pub record Ended (g : Setting) (Held : List ℕ → Type 0) (reply : List ℕ) (t : RunState) : Type 0 where
  pub stage : t.stage ≡ finished
  pub steps : t.steps + 1 < g.budget
  pub held : Held t.words
  pub reply_is : t.bytes ≡ reply

module _ (g : Setting) (rooms : Rooms) (p : Parsed) (now : ℕ) (slot : List ℕ → ℕ → ℕ) (served : IsServed g p) (bytes_fit : (ws bs : List ℕ) → g.rendered ws ≡ Some bs → All (λ b. b < 256) bs)
    (fine : (i : ℕ) (st : Stmt) → slice_get g.statements i ≡ Some st → HasRegisters st) where
  begins : (words : List ℕ) (notes : noting.Notes) → Answers g now slot notes → Tied g rooms p now slot (start (λ r. 0) words) (beginning rooms words notes)
  begins words notes a = record {
    registers = record { long = refl; each = λ r lt. zeros 32 r };
    made = refl;
    words = refl;
    out = refl;
    out_room = refl;
    byte_room = refl;
    log = refl;
    log_room = refl;
    input = λ e. absurd (both_ways false refl e);
    done = λ e. absurd (omega (arith, e));
    answers = a;
  }

  pub serves : (prog : Prog) → g.statements ≡ table_of prog → (words : List ℕ) (notes : noting.Notes) → Answers g now slot notes → (Held : List ℕ → Type 0) (reply : List ℕ) →
      programs.Ends (given_of g rooms p.words now slot) prog (start (λ r. 0) words) (Ended g Held reply) → Serves g Held reply (beginning rooms words notes)
  serves prog is words notes answers Held reply ends =
      elim (whole given prog (λ r. 0) words (Ended g Held reply) (λ t q. q.stage) ends) [
        | inl r ↦ well r.0 r.1 r.2 r.3 r.4.0 r.4.2
        | inr u ↦ unfit u.0 u.1 u.2 u.3
      ]
    where
      given : Given
      given = given_of g rooms p.words now slot

      begin : Machine
      begin = beginning rooms words notes

      at : (n : ℕ) (o : runs.Outcome) → exec given (table_of prog) n 0 (start (λ r. 0) words) ≡ o → Ends g rooms p now slot begin 0 o
      at n o e = subst (Ends g rooms p now slot begin 0) (ap (λ l. exec given l n 0 (start (λ r. 0) words)) is ∙ e)
          (tie g rooms p now slot served bytes_fit fine begin n 0 (start (λ r. 0) words) begin (begins words notes answers) (λ le. (refl, refl)))

      well : (n : ℕ) (t : RunState) → n + 0 ≤ suc t.steps → exec given (table_of prog) n 0 (start (λ r. 0) words) ≡ runs.Ended (at_steps t (n + 0)) → Ended g Held reply t → Rises 0 t.changes t.floor → Serves g Held reply begin
      well n t le e q rising =
          let h = at n (runs.Ended (at_steps t (n + 0))) e in
          let x = h.1 (omega (arith, le, q.steps)) in
          let done = x.3.done q.stage in
          Well x.0 (n + 0) (record {
            run = record { halts = x.1 };
            within = omega (arith, le, q.steps);
            ordered = x.2;
            rising = subst (RisesFrom 0) (sym x.3.log) (rises 0 t.changes t.floor rising);
            held = subst Held (sym x.3.words) q.held;
            replied = done.0 ∙ q.reply_is;
            coded = done.1 ∙ ap (λ l. Some (message_code g.answer l)) q.reply_is;
          })

      unfit : (n : ℕ) (u : RunState) → u.steps < g.budget → exec given (table_of prog) n 0 (start (λ r. 0) words) ≡ runs.Unfit u → Serves g Held reply begin
      unfit n u lt e =
          let x = (at n (runs.Unfit u) e).1 lt in
          Unfit x.0 x.1 (suc u.steps) x.2
