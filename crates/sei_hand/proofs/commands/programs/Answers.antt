use Rattle.std.proofs.Common.{◌≡◌, ℕ, zero, suc, ◌+◌, ◌<◌, ◌≤◌, List, [], ◌∷◌, ◌++◌, length, take, refl, sym, ap, ◌∙◌, arith}
use Rattle.std.specs.Prelude.{map, get_or}
use Rattle.std.proofs.lemmas.List.{map-append, take_more}
use Rattle.mc_model.specs.declared.call.Verb.{Verb}
use Rattle.mc_model.specs.declared.call.Verb.TheVariants.{Set, Add, Replace, Append, Prepend, Cas, Get, Gets, Gat, Gats, Touch, Delete, Incr, Decr, Flush, Fixed}
use Rattle.mc_model.specs.Call.{verb_number}
use Rattle.sei_stmt.specs.declared.program.Program.{Program}
use Rattle.sei_stmt.specs.Programs.{Prog}
use Rattle.sei_stmt.specs.Written.{prog_of}
use Rattle.sei_hand.specs.Commands as commands
use Rattle.sei_hand.proofs.commands.programs.Goals as goal

pub loop-verb-init : goal.loop-verb-init
loop-verb-init c = record { programs = ap (map prog_of) c.new-programs.ensures.items }

-- all commands, in order of their numbers
abbrev verbs : List Verb
verbs = Set ∷ Add ∷ Replace ∷ Append ∷ Prepend ∷ Cas ∷ Get ∷ Gets ∷ Gat ∷ Gats ∷ Touch ∷ Delete ∷ Incr ∷ Decr ∷ Flush ∷ Fixed ∷ []

abbrev program_of : Verb → Prog
program_of v = commands.program_in commands.rows (verb_number v)

-- the command at a place has the program there
program_at : (vs : List Verb) (i : ℕ) (d : Verb) → i < length vs → get_or (map program_of vs) i (program_of d) ≡ program_of (get_or vs i d)
program_at [] i d lt = absurd (omega (arith, lt))
program_at (v ∷ vs) zero d lt = refl
program_at (v ∷ vs) (suc i) d lt = program_at vs i d (omega (arith, lt))

-- one program more
more : (made : List Program) (p : Program) (i : ℕ) → i < 16 → map prog_of made ≡ take i commands.programs → prog_of p ≡ program_of (get_or verbs i Set) → map prog_of (made ++ p ∷ []) ≡ take (i + 1) commands.programs
more made p i lt sofar is =
    map-append prog_of made (p ∷ []) ∙ ap (λ qs. qs ++ prog_of p ∷ []) sofar ∙ ap (λ q. take i commands.programs ++ q ∷ []) (is ∙ sym (program_at verbs i Set lt)) ∙ sym (take_more commands.programs i (program_of Set) lt)

pub loop-verb-preserved : goal.loop-verb-preserved
loop-verb-preserved c = record {
  programs = ap (map prog_of) c.in_ok-push.ensures.items ∙ more c.loop-verb.programs.items c.in_ok-program.field-0 c.loop-verb.verb-index c.loop-verb-test.true c.loop-verb.invariant.programs c.in_ok-program.ensures;
}

all_taken : (ps : List Prog) (i : ℕ) → length ps ≤ i → take i ps ≡ ps
all_taken [] zero le = refl
all_taken [] (suc i) le = refl
all_taken (p ∷ ps) zero le = absurd (omega (arith, le))
all_taken (p ∷ ps) (suc i) le = ap (λ qs. p ∷ qs) (all_taken ps i (omega (arith, le)))

pub returns : goal.returns
returns c = c.loop-verb.invariant.programs ∙ all_taken commands.programs c.loop-verb.verb-index c.loop-verb-test.false
