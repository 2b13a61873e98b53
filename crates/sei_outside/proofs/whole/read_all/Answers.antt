use Rattle.std.proofs.Common.{◌≡◌, ◌++◌, List, ℕ, Option, Some, None, refl, ap, sym, ◌∙◌, arith, take, length-append}
use Rattle.std.specs.Io.KnownBytes.{prepend_known}
use Rattle.std.proofs.lemmas.List.{append_assoc, length-take}
use Rattle.sei_outside.proofs.whole.read_all.Goals as goal

prepend_known_twice : (xs ys : List ℕ) (o : Option (List ℕ)) → prepend_known xs (prepend_known ys o) ≡ prepend_known (xs ++ ys) o
prepend_known_twice xs ys None = refl
prepend_known_twice xs ys (Some zs) = ap Some (sym (append_assoc xs ys zs))

pub returns-then-is_err-clause-taken : goal.returns-then-is_err-clause-taken
returns-then-is_err-clause-taken g c =
    let read = c.loop-piece.bytes.items in
    let given = take c.in-Took.count c.read.new.into in
    record {
      part = read ++ given;
      split = c.loop-piece.invariant.split ∙ ap (prepend_known read) c.in-Took.ensures.bytes.2 ∙ prepend_known_twice read given (g.S.Source.left c.read.new.self);
      within = omega (arith, length-append {A = ℕ}, length-take {A = ℕ});
    }
