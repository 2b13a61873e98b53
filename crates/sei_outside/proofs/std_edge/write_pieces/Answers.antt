use Rattle.std.proofs.Common.{◌≡◌, ℕ, List, ◌+◌, ◌-◌, ◌++◌, Option, length, take, drop, take-append-drop, arith, sym, ap, ◌∙◌, subst, length-drop}
use Rattle.std.proofs.lemmas.List.{length-take, take_all}
use Rattle.std.proofs.Math.Seq.{take-add}
use Rattle.std.proofs.KnownBytes.{Appends-kept, Appends-trans}
use Rattle.std.specs.Io.KnownBytes.{Appends, Keeps}
use Rattle.sei_outside.specs.StdEdge.{HandedPart}
use Rattle.sei_outside.proofs.std_edge.write_pieces.Goals as goal

-- the bytes before `at`, and nothing more
handed : (old mid new : Option (List ℕ)) (at : ℕ) (bytes : List ℕ) → Appends old mid (take at bytes) → Keeps mid new → HandedPart old new bytes
handed old mid new at bytes a k = record { part = take at bytes; rest = drop at bytes; split = take-append-drop at bytes; now = Appends-kept old mid new (take at bytes) a k }

-- the slice from `at` on is all the rest
rest_of : (at : ℕ) (bytes : List ℕ) → take (length bytes - at) (drop at bytes) ≡ drop at bytes
rest_of at bytes = take_all (length bytes - at) (drop at bytes) (omega (arith, length-drop {A = ℕ}))

-- the bytes before `at`, and then n bytes of the rest
more : (old mid new : Option (List ℕ)) (at n : ℕ) (bytes : List ℕ) → Appends old mid (take at bytes) → Appends mid new (take n (take (length bytes - at) (drop at bytes)))
    → Appends old new (take (at + n) bytes)
more old mid new at n bytes a b =
    subst (Appends old new) (ap (λ (xs : List ℕ). take at bytes ++ take n xs) (rest_of at bytes) ∙ sym (take-add at n bytes)) (Appends-trans old mid new _ _ a b)

pub returns-in-Ok-eq0 : goal.returns-in-Ok-eq0
returns-in-Ok-eq0 g c =
    let at = c.loop-at.at in
    let bytes = c.args.bytes.now in
    let n = c.in-Ok-eq0.field-0 in
    record { part = take (at + n) bytes; rest = drop (at + n) bytes; split = take-append-drop (at + n) bytes; now = more _ _ _ at n bytes c.loop-at.invariant.taken c.in-Ok-eq0.ensures.bytes }

pub loop-at-preserved-in-Ok : goal.loop-at-preserved-in-Ok
loop-at-preserved-in-Ok g c = record {
  within = omega (arith, c.in-Ok.ensures.bound, length-take {A = ℕ}, length-drop {A = ℕ});
  taken = more _ _ _ c.loop-at.at c.in-Ok.count c.args.bytes.now c.loop-at.invariant.taken c.in-Ok.ensures.bytes;
}

pub returns-then-tries-eq0 : goal.returns-then-tries-eq0
returns-then-tries-eq0 g c = handed _ _ _ c.loop-at.at c.args.bytes.now c.loop-at.invariant.taken c.in-Err.ensures.bytes
