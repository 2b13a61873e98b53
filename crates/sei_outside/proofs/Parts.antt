-- Writes, one behind another: `old` is what a sink told before them, `mid` between them and `new` behind them.
use Rattle.std.proofs.Common.{◌≡◌, List, ℕ, [], ◌++◌, refl, ap, sym, ◌∙◌, Option, Some, None}
use Rattle.std.specs.Io.KnownBytes.{append_known}
use Rattle.std.proofs.lemmas.List.{append_assoc, append-nil}
use Rattle.sei_outside.specs.Bytes.{WrotePart}

pub append_known_twice : (o : Option (List ℕ)) (a b : List ℕ) → append_known (append_known o a) b ≡ append_known o (a ++ b)
append_known_twice None a b = refl
append_known_twice (Some xs) a b = ap Some (append_assoc xs a b)

pub append_known_none : (o : Option (List ℕ)) → append_known o [] ≡ o
append_known_none None = refl
append_known_none (Some xs) = ap Some (append-nil xs)

-- all of one text and then all of another
pub wrote_both : (old mid new : Option (List ℕ)) (a b : List ℕ) → mid ≡ append_known old a → new ≡ append_known mid b → new ≡ append_known old (a ++ b)
wrote_both old mid new a b first second = second ∙ ap (λ (o : Option (List ℕ)). append_known o b) first ∙ append_known_twice old a b

-- nothing
pub wrote_nothing : (old : Option (List ℕ)) (all : List ℕ) → WrotePart old old all
wrote_nothing old all = record { part = []; rest = all; split = refl; now = sym (append_known_none old) }

-- all of a first text, and nothing behind it
pub wrote_front : (old new : Option (List ℕ)) (a more : List ℕ) → new ≡ append_known old a → WrotePart old new (a ++ more)
wrote_front old new a more first = record { part = a; rest = more; split = refl; now = first }

-- all of one text and then a part of the next, of a whole that goes on
pub wrote_part_of : (old mid new : Option (List ℕ)) (a b more whole : List ℕ) → whole ≡ a ++ (b ++ more) → mid ≡ append_known old a → WrotePart mid new b → WrotePart old new whole
wrote_part_of old mid new a b more whole is first second = record {
  part = a ++ second.part;
  rest = second.rest ++ more;
  split = append_assoc a second.part (second.rest ++ more)
      ∙ ap (λ (xs : List ℕ). a ++ xs) (sym (append_assoc second.part second.rest more) ∙ ap (λ (xs : List ℕ). xs ++ more) second.split)
      ∙ sym is;
  now = wrote_both old mid new a second.part first second.now;
}

pub wrote_part : (old mid new : Option (List ℕ)) (a b more : List ℕ) → mid ≡ append_known old a → WrotePart mid new b → WrotePart old new (a ++ (b ++ more))
wrote_part old mid new a b more first second = wrote_part_of old mid new a b more (a ++ (b ++ more)) refl first second

-- a part of the first text
pub wrote_first : (old new : Option (List ℕ)) (b more : List ℕ) → WrotePart old new b → WrotePart old new (b ++ more)
wrote_first old new b more second = wrote_part old old new [] b more (sym (append_known_none old)) second

-- all of one text and then a part of the last
pub wrote_last_of : (old mid new : Option (List ℕ)) (a b whole : List ℕ) → whole ≡ a ++ b → mid ≡ append_known old a → WrotePart mid new b → WrotePart old new whole
wrote_last_of old mid new a b whole is first second = wrote_part_of old mid new a b [] whole (is ∙ ap (λ (xs : List ℕ). a ++ xs) (sym (append-nil b))) first second

pub wrote_last : (old mid new : Option (List ℕ)) (a b : List ℕ) → mid ≡ append_known old a → WrotePart mid new b → WrotePart old new (a ++ b)
wrote_last old mid new a b first second = wrote_last_of old mid new a b (a ++ b) refl first second
