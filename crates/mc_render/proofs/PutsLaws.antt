-- One text after another.
use Rattle.std.proofs.Common.{◌≡◌, ℕ, List, [], ◌∷◌, ◌++◌, length, ap, ◌∙◌, arith, append_assoc}
use Rattle.std.specs.Prelude.{Result, Ok, Err}
use Rattle.std.proofs.lemmas.List.{length-append}
use Rattle.sei_code.specs.Kept.{Kept}
use Rattle.mc_model.specs.Texts.{line}
use Rattle.mc_render.specs.Puts.{Puts}

pub puts_then : {T U E F : Type 0} (old mid new : Kept ℕ) (xs ys : List ℕ) (x : T) (two : Result U F)
    → Puts {T = T} {E = E} old mid xs (Ok x) → Puts mid new ys two → Puts old new (xs ++ ys) two
puts_then old mid new xs ys x (Ok y) p q = record {
  items = q.items ∙ ap (λ (zs : List ℕ). zs ++ ys) p.items ∙ append_assoc old.items xs ys;
  within = λ h. omega (arith, q.within, p.within h, p.room);
  full = tt;
  room = q.room ∙ p.room;
}
puts_then old mid new xs ys x (Err e) p q = record {
  items = tt;
  within = tt;
  full = omega (arith, q.full, p.room, ap length p.items, length-append old.items xs, length-append xs ys);
  room = q.room ∙ p.room;
}

pub two_lines : (head value shown : List ℕ) → value ≡ shown → ((head ++ 13 ∷ 10 ∷ []) ++ value) ++ 13 ∷ 10 ∷ [] ≡ line head ++ line shown
two_lines head value shown e = append_assoc (head ++ 13 ∷ 10 ∷ []) value (13 ∷ 10 ∷ []) ∙ ap (λ (v : List ℕ). line head ++ line v) e
