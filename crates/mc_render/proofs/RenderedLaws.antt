-- What words render to, from their first output on.
use Rattle.std.proofs.Common.{◌≡◌, ℕ, zero, suc, ◌+◌, ◌<◌, ◌≤◌, ◌==◌, List, [], ◌∷◌, ◌++◌, length, Option, Some, None, refl, sym, ap, subst, ◌∙◌, arith, append_assoc, length-append, true, false}
use Rattle.std.proofs.lemmas.Bool.{lt-leb, eqb-true}
use Rattle.std.specs.Option.{option_map, option_and_then, is_some}
use Rattle.std.specs.List.{flat_map}
use Rattle.std.proofs.lemmas.List.{append-nil}
use Rattle.sei_code.specs.declared.modes.Rendered.TheVariants.{Full}
use Rattle.mc_render.specs.Outputs.{output_text, first_output}
use Rattle.mc_render.specs.Rendering.{outputs_upto, rendered, answer_of, bytes_of}
use Rattle.mc_render.specs.declared.output.Output.{Output}
use Rattle.mc_render.proofs.ShorterLaws.{Leaves, output_leaves}

-- as many steps as there are words are enough
enough : (a b limit : ℕ) (ws : List ℕ) → length ws ≤ a → length ws ≤ b → outputs_upto a limit ws ≡ outputs_upto b limit ws
enough a b limit [] h k = refl
enough zero b limit (w ∷ ws) h k = absurd (omega (arith, h))
enough (suc a) zero limit (w ∷ ws) h k = absurd (omega (arith, k))
enough (suc a) (suc b) limit (w ∷ ws) h k =
    same (first_output limit (w ∷ ws)) (output_leaves limit w ws) (λ vs l. enough a b limit vs (omega (arith, l, h)) (omega (arith, l, k)))
  where
    same : (x : Option (Output × List ℕ)) → Leaves (length ws) x → ((vs : List ℕ) → length vs ≤ length ws → outputs_upto a limit vs ≡ outputs_upto b limit vs) →
        option_and_then (λ o. option_map (λ xs. o.0 ∷ xs) (outputs_upto a limit o.1)) x ≡ option_and_then (λ o. option_map (λ xs. o.0 ∷ xs) (outputs_upto b limit o.1)) x
    same None l each = refl
    same (Some p) l each = ap (option_map (λ xs. p.0 ∷ xs)) (each p.1 l)

-- no words render to no bytes
pub rendered_nil : (limit : ℕ) → rendered limit [] ≡ Some []
unfolding rendered
rendered_nil limit = refl

-- words render to the bytes of their first output, and then what the words behind it render to
pub rendered_first : (limit w : ℕ) (ws : List ℕ) →
    rendered limit (w ∷ ws) ≡ option_and_then (λ p. option_map (λ bs. output_text p.0 ++ bs) (rendered limit p.1)) (first_output limit (w ∷ ws))
unfolding rendered
rendered_first limit w ws = same (first_output limit (w ∷ ws)) (output_leaves limit w ws)
  where
    joined : (x : Output) (o : Option (List Output)) → option_map (flat_map output_text) (option_map (λ xs. x ∷ xs) o) ≡ option_map (λ bs. output_text x ++ bs) (option_map (flat_map output_text) o)
    joined x None = refl
    joined x (Some xs) = refl

    same : (x : Option (Output × List ℕ)) → Leaves (length ws) x →
        option_map (flat_map output_text) (option_and_then (λ o. option_map (λ xs. o.0 ∷ xs) (outputs_upto (length ws) limit o.1)) x)
        ≡ option_and_then (λ p. option_map (λ bs. output_text p.0 ++ bs) (option_map (flat_map output_text) (outputs_upto (length p.1) limit p.1))) x
    same None l = refl
    same (Some p) l = joined p.0 (outputs_upto (length ws) limit p.1) ∙ ap (λ o. option_map (λ bs. output_text p.0 ++ bs) (option_map (flat_map output_text) o)) (enough (length ws) (length p.1) limit p.1 l (omega arith))

pub rendered_some : (limit : ℕ) (ws rest : List ℕ) (x : Output) → Some (x, rest) ≡ first_output limit ws →
    rendered limit ws ≡ option_map (λ bs. output_text x ++ bs) (rendered limit rest)
rendered_some limit [] rest x e = absurd (cc)
rendered_some limit (w ∷ ws) rest x e = rendered_first limit w ws ∙ rw (← e) refl

pub rendered_none : (limit : ℕ) (ws : List ℕ) → 0 < length ws → None ≡ first_output limit ws → rendered limit ws ≡ None
rendered_none limit [] h e = absurd (omega (arith, h))
rendered_none limit (w ∷ ws) h e = rendered_first limit w ws ∙ rw (← e) refl

pub shorter : (limit : ℕ) (ws rest : List ℕ) (x : Output) → Some (x, rest) ≡ first_output limit ws → length rest < length ws
shorter limit [] rest x e = absurd (cc)
shorter limit (w ∷ ws) rest x e = let h = subst (Leaves (length ws)) (sym e) (output_leaves limit w ws) in omega (arith, h)

-- The bytes so far, followed by those of the words that are left, are all.

pub begun : (o : Option (List ℕ)) → o ≡ option_map (λ bs. [] ++ bs) o
begun None = refl
begun (Some bs) = refl

behind : (xs ys : List ℕ) (o : Option (List ℕ)) → option_map (λ bs. xs ++ bs) (option_map (λ bs. ys ++ bs) o) ≡ option_map (λ bs. (xs ++ ys) ++ bs) o
behind xs ys None = refl
behind xs ys (Some bs) = ap (λ zs. Some zs) (sym (append_assoc xs ys bs))

pub one_more : (limit : ℕ) (words rest left xs ys : List ℕ) (x : Output) →
    rendered limit words ≡ option_map (λ bs. xs ++ bs) (rendered limit rest) →
    Some (x, left) ≡ first_output limit rest → ys ≡ xs ++ output_text x →
    rendered limit words ≡ option_map (λ bs. ys ++ bs) (rendered limit left)
one_more limit words rest left xs ys x e f p = rw p (e ∙ ap (option_map (λ bs. xs ++ bs)) (rendered_some limit rest left x f) ∙ behind xs (output_text x) (rendered limit left))

pub malformed : (limit : ℕ) (words rest xs : List ℕ) →
    rendered limit words ≡ option_map (λ bs. xs ++ bs) (rendered limit rest) →
    false ≡ (length rest == 0) → None ≡ first_output limit rest → rendered limit words ≡ None
malformed limit words [] xs e h f = absurd (cc)
malformed limit words (w ∷ ws) xs e h f = e ∙ ap (option_map (λ bs. xs ++ bs)) (rendered_none limit (w ∷ ws) (omega arith) f)

pub ended : (limit : ℕ) (words rest xs : List ℕ) →
    rendered limit words ≡ option_map (λ bs. xs ++ bs) (rendered limit rest) →
    true ≡ (length rest == 0) → rendered limit words ≡ Some xs
ended limit words [] xs e h = e ∙ ap (option_map (λ bs. xs ++ bs)) (rendered_nil limit) ∙ ap (λ zs. Some zs) (append-nil xs)
ended limit words (w ∷ ws) xs e h = absurd (omega (arith, eqb-true (suc (length ws)) 0 (sym h)))

pub same_some : (limit : ℕ) (ws rest : List ℕ) (x : Output) → Some (x, rest) ≡ first_output limit ws → is_some (rendered limit ws) ≡ is_some (rendered limit rest)
same_some limit ws rest x e = ap is_some (rendered_some limit ws rest x e) ∙ mapped (rendered limit rest)
  where
    mapped : (o : Option (List ℕ)) → is_some (option_map (λ bs. output_text x ++ bs) o) ≡ is_some o
    mapped None = refl
    mapped (Some bs) = refl

-- Where an output does not fit: all is malformed where the rest is, and else does not fit.

pub full_then : (limit room : ℕ) (words rest left xs : List ℕ) (x : Output) →
    rendered limit words ≡ option_map (λ bs. xs ++ bs) (rendered limit rest) →
    Some (x, left) ≡ first_output limit rest → room < length xs + length (output_text x) →
    true ≡ is_some (rendered limit left) →
    (Full ≡ answer_of room (rendered limit words)) × ([] ≡ bytes_of room (rendered limit words))
full_then limit room words rest left xs x e f lt some = rw (one_more limit words rest left xs (xs ++ output_text x) x e f refl) (at (rendered limit left) some)
  where
    at : (o : Option (List ℕ)) → true ≡ is_some o → (Full ≡ answer_of room (option_map (λ bs. (xs ++ output_text x) ++ bs) o)) × ([] ≡ bytes_of room (option_map (λ bs. (xs ++ output_text x) ++ bs) o))
    at None h = absurd (cc)
    at (Some bs) h =
        let over = lt-leb (length ((xs ++ output_text x) ++ bs)) room (omega (arith, lt, length-append (xs ++ output_text x) bs, length-append xs (output_text x))) in
        rw over (refl, refl)

pub bad_then : (limit : ℕ) (words rest left xs : List ℕ) (x : Output) →
    rendered limit words ≡ option_map (λ bs. xs ++ bs) (rendered limit rest) →
    Some (x, left) ≡ first_output limit rest →
    false ≡ is_some (rendered limit left) →
    rendered limit words ≡ None
bad_then limit words rest left xs x e f none = one_more limit words rest left xs (xs ++ output_text x) x e f refl ∙ at (rendered limit left) none
  where
    at : (o : Option (List ℕ)) → false ≡ is_some o → option_map (λ bs. (xs ++ output_text x) ++ bs) o ≡ None
    at None h = refl
    at (Some bs) h = absurd (cc)

pub none_left : (limit : ℕ) (rest : List ℕ) → true ≡ (length rest == 0) → is_some (rendered limit rest) ≡ true
none_left limit [] h = ap is_some (rendered_nil limit)
none_left limit (w ∷ ws) h = absurd (omega (arith, eqb-true (suc (length ws)) 0 (sym h)))
