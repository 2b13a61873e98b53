use Rattle.std.proofs.Common.{◌≡◌, Option, Some, None, ap, sym, ◌∙◌}
use Rattle.mc_model.specs.declared.geometry.Geometry.{Geometry}
use Rattle.sei_words.specs.LentBucket.{Place, place_of}
use Rattle.sei_words.specs.Words.{BucketWords}
use Rattle.sei_pass.specs.declared.spaces.PassSpace.{PassSpace}
use Rattle.sei_traverse.proofs.PublicRuns.{run_lent, run_space}
use Rattle.sei_traverse.proofs.tests.run.Goals as goal

same_geometry : (a b : BucketWords) → place_of (Some a) ≡ place_of (Some b) → a.geometry ≡ b.geometry
same_geometry a b e =
    let back : Option Place → Geometry = λ o. elim o [ None ↦ a.geometry | Some x ↦ x.geometry ] in
    ap back e

pub returns-then-lent-clause-laid_out : goal.returns-then-lent-clause-laid_out
returns-then-lent-clause-laid_out g c =
    same_geometry c.run.new.lent.0 c.args.words.now (run_lent _ _ _ _ _ _ _ _ _ c.run.ensures.run) ∙ c.requires.laid_out ∙ sym (ap (λ (s : PassSpace). s.geometry) (run_space _ _ _ _ _ _ _ _ _ c.run.ensures.run))

pub returns-else-lent-clause-laid_out : goal.returns-else-lent-clause-laid_out
returns-else-lent-clause-laid_out g c = c.requires.laid_out ∙ sym (ap (λ (s : PassSpace). s.geometry) (run_space _ _ _ _ _ _ _ _ _ c.run-else-lent.ensures.run))
