-- A step, from its act and where it goes on.
use Rattle.std.proofs.Common.{◌≡◌, ℕ, List, Option, Some, None, refl, sym, ap, ◌∙◌, subst}
use Rattle.std.specs.Option.{option_map}
use Rattle.sei_pass.specs.declared.spaces.PassSpace.{PassSpace}
use Rattle.sei_fault.specs.declared.place.Act.{Act}
use Rattle.sei_fault.specs.declared.place.Times.TheVariants.{Skip}
use Rattle.sei_fault.specs.Question.{Question, Answer}
use Rattle.sei_fault.specs.Question.Question.{Often}
use Rattle.sei_fault.specs.Tree.{Runs, bound}
use Rattle.sei_fault.proofs.Public.{runs_bound}
use Rattle.sei_pass.proofs.Public.{some_answer}
use Rattle.sei_words.specs.LentBucket.{Place, place_of, bucket_of}
use Rattle.sei_words.specs.Words.{BucketWords}
use Rattle.sei_traverse.specs.declared.workspace.Ending.{Ending}
use Rattle.sei_traverse.specs.declared.workspace.Workspace.{Workspace}
use Rattle.sei_traverse.specs.Acts.{acted}
use Rattle.sei_traverse.specs.Given.{Given, given_of}
use Rattle.sei_stmt.specs.Handling.{Behavior}
use Rattle.sei_traverse.specs.Step.{StepResult, skipped, goes, goes_from, goes_on, act_tree, once, twice, twice_from, step_at, Timed, TimedTwice}

bucket_by_place : (a : Option BucketWords) → option_map (λ (p : Place). p.bucket) (place_of a) ≡ bucket_of a
bucket_by_place None = refl
bucket_by_place (Some b) = refl

-- what is lent at the same place is of the same bucket
pub same_bucket : (a b : Option BucketWords) → place_of a ≡ place_of b → bucket_of a ≡ bucket_of b
same_bucket a b e = sym (bucket_by_place a) ∙ ap (option_map (λ (p : Place). p.bucket)) e ∙ bucket_by_place b

-- so the act once more is given the same
pub once_on : {S : Type 0} (gives : S → (q : Question) → Answer q → S → Type 0) (told : Option ℕ) (h : Behavior) (input : List ℕ) (g : PassSpace) (a b : Option BucketWords) (w : Workspace) (words : List ℕ) (s t : S) (y : StepResult) →
    place_of a ≡ place_of b → Timed gives told (λ now. once (given_of h input g (bucket_of a)) now w words) s t y → Timed gives told (λ now. once (given_of h input g (bucket_of b)) now w words) s t y
once_on gives told h input g a b w words s t y e r = subst (λ (n : Option ℕ). Timed gives told (λ now. once (given_of h input g n) now w words) s t y) (same_bucket a b e) r

module _ {S : Type 0} (gives : S → (q : Question) → Answer q → S → Type 0) (told : Option ℕ) (g : Given) (w : Workspace) (words : List ℕ) where
  pub once_runs : (v : Workspace) (left : List ℕ) (e : Ending) (s m t : S) (y : StepResult) → Timed gives told (λ now. act_tree g now w words) s m (acted v left e) →
      Runs gives (goes_from v left e) m t y → Timed gives told (λ now. once g now w words) s t y
  once_runs v left e s m t y a r = record {
    now = a.now;
    answer = a.answer;
    runs = runs_bound gives (act_tree g a.now w words) goes_on s m t (acted v left e) y a.runs r;
  }

  pub twice_runs : (v : Workspace) (left : List ℕ) (e : Ending) (s m t : S) (y : StepResult) → Timed gives told (λ now. act_tree g now w words) s m (acted v left e) →
      Timed gives told (λ later. twice_from g later v left e) m t y → TimedTwice gives told (λ now later. bound (act_tree g now w words) (twice g later)) s t y
  twice_runs v left e s m t y a r = record {
    now = a.now;
    later = r.now;
    answer = a.answer;
    answer_later = r.answer;
    runs = runs_bound gives (act_tree g a.now w words) (twice g r.now) s m t (acted v left e) y a.runs r.runs;
  }

  -- what does not look at the clock
  pub still : (v : Workspace) (left : List ℕ) (e : Ending) (s t : S) (y : StepResult) → ((later : ℕ) → Runs gives (twice_from g later v left e) s t y) → Timed gives told (λ later. twice_from g later v left e) s t y
  still v left e s t y r = let a = some_answer told in record { now = a.0; answer = a.1; runs = r a.0 }

  pub step_skip : (act : Act) (s m t : S) (y : StepResult) → gives s (Often (record { place = w.place; act = act })) Skip m →
      Runs gives (goes w words (skipped w act)) m t y → TimedTwice gives told (λ now later. step_at (Some act) g now later w words) s t y
  step_skip act s m t y h r =
      let a = some_answer told in
      record { now = a.0; later = a.0; answer = a.1; answer_later = a.1; runs = (Skip, m, h, r) }

  -- the place has this site, or none
  pub at_site : (o site : Option Act) (s t : S) (y : StepResult) → o ≡ site → TimedTwice gives told (λ now later. step_at o g now later w words) s t y →
      TimedTwice gives told (λ now later. step_at site g now later w words) s t y
  at_site o site s t y e r = subst (λ (a : Option Act). TimedTwice gives told (λ now later. step_at a g now later w words) s t y) e r

  pub no_clock : (o : Option Act) (s t : S) (y : StepResult) → ((now later : ℕ) → Runs gives (step_at o g now later w words) s t y) → TimedTwice gives told (λ now later. step_at o g now later w words) s t y
  no_clock o s t y r = let a = some_answer told in record { now = a.0; later = a.0; answer = a.1; answer_later = a.1; runs = r a.0 a.0 }
