-- What holds where an answer is given, and what is written of a run at its end.
use Rattle.std.proofs.Common.{◌≡◌, ℕ, List, ap, ◌∙◌, subst}
use Rattle.std.specs.Prelude.{Result, Ok, Err, IfOk}
use Rattle.job_course.specs.Output.{Out}
use Rattle.path_runner.specs.Nets.{State}
use Rattle.run_output.specs.Ends as output
use Rattle.run_output.specs.Ends.{Parts, IsOutput}
use Rattle.run_output.specs.Wire as wire
use Rattle.run_output.specs.Wire.{IsWire}
use Rattle.linked_jobs.specs.Job.{Job}
use Rattle.linked_jobs.specs.Run.{linked_programs, run_of}
use Rattle.linked_run.specs.Finished.{IsFinished}
use Rattle.linked_run.specs.Headline.{Headline, WireHeadline}

pub if_ok : {A E : Type 0} (P R : A → Type 0) (r : Result A E) → ((a : A) → P a → R a) → IfOk r P → IfOk r R
if_ok P R (Ok a) f h = f a h
if_ok P R (Err e) f h = tt

module _ (j : Job) (x y : Parts) (s : State) (same : x ≡ y) (is : IsFinished j y s) (out : List ℕ) (given : Out) where
  pub headline : IsOutput out x s given → Headline j out given
  headline h =
      let w = run_of j is.linked in
      record {
        linked = is.linked;
        claims = is.claims;
        writes =
            subst (λ (z : Parts). output.IsRunOutput out z j.network.names w given) (same ∙ is.parts)
            (subst (λ (ns : List (List ℕ)). output.IsRunOutput out x ns w given) (ap (λ n. n.names) is.network) (h (linked_programs is.linked) w is.shows));
      }

  pub wire_headline : IsWire out x s given → WireHeadline j out given
  wire_headline h =
      let w = run_of j is.linked in
      record {
        linked = is.linked;
        claims = is.claims;
        writes =
            subst (λ (z : Parts). wire.IsWireOutput out z j.network.names w given) (same ∙ is.parts)
            (subst (λ (ns : List (List ℕ)). wire.IsWireOutput out x ns w given) (ap (λ n. n.names) is.network) (h (linked_programs is.linked) w is.shows));
      }
