-- A job that is read, and then what is made of it.
use Rattle.std.proofs.Common.{◌≡◌, ◌∙◌, Result, Ok, Err, IsErr, IsErrAnd, refl, sym, ap, subst}
use Rattle.std.proofs.lemmas.Result.{err_from_is_err_and}
use Rattle.outside.specs.State.{StoreState}
use Rattle.job_course.specs.declared.delivery.Output.{Output}
use Rattle.job_course.specs.declared.status.Stop.{Stop}
use Rattle.job_course.specs.declared.status.Stop.TheVariants.{Refused, Starved}
use Rattle.job_course.specs.Course.{Course, give}
use Rattle.job_course.specs.Output.{Out, out_of}
use Rattle.job_course.specs.Plan.{Plans, PlansStop}
use Rattle.job_course.specs.Steps.{Keeps, Follows}
use Rattle.job_course.proofs.Courses.{follows_then, follows_first, follows_give}
use Rattle.command_steps.specs.Whole.{whole}

module _ {A J Q : Type 0} (Outputs : J → Out → Type 0) (c : Course A) (k : A → J) (view : Q → A) (s t : StoreState) where
  abbrev job : Q → J
  job q = k (view q)

  stops : (e : Stop) → Keeps {A = Q} (whole c k) job s t (Err e) → PlansStop (whole c k) s t e
  stops (Refused r) h = h
  stops Starved h = h

  left : (r : Result Output Stop) (e : Stop) → IsErr r × IsErrAnd r (λ y. y ≡ e) → PlansStop (whole c k) s t e → Plans Outputs (whole c k) s t r
  left r e is h = let p = err_from_is_err_and r is.1 in
      subst (λ x. Plans Outputs (whole c k) s t x) (sym (p.1 ∙ ap Err p.2)) h

  -- the job was not read
  pub planned_first : (r : Result Output Stop) {e : Stop} → IsErr r × IsErrAnd r (λ y. y ≡ e) → Follows c view s t (Err e) → Plans Outputs (whole c k) s t r
  planned_first r {e} is h = left r e is (stops e (follows_first (λ a. give (k a)) {view = job} h).keeps)

  -- what is written is of the job that was read
  pub planned : {q : Q} (o : Output) → Follows c view s t (Ok q) → Outputs (k (view q)) (out_of o) → Plans Outputs (whole c k) s t (Ok o)
  planned {q} o h made = record {
    job = job q;
    finds = (follows_then (λ a. give (k a)) {view = job} {r = Ok q} h (follows_give (job q) refl)).keeps;
    outputs = made;
  }
