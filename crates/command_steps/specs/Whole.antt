-- The course of a whole command: what is read, as the job that it is. Read `Course` of the job's course before it.
use Rattle.job_course.specs.Course.{Course, and_then, give}

abbrev pub whole : {A J : Type 0} → Course A → (A → J) → Course J
whole c job = and_then c (λ a. give (job a))
