-- A course over files that are held in memory. Read `Course` of job_course before it.
use Rattle.std.specs.Prelude.{ℕ, List, [], ◌∷◌, None}
use Rattle.outside.specs.Files.{Files, with_file}
use Rattle.job_course.specs.Course.{Course}

-- these files, and no others
abbrev pub held_by : List (List ℕ × List ℕ) → Files
held_by [] = λ name. None
held_by (x ∷ xs) = with_file (held_by xs) x.0 x.1

-- whatever is held outside: no file is asked for there
unfoldable pub within : {J : Type 0} → Files → Course J → Course J
within f c = record {
  asks = λ _ n. ⊥;
  refuses = λ _ s l. c.refuses f s l;
  gives = λ _ j. c.gives f j;
  may = λ j. c.gives f j;
  says = λ s l. c.refuses f s l;
}
