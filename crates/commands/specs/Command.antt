-- The command lines, and the course of each command. Read `Course` of the job's course before it and `Output` after it.
use Rattle.std.specs.Prelude.{ℕ, List, [], ◌∷◌, length, Option, Some, None, codes, if◌then◌else◌, Bool, true, false, nat_lt}
use Rattle.std.specs.Str.{bytes_eq}
use Rattle.std.specs.Char.{is_digit}
use Rattle.std.specs.Str.Parse.{digits_value}
use Rattle.job_course.specs.Course.{Course, and_then, give}
use Rattle.property_course.specs.Files.{typed_property}
use Rattle.forward_job.specs.Course.{forward_course}
use Rattle.run_job.specs.Course.{run_course, linked_course}
use Rattle.load_job.specs.Course.{load_course}
use Rattle.wire_job.specs.Course.{wire_course}
use Rattle.commands.specs.declared.command.Command as said
use Rattle.commands.specs.declared.command.Command.TheVariants as variants
use Rattle.commands.specs.Job as jobs

pub data Command : Type 0 where
  -- the names of the property's and the frame's files, and the front of the names of what is written
  wire : (property frame out : List ℕ) → Command
  -- the name of the property's file
  check : (property : List ℕ) → Command
  -- the name of the case's file, and the front of the names of what is written
  forward : (case out : List ℕ) → Command
  -- the name of the case's file, and the front of the names of what is written
  run : (case out : List ℕ) → Command
  -- the name of the case's file, and the front of the names of what is written
  link : (case out : List ℕ) → Command
  -- the number of the made case, and the front of the names of its files and of what is written
  load : (number : ℕ) (out : List ℕ) → Command

-- ---- words

-- each byte is a decimal digit
abbrev pub are_digits : List ℕ → Bool
are_digits [] = true
are_digits (c ∷ cs) = if is_digit c 10 then are_digits cs else false

-- the number of a made case: 1 to 20 decimal digits, with a value below 2^64
abbrev pub is_number : List ℕ → Bool
is_number [] = false
is_number (c ∷ cs) =
    if nat_lt 20 (length (c ∷ cs)) then false
    else if are_digits (c ∷ cs) then nat_lt (digits_value 10 (c ∷ cs)) 18446744073709551616
    else false

abbrev pub number_in : List ℕ → Option ℕ
number_in w = if is_number w then Some (digits_value 10 w) else None

abbrev pub load_from : Option ℕ → (out : List ℕ) → Option Command
load_from None o = None
load_from (Some n) o = Some (load n o)

-- names of a made case begin with at most 4,096 bytes
abbrev pub load_of : (number out : List ℕ) → Option Command
load_of w o = if nat_lt 4096 (length o) then None else load_from (number_in w) o

-- the command that words are, where they are one
abbrev pub command_of : List (List ℕ) → Option Command
command_of (word ∷ p ∷ f ∷ o ∷ []) = if bytes_eq word (codes "wire") then Some (wire p f o) else None
command_of (word ∷ c ∷ o ∷ []) =
    if bytes_eq word (codes "forward") then Some (forward c o)
    else if bytes_eq word (codes "run") then Some (run c o)
    else if bytes_eq word (codes "link") then Some (link c o)
    else if bytes_eq word (codes "load") then load_of c o
    else None
command_of (word ∷ p ∷ []) = if bytes_eq word (codes "check") then Some (check p) else None
command_of _ = None

-- ---- courses

-- the job of a command, or its first refusal
abbrev pub course_of : Command → Course jobs.Job
course_of (wire p f o) = and_then (wire_course p f) (λ task. give (jobs.wire task o))
course_of (check p) = and_then (typed_property p) (λ tree. give (jobs.check tree))
course_of (forward c o) = and_then (forward_course c) (λ job. give (jobs.forward job o))
course_of (run c o) = and_then (run_course c) (λ task. give (jobs.run task o))
course_of (link c o) = and_then (linked_course c) (λ base. give (jobs.link base o))
course_of (load n o) = and_then (load_course n o) (λ task. give (jobs.load n task o))

-- the command that a value says
abbrev pub said_by : said.Command → Command
said_by (variants.Wire p f o) = wire p.now f.now o.now
said_by (variants.Check p) = check p.now
said_by (variants.Forward c o) = forward c.now o.now
said_by (variants.Run c o) = run c.now o.now
said_by (variants.Link c o) = link c.now o.now
said_by (variants.Load n o) = load n o.now
