-- What each answer of the call says. Read `Ending` of the courses before it.
use Rattle.std.specs.Prelude.{◌≡◌, Option, Some, None}
use Rattle.outside.specs.State.{StoreState, SinkState}
use Rattle.job_course.specs.declared.status.Status.{Status}
use Rattle.job_course.specs.declared.status.Status.TheVariants.{BadWords}
use Rattle.job_course.specs.Ending.{HasPut, AnswersCommand, AnswersAll}
use Rattle.job_course.specs.Lines.{words_line}
use Rattle.commands.specs.Command.{Command, course_of}
use Rattle.commands.specs.Output.{Outputs}

-- each answer of the call, with what stands after it and its cause
abbrev pub Answers : Option Command → StoreState → StoreState → SinkState → SinkState → Status → Type 0
Answers None s t k m status = (status ≡ BadWords) × (t ≡ s) × HasPut words_line k m
Answers (Some command) s t k m status = AnswersCommand Outputs (course_of command) s t k m status

-- what the files give or refuse is answered, unless a count rose or memory was wanting
abbrev pub IsComplete : Option Command → StoreState → StoreState → SinkState → SinkState → Status → Type 0
IsComplete None s t k m status = Unit {0}
IsComplete (Some command) s t k m status = AnswersAll (course_of command) s t k m status
