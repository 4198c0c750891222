-- What a command hands over.
use Rattle.std.specs.Prelude.{ℕ, List, map, string_bytes}
use Rattle.std.specs.declared.string.String.{String}
use Rattle.std.specs.declared.vec.Vec.{Vec}
use Rattle.std.specs.declared.alloc.Global.{Global}
use Rattle.job_course.specs.declared.delivery.Output.{Output}

-- files in the order in which they are written, and the bytes for the sink
pub record Out : Type 0 where
  pub files : List (List ℕ × List ℕ)
  pub text : List ℕ

-- the name and the bytes of a file
abbrev pub file_of : String Global × Vec ℕ Global → List ℕ × List ℕ
file_of e = (string_bytes e.0, e.1.items)

-- the names and the bytes of files
abbrev pub files_of : List (String Global × Vec ℕ Global) → List (List ℕ × List ℕ)
files_of list = map file_of list

-- what a value of the program hands over
abbrev pub out_of : Output → Out
out_of o = record { files = files_of o.files.items; text = string_bytes o.text }
