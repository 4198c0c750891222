-- What a command's job writes, and what it hands to the sink. Read `Headline` of linked_run before it, and `Files` of forward_run.
use Rattle.std.specs.Prelude.{◌≡◌, ℕ, ◌+◌, ◌/◌, List, [], ◌∷◌, ◌++◌, codes}
use Rattle.std.specs.Fmt.{decimal}
use Rattle.indus_tree.specs.Tree.{Property}
use Rattle.indus_types.specs.Sums.{cut, cut_wide, property_bits, property_weight}
use Rattle.job_course.specs.Output.{Out}
use Rattle.forward_run.specs.Files.{IsForwardOutput}
use Rattle.linked_jobs.specs.Job as linked
use Rattle.linked_run.specs.Headline.{Headline, WireHeadline}
use Rattle.link_run.specs.Headline.{LinkHeadline}
use Rattle.load_maker.specs.Made.{made_files}
use Rattle.commands.specs.Job.{Job, wire, check, forward, run, link, load}

-- the bytes that so many bits need
abbrev pub bytes_of : ℕ → ℕ
bytes_of bits = (bits + 7) / 8

-- of `check`: no file, and a line with the bytes of the telemetry and the weight, each cut at the greatest number
abbrev pub ok_line : (bytes weight : ℕ) → List ℕ
ok_line b w = codes "ok bytes " ++ (decimal b ++ (codes " weight " ++ (decimal w ++ 10 ∷ [])))

pub record IsCheckOutput (p : Property) (given : Out) : Type 0 where
  pub files : given.files ≡ []
  pub text : given.text ≡ ok_line (bytes_of (cut_wide (property_bits p))) (cut (property_weight p))

-- of `load`: the files of the made case, and behind them what `run` writes of its job, with the headline
pub record LoadHeadline (n : ℕ) (j : linked.Job) (o : List ℕ) (given : Out) : Type 0 where
  pub ran : Out
  pub headline : Headline j o ran
  pub files : given.files ≡ made_files n o ++ ran.files
  pub text : given.text ≡ ran.text

-- of `wire`, `run`, `link` and `load`: the headline
abbrev pub Outputs : Job → Out → Type 0
Outputs (wire t o) out = WireHeadline t.job o out
Outputs (check p) out = IsCheckOutput p out
Outputs (forward j o) out = IsForwardOutput j o out
Outputs (run t o) out = Headline t.job o out
Outputs (link b o) out = LinkHeadline b o out
Outputs (load n t o) out = LoadHeadline n t.job o out
