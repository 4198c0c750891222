-- What is said of bytes is said of the same bytes.
use Rattle.std.proofs.Common.{◌≡◌, ℕ, List, Result, subst}
use Rattle.serde_json.specs.View.{view}
use Rattle.serde_json.specs.declared.value.Value.{Value}
use Rattle.json_parts.specs.Json.{IsJson}
use Rattle.job_course.specs.declared.status.Stop.{Stop}
use Rattle.job_course.specs.Steps.{Judged}
use Rattle.network_course.specs.Files.{IsNoJson}

pub of_bytes : (name bytes text : List ℕ) → bytes ≡ text → (r : Result Value Stop) → Judged (IsJson bytes) (IsNoJson name bytes) view r → Judged (IsJson text) (IsNoJson name text) view r
of_bytes name bytes text same r h = subst (λ bs. Judged (IsJson bs) (IsNoJson name bs) view r) same h
