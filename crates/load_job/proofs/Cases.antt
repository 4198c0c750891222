-- What the made case file says.
use Rattle.std.proofs.Common.{◌≡◌, ℕ, List, true, Ok, refl}
use Rattle.case_file.specs.Case.{Case, capture_at, case_of, front_of, case_from}
use Rattle.json_parts.specs.Object.{members_of, maybe_at, text_at, maybe_text_at, list_at, number_at}
use Rattle.json_parts.specs.Turns.{in_turn}
use Rattle.load_maker.specs.Values.{case_data, capture_places}
use Rattle.load_maker.specs.Numbers.{numbers}
use Rattle.load_job.specs.Made.{made_case}

case_reads : (out : List ℕ) → case_of true (case_data out) ≡ Ok (made_case out)
unfolding case_of front_of case_from members_of maybe_at text_at maybe_text_at list_at number_at capture_at case_data capture_places numbers in_turn
case_reads out = refl

pub case_is_made : (out : List ℕ) (c : Case) → case_of true (case_data out) ≡ Ok c → c ≡ made_case out
case_is_made out c is = cc (case_reads out, is)
