-- The values of the files have no float and are not deep, so their texts are known and read back.
use Rattle.std.proofs.Common.{◌≡◌, ◌≤◌, ℕ, List, false, IfOk, OnOk, Ok, Err, Some, IsUtf8, Result, refl, subst, lit≤}
use Rattle.std.specs.Fmt.{digits}
use Rattle.std.specs.Global.{Vec}
use Rattle.std.specs.declared.alloc.AllocError.{AllocError}
use Rattle.json_parts.specs.Json.{IsJson}
use Rattle.serde_json.specs.Data.{Data, depth}
use Rattle.serde_json.specs.Read.{read, max_depth}
use Rattle.serde_json.specs.Written.{compact_text, has_float}
use Rattle.load_maker.specs.Numbers.{numbers}
use Rattle.load_maker.specs.Plain.{IsPlain}
use Rattle.load_maker.specs.Values.{put_all, links, switches, network_data, leaf_entries, spine_entries, entries_data, control_data, capture_places, case_data}

-- what a writer of such a value answers
pub json_of : (d : Data) (r : Result (Vec ℕ) AllocError) → IsPlain d → IfOk r (λ b. has_float d ≡ false → b.items ≡ compact_text d)
    → IfOk r (λ b. IsUtf8 b.items) → IfOk r (λ b. depth d ≤ max_depth → read b.items ≡ Some d) → OnOk r (IsJson (compact_text d) d)
json_of d (Ok b) plain text utf8 back =
    let is = text plain.whole in
    (subst IsUtf8 is utf8, subst (λ (s : List ℕ). read s ≡ Some d) is (back plain.shallow))
json_of d (Err e) plain text utf8 back = tt

pub network_is_plain : IsPlain network_data
unfolding network_data links switches numbers
network_is_plain = record { whole = refl; shallow = lit≤ tt }

pub entries_is_plain : IsPlain entries_data
unfolding entries_data leaf_entries spine_entries put_all numbers digits
entries_is_plain = record { whole = refl; shallow = lit≤ tt }

pub control_is_plain : IsPlain control_data
unfolding control_data put_all digits
control_is_plain = record { whole = refl; shallow = lit≤ tt }

pub case_is_plain : (out : List ℕ) → IsPlain (case_data out)
unfolding case_data capture_places numbers
case_is_plain out = record { whole = refl; shallow = lit≤ tt }
