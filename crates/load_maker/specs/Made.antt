-- The files of the case that is made from a number.
use Rattle.std.specs.Prelude.{ℕ, List, [], ◌∷◌, ◌++◌, map, codes}
use Rattle.serde_json.specs.Written.{compact_text}
use Rattle.load_maker.specs.Numbers.{numbers}
use Rattle.load_maker.specs.Draws.{packets}
use Rattle.load_maker.specs.Captures.{capture, capture_name}
use Rattle.load_maker.specs.Values.{case_data, network_data, entries_data, control_data, file_name}
use Rattle.load_maker.specs.Texts.{program_text, property_text}

abbrev pub case_text : (out : List ℕ) → List ℕ
case_text out = compact_text (case_data out)

-- the files that stand before the captures, with their names and their bytes
abbrev pub case_files : (out : List ℕ) → List (List ℕ × List ℕ)
case_files out =
    (file_name out (codes "case.json"), case_text out)
    ∷ (file_name out (codes "net.json"), compact_text network_data)
    ∷ (file_name out (codes "basic.p4"), program_text)
    ∷ (file_name out (codes "path.indus"), property_text)
    ∷ (file_name out (codes "entries.json"), compact_text entries_data)
    ∷ (file_name out (codes "control.json"), compact_text control_data)
    ∷ []

-- a file for each host, whether it sends or not
abbrev pub capture_files : (number : ℕ) → (out : List ℕ) → List (List ℕ × List ℕ)
capture_files n out = map (λ k. (capture_name out k, capture k (packets n))) (numbers 16)

-- all files, in the order in which they are written
abbrev pub made_files : (number : ℕ) → (out : List ℕ) → List (List ℕ × List ℕ)
made_files n out = case_files out ++ capture_files n out
