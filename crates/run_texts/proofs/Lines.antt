-- Lines of what was told and of tables, and files of programs, one after the other.
use Rattle.std.proofs.Common.{◌≡◌, ℕ, suc, ◌+◌, ◌<◌, ◌≤◌, List, [], ◌∷◌, ◌++◌, Bool, true, false, cond, length, map, take, drop, get_or, Some, refl, ap, ap₂, sym, ◌∙◌, arith, append_assoc, append-nil, filter}
use Rattle.std.specs.Prelude.{slice_get}
use Rattle.std.specs.List.{flat_map}
use Rattle.std.proofs.lemmas.Grind.{flat_map-append}
use Rattle.std.proofs.lemmas.List.{map-append, map_more}
use Rattle.std.proofs.lemmas.List.Elements.{filter-append}
use Rattle.std.proofs.Math.Seq.{take-suc}
use Rattle.p4_tree.specs.Tree.{Program}
use Rattle.indus_tree.specs.Tree.{Decl}
use Rattle.network_run.specs.Network.{Told}
use Rattle.report_writer.specs.Texts.{Report, report_line, reports_of}
use Rattle.loaded_tables.specs.Rows.{Row}
use Rattle.register_texts.proofs.Rows.{drop_at, drop_past}
use Rattle.run_texts.specs.Programs.{program_file, programs_files}
use Rattle.run_texts.specs.Tables.{table_line, tables_lines}

-- ---- what was told

-- a line for each that passes a test
abbrev rows_of : (P : Told → Bool) → (row : Told → Report) → List Told → List ℕ
rows_of P row ts = reports_of (map row (filter P ts))

-- of one
pub one_line : (P : Told → Bool) (row : Told → Report) (t : Told) → P t ≡ true → rows_of P row (t ∷ []) ≡ reports_of (row t ∷ [])
one_line P row t e = ap (λ (b : Bool). reports_of (map row (cond b (t ∷ []) []))) e

pub no_line : (P : Told → Bool) (row : Told → Report) (t : Told) → P t ≡ false → [] ≡ rows_of P row (t ∷ [])
no_line P row t e = sym (ap (λ (b : Bool). reports_of (map row (cond b (t ∷ []) []))) e)

-- one more
pub line_more :
    {A : Type 0} (P : Told → Bool) (row : Told → Report) (view : A → Told) (text line : List ℕ) (xs : List A) (i : ℕ) (d : A) → i < length xs →
    text ≡ rows_of P row (map view (take i xs)) → line ≡ rows_of P row (view (get_or xs i d) ∷ []) → text ++ line ≡ rows_of P row (map view (take (i + 1) xs))
line_more P row view text line xs i d lt so_far line_is =
    let t = view (get_or xs i d) in
    let before = map view (take i xs) in
    let rows : List Told → List Report = λ ts. map row (filter P ts) in
    ap (λ s. s ++ line) so_far
    ∙ ap (λ s. reports_of (rows before) ++ s) line_is
    ∙ sym (flat_map-append report_line (rows before) (rows (t ∷ [])))
    ∙ ap reports_of (sym (map-append row (filter P before) (filter P (t ∷ []))))
    ∙ ap (λ (ts : List Told). reports_of (map row ts)) (sym (filter-append P before (t ∷ [])))
    ∙ ap (λ (ts : List Told). reports_of (rows ts)) (sym (map_more view xs i d lt))

-- ---- tables

pub table_more : (ds : List Decl) (text line : List ℕ) (rows : List Row) (i : ℕ) (d : Row) → i < length rows → text ≡ tables_lines ds (take i rows) → line ≡ table_line ds (get_or rows i d) → text ++ line ≡ tables_lines ds (take (i + 1) rows)
table_more ds text line rows i d lt so_far line_is =
    let r = get_or rows i d in
    ap (λ s. s ++ line) so_far
    ∙ ap (λ s. tables_lines ds (take i rows) ++ s) (line_is ∙ sym (append-nil (table_line ds r)))
    ∙ sym (flat_map-append (table_line ds) (take i rows) (r ∷ []))
    ∙ ap (tables_lines ds) (sym (taken rows i d lt))
  where
    taken : (xs : List Row) (i : ℕ) (d : Row) → i < length xs → take (i + 1) xs ≡ take i xs ++ get_or xs i d ∷ []
    taken xs i d lt = let more : i + 1 ≡ suc i = omega arith in ap (λ (n : ℕ). take n xs) more ∙ take-suc xs i d lt

-- ---- programs

-- the program of a place, and those behind it
pub program_more :
    (o : List ℕ) (qs : List Program) (ns : List (List ℕ)) (i : ℕ) (q : Program) (n : List ℕ) (before now total : List (List ℕ × List ℕ)) → slice_get qs i ≡ Some q → slice_get ns i ≡ Some n →
    before ++ programs_files o (drop i qs) (drop i ns) ≡ total → now ≡ before ++ program_file o n q ∷ [] → now ++ programs_files o (drop (i + 1) qs) (drop (i + 1) ns) ≡ total
program_more o qs ns i q n before now total here name so_far is =
    let rest = programs_files o (drop (i + 1) qs) (drop (i + 1) ns) in
    ap (λ (fs : List (List ℕ × List ℕ)). fs ++ rest) is
    ∙ append_assoc before (program_file o n q ∷ []) rest
    ∙ ap (λ (fs : List (List ℕ × List ℕ)). before ++ fs) (sym (ap₂ (programs_files o) (drop_at qs i q here) (drop_at ns i n name)))
    ∙ so_far

pub programs_end : (o : List ℕ) (qs : List Program) (ns : List (List ℕ)) (i : ℕ) (before total : List (List ℕ × List ℕ)) → length qs ≤ i → before ++ programs_files o (drop i qs) (drop i ns) ≡ total → before ≡ total
programs_end o qs ns i before total le so_far =
    sym (append-nil before) ∙ ap (λ (ps : List Program). before ++ programs_files o ps (drop i ns)) (sym (drop_past qs i le)) ∙ so_far

-- the first of the programs that are left, and those behind it
pub program_step :
    (o : List ℕ) (qs rest : List Program) (ns : List (List ℕ)) (i : ℕ) (q : Program) (n : List ℕ) (before now total : List (List ℕ × List ℕ)) → qs ≡ q ∷ rest → slice_get ns i ≡ Some n →
    before ++ programs_files o qs (drop i ns) ≡ total → now ≡ before ++ program_file o n q ∷ [] → now ++ programs_files o rest (drop (i + 1) ns) ≡ total
program_step o qs rest ns i q n before now total here name so_far is =
    let more = programs_files o rest (drop (i + 1) ns) in
    ap (λ (fs : List (List ℕ × List ℕ)). fs ++ more) is
    ∙ append_assoc before (program_file o n q ∷ []) more
    ∙ ap (λ (fs : List (List ℕ × List ℕ)). before ++ fs) (sym (ap₂ (programs_files o) here (drop_at ns i n name)))
    ∙ so_far
