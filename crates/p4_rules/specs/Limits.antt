-- What is counted of a program, and what a switch holds of it. Read `Mains` before it and `ProgramRules` after it.
use Rattle.std.specs.Prelude.{ℕ, ◌+◌, ◌/◌, min, List, [], ◌∷◌, nat_lt}
use Rattle.rule_tests.specs.Tests.{Tests, test, both}
use Rattle.p4_tree.specs.Tree.{Local, local_register, Top, register, control, Program}
use Rattle.p4_tree.specs.declared.statement.PTy.{PTy}
use Rattle.p4_scopes.specs.Scopes.{Scope, core, thing_in, add_up}
use Rattle.p4_scopes.specs.Uses.{header_bits}
use Rattle.p4_statement_rules.specs.declared.rule.ProgramRule.{ProgramRule}
use Rattle.p4_statement_rules.specs.declared.rule.ProgramRule.TheVariants.{Limit}
use Rattle.p4_declaration_rules.specs.Controls.{most_of_tops}
use Rattle.p4_meaning.specs.Parts.{struct_fields}
use Rattle.p4_rules.specs.Mains.{structs_of}

-- ---- headers

-- the bytes of the headers that are fields
abbrev pub fields_bytes : Scope → List (PTy × List ℕ) → ℕ
fields_bytes s [] = 0
fields_bytes s (f ∷ fs) = add_up (header_bits (thing_in s f.0) / 8) (fields_bytes s fs)

-- the bytes of all headers of the struct of headers. s: behind all declarations
abbrev pub header_bytes : Scope → Program → ℕ
header_bytes s p = fields_bytes s (struct_fields p.tops (structs_of s p).headers_type)

-- ---- digests

-- the most digests that a passage of a switch gives
abbrev pub most_of_program : Program → ℕ
most_of_program p = most_of_tops p.main core p.tops

-- ---- registers

-- a sum that stops at the greatest number of 64 bits
abbrev pub add_cells : ℕ → ℕ → ℕ
add_cells a b = min (a + b) 18446744073709551615

abbrev pub local_cells : Local → ℕ
local_cells (local_register p r) = r.count
local_cells _ = 0

abbrev pub locals_cells : List Local → ℕ
locals_cells [] = 0
locals_cells (l ∷ ls) = add_cells (local_cells l) (locals_cells ls)

abbrev pub top_cells : Top → ℕ
top_cells (register p r) = r.count
top_cells (control p c) = locals_cells c.locals
top_cells _ = 0

abbrev pub tops_cells : List Top → ℕ
tops_cells [] = 0
tops_cells (t ∷ ts) = add_cells (top_cells t) (tops_cells ts)

-- the cells of all registers
abbrev pub cells : Program → ℕ
cells p = tops_cells p.tops

-- ---- limits

-- s: behind all declarations
abbrev pub limit_tests : Scope → Program → Tests ProgramRule
limit_tests s p =
    both (test p.at Limit (nat_lt 2304 (header_bytes s p)))
    (both (test p.at Limit (nat_lt 20480 (most_of_program p)))
    (test p.at Limit (nat_lt 4210689 (cells p))))
