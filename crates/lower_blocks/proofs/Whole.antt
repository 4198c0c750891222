-- The parts of a whole property, where they are the same or stand one behind the other.
use Rattle.std.proofs.Common.{◌≡◌, ℕ, ◌+◌, List, [], ◌∷◌, ◌++◌, map, Option, Some, append_assoc, refl, sym, ap, ap₂, ◌∙◌}
use Rattle.indus_tree.specs.Tree as indus
use Rattle.indus_tree.specs.Tree.{Decl}
use Rattle.p4_tree.specs.Tree.{Stmts, Local, Top}
use Rattle.monitor_laws.specs.Monitor.{flag_locals}
use Rattle.control_tables.specs.declared.tables.ControlMap.{ControlMap}
use Rattle.lowered_code.specs.Environment.{Environment}
use Rattle.lowered_code.specs.Statements.{read_vars, read_lookups, vars_in, lookups_in, block_end, block_code, block_numbers}
use Rattle.lower_blocks.specs.Results.{rows_of}
use Rattle.lower_blocks.specs.Trees.{Lowered, var_tree, locals_for}

-- what is lowered is told by its five parts
pub lowered_is : (a b : Lowered) → a.tops ≡ b.tops → a.entry_locals ≡ b.entry_locals → a.exit_locals ≡ b.exit_locals → a.entry ≡ b.entry → a.exit ≡ b.exit → a ≡ b
lowered_is a b tops entry_locals exit_locals entry exit = λ j. record { tops = tops j; entry_locals = entry_locals j; exit_locals = exit_locals j; entry = entry j; exit = exit j }

module _ (d e : List Decl) (b c : indus.Stmts) (m n : ℕ) (ds : d ≡ e) (bs : b ≡ c) (ns : m ≡ n) where
  pub end_same : block_end d b m ≡ block_end e c n
  end_same = λ j. block_end (ds j) (bs j) (ns j)

  pub numbers_same : block_numbers d b m ≡ block_numbers e c n
  numbers_same = λ j. block_numbers (ds j) (bs j) (ns j)

  pub code_same : (a : Environment) → block_code a d b m ≡ block_code a e c n
  code_same a = λ j. block_code a (ds j) (bs j) (ns j)

vars_both : (rs qs : List (ℕ × Option Decl)) → vars_in (rs ++ qs) ≡ vars_in rs ++ vars_in qs
vars_both [] qs = refl
vars_both (r ∷ rs) qs = ap (λ vs. read_vars r.0 r.1 ++ vs) (vars_both rs qs) ∙ sym (append_assoc (read_vars r.0 r.1) (vars_in rs) (vars_in qs))

pub lookups_both : (rs qs : List (ℕ × Option Decl)) → lookups_in (rs ++ qs) ≡ lookups_in rs ++ lookups_in qs
lookups_both [] qs = refl
lookups_both (r ∷ rs) qs = ap (λ ls. read_lookups r.0 r.1 ++ ls) (lookups_both rs qs) ∙ sym (append_assoc (read_lookups r.0 r.1) (lookups_in rs) (lookups_in qs))

-- the locals of the exit part: the flags, and those of two blocks
pub exit_joined : (rs qs : List (ℕ × Option Decl))
    → map var_tree flag_locals ++ locals_for (vars_in (rs ++ qs)) (lookups_in (rs ++ qs)) ≡ locals_for (flag_locals ++ (vars_in rs ++ vars_in qs)) (lookups_in rs ++ lookups_in qs)
exit_joined rs qs = ap₂ (λ vs ls. map var_tree flag_locals ++ locals_for vs ls) (vars_both rs qs) (lookups_both rs qs)

pub no_rows : (m : ControlMap) → m.tables.items ≡ [] → rows_of m ≡ []
no_rows m e = λ j. map (λ t. (t.0, (t.1, Some t.2))) (e j)
