-- What a program without exits has of the given one. Read `Programs`, `Names` and `Laws` of `exit_programs` before it,
-- `Passages` of `exit_passages`, `Numbers` of `p4_types` and `CanSpell` of `p4_printer`.
use Rattle.std.specs.Prelude.{◌≡◌, ◌≤◌, ◌*◌, ℕ, List, map, true, false}
use Rattle.p4_tree.specs.Tree.{Program}
use Rattle.p4_tree.specs.Height.{height}
use Rattle.p4_meaning.specs.Scope.{is_among}
use Rattle.p4_meaning.specs.Actions.{Param, Action}
use Rattle.p4_meaning.specs.Parts.{parts_of}
use Rattle.p4_meaning.specs.DigestBound.{digest_bound}
use Rattle.p4_rules.specs.Limits.{most_of_program}
use Rattle.p4_rules.specs.ProgramRules.{IsWellTyped}
use Rattle.p4_types.specs.Numbers.{Sort, names}
use Rattle.p4_printer.specs.CanSpell.{CanSpell}
use Rattle.exit_programs.specs.Programs.{program_without}
use Rattle.exit_programs.specs.Names.{is_given, HasGivenNames, HasPlainNames}
use Rattle.exit_programs.specs.Laws.{program_leaves, tops_names, program_size}
use Rattle.exit_passages.specs.Passages.{PassesSame}

-- the name of an action, and its parameters
abbrev pub signature : Action → List ℕ × List Param
signature a = (a.name, a.params)

-- q does what p does, and nothing leaves it
pub record IsLowered (p q : Program) : Type 0 where
  pub is : q ≡ program_without p
  -- no `exit` and no `return` is left; a program without either is given back
  pub none_left : program_leaves q ≡ false
  pub unchanged : program_leaves p ≡ false → q ≡ p
  -- both halves of a passage are the same. No name of a text has a point
  pub passes : HasPlainNames p → PassesSame (parts_of p) (parts_of q)
  -- at most as many digests, by the meaning and by the rules: the second number is that of the `TypedProgram`. Where names
  -- are plain, both are one (`digests_are_counted` of `p4_typing_laws`)
  pub bound : digest_bound (parts_of q) ≡ digest_bound (parts_of p)
  pub most : most_of_program q ≡ most_of_program p
  -- tables and registers stand there, and actions with their names and parameters, by the same numbers
  pub tables : (parts_of q).tables ≡ (parts_of p).tables
  pub registers : (parts_of q).registers ≡ (parts_of p).registers
  pub actions : map signature (parts_of q).actions ≡ map signature (parts_of p).actions
  pub numbers : (s : Sort) → names s q ≡ names s p
  -- new names begin with `hydra_`
  pub names_stand : (x : List ℕ) → is_given x ≡ true → is_among (tops_names q.tops) x ≡ is_among (tops_names p.tops) x
  -- it can be spelled, and names of texts are plain
  pub spelled : CanSpell p → CanSpell q
  pub plain : CanSpell p → HasPlainNames p
  -- at most five times the declarations and statements, and three times the height
  pub size : program_size q.tops ≤ 5 * program_size p.tops
  pub high : height q ≤ 3 * height p

-- so it is of each well-typed program of given names
abbrev pub Lowers : Type 0
Lowers = (p : Program) → IsWellTyped p → HasGivenNames p → IsLowered p (program_without p)
