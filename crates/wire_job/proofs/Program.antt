-- The wire program breaks no rule, is spelled, leaves room for a monitor, and has no tables.
use Rattle.std.proofs.Common.{◌≡◌, ℕ, ◌≤◌, codes, [], None, refl, sym, inl, subst, arith}
use Rattle.p4_tree.specs.Tree.{Program}
use Rattle.p4_meaning.specs.Standard.{ingress_port, egress_spec}
use Rattle.p4_scopes.specs.Scopes.{declare, core}
use Rattle.p4_rules.specs.Limits.{header_bytes, most_of_program, cells}
use Rattle.p4_rules.specs.ProgramRules.{program_scope, first_fault, IsWellTyped}
use Rattle.p4_statement_rules.specs.declared.rule.ProgramRule.{ProgramRule}
use Rattle.p4_types.specs.Faults.{HasCause}
use Rattle.p4_types.specs.declared.fault.ProgramTypeFault.{ProgramTypeFault}
use Rattle.p4_types.specs.declared.fault.ProgramTypeFault.TheVariants.{Type_}
use Rattle.p4_types.proofs.Checked.{no_fault}
use Rattle.p4_printer.specs.CanSpell.{CanSpell, SomeCan, CanSpellParam, CanSpellState, CanSpellStmts, CanSpellPath}
use Rattle.p4_tables.specs.Programs.{state_before}
use Rattle.faultless_programs.specs.Within.{LeavesRoom}
use Rattle.wire_program.specs.WireProgram.{wire_program, two_params, three_params, parser_params, deparser_params, passing_state, send_by, wire_ingress}
use Rattle.wire_job.specs.Known.{IsWireProgram}

-- ---- rules

no_rule_is_broken : first_fault wire_program ≡ None
unfolding declare core
no_rule_is_broken = refl

is_well_typed : IsWellTyped wire_program
is_well_typed = no_fault wire_program no_rule_is_broken

pub is_not_refused : (p : Program) (f : ProgramTypeFault) (at : ℕ) (r : ProgramRule) → p ≡ wire_program → f ≡ Type_ at r → HasCause p f → ⊥
is_not_refused p f at r same is cause =
    let refused : HasCause wire_program (Type_ at r) = subst (λ x. HasCause wire_program x) is (subst (λ x. HasCause x f) same cause) in
    is_well_typed r at refused.broken

-- ---- room

no_headers : header_bytes (program_scope wire_program) wire_program ≡ 0
unfolding declare core
no_headers = refl

no_digests : most_of_program wire_program ≡ 0
unfolding declare core
no_digests = refl

no_cells : cells wire_program ≡ 0
no_cells = refl

leaves_room : LeavesRoom wire_program
leaves_room =
    record {
      bytes = (let none = no_headers in omega (arith, none));
      digests = (let none = no_digests in omega (arith, none));
      cells = (let none = no_cells in omega (arith, none));
    }

-- ---- tables

no_tables : state_before wire_program ≡ []
unfolding state_before
no_tables = refl

-- ---- spelling

two_can : SomeCan CanSpellParam two_params
two_can = (((refl, refl), (refl, refl)), (((refl, refl), (refl, refl)), tt))

three_can : SomeCan CanSpellParam three_params
three_can = (((refl, refl), (refl, refl)), (((refl, refl), (refl, refl)), (((refl, refl), (refl, refl)), tt)))

parser_can : SomeCan CanSpellParam parser_params
parser_can = (((refl, refl), (refl, refl)), (((refl, refl), (refl, refl)), (((refl, refl), (refl, refl)), (((refl, refl), (refl, refl)), tt))))

deparser_can : SomeCan CanSpellParam deparser_params
deparser_can = (((refl, refl), (refl, refl)), (((refl, refl), (refl, refl)), tt))

state_can : CanSpellState (passing_state (codes "start") (codes "accept"))
state_can = ((refl, refl), tt, (refl, refl))

port_can : CanSpellPath ingress_port
port_can = ((refl, refl), ((refl, refl), tt))

spec_can : CanSpellPath egress_spec
spec_can = ((refl, refl), ((refl, refl), tt))

send_can : (n : ℕ) → n ≤ 2 → CanSpellStmts (send_by n)
send_can n low = (inl (spec_can, (omega arith, omega (arith, low))), tt)

ingress_can : CanSpellStmts wire_ingress
ingress_can = (inl ((port_can, (omega arith, omega arith)), send_can 2 (omega arith), send_can 1 (omega arith)), tt)

is_spelled : CanSpell wire_program
is_spelled =
    record {
      tops = (
        ((refl, refl), tt),
        (
          ((refl, refl), tt),
          (
            ((refl, refl), parser_can, (state_can, tt)),
            (
              ((refl, refl), two_can, tt, tt),
              (
                ((refl, refl), three_can, tt, ingress_can),
                (
                  ((refl, refl), three_can, tt, tt),
                  (
                    ((refl, refl), two_can, tt, tt),
                    (((refl, refl), deparser_can, tt, tt), tt),
                  ),
                ),
              ),
            ),
          ),
        ),
      );
      main = ((refl, refl), ((refl, refl), ((refl, refl), ((refl, refl), ((refl, refl), ((refl, refl), tt))))));
    }

-- ---- all of these

pub is_wire : (p : Program) → p ≡ wire_program → IsWireProgram p
is_wire p same = subst IsWireProgram (sym same) (record { same = refl; typed = is_well_typed; spelled = is_spelled; leaves = leaves_room; tables = no_tables })
