-- Which programs have code. Read `Sight` before it, `KnownParsers` of `slot_parser_codes` and `Known` of `slot_control_codes`.
use Rattle.std.specs.Prelude.{Bool, ◌&&◌, is_some, [], nat_eq}
use Rattle.p4_tree.specs.Tree.{Stmts}
use Rattle.p4_meaning.specs.Parts.{Parts, whole}
use Rattle.p4_meaning.specs.DigestBound.{none_told, most_of}
use Rattle.slot_terms.specs.Places.{Places}
use Rattle.slot_places.specs.ProgramPlaces.{can_place}
use Rattle.slot_controls.specs.Callees.{Callees}
use Rattle.slot_control_codes.specs.Known.{known_calls, steps_behind_all}
use Rattle.slot_parser_codes.specs.KnownParsers.{is_known_parser}
use Rattle.slot_programs.specs.Room.{room_of}
use Rattle.slot_programs.specs.Sight.{sight_of, bare_callees, program_callees}

-- the statements of a control have steps, by what its calls stand for
abbrev pub has_control : Callees → Places → Stmts → Bool
has_control k m ss = is_some (steps_behind_all (known_calls k) ss m)

-- they give no digest
abbrev pub is_silent : Stmts → Bool
is_silent ss = nat_eq (most_of none_told none_told ss) 0

-- the controls of a program have code
abbrev pub has_controls : Parts → Places → Bool
has_controls p m =
    (has_control (bare_callees p p.registers) m p.verify && has_control (program_callees p) m (whole p.ingress))
    && (has_control (program_callees p) m (whole p.egress) && (has_control (bare_callees p []) m p.compute && is_silent p.compute))

-- and so has its parser
abbrev pub has_code_at : Parts → Places → Bool
has_code_at p m = is_known_parser m p.states && has_controls p m

-- a program has code: it has places, and by these its parser and its controls have code
abbrev pub has_code : Parts → Bool
has_code p = can_place p (room_of p) && has_code_at p (sight_of p (room_of p))
