use Rattle.std.proofs.Common.{◌≡◌, take, drop}
use Rattle.p4_tree.specs.View.{stmts_of}
use Rattle.slot_terms.specs.Places.{places_of, IsLaid}
use Rattle.slot_statements.specs.Codes.{codes_of}
use Rattle.slot_statements.specs.Runs.{DoAll, Grows}
use Rattle.slot_statements.specs.Known.{places_behind_all}
use Rattle.slot_statements.proofs.statements.+statements.Given as goal

abbrev pub invariant-stmts_code-loop-s : goal.invariant-stmts_code-loop-s
invariant-stmts_code-loop-s l = record {
  laid : IsLaid (places_of l.places);
  grows : Grows (places_of l.fn.places) (places_of l.places);
  known : places_behind_all (stmts_of (drop l.s-index l.list)) (places_of l.places) ≡ places_behind_all (stmts_of l.list) (places_of l.fn.places);
  do_all : DoAll (places_of l.fn.places) (places_of l.places) (codes_of l.codes.items) (stmts_of (take l.s-index l.list));
}
