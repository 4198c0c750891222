use Rattle.std.proofs.Common.{sym, subst}
use Rattle.std.specs.Option.{option_map}
use Rattle.p4_tree.specs.Tree.{var}
use Rattle.p4_tree.specs.View.{expr_of}
use Rattle.slot_terms.specs.Typed.{typed_of}
use Rattle.slot_terms.specs.Places.{places_of}
use Rattle.slot_statements.specs.Runs.{Does}
use Rattle.slot_statements.proofs.VarLemmas.{new_laid, var_does}
use Rattle.slot_statements.proofs.statements.variable_code.Goals as goal

pub returns-clause-laid : goal.returns-clause-laid
returns-clause-laid c = new_laid (places_of c.args.places.now) (places_of c.variable_slot.new.places) c.args.name.now c.sound_width.result c.in_ok-slot.slot c.requires c.in_ok-slot.ensures.new

pub returns-clause-does : goal.returns-clause-does
returns-clause-does c =
    subst (λ k. Does (places_of c.args.places.now) (places_of c.variable_slot.new.places) k (var 0 c.args.ty.now c.args.name.now (option_map expr_of c.args.start.now))) (sym c.set_code.ensures)
    (var_does (places_of c.args.places.now) (places_of c.variable_slot.new.places) c.args.name.now c.sound_width.result c.in_ok-slot.slot 0 c.args.ty.now (option_map expr_of c.args.start.now) (typed_of c.in_ok-t.t)
    c.requires c.in_ok-slot.ensures.new (rw c.width_of.ensures at c.sound_width.ensures.value) c.in_ok-t.ensures.width c.in_ok-t.ensures.starts)
