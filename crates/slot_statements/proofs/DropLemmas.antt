-- mark_to_drop is the assignment of 511 to the port.
use Rattle.std.proofs.Common.{◌≡◌, ℕ, codes, List, [], ◌∷◌, Bool, true, false, if◌then◌else◌, Option, Some, nat_eq, refl, sym, ap, ◌∙◌, subst, arith}
use Rattle.bit_values.specs.Bits.{Word, word}
use Rattle.bit_values.specs.Widths.{sound_width, cast_word}
use Rattle.lex_text.specs.Names.{same_text}
use Rattle.p4_tree.specs.Tree.{Arg, Expr, num}
use Rattle.p4_meaning.specs.Standard.{egress_spec}
use Rattle.p4_meaning.specs.Store.{Store, write}
use Rattle.p4_meaning.specs.Value.{value_of}
use Rattle.p4_meaning.specs.Statements.{Act, Go, drops, done_by, act_of, in_store, assigned}
use Rattle.slot_terms.specs.Terms.{constant}
use Rattle.slot_terms.specs.Places.{Place, Places, place_at, IsLaid, Fills}
use Rattle.slot_statements.specs.Codes.{Code, set, exec}
use Rattle.slot_statements.specs.Runs.{Ends, DoesCallee, DoesDrop}
use Rattle.slot_statements.specs.Known.{has_port, is_drop}
use Rattle.slot_statements.proofs.StatementLemmas.{assign_does}

abbrev dropping : Expr
dropping = num 0 (record { width = 9; value = 511 })

dropping_fills : (m : Places) → Fills m dropping 9 (record { term = constant 511; width = 9 })
dropping_fills m slots valid s shows = record { is = refl; word = record { wide = omega arith; narrow = omega arith; in_range = omega arith } }

dropped : (s : Store) → (s.values egress_spec).width ≡ 9 → assigned s egress_spec (value_of dropping (s.values egress_spec).width s) ≡ write s egress_spec (word 9 511)
dropped s e = ap (λ w. write s egress_spec (cast_word (sound_width w) (value_of dropping w s))) e

pub drop_does : (m : Places) (r : Place) → IsLaid m → place_at m.rows egress_spec ≡ Some r → r.width ≡ 9 → DoesDrop m (set r.slot r.header (constant 511))
drop_does m r laid is nine calls s y follows =
    let width : (y.store.values egress_spec).width ≡ 9 = ap (λ (w : Word). w.width) (follows.shows.values egress_spec r is).is ∙ nine in
    subst (λ z. Ends m m (exec (set r.slot r.header (constant 511)) s) (in_store y z, Go)) (dropped y.store width)
    (assign_does m egress_spec r 0 dropping (record { term = constant 511; width = 9 }) laid is refl (sym (ap sound_width nine)) (subst (λ w. Fills m dropping w (record { term = constant 511; width = 9 })) (sym nine) (dropping_fills m)) calls s y follows)

chosen : (b : Bool) (a : Act) → b ≡ true → (if b then drops else a) ≡ drops
chosen true a h = refl
chosen false a h = absurd (cc h)

pub drop_is : (callee : List (List ℕ)) (args : List Arg) → is_drop callee ≡ true → act_of callee args ≡ drops
drop_is [] args h = absurd (cc h)
drop_is (x ∷ []) args h = chosen (same_text x (codes "mark_to_drop")) _ h
drop_is (x ∷ y ∷ rest) args h = absurd (cc h)

pub callee_does : (m : Places) (c : Code) (callee : List (List ℕ)) → is_drop callee ≡ true → DoesDrop m c → DoesCallee m c callee
callee_does m c callee h does args calls s y follows = subst (λ a. Ends m m (exec c s) (done_by calls a y)) (sym (drop_is callee args h)) (does calls s y follows)

-- the port has a place of its width
pub port_known : (o : Option Place) (r : Place) → o ≡ Some r → r.width ≡ 9 → has_port o ≡ true
port_known o r e nine = ap has_port e ∙ ap (λ w. nat_eq w 9) nine
